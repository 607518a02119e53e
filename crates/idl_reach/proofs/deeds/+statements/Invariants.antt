use Rattle.std.proofs.Common.{◌≡◌, drop}
use Rattle.std.specs.List.{list_any}
use Rattle.idl_spec.specs.Deeds.{deeds_of}
use Rattle.idl_reach.specs.Asked.{passes}
use Rattle.idl_reach.proofs.deeds.+statements.Given as goal

abbrev pub invariant-any_in_statements-loop-one : goal.invariant-any_in_statements-loop-one
invariant-any_in_statements-loop-one l = list_any (passes l.asked) (deeds_of (drop l.one-index l.all)) ≡ list_any (passes l.asked) (deeds_of l.all)
