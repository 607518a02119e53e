use Rattle.std.proofs.Common.{◌≡◌, drop}
use Rattle.std.specs.Prelude.{map}
use Rattle.std.specs.List.{list_any}
use Rattle.idl_spec.specs.Deeds.{all_of, expr_deeds}
use Rattle.idl_reach.specs.Asked.{passes}
use Rattle.idl_reach.proofs.deeds.+expressions.Given as goal

abbrev pub invariant-any_in_expressions-loop-one : goal.invariant-any_in_expressions-loop-one
invariant-any_in_expressions-loop-one l = list_any (passes l.asked) (all_of (map expr_deeds (drop l.one-index l.all))) ≡ list_any (passes l.asked) (all_of (map expr_deeds l.all))
