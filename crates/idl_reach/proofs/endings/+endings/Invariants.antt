use Rattle.std.proofs.Common.{◌≡◌, drop}
use Rattle.std.specs.Prelude.{map}
use Rattle.idl_spec.specs.Deeds.{stmt_ends, ends_in_return}
use Rattle.idl_reach.proofs.LastOne.{last_or}
use Rattle.idl_reach.proofs.endings.+endings.Given as goal

abbrev pub invariant-ends_in_return-loop-s : goal.invariant-ends_in_return-loop-s
invariant-ends_in_return-loop-s l = last_or l.last (map stmt_ends (drop l.s-index l.statements)) ≡ ends_in_return l.statements
