use Rattle.std.proofs.Common.{◌≡◌, drop}
use Rattle.idl_lawful.specs.Readings.{are_small}
use Rattle.idl_lawful.proofs.literals.+statements.Given as goal

abbrev pub invariant-are_small_statements-loop-one : goal.invariant-are_small_statements-loop-one
invariant-are_small_statements-loop-one l = are_small (drop l.one-index l.all) ≡ are_small l.all
