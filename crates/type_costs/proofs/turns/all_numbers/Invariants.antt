use Rattle.std.proofs.Common.{◌≡◌, take, map}
use Rattle.udb_base.specs.declared.conditions.Value.TheVariants as given
use Rattle.type_costs.proofs.turns.all_numbers.Given as goal

abbrev pub invariant-loop-number : goal.invariant-loop-number
invariant-loop-number l = l.values ≡ map given.Number (take l.number-index l.numbers)
