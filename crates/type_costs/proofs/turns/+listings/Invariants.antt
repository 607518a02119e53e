use Rattle.std.proofs.Common.{◌≡◌, ◌+◌, ◌*◌, length, drop}
use Rattle.type_costs.specs.Turns.{greatest_over}
use Rattle.type_costs.proofs.turns.+listings.Given as goal

abbrev pub decreases-greatest_from : goal.decreases-greatest_from
decreases-greatest_from l = 3 * length l.params.now

abbrev pub decreases-greatest_over : goal.decreases-greatest_over
decreases-greatest_over l = 3 * length l.more.now + 2

abbrev pub decreases-greatest_with : goal.decreases-greatest_with
decreases-greatest_with l = 3 * length l.more.now + 1

abbrev pub invariant-greatest_over-loop-value : goal.invariant-greatest_over-loop-value
invariant-greatest_over-loop-value l =
    (l.full ≡ l.initial.full)
    × (greatest_over l.bounds l.more l.initial.full (drop l.value-index l.values) l.greatest ≡ greatest_over l.bounds l.more l.initial.full l.values l.initial.greatest)
