use Rattle.std.proofs.Common.{◌+◌, ◌*◌, take}
use Rattle.type_issues.specs.Issues.{demand_of}
use Rattle.type_demands.specs.Cases.{numbers_of, HoldsAny}
use Rattle.type_demands.proofs.cases.+breaches.Given as goal

abbrev pub decreases-cases : goal.decreases-cases
decreases-cases l = 3 * l.left

abbrev pub decreases-number_cases : goal.decreases-number_cases
decreases-number_cases l = 3 * l.place + 2

abbrev pub decreases-listed_cases : goal.decreases-listed_cases
decreases-listed_cases l = 3 * l.place + 1

abbrev pub invariant-listed_cases-loop-number : goal.invariant-listed_cases-loop-number
invariant-listed_cases-loop-number l =
    HoldsAny l.asked.space.now l.asked.scope.now (demand_of l.asked.demand.now) (l.place + 1) (numbers_of l.tried) l.param.name (take l.number-index l.listed) l.parts
