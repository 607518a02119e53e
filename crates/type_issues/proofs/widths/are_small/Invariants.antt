use Rattle.std.proofs.Common.{◌≡◌, drop}
use Rattle.std.specs.Prelude.{nat_le}
use Rattle.std.specs.List.{list_all}
use Rattle.type_issues.proofs.widths.are_small.Given as goal

abbrev pub invariant-loop-number : goal.invariant-loop-number
invariant-loop-number l = list_all (λ n. nat_le n 65535) (drop l.number-index l.numbers) ≡ list_all (λ n. nat_le n 65535) l.numbers
