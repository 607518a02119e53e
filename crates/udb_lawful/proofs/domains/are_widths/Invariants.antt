use Rattle.std.proofs.Common.{◌≡◌, drop}
use Rattle.std.specs.List.{list_all}
use Rattle.udb_lawful.specs.Tests.{is_width}
use Rattle.udb_lawful.proofs.domains.are_widths.Given as goal

abbrev pub invariant-loop-number : goal.invariant-loop-number
invariant-loop-number l = list_all is_width (drop l.number-index l.numbers) ≡ list_all is_width l.numbers
