use Rattle.std.proofs.Common.{◌≡◌, ◌+◌, ◌≤◌, length, drop}
use Rattle.udb_base.specs.Lines.{text_of_lines}
use Rattle.first_bundle.proofs.checking.fits.Given as goal

abbrev pub invariant-loop-line : goal.invariant-loop-line
invariant-loop-line l = (length (text_of_lines (drop l.line-index l.lines)) + 65536 ≡ length (text_of_lines l.lines) + l.left) × (l.left ≤ 65536)
