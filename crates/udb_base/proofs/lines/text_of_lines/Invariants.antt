use Rattle.std.proofs.Common.{◌≡◌, take}
use Rattle.udb_base.specs.Lines.{text_of_lines}
use Rattle.udb_base.proofs.lines.text_of_lines.Given as goal

abbrev pub invariant-loop-line : goal.invariant-loop-line
invariant-loop-line l = l.text ≡ text_of_lines (take l.line-index l.lines)
