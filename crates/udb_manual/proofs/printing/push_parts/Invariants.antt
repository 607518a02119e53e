use Rattle.std.proofs.Common.{◌≡◌, ◌++◌, take}
use Rattle.manual_spec.specs.Text.{parts_lines}
use Rattle.udb_manual.proofs.printing.push_parts.Given as goal

abbrev pub invariant-loop-part : goal.invariant-loop-part
invariant-loop-part l = l.out ≡ l.fn.out ++ parts_lines l.space (take l.part-index l.parts)
