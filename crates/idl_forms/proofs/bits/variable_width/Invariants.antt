use Rattle.std.proofs.Common.{◌≡◌, ◌+◌, take}
use Rattle.std.specs.Prelude.{sum_by}
use Rattle.idl_spec.specs.Fields.{part_width}
use Rattle.idl_forms.proofs.bits.variable_width.Given as goal

abbrev pub invariant-loop-part : goal.invariant-loop-part
invariant-loop-part l = l.width ≡ sum_by part_width (take l.part-index l.variable.location) + l.variable.shift
