use Rattle.std.proofs.Common.{◌≡◌, ◌+◌, ◌≤◌, drop}
use Rattle.std.specs.Prelude.{min, sum_by}
use Rattle.idl_spec.specs.Fields.{part_width}
use Rattle.idl_lawful.proofs.variables.bits_of_parts.Given as goal

abbrev pub invariant-loop-part : goal.invariant-loop-part
invariant-loop-part l = (min (l.sum + sum_by part_width (drop l.part-index l.parts)) 1000 ≡ min (sum_by part_width l.parts) 1000) × (l.sum ≤ 1000)
