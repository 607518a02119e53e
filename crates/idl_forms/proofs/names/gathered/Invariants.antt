use Rattle.std.proofs.Common.{◌≡◌, ◌+◌, ◌*◌, ◌^◌, drop}
use Rattle.std.specs.Prelude.{sum_by}
use Rattle.idl_spec.specs.Fields.{gathered, part_width}
use Rattle.idl_forms.proofs.names.gathered.Given as goal

abbrev pub invariant-loop-part : goal.invariant-loop-part
invariant-loop-part l = l.pattern * 2 ^ sum_by part_width (drop l.part-index l.location) + gathered l.word (drop l.part-index l.location) ≡ gathered l.word l.location
