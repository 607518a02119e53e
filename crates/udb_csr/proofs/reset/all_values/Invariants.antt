use Rattle.std.proofs.Common.{◌≡◌, take}
use Rattle.std.specs.Prelude.{filter_map, flat_map, map}
use Rattle.idl_spec.specs.Fields.{layout}
use Rattle.idl_spec.specs.Programs.{reset_field}
use Rattle.idl_forms.specs.States.{field_of}
use Rattle.udb_csr.proofs.reset.all_values.Given as goal

abbrev pub invariant-loop-place : goal.invariant-loop-place
invariant-loop-place l =
    map field_of l.values ≡ flat_map (λ c. filter_map (reset_field l.evaluator.space l.full l.evaluator.program c.name) (layout l.evaluator.space l.full c)) (take l.place l.csrs)
