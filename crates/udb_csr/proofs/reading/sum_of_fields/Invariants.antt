use Rattle.std.proofs.Common.{◌≡◌, ◌%◌, ◌^◌, take}
use Rattle.std.specs.Prelude.{filter_map, sum_by}
use Rattle.idl_spec.specs.Fields.{placed}
use Rattle.idl_forms.specs.States.{state_of}
use Rattle.idl_forms.specs.FieldSums.{number_at}
use Rattle.udb_csr.proofs.reading.sum_of_fields.Given as goal

abbrev pub invariant-loop-field : goal.invariant-loop-field
invariant-loop-field l = l.sum ≡ sum_by (number_at l.csr.name (state_of l.state)) (filter_map (placed l.space l.full) (take l.field-index l.csr.fields)) % 2 ^ 64
