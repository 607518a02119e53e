use Rattle.std.proofs.Common.{◌≡◌, drop}
use Rattle.std.specs.Prelude.{map}
use Rattle.idl_spec.specs.Harts.{field_number}
use Rattle.idl_forms.specs.States.{field_of}
use Rattle.udb_csr.proofs.reading.field_number.Given as goal

abbrev pub invariant-loop-value : goal.invariant-loop-value
invariant-loop-value l = field_number (map field_of (drop l.value-index l.fields)) l.csr l.field ≡ field_number (map field_of l.fields) l.csr l.field
