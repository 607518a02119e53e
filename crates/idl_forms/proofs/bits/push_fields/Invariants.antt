use Rattle.std.proofs.Common.{◌≡◌, ◌++◌, take}
use Rattle.std.specs.Prelude.{map}
use Rattle.idl_spec.specs.Fields.{field_bits}
use Rattle.idl_forms.proofs.bits.push_fields.Given as goal

abbrev pub invariant-loop-field : goal.invariant-loop-field
invariant-loop-field l = l.scope ≡ l.fn.scope ++ map (field_bits l.csr.name) (take l.field-index l.csr.fields)
