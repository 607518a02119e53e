use Rattle.std.proofs.Common.{◌≡◌, drop, map}
use Rattle.idl_forms.specs.States.{field_of}
use Rattle.idl_lawful.specs.Tests.{behind_fields}
use Rattle.idl_lawful.proofs.states.behind_csr.Given as goal

abbrev pub invariant-loop-field : goal.invariant-loop-field
invariant-loop-field l = behind_fields l.space l.full l.csr (drop l.field-index l.csr.fields) (map field_of l.left) ≡ behind_fields l.space l.full l.csr l.csr.fields (map field_of l.values)
