-- Names that a program lacks.
use Rattle.std.specs.Prelude.{Option, None, Some, is_some, if◌then◌else◌}
use Rattle.udb_base.specs.declared.names.Name.{Name}
use Rattle.idl_spec.specs.Fields.{csr_named, field_named}
use Rattle.idl_spec.specs.Demands.{View}

-- the CSR that a program lacks, or the field that the CSR lacks
abbrev pub missing : View → Name → Name → Option Name
missing view csr field = elim (csr_named view.program.csrs csr) [
  | None ↦ Some csr
  | Some one ↦ if is_some (field_named one.fields field) then None else Some field
]
