-- The program that a manual shows: its functions in their order, and the CSRs of the entries with
-- the types, reset values and bodies that it shows of their fields.
use Rattle.std.specs.Prelude.{ℕ, List, [], map, flat_map, find, Option, None, Some, if◌then◌else◌}
use Rattle.udb_spec.specs.Conditions.{same_bytes}
use Rattle.idl_tree.specs.declared.programs.FieldType.TheVariants.{RO}
use Rattle.idl_tree.specs.declared.programs.FieldKind.TheVariants as kind
use Rattle.idl_tree.specs.declared.programs.ResetValue.TheVariants as reset
use Rattle.idl_tree.specs.declared.programs.FieldBodies.{FieldBodies}
use Rattle.idl_tree.specs.declared.programs.CsrBody.{CsrBody}
use Rattle.idl_tree.specs.declared.programs.Function.{Function}
use Rattle.idl_tree.specs.declared.programs.Program.{Program}
use Rattle.manual_spec.specs.declared.manuals.ShownField.{ShownField}
use Rattle.manual_spec.specs.declared.manuals.Shown.{Shown}
use Rattle.manual_spec.specs.declared.manuals.Shown.TheVariants as s
use Rattle.manual_spec.specs.declared.manuals.Part.{Part}
use Rattle.manual_spec.specs.Entries.{Entries, program_of}

abbrev pub functions_in : Shown → List Function
functions_in (s.Functions functions) = functions
functions_in _ = []

-- the functions that are shown
abbrev pub shown_functions : List Part → List Function
shown_functions parts = flat_map (λ p. functions_in p.shown) parts

abbrev pub fields_in : Shown → List ShownField
fields_in (s.Csr register fields) = fields
fields_in _ = []

-- the fields that are shown of the CSR of a name
abbrev pub shown_fields : List Part → List ℕ → List ShownField
shown_fields parts csr =
    flat_map (λ p. if same_bytes p.name csr then fields_in p.shown else []) parts

-- a field as it is shown; one that isn't is read alone, is 0 at reset and has no body
abbrev pub field_as : Option ShownField → FieldBodies → FieldBodies
field_as None f = record f { kind = kind.Plain RO; reset = reset.Plain 0; write = None }
field_as (Some shown) f = record f { kind = shown.kind; reset = shown.reset; write = shown.write }

abbrev pub csr_shown : List Part → CsrBody → CsrBody
csr_shown parts csr =
    record csr { fields = map (λ f. field_as (find (λ x. same_bytes x.name f.name) (shown_fields parts csr.name)) f) csr.fields }

abbrev pub shown_program : Entries → List Part → Program
shown_program entries parts =
    record { functions = shown_functions parts; csrs = map (csr_shown parts) (program_of entries).csrs }
