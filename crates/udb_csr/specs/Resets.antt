-- The numbers of fields at reset.
use Rattle.std.specs.Prelude.{◌≢◌, ℕ, List, [], ◌∷◌, Option, None, Some, All, option_and_then, if◌then◌else◌}
use Rattle.udb_base.specs.declared.names.Name.{Name}
use Rattle.udb_base.specs.declared.spaces.Space.{Space}
use Rattle.udb_base.specs.declared.spaces.Full.{Full}
use Rattle.udb_spec.specs.Conditions.{holds}
use Rattle.idl_tree.specs.declared.programs.CsrBody.{CsrBody}
use Rattle.idl_tree.specs.declared.programs.FieldBodies.{FieldBodies}
use Rattle.idl_tree.specs.declared.programs.Program.{Program}
use Rattle.idl_spec.specs.Harts.{FieldValue}
use Rattle.idl_spec.specs.Fields.{placed, layout}
use Rattle.idl_spec.specs.Programs.{reset_number}

-- each present field has a number at reset
abbrev pub HaveNumbers : Space → Full → Program → Type 0
HaveNumbers space full program =
    All (λ c. All (λ p. reset_number space full program p ≢ None) (layout space full c)) program.csrs

-- a field with its number, where it has one
abbrev pub one_value : Name → Name → Option ℕ → List FieldValue
one_value csr field None = []
one_value csr field (Some number) = record { csr = csr; field = field; number = number } ∷ []

-- the number of a field at reset, where it and its CSR are present
abbrev pub number_in : Space → Full → Program → CsrBody → FieldBodies → Option ℕ
number_in space full program csr f =
    if holds space full csr.present
    then option_and_then (reset_number space full program) (placed space full f)
    else None

abbrev pub values_at : Space → Full → Program → CsrBody → FieldBodies → List FieldValue
values_at space full program csr f = one_value csr.name f.name (number_in space full program csr f)
