-- When a whole program fits a full configuration: each function wherever it is called, each body of
-- a field where the field is present.
use Rattle.std.specs.Prelude.{◌&&◌, Bool, true, ℕ, suc, List, [], ◌∷◌, Option, None, Some, is_some, if◌then◌else◌, codes}
use Rattle.udb_base.specs.declared.conditions.Cond.{Cond}
use Rattle.udb_base.specs.declared.conditions.Cond.TheVariants as c
use Rattle.udb_base.specs.declared.conditions.Value.TheVariants as given
use Rattle.udb_base.specs.declared.conditions.Test.TheVariants as test
use Rattle.udb_base.specs.declared.spaces.Space.{Space}
use Rattle.udb_base.specs.declared.spaces.Full.{Full}
use Rattle.idl_tree.specs.declared.programs.Body.{Body}
use Rattle.idl_tree.specs.declared.programs.Function.{Function}
use Rattle.idl_tree.specs.declared.programs.FieldPlaces.{FieldPlaces}
use Rattle.idl_tree.specs.declared.programs.FieldPlaces.TheVariants as places
use Rattle.idl_tree.specs.declared.programs.FieldKind.{FieldKind}
use Rattle.idl_tree.specs.declared.programs.FieldKind.TheVariants as kind
use Rattle.idl_tree.specs.declared.programs.ResetValue.{ResetValue}
use Rattle.idl_tree.specs.declared.programs.ResetValue.TheVariants as reset
use Rattle.idl_tree.specs.declared.programs.FieldBodies.{FieldBodies}
use Rattle.idl_tree.specs.declared.programs.CsrBody.{CsrBody}
use Rattle.idl_tree.specs.declared.programs.Program.{Program}
use Rattle.idl_spec.specs.declared.scopes.BodyScope.TheVariants as scope
use Rattle.idl_spec.specs.Shapes.{parameter_named}
use Rattle.idl_spec.specs.Checks.{fits}

-- where MXLEN has the value; without the parameter it is 32
abbrev pub mxlen_is : Space → ℕ → Cond → Cond
mxlen_is space n otherwise =
    if is_some (parameter_named space.params (codes "MXLEN"))
    then c.Param (codes "MXLEN") test.Equal (given.Number n)
    else otherwise

-- where a field has a place
abbrev pub has_place : Space → FieldPlaces → Cond
has_place space (places.All part) = c.Always
has_place space (places.ByBase (Some p) (Some q)) = c.Always
has_place space (places.ByBase (Some p) None) = mxlen_is space 32 c.Always
has_place space (places.ByBase None (Some q)) = mxlen_is space 64 c.Never
has_place space (places.ByBase None None) = c.Never

-- where a field is present
abbrev pub field_presence : Space → CsrBody → FieldBodies → Cond
field_presence space csr f = c.All (csr.present ∷ f.present ∷ has_place space f.places ∷ [])

module _ (space : Space) (full : Full) (program : Program) where
  abbrev pub functions_fit : ℕ → List Function → Bool
  functions_fit place [] = true
  functions_fit place (f ∷ fs) =
      fits space full program c.Always (scope.Function place) f.body && functions_fit (suc place) fs

  abbrev pub kind_fits : ℕ → ℕ → Cond → FieldKind → Bool
  kind_fits csr field presence (kind.Plain type) = true
  kind_fits csr field presence (kind.Computed body) =
      fits space full program presence (scope.FieldType csr field) body

  abbrev pub reset_fits : ℕ → ℕ → Cond → ResetValue → Bool
  reset_fits csr field presence (reset.Plain n) = true
  reset_fits csr field presence (reset.Computed body) =
      fits space full program presence (scope.FieldReset csr field) body

  abbrev pub write_fits : ℕ → ℕ → Cond → Option Body → Bool
  write_fits csr field presence None = true
  write_fits csr field presence (Some body) =
      fits space full program presence (scope.FieldWrite csr field) body

  abbrev pub field_fits : ℕ → ℕ → Cond → FieldBodies → Bool
  field_fits csr field presence f =
      kind_fits csr field presence f.kind
      && (reset_fits csr field presence f.reset && write_fits csr field presence f.write)

  abbrev pub fields_fit : ℕ → CsrBody → ℕ → List FieldBodies → Bool
  fields_fit csr one field [] = true
  fields_fit csr one field (f ∷ fs) =
      field_fits csr field (field_presence space one f) f && fields_fit csr one (suc field) fs

  abbrev pub csrs_fit : ℕ → List CsrBody → Bool
  csrs_fit csr [] = true
  csrs_fit csr (one ∷ more) = fields_fit csr one 0 one.fields && csrs_fit (suc csr) more

  unfoldable pub program_fits : Bool
  program_fits = functions_fit 0 program.functions && csrs_fit 0 program.csrs
