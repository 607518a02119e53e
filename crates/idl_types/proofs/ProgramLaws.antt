-- A program whose bodies are typed fits every valid full configuration.
use Rattle.std.proofs.Common.{◌≡◌, ℕ, suc, true, List, [], ◌∷◌, Option, None, Some, refl}
use Rattle.std.proofs.lemmas.Bool.{and_from}
use Rattle.udb_base.specs.declared.conditions.Cond.{Cond}
use Rattle.udb_base.specs.declared.conditions.Cond.TheVariants as c
use Rattle.udb_base.specs.declared.spaces.Space.{Space}
use Rattle.udb_base.specs.declared.spaces.Full.{Full}
use Rattle.udb_spec.specs.Spaces.{Valid}
use Rattle.idl_tree.specs.declared.programs.Body.{Body}
use Rattle.idl_tree.specs.declared.programs.Function.{Function}
use Rattle.idl_tree.specs.declared.programs.FieldKind.{FieldKind}
use Rattle.idl_tree.specs.declared.programs.FieldKind.TheVariants as kind
use Rattle.idl_tree.specs.declared.programs.ResetValue.{ResetValue}
use Rattle.idl_tree.specs.declared.programs.ResetValue.TheVariants as reset
use Rattle.idl_tree.specs.declared.programs.FieldBodies.{FieldBodies}
use Rattle.idl_tree.specs.declared.programs.CsrBody.{CsrBody}
use Rattle.idl_tree.specs.declared.programs.Program.{Program}
use Rattle.idl_spec.specs.declared.scopes.BodyScope.TheVariants as scope
use Rattle.idl_spec.specs.ProgramFits.{field_presence, functions_fit, kind_fits, reset_fits, write_fits, field_fits, fields_fit, csrs_fit, program_fits}
use Rattle.idl_types.specs.Assembled.{AreFunctionsTyped, IsKindTyped, IsResetTyped, IsWriteTyped, IsFieldTyped, AreFieldsTyped, AreCsrsTyped, IsTypedProgram}
use Rattle.idl_types.proofs.FitLaws.{fits-all}

module _ (space : Space) (full : Full) (valid : Valid space full) (program : Program) where
  functions-fit : (place : ℕ) (fs : List Function) → AreFunctionsTyped space program place fs → functions_fit space full program place fs ≡ true
  functions-fit place [] h = refl
  functions-fit place (f ∷ fs) h =
      and_from _ _ (fits-all space program c.Always (scope.Function place) f.body h.0 full valid) (functions-fit (suc place) fs h.1)

  kind-fits : (csr field : ℕ) (presence : Cond) (k : FieldKind) → IsKindTyped space program csr field presence k → kind_fits space full program csr field presence k ≡ true
  kind-fits csr field presence (kind.Plain type) h = refl
  kind-fits csr field presence (kind.Computed body) h =
      fits-all space program presence (scope.FieldType csr field) body h full valid

  reset-fits : (csr field : ℕ) (presence : Cond) (r : ResetValue) → IsResetTyped space program csr field presence r → reset_fits space full program csr field presence r ≡ true
  reset-fits csr field presence (reset.Plain n) h = refl
  reset-fits csr field presence (reset.Computed body) h =
      fits-all space program presence (scope.FieldReset csr field) body h full valid

  write-fits : (csr field : ℕ) (presence : Cond) (o : Option Body) → IsWriteTyped space program csr field presence o → write_fits space full program csr field presence o ≡ true
  write-fits csr field presence None h = refl
  write-fits csr field presence (Some body) h =
      fits-all space program presence (scope.FieldWrite csr field) body h full valid

  field-fits : (csr field : ℕ) (presence : Cond) (f : FieldBodies) → IsFieldTyped space program csr field presence f → field_fits space full program csr field presence f ≡ true
  field-fits csr field presence f h =
      and_from _ _ (kind-fits csr field presence f.kind h.kind)
      (and_from _ _ (reset-fits csr field presence f.reset h.reset) (write-fits csr field presence f.write h.write))

  fields-fit : (csr : ℕ) (one : CsrBody) (field : ℕ) (fs : List FieldBodies) → AreFieldsTyped space program csr one field fs → fields_fit space full program csr one field fs ≡ true
  fields-fit csr one field [] h = refl
  fields-fit csr one field (f ∷ fs) h =
      and_from _ _ (field-fits csr field (field_presence space one f) f h.0) (fields-fit csr one (suc field) fs h.1)

  csrs-fit : (csr : ℕ) (all : List CsrBody) → AreCsrsTyped space program csr all → csrs_fit space full program csr all ≡ true
  csrs-fit csr [] h = refl
  csrs-fit csr (one ∷ more) h =
      and_from _ _ (fields-fit csr one 0 one.fields h.0) (csrs-fit (suc csr) more h.1)

  pub typed-fits : IsTypedProgram space program → program_fits space full program ≡ true
  unfolding program_fits
  typed-fits h = and_from _ _ (functions-fit 0 program.functions h.functions) (csrs-fit 0 program.csrs h.csrs)
