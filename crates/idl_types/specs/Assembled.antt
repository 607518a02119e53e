-- When all bodies of a program are typed, each where `program_fits` has it.
use Rattle.std.specs.Prelude.{ℕ, suc, List, [], ◌∷◌, ◌++◌, map, Option, None, Some}
use Rattle.udb_base.specs.declared.conditions.Cond.{Cond}
use Rattle.udb_base.specs.declared.conditions.Cond.TheVariants as c
use Rattle.udb_base.specs.declared.spaces.Space.{Space}
use Rattle.idl_tree.specs.declared.programs.Body.{Body}
use Rattle.idl_tree.specs.declared.programs.Function.{Function}
use Rattle.idl_tree.specs.declared.programs.FieldKind.{FieldKind}
use Rattle.idl_tree.specs.declared.programs.FieldKind.TheVariants as kind
use Rattle.idl_tree.specs.declared.programs.ResetValue.{ResetValue}
use Rattle.idl_tree.specs.declared.programs.ResetValue.TheVariants as reset
use Rattle.idl_tree.specs.declared.programs.FieldBodies.{FieldBodies}
use Rattle.idl_tree.specs.declared.programs.CsrBody.{CsrBody}
use Rattle.idl_tree.specs.declared.programs.Program.{Program}
use Rattle.idl_spec.specs.declared.scopes.BodyScope.TheVariants as scope
use Rattle.idl_spec.specs.Costs.{field_bodies}
use Rattle.idl_spec.specs.Faults.{HasNoFault}
use Rattle.idl_spec.specs.ProgramFits.{field_presence}

-- the bodies of the functions, then of each field its type, its reset value and its `sw_write`
abbrev pub program_bodies : Program → List Body
program_bodies program = map (λ f. f.body) program.functions ++ field_bodies program

module _ (space : Space) (program : Program) where
  abbrev pub AreFunctionsTyped : ℕ → List Function → Type 0
  AreFunctionsTyped place [] = Unit {0}
  AreFunctionsTyped place (f ∷ fs) =
      HasNoFault space program c.Always (scope.Function place) f.body × AreFunctionsTyped (suc place) fs

  abbrev pub IsKindTyped : ℕ → ℕ → Cond → FieldKind → Type 0
  IsKindTyped csr field presence (kind.Plain type) = Unit {0}
  IsKindTyped csr field presence (kind.Computed body) =
      HasNoFault space program presence (scope.FieldType csr field) body

  abbrev pub IsResetTyped : ℕ → ℕ → Cond → ResetValue → Type 0
  IsResetTyped csr field presence (reset.Plain n) = Unit {0}
  IsResetTyped csr field presence (reset.Computed body) =
      HasNoFault space program presence (scope.FieldReset csr field) body

  abbrev pub IsWriteTyped : ℕ → ℕ → Cond → Option Body → Type 0
  IsWriteTyped csr field presence None = Unit {0}
  IsWriteTyped csr field presence (Some body) =
      HasNoFault space program presence (scope.FieldWrite csr field) body

  pub record IsFieldTyped (csr field : ℕ) (presence : Cond) (f : FieldBodies) : Type 0 where
    pub kind : IsKindTyped csr field presence f.kind
    pub reset : IsResetTyped csr field presence f.reset
    pub write : IsWriteTyped csr field presence f.write

  abbrev pub AreFieldsTyped : ℕ → CsrBody → ℕ → List FieldBodies → Type 0
  AreFieldsTyped csr one field [] = Unit {0}
  AreFieldsTyped csr one field (f ∷ fs) =
      IsFieldTyped csr field (field_presence space one f) f × AreFieldsTyped csr one (suc field) fs

  abbrev pub AreCsrsTyped : ℕ → List CsrBody → Type 0
  AreCsrsTyped csr [] = Unit {0}
  AreCsrsTyped csr (one ∷ more) =
      AreFieldsTyped csr one 0 one.fields × AreCsrsTyped (suc csr) more

  -- no body of the program has a fault
  pub record IsTypedProgram : Type 0 where
    pub functions : AreFunctionsTyped 0 program.functions
    pub csrs : AreCsrsTyped 0 program.csrs
