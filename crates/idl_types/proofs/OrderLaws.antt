-- What each pass proves of a body whose checks were read, after the passes before it.
use Rattle.std.proofs.Common.{◌≡◌, true, false, List, subst}
use Rattle.udb_base.specs.declared.spaces.Space.{Space}
use Rattle.idl_tree.specs.declared.programs.Variable.{Variable}
use Rattle.idl_tree.specs.declared.programs.Body.{Body}
use Rattle.idl_tree.specs.declared.programs.Program.{Program}
use Rattle.idl_spec.specs.declared.scopes.BodyScope.{BodyScope}
use Rattle.idl_spec.specs.Demands.{Check}
use Rattle.idl_spec.specs.Faults.{Fault, costs, HasNoFault}
use Rattle.idl_types.specs.declared.faults.TypeFault.{TypeFault}
use Rattle.idl_types.specs.declared.demands.Sort.{Sort}
use Rattle.idl_types.specs.declared.demands.Sort.TheVariants as sorts
use Rattle.idl_types.specs.Refusals.{IsTold, IsRefusal}
use Rattle.idl_types.specs.Passes.{IsUnknown, IsMismatch, IsLate, IsBroken, is_body_costly, NoneOf, IsFirstOf, WhereChecked}
use Rattle.idl_types.proofs.FaultLaws.{first-name, first-mismatch, first-width, first-slice, first-absence, first-cost, first-late, no-fault}
use Rattle.idl_types.proofs.TellLaws.{told-so}

module _ (space : Space) (program : Program) (scope : BodyScope) (body : Body)
    (checks : List Check) where
  -- the refusal is right wherever these are the checks of the body
  abbrev pub Refused : TypeFault → Type 0
  Refused r = WhereChecked space program scope body checks (λ presence. IsRefusal space program presence scope body r)

  pub refused-name : (r : TypeFault) → IsTold (IsFirstOf IsUnknown checks) r → Refused r
  refused-name r told = λ presence are. told-so _ _ (first-name space program presence scope body checks are) r told

  module _ (names : NoneOf IsUnknown checks) where
    pub refused-kinds : (r : TypeFault) → IsTold (IsFirstOf IsMismatch checks) r → Refused r
    refused-kinds r told = λ presence are. told-so _ _ (first-mismatch space program presence scope body checks are names) r told

    module _ (kinds : NoneOf IsMismatch checks) (variables : List Variable)
        (same : variables ≡ body.variables) where
      abbrev pub Broken : Sort → Fault → Check → Type 0
      Broken sort = IsBroken space program variables sort

      abbrev pub Own : Sort → Fault → Check → Type 0
      Own sort = IsBroken space program body.variables sort

      none-own : (sort : Sort) → NoneOf (Broken sort) checks → NoneOf (Own sort) checks
      none-own sort none = subst (λ vs. NoneOf (IsBroken space program vs sort) checks) same none

      told-own : (sort : Sort) (r : TypeFault) → IsTold (IsFirstOf (Broken sort) checks) r → IsTold (IsFirstOf (Own sort) checks) r
      told-own sort r told = subst (λ vs. IsTold (IsFirstOf (IsBroken space program vs sort) checks) r) same told

      pub refused-width : (r : TypeFault) → IsTold (IsFirstOf (Broken sorts.Width) checks) r → Refused r
      refused-width r told =
          λ presence are. told-so _ _ (first-width space program presence scope body checks are names kinds) r (told-own sorts.Width r told)

      module _ (widths : NoneOf (Broken sorts.Width) checks) where
        pub refused-slice : (r : TypeFault) → IsTold (IsFirstOf (Broken sorts.Slice) checks) r → Refused r
        refused-slice r told =
            λ presence are. told-so _ _ (first-slice space program presence scope body checks are names kinds (none-own sorts.Width widths)) r (told-own sorts.Slice r told)

        module _ (slices : NoneOf (Broken sorts.Slice) checks) where
          pub refused-absence : (r : TypeFault) → IsTold (IsFirstOf (Broken sorts.Absence) checks) r → Refused r
          refused-absence r told =
              λ presence are. told-so _ _ (first-absence space program presence scope body checks are names kinds (none-own sorts.Width widths) (none-own sorts.Slice slices)) r (told-own sorts.Absence r told)

          module _ (absences : NoneOf (Broken sorts.Absence) checks) where
            pub refused-cost : (r : TypeFault) → IsTold (λ f. (f ≡ costs) × (is_body_costly space program scope body checks ≡ true)) r → Refused r
            refused-cost r told =
                λ presence are. told-so _ _ (λ f h. first-cost space program presence scope body checks are names kinds (none-own sorts.Width widths) (none-own sorts.Slice slices) (none-own sorts.Absence absences) f h.0 h.1) r told

            module _ (cheap : is_body_costly space program scope body checks ≡ false) where
              pub refused-order : (r : TypeFault) → IsTold (IsFirstOf IsLate checks) r → Refused r
              refused-order r told =
                  λ presence are. told-so _ _ (first-late space program presence scope body checks are names kinds (none-own sorts.Width widths) (none-own sorts.Slice slices) (none-own sorts.Absence absences) cheap) r told

              pub without-fault : NoneOf IsLate checks → WhereChecked space program scope body checks (λ presence. HasNoFault space program presence scope body)
              without-fault late =
                  λ presence are. no-fault space program presence scope body checks are names kinds (none-own sorts.Width widths) (none-own sorts.Slice slices) (none-own sorts.Absence absences) cheap late
