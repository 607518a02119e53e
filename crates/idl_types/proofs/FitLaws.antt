-- A body without a fault fits every valid full configuration.
use Rattle.std.proofs.Common.{◌≡◌, ◌⊎◌, inl, inr, ℕ, zero, suc, not, ◌||◌, Bool, true, false, List, [], ◌∷◌, Option, Some, refl, ap}
use Rattle.std.specs.Prelude.{slice_get, Contains}
use Rattle.std.specs.List.{list_all}
use Rattle.std.proofs.lemmas.Bool.{cases_Bool, or_left, or_right}
use Rattle.udb_base.specs.declared.names.Name.{Name}
use Rattle.udb_base.specs.declared.conditions.Cond.{Cond}
use Rattle.udb_base.specs.declared.spaces.Space.{Space}
use Rattle.udb_base.specs.declared.spaces.Full.{Full}
use Rattle.udb_spec.specs.Spaces.{Valid}
use Rattle.idl_tree.specs.declared.programs.Body.{Body}
use Rattle.idl_tree.specs.declared.programs.Program.{Program}
use Rattle.idl_spec.specs.declared.scopes.BodyScope.{BodyScope}
use Rattle.idl_spec.specs.Demands.{Demand, in_range, in_slice, defined, present, Issue, unknown_name, later_function, mismatch, demand, Check}
use Rattle.idl_spec.specs.Checks.{body_checks, Under, is_met, context_holds, passes, under_of, fits}
use Rattle.idl_spec.specs.Costs.{is_costly}
use Rattle.idl_spec.specs.Faults.{unknown_at, mismatch_at, width_at, slice_at, absent_at, costs, order_at, first_unknown, first_later, is_width, is_slice, is_absence, HasCheck, Shows, HasNoFault}
use Rattle.idl_types.proofs.PassLaws.{some-same}
use Rattle.idl_types.proofs.ListLaws.{all-from, contains-at}

abbrev Named : Option Name → Type 0
Named o = (name : Name) × (o ≡ Some name)

-- a list with an unknown or later name has a first one
first-unknown-of : (issues : List Issue) (name : Name) (k : ℕ) → slice_get issues k ≡ Some (unknown_name name) → Named (first_unknown issues)
first-unknown-of [] name k at = absurd (cc)
first-unknown-of (x ∷ more) name zero at = (name, ap (λ y. first_unknown (y ∷ more)) (some-same x (unknown_name name) at))
first-unknown-of (unknown_name n ∷ more) name (suc k) at = (n, refl)
first-unknown-of (later_function n ∷ more) name (suc k) at = first-unknown-of more name k at
first-unknown-of (mismatch ∷ more) name (suc k) at = first-unknown-of more name k at
first-unknown-of (demand one ∷ more) name (suc k) at = first-unknown-of more name k at

first-later-of : (issues : List Issue) (name : Name) (k : ℕ) → slice_get issues k ≡ Some (later_function name) → Named (first_later issues)
first-later-of [] name k at = absurd (cc)
first-later-of (x ∷ more) name zero at = (name, ap (λ y. first_later (y ∷ more)) (some-same x (later_function name) at))
first-later-of (unknown_name n ∷ more) name (suc k) at = first-later-of more name k at
first-later-of (later_function n ∷ more) name (suc k) at = (n, refl)
first-later-of (mismatch ∷ more) name (suc k) at = first-later-of more name k at
first-later-of (demand one ∷ more) name (suc k) at = first-later-of more name k at

module _ (space : Space) (program : Program) (presence : Cond) (scope : BodyScope) (body : Body)
    (none : HasNoFault space program presence scope body) where
  module _ (node : ℕ) (one : Check) (at : HasCheck space program presence scope body node one) where
    none-unknown : (name : Name) → Contains one.issues (unknown_name name) → ⊥
    none-unknown name asked = by (contains-at one.issues (unknown_name name) asked) where
      shown : Named (first_unknown one.issues) → ⊥
      shown (n, e) = none (unknown_at node n) (one, at, e)

      by : (k : ℕ) × (slice_get one.issues k ≡ Some (unknown_name name)) → ⊥
      by (k, e) = shown (first-unknown-of one.issues name k e)

    none-later : (name : Name) → Contains one.issues (later_function name) → ⊥
    none-later name asked = by (contains-at one.issues (later_function name) asked) where
      shown : Named (first_later one.issues) → ⊥
      shown (n, e) = none (order_at node n) (one, at, e)

      by : (k : ℕ) × (slice_get one.issues k ≡ Some (later_function name)) → ⊥
      by (k, e) = shown (first-later-of one.issues name k e)

    cheap : (broken : Demand) → Contains one.issues (demand broken) → is_costly program body.variables broken ≡ false
    cheap broken asked = by (cases_Bool (is_costly program body.variables broken)) where
      by : (is_costly program body.variables broken ≡ true) ⊎ (is_costly program body.variables broken ≡ false) → is_costly program body.variables broken ≡ false
      by (inl e) = absurd (none costs (inl (node, one, broken, at, asked, e)))
      by (inr e) = e

    module _ (full : Full) (valid : Valid space full) where
      abbrev under : Under
      under = under_of space full program body

      shows : (sort : Demand → Bool) (broken : Demand) → Contains one.issues (demand broken) → context_holds under one.context ≡ true → sort broken ≡ true → is_met under broken ≡ false → Shows space program presence scope body sort one full
      shows sort broken asked context is unmet = record { valid = valid; context = context; broken = broken; asked = asked; sort_of = is; cheap = cheap broken asked; unmet = unmet }

      unbroken : (broken : Demand) → Contains one.issues (demand broken) → context_holds under one.context ≡ true → is_met under broken ≡ false → ⊥
      unbroken (in_range low high width) asked context unmet = none (width_at node full) (one, at, shows is_width (in_range low high width) asked context refl unmet)
      unbroken (in_slice high low of) asked context unmet = none (slice_at node full) (one, at, shows is_slice (in_slice high low of) asked context refl unmet)
      unbroken (defined x) asked context unmet = none (absent_at node full) (one, at, shows is_absence (defined x) asked context refl unmet)
      unbroken (present csr field) asked context unmet = none (absent_at node full) (one, at, shows is_absence (present csr field) asked context refl unmet)

      met : (broken : Demand) → Contains one.issues (demand broken) → context_holds under one.context ≡ true → is_met under broken ≡ true
      met broken asked context = by (cases_Bool (is_met under broken)) where
        by : (is_met under broken ≡ true) ⊎ (is_met under broken ≡ false) → is_met under broken ≡ true
        by (inl e) = e
        by (inr e) = absurd (unbroken broken asked context e)

      passes-issue : (x : Issue) → Contains one.issues x → passes under one.context x ≡ true
      passes-issue (unknown_name name) asked = absurd (none-unknown name asked)
      passes-issue (later_function name) asked = absurd (none-later name asked)
      passes-issue mismatch asked = absurd (none (mismatch_at node) (one, at, asked))
      passes-issue (demand broken) asked = by (cases_Bool (context_holds under one.context)) where
        by : (context_holds under one.context ≡ true) ⊎ (context_holds under one.context ≡ false) → (not (context_holds under one.context) || is_met under broken) ≡ true
        by (inl e) = or_right (not (context_holds under one.context)) (is_met under broken) (met broken asked e)
        by (inr e) = or_left (not (context_holds under one.context)) (is_met under broken) (ap not e)

  -- the body fits every valid full configuration
  pub fits-all : (full : Full) → Valid space full → fits space full program presence scope body ≡ true
  unfolding fits
  fits-all full valid =
      all-from (λ one. list_all (passes (under_of space full program body) one.context) one.issues) (body_checks space program presence scope body)
      (λ one c. by one (contains-at (body_checks space program presence scope body) one c)) where
        by : (one : Check) → (node : ℕ) × HasCheck space program presence scope body node one → list_all (passes (under_of space full program body) one.context) one.issues ≡ true
        by one (node, at) = all-from (passes (under_of space full program body) one.context) one.issues (passes-issue node one at full valid)
