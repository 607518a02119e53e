-- Faults of a body, one sort after another.
use Rattle.std.proofs.Common.{◌≡◌, ◌⊎◌, ◌∙◌, inl, inr, ℕ, ◌+◌, ◌<◌, ◌≤◌, true, false, nat_lt, List, Some, arith, refl, sym, ap, subst}
use Rattle.std.specs.Prelude.{slice_get, Contains}
use Rattle.std.specs.List.{list_any}
use Rattle.std.proofs.lemmas.Bool.{false≢true, cases_lt, or_cases, or_left, or_right}
use Rattle.std.proofs.lemmas.Bool.Decides.{nat_tests}
use Rattle.udb_base.specs.declared.conditions.Cond.{Cond}
use Rattle.udb_base.specs.declared.spaces.Space.{Space}
use Rattle.udb_base.specs.declared.spaces.Full.{Full}
use Rattle.idl_tree.specs.declared.programs.Body.{Body}
use Rattle.idl_tree.specs.declared.programs.Program.{Program}
use Rattle.idl_spec.specs.declared.scopes.BodyScope.{BodyScope}
use Rattle.idl_spec.specs.Demands.{Issue, unknown_name, later_function, mismatch, demand, Check}
use Rattle.idl_spec.specs.Checks.{body_checks}
use Rattle.idl_spec.specs.Costs.{cost_of}
use Rattle.idl_spec.specs.Faults.{Fault, unknown_at, mismatch_at, width_at, slice_at, absent_at, costs, order_at, HasCheck, Shows, IsCostly, HasFault, sort_number, node_number, NotBefore, IsFirstFault, HasNoFault}
use Rattle.idl_types.specs.declared.demands.Sort.{Sort}
use Rattle.idl_types.specs.declared.demands.Sort.TheVariants as sorts
use Rattle.idl_types.specs.Passes.{is_mismatch, IsUnknown, IsMismatch, IsLate, asks, shown_at, BreaksCheck, IsBroken, is_issue_costly, is_check_costly, is_body_costly, NoneOf, IsFirstOf}
use Rattle.idl_types.proofs.PassLaws.{last-or-before}
use Rattle.idl_types.proofs.ListLaws.{any-of, any-from, at-contains, contains-at}

is-mismatch : (issue : Issue) → is_mismatch issue ≡ true → issue ≡ mismatch
is-mismatch (unknown_name name) h = absurd (false≢true h)
is-mismatch (later_function name) h = absurd (false≢true h)
is-mismatch mismatch h = refl
is-mismatch (demand one) h = absurd (false≢true h)

module _ (space : Space) (program : Program) (presence : Cond) (scope : BodyScope) (body : Body)
    (checks : List Check) (are : checks ≡ body_checks space program presence scope body) where
  abbrev Has : Fault → Type 0
  Has f = HasFault space program presence scope body f

  -- ---- what a check shows, by the number of the sort

  abbrev Stands : (Fault → Check → Type 0) → Fault → Type 0
  Stands S f = (one : Check) × (slice_get checks (node_number f) ≡ Some one) × S f one

  check-at : (node : ℕ) (one : Check) → HasCheck space program presence scope body node one → slice_get checks node ≡ Some one
  check-at node one at = ap (λ cs. slice_get cs node) are ∙ at

  at-check : (node : ℕ) (one : Check) → slice_get checks node ≡ Some one → HasCheck space program presence scope body node one
  at-check node one at = sym (ap (λ cs. slice_get cs node) are) ∙ at

  abbrev pub Broken : Sort → Fault → Check → Type 0
  Broken sort = IsBroken space program body.variables sort

  -- the passes over demands

  broken-from : (sort : Sort) (node : ℕ) (one : Check) (full : Full) → node_number (shown_at sort node full) ≡ node → Shows space program presence scope body (asks sort) one full → Broken sort (shown_at sort node full) one
  broken-from sort node one full same s = record {
    full = full;
    is = ap (λ n. shown_at sort n full) (sym same);
    breaks = record {
      broken = s.broken;
      asked = s.asked;
      breaks = record {
        sort_of = s.sort_of;
        cheap = s.cheap;
        breaks = record { valid = s.valid; context = s.context; unmet = s.unmet };
      };
    };
  }

  shows-from : (sort : Sort) (one : Check) (full : Full) → BreaksCheck space program body.variables sort one full → Shows space program presence scope body (asks sort) one full
  shows-from sort one full b = record {
    valid = b.breaks.breaks.valid;
    context = b.breaks.breaks.context;
    broken = b.broken;
    asked = b.asked;
    sort_of = b.breaks.sort_of;
    cheap = b.breaks.cheap;
    unmet = b.breaks.breaks.unmet;
  }

  -- from a check to the fault, and the fault's sort

  has-unknown : (f : Fault) → Stands IsUnknown f → Has f × (sort_number f ≡ 0)
  has-unknown f (one, at, s) =
      subst (λ g. Has g × (sort_number g ≡ 0)) (sym s.is) ((one, at-check (node_number f) one at, s.named), refl)

  has-mismatch : (f : Fault) → Stands IsMismatch f → Has f × (sort_number f ≡ 1)
  has-mismatch f (one, at, s) =
      subst (λ g. Has g × (sort_number g ≡ 1)) (sym s.is) ((one, at-check (node_number f) one at, contained (any-of is_mismatch one.issues s.has)), refl) where
        contained : (x : Issue) × Contains one.issues x × (is_mismatch x ≡ true) → Contains one.issues mismatch
        contained (x, c, e) = subst (Contains one.issues) (is-mismatch x e) c

  has-late : (f : Fault) → Stands IsLate f → Has f × (sort_number f ≡ 6)
  has-late f (one, at, s) =
      subst (λ g. Has g × (sort_number g ≡ 6)) (sym s.is) ((one, at-check (node_number f) one at, s.named), refl)

  has-width : (f : Fault) → Stands (Broken sorts.Width) f → Has f × (sort_number f ≡ 2)
  has-width f (one, at, s) =
      subst (λ g. Has g × (sort_number g ≡ 2)) (sym s.is) ((one, at-check (node_number f) one at, shows-from sorts.Width one s.full s.breaks), refl)

  has-slice : (f : Fault) → Stands (Broken sorts.Slice) f → Has f × (sort_number f ≡ 3)
  has-slice f (one, at, s) =
      subst (λ g. Has g × (sort_number g ≡ 3)) (sym s.is) ((one, at-check (node_number f) one at, shows-from sorts.Slice one s.full s.breaks), refl)

  has-absence : (f : Fault) → Stands (Broken sorts.Absence) f → Has f × (sort_number f ≡ 4)
  has-absence f (one, at, s) =
      subst (λ g. Has g × (sort_number g ≡ 4)) (sym s.is) ((one, at-check (node_number f) one at, shows-from sorts.Absence one s.full s.breaks), refl)

  -- ---- costs

  some-costly : list_any (is_check_costly program body.variables) checks ≡ true → IsCostly space program presence scope body
  some-costly h = at-node (any-of (is_check_costly program body.variables) checks h) where
    of-issue : (node : ℕ) (one : Check) (x : Issue) → slice_get checks node ≡ Some one → Contains one.issues x → is_issue_costly program body.variables x ≡ true → IsCostly space program presence scope body
    of-issue node one (demand broken) at c e = inl (node, one, broken, at-check node one at, c, e)
    of-issue node one (unknown_name name) at c e = absurd (false≢true e)
    of-issue node one (later_function name) at c e = absurd (false≢true e)
    of-issue node one mismatch at c e = absurd (false≢true e)

    of-check : (node : ℕ) (one : Check) → slice_get checks node ≡ Some one → (x : Issue) × Contains one.issues x × (is_issue_costly program body.variables x ≡ true) → IsCostly space program presence scope body
    of-check node one at (x, c, e) = of-issue node one x at c e

    placed : (one : Check) → is_check_costly program body.variables one ≡ true → (node : ℕ) × (slice_get checks node ≡ Some one) → IsCostly space program presence scope body
    placed one e (node, at) = of-check node one at (any-of (is_issue_costly program body.variables) one.issues e)

    at-node : (one : Check) × Contains checks one × (is_check_costly program body.variables one ≡ true) → IsCostly space program presence scope body
    at-node (one, c, e) = placed one e (contains-at checks one c)

  lt-true : (a b : ℕ) → nat_lt a b ≡ true → a < b
  lt-true a b h = grind (arith, nat_tests)

  lt-from : (a b : ℕ) → a < b → nat_lt a b ≡ true
  lt-from a b h = grind (arith, nat_tests)

  has-costs : is_body_costly space program scope body checks ≡ true → Has costs
  has-costs h = by (or_cases _ _ h) where
    by : (list_any (is_check_costly program body.variables) checks ≡ true) ⊎ (nat_lt 1048576 (cost_of space program scope body) ≡ true) → Has costs
    by (inl e) = some-costly e
    by (inr e) = inr (lt-true 1048576 (cost_of space program scope body) e)

  costs-are : Has costs → is_body_costly space program scope body checks ≡ true
  costs-are (inl (node, one, broken, at, asked, costly)) =
      or_left _ _ (any-from (is_check_costly program body.variables) checks one (at-contains checks node one (check-at node one at))
      (any-from (is_issue_costly program body.variables) one.issues (demand broken) asked costly))
  costs-are (inr past) = or_right _ _ (lt-from 1048576 (cost_of space program scope body) past)

  -- ---- the sorts before one

  -- no fault of the body has a lower sort
  abbrev NoneBelow : ℕ → Type 0
  NoneBelow n = (g : Fault) → Has g → sort_number g < n → ⊥

  -- each fault of that sort is shown by the check of its node
  record IsSeen (n : ℕ) (S : Fault → Check → Type 0) : Type 0 where
    seen : (g : Fault) → Has g → sort_number g ≡ n → Stands S g

  sees-unknown : (g : Fault) → Has g → sort_number g ≡ 0 → Stands IsUnknown g
  sees-unknown (unknown_at node name) (one, at, h) e = (one, check-at node one at, record { name = name; is = refl; named = h })
  sees-unknown (mismatch_at node) h e = absurd (omega (arith, e))
  sees-unknown (width_at node full) h e = absurd (omega (arith, e))
  sees-unknown (slice_at node full) h e = absurd (omega (arith, e))
  sees-unknown (absent_at node full) h e = absurd (omega (arith, e))
  sees-unknown costs h e = absurd (omega (arith, e))
  sees-unknown (order_at node name) h e = absurd (omega (arith, e))

  sees-mismatch : (g : Fault) → Has g → sort_number g ≡ 1 → Stands IsMismatch g
  sees-mismatch (unknown_at node name) h e = absurd (omega (arith, e))
  sees-mismatch (mismatch_at node) (one, at, h) e =
      (one, check-at node one at, record { is = refl; has = any-from is_mismatch one.issues mismatch h refl })
  sees-mismatch (width_at node full) h e = absurd (omega (arith, e))
  sees-mismatch (slice_at node full) h e = absurd (omega (arith, e))
  sees-mismatch (absent_at node full) h e = absurd (omega (arith, e))
  sees-mismatch costs h e = absurd (omega (arith, e))
  sees-mismatch (order_at node name) h e = absurd (omega (arith, e))

  sees-width : (g : Fault) → Has g → sort_number g ≡ 2 → Stands (Broken sorts.Width) g
  sees-width (unknown_at node name) h e = absurd (omega (arith, e))
  sees-width (mismatch_at node) h e = absurd (omega (arith, e))
  sees-width (width_at node full) (one, at, h) e = (one, check-at node one at, broken-from sorts.Width node one full refl h)
  sees-width (slice_at node full) h e = absurd (omega (arith, e))
  sees-width (absent_at node full) h e = absurd (omega (arith, e))
  sees-width costs h e = absurd (omega (arith, e))
  sees-width (order_at node name) h e = absurd (omega (arith, e))

  sees-slice : (g : Fault) → Has g → sort_number g ≡ 3 → Stands (Broken sorts.Slice) g
  sees-slice (unknown_at node name) h e = absurd (omega (arith, e))
  sees-slice (mismatch_at node) h e = absurd (omega (arith, e))
  sees-slice (width_at node full) h e = absurd (omega (arith, e))
  sees-slice (slice_at node full) (one, at, h) e = (one, check-at node one at, broken-from sorts.Slice node one full refl h)
  sees-slice (absent_at node full) h e = absurd (omega (arith, e))
  sees-slice costs h e = absurd (omega (arith, e))
  sees-slice (order_at node name) h e = absurd (omega (arith, e))

  sees-absence : (g : Fault) → Has g → sort_number g ≡ 4 → Stands (Broken sorts.Absence) g
  sees-absence (unknown_at node name) h e = absurd (omega (arith, e))
  sees-absence (mismatch_at node) h e = absurd (omega (arith, e))
  sees-absence (width_at node full) h e = absurd (omega (arith, e))
  sees-absence (slice_at node full) h e = absurd (omega (arith, e))
  sees-absence (absent_at node full) (one, at, h) e = (one, check-at node one at, broken-from sorts.Absence node one full refl h)
  sees-absence costs h e = absurd (omega (arith, e))
  sees-absence (order_at node name) h e = absurd (omega (arith, e))

  sees-late : (g : Fault) → Has g → sort_number g ≡ 6 → Stands IsLate g
  sees-late (unknown_at node name) h e = absurd (omega (arith, e))
  sees-late (mismatch_at node) h e = absurd (omega (arith, e))
  sees-late (width_at node full) h e = absurd (omega (arith, e))
  sees-late (slice_at node full) h e = absurd (omega (arith, e))
  sees-late (absent_at node full) h e = absurd (omega (arith, e))
  sees-late costs h e = absurd (omega (arith, e))
  sees-late (order_at node name) (one, at, h) e = (one, check-at node one at, record { name = name; is = refl; named = h })

  is-cost : (g : Fault) → sort_number g ≡ 5 → g ≡ costs
  is-cost (unknown_at node name) e = absurd (omega (arith, e))
  is-cost (mismatch_at node) e = absurd (omega (arith, e))
  is-cost (width_at node full) e = absurd (omega (arith, e))
  is-cost (slice_at node full) e = absurd (omega (arith, e))
  is-cost (absent_at node full) e = absurd (omega (arith, e))
  is-cost costs e = refl
  is-cost (order_at node name) e = absurd (omega (arith, e))

  -- ---- one sort more, and the first fault of a sort

  none-below-next : (n : ℕ) → NoneBelow n → ((g : Fault) → Has g → sort_number g ≡ n → ⊥) → NoneBelow (n + 1)
  none-below-next n below none g h lt = by (last-or-before (sort_number g) n lt) where
    by : (sort_number g < n) ⊎ (sort_number g ≡ n) → ⊥
    by (inl less) = below g h less
    by (inr same) = none g h same

  next-pass : (n : ℕ) (S : Fault → Check → Type 0) → ((g : Fault) → Has g → sort_number g ≡ n → Stands S g) → NoneOf S checks → NoneBelow n → NoneBelow (n + 1)
  next-pass n S sees none below = none-below-next n below (λ g h same. by g (sees g h same)) where
    by : (g : Fault) → Stands S g → ⊥
    by g (one, at, s) = none g one at s

  first-of-sort : (n : ℕ) (f : Fault) → Has f → sort_number f ≡ n → NoneBelow n → ((g : Fault) → Has g → sort_number g ≡ n → node_number f ≤ node_number g) → IsFirstFault space program presence scope body f
  first-of-sort n f has same below least = record { has = has; first = λ g h. by g h (cases_lt (sort_number f) (sort_number g)) } where
    level : (g : Fault) → Has g → (sort_number g < n) ⊎ (n ≤ sort_number g) → sort_number g ≤ sort_number f → NotBefore f g
    level g h (inl lt) le = absurd (below g h lt)
    level g h (inr ge) le =
        let e : sort_number g ≡ n = omega (arith, le, ge, same) in
        inr (same ∙ sym e, least g h e)

    by : (g : Fault) → Has g → (sort_number f < sort_number g) ⊎ (sort_number g ≤ sort_number f) → NotBefore f g
    by g h (inl lt) = inl lt
    by g h (inr le) = level g h (cases_lt (sort_number g) n) le

  first-of-pass : (n : ℕ) (S : Fault → Check → Type 0) → ((g : Fault) → Stands S g → Has g × (sort_number g ≡ n)) → ((g : Fault) → Has g → sort_number g ≡ n → Stands S g) → NoneBelow n → (f : Fault) → IsFirstOf S checks f → IsFirstFault space program presence scope body f
  first-of-pass n S has sees below f first =
      first-of-sort n f (has f here).0 (has f here).1 below (λ g h same. by g (sees g h same) (cases_lt (node_number g) (node_number f))) where
        here : Stands S f
        here = (first.one, first.at, first.shown)

        by : (g : Fault) → Stands S g → (node_number g < node_number f) ⊎ (node_number f ≤ node_number g) → node_number f ≤ node_number g
        by g (one, at, s) (inl lt) = absurd (first.first.none g one lt at s)
        by g _ (inr le) = le

  -- ---- the passes in their order

  module _ (names : NoneOf IsUnknown checks) where
    below-1 : NoneBelow 1
    below-1 = next-pass 0 IsUnknown sees-unknown names (λ g h lt. absurd (omega (arith, lt)))

    pub first-mismatch : (f : Fault) → IsFirstOf IsMismatch checks f → IsFirstFault space program presence scope body f
    first-mismatch f = first-of-pass 1 IsMismatch has-mismatch sees-mismatch below-1 f

    module _ (kinds : NoneOf IsMismatch checks) where
      below-2 : NoneBelow 2
      below-2 = next-pass 1 IsMismatch sees-mismatch kinds below-1

      pub first-width : (f : Fault) → IsFirstOf (Broken sorts.Width) checks f → IsFirstFault space program presence scope body f
      first-width f = first-of-pass 2 (Broken sorts.Width) has-width sees-width below-2 f

      module _ (widths : NoneOf (Broken sorts.Width) checks) where
        below-3 : NoneBelow 3
        below-3 = next-pass 2 (Broken sorts.Width) sees-width widths below-2

        pub first-slice : (f : Fault) → IsFirstOf (Broken sorts.Slice) checks f → IsFirstFault space program presence scope body f
        first-slice f = first-of-pass 3 (Broken sorts.Slice) has-slice sees-slice below-3 f

        module _ (slices : NoneOf (Broken sorts.Slice) checks) where
          below-4 : NoneBelow 4
          below-4 = next-pass 3 (Broken sorts.Slice) sees-slice slices below-3

          pub first-absence : (f : Fault) → IsFirstOf (Broken sorts.Absence) checks f → IsFirstFault space program presence scope body f
          first-absence f = first-of-pass 4 (Broken sorts.Absence) has-absence sees-absence below-4 f

          module _ (absences : NoneOf (Broken sorts.Absence) checks) where
            below-5 : NoneBelow 5
            below-5 = next-pass 4 (Broken sorts.Absence) sees-absence absences below-4

            pub first-cost : (f : Fault) → f ≡ costs → is_body_costly space program scope body checks ≡ true → IsFirstFault space program presence scope body f
            first-cost f is costly =
                subst (IsFirstFault space program presence scope body) (sym is)
                (first-of-sort 5 costs (has-costs costly) refl below-5 (λ g h same. omega arith))

            module _ (cheap : is_body_costly space program scope body checks ≡ false) where
              below-6 : NoneBelow 6
              below-6 = none-below-next 5 below-5 (λ g h same. false≢true (sym cheap ∙ costs-are (subst Has (is-cost g same) h)))

              pub first-late : (f : Fault) → IsFirstOf IsLate checks f → IsFirstFault space program presence scope body f
              first-late f = first-of-pass 6 IsLate has-late sees-late below-6 f

              pub no-fault : NoneOf IsLate checks → HasNoFault space program presence scope body
              no-fault late f h = next-pass 6 IsLate sees-late late below-6 f h (below-7 f) where
                below-7 : (g : Fault) → sort_number g < 7
                below-7 (unknown_at node name) = omega arith
                below-7 (mismatch_at node) = omega arith
                below-7 (width_at node full) = omega arith
                below-7 (slice_at node full) = omega arith
                below-7 (absent_at node full) = omega arith
                below-7 costs = omega arith
                below-7 (order_at node name) = omega arith

  pub first-name : (f : Fault) → IsFirstOf IsUnknown checks f → IsFirstFault space program presence scope body f
  first-name f = first-of-pass 0 IsUnknown has-unknown sees-unknown (λ g h lt. absurd (omega (arith, lt))) f
