-- An unknown condition has an unknown atom, whose variable can be divided.
use Rattle.std.proofs.Common.{◌≡◌, ℕ, suc, ◌+◌, ◌-◌, ◌<◌, ◌≤◌, ◌^◌, ◌==◌, nat_lt, nat_le, min, max, Bool, true, false, not, ◌&&◌, List, [], ◌∷◌, map, drop, length, get_or, count_by, Option, None, Some, All, slice_get, refl, sym, ap, ◌∙◌, cond, subst, arith, ⊎_elim}
use Rattle.std.specs.List.{list_all, list_any, range_with_len}
use Rattle.std.specs.Option.{option_map, option_map_or, option_and_then, is_none}
use Rattle.std.proofs.lemmas.Bool.{cases_lt, eq-eqb, ne_eqb, lt-ltb, le-ltb, le-leb, lt-leb, leb-true, true≢false}
use Rattle.std.proofs.lemmas.List.{drop_more, drop_all, length-map}
use Rattle.std.proofs.lemmas.Option.{slice_get_read}
use Rattle.udb_base.specs.declared.versions.Requirement.{Requirement}
use Rattle.udb_base.specs.declared.conditions.Value.{Value}
use Rattle.udb_base.specs.declared.conditions.Value.TheVariants.{Flag, Number, Word}
use Rattle.udb_base.specs.declared.conditions.Test.{Test}
use Rattle.udb_base.specs.declared.conditions.Test.TheVariants as t
use Rattle.udb_base.specs.declared.refutations.Known.{Known}
use Rattle.udb_base.specs.declared.refutations.Known.TheVariants.{Yes, No, Unknown}
use Rattle.udb_base.specs.declared.spaces.Domain.{Domain}
use Rattle.udb_base.specs.declared.spaces.Domain.TheVariants.{Flags, Numbers, Range, Words}
use Rattle.udb_base.specs.declared.spaces.ExtSpace.{ExtSpace}
use Rattle.udb_base.specs.declared.spaces.ParamSpace.{ParamSpace}
use Rattle.udb_base.specs.declared.spaces.Space.{Space}
use Rattle.udb_spec.specs.Conditions.{same_bytes, choice_meets, passes}
use Rattle.udb_spec.specs.Cells.{Step, Child, Below, From, narrowed, range_of, child_of, kept, choices_of, values_of, numbers_of, range_left, ext_cells, param_cells}
use Rattle.udb_spec.specs.Known.{is_yes, is_no, known_over, ext_known, param_known, all_known, any_known, one_known, not_known}
use Rattle.udb_spec.specs.KnownLaws.{known-Always, known-Never, known-Ext, known-Param, known-All, known-Any, known-One, known-Not}
use Rattle.udb_spec.specs.Refutes.{is_unsplit, is_cut, cells_left, ends_of}
use Rattle.udb_cond.specs.Tally.{is_unknown}
use Rattle.udb_cond.proofs.KnownLemmas.{one_known-by}
use Rattle.udb_cond.proofs.RangeLemmas.{range-yes, range-no}
use Rattle.udb_refute.specs.declared.choices.Choice.{Choice}
use Rattle.udb_refute.specs.declared.choices.Choice.TheVariants.{Split, Cut}
use Rattle.udb_refute.specs.Paths.{choice_on, low_end}
use Rattle.udb_refute.specs.Search.{is_range, cut_number, IsShortDomain, HasShortLists, IsCutOf, IsDivided, IsChoice, IsChosen}
use Rattle.udb_refute.proofs.PathLaws.{both-true, unsplit-none, is-unsplit, kept-all, kept-few}
use Rattle.udb_refute.proofs.FirstLaws.{LowIs, range-low}

-- ---- an unknown one among parts

some-of-all : (ks : List Known) → list_any is_no ks ≡ false → list_all is_yes ks ≡ false → list_any is_unknown ks ≡ true
some-of-all [] n y = absurd (true≢false y)
some-of-all (Yes ∷ ks) n y = some-of-all ks n y
some-of-all (No ∷ ks) n y = absurd (true≢false n)
some-of-all (Unknown ∷ ks) n y = refl

some-of-any : (ks : List Known) → list_any is_yes ks ≡ false → list_all is_no ks ≡ false → list_any is_unknown ks ≡ true
some-of-any [] y n = absurd (true≢false n)
some-of-any (Yes ∷ ks) y n = absurd (true≢false y)
some-of-any (No ∷ ks) y n = some-of-any ks y n
some-of-any (Unknown ∷ ks) y n = refl

unknown-two : (a b : Bool) (k l : Known) → (k ≡ Unknown → ⊥) → (l ≡ Unknown → ⊥) → cond a k (cond b l Unknown) ≡ Unknown → (a ≡ false) × (b ≡ false)
unknown-two true b k l nk nl e = absurd (nk e)
unknown-two false true k l nk nl e = absurd (nl e)
unknown-two false false k l nk nl e = (refl, refl)

pub no-known : No ≡ Unknown → ⊥
no-known e = cc

pub yes-known : Yes ≡ Unknown → ⊥
yes-known e = cc

pub all-unknown : (ks : List Known) → all_known ks ≡ Unknown → list_any is_unknown ks ≡ true
all-unknown ks e = let two = unknown-two (list_any is_no ks) (list_all is_yes ks) No Yes no-known yes-known e in some-of-all ks two.0 two.1

pub any-unknown : (ks : List Known) → any_known ks ≡ Unknown → list_any is_unknown ks ≡ true
any-unknown ks e = let two = unknown-two (list_any is_yes ks) (list_all is_no ks) Yes No yes-known no-known e in some-of-any ks two.0 two.1

one-open : (many none : Bool) (u : Bool) → cond many No (cond (none && not u) No (cond u Unknown Yes)) ≡ Unknown → u ≡ true
one-open many none true e = refl
one-open true none false e = absurd (no-known e)
one-open false true false e = absurd (no-known e)
one-open false false false e = absurd (yes-known e)

pub one-unknown : (ks : List Known) → one_known ks ≡ Unknown → list_any is_unknown ks ≡ true
one-unknown ks e = one-open (nat_le 2 (count_by is_yes ks)) (count_by is_yes ks == 0) (list_any is_unknown ks) (sym (one_known-by ks) ∙ e)

pub not-unknown : (k : Known) → not_known k ≡ Unknown → k ≡ Unknown
not-unknown Yes e = absurd (no-known e)
not-unknown No e = absurd (yes-known e)
not-unknown Unknown e = refl

pub ruleset choice_laws = (known-Always, known-Never, known-Ext, known-Param, known-All, known-Any, known-One, known-Not, all-unknown, any-unknown, one-unknown, not-unknown)

-- ---- an unknown atom has two cells

over-some : (bs : List Bool) → known_over bs ≡ Unknown → 2 ≤ length bs
over-some [] e = absurd (yes-known e)
over-some (true ∷ []) e = absurd (yes-known e)
over-some (false ∷ []) e = absurd (no-known e)
over-some (a ∷ b ∷ bs) e = omega arith

-- of which a split leaves one
two-unsplit : {X : Type 0} (path : List Step) (param : Bool) (place : ℕ) (xs : List X) → 2 ≤ length (kept path param place 0 xs) → choice_on path param place ≡ None
two-unsplit {X = X} path param place xs two = by_choice (choice_on path param place) refl where
  by_choice : (o : Option ℕ) → choice_on path param place ≡ o → o ≡ None
  by_choice None e = refl
  by_choice (Some m) e = let few = kept-few path param place 0 m xs e in absurd (omega arith)

two-kept : {X : Type 0} (path : List Step) (param : Bool) (place : ℕ) (xs : List X) → 2 ≤ length (kept path param place 0 xs) → (is_unsplit path param place ≡ true) × (length (kept path param place 0 xs) ≡ length xs)
two-kept path param place xs two = let none = two-unsplit path param place xs two in (unsplit-none path param place ∙ ap is_none none, ap length (kept-all path param place 0 xs none))

-- ---- extensions

-- one of another name is passed over
pub ext-next : (path : List Step) (es : List ExtSpace) (name : List ℕ) (needs : List Requirement) (i : ℕ) (e : ExtSpace) → i < length es → e ≡ get_or es i e → same_bytes e.name name ≡ false → ext_known path (i + 1) (drop (i + 1) es) name needs ≡ ext_known path i (drop i es) name needs
ext-next path es name needs i e lt is other = sym (ap (λ xs. ext_known path i xs name needs) (drop_more es i e lt ∙ ap (λ x. x ∷ drop (i + 1) es) (sym is)) ∙ rw other refl)

pub ext-none : (path : List Step) (es : List ExtSpace) (name : List ℕ) (needs : List Requirement) (i : ℕ) → length es ≤ i → ext_known path i (drop i es) name needs ≡ No
ext-none path es name needs i le = ap (λ xs. ext_known path i xs name needs) (drop_all i es le)

pub ext-chosen : (space : Space) (path : List Step) (es : List ExtSpace) (name : List ℕ) (needs : List Requirement) (i count : ℕ) (e : ExtSpace) → es ≡ space.extensions → i < length es → e ≡ get_or es i e → same_bytes e.name name ≡ true → count ≡ length e.versions + 1 → count < 2 ^ 32 → ext_known path i (drop i es) name needs ≡ Unknown → IsChoice space path (Split false i count)
ext-chosen space path es name needs i count e same lt is own counted short unknown =
    let atom : known_over (map (choice_meets e.versions needs) (ext_cells path i e)) ≡ Unknown = sym (ap (λ xs. ext_known path i xs name needs) (drop_more es i e lt ∙ ap (λ x. x ∷ drop (i + 1) es) (sym is)) ∙ rw own refl) ∙ unknown in
    let two : 2 ≤ length (ext_cells path i e) = omega (arith, over-some (map (choice_meets e.versions needs) (ext_cells path i e)) atom, length-map (ext_cells path i e) (choice_meets e.versions needs)) in
    let left = two-kept path false i (choices_of e) two in
    let there : slice_get space.extensions i ≡ Some e = ap (λ xs. slice_get xs i) (sym same) ∙ slice_get_read es (length es) i e refl lt is in
    let cells : length (ext_cells path i e) ≡ count = omega (arith, left.1, counted, length-map e.versions (λ l. Some l.version)) in
    let right : option_map_or (λ n. n == count) (cells_left space path false i) false ≡ true = ap (λ o. option_map_or (λ n. n == count) (option_map (λ x. length (ext_cells path i x)) o) false) there ∙ eq-eqb (length (ext_cells path i e)) count cells in
    (both-true (is_unsplit path false i) _ left.0 (both-true (option_map_or (λ n. n == count) (cells_left space path false i) false) (nat_lt count (2 ^ 32)) right (lt-ltb count (2 ^ 32) short)), omega (arith, two, cells), refl)

-- ---- parameters

pub param-next : (path : List Step) (ps : List ParamSpace) (name : List ℕ) (test : Test) (given : Value) (i : ℕ) (p : ParamSpace) → i < length ps → p ≡ get_or ps i p → same_bytes p.name name ≡ false → param_known path (i + 1) (drop (i + 1) ps) name test given ≡ param_known path i (drop i ps) name test given
param-next path ps name test given i p lt is other = sym (ap (λ xs. param_known path i xs name test given) (drop_more ps i p lt ∙ ap (λ x. x ∷ drop (i + 1) ps) (sym is)) ∙ rw other refl)

pub param-none : (path : List Step) (ps : List ParamSpace) (name : List ℕ) (test : Test) (given : Value) (i : ℕ) → length ps ≤ i → param_known path i (drop i ps) name test given ≡ No
param-none path ps name test given i le = ap (λ xs. param_known path i xs name test given) (drop_all i ps le)

pub param-atom : (path : List Step) (ps : List ParamSpace) (name : List ℕ) (test : Test) (given : Value) (i : ℕ) (p : ParamSpace) → i < length ps → p ≡ get_or ps i p → same_bytes p.name name ≡ true → param_known path i (drop i ps) name test given ≡ Unknown → known_over (map (λ x. passes test x given) (param_cells path i p.domain)) ≡ Unknown
param-atom path ps name test given i p lt is own unknown = sym (ap (λ xs. param_known path i xs name test given) (drop_more ps i p lt ∙ ap (λ x. x ∷ drop (i + 1) ps) (sym is)) ∙ rw own refl) ∙ unknown

-- a listed domain
kept-divided : (path : List Step) (place : ℕ) (test : Test) (given : Value) (xs : List Value) → known_over (map (λ x. passes test x given) (kept path true place 0 xs)) ≡ Unknown → (2 ≤ length xs) × (is_unsplit path true place ≡ true)
kept-divided path place test given xs unknown =
    let two : 2 ≤ length (kept path true place 0 xs) = omega (arith, over-some (map (λ x. passes test x given) (kept path true place 0 xs)) unknown, length-map (kept path true place 0 xs) (λ x. passes test x given)) in
    let left = two-kept path true place xs two in
    (omega (arith, two, left.1), left.0)

pub listed-divided : (path : List Step) (place count : ℕ) (test : Test) (given : Value) (d : Domain) (choice : Choice) → is_range d ≡ false → choice ≡ Split true place count → count ≡ length (values_of d) → known_over (map (λ x. passes test x given) (param_cells path place d)) ≡ Unknown → IsDivided path place d (Some choice)
listed-divided path place count test given Flags choice listed is counted unknown = let two = kept-divided path place test given (values_of Flags) unknown in subst (λ c. IsDivided path place Flags (Some c)) (sym is) (refl, refl, refl, counted, omega (arith, two.0, counted), two.1)
listed-divided path place count test given (Numbers ns) choice listed is counted unknown = let two = kept-divided path place test given (values_of (Numbers ns)) unknown in subst (λ c. IsDivided path place (Numbers ns) (Some c)) (sym is) (refl, refl, refl, counted, omega (arith, two.0, counted), two.1)
listed-divided path place count test given (Words ws) choice listed is counted unknown = let two = kept-divided path place test given (values_of (Words ws)) unknown in subst (λ c. IsDivided path place (Words ws) (Some c)) (sym is) (refl, refl, refl, counted, omega (arith, two.0, counted), two.1)
listed-divided path place count test given (Range low high) choice listed is counted unknown = absurd (true≢false listed)

-- ---- ranges

mapped-numbers : (f : Value → Bool) (ns : List ℕ) → map f (map Number ns) ≡ map (λ n. f (Number n)) ns
mapped-numbers f [] = refl
mapped-numbers f (n ∷ ns) = ap (λ bs. f (Number n) ∷ bs) (mapped-numbers f ns)

less-false : (a b : ℕ) → b ≤ a → nat_lt a b ≡ false
less-false a b le = le-ltb a b le

most-false : (a b : ℕ) → b < a → nat_le a b ≡ false
most-false a b lt = lt-leb a b lt

-- where something is unknown over the numbers from l to l + m, the test's bound lies among them
module _ (l m v : ℕ) where
  abbrev K : Test → Known
  K test = known_over (map (λ n. passes test (Number n) (Number v)) (range_with_len l (suc m)))

  abbrev CutBy : ℕ → Type 0
  CutBy at = (l < at) × (at ≤ l + m)

  all-yes : (test : Test) → ((k : ℕ) → l ≤ k → k < l + suc m → passes test (Number k) (Number v) ≡ true) → K test ≡ Unknown → ⊥
  all-yes test h e = yes-known (sym (range-yes (λ n. passes test (Number n) (Number v)) l (suc m) h) ∙ e)

  all-no : (test : Test) → ((k : ℕ) → l ≤ k → k < l + suc m → passes test (Number k) (Number v) ≡ false) → K test ≡ Unknown → ⊥
  all-no test h e = no-known (sym (range-no (λ n. passes test (Number n) (Number v)) l (suc m) (omega arith) h) ∙ e)

  below-cut : K t.Below ≡ Unknown → CutBy v
  below-cut e =
      ⊎_elim (λ (low : l < v).
      ⊎_elim (λ (past : l + m < v). absurd (all-yes t.Below (λ k a b. lt-ltb k v (omega arith)) e)) (λ (in_ : v ≤ l + m). (low, in_)) (cases_lt (l + m) v))
      (λ (out : v ≤ l). absurd (all-no t.Below (λ k a b. less-false k v (omega arith)) e)) (cases_lt l v)

  at-least-cut : K t.AtLeast ≡ Unknown → CutBy v
  at-least-cut e =
      ⊎_elim (λ (low : l < v).
      ⊎_elim (λ (past : l + m < v). absurd (all-no t.AtLeast (λ k a b. most-false v k (omega arith)) e)) (λ (in_ : v ≤ l + m). (low, in_)) (cases_lt (l + m) v))
      (λ (out : v ≤ l). absurd (all-yes t.AtLeast (λ k a b. le-leb v k (omega arith)) e)) (cases_lt l v)

  at-most-cut : K t.AtMost ≡ Unknown → CutBy (v + 1)
  at-most-cut e =
      ⊎_elim (λ (out : v < l). absurd (all-no t.AtMost (λ k a b. most-false k v (omega arith)) e)) (λ (low : l ≤ v).
      ⊎_elim (λ (in_ : v < l + m). (omega arith, omega arith)) (λ (past : l + m ≤ v). absurd (all-yes t.AtMost (λ k a b. le-leb k v (omega arith)) e)) (cases_lt v (l + m)))
      (cases_lt v l)

  above-cut : K t.Above ≡ Unknown → CutBy (v + 1)
  above-cut e =
      ⊎_elim (λ (out : v < l). absurd (all-yes t.Above (λ k a b. lt-ltb v k (omega arith)) e)) (λ (low : l ≤ v).
      ⊎_elim (λ (in_ : v < l + m). (omega arith, omega arith)) (λ (past : l + m ≤ v). absurd (all-no t.Above (λ k a b. less-false v k (omega arith)) e)) (cases_lt v (l + m)))
      (cases_lt v l)

  abbrev EqualCut : Type 0
  EqualCut = CutBy (cond (nat_lt l v) v (v + 1))

  -- the number lies among the others
  among-cut : l ≤ v → v ≤ l + m → 0 < m → EqualCut
  among-cut low high more =
      ⊎_elim (λ (above : l < v). rw (lt-ltb l v above) (above, high)) (λ (here : v ≤ l). rw (le-ltb l v here) (omega arith, omega arith)) (cases_lt l v)

  equal-cut : K t.Equal ≡ Unknown → EqualCut
  equal-cut e =
      ⊎_elim (λ (out : v < l). absurd (all-no t.Equal (λ k a b. ne_eqb k v (λ s. omega arith)) e)) (λ (low : l ≤ v).
      ⊎_elim (λ (past : l + m < v). absurd (all-no t.Equal (λ k a b. ne_eqb k v (λ s. omega arith)) e)) (λ (in_ : v ≤ l + m).
      ⊎_elim (λ (more : 0 < m). among-cut low in_ more) (λ (one : m ≤ 0). absurd (all-yes t.Equal (λ k a b. eq-eqb k v (omega arith)) e)) (cases_lt 0 m))
      (cases_lt (l + m) v)) (cases_lt v l)

  not-equal-cut : K t.NotEqual ≡ Unknown → EqualCut
  not-equal-cut e =
      ⊎_elim (λ (out : v < l). absurd (all-yes t.NotEqual (λ k a b. ap not (ne_eqb k v (λ s. omega arith))) e)) (λ (low : l ≤ v).
      ⊎_elim (λ (past : l + m < v). absurd (all-yes t.NotEqual (λ k a b. ap not (ne_eqb k v (λ s. omega arith))) e)) (λ (in_ : v ≤ l + m).
      ⊎_elim (λ (more : 0 < m). among-cut low in_ more) (λ (one : m ≤ 0). absurd (all-no t.NotEqual (λ k a b. ap not (eq-eqb k v (omega arith))) e)) (cases_lt 0 m))
      (cases_lt (l + m) v)) (cases_lt v l)

  cut-by-test : (test : Test) → K test ≡ Unknown → CutBy (cut_number l test v)
  cut-by-test t.Below e = below-cut e
  cut-by-test t.AtLeast e = at-least-cut e
  cut-by-test t.AtMost e = at-most-cut e
  cut-by-test t.Above e = above-cut e
  cut-by-test t.Equal e = equal-cut e
  cut-by-test t.NotEqual e = not-equal-cut e

-- what is left of a range is cut
left-cut : (o : Option (ℕ × ℕ)) (least v : ℕ) (test : Test) → LowIs least o → known_over (map (λ x. passes test x (Number v)) (map Number (numbers_of o))) ≡ Unknown → IsCutOf o (cut_number least test v)
left-cut None least v test h e = yes-known e
left-cut (Some ends) least v test h e =
    let more : ends.1 + 1 - ends.0 ≡ suc (ends.1 - ends.0) = omega (arith, h.1) in
    let top : ends.0 + (ends.1 - ends.0) ≡ ends.1 = omega (arith, h.1) in
    let over : known_over (map (λ n. passes test (Number n) (Number v)) (range_with_len ends.0 (suc (ends.1 - ends.0)))) ≡ Unknown =
    ap (λ n. known_over (map (λ n. passes test (Number n) (Number v)) (range_with_len ends.0 n))) (sym more) ∙ ap known_over (sym (mapped-numbers (λ x. passes test x (Number v)) (range_with_len ends.0 (ends.1 + 1 - ends.0)))) ∙ e in
    let cut = cut-by-test ends.0 (ends.1 - ends.0) v test over in
    subst (λ l. (ends.0 < cut_number l test v) × (cut_number l test v ≤ ends.1)) h.0 (cut.0, subst (λ n. cut_number ends.0 test v ≤ n) top cut.1)

pub range-divided : (path : List Step) (place low high v at : ℕ) (test : Test) → is_unsplit path true place ≡ true → at ≡ cut_number (low_end path place low) test v → known_over (map (λ x. passes test x (Number v)) (param_cells path place (Range low high))) ≡ Unknown → IsDivided path place (Range low high) (Some (Cut place at))
range-divided path place low high v at test whole is unknown =
    (refl, subst (IsCutOf (range_left path place low high)) (sym is) (left-cut (range_left path place low high) (low_end path place low) v test (range-low path place low high whole) unknown))

-- a test against what isn't a number says the same of all numbers
constant-known : {X : Type 0} (f : X → Bool) (b : Bool) (xs : List X) → ((x : X) → f x ≡ b) → known_over (map f xs) ≡ Unknown → ⊥
constant-known {X = X} f b [] h e = yes-known e
constant-known {X = X} f true (x ∷ xs) h e = yes-known (sym (ap (λ b. cond b Yes (cond (list_any (λ b. b) (map f (x ∷ xs))) Unknown No)) (all-constant (x ∷ xs))) ∙ e) where
  all-constant : (ys : List X) → list_all (λ b. b) (map f ys) ≡ true
  all-constant [] = refl
  all-constant (y ∷ ys) = both-true (f y) (list_all (λ b. b) (map f ys)) (h y) (all-constant ys)
constant-known {X = X} f false (x ∷ xs) h e = no-known (sym (rw (h x) (ap (λ b. cond b Unknown No) (none-constant xs))) ∙ e) where
  none-constant : (ys : List X) → list_any (λ b. b) (map f ys) ≡ false
  none-constant [] = refl
  none-constant (y ∷ ys) = rw (h y) (none-constant ys)

pub flag-known : (path : List Step) (place low high : ℕ) (test : Test) (b : Bool) → known_over (map (λ x. passes test x (Flag b)) (map Number (numbers_of (range_left path place low high)))) ≡ Unknown → ⊥
flag-known path place low high test b e = constant-known (λ n. passes test (Number n) (Flag b)) (passes test (Number 0) (Flag b)) (numbers_of (range_left path place low high)) (same test) (ap known_over (sym (mapped-numbers (λ x. passes test x (Flag b)) (numbers_of (range_left path place low high)))) ∙ e) where
  same : (test : Test) (n : ℕ) → passes test (Number n) (Flag b) ≡ passes test (Number 0) (Flag b)
  same t.Equal n = refl
  same t.NotEqual n = refl
  same t.Above n = refl
  same t.AtLeast n = refl
  same t.Below n = refl
  same t.AtMost n = refl

pub word-known : (path : List Step) (place low high : ℕ) (test : Test) (w : List ℕ) → known_over (map (λ x. passes test x (Word w)) (map Number (numbers_of (range_left path place low high)))) ≡ Unknown → ⊥
word-known path place low high test w e = constant-known (λ n. passes test (Number n) (Word w)) (passes test (Number 0) (Word w)) (numbers_of (range_left path place low high)) (same test) (ap known_over (sym (mapped-numbers (λ x. passes test x (Word w)) (numbers_of (range_left path place low high)))) ∙ e) where
  same : (test : Test) (n : ℕ) → passes test (Number n) (Word w) ≡ passes test (Number 0) (Word w)
  same t.Equal n = refl
  same t.NotEqual n = refl
  same t.Above n = refl
  same t.AtLeast n = refl
  same t.Below n = refl
  same t.AtMost n = refl

-- ---- a divided domain is a choice of the space

listed-left : (path : List Step) (place : ℕ) (d : Domain) → is_range d ≡ false → is_unsplit path true place ≡ true → length (param_cells path place d) ≡ length (values_of d)
listed-left path place Flags listed whole = ap length (kept-all path true place 0 (values_of Flags) (is-unsplit path true place whole))
listed-left path place (Numbers ns) listed whole = ap length (kept-all path true place 0 (values_of (Numbers ns)) (is-unsplit path true place whole))
listed-left path place (Words ws) listed whole = ap length (kept-all path true place 0 (values_of (Words ws)) (is-unsplit path true place whole))
listed-left path place (Range low high) listed whole = absurd (true≢false listed)

short-values : (d : Domain) → is_range d ≡ false → IsShortDomain d → length (values_of d) < 2 ^ 32
short-values Flags listed short = short
short-values (Numbers ns) listed short = short
short-values (Words ws) listed short = short
short-values (Range low high) listed short = absurd (true≢false listed)

split-chosen : (space : Space) (path : List Step) (i count : ℕ) (p : ParamSpace) → slice_get space.params i ≡ Some p → IsShortDomain p.domain → is_range p.domain ≡ false → count ≡ length (values_of p.domain) → 2 ≤ count → is_unsplit path true i ≡ true → IsChoice space path (Split true i count)
split-chosen space path i count p there short listed counted two whole =
    let cells : length (param_cells path i p.domain) ≡ count = listed-left path i p.domain listed whole ∙ sym counted in
    let right : option_map_or (λ n. n == count) (cells_left space path true i) false ≡ true = ap (λ o. option_map_or (λ n. n == count) (option_map (λ x. length (param_cells path i x.domain)) o) false) there ∙ eq-eqb (length (param_cells path i p.domain)) count cells in
    let few : count < 2 ^ 32 = omega (arith, short-values p.domain listed short, counted) in
    (both-true (is_unsplit path true i) _ whole (both-true (option_map_or (λ n. n == count) (cells_left space path true i) false) (nat_lt count (2 ^ 32)) right (lt-ltb count (2 ^ 32) few)), two, ap (λ o. option_map_or (λ x. cond (is_range x.domain) false true) o false) there ∙ ap (λ b. cond b false true) listed)

cut-tests : (o : Option (ℕ × ℕ)) (at : ℕ) → IsCutOf o at → option_map_or (λ ends. nat_lt ends.0 at && nat_le at ends.1) o false ≡ true
cut-tests None at h = absurd h
cut-tests (Some ends) at h = both-true (nat_lt ends.0 at) (nat_le at ends.1) (lt-ltb ends.0 at h.0) (le-leb at ends.1 h.1)

divided-cut : (path : List Step) (i to at : ℕ) (d : Domain) → IsDivided path i d (Some (Cut to at)) → (to ≡ i) × IsCutOf (ends_of path i d) at
divided-cut path i to at Flags h = absurd h
divided-cut path i to at (Numbers ns) h = absurd h
divided-cut path i to at (Words ws) h = absurd h
divided-cut path i to at (Range low high) h = (h.0, h.1)

pub divided-chosen : (space : Space) (path : List Step) (i : ℕ) (p : ParamSpace) (o : Option Choice) → slice_get space.params i ≡ Some p → IsShortDomain p.domain → IsDivided path i p.domain o → IsChosen space path o
divided-chosen space path i p None there short h = h
divided-chosen space path i p (Some (Split param to count)) there short h =
    subst (λ b. IsChoice space path (Split b to count)) (sym h.0) (subst (λ n. IsChoice space path (Split true n count)) (sym h.1) (split-chosen space path i count p there short h.2 h.3 h.4 h.5))
divided-chosen space path i p (Some (Cut to at)) there short h =
    let cut = divided-cut path i to at p.domain h in
    subst (λ n. is_cut space path n at ≡ true) (sym cut.0) (ap (λ o. option_map_or (λ ends. nat_lt ends.0 at && nat_le at ends.1) (option_and_then (λ q. ends_of path i q.domain) o) false) there ∙ cut-tests (ends_of path i p.domain) at cut.1)

pub short-at : (space : Space) (es : List ExtSpace) (i : ℕ) (e : ExtSpace) → HasShortLists space → es ≡ space.extensions → i < length es → e ≡ get_or es i e → length e.versions + 1 < 2 ^ 32
short-at space es i e short same lt is =
    let listed : length (get_or es i e).versions < 2 ^ 32 - 1 = subst (All (λ x. length x.versions < 2 ^ 32 - 1)) (sym same) short.versions i e lt in
    let own : length e.versions < 2 ^ 32 - 1 = subst (λ x. length x.versions < 2 ^ 32 - 1) (sym is) listed in
    omega arith

pub short-domain : (space : Space) (ps : List ParamSpace) (i : ℕ) (p : ParamSpace) → HasShortLists space → ps ≡ space.params → i < length ps → p ≡ get_or ps i p → IsShortDomain p.domain
short-domain space ps i p short same lt is =
    subst (λ x. IsShortDomain x.domain) (sym is) (subst (All (λ x. IsShortDomain x.domain)) (sym same) short.values i p lt)

pub param-there : (space : Space) (ps : List ParamSpace) (i : ℕ) (p : ParamSpace) → ps ≡ space.params → i < length ps → p ≡ get_or ps i p → slice_get space.params i ≡ Some p
param-there space ps i p same lt is = ap (λ xs. slice_get xs i) (sym same) ∙ slice_get_read ps (length ps) i p refl lt is

-- ---- the high end of what is left

abbrev IsUpTo : ℕ → Option (ℕ × ℕ) → Type 0
IsUpTo high None = Unit {0}
IsUpTo high (Some ends) = ends.1 ≤ high

up-to-if : (b : Bool) (high : ℕ) (o p : Option (ℕ × ℕ)) → IsUpTo high o → IsUpTo high p → IsUpTo high (cond b o p)
up-to-if true high o p h k = h
up-to-if false high o p h k = k

whole-up : (low last high : ℕ) → last ≤ high → IsUpTo high (range_of low last)
whole-up low last high le = up-to-if (nat_le low last) high (Some (low, last)) None le tt

child-up : (b : Bool) (high first last k : ℕ) → nat_le (first + k) last ≡ b → last ≤ high → IsUpTo high (cond b (Some (first + k, first + k)) None)
child-up true high first last k e le = let within = leb-true (first + k) last e in omega arith
child-up false high first last k e le = tt

narrowed-up : (s : Step) (place high : ℕ) (ends : ℕ × ℕ) → ends.1 ≤ high → IsUpTo high (narrowed place s ends)
narrowed-up (Child q p k) place high ends le = up-to-if (q && (p == place)) high (child_of k ends) (Some ends) (child-up (nat_le (ends.0 + k) ends.1) high ends.0 ends.1 k refl le) le
narrowed-up (Below p at) place high ends le = up-to-if (p == place) high (cond (nat_lt ends.0 at) (Some (ends.0, min ends.1 (at - 1))) None) (Some ends) (up-to-if (nat_lt ends.0 at) high (Some (ends.0, min ends.1 (at - 1))) None (omega (arith, le)) tt) le
narrowed-up (From p at) place high ends le = up-to-if (p == place) high (range_of (max ends.0 at) ends.1) (Some ends) (whole-up (max ends.0 at) ends.1 high le) le

step-up : (s : Step) (place high : ℕ) (o : Option (ℕ × ℕ)) → IsUpTo high o → IsUpTo high (option_and_then (narrowed place s) o)
step-up s place high None h = tt
step-up s place high (Some ends) h = narrowed-up s place high ends h

range-up : (path : List Step) (place low high : ℕ) → IsUpTo high (range_left path place low high)
range-up [] place low high = whole-up low high high (omega arith)
range-up (s ∷ path) place low high = step-up s place high (range_left path place low high) (range-up path place low high)

cut-up : (o : Option (ℕ × ℕ)) (high at : ℕ) → IsUpTo high o → IsCutOf o at → at ≤ high
cut-up None high at h c = absurd c
cut-up (Some ends) high at h c = omega (arith, h, c.1)

-- the code's cut is that of the definition
pub value-divided : (path : List Step) (place low high v at : ℕ) (test : Test) → (is_unsplit path true place ≡ true) → (cut_number (low_end path place low) test v ≤ high → at ≡ cut_number (low_end path place low) test v) → known_over (map (λ x. passes test x (Number v)) (param_cells path place (Range low high))) ≡ Unknown → IsDivided path place (Range low high) (Some (Cut place at))
value-divided path place low high v at test whole gives unknown =
    let cut = left-cut (range_left path place low high) (low_end path place low) v test (range-low path place low high whole) unknown in
    range-divided path place low high v at test whole (gives (cut-up (range_left path place low high) high (cut_number (low_end path place low) test v) (range-up path place low high) cut)) unknown

pub value-divided-at : (path : List Step) (place least low high v at : ℕ) (test : Test) (d : Domain) (given : Value) → d ≡ Range low high → given ≡ Number v → least ≡ low_end path place low → (cut_number least test v ≤ high → at ≡ cut_number least test v) → (is_range d ≡ true → is_unsplit path true place ≡ true) → known_over (map (λ x. passes test x given) (param_cells path place d)) ≡ Unknown → IsDivided path place d (Some (Cut place at))
value-divided-at path place least low high v at test d given dis gis lis gives whole unknown =
    let over : known_over (map (λ x. passes test x (Number v)) (param_cells path place (Range low high))) ≡ Unknown = subst (λ g. known_over (map (λ x. passes test x g) (param_cells path place (Range low high))) ≡ Unknown) gis (subst (λ e. known_over (map (λ x. passes test x given) (param_cells path place e)) ≡ Unknown) dis unknown) in
    subst (λ e. IsDivided path place e (Some (Cut place at))) (sym dis)
    (value-divided path place low high v at test (whole (ap is_range dis)) (subst (λ l. cut_number l test v ≤ high → at ≡ cut_number l test v) lis gives) over)

pub not-number : (path : List Step) (place low high : ℕ) (test : Test) (d : Domain) (given : Value) → d ≡ Range low high → ((v : ℕ) → given ≡ Number v → ⊥) → known_over (map (λ x. passes test x given) (param_cells path place d)) ≡ Unknown → ⊥
not-number path place low high test d (Flag b) dis other unknown = flag-known path place low high test b (subst (λ e. known_over (map (λ x. passes test x (Flag b)) (param_cells path place e)) ≡ Unknown) dis unknown)
not-number path place low high test d (Word w) dis other unknown = word-known path place low high test w (subst (λ e. known_over (map (λ x. passes test x (Word w)) (param_cells path place e)) ≡ Unknown) dis unknown)
not-number path place low high test d (Number v) dis other unknown = other v refl
