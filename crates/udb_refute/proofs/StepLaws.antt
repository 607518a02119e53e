-- One more step leaves each variable a cell, and all of them fewer.
use Rattle.std.proofs.Common.{◌≡◌, ℕ, zero, suc, ◌+◌, ◌-◌, ◌<◌, ◌≤◌, ◌==◌, nat_lt, nat_le, min, max, Bool, true, false, not, ◌&&◌, ◌||◌, List, [], ◌∷◌, map, length, Option, None, Some, slice_get, refl, sym, ap, ◌∙◌, cond, subst, arith, ⊎_elim}
use Rattle.std.specs.List.{list_any, range_with_len}
use Rattle.std.specs.Option.{option_map, option_map_or, option_and_then}
use Rattle.std.proofs.lemmas.Bool.{cases_eq, eq-eqb, ne_eqb, eqb-true, lt-ltb, le-leb, ltb-true, leb-true, false≢true, true≢false}
use Rattle.std.proofs.lemmas.List.{length-map}
use Rattle.std.proofs.lemmas.List.FromFn.{length-range_with_len}
use Rattle.std.proofs.lemmas.Option.{none-some, same_Some}
use Rattle.udb_base.specs.declared.conditions.Value.TheVariants.{Number}
use Rattle.udb_base.specs.declared.spaces.Domain.{Domain}
use Rattle.udb_base.specs.declared.spaces.Domain.TheVariants.{Flags, Numbers, Range, Words}
use Rattle.udb_base.specs.declared.spaces.ExtSpace.{ExtSpace}
use Rattle.udb_base.specs.declared.spaces.ParamSpace.{ParamSpace}
use Rattle.udb_base.specs.declared.spaces.Space.{Space}
use Rattle.udb_spec.specs.Cells.{Step, Child, Below, From, allows, kept, choices_of, values_of, numbers_of, narrowed, range_of, child_of, range_left, ext_cells, param_cells}
use Rattle.udb_spec.specs.Refutes.{splits, is_unsplit, cells_left, ends_of, ends_left}
use Rattle.udb_refute.specs.declared.choices.Choice.TheVariants.{Split, Cut}
use Rattle.udb_refute.specs.Paths.{choice_on}
use Rattle.udb_refute.specs.Search.{is_range, IsOpen, IsChoice, ext_weight, param_weight, weight}
use Rattle.udb_refute.proofs.PathLaws.{both-left, both-right, is-unsplit, kept-all, kept-fewer, kept-same, other-allows, own-left, own-few}

-- ---- cells that a step leaves as they are

ext-same : (s : Step) (path : List Step) (i : ℕ) (e : ExtSpace) → ((n : ℕ) → allows false i n s ≡ true) → ext_cells (s ∷ path) i e ≡ ext_cells path i e
ext-same s path i e h = kept-same s path false i 0 (choices_of e) h

range-same : (s : Step) (i : ℕ) (o : Option (ℕ × ℕ)) → ((ends : ℕ × ℕ) → narrowed i s ends ≡ Some ends) → option_and_then (narrowed i s) o ≡ o
range-same s i None h = refl
range-same s i (Some ends) h = h ends

param-same : (s : Step) (path : List Step) (i : ℕ) (d : Domain) → ((n : ℕ) → allows true i n s ≡ true) → ((ends : ℕ × ℕ) → narrowed i s ends ≡ Some ends) → param_cells (s ∷ path) i d ≡ param_cells path i d
param-same s path i Flags h r = kept-same s path true i 0 (values_of Flags) h
param-same s path i (Numbers ns) h r = kept-same s path true i 0 (values_of (Numbers ns)) h
param-same s path i (Words ws) h r = kept-same s path true i 0 (values_of (Words ws)) h
param-same s path i (Range low high) h r = ap (λ o. map Number (numbers_of o)) (range-same s i (range_left path i low high) r)

other-child : (q : Bool) (p i k : ℕ) (ends : ℕ × ℕ) → (q && (p == i)) ≡ false → narrowed i (Child q p k) ends ≡ Some ends
other-child q p i k ends e = rw e refl

other-below : (p i at : ℕ) (ends : ℕ × ℕ) → (p == i) ≡ false → narrowed i (Below p at) ends ≡ Some ends
other-below p i at ends e = rw e refl

other-from : (p i at : ℕ) (ends : ℕ × ℕ) → (p == i) ≡ false → narrowed i (From p at) ends ≡ Some ends
other-from p i at ends e = rw e refl

-- ---- a step never adds cells

numbers-count : (o : Option (ℕ × ℕ)) → ℕ
numbers-count o = length (map Number (numbers_of o))

some-count : (low high : ℕ) → length (map Number (range_with_len low (high + 1 - low))) ≡ high + 1 - low
some-count low high = length-map (range_with_len low (high + 1 - low)) Number ∙ length-range_with_len low (high + 1 - low)

range-fewer : (b : Bool) (low last first high : ℕ) → nat_le first last ≡ b → low ≤ first → last ≤ high → length (map Number (numbers_of (cond b (Some (first, last)) None))) ≤ length (map Number (range_with_len low (high + 1 - low)))
range-fewer true low last first high e a b = omega (arith, some-count first last, some-count low high)
range-fewer false low last first high e a b = omega arith

child-fewer : (b : Bool) (low high k : ℕ) → nat_le (low + k) high ≡ b → length (map Number (numbers_of (cond b (Some (low + k, low + k)) None))) ≤ length (map Number (range_with_len low (high + 1 - low)))
child-fewer true low high k e = let within = leb-true (low + k) high e in omega (arith, some-count (low + k) (low + k), some-count low high)
child-fewer false low high k e = omega arith

below-fewer : (b : Bool) (low high at : ℕ) → length (map Number (numbers_of (cond b (Some (low, min high (at - 1))) None))) ≤ length (map Number (range_with_len low (high + 1 - low)))
below-fewer true low high at = omega (arith, some-count low (min high (at - 1)), some-count low high)
below-fewer false low high at = omega arith

if-fewer : (b : Bool) (o : Option (ℕ × ℕ)) (ends : ℕ × ℕ) → length (map Number (numbers_of o)) ≤ length (map Number (range_with_len ends.0 (ends.1 + 1 - ends.0))) → length (map Number (numbers_of (cond b o (Some ends)))) ≤ length (map Number (range_with_len ends.0 (ends.1 + 1 - ends.0)))
if-fewer true o ends h = h
if-fewer false o ends h = omega arith

narrowed-fewer : (s : Step) (i : ℕ) (ends : ℕ × ℕ) → length (map Number (numbers_of (narrowed i s ends))) ≤ length (map Number (range_with_len ends.0 (ends.1 + 1 - ends.0)))
narrowed-fewer (Child q p k) i ends = if-fewer (q && (p == i)) (child_of k ends) ends (child-fewer (nat_le (ends.0 + k) ends.1) ends.0 ends.1 k refl)
narrowed-fewer (Below p at) i ends = if-fewer (p == i) (cond (nat_lt ends.0 at) (Some (ends.0, min ends.1 (at - 1))) None) ends (below-fewer (nat_lt ends.0 at) ends.0 ends.1 at)
narrowed-fewer (From p at) i ends = if-fewer (p == i) (range_of (max ends.0 at) ends.1) ends (range-fewer (nat_le (max ends.0 at) ends.1) ends.0 ends.1 (max ends.0 at) ends.1 refl (omega arith) (omega arith))

step-fewer : (s : Step) (i : ℕ) (o : Option (ℕ × ℕ)) → length (map Number (numbers_of (option_and_then (narrowed i s) o))) ≤ length (map Number (numbers_of o))
step-fewer s i None = omega arith
step-fewer s i (Some ends) = narrowed-fewer s i ends

ext-fewer : (s : Step) (path : List Step) (i : ℕ) (e : ExtSpace) → length (ext_cells (s ∷ path) i e) ≤ length (ext_cells path i e)
ext-fewer s path i e = kept-fewer s path false i 0 (choices_of e)

param-fewer : (s : Step) (path : List Step) (i : ℕ) (d : Domain) → length (param_cells (s ∷ path) i d) ≤ length (param_cells path i d)
param-fewer s path i Flags = kept-fewer s path true i 0 (values_of Flags)
param-fewer s path i (Numbers ns) = kept-fewer s path true i 0 (values_of (Numbers ns))
param-fewer s path i (Words ws) = kept-fewer s path true i 0 (values_of (Words ws))
param-fewer s path i (Range low high) = step-fewer s i (range_left path i low high)

exts-fewer : (s : Step) (path : List Step) (n : ℕ) (es : List ExtSpace) → ext_weight (s ∷ path) n es ≤ ext_weight path n es
exts-fewer s path n [] = omega arith
exts-fewer s path n (e ∷ es) = omega (arith, ext-fewer s path n e, exts-fewer s path (n + 1) es)

params-fewer : (s : Step) (path : List Step) (n : ℕ) (ps : List ParamSpace) → param_weight (s ∷ path) n ps ≤ param_weight path n ps
params-fewer s path n [] = omega arith
params-fewer s path n (p ∷ ps) = omega (arith, param-fewer s path n p.domain, params-fewer s path (n + 1) ps)

-- and fewer in all where one variable has fewer
exts-less : (s : Step) (path : List Step) (n i : ℕ) (es : List ExtSpace) (e : ExtSpace) → slice_get es i ≡ Some e → length (ext_cells (s ∷ path) (n + i) e) < length (ext_cells path (n + i) e) → ext_weight (s ∷ path) n es < ext_weight path n es
exts-less s path n i [] e found less = absurd (none-some e found)
exts-less s path n zero (f ∷ es) e found less =
    let at : n + 0 ≡ n = omega arith in
    let own : length (ext_cells (s ∷ path) n f) < length (ext_cells path n f) = subst (λ x. length (ext_cells (s ∷ path) n x) < length (ext_cells path n x)) (sym (same_Some f e found)) (subst (λ m. length (ext_cells (s ∷ path) m e) < length (ext_cells path m e)) at less) in
    omega (arith, own, exts-fewer s path (n + 1) es)
exts-less s path n (suc i) (f ∷ es) e found less =
    let at : n + suc i ≡ n + 1 + i = omega arith in
    omega (arith, ext-fewer s path n f, exts-less s path (n + 1) i es e found (subst (λ m. length (ext_cells (s ∷ path) m e) < length (ext_cells path m e)) at less))

params-less : (s : Step) (path : List Step) (n i : ℕ) (ps : List ParamSpace) (p : ParamSpace) → slice_get ps i ≡ Some p → length (param_cells (s ∷ path) (n + i) p.domain) < length (param_cells path (n + i) p.domain) → param_weight (s ∷ path) n ps < param_weight path n ps
params-less s path n i [] p found less = absurd (none-some p found)
params-less s path n zero (q ∷ ps) p found less =
    let at : n + 0 ≡ n = omega arith in
    let own : length (param_cells (s ∷ path) n q.domain) < length (param_cells path n q.domain) = subst (λ x. length (param_cells (s ∷ path) n x.domain) < length (param_cells path n x.domain)) (sym (same_Some q p found)) (subst (λ m. length (param_cells (s ∷ path) m p.domain) < length (param_cells path m p.domain)) at less) in
    omega (arith, own, params-fewer s path (n + 1) ps)
params-less s path n (suc i) (q ∷ ps) p found less =
    let at : n + suc i ≡ n + 1 + i = omega arith in
    omega (arith, param-fewer s path n q.domain, params-less s path (n + 1) i ps p found (subst (λ m. length (param_cells (s ∷ path) m p.domain) < length (param_cells path m p.domain)) at less))

-- ---- the variable that is divided

there : {X : Type 0} (f : X → Bool) (o : Option X) → option_map_or f o false ≡ true → (x : X) × (o ≡ Some x) × (f x ≡ true)
there f None e = absurd (false≢true e)
there f (Some x) e = (x, refl, e)

pub counted-there : {X : Type 0} (f : X → ℕ) (n : ℕ) (o : Option X) → option_map_or (λ m. m == n) (option_map f o) false ≡ true → (x : X) × (o ≡ Some x) × (f x ≡ n)
counted-there f n None e = absurd (false≢true e)
counted-there f n (Some x) e = (x, refl, eqb-true (f x) n e)

unrange : (p : ParamSpace) (b : Bool) → is_range p.domain ≡ b → cond b false true ≡ true → is_range p.domain ≡ false
unrange p true is e = absurd (false≢true e)
unrange p false is e = is

listed-cells : (path : List Step) (i : ℕ) (d : Domain) → is_range d ≡ false → param_cells path i d ≡ kept path true i 0 (values_of d)
listed-cells path i Flags e = refl
listed-cells path i (Numbers ns) e = refl
listed-cells path i (Words ws) e = refl
listed-cells path i (Range low high) e = absurd (true≢false e)

module _ (space : Space) (path : List Step) (open_ : IsOpen space path) where
  -- a choice of an extension
  module _ (place count k : ℕ) (choice : IsChoice space path (Split false place count)) (lt : k < count) where
    ext-choice : (e : ExtSpace) × (slice_get space.extensions place ≡ Some e) × (choice_on path false place ≡ None) × (length (choices_of e) ≡ count)
    ext-choice =
        let unsplit = is-unsplit path false place (both-left (is_unsplit path false place) _ choice.0) in
        let at = counted-there (λ e. length (ext_cells path place e)) count (slice_get space.extensions place) (both-left (option_map_or (λ m. m == count) (cells_left space path false place) false) _ (both-right (is_unsplit path false place) _ choice.0)) in
        (at.0, at.1, unsplit, ap length (sym (kept-all path false place 0 (choices_of at.0) unsplit)) ∙ at.2)

    child-ext-left : (i : ℕ) (e : ExtSpace) → slice_get space.extensions i ≡ Some e → 1 ≤ length (ext_cells (Child false place k ∷ path) i e)
    child-ext-left i e found =
        ⊎_elim
        (λ (is : place ≡ i).
        let same : ext-choice.0 ≡ e = same_Some ext-choice.0 e (sym ext-choice.1 ∙ ap (slice_get space.extensions) is ∙ found) in
        subst (λ n. 1 ≤ length (ext_cells (Child false place k ∷ path) n e)) is
        (subst (λ x. 1 ≤ length (ext_cells (Child false place k ∷ path) place x)) same (own-left path false place k (choices_of ext-choice.0) ext-choice.2 (omega (arith, lt, ext-choice.3)))))
        (λ (ne : place ≡ i → ⊥).
        subst (λ xs. 1 ≤ length xs) (sym (ext-same (Child false place k) path i e (λ n. other-allows false false i place n k (ne_eqb place i ne)))) (open_.extensions i e found))
        (cases_eq place i)

    child-ext-open : IsOpen space (Child false place k ∷ path)
    child-ext-open = record {
      extensions = child-ext-left;
      params = λ i p found. subst (λ xs. 1 ≤ length xs) (sym (param-same (Child false place k) path i p.domain (λ n. refl) (λ ends. refl))) (open_.params i p found);
      ranges = λ i p found range. open_.ranges i p found range;
    }

    child-ext-less : weight space (Child false place k ∷ path) < weight space path
    child-ext-less =
        let s = Child false place k in
        let e = ext-choice.0 in
        let one = own-few path false place k (choices_of e) in
        let before : length (ext_cells path place e) ≡ count = ap length (kept-all path false place 0 (choices_of e) ext-choice.2) ∙ ext-choice.3 in
        let at : 0 + place ≡ place = omega arith in
        let less : length (ext_cells (s ∷ path) (0 + place) e) < length (ext_cells path (0 + place) e) = subst (λ n. length (ext_cells (s ∷ path) n e) < length (ext_cells path n e)) (sym at) (omega (arith, one, before, choice.1)) in
        omega (arith, exts-less s path 0 place space.extensions e ext-choice.1 less, params-fewer s path 0 space.params)

  -- a choice of a parameter
  module _ (place count k : ℕ) (choice : IsChoice space path (Split true place count)) (lt : k < count) where
    param-choice : (p : ParamSpace) × (slice_get space.params place ≡ Some p) × (choice_on path true place ≡ None) × (length (param_cells path place p.domain) ≡ count) × (is_range p.domain ≡ false)
    param-choice =
        let unsplit = is-unsplit path true place (both-left (is_unsplit path true place) _ choice.0) in
        let at = counted-there (λ p. length (param_cells path place p.domain)) count (slice_get space.params place) (both-left (option_map_or (λ m. m == count) (cells_left space path true place) false) _ (both-right (is_unsplit path true place) _ choice.0)) in
        let listed : cond (is_range at.0.domain) false true ≡ true = ap (λ o. option_map_or (λ p. cond (is_range p.domain) false true) o false) (sym at.1) ∙ choice.2 in
        (at.0, at.1, unsplit, at.2, unrange at.0 (is_range at.0.domain) refl listed)

    child-param-left : (i : ℕ) (p : ParamSpace) → slice_get space.params i ≡ Some p → 1 ≤ length (param_cells (Child true place k ∷ path) i p.domain)
    child-param-left i p found =
        ⊎_elim
        (λ (is : place ≡ i).
        let q = param-choice.0 in
        let same : q ≡ p = same_Some q p (sym param-choice.1 ∙ ap (slice_get space.params) is ∙ found) in
        let cells = listed-cells path place q.domain param-choice.4 in
        let size : length (values_of q.domain) ≡ count = ap length (sym (cells ∙ kept-all path true place 0 (values_of q.domain) param-choice.2)) ∙ param-choice.3 in
        let left : 1 ≤ length (param_cells (Child true place k ∷ path) place q.domain) = subst (λ xs. 1 ≤ length xs) (sym (listed-cells (Child true place k ∷ path) place q.domain param-choice.4)) (own-left path true place k (values_of q.domain) param-choice.2 (omega (arith, lt, size))) in
        subst (λ n. 1 ≤ length (param_cells (Child true place k ∷ path) n p.domain)) is (subst (λ x. 1 ≤ length (param_cells (Child true place k ∷ path) place x.domain)) same left))
        (λ (ne : place ≡ i → ⊥).
        subst (λ xs. 1 ≤ length xs) (sym (param-same (Child true place k) path i p.domain (λ n. other-allows true true i place n k (ne_eqb place i ne)) (λ ends. other-child true place i k ends (ne_eqb place i ne)))) (open_.params i p found))
        (cases_eq place i)

    child-range : (i : ℕ) (p : ParamSpace) → slice_get space.params i ≡ Some p → is_range p.domain ≡ true → is_unsplit (Child true place k ∷ path) true i ≡ true
    child-range i p found range =
        ⊎_elim
        (λ (is : place ≡ i).
        let same : param-choice.0 ≡ p = same_Some param-choice.0 p (sym param-choice.1 ∙ ap (slice_get space.params) is ∙ found) in
        absurd (true≢false (sym range ∙ sym (ap (λ x. is_range x.domain) same) ∙ param-choice.4)))
        (λ (ne : place ≡ i → ⊥). rw (ne_eqb place i ne) (open_.ranges i p found range))
        (cases_eq place i)

    child-param-open : IsOpen space (Child true place k ∷ path)
    child-param-open = record {
      extensions = λ i e found. subst (λ xs. 1 ≤ length xs) (sym (ext-same (Child true place k) path i e (λ n. refl))) (open_.extensions i e found);
      params = child-param-left;
      ranges = child-range;
    }

    child-param-less : weight space (Child true place k ∷ path) < weight space path
    child-param-less =
        let s = Child true place k in
        let p = param-choice.0 in
        let one : length (param_cells (s ∷ path) place p.domain) ≤ 1 = subst (λ xs. length xs ≤ 1) (sym (listed-cells (s ∷ path) place p.domain param-choice.4)) (own-few path true place k (values_of p.domain)) in
        let at : 0 + place ≡ place = omega arith in
        let less : length (param_cells (s ∷ path) (0 + place) p.domain) < length (param_cells path (0 + place) p.domain) = subst (λ n. length (param_cells (s ∷ path) n p.domain) < length (param_cells path n p.domain)) (sym at) (omega (arith, one, param-choice.3, choice.1)) in
        omega (arith, params-less s path 0 place space.params p param-choice.1 less, exts-fewer s path 0 space.extensions)

  pub child-open : (param : Bool) (place count k : ℕ) → IsChoice space path (Split param place count) → k < count → IsOpen space (Child param place k ∷ path)
  child-open true place count k choice lt = child-param-open place count k choice lt
  child-open false place count k choice lt = child-ext-open place count k choice lt

  pub child-less : (param : Bool) (place count k : ℕ) → IsChoice space path (Split param place count) → k < count → weight space (Child param place k ∷ path) < weight space path
  child-less true place count k choice lt = child-param-less place count k choice lt
  child-less false place count k choice lt = child-ext-less place count k choice lt

-- ---- a range that is cut

and-then-there : {X Y : Type 0} (f : X → Option Y) (o : Option X) (y : Y) → option_and_then f o ≡ Some y → (x : X) × (o ≡ Some x) × (f x ≡ Some y)
and-then-there f None y e = absurd (none-some y e)
and-then-there f (Some x) y e = (x, refl, e)

-- the numbers below a number between the ends, or from it, are some of those that are left, but not all
below-cells : (path : List Step) (place at : ℕ) (d : Domain) (ends : ℕ × ℕ) → ends_of path place d ≡ Some ends → ends.0 < at → at ≤ ends.1 → (1 ≤ length (param_cells (Below place at ∷ path) place d)) × (length (param_cells (Below place at ∷ path) place d) < length (param_cells path place d))
below-cells path place at Flags ends e a b = absurd (none-some ends e)
below-cells path place at (Numbers ns) ends e a b = absurd (none-some ends e)
below-cells path place at (Words ws) ends e a b = absurd (none-some ends e)
below-cells path place at (Range low high) ends e a b =
    let cut : option_and_then (narrowed place (Below place at)) (range_left path place low high) ≡ Some (ends.0, min ends.1 (at - 1)) = ap (option_and_then (narrowed place (Below place at))) e ∙ rw (eq-eqb place place refl, lt-ltb ends.0 at a) refl in
    let left : length (param_cells (Below place at ∷ path) place (Range low high)) ≡ min ends.1 (at - 1) + 1 - ends.0 = ap (λ o. length (map Number (numbers_of o))) cut ∙ some-count ends.0 (min ends.1 (at - 1)) in
    let all_left : length (param_cells path place (Range low high)) ≡ ends.1 + 1 - ends.0 = ap (λ o. length (map Number (numbers_of o))) e ∙ some-count ends.0 ends.1 in
    (omega (arith, left), omega (arith, left, all_left))

from-cells : (path : List Step) (place at : ℕ) (d : Domain) (ends : ℕ × ℕ) → ends_of path place d ≡ Some ends → ends.0 < at → at ≤ ends.1 → (1 ≤ length (param_cells (From place at ∷ path) place d)) × (length (param_cells (From place at ∷ path) place d) < length (param_cells path place d))
from-cells path place at Flags ends e a b = absurd (none-some ends e)
from-cells path place at (Numbers ns) ends e a b = absurd (none-some ends e)
from-cells path place at (Words ws) ends e a b = absurd (none-some ends e)
from-cells path place at (Range low high) ends e a b =
    let cut : option_and_then (narrowed place (From place at)) (range_left path place low high) ≡ Some (max ends.0 at, ends.1) = ap (option_and_then (narrowed place (From place at))) e ∙ rw (eq-eqb place place refl) (rw (le-leb (max ends.0 at) ends.1 (omega arith)) refl) in
    let left : length (param_cells (From place at ∷ path) place (Range low high)) ≡ ends.1 + 1 - max ends.0 at = ap (λ o. length (map Number (numbers_of o))) cut ∙ some-count (max ends.0 at) ends.1 in
    let all_left : length (param_cells path place (Range low high)) ≡ ends.1 + 1 - ends.0 = ap (λ o. length (map Number (numbers_of o))) e ∙ some-count ends.0 ends.1 in
    (omega (arith, left), omega (arith, left, all_left))

module _ (space : Space) (path : List Step) (open_ : IsOpen space path) (place at : ℕ) (choice : IsChoice space path (Cut place at)) where
  cut-there : (p : ParamSpace) × (ends : ℕ × ℕ) × (slice_get space.params place ≡ Some p) × (ends_of path place p.domain ≡ Some ends) × (ends.0 < at) × (at ≤ ends.1)
  cut-there =
      let left = there (λ ends. nat_lt ends.0 at && nat_le at ends.1) (ends_left space path place) choice in
      let p = and-then-there (λ q. ends_of path place q.domain) (slice_get space.params place) left.0 left.1 in
      (p.0, left.0, p.1, p.2, ltb-true left.0.0 at (both-left (nat_lt left.0.0 at) (nat_le at left.0.1) left.2), leb-true at left.0.1 (both-right (nat_lt left.0.0 at) (nat_le at left.0.1) left.2))

  module _ (s : Step) (free : (param : Bool) (i n : ℕ) → allows param i n s ≡ true) (whole : (i : ℕ) → splits true i s ≡ false) (other : (i : ℕ) (ends : ℕ × ℕ) → (place == i) ≡ false → narrowed i s ends ≡ Some ends) (cells : (1 ≤ length (param_cells (s ∷ path) place cut-there.0.domain)) × (length (param_cells (s ∷ path) place cut-there.0.domain) < length (param_cells path place cut-there.0.domain))) where
    side-left : (i : ℕ) (p : ParamSpace) → slice_get space.params i ≡ Some p → 1 ≤ length (param_cells (s ∷ path) i p.domain)
    side-left i p found =
        ⊎_elim
        (λ (is : place ≡ i).
        let same : cut-there.0 ≡ p = same_Some cut-there.0 p (sym cut-there.2 ∙ ap (slice_get space.params) is ∙ found) in
        subst (λ n. 1 ≤ length (param_cells (s ∷ path) n p.domain)) is (subst (λ x. 1 ≤ length (param_cells (s ∷ path) place x.domain)) same cells.0))
        (λ (ne : place ≡ i → ⊥). subst (λ xs. 1 ≤ length xs) (sym (param-same s path i p.domain (free true i) (λ ends. other i ends (ne_eqb place i ne)))) (open_.params i p found))
        (cases_eq place i)

    side-open : IsOpen space (s ∷ path)
    side-open = record {
      extensions = λ i e found. subst (λ xs. 1 ≤ length xs) (sym (ext-same s path i e (free false i))) (open_.extensions i e found);
      params = side-left;
      ranges = λ i p found range. ap (λ b. not (b || list_any (splits true i) path)) (whole i) ∙ open_.ranges i p found range;
    }

    side-less : weight space (s ∷ path) < weight space path
    side-less =
        let p = cut-there.0 in
        let at_ : 0 + place ≡ place = omega arith in
        let less : length (param_cells (s ∷ path) (0 + place) p.domain) < length (param_cells path (0 + place) p.domain) = subst (λ n. length (param_cells (s ∷ path) n p.domain) < length (param_cells path n p.domain)) (sym at_) cells.1 in
        omega (arith, params-less s path 0 place space.params p cut-there.2 less, exts-fewer s path 0 space.extensions)

  below-both : IsOpen space (Below place at ∷ path) × (weight space (Below place at ∷ path) < weight space path)
  below-both =
      let cells = below-cells path place at cut-there.0.domain cut-there.1 cut-there.3 cut-there.4 cut-there.5 in
      (side-open (Below place at) (λ param i n. refl) (λ i. refl) (λ i ends e. other-below place i at ends e) cells, side-less (Below place at) (λ param i n. refl) (λ i. refl) (λ i ends e. other-below place i at ends e) cells)

  from-both : IsOpen space (From place at ∷ path) × (weight space (From place at ∷ path) < weight space path)
  from-both =
      let cells = from-cells path place at cut-there.0.domain cut-there.1 cut-there.3 cut-there.4 cut-there.5 in
      (side-open (From place at) (λ param i n. refl) (λ i. refl) (λ i ends e. other-from place i at ends e) cells, side-less (From place at) (λ param i n. refl) (λ i. refl) (λ i ends e. other-from place i at ends e) cells)

  pub below-open : IsOpen space (Below place at ∷ path)
  below-open = below-both.0

  pub below-less : weight space (Below place at ∷ path) < weight space path
  below-less = below-both.1

  pub from-open : IsOpen space (From place at ∷ path)
  from-open = from-both.0

  pub from-less : weight space (From place at ∷ path) < weight space path
  from-less = from-both.1

pub ruleset step_laws = (child-open, child-less, below-open, below-less, from-open, from-less)
