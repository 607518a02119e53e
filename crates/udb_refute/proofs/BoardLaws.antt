-- A board step by step, and paths over one variable alone that leave it what the whole path leaves.
use Rattle.std.proofs.Common.{◌≡◌, ◌≢◌, ℕ, zero, suc, ◌+◌, ◌-◌, ◌<◌, ◌≤◌, ◌==◌, nat_lt, nat_le, min, max, Bool, true, false, ◌&&◌, List, [], ◌∷◌, ◌++◌, map, length, get_or, Option, None, Some, slice_get, Contains, refl, sym, ap, ◌∙◌, cond, subst, arith, ⊎_elim}
use Rattle.std.specs.List.{list_any, slice_set}
use Rattle.std.specs.Option.{option_and_then}
use Rattle.std.proofs.lemmas.Bool.{cases_eq, eq-eqb, ne_eqb, lt-ltb, le-leb, ltb-true, eqb-true}
use Rattle.std.proofs.lemmas.List.{length-append, length-set, get_or-set_same, get_or-set_other}
use Rattle.std.proofs.lemmas.Option.{same_Some, slice_get_within, slice_get-get_or}
use Rattle.udb_base.specs.declared.conditions.Value.TheVariants.{Number}
use Rattle.udb_base.specs.declared.spaces.Domain.{Domain}
use Rattle.udb_base.specs.declared.spaces.Domain.TheVariants.{Flags, Numbers, Range, Words}
use Rattle.udb_spec.specs.Cells.{Step, Child, Below, From, values_of, numbers_of, range_of, narrowed, kept, range_left, param_cells}
use Rattle.udb_spec.specs.Refutes.{splits, is_unsplit}
use Rattle.udb_refute.specs.declared.boards.Left.{Left}
use Rattle.udb_refute.specs.declared.boards.Board.{Board}
use Rattle.udb_refute.specs.Boards.{lesser, bound_on, left_on, Shows, split_path, below_path, path_of}
use Rattle.udb_refute.specs.Paths.{choice_on, low_end, or_zero}
use Rattle.udb_refute.specs.Search.{is_range}
use Rattle.udb_refute.proofs.PathLaws.{is-unsplit, kept-all, kept-few, kept-same, own-on, own-left, first-kept}
use Rattle.udb_refute.proofs.FirstLaws.{LowIs, range-low, not-or-left, not-or-right}

-- ---- one item put in place of another

set-same : {X : Type 0} (xs : List X) (p : ℕ) (y : X) → p < length xs → slice_get (slice_set xs p y) p ≡ Some y
set-same xs p y lt = slice_get-get_or (slice_set xs p y) p y (omega (arith, lt, length-set xs p y)) ∙ ap Some (get_or-set_same xs p y y lt)

set-other : {X : Type 0} (xs : List X) (p i : ℕ) (y : X) → i ≢ p → i < length xs → slice_get (slice_set xs p y) i ≡ slice_get xs i
set-other xs p i y ne lt =
    slice_get-get_or (slice_set xs p y) i y (omega (arith, lt, length-set xs p y)) ∙ ap Some (get_or-set_other xs p i y y ne) ∙ sym (slice_get-get_or xs i y lt)

pub put-within : {X : Type 0} (xs : List X) (p i : ℕ) (y : X) → i < length xs → slice_get (slice_set xs p y) i ≡ cond (p == i) (Some y) (slice_get xs i)
put-within xs p i y lt =
    ⊎_elim
    (λ (is : p ≡ i). rw (eq-eqb p i is) (subst (λ k. slice_get (slice_set xs p y) k ≡ Some y) is (set-same xs p y (omega (arith, lt, is)))))
    (λ (ne : p ≡ i → ⊥). rw (ne_eqb p i ne) (set-other xs p i y (λ e. ne (sym e)) lt))
    (cases_eq p i)

pub put-past : {X : Type 0} (xs : List X) (p i : ℕ) (y : X) → length xs ≤ p → i < length xs → slice_get xs i ≡ cond (p == i) (Some y) (slice_get xs i)
put-past xs p i y le lt = rw (ne_eqb p i (λ e. omega (arith, le, lt, e))) refl

-- what a list shows after an item was put
put-shows : {X : Type 0} (old new : List X) (p n : ℕ) (y : X) (f g : ℕ → X) → ((i : ℕ) → i < length old → slice_get new i ≡ cond (p == i) (Some y) (slice_get old i)) → ((i : ℕ) → i < n → slice_get old i ≡ Some (f i)) → ((i : ℕ) → i < n → p ≡ i → y ≡ g i) → ((i : ℕ) → (p == i) ≡ false → f i ≡ g i) → (i : ℕ) → i < n → slice_get new i ≡ Some (g i)
put-shows {X = X} old new p n y f g puts shown own other i lt =
    puts i (slice_get_within old i (f i) (shown i lt)) ∙ by_test (p == i) refl where
      by_test : (b : Bool) → (p == i) ≡ b → cond b (Some y) (slice_get old i) ≡ Some (g i)
      by_test true e = ap Some (own i lt (eqb-true p i e))
      by_test false e = shown i lt ∙ ap Some (other i e)

-- ---- one more step

pub extension-split : (old new : Board) (place child n m : ℕ) (path : List Step) → ((i : ℕ) → i < length old.extensions → slice_get new.extensions i ≡ cond (place == i) (Some (Some child)) (slice_get old.extensions i)) → new.params ≡ old.params → Shows n m path old → Shows n m (Child false place child ∷ path) new
extension-split old new place child n m path puts same shown = record {
  extensions = put-shows old.extensions new.extensions place n (Some child) (choice_on path false) (choice_on (Child false place child ∷ path) false) puts shown.extensions (λ i lt is. rw (eq-eqb place i is) refl) (λ i e. rw e refl);
  params = λ i lt. ap (λ xs. slice_get xs i) same ∙ shown.params i lt;
}

module _ (old new : Board) (place n m : ℕ) (path : List Step) (before : Left)
    (same : new.extensions ≡ old.extensions)
    (reads : (left : Left) → slice_get old.params place ≡ Some left → before ≡ left)
    (shown : Shows n m path old) where
  here : (i : ℕ) → i < m → place ≡ i → before ≡ left_on path i
  here i lt is = reads (left_on path i) (subst (λ k. slice_get old.params k ≡ Some (left_on path i)) (sym is) (shown.params i lt))

  pub param-split : (child : ℕ) → ((i : ℕ) → i < length old.params → slice_get new.params i ≡ cond (place == i) (Some (record { choice = Some child; from = before.from; below = before.below })) (slice_get old.params i)) → Shows n m (Child true place child ∷ path) new
  param-split child puts = record {
    extensions = λ i lt. ap (λ xs. slice_get xs i) same ∙ shown.extensions i lt;
    params = put-shows old.params new.params place m (record { choice = Some child; from = before.from; below = before.below }) (left_on path) (left_on (Child true place child ∷ path)) puts shown.params
        (λ i lt is. rw (eq-eqb place i is) (ap (λ (l : Left). the_split child l) (here i lt is)))
        (λ i e. rw e refl);
  } where
    the_split : ℕ → Left → Left
    the_split k l = record { choice = Some k; from = l.from; below = l.below }

  pub param-below : (at : ℕ) → ((i : ℕ) → i < length old.params → slice_get new.params i ≡ cond (place == i) (Some (record { choice = before.choice; from = before.from; below = Some (lesser at before.below) })) (slice_get old.params i)) → Shows n m (Below place at ∷ path) new
  param-below at puts = record {
    extensions = λ i lt. ap (λ xs. slice_get xs i) same ∙ shown.extensions i lt;
    params = put-shows old.params new.params place m (record { choice = before.choice; from = before.from; below = Some (lesser at before.below) }) (left_on path) (left_on (Below place at ∷ path)) puts shown.params
        (λ i lt is. rw (eq-eqb place i is) (ap (λ (l : Left). the_cut at l) (here i lt is)))
        (λ i e. rw e refl);
  } where
    the_cut : ℕ → Left → Left
    the_cut k l = record { choice = l.choice; from = l.from; below = Some (lesser k l.below) }

  pub param-from : (at : ℕ) → ((i : ℕ) → i < length old.params → slice_get new.params i ≡ cond (place == i) (Some (record { choice = before.choice; from = max before.from at; below = before.below })) (slice_get old.params i)) → Shows n m (From place at ∷ path) new
  param-from at puts = record {
    extensions = λ i lt. ap (λ xs. slice_get xs i) same ∙ shown.extensions i lt;
    params = put-shows old.params new.params place m (record { choice = before.choice; from = max before.from at; below = before.below }) (left_on path) (left_on (From place at ∷ path)) puts shown.params
        (λ i lt is. rw (eq-eqb place i is) (ap (λ (l : Left). the_cut at l) (here i lt is)))
        (λ i e. rw e refl);
  } where
    the_cut : ℕ → Left → Left
    the_cut k l = record { choice = l.choice; from = max l.from k; below = l.below }

-- ---- paths with the same choice of a listed variable

single : {X : Type 0} (ys : List X) (x : X) → length ys ≤ 1 → Contains ys x → ys ≡ x ∷ []
single [] x le h = absurd (omega (arith, h.1))
single (y ∷ []) x le h = let first : h.0 ≡ 0 = omega (arith, h.1) in ap (λ z. z ∷ []) (subst (λ k. get_or (y ∷ []) k x ≡ x) first h.2)
single (y ∷ z ∷ ys) x le h = absurd (omega (arith, le))

alike : {X : Type 0} (first second : List Step) (param : Bool) (i j : ℕ) (xs : List X) → choice_on first param i ≡ choice_on second param j → 1 ≤ length (kept first param i 0 xs) → 1 ≤ length (kept second param j 0 xs) → kept first param i 0 xs ≡ kept second param j 0 xs
alike first second param i j xs same some others = by_choice (choice_on second param j) refl where
  by_choice : (o : Option ℕ) → choice_on second param j ≡ o → kept first param i 0 xs ≡ kept second param j 0 xs
  by_choice None e = kept-all first param i 0 xs (same ∙ e) ∙ sym (kept-all second param j 0 xs e)
  by_choice (Some m) e =
      let f = first-kept first param i xs some in
      let s = first-kept second param j xs others in
      let one : f.0 ≡ s.0 = same_Some f.0 s.0 (sym f.1 ∙ ap (λ o. slice_get xs (or_zero o)) same ∙ s.1) in
      single (kept first param i 0 xs) f.0 (kept-few first param i 0 m xs (same ∙ e)) f.2
      ∙ ap (λ x. x ∷ []) one
      ∙ sym (single (kept second param j 0 xs) s.0 (kept-few second param j 0 m xs e) s.2)

split-on : (param : Bool) (o : Option ℕ) → choice_on (split_path param o []) param 0 ≡ o
split-on param None = refl
split-on param (Some k) = own-on [] param 0 k

split-some : {X : Type 0} (path : List Step) (param : Bool) (i : ℕ) (o : Option ℕ) (xs : List X) → o ≡ choice_on path param i → 1 ≤ length (kept path param i 0 xs) → 1 ≤ length (kept (split_path param o []) param 0 0 xs)
split-some path param i None xs is some = subst (λ ys. 1 ≤ length ys) (kept-all path param i 0 xs (sym is) ∙ sym (kept-all [] param 0 0 xs refl)) some
split-some path param i (Some k) xs is some =
    let f = first-kept path param i xs some in
    own-left [] param 0 k xs refl (slice_get_within xs k f.0 (ap (λ o. slice_get xs (or_zero o)) is ∙ f.1))

pub split-alike : {X : Type 0} (path : List Step) (param : Bool) (i : ℕ) (o : Option ℕ) (xs : List X) → o ≡ choice_on path param i → 1 ≤ length (kept path param i 0 xs) → kept (split_path param o []) param 0 0 xs ≡ kept path param i 0 xs
split-alike path param i o xs is some = alike (split_path param o []) path param 0 i xs (split-on param o ∙ is) (split-some path param i o xs is some) some

below-kept : {X : Type 0} (o : Option ℕ) (path : List Step) (xs : List X) → kept (below_path o path) true 0 0 xs ≡ kept path true 0 0 xs
below-kept None path xs = refl
below-kept (Some at) path xs = kept-same (Below 0 at) path true 0 0 xs (λ k. refl)

listed-alike : {X : Type 0} (path : List Step) (i : ℕ) (xs : List X) → 1 ≤ length (kept path true i 0 xs) → kept (path_of (left_on path i)) true 0 0 xs ≡ kept path true i 0 xs
listed-alike path i xs some =
    let split = split_path true (choice_on path true i) [] in
    kept-same (From 0 (low_end path i 0)) (below_path (bound_on path i) split) true 0 0 xs (λ k. refl)
    ∙ below-kept (bound_on path i) split xs
    ∙ split-alike path true i (choice_on path true i) xs refl some

-- ---- the same ends of a range

max-more : (b : Bool) (low least none at : ℕ) → least ≡ max low none → cond b (max least at) least ≡ max low (cond b (max none at) none)
max-more true low least none at e = omega (arith, e)
max-more false low least none at e = e

low-apart : (path : List Step) (place low : ℕ) → low_end path place low ≡ max low (low_end path place 0)
low-apart [] place low = omega arith
low-apart (Child q p k ∷ path) place low = low-apart path place low
low-apart (Below p at ∷ path) place low = low-apart path place low
low-apart (From p at ∷ path) place low = max-more (p == place) low (low_end path place low) (low_end path place 0) at (low-apart path place low)

abbrev pub capped : Option ℕ → ℕ → ℕ
capped None n = n
capped (Some b) n = min n b

-- the high end of what is left, where something is
abbrev pub EndIs : ℕ → Option (ℕ × ℕ) → Type 0
EndIs past None = Unit {0}
EndIs past (Some ends) = ends.1 + 1 ≡ past

whole-end : (low high past : ℕ) → high + 1 ≡ past → EndIs past (range_of low high)
whole-end low high past e = by_test (nat_le low high) where
  by_test : (b : Bool) → EndIs past (cond b (Some (low, high)) None)
  by_test true = e
  by_test false = tt

lesser-end : (o : Option ℕ) (at past end_ : ℕ) → 1 ≤ at → end_ + 1 ≡ capped o past → min end_ (at - 1) + 1 ≡ capped (Some (lesser at o)) past
lesser-end None at past end_ some e = omega (arith, some, e)
lesser-end (Some b) at past end_ some e = omega (arith, some, e)

below-end : (b : Bool) (past at : ℕ) (o : Option ℕ) (left : Option (ℕ × ℕ)) (place p : ℕ) → (p == place) ≡ b → EndIs (capped o past) left → EndIs (capped (cond b (Some (lesser at o)) o) past) (option_and_then (narrowed place (Below p at)) left)
below-end b past at o None place p e h = tt
below-end true past at o (Some ends) place p e h = rw e (by_test (nat_lt ends.0 at) refl) where
  by_test : (t : Bool) → nat_lt ends.0 at ≡ t → EndIs (capped (Some (lesser at o)) past) (cond t (Some (ends.0, min ends.1 (at - 1))) None)
  by_test true lt = let less : ends.0 < at = ltb-true ends.0 at lt in lesser-end o at past ends.1 (omega arith) h
  by_test false lt = tt
below-end false past at o (Some ends) place p e h = rw e h

from-end : (b : Bool) (past at : ℕ) (left : Option (ℕ × ℕ)) (place p : ℕ) → (p == place) ≡ b → EndIs past left → EndIs past (option_and_then (narrowed place (From p at)) left)
from-end b past at None place p e h = tt
from-end true past at (Some ends) place p e h = rw e (whole-end (max ends.0 at) ends.1 past h)
from-end false past at (Some ends) place p e h = rw e h

child-end : (b : Bool) (past k : ℕ) (left : Option (ℕ × ℕ)) (q : Bool) (place p : ℕ) → (q && (p == place)) ≡ b → b ≡ false → EndIs past left → EndIs past (option_and_then (narrowed place (Child q p k)) left)
child-end b past k None q place p e f h = tt
child-end b past k (Some ends) q place p e f h = rw (e ∙ f) h

range-end : (path : List Step) (place low high : ℕ) → is_unsplit path true place ≡ true → EndIs (capped (bound_on path place) (high + 1)) (range_left path place low high)
range-end [] place low high e = whole-end low high (high + 1) refl
range-end (Child q p k ∷ path) place low high e = child-end (q && (p == place)) (capped (bound_on path place) (high + 1)) k (range_left path place low high) q place p refl (not-or-left (q && (p == place)) (list_any (splits true place) path) e) (range-end path place low high (not-or-right (q && (p == place)) (list_any (splits true place) path) e))
range-end (Below p at ∷ path) place low high e = below-end (p == place) (high + 1) at (bound_on path place) (range_left path place low high) place p refl (range-end path place low high e)
range-end (From p at ∷ path) place low high e = from-end (p == place) (capped (bound_on path place) (high + 1)) at (range_left path place low high) place p refl (range-end path place low high e)

range-some : (low high : ℕ) → low ≤ high → range_of low high ≡ Some (low, high)
range-some low high le = rw (le-leb low high le) refl

ends-are : (low high : ℕ) (ends : ℕ × ℕ) → ends.0 ≡ low → ends.1 ≡ high → Some (low, high) ≡ Some ends
ends-are low high ends e f = sym (ap (λ x. Some (x, ends.1)) e ∙ ap (λ y. Some (low, y)) f)

below-step : (low high b : ℕ) → low < b → narrowed 0 (Below 0 b) (low, high) ≡ Some (low, min high (b - 1))
below-step low high b lt = rw (lt-ltb low b lt) refl

ranged : (f : ℕ) (b : Option ℕ) (low high : ℕ) (ends : ℕ × ℕ) → ends.0 ≡ max low f → ends.0 ≤ ends.1 → ends.1 + 1 ≡ capped b (high + 1) → range_left (From 0 f ∷ below_path b []) 0 low high ≡ Some ends
ranged f None low high ends least ordered most =
    ap (option_and_then (narrowed 0 (From 0 f))) (range-some low high (omega (arith, least, ordered, most)))
    ∙ (range-some (max low f) high (omega (arith, least, ordered, most)) ∙ ends-are (max low f) high ends least (omega (arith, most)))
ranged f (Some b) low high ends least ordered most =
    ap (λ o. option_and_then (narrowed 0 (From 0 f)) (option_and_then (narrowed 0 (Below 0 b)) o)) (range-some low high (omega (arith, least, ordered, most)))
    ∙ (ap (option_and_then (narrowed 0 (From 0 f))) (below-step low high b (omega (arith, least, ordered, most)))
    ∙ (range-some (max low f) (min high (b - 1)) (omega (arith, least, ordered, most)) ∙ ends-are (max low f) (min high (b - 1)) ends least (omega (arith, most))))

range-alike : (path : List Step) (i low high : ℕ) → is_unsplit path true i ≡ true → 1 ≤ length (map Number (numbers_of (range_left path i low high))) → range_left (path_of (left_on path i)) 0 low high ≡ range_left path i low high
range-alike path i low high whole some = by_left (range_left path i low high) refl where
  by_left : (o : Option (ℕ × ℕ)) → range_left path i low high ≡ o → range_left (path_of (left_on path i)) 0 low high ≡ range_left path i low high
  by_left None e = let none : 1 ≤ length (map Number (numbers_of None)) = subst (λ o. 1 ≤ length (map Number (numbers_of o))) e some in absurd (omega (arith, none))
  by_left (Some ends) e =
      let least = subst (LowIs (low_end path i low)) e (range-low path i low high whole) in
      let most = subst (EndIs (capped (bound_on path i) (high + 1))) e (range-end path i low high whole) in
      ap (λ o. range_left (From 0 (low_end path i 0) ∷ below_path (bound_on path i) (split_path true o [])) 0 low high) (is-unsplit path true i whole)
      ∙ ranged (low_end path i 0) (bound_on path i) low high ends (least.0 ∙ low-apart path i low) least.1 most
      ∙ sym e

pub param-alike : (path : List Step) (i : ℕ) (d : Domain) → 1 ≤ length (param_cells path i d) → (is_range d ≡ true → is_unsplit path true i ≡ true) → param_cells (path_of (left_on path i)) 0 d ≡ param_cells path i d
param-alike path i Flags some whole = listed-alike path i (values_of Flags) some
param-alike path i (Numbers ns) some whole = listed-alike path i (values_of (Numbers ns)) some
param-alike path i (Words ws) some whole = listed-alike path i (values_of (Words ws)) some
param-alike path i (Range low high) some whole = ap (λ o. map Number (numbers_of o)) (range-alike path i low high (whole refl) some)

-- ---- items that are all the same

abbrev pub AllSame : {X : Type 0} → X → List X → Type 0
AllSame x [] = Unit {0}
AllSame x (y ∷ ys) = (y ≡ x) × AllSame x ys

same-more : {X : Type 0} (x : X) (xs : List X) → AllSame x xs → AllSame x (xs ++ x ∷ [])
same-more x [] h = (refl, tt)
same-more x (y ∷ ys) h = (h.0, same-more x ys h.1)

pub same-push : {X : Type 0} (x : X) (old new : List X) (n : ℕ) → new ≡ old ++ x ∷ [] → (length old ≡ n) × AllSame x old → (length new ≡ n + 1) × AllSame x new
same-push x old new n is h = (omega (arith, ap length is, length-append old (x ∷ []), h.0), subst (AllSame x) (sym is) (same-more x old h.1))

pub same-at : {X : Type 0} (x : X) (xs : List X) (i : ℕ) → AllSame x xs → i < length xs → slice_get xs i ≡ Some x
same-at x [] i h lt = absurd (omega arith)
same-at x (y ∷ ys) zero h lt = ap Some h.0
same-at x (y ∷ ys) (suc i) h lt = same-at x ys i h.1 (omega (arith, lt))
