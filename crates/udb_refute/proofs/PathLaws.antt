-- What a path leaves of a variable that was split, or wasn't.
use Rattle.std.proofs.Common.{◌≡◌, ℕ, suc, ◌+◌, ◌-◌, ◌<◌, ◌≤◌, ◌==◌, Bool, true, false, not, ◌&&◌, ◌||◌, List, [], ◌∷◌, length, Option, None, Some, slice_get, Contains, refl, sym, ap, ◌∙◌, cond, subst, arith, ⊎_elim}
use Rattle.std.specs.List.{list_all, list_any}
use Rattle.std.specs.Option.{is_none}
use Rattle.std.proofs.lemmas.Bool.{cases_eq, eq-eqb, ne_eqb, eqb-true, false≢true, true≢false}
use Rattle.std.proofs.lemmas.Option.{none-some, same_Some}
use Rattle.udb_spec.specs.Cells.{Step, Child, Below, From, allows, kept}
use Rattle.udb_spec.specs.Refutes.{splits, is_unsplit}
use Rattle.udb_refute.specs.Paths.{choice_on, or_zero, taken}

pub both-left : (a b : Bool) → (a && b) ≡ true → a ≡ true
both-left true b e = refl
both-left false b e = absurd (false≢true e)

pub both-right : (a b : Bool) → (a && b) ≡ true → b ≡ true
both-right true b e = e
both-right false b e = absurd (false≢true e)

pub both-true : (a b : Bool) → a ≡ true → b ≡ true → (a && b) ≡ true
both-true true b e f = f
both-true false b e f = absurd (false≢true e)

-- ---- split or not

unsplit-step : (b : Bool) (k : ℕ) (o : Option ℕ) (rest : Bool) → not rest ≡ is_none o → not (b || rest) ≡ is_none (cond b (Some k) o)
unsplit-step true k o rest h = refl
unsplit-step false k o rest h = h

-- unsplit says that no choice stands on the path
pub unsplit-none : (path : List Step) (param : Bool) (place : ℕ) → is_unsplit path param place ≡ is_none (choice_on path param place)
unsplit-none [] param place = refl
unsplit-none (Child q p k ∷ path) param place = unsplit-step (cond param q (not q) && (p == place)) k (choice_on path param place) (list_any (splits param place) path) (unsplit-none path param place)
unsplit-none (Below p at ∷ path) param place = unsplit-none path param place
unsplit-none (From p at ∷ path) param place = unsplit-none path param place

none-allows-if : (b : Bool) (n k : ℕ) (o : Option ℕ) (rest : Bool) → cond b (Some k) o ≡ None → (o ≡ None → rest ≡ true) → (cond b (n == k) true && rest) ≡ true
none-allows-if true n k o rest e h = absurd (none-some k (sym e))
none-allows-if false n k o rest e h = h e

-- without a choice each is allowed
pub none-allows : (path : List Step) (param : Bool) (place n : ℕ) → choice_on path param place ≡ None → list_all (allows param place n) path ≡ true
none-allows [] param place n e = refl
none-allows (Child q p k ∷ path) param place n e = none-allows-if (cond param q (not q) && (p == place)) n k (choice_on path param place) (list_all (allows param place n) path) e (none-allows path param place n)
none-allows (Below p at ∷ path) param place n e = none-allows path param place n e
none-allows (From p at ∷ path) param place n e = none-allows path param place n e

some-allows-if : (b : Bool) (n k m : ℕ) (o : Option ℕ) (rest : Bool) → cond b (Some k) o ≡ Some m → (o ≡ Some m → rest ≡ true → n ≡ m) → (cond b (n == k) true && rest) ≡ true → n ≡ m
some-allows-if true n k m o rest e h a = let first : k ≡ m = same_Some k m e in eqb-true n k (both-left (n == k) rest a) ∙ first
some-allows-if false n k m o rest e h a = h e a

-- with a choice it alone is allowed
pub some-allows : (path : List Step) (param : Bool) (place n m : ℕ) → choice_on path param place ≡ Some m → list_all (allows param place n) path ≡ true → n ≡ m
some-allows [] param place n m e a = absurd (none-some m e)
some-allows (Child q p k ∷ path) param place n m e a = some-allows-if (cond param q (not q) && (p == place)) n k m (choice_on path param place) (list_all (allows param place n) path) e (some-allows path param place n m) a
some-allows (Below p at ∷ path) param place n m e a = some-allows path param place n m e a
some-allows (From p at ∷ path) param place n m e a = some-allows path param place n m e a

none-of : (o : Option ℕ) → is_none o ≡ true → o ≡ None
none-of None e = refl
none-of (Some m) e = absurd (false≢true e)

pub is-unsplit : (path : List Step) (param : Bool) (place : ℕ) → is_unsplit path param place ≡ true → choice_on path param place ≡ None
is-unsplit path param place e = none-of (choice_on path param place) (sym (unsplit-none path param place) ∙ e)

-- ---- listed choices

pub kept-all : {X : Type 0} (path : List Step) (param : Bool) (place n : ℕ) (xs : List X) → choice_on path param place ≡ None → kept path param place n xs ≡ xs
kept-all path param place n [] e = refl
kept-all path param place n (x ∷ xs) e = rw (none-allows path param place n e) (ap (λ ys. x ∷ ys) (kept-all path param place (n + 1) xs e))

past-if : {X : Type 0} (b : Bool) (x : X) (xs : List X) → b ≡ false → length xs ≡ 0 → length (cond b (x ∷ xs) xs) ≡ 0
past-if true x xs e h = absurd (true≢false e)
past-if false x xs e h = h

not-allowed : (b : Bool) (n m : ℕ) → (b ≡ true → n ≡ m) → (n ≡ m → ⊥) → b ≡ false
not-allowed true n m h ne = absurd (ne (h refl))
not-allowed false n m h ne = refl

-- past the choice nothing is kept
kept-past : {X : Type 0} (path : List Step) (param : Bool) (place n m : ℕ) (xs : List X) → choice_on path param place ≡ Some m → m < n → length (kept path param place n xs) ≡ 0
kept-past path param place n m [] e lt = refl
kept-past path param place n m (x ∷ xs) e lt =
    past-if (list_all (allows param place n) path) x (kept path param place (n + 1) xs) (not-allowed (list_all (allows param place n) path) n m (some-allows path param place n m e) (λ is. omega arith)) (kept-past path param place (n + 1) m xs e (omega arith))

few-if : {X : Type 0} (b : Bool) (x : X) (xs : List X) → (b ≡ true → length xs ≡ 0) → length xs ≤ 1 → length (cond b (x ∷ xs) xs) ≤ 1
few-if true x xs h le = omega (arith, h refl)
few-if false x xs h le = le

-- of a variable that was split at most one choice is left
pub kept-few : {X : Type 0} (path : List Step) (param : Bool) (place n m : ℕ) (xs : List X) → choice_on path param place ≡ Some m → length (kept path param place n xs) ≤ 1
kept-few path param place n m [] e = omega arith
kept-few path param place n m (x ∷ xs) e =
    few-if (list_all (allows param place n) path) x (kept path param place (n + 1) xs) (λ a. let is = some-allows path param place n m e a in kept-past path param place (n + 1) m xs e (omega arith)) (kept-few path param place (n + 1) m xs e)

-- ---- one more step

fewer-if : {X : Type 0} (a b : Bool) (x : X) (xs ys : List X) → length xs ≤ length ys → length (cond (a && b) (x ∷ xs) xs) ≤ length (cond b (x ∷ ys) ys)
fewer-if true true x xs ys le = omega arith
fewer-if true false x xs ys le = le
fewer-if false true x xs ys le = omega arith
fewer-if false false x xs ys le = le

pub kept-fewer : {X : Type 0} (s : Step) (path : List Step) (param : Bool) (place n : ℕ) (xs : List X) → length (kept (s ∷ path) param place n xs) ≤ length (kept path param place n xs)
kept-fewer s path param place n [] = omega arith
kept-fewer s path param place n (x ∷ xs) = fewer-if (allows param place n s) (list_all (allows param place n) path) x (kept (s ∷ path) param place (n + 1) xs) (kept path param place (n + 1) xs) (kept-fewer s path param place (n + 1) xs)

pub kept-same : {X : Type 0} (s : Step) (path : List Step) (param : Bool) (place n : ℕ) (xs : List X) → ((k : ℕ) → allows param place k s ≡ true) → kept (s ∷ path) param place n xs ≡ kept path param place n xs
kept-same s path param place n [] h = refl
kept-same s path param place n (x ∷ xs) h = rw (h n, kept-same s path param place (n + 1) xs h) refl

pub own-allows : (param : Bool) (place n k : ℕ) → allows param place n (Child param place k) ≡ (n == k)
own-allows true place n k = rw (eq-eqb place place refl) refl
own-allows false place n k = rw (eq-eqb place place refl) refl

pub other-allows : (param q : Bool) (place p n k : ℕ) → (cond param q (not q) && (p == place)) ≡ false → allows param place n (Child q p k) ≡ true
other-allows param q place p n k e = rw e refl

-- a choice of a variable that wasn't split is kept
kept-own : {X : Type 0} (path : List Step) (param : Bool) (place n k : ℕ) (xs : List X) → choice_on path param place ≡ None → n ≤ k → k < n + length xs → 1 ≤ length (kept (Child param place k ∷ path) param place n xs)
kept-own path param place n k [] e le lt = absurd (omega arith)
kept-own path param place n k (x ∷ xs) e le lt =
    ⊎_elim
    (λ (is : n ≡ k). rw (own-allows param place n k) (rw (eq-eqb n k is) (rw (none-allows path param place n e) (omega arith))))
    (λ (ne : n ≡ k → ⊥). rw (own-allows param place n k) (rw (ne_eqb n k ne) (kept-own path param place (n + 1) k xs e (apart n k le ne) (omega (arith, lt)))))
    (cases_eq n k) where
      apart : (n k : ℕ) → n ≤ k → (n ≡ k → ⊥) → n + 1 ≤ k
      apart n k le ne = omega arith

pub own-on : (path : List Step) (param : Bool) (place k : ℕ) → choice_on (Child param place k ∷ path) param place ≡ Some k
own-on path true place k = rw (eq-eqb place place refl) refl
own-on path false place k = rw (eq-eqb place place refl) refl

pub own-left : {X : Type 0} (path : List Step) (param : Bool) (place k : ℕ) (xs : List X) → choice_on path param place ≡ None → k < length xs → 1 ≤ length (kept (Child param place k ∷ path) param place 0 xs)
own-left path param place k xs e lt = kept-own path param place 0 k xs e (omega arith) (omega arith)

pub own-few : {X : Type 0} (path : List Step) (param : Bool) (place k : ℕ) (xs : List X) → length (kept (Child param place k ∷ path) param place 0 xs) ≤ 1
own-few path param place k xs = kept-few (Child param place k ∷ path) param place 0 k xs (own-on path param place k)

-- ---- the first choice that is left

pub first-item : {X : Type 0} (x : X) (xs : List X) → Contains (x ∷ xs) x
first-item x xs = (0, omega arith, refl)

-- the choice of a number, where some choice is kept
kept-choice : {X : Type 0} (path : List Step) (param : Bool) (place n m : ℕ) (xs : List X) → choice_on path param place ≡ Some m → 1 ≤ length (kept path param place n xs) → (x : X) × (slice_get xs (m - n) ≡ Some x) × (n ≤ m) × Contains (kept path param place n xs) x
kept-choice {X = X} path param place n m [] e some = absurd (omega arith)
kept-choice {X = X} path param place n m (x ∷ xs) e some = by_test (list_all (allows param place n) path) refl some (kept-choice path param place (n + 1) m xs e) where
  by_test : (b : Bool) → list_all (allows param place n) path ≡ b → 1 ≤ length (cond b (x ∷ kept path param place (n + 1) xs) (kept path param place (n + 1) xs)) → (1 ≤ length (kept path param place (n + 1) xs) → (y : X) × (slice_get xs (m - (n + 1)) ≡ Some y) × (n + 1 ≤ m) × Contains (kept path param place (n + 1) xs) y) → (y : X) × (slice_get (x ∷ xs) (m - n) ≡ Some y) × (n ≤ m) × Contains (cond b (x ∷ kept path param place (n + 1) xs) (kept path param place (n + 1) xs)) y
  by_test true a h rest =
      let is : n ≡ m = some-allows path param place n m e a in
      let zero_ : m - n ≡ 0 = omega arith in
      (x, ap (slice_get (x ∷ xs)) zero_, omega arith, first-item x (kept path param place (n + 1) xs))
  by_test false a h rest =
      let later = rest h in
      let more : m - n ≡ suc (m - (n + 1)) = omega (arith, later.2) in
      (later.0, ap (slice_get (x ∷ xs)) more ∙ later.1, omega (arith, later.2), later.3)

pub first-kept : {X : Type 0} (path : List Step) (param : Bool) (place : ℕ) (xs : List X) → 1 ≤ length (kept path param place 0 xs) → (x : X) × (slice_get xs (taken path param place) ≡ Some x) × Contains (kept path param place 0 xs) x
first-kept {X = X} path param place xs some = by_choice (choice_on path param place) refl where
  by_choice : (o : Option ℕ) → choice_on path param place ≡ o → (x : X) × (slice_get xs (or_zero o) ≡ Some x) × Contains (kept path param place 0 xs) x
  by_choice (Some m) e = let found = kept-choice path param place 0 m xs e some in let same : m ≡ m - 0 = omega arith in (found.0, ap (slice_get xs) same ∙ found.1, found.3)
  by_choice None e = by_items xs (kept-all path param place 0 xs e) some where
    by_items : (ys : List X) → kept path param place 0 ys ≡ ys → 1 ≤ length (kept path param place 0 ys) → (x : X) × (slice_get ys 0 ≡ Some x) × Contains (kept path param place 0 ys) x
    by_items [] is h = absurd (omega arith)
    by_items (y ∷ ys) is h = (y, refl, subst (λ zs. Contains zs y) (sym is) (first-item y ys))
