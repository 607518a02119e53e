-- The names of sorted codings rise, and are those of the codings that match.
use Rattle.std.proofs.Common.{◌≡◌, ◌⊎◌, ◌∙◌, inl, inr, ℕ, zero, suc, ◌+◌, ◌≤◌, ◌||◌, Bool, true, false, cond, IsTrue, List, [], ◌∷◌, length, get_or, arith, refl, sym, ap, subst}
use Rattle.std.specs.Prelude.{Contains, All, AllPairs}
use Rattle.std.specs.List.Sorted.{IsSortedBy}
use Rattle.std.specs.Cmp.{IsStrictWeakOrder}
use Rattle.std.specs.Ordering.{nat_cmp, is_lt, ordering_reverse}
use Rattle.std.specs.declared.cmp.Ordering.{Ordering}
use Rattle.std.specs.declared.cmp.Ordering.TheVariants.{Less, Equal, Greater}
use Rattle.std.specs.Cmp.Lexicographic.{slice_cmp, bytes_decides}
use Rattle.std.proofs.lemmas.Bool.{false≢true}
use Rattle.std.proofs.lemmas.Cmp.{nat_list_cmp_total}
use Rattle.std.proofs.lemmas.Map.Lookups.{exact_bytes}
use Rattle.std.proofs.lemmas.List.Sorted.{ranks_by, sorted_far}
use Rattle.std.proofs.lemmas.List.Elements.{All-nil, All-cons, All-head, All-tail}
use Rattle.std.proofs.lemmas.List.Kept.{AllPairs-cons}
use Rattle.udb_base.specs.declared.names.Name.{Name}
use Rattle.udb_base.specs.declared.refutations.Partial.{Partial}
use Rattle.udb_base.specs.declared.spaces.Space.{Space}
use Rattle.udb_base.specs.Names.{name_lt}
use Rattle.udb_spec.specs.Conditions.{same_bytes}
use Rattle.udb_decode.specs.declared.decoder.Coding.{Coding}
use Rattle.udb_decode.specs.declared.decoder.Kept.{Kept}
use Rattle.udb_decode.specs.Patterns.{matches}
use Rattle.udb_decode.specs.Picks.{CanBe, ArePicks}
use Rattle.udb_decode.specs.Kept.{kept_of, IsKept, AreKept, begins_with, names_from}

-- ---- the order of names

is_less : (o : Ordering) → is_lt o ≡ true → o ≡ Less
is_less Less h = refl
is_less Equal h = absurd (false≢true h)
is_less Greater h = absurd (false≢true h)

lt_less : (o : Ordering) → o ≡ Less → is_lt o ≡ true
lt_less o e = ap is_lt e

before_trans : (a b c : List ℕ) → IsTrue (name_lt a b) → IsTrue (name_lt b c) → IsTrue (name_lt a c)
before_trans a b c x y = lt_less (slice_cmp nat_cmp a c) (nat_list_cmp_total.trans a b c (is_less (slice_cmp nat_cmp a b) x) (is_less (slice_cmp nat_cmp b c) y))

-- a name that isn't before another one, and isn't it, comes after it
strict_by : (a b : List ℕ) (o : Ordering) → slice_cmp nat_cmp b a ≡ o → is_lt o ≡ false → (a ≡ b → ⊥) → IsTrue (name_lt a b)
strict_by a b Less e n d = absurd (false≢true (sym n))
strict_by a b Equal e n d = absurd (d (sym (exact_bytes b a e)))
strict_by a b Greater e n d = ap is_lt (nat_list_cmp_total.antisymm a b ∙ ap ordering_reverse e)

strict : (a b : List ℕ) → name_lt b a ≡ false → (a ≡ b → ⊥) → IsTrue (name_lt a b)
strict a b n d = strict_by a b (slice_cmp nat_cmp b a) refl n d

-- a name before one that isn't after a third is before the third
lt_le_by : (a b c : List ℕ) (same : Bool) → same_bytes b c ≡ same → IsTrue (name_lt a b) → name_lt c b ≡ false → IsTrue (name_lt a c)
lt_le_by a b c true e x y = subst (λ n. IsTrue (name_lt a n)) ((bytes_decides b c).0 e) x
lt_le_by a b c false e x y = before_trans a b c x (strict b c y (λ is. false≢true (sym e ∙ (bytes_decides b c).1 is)))

lt_le : (a b c : List ℕ) → IsTrue (name_lt a b) → name_lt c b ≡ false → IsTrue (name_lt a c)
lt_le a b c x y = lt_le_by a b c (same_bytes b c) refl x y

-- ---- sorted codings

abbrev pub kept_lt : Kept → Kept → Bool
kept_lt a b = name_lt a.name b.name

pub kept_order : IsStrictWeakOrder kept_lt
kept_order = ranks_by nat_list_cmp_total (λ (k : Kept). k.name)

-- no later one comes before an earlier one
abbrev NotBefore : Kept → Kept → Type 0
NotBefore a b = kept_lt b a ≡ false

pub in_order : (ks : List Kept) → IsSortedBy kept_lt ks → AllPairs NotBefore ks
in_order ks sorted i j d lt below = sorted_far kept_lt kept_order ks sorted i j d (omega arith) below

pairs-tail : (k : Kept) (ks : List Kept) → AllPairs NotBefore (k ∷ ks) → AllPairs NotBefore ks
pairs-tail k ks h i j d lt below = h (suc i) (suc j) d (omega (arith, lt)) (omega (arith, below))

pairs-head : (k : Kept) (ks : List Kept) → AllPairs NotBefore (k ∷ ks) → All (NotBefore k) ks
pairs-head k ks h i d below = h 0 (suc i) d (omega arith) (omega (arith, below))

abbrev After : Name → Kept → Type 0
After n k = IsTrue (name_lt n k.name)

after-rest : (n : Name) (k : Kept) (ks : List Kept) → IsTrue (name_lt n k.name) → All (NotBefore k) ks → All (After n) ks
after-rest n k ks first rest i d below = lt_le n k.name (get_or ks i d).name first (rest i d below)

-- where the next one has another name, all later ones come after
after-other : (k : Kept) (ks : List Kept) → AllPairs NotBefore (k ∷ ks) → begins_with k.name ks ≡ false → All (After k.name) ks
after-other k [] pairs other = All-nil (After k.name)
after-other k (next ∷ ks) pairs other =
    let first : IsTrue (name_lt k.name next.name) = strict k.name next.name (All-head (NotBefore k) next ks (pairs-head k (next ∷ ks) pairs)) (λ is. false≢true (sym other ∙ (bytes_decides next.name k.name).1 (sym is))) in
    All-cons (After k.name) next ks first (after-rest k.name next ks first (pairs-head next ks (pairs-tail k (next ∷ ks) pairs)))

-- ---- the names

module _ (word : ℕ) where
  abbrev step : Kept → List Kept → Bool → Bool → List Name
  step k ks now same = cond now (cond same (names_from word true ks) (k.name ∷ names_from word false ks)) (names_from word false ks)

  -- what holds of the names of all codings holds of the names
  module _ (P : Name → Type 0) where
    all-step : (k : Kept) (ks : List Kept) (now same : Bool) → ((found : Bool) → All P (names_from word found ks)) → P k.name → All P (step k ks now same)
    all-step k ks true true rest p = rest true
    all-step k ks true false rest p = All-cons P k.name (names_from word false ks) p (rest false)
    all-step k ks false same rest p = rest false

    all-names : (ks : List Kept) (found : Bool) → All (λ (k : Kept). P k.name) ks → All P (names_from word found ks)
    all-names [] found all = All-nil P
    all-names (k ∷ ks) found all = all-step k ks (found || matches k.pattern word) (begins_with k.name ks) (λ f. all-names ks f (All-tail (λ (k : Kept). P k.name) k ks all)) (All-head (λ (k : Kept). P k.name) k ks all)

  abbrev Before : Name → Name → Type 0
  Before a b = IsTrue (name_lt a b)

  rising-step : (k : Kept) (ks : List Kept) (now same : Bool) → begins_with k.name ks ≡ same → ((found : Bool) → AllPairs Before (names_from word found ks)) → AllPairs NotBefore (k ∷ ks) → AllPairs Before (step k ks now same)
  rising-step k ks true true is rest pairs = rest true
  rising-step k ks true false is rest pairs = AllPairs-cons Before k.name (names_from word false ks) (all-names (Before k.name) ks false (after-other k ks pairs is)) (rest false)
  rising-step k ks false same is rest pairs = rest false

  rising : (ks : List Kept) (found : Bool) → AllPairs NotBefore ks → AllPairs Before (names_from word found ks)
  rising [] found pairs = λ i j d lt below. absurd (omega arith)
  rising (k ∷ ks) found pairs = rising-step k ks (found || matches k.pattern word) (begins_with k.name ks) refl (λ f. rising ks f (pairs-tail k ks pairs)) pairs

  -- ---- a name is given exactly where one of its codings matches, or has matched just before

  pub record Matching (ks : List Kept) (name : Name) : Type 0 where
    pub kept : Kept
    pub among : Contains ks kept
    pub named : kept.name ≡ name
    pub has : matches kept.pattern word ≡ true

  abbrev IsFirst : Name → List Kept → Type 0
  IsFirst name ks = begins_with name ks ≡ true

  abbrev Source : Bool → List Kept → Name → Type 0
  Source found ks name = ((found ≡ true) × IsFirst name ks) ⊎ Matching ks name

  among-first : (k : Kept) (ks : List Kept) → Contains (k ∷ ks) k
  among-first k ks = (0, omega arith, refl)

  among-later : {X : Type 0} (x : X) (xs : List X) (one : X) → Contains xs one → Contains (x ∷ xs) one
  among-later x xs one among = (suc among.0, omega (arith, among.1), among.2)

  matching-later : (k : Kept) (ks : List Kept) (name : Name) → Matching ks name → Matching (k ∷ ks) name
  matching-later k ks name m = record { kept = m.kept; among = among-later k ks m.kept m.among; named = m.named; has = m.has }

  matching-first : (k : Kept) (ks : List Kept) (name : Name) → matches k.pattern word ≡ true → k.name ≡ name → Matching (k ∷ ks) name
  matching-first k ks name has is = record { kept = k; among = among-first k ks; named = is; has = has }

  same-name : (a b : List ℕ) → same_bytes a b ≡ true → a ≡ b
  same-name a b h = (bytes_decides a b).0 h

  is-same : (a b : List ℕ) → a ≡ b → same_bytes a b ≡ true
  is-same a b e = (bytes_decides a b).1 e

  first-two : (a b : Name) (ks : List Kept) → begins_with a ks ≡ true → begins_with b ks ≡ true → a ≡ b
  first-two a b [] x y = absurd (false≢true x)
  first-two a b (k ∷ ks) x y = sym (same-name k.name a x) ∙ same-name k.name b y

  -- the one in front has matched or one of its name did before
  front : (k : Kept) (ks : List Kept) (found has : Bool) (name : Name) → matches k.pattern word ≡ has → (found || has) ≡ true → k.name ≡ name → Source found (k ∷ ks) name
  front k ks true has name e now is = inl (refl, is-same k.name name is)
  front k ks false has name e now is = inr (matching-first k ks name (e ∙ now) is)

  from-rest : (k : Kept) (ks : List Kept) (found has : Bool) (name : Name) → matches k.pattern word ≡ has → (found || has) ≡ true → begins_with k.name ks ≡ true → Source true ks name → Source found (k ∷ ks) name
  from-rest k ks found has name e now same (inl first) = front k ks found has name e now (first-two k.name name ks same first.1)
  from-rest k ks found has name e now same (inr m) = inr (matching-later k ks name m)

  no-first : (name : Name) (ks : List Kept) → Source false ks name → Matching ks name
  no-first name ks (inl first) = absurd (false≢true first.0)
  no-first name ks (inr m) = m

  uncons : (n : Name) (ns : List Name) (name : Name) → Contains (n ∷ ns) name → (n ≡ name) ⊎ Contains ns name
  uncons n ns name (zero, lt, is) = inl is
  uncons n ns name (suc i, lt, is) = inr (i, omega (arith, lt), is)

  given-cons : (k : Kept) (ks : List Kept) (found has : Bool) (name : Name) → matches k.pattern word ≡ has → (found || has) ≡ true → (Contains (names_from word false ks) name → Source false ks name) → (k.name ≡ name) ⊎ Contains (names_from word false ks) name → Source found (k ∷ ks) name
  given-cons k ks found has name e now rest (inl is) = front k ks found has name e now is
  given-cons k ks found has name e now rest (inr later) = inr (matching-later k ks name (no-first name ks (rest later)))

  given-step : (k : Kept) (ks : List Kept) (found has now same : Bool) (name : Name) → matches k.pattern word ≡ has → (found || has) ≡ now → begins_with k.name ks ≡ same → ((f : Bool) → Contains (names_from word f ks) name → Source f ks name) → Contains (step k ks now same) name → Source found (k ∷ ks) name
  given-step k ks found has true true name e now same rest among = from-rest k ks found has name e now same (rest true among)
  given-step k ks found has true false name e now same rest among = given-cons k ks found has name e now (rest false) (uncons k.name (names_from word false ks) name among)
  given-step k ks found has false same' name e now same rest among = inr (matching-later k ks name (no-first name ks (rest false among)))

  given : (ks : List Kept) (found : Bool) (name : Name) → Contains (names_from word found ks) name → Source found ks name
  given [] found name among = absurd (omega (arith, among.1))
  given (k ∷ ks) found name among = given-step k ks found (matches k.pattern word) (found || matches k.pattern word) (begins_with k.name ks) name refl refl refl (λ f a. given ks f name a) among

  -- the name of the one in front is given where it, or one of its name before, has matched
  give-front : (k : Kept) (ks : List Kept) (same : Bool) (name : Name) → begins_with k.name ks ≡ same → k.name ≡ name → ((f : Bool) → Source f ks name → Contains (names_from word f ks) name) → Contains (step k ks true same) name
  give-front k ks true name same is rest = rest true (inl (refl, subst (λ n. begins_with n ks ≡ true) is same))
  give-front k ks false name same is rest = (0, omega arith, is)

  give-later : (k : Kept) (ks : List Kept) (now same : Bool) (name : Name) → Matching ks name → ((f : Bool) → Source f ks name → Contains (names_from word f ks) name) → Contains (step k ks now same) name
  give-later k ks true true name m rest = rest true (inr m)
  give-later k ks true false name m rest = among-later k.name (names_from word false ks) name (rest false (inr m))
  give-later k ks false same name m rest = rest false (inr m)

  or-true : (a b : Bool) → b ≡ true → (a || b) ≡ true
  or-true true b e = refl
  or-true false b e = e

  now-front : (k : Kept) (ks : List Kept) (now : Bool) (name : Name) → now ≡ true → k.name ≡ name → ((f : Bool) → Source f ks name → Contains (names_from word f ks) name) → Contains (step k ks now (begins_with k.name ks)) name
  now-front k ks true name e is rest = give-front k ks (begins_with k.name ks) name refl is rest
  now-front k ks false name e is rest = absurd (false≢true e)

  split : (k : Kept) (ks : List Kept) (name : Name) (m : Matching (k ∷ ks) name) → ((matches k.pattern word ≡ true) × (k.name ≡ name)) ⊎ Matching ks name
  split k ks name m = split-by k ks name m.kept m.named m.has m.among
    where
      split-by : (k : Kept) (ks : List Kept) (name : Name) (one : Kept) → one.name ≡ name → matches one.pattern word ≡ true → Contains (k ∷ ks) one → ((matches k.pattern word ≡ true) × (k.name ≡ name)) ⊎ Matching ks name
      split-by k ks name one is has (zero, lt, at) = inl (subst (λ (x : Kept). matches x.pattern word ≡ true) (sym at) has, subst (λ (x : Kept). x.name ≡ name) (sym at) is)
      split-by k ks name one is has (suc i, lt, at) = inr (record { kept = one; among = (i, omega (arith, lt), at); named = is; has = has })

  give-cases : (k : Kept) (ks : List Kept) (found : Bool) (name : Name) → ((f : Bool) → Source f ks name → Contains (names_from word f ks) name) → ((matches k.pattern word ≡ true) × (k.name ≡ name)) ⊎ Matching ks name → Contains (step k ks (found || matches k.pattern word) (begins_with k.name ks)) name
  give-cases k ks found name rest (inl here) = now-front k ks (found || matches k.pattern word) name (or-true found (matches k.pattern word) here.0) here.1 rest
  give-cases k ks found name rest (inr later) = give-later k ks (found || matches k.pattern word) (begins_with k.name ks) name later rest

  give : (ks : List Kept) (found : Bool) (name : Name) → Source found ks name → Contains (names_from word found ks) name
  give [] found name (inl first) = absurd (false≢true first.1)
  give [] found name (inr m) = absurd (omega (arith, m.among.1))
  give (k ∷ ks) found name (inl first) = now-front k ks (found || matches k.pattern word) name (ap (λ f. f || matches k.pattern word) first.0) (same-name k.name name first.1) (λ f s. give ks f name s)
  give (k ∷ ks) found name (inr m) = give-cases k ks found name (λ f s. give ks f name s) (split k ks name m)

-- ---- the picks

module _ (space : Space) (part : Partial) (codings : List Coding) (all : List Kept) (are : AreKept space part codings all) (word : ℕ) where
  can-be : (name : Name) → Matching word all name → CanBe space part codings word name
  can-be name m =
      let is : IsKept space part codings m.kept = are.each m.kept m.among in
      record {
        coding = is.coding;
        among = is.among;
        named = ap (λ (k : Kept). k.name) is.is ∙ m.named;
        matching = ap (λ (k : Kept). matches k.pattern word) is.is ∙ m.has;
        present = is.present;
      }

  matching-of : (name : Name) → CanBe space part codings word name → Matching word all name
  matching-of name can = record {
    kept = kept_of can.coding;
    among = are.whole can.coding can.among can.present;
    named = can.named;
    has = can.matching;
  }

  pub are_picks : IsSortedBy kept_lt all → ArePicks space part codings word (names_from word false all)
  are_picks sorted = record {
    rising = rising word all false (in_order all sorted);
    each = λ name. (
      λ among. can-be name (no-first word name all (given word all false name among)),
      λ can. give word all false name (inr (matching-of name can)),
    );
  }

-- ---- no more names are given than codings are kept

fewer-step : (word : ℕ) (k : Kept) (ks : List Kept) (now same : Bool) → ((found : Bool) → length (names_from word found ks) ≤ length ks) → length (step word k ks now same) ≤ length ks + 1
fewer-step word k ks true true rest = omega (arith, rest true)
fewer-step word k ks true false rest = omega (arith, rest false)
fewer-step word k ks false same rest = omega (arith, rest false)

pub fewer : (word : ℕ) (ks : List Kept) (found : Bool) → length (names_from word found ks) ≤ length ks
fewer word [] found = omega arith
fewer word (k ∷ ks) found = omega (arith, fewer-step word k ks (found || matches k.pattern word) (begins_with k.name ks) (λ f. fewer word ks f))
