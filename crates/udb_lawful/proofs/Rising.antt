-- Lists that rise from each place to the next.
use Rattle.std.proofs.Common.{◌≡◌, ◌⊎◌, inl, inr, ℕ, ◌+◌, ◌-◌, ◌<◌, ◌≤◌, true, List, length, get_or, arith, subst, refl, sym, ◌∙◌, false}
use Rattle.std.specs.Prelude.{AllPairs, IsTrue}
use Rattle.std.specs.Ordering.{nat_cmp, is_lt}
use Rattle.std.specs.declared.cmp.Ordering.{Ordering}
use Rattle.std.specs.declared.cmp.Ordering.TheVariants.{Less, Equal, Greater}
use Rattle.std.specs.Cmp.Lexicographic.{slice_cmp}
use Rattle.std.proofs.lemmas.List.{get_or_read, get_or_default}
use Rattle.std.proofs.lemmas.List.Elements.{pair_read}
use Rattle.std.proofs.lemmas.Bool.{false≢true}
use Rattle.std.proofs.lemmas.Bool.Decides.{nat_tests}
use Rattle.std.proofs.lemmas.Cmp.{nat_list_cmp_total}
use Rattle.udb_base.specs.declared.versions.Listed.{Listed}
use Rattle.udb_base.specs.declared.versions.Version.{Version}
use Rattle.udb_spec.specs.Versions.{version_lt}
use Rattle.udb_spec.specs.Lawful.{name_lt}

-- each pair of the first places is in the relation
pub record Rising {X : Type 0} (R : X → X → Type 0) (xs : List X) (at : ℕ) : Type 0 where
  pub from_one : 1 ≤ at
  pub pairs : (i j : ℕ) (d : X) → i < j → j < at → R (get_or xs i d) (get_or xs j d)

abbrev pub IsTransitive : {X : Type 0} → (X → X → Type 0) → Type 0
IsTransitive {X} R = (x y z : X) → R x y → R y z → R x z

pub rising-one : {X : Type 0} (R : X → X → Type 0) (xs : List X) → Rising R xs 1
rising-one R xs = record { from_one = omega arith; pairs = λ i j d lt below. absurd (omega arith) }

next-pair : {X : Type 0} (R : X → X → Type 0) → IsTransitive R → (xs : List X) (at i : ℕ) (d : X) → Rising R xs at → R (get_or xs (at - 1) d) (get_or xs at d) → i < at → ((i < at - 1) ⊎ (i ≡ at - 1)) → R (get_or xs i d) (get_or xs at d)
next-pair R trans xs at i d r next lt (inl below) = trans _ _ _ (r.pairs i (at - 1) d below (omega (arith, r.from_one))) next
next-pair R trans xs at i d r next lt (inr same) = subst (λ k. R (get_or xs k d) (get_or xs at d)) (omega (arith, same)) next

before : (i at : ℕ) → i < at → (i < at - 1) ⊎ (i ≡ at - 1)
before i at lt = grind arith

at-end : (j at : ℕ) → j < at + 1 → (j < at) ⊎ (j ≡ at)
at-end j at lt = grind arith

one-more : {X : Type 0} (R : X → X → Type 0) → IsTransitive R → (xs : List X) (at i j : ℕ) (d : X) → Rising R xs at → R (get_or xs (at - 1) d) (get_or xs at d) → i < j → ((j < at) ⊎ (j ≡ at)) → R (get_or xs i d) (get_or xs j d)
one-more R trans xs at i j d r next lt (inl below) = r.pairs i j d lt below
one-more R trans xs at i j d r next lt (inr same) =
    let below : i < at = omega (arith, lt, same) in
    subst (λ k. R (get_or xs i d) (get_or xs k d)) (omega (arith, same)) (next-pair R trans xs at i d r next below (before i at below))

pub rising-more : {X : Type 0} (R : X → X → Type 0) → IsTransitive R → (xs : List X) (at : ℕ) → Rising R xs at → ((d : X) → R (get_or xs (at - 1) d) (get_or xs at d)) → Rising R xs (at + 1)
rising-more R trans xs at r next = record { from_one = omega arith; pairs = λ i j d lt below. one-more R trans xs at i j d r (next d) lt (at-end j at below) }

pub rising-all : {X : Type 0} (R : X → X → Type 0) (xs : List X) (at : ℕ) → length xs ≤ at → Rising R xs at → AllPairs R xs
rising-all R xs at long r = λ i j d lt below. r.pairs i j d lt (omega (arith, long, below))

pub pair-of : {X : Type 0} (R : X → X → Type 0) (xs : List X) (i j : ℕ) (x y : X) → i < j → j < length xs → x ≡ get_or xs i x → y ≡ get_or xs j y → AllPairs R xs → R x y
pair-of R xs i j x y lt below ix iy h =
    subst (λ z. R z y) (sym ix) (subst (λ z. R (get_or xs i x) z) (sym (get_or_read xs j y below iy x)) (h i j x lt below))

-- ---- names and versions

less-is : (o : Ordering) → is_lt o ≡ true → o ≡ Less
less-is Less e = refl
less-is Equal e = absurd (false≢true e)
less-is Greater e = absurd (false≢true e)

less-lt : (o : Ordering) → o ≡ Less → is_lt o ≡ true
less-lt o e = subst (λ x. is_lt x ≡ true) (sym e) refl

pub name-trans : (a b c : List ℕ) → name_lt a b ≡ true → name_lt b c ≡ true → name_lt a c ≡ true
name-trans a b c x y = less-lt (slice_cmp nat_cmp a c) (nat_list_cmp_total.trans a b c (less-is (slice_cmp nat_cmp a b) x) (less-is (slice_cmp nat_cmp b c) y))

pub version-trans : (a b c : Version) → version_lt a b ≡ true → version_lt b c ≡ true → version_lt a c ≡ true
version-trans a b c x y = grind (arith, nat_tests)

-- ---- lists of things with names

abbrev pub NamesRise : {X : Type 0} → (X → List ℕ) → X → X → Type 0
NamesRise name a b = IsTrue (name_lt (name a) (name b))

-- one more name rises
pub names-more : {X : Type 0} (name : X → List ℕ) (xs : List X) (at : ℕ) (x y : X) → at < length xs → x ≡ get_or xs (at - 1) x → y ≡ get_or xs at y → Rising (NamesRise name) xs at → name_lt (name x) (name y) ≡ true → Rising (NamesRise name) xs (at + 1)
names-more name xs at x y lt ix iy r below =
    let one : 1 ≤ at = r.from_one in
    rising-more (NamesRise name) (λ a b c. name-trans (name a) (name b) (name c)) xs at r (pair_read xs (NamesRise name) (at - 1) at x y (omega (arith, one)) lt ix iy below)

-- a name that doesn't rise
pub names-stop : {X : Type 0} (name : X → List ℕ) (xs : List X) (at : ℕ) (x y : X) → at < length xs → x ≡ get_or xs (at - 1) x → y ≡ get_or xs at y → Rising (NamesRise name) xs at → name_lt (name x) (name y) ≡ false → AllPairs (NamesRise name) xs → ⊥
names-stop name xs at x y lt ix iy r above h =
    let one : 1 ≤ at = r.from_one in
    false≢true (sym above ∙ pair-of (NamesRise name) xs (at - 1) at x y (omega (arith, one)) lt ix iy h)

-- a reading of two places with a default is one with any
pub rises-at : (xs : List Listed) (i j : ℕ) (e : Listed) → i < length xs → j < length xs → version_lt (get_or xs i e).version (get_or xs j e).version ≡ true → (d : Listed) → version_lt (get_or xs i d).version (get_or xs j d).version ≡ true
rises-at xs i j e li lj h d = subst (λ x. version_lt x.version (get_or xs j d).version ≡ true) (get_or_default xs i e d li) (subst (λ y. version_lt (get_or xs i e).version y.version ≡ true) (get_or_default xs j e d lj) h)
