-- Faults of the fields of a list, one field after another.
use Rattle.std.proofs.Common.{◌≡◌, ◌⊎◌, ◌∙◌, inl, inr, ℕ, ◌+◌, ◌<◌, ◌≤◌, List, length, get_or, arith, refl, sym, ap, subst}
use Rattle.std.proofs.lemmas.List.{get_or_default}
use Rattle.udb_base.specs.declared.spaces.Space.{Space}
use Rattle.udb_base.specs.declared.spaces.Full.{Full}
use Rattle.idl_tree.specs.declared.programs.FieldBodies.{FieldBodies}
use Rattle.idl_tree.specs.declared.programs.CsrBody.{CsrBody}
use Rattle.udb_csr.specs.Faults.{SharesBit, PassesLength, IsFieldAt, Overlaps, IsPast, HasNoOverlap, HasNoPast}
use Rattle.udb_csr.specs.Steps.{IsApart, AreApart, ArePassingNone}

same-field : (fields : List FieldBodies) (i : ℕ) (a b : FieldBodies) → IsFieldAt fields i a → IsFieldAt fields i b → a ≡ b
same-field fields i a b p q = p.is ∙ (get_or_default fields i a b p.within ∙ sym q.is)

-- a field of the slice that is the list
pub slice-field : (fields slice : List FieldBodies) (i : ℕ) (one : FieldBodies) → slice ≡ fields → i < length slice → one ≡ get_or slice i one → IsFieldAt fields i one
slice-field fields slice i one same lt is = record { within = omega (arith, lt, ap length same); is = is ∙ ap (λ fs. get_or fs i one) same }

pub field-at : (fields slice : List FieldBodies) (i at : ℕ) (one : FieldBodies) → slice ≡ fields → i < at → at < length fields → one ≡ get_or slice i one → IsFieldAt fields i one
field-at fields slice i at one same lt below is = record { within = omega (arith, lt, below); is = is ∙ ap (λ fs. get_or fs i one) same }

last-or-before : (i n : ℕ) → i < n + 1 → (i < n) ⊎ (i ≡ n)
last-or-before i n h = grind arith

module _ (space : Space) (csr : CsrBody) where
  pub apart-none : (at : ℕ) → IsApart space csr at 0
  apart-none at = record { apart = λ i one other full lt. absurd (omega (arith, lt)) }

  pub apart-more : (at i : ℕ) (one other : FieldBodies) → IsFieldAt csr.fields i one → IsFieldAt csr.fields at other → ((full : Full) → SharesBit space csr one other full → ⊥) → IsApart space csr at i → IsApart space csr at (i + 1)
  apart-more at i one other p q none before = record {
    apart = λ k a b full lt x y s. by k a b full x y s (last-or-before k i lt);
  } where
    by : (k : ℕ) (a b : FieldBodies) (full : Full) → IsFieldAt csr.fields k a → IsFieldAt csr.fields at b → SharesBit space csr a b full → (k < i) ⊎ (k ≡ i) → ⊥
    by k a b full x y s (inl lt) = before.apart k a b full lt x y s
    by k a b full x y s (inr same) =
        none full (subst (λ f. SharesBit space csr f other full) (same-field csr.fields i a one (subst (λ j. IsFieldAt csr.fields j a) same x) p)
        (subst (λ f. SharesBit space csr a f full) (same-field csr.fields at b other y q) s))

  pub are-apart-none : AreApart space csr 0
  are-apart-none = record { each = λ at lt. absurd (omega (arith, lt)) }

  pub are-apart-more : (at : ℕ) → IsApart space csr at at → AreApart space csr at → AreApart space csr (at + 1)
  are-apart-more at here before = record { each = λ k lt. by k (last-or-before k at lt) } where
    by : (k : ℕ) → (k < at) ⊎ (k ≡ at) → IsApart space csr k k
    by k (inl lt) = before.each k lt
    by k (inr same) = subst (λ j. IsApart space csr j j) (sym same) here

  pub no-overlap : (count : ℕ) → length csr.fields ≤ count → AreApart space csr count → HasNoOverlap space csr
  no-overlap count long are first second full o =
      (are.each o.other_at (omega (arith, o.other_is.within, long))).apart o.one_at o.one o.other full o.order o.one_is o.other_is o.shares

  pub passing-none : ArePassingNone space csr 0
  passing-none = record { each = λ i field full lt. absurd (omega (arith, lt)) }

  pub passing-more : (i : ℕ) (field : FieldBodies) → IsFieldAt csr.fields i field → ((full : Full) → PassesLength space csr field full → ⊥) → ArePassingNone space csr i → ArePassingNone space csr (i + 1)
  passing-more i field p none before = record {
    each = λ k a full lt x s. by k a full x s (last-or-before k i lt);
  } where
    by : (k : ℕ) (a : FieldBodies) (full : Full) → IsFieldAt csr.fields k a → PassesLength space csr a full → (k < i) ⊎ (k ≡ i) → ⊥
    by k a full x s (inl lt) = before.each k a full lt x s
    by k a full x s (inr same) = none full (subst (λ f. PassesLength space csr f full) (same-field csr.fields i a field (subst (λ j. IsFieldAt csr.fields j a) same x) p) s)

  pub no-past : (count : ℕ) → length csr.fields ≤ count → ArePassingNone space csr count → HasNoPast space csr
  no-past count long are name full p = are.each p.place p.field full (omega (arith, p.field_is.within, long)) p.field_is p.passes

  pub overlap-is : (i at : ℕ) (one other : FieldBodies) (full : Full) → i < at → IsFieldAt csr.fields i one → IsFieldAt csr.fields at other → SharesBit space csr one other full → Overlaps space csr one.name other.name full
  overlap-is i at one other full lt p q s = record { one = one; other = other; one_at = i; other_at = at; order = lt; one_is = p; other_is = q; one_named = refl; other_named = refl; shares = s }

  pub past-is : (i : ℕ) (field : FieldBodies) (full : Full) → IsFieldAt csr.fields i field → PassesLength space csr field full → IsPast space csr field.name full
  past-is i field full p s = record { field = field; place = i; field_is = p; named = refl; passes = s }
