-- The codings that are kept, one after another, and in another order.
use Rattle.std.proofs.Common.{◌≡◌, ◌⊎◌, ◌∙◌, inl, inr, ℕ, ◌+◌, ◌<◌, ◌≤◌, List, [], ◌∷◌, ◌++◌, length, take, get_or, arith, sym, ap, subst}
use Rattle.std.specs.Prelude.{Contains}
use Rattle.std.specs.List.Sorted.{IsPermutation}
use Rattle.std.proofs.lemmas.List.{take_more, take_all}
use Rattle.std.proofs.lemmas.List.Elements.{Contains-append_left, Contains-push, Contains-push_cases}
use Rattle.std.proofs.lemmas.List.Sorted.{Contains-permutation, IsPermutation-sym}
use Rattle.udb_base.specs.declared.refutations.Partial.{Partial}
use Rattle.udb_base.specs.declared.spaces.Space.{Space}
use Rattle.udb_decode.specs.declared.decoder.Coding.{Coding}
use Rattle.udb_decode.specs.declared.decoder.Kept.{Kept}
use Rattle.udb_decode.specs.Picks.{CanHold}
use Rattle.udb_decode.specs.Kept.{kept_of, IsKept, AreKept}

module _ (space : Space) (part : Partial) where
  none-has : {X : Type 0} (x : X) → Contains [] x → ⊥
  none-has x among = omega (arith, among.1)

  pub none_kept : AreKept space part [] []
  none_kept = record {
    each = λ kept among. absurd (none-has kept among);
    whole = λ coding among present. absurd (none-has coding among);
  }

  later : (codings : List Coding) (coding : Coding) (kept : Kept) → IsKept space part codings kept → IsKept space part (codings ++ coding ∷ []) kept
  later codings coding kept is = record { coding = is.coding; among = Contains-append_left codings (coding ∷ []) is.coding is.among; present = is.present; is = is.is }

  kept-cases : (codings : List Coding) (coding : Coding) (all : List Kept) (kept : Kept) → AreKept space part codings all → CanHold space part coding.present → (Contains all kept ⊎ (kept_of coding ≡ kept)) → IsKept space part (codings ++ coding ∷ []) kept
  kept-cases codings coding all kept are present (inl before) = later codings coding kept (are.each kept before)
  kept-cases codings coding all kept are present (inr last) = record { coding = coding; among = Contains-push codings coding; present = present; is = last }

  coding-kept : (codings : List Coding) (coding one : Coding) (all : List Kept) → AreKept space part codings all → CanHold space part one.present → (Contains codings one ⊎ (coding ≡ one)) → Contains (all ++ kept_of coding ∷ []) (kept_of one)
  coding-kept codings coding one all are present (inl before) = Contains-append_left all (kept_of coding ∷ []) (kept_of one) (are.whole one before present)
  coding-kept codings coding one all are present (inr last) = subst (λ c. Contains (all ++ kept_of coding ∷ []) (kept_of c)) last (Contains-push all (kept_of coding))

  with-one : (codings : List Coding) (coding : Coding) (all : List Kept) → AreKept space part codings all → CanHold space part coding.present → AreKept space part (codings ++ coding ∷ []) (all ++ kept_of coding ∷ [])
  with-one codings coding all are present = record {
    each = λ kept among. kept-cases codings coding all kept are present (Contains-push_cases all (kept_of coding) kept among);
    whole = λ one among held. coding-kept codings coding one all are held (Contains-push_cases codings coding one among);
  }

  coding-left : (codings : List Coding) (coding one : Coding) (all : List Kept) → AreKept space part codings all → (CanHold space part coding.present → ⊥) → CanHold space part one.present → (Contains codings one ⊎ (coding ≡ one)) → Contains all (kept_of one)
  coding-left codings coding one all are absent present (inl before) = are.whole one before present
  coding-left codings coding one all are absent present (inr last) = absurd (absent (subst (λ c. CanHold space part c.present) (sym last) present))

  without-one : (codings : List Coding) (coding : Coding) (all : List Kept) → AreKept space part codings all → (CanHold space part coding.present → ⊥) → AreKept space part (codings ++ coding ∷ []) all
  without-one codings coding all are absent = record {
    each = λ kept among. later codings coding kept (are.each kept among);
    whole = λ one among held. coding-left codings coding one all are absent held (Contains-push_cases codings coding one among);
  }

  one-more : (codings : List Coding) (i : ℕ) (coding : Coding) → i < length codings → coding ≡ get_or codings i coding → take i codings ++ coding ∷ [] ≡ take (i + 1) codings
  one-more codings i coding lt is = ap (λ c. take i codings ++ c ∷ []) is ∙ sym (take_more codings i coding lt)

  pub kept_more : (codings : List Coding) (i : ℕ) (coding : Coding) (all : List Kept) → i < length codings → coding ≡ get_or codings i coding → AreKept space part (take i codings) all → CanHold space part coding.present → AreKept space part (take (i + 1) codings) (all ++ kept_of coding ∷ [])
  kept_more codings i coding all lt is are present = subst (λ cs. AreKept space part cs (all ++ kept_of coding ∷ [])) (one-more codings i coding lt is) (with-one (take i codings) coding all are present)

  pub left_more : (codings : List Coding) (i : ℕ) (coding : Coding) (all : List Kept) → i < length codings → coding ≡ get_or codings i coding → AreKept space part (take i codings) all → (CanHold space part coding.present → ⊥) → AreKept space part (take (i + 1) codings) all
  left_more codings i coding all lt is are absent = subst (λ cs. AreKept space part cs all) (one-more codings i coding lt is) (without-one (take i codings) coding all are absent)

  pub all_kept : (codings : List Coding) (i : ℕ) (all : List Kept) → length codings ≤ i → AreKept space part (take i codings) all → AreKept space part codings all
  all_kept codings i all long are = subst (λ cs. AreKept space part cs all) (take_all i codings long) are

  pub permuted : (codings : List Coding) (all sorted : List Kept) → IsPermutation all sorted → AreKept space part codings all → AreKept space part codings sorted
  permuted codings all sorted moved are = record {
    each = λ kept among. are.each kept (Contains-permutation sorted all kept (IsPermutation-sym all sorted moved) among);
    whole = λ coding among held. Contains-permutation all sorted (kept_of coding) moved (are.whole coding among held);
  }

pub ruleset keeping = (none_kept, kept_more, left_more, all_kept)
