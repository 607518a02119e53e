-- The least word that has two patterns is the union of their bits.
use Rattle.std.proofs.Common.{◌≡◌, ◌∙◌, ℕ, ◌≤◌, min, max, bit_and, bit_or, true, arith, sym, ap, subst, nat_eq}
use Rattle.std.proofs.lemmas.Nat.Bits.{bit_at_and, bit_at_or, same_from_bits}
use Rattle.std.proofs.lemmas.Bool.Decides.{nat_tests}
use Rattle.std.specs.Int.{bit_at}
use lib.Bits.{and_le_l}
use Rattle.udb_decode.specs.declared.patterns.Pattern.{Pattern}
use Rattle.udb_decode.specs.Patterns.{matches, MatchesBoth}

module _ (w a b : ℕ) where
  within : (x y z : ℕ) → min (max (min x y) (min x z)) y ≡ min x y
  within x y z = omega arith

  union : (x y z : ℕ) → max (min x y) (min x z) ≡ min x (max y z)
  union x y z = omega arith

  pub under_first : bit_and (bit_or (bit_and w a) (bit_and w b)) a ≡ bit_and w a
  under_first = same_from_bits _ _ (λ i.
      bit_at_and (bit_or (bit_and w a) (bit_and w b)) a i
      ∙ (ap (λ x. min x (bit_at a i)) (bit_at_or (bit_and w a) (bit_and w b) i)
      ∙ (ap (λ x. min (max x (bit_at (bit_and w b) i)) (bit_at a i)) (bit_at_and w a i)
      ∙ (ap (λ x. min (max (min (bit_at w i) (bit_at a i)) x) (bit_at a i)) (bit_at_and w b i)
      ∙ (within (bit_at w i) (bit_at a i) (bit_at b i) ∙ sym (bit_at_and w a i))))))

  is_part : bit_or (bit_and w a) (bit_and w b) ≡ bit_and w (bit_or a b)
  is_part = same_from_bits _ _ (λ i.
      bit_at_or (bit_and w a) (bit_and w b) i
      ∙ (ap (λ x. max x (bit_at (bit_and w b) i)) (bit_at_and w a i)
      ∙ (ap (λ x. max (min (bit_at w i) (bit_at a i)) x) (bit_at_and w b i)
      ∙ (union (bit_at w i) (bit_at a i) (bit_at b i)
      ∙ (ap (min (bit_at w i)) (sym (bit_at_or a b i)) ∙ sym (bit_at_and w (bit_or a b) i))))))

  pub union_le : bit_or (bit_and w a) (bit_and w b) ≤ w
  union_le = subst (λ x. x ≤ w) (sym is_part) (and_le_l w (bit_or a b))

under_second : (w a b : ℕ) → bit_and (bit_or (bit_and w a) (bit_and w b)) b ≡ bit_and w b
under_second w a b = ap (λ x. bit_and x b) (swapped w a b) ∙ under_first w b a
  where
    swapped : (w a b : ℕ) → bit_or (bit_and w a) (bit_and w b) ≡ bit_or (bit_and w b) (bit_and w a)
    swapped w a b = same_from_bits _ _ (λ i. bit_at_or (bit_and w a) (bit_and w b) i ∙ (turned _ _ ∙ sym (bit_at_or (bit_and w b) (bit_and w a) i)))
      where
        turned : (x y : ℕ) → max x y ≡ max y x
        turned x y = omega arith

is_at : (p : Pattern) (word : ℕ) → matches p word ≡ true → bit_and word p.mask ≡ p.bits
is_at p word h = grind (arith, nat_tests)

pub least : (a b : Pattern) (word : ℕ) → MatchesBoth a b word → bit_or a.bits b.bits ≤ word
least a b word m = subst (λ x. bit_or x b.bits ≤ word) (is_at a word m.first) (subst (λ x. bit_or (bit_and word a.mask) x ≤ word) (is_at b word m.second) (union_le word a.mask b.mask))

same_test : (x y : ℕ) → x ≡ y → (nat_eq x y) ≡ true
same_test x y e = grind (arith, nat_tests)

pub first_has : (a b : Pattern) (word : ℕ) → MatchesBoth a b word → matches a (bit_or a.bits b.bits) ≡ true
first_has a b word m =
    same_test _ _ (subst (λ x. bit_and (bit_or x b.bits) a.mask ≡ x) (is_at a word m.first) (subst (λ x. bit_and (bit_or (bit_and word a.mask) x) a.mask ≡ bit_and word a.mask) (is_at b word m.second) (under_first word a.mask b.mask)))

pub second_has : (a b : Pattern) (word : ℕ) → MatchesBoth a b word → matches b (bit_or a.bits b.bits) ≡ true
second_has a b word m =
    same_test _ _ (subst (λ x. bit_and (bit_or a.bits x) b.mask ≡ x) (is_at b word m.second) (subst (λ x. bit_and (bit_or x (bit_and word b.mask)) b.mask ≡ bit_and word b.mask) (is_at a word m.first) (under_second word a.mask b.mask)))

pub ruleset overlaps = (least, first_has, second_has)
