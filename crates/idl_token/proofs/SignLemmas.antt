-- Each word and sign is among all of them, and the sign that is taken is the longest.
use Rattle.std.proofs.Common.{◌≡◌, ℕ, ◌≤◌, nat_le, nat_eq, Bool, true, false, ◌&&◌, List, [], ◌∷◌, length, Some, None, refl, subst, cond, arith}
use Rattle.std.specs.List.{find, list_all, starts_with}
use Rattle.std.proofs.lemmas.Bool.{and_parts, leb-true, both_ways}
use Rattle.idl_token.specs.declared.kinds.Reserved.{Reserved}
use Rattle.idl_token.specs.declared.kinds.Reserved.TheVariants as r
use Rattle.idl_token.specs.declared.kinds.Special.{Special}
use Rattle.idl_token.specs.declared.kinds.Special.TheVariants as p
use Rattle.idl_token.specs.declared.kinds.Sign.{Sign}
use Rattle.idl_token.specs.declared.kinds.Sign.TheVariants as s
use Rattle.idl_token.specs.Spelling.{reserved_text, special_text, sign_text, reserved_words, special_words, signs}
use Rattle.idl_token.specs.Front.{reserved_of, special_of, sign_of}

pub reserved-itself : (w : Reserved) → reserved_of (reserved_text w) ≡ Some w
unfolding reserved_words
reserved-itself r.Bits = refl
reserved-itself _ = refl

pub special-itself : (w : Special) → special_of (special_text w) ≡ Some w
unfolding special_words
special-itself p.Implemented = refl
special-itself _ = refl

pub sign-itself : (w : Sign) → sign_of (sign_text w) ≡ Some w
unfolding signs
sign-itself s.OpenParen = refl
sign-itself _ = refl

data IsIn (h : Sign) : List Sign → Type 0 where
  here : {x : Sign} {xs : List Sign} → x ≡ h → IsIn h (x ∷ xs)
  there : {x : Sign} {xs : List Sign} → IsIn h xs → IsIn h (x ∷ xs)

find-in : (test : Sign → Bool) (xs : List Sign) (h : Sign) → find test xs ≡ Some h → IsIn h xs
find-in test [] h e = absurd cc
find-in test (x ∷ xs) h e = by_test (test x) (find-in test xs h) e where
  by_test : (b : Bool) → (find test xs ≡ Some h → IsIn h xs) → cond b (Some x) (find test xs) ≡ Some h → IsIn h (x ∷ xs)
  by_test true later q = let same : x ≡ h = cc in here same
  by_test false later q = there (later q)

abbrev is_no_longer : Sign → Sign → Bool
is_no_longer x y = nat_le (length (sign_text y)) (length (sign_text x))

-- no sign is longer than one before it
abbrev falls : List Sign → Bool
falls [] = true
falls (x ∷ xs) = list_all (is_no_longer x) xs && falls xs

signs-fall : falls signs ≡ true
unfolding signs
signs-fall = refl

below-first : (x h : Sign) (xs : List Sign) → list_all (is_no_longer x) xs ≡ true → IsIn h xs → length (sign_text h) ≤ length (sign_text x)
below-first x h [] all q = elim q [ ]
below-first x h (y ∷ xs) all (here same) = subst (λ z. length (sign_text z) ≤ length (sign_text x)) same (leb-true (length (sign_text y)) (length (sign_text x)) (and_parts _ _ all).0)
below-first x h (y ∷ xs) all (there q) = below-first x h xs (and_parts _ _ all).1 q

first-longest : (test : Sign → Bool) (xs : List Sign) (g h : Sign) → falls xs ≡ true → find test xs ≡ Some g → IsIn h xs → test h ≡ true → length (sign_text h) ≤ length (sign_text g)
first-longest test [] g h fall e q yes_h = elim q [ ]
first-longest test (x ∷ xs) g h fall e q yes_h = by_test (test x) refl e q (λ f i. first-longest test xs g h (and_parts _ _ fall).1 f i yes_h) where
  by_test : (b : Bool) → test x ≡ b → cond b (Some x) (find test xs) ≡ Some g → IsIn h (x ∷ xs) → (find test xs ≡ Some g → IsIn h xs → length (sign_text h) ≤ length (sign_text g)) → length (sign_text h) ≤ length (sign_text g)
  by_test true is f (here e) later = let same : h ≡ g = cc in subst (λ y. length (sign_text h) ≤ length (sign_text y)) same (omega arith)
  by_test true is f (there i) later = let same : x ≡ g = cc in subst (λ y. length (sign_text h) ≤ length (sign_text y)) same (below-first x h xs (and_parts _ _ fall).0 i)
  by_test false is f (here e) later = let no_h = subst (λ y. test y ≡ false) e is in absurd (both_ways (test h) no_h yes_h)
  by_test false is f (there i) later = later f i

find-none : (test : Sign → Bool) (xs : List Sign) (h : Sign) → find test xs ≡ None → IsIn h xs → test h ≡ false
find-none test [] h e q = elim q [ ]
find-none test (x ∷ xs) h e q = by_test (test x) refl e q (λ f i. find-none test xs h f i) where
  by_test : (b : Bool) → test x ≡ b → cond b (Some x) (find test xs) ≡ None → IsIn h (x ∷ xs) → (find test xs ≡ None → IsIn h xs → test h ≡ false) → test h ≡ false
  by_test true is f i later = absurd cc
  by_test false is f (here e) later = subst (λ y. test y ≡ false) e is
  by_test false is f (there i) later = later f i

listed : (h : Sign) → IsIn h signs
listed h = find-in (λ w. starts_with nat_eq (sign_text h) (sign_text w)) signs h (sign-itself h)

pub sign-longest : (text : List ℕ) (g h : Sign) → sign_of text ≡ Some g → starts_with nat_eq text (sign_text h) ≡ true → length (sign_text h) ≤ length (sign_text g)
sign-longest text g h e yes_h = first-longest (λ w. starts_with nat_eq text (sign_text w)) signs g h signs-fall e (listed h) yes_h

pub sign-none : (text : List ℕ) (h : Sign) → sign_of text ≡ None → starts_with nat_eq text (sign_text h) ≡ false
sign-none text h e = find-none (λ w. starts_with nat_eq text (sign_text w)) signs h e (listed h)
