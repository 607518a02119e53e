-- Bytes of ASCII without a line feed, which are read as they stand.
use Rattle.std.proofs.Common.{◌≡◌, ℕ, ◌<◌, ◌+◌, ◌%◌, ◌^◌, ◌==◌, Bool, true, false, cond, not, ◌&&◌, List, [], ◌∷◌, ◌++◌, refl, ap, sym, ◌∙◌, arith, append_assoc, append-nil, nat_lt, decimal}
use Rattle.std.specs.List.{list_all}
use Rattle.std.proofs.lemmas.Bool.Decides.{nat_tests}
use Rattle.std.proofs.lemmas.Fmt.{decimal_by_steps}
use Rattle.udb_base.specs.Lines.{text_of_lines}
use Rattle.first_bundle.specs.Lines.{plain, plain_byte, split_onto, split_lines}

abbrev pub is_clean : ℕ → Bool
is_clean b = nat_lt b 128 && not (b == 10)

abbrev pub clean : List ℕ → Bool
clean = list_all is_clean

pub left_so : (p q : Bool) → (p && q) ≡ true → p ≡ true
left_so true q h = refl
left_so false q h = h

pub right_so : (p q : Bool) → (p && q) ≡ true → q ≡ true
right_so true q h = h
right_so false q h = absurd (cc)

pub both_so : (p q : Bool) → p ≡ true → q ≡ true → (p && q) ≡ true
both_so p q h k = rw (h, k) refl

pub all_so : {X : Type 0} (p q : X → Bool) → ((x : X) → p x ≡ true → q x ≡ true) → (xs : List X) → list_all p xs ≡ true → list_all q xs ≡ true
all_so p q f [] h = refl
all_so p q f (x ∷ xs) h = both_so (q x) (list_all q xs) (f x (left_so (p x) (list_all p xs) h)) (all_so p q f xs (right_so (p x) (list_all p xs) h))

pub all_joined : {X : Type 0} (p : X → Bool) (xs ys : List X) → list_all p xs ≡ true → list_all p ys ≡ true → list_all p (xs ++ ys) ≡ true
all_joined p [] ys h k = k
all_joined p (x ∷ xs) ys h k = both_so (p x) (list_all p (xs ++ ys)) (left_so (p x) (list_all p xs) h) (all_joined p xs ys (right_so (p x) (list_all p xs) h) k)

pub clean-decimal : (n : ℕ) → n < 2 ^ 64 → clean (decimal n) ≡ true
clean-decimal = decimal_by_steps (λ n ds. clean ds ≡ true) (λ n l. both_so (is_clean (48 + n)) true (digit n l) refl) (λ n ds l h. all_joined is_clean ds ((48 + n % 10) ∷ []) h (both_so (is_clean (48 + n % 10)) true (digit (n % 10) (omega arith)) refl))
  where
    digit : (d : ℕ) → d < 10 → is_clean (48 + d) ≡ true
    digit d l = grind (arith, nat_tests)

plain_byte_same : (b : ℕ) → is_clean b ≡ true → plain_byte b ≡ b
plain_byte_same b h = ap (λ t. cond t b 63) (left_so (nat_lt b 128) (not (b == 10)) h)

pub plain_same : (bs : List ℕ) → clean bs ≡ true → plain bs ≡ bs
plain_same [] h = refl
plain_same (b ∷ bs) h = let e = plain_byte_same b (left_so (is_clean b) (clean bs) h) in let f = plain_same bs (right_so (is_clean b) (clean bs) h) in λ i. e i ∷ f i

not_so : (b : Bool) → not b ≡ true → b ≡ false
not_so true h = sym h
not_so false h = refl

no_feed : (b : ℕ) → is_clean b ≡ true → (b == 10) ≡ false
no_feed b h = not_so (b == 10) (right_so (nat_lt b 128) (not (b == 10)) h)

split_byte : (lines : List (List ℕ)) (line : List ℕ) (b : ℕ) (bs : List ℕ) → (b == 10) ≡ false → split_onto lines line (b ∷ bs) ≡ split_onto lines (line ++ b ∷ []) bs
split_byte lines line b bs e = ap (λ t. cond t (split_onto (lines ++ line ∷ []) [] bs) (split_onto lines (line ++ b ∷ []) bs)) e

split_line : (lines : List (List ℕ)) (line l rest : List ℕ) → clean l ≡ true → split_onto lines line (l ++ 10 ∷ rest) ≡ split_onto (lines ++ (line ++ l) ∷ []) [] rest
split_line lines line [] rest h = ap (λ x. split_onto (lines ++ x ∷ []) [] rest) (sym (append-nil line))
split_line lines line (b ∷ l) rest h =
    split_byte lines line b (l ++ 10 ∷ rest) (no_feed b (left_so (is_clean b) (clean l) h))
    ∙ (split_line lines (line ++ b ∷ []) l rest (right_so (is_clean b) (clean l) h)
    ∙ ap (λ x. split_onto (lines ++ x ∷ []) [] rest) (append_assoc line (b ∷ []) l))

split_all : (done ls : List (List ℕ)) → list_all clean ls ≡ true → split_onto done [] (text_of_lines ls) ≡ done ++ ls
split_all done [] h = sym (append-nil done)
split_all done (l ∷ ls) h =
    ap (split_onto done []) (append_assoc l (10 ∷ []) (text_of_lines ls))
    ∙ (split_line done [] l (text_of_lines ls) (left_so (clean l) (list_all clean ls) h)
    ∙ (split_all (done ++ l ∷ []) ls (right_so (clean l) (list_all clean ls) h)
    ∙ append_assoc done (l ∷ []) ls))

-- the lines of a text are found again
pub split_text : (ls : List (List ℕ)) → list_all clean ls ≡ true → split_lines (text_of_lines ls) ≡ ls
split_text ls h = split_all [] ls h
