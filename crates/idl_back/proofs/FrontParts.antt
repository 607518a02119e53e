-- Texts that begin as an operand does.
use Rattle.std.proofs.Common.{◌≡◌, ℕ, ◌<◌, ◌^◌, nat_lt, Bool, true, not, ◌&&◌, List, [], ◌∷◌, ◌++◌, length, refl, sym, arith, true≢false, decimal}
use Rattle.std.specs.List.{list_all}
use Rattle.std.proofs.lemmas.Bool.{and_parts, or_left, ltb-true}
use Rattle.idl_token.specs.declared.kinds.Reserved.{Reserved}
use Rattle.idl_token.specs.declared.kinds.Special.{Special}
use Rattle.idl_token.specs.declared.kinds.Special.TheVariants as p
use Rattle.idl_token.specs.Spelling.{reserved_text, special_text}
use Rattle.idl_token.specs.Numbers.{begins_digit}
use Rattle.idl_token.specs.Values.{IsWord}
use Rattle.idl_token.specs.Front.{is_word_byte}
use Rattle.idl_tree.specs.Print.{quote_word}
use Rattle.idl_back.specs.Piece.{begins_part, between_quotes}
use Rattle.idl_back.proofs.FrontWords.{reserved_fit}
use Rattle.idl_back.proofs.FrontNumbers.{decimal_is, digits_words}

pub part_append : (x s : List ℕ) → begins_part x ≡ true → begins_part (x ++ s) ≡ true
part_append [] s h = absurd (true≢false (sym h))
part_append (c ∷ x) s h = h

bytes_part : (x : List ℕ) → list_all is_word_byte x ≡ true → 0 < length x → begins_part x ≡ true
bytes_part [] h some = absurd (omega arith)
bytes_part (c ∷ x) h some = or_left (is_word_byte c) _ (and_parts (is_word_byte c) (list_all is_word_byte x) h).0

pub word_part : (x : List ℕ) → IsWord x → 0 < length x → begins_part x ≡ true
word_part x h some = bytes_part x h.bytes some

pub number_part : (n : ℕ) → n < 2 ^ 128 → begins_part (decimal n) ≡ true
number_part n h = let q = decimal_is n h in bytes_part (decimal n) (digits_words (decimal n) q.all) q.some

pub reserved_part : (x : Reserved) → begins_part (reserved_text x) ≡ true
reserved_part x =
    let one = and_parts (list_all is_word_byte (reserved_text x)) (not (begins_digit 10 (reserved_text x)) && nat_lt 0 (length (reserved_text x))) (reserved_fit x) in
    let two = and_parts (not (begins_digit 10 (reserved_text x))) (nat_lt 0 (length (reserved_text x))) one.1 in
    bytes_part (reserved_text x) one.0 (ltb-true 0 (length (reserved_text x)) two.1)

pub special_part : (x : Special) → begins_part (special_text x) ≡ true
special_part p.Implemented = refl
special_part p.ImplementedVersion = refl
special_part p.AsSigned = refl
special_part p.Resize = refl
special_part p.WidthOf = refl
special_part p.Pc = refl
special_part p.Encoding = refl

pub sized_part : (u : Bool) (x y : List ℕ) → begins_part x ≡ true → begins_part (x ++ quote_word u ++ y) ≡ true
sized_part u x y h = part_append (x ++ quote_word u) y (part_append x (quote_word u) h)

pub text_part : (x : List ℕ) → begins_part (between_quotes x) ≡ true
text_part x = refl
