-- Statement: the token or separator at the front of a source from a place on, a case for each rule
-- of the format. Sources are lists of their bytes in UTF-8; only texts, comments and descriptions
-- hold bytes past ASCII.
use Rattle.std.specs.Prelude.{ℕ, zero, suc, ◌<◌, ◌+◌, ◌^◌, ◌==◌, nat_eq, nat_lt, Bool, true, false, not, ◌&&◌, ◌||◌, if◌then◌else◌, List, [], ◌∷◌, length, take, drop, find, take_while, Option, Some, None, is_some}
use Rattle.std.specs.Char.{is_digit, is_ascii_alphanumeric}
use Rattle.std.specs.List.{prefix_len, starts_with}
use Rattle.std.specs.Str.{bytes_eq, IsCharBoundary}
use Rattle.std.specs.Str.Parse.{digits_value}
use Rattle.idl_token.specs.declared.kinds.Reserved.{Reserved}
use Rattle.idl_token.specs.declared.kinds.Reserved.TheVariants as r
use Rattle.idl_token.specs.declared.kinds.Special.{Special}
use Rattle.idl_token.specs.declared.kinds.Special.TheVariants as p
use Rattle.idl_token.specs.declared.kinds.Sign.{Sign}
use Rattle.idl_token.specs.declared.kinds.Sign.TheVariants as g
use Rattle.idl_token.specs.declared.kinds.TokenKind.{TokenKind}
use Rattle.idl_token.specs.declared.kinds.TokenKind.TheVariants as k
use Rattle.idl_token.specs.declared.before.Before.{Before}
use Rattle.idl_token.specs.declared.front.Front.{Front}
use Rattle.idl_token.specs.declared.front.Front.TheVariants.{Gap, Token, Nothing}
use Rattle.idl_token.specs.Spelling.{reserved_text, special_text, sign_text, reserved_words, special_words, signs}
use Rattle.idl_token.specs.Numbers.{begins, begins_digit, base_of, mark_of, letter_base}

-- ---- what the tokens before a place say of it

-- `Bits`, `$resize`, `read_memory` and `write_memory` take a width between `<` and `>`
abbrev pub takes_width : TokenKind → Bool
takes_width (k.Reserved r.Bits) = true
takes_width (k.Reserved r.ReadMemory) = true
takes_width (k.Reserved r.WriteMemory) = true
takes_width (k.Special p.Resize) = true
takes_width _ = false

abbrev pub is_description : TokenKind → Bool
is_description (k.Reserved r.Description) = true
is_description _ = false

abbrev pub is_less : TokenKind → Bool
is_less (k.Sign g.Less) = true
is_less _ = false

abbrev pub is_greater : TokenKind → Bool
is_greater (k.Sign g.Greater) = true
is_greater _ = false

abbrev pub is_open_brace : TokenKind → Bool
is_open_brace (k.Sign g.OpenBrace) = true
is_open_brace _ = false

-- before the first token
abbrev pub start : Before
start = record { takes_width = false; in_width = false; describes = false; in_description = false }

-- after one more token: a width goes from the `<` right after its word to the next `>`, and a description begins with the `{` right after its word
abbrev pub after : Before → TokenKind → Before
after b t = record {
  takes_width = takes_width t;
  in_width = (b.takes_width && is_less t) || (b.in_width && not (is_greater t));
  describes = is_description t;
  in_description = b.describes && is_open_brace t;
}

-- ---- separators

abbrev pub is_no_line_feed : ℕ → Bool
is_no_line_feed c = not (c == 10)

-- a space or a line feed, or a comment from `#` up to the line feed or the end; 0 where there is none
abbrev pub gap_at : List ℕ → ℕ
gap_at [] = 0
gap_at (c ∷ s) = if (c == 32) || (c == 10) then 1 else (if c == 35 then prefix_len is_no_line_feed (c ∷ s) else 0)

-- ---- tokens

-- the digits of a base that stand in front, all of them
abbrev pub digits_of : ℕ → List ℕ → List ℕ
digits_of base s = take_while (λ c. is_digit c base) s

abbrev pub is_number : ℕ → List ℕ → Bool
is_number base [] = false
is_number base (c ∷ s) = nat_lt (digits_value base (c ∷ s)) (2 ^ 128)

-- how long the number in front is, or 0 where its digits are none below 2 ^ 128
abbrev pub number_in : ℕ → List ℕ → ℕ
number_in base s = if is_number base (digits_of base (drop (mark_of base) s)) then mark_of base + length (digits_of base (drop (mark_of base) s)) else 0

abbrev pub number_at : List ℕ → ℕ
number_at s = number_in (base_of s) s

-- how long the letter of a base and its digits are, or 0
abbrev pub literal_in : ℕ → List ℕ → ℕ
literal_in base s = if is_number base (digits_of base (drop 1 s)) then 1 + length (digits_of base (drop 1 s)) else 0

abbrev pub literal_at : List ℕ → ℕ
literal_at s = literal_in (letter_base s) s

-- the same behind a front of so many bytes
abbrev pub behind : ℕ → ℕ → ℕ
behind front zero = 0
behind front (suc n) = front + suc n

-- how long a quote, an `s` or none and a literal are, or 0
abbrev pub tail_at : List ℕ → ℕ
tail_at s = if begins 39 s then (if begins 115 (drop 1 s) then behind 2 (literal_at (drop 2 s)) else behind 1 (literal_at (drop 1 s))) else 0

-- a number or word of n bytes, or with what follows it a sized number
abbrev pub with_tail : TokenKind → ℕ → ℕ → Front
with_tail t n zero = Token t n
with_tail t n (suc m) = Token k.Sized (n + suc m)

abbrev pub numbered : ℕ → List ℕ → Front
numbered zero s = Nothing
numbered (suc n) s = with_tail k.Number (suc n) (tail_at (drop (suc n) s))

abbrev pub is_word_byte : ℕ → Bool
is_word_byte c = is_ascii_alphanumeric c || (c == 95)

abbrev pub begins_word : List ℕ → Bool
begins_word [] = false
begins_word (c ∷ s) = is_word_byte c

abbrev pub reserved_of : List ℕ → Option Reserved
reserved_of x = find (λ w. bytes_eq x (reserved_text w)) reserved_words

-- a word of the language
abbrev pub is_reserved : List ℕ → Bool
is_reserved x = is_some (reserved_of x)

-- a word of the language takes no digits behind it
abbrev pub worded : Option Reserved → ℕ → List ℕ → Front
worded (Some w) n s = Token (k.Reserved w) n
worded None n s = with_tail k.Word n (tail_at (drop n s))

abbrev pub word_in : ℕ → List ℕ → Front
word_in n s = worded (reserved_of (take n s)) n s

abbrev pub word_at : List ℕ → Front
word_at s = word_in (prefix_len is_word_byte s) s

abbrev pub is_no_quote : ℕ → Bool
is_no_quote c = not (c == 34)

-- the bytes up to the next quote, whatever they are
abbrev pub quoted : ℕ → List ℕ → Front
quoted n s = if nat_lt n (length s) then Token k.Text (n + 2) else Nothing

abbrev pub text_at : List ℕ → Front
text_at s = quoted (prefix_len is_no_quote (drop 1 s)) (drop 1 s)

abbrev pub special_of : List ℕ → Option Special
special_of s = find (λ w. starts_with nat_eq s (special_text w)) special_words

-- the longest sign in front: the signs stand in the list by falling length
abbrev pub sign_of : List ℕ → Option Sign
sign_of s = find (λ w. starts_with nat_eq s (sign_text w)) signs

abbrev pub signed : Option Sign → Front
signed None = Nothing
signed (Some w) = Token (k.Sign w) (length (sign_text w))

-- in a width a `>` stands alone
abbrev pub sign_at : Bool → List ℕ → Front
sign_at in_width s = if in_width && begins 62 s then Token (k.Sign g.Greater) 1 else signed (sign_of s)

abbrev pub other_at : Bool → List ℕ → Front
other_at in_width s =
    if begins_digit 10 s then numbered (number_at s) s
    else (if begins_word s then word_at s
    else (if begins 34 s then text_at s
    else sign_at in_width s))

abbrev pub special_or : Option Special → Bool → List ℕ → Front
special_or (Some w) in_width s = Token (k.Special w) (length (special_text w))
special_or None in_width s = other_at in_width s

abbrev pub token_at : Bool → List ℕ → Front
token_at in_width s = special_or (special_of s) in_width s

abbrev pub gap_or : ℕ → Bool → List ℕ → Front
gap_or zero in_width s = token_at in_width s
gap_or (suc n) in_width s = Gap (suc n)

abbrev pub plain_at : Bool → List ℕ → Front
plain_at in_width s = gap_or (gap_at s) in_width s

-- ---- descriptions

abbrev pub is_no_brace : ℕ → Bool
is_no_brace c = not ((c == 123) || (c == 125))

abbrev pub description_or : ℕ → Bool → List ℕ → Front
description_or zero in_width s = plain_at in_width s
description_or (suc n) in_width s = Token k.Description (suc n)

-- what stands in front, by what stands before: in a description all bytes up to the next brace or the end, where there are any
unfoldable pub front_at : Before → List ℕ → Front
front_at b s = if b.in_description then description_or (prefix_len is_no_brace s) b.in_width s else plain_at b.in_width s

-- it isn't empty, and the text may be cut behind it
abbrev pub IsCut : List ℕ → Front → Type 0
IsCut s (Gap n) = (0 < n) × IsCharBoundary s n
IsCut s (Token t n) = (0 < n) × IsCharBoundary s n
IsCut s Nothing = Unit {0}
