-- Statement: the values of the texts of numbers, sized numbers and quoted texts.
use Rattle.std.specs.Prelude.{ℕ, ◌<◌, ◌^◌, ◌-◌, ◌==◌, nat_le, Bool, false, ◌&&◌, if◌then◌else◌, List, [], ◌∷◌, length, take, drop}
use Rattle.std.specs.Char.{is_digit}
use Rattle.std.specs.List.{before_first, after_first}
use Rattle.std.specs.Str.Parse.{digits_value}

abbrev pub begins : ℕ → List ℕ → Bool
begins a [] = false
begins a (c ∷ s) = c == a

-- a digit of a base: 0 to 9, then letters of either case
abbrev pub begins_digit : ℕ → List ℕ → Bool
begins_digit base [] = false
begins_digit base (c ∷ s) = is_digit c base

-- the text begins with `0`, the letter and a digit of the base
abbrev pub is_marked : ℕ → ℕ → List ℕ → Bool
is_marked letter base s = begins 48 s && (begins letter (drop 1 s) && begins_digit base (drop 2 s))

-- `0x` before a hexadecimal digit, `0b` before a binary one, else decimal
abbrev pub base_of : List ℕ → ℕ
base_of s = if is_marked 120 16 s then 16 else (if is_marked 98 2 s then 2 else 10)

-- digits whose number is below 2 ^ 128
abbrev pub IsSmall : ℕ → List ℕ → Type 0
IsSmall base digits = digits_value base digits < 2 ^ 128

-- how many bytes say the base
abbrev pub mark_of : ℕ → ℕ
mark_of base = if base == 10 then 0 else 2

-- the number that a number's text writes
unfoldable pub number_value : List ℕ → ℕ
number_value s = digits_value (base_of s) (drop (mark_of (base_of s)) s)

-- ---- sized numbers: a width, a quote, an `s` or none, the letter of a base, and digits

abbrev pub is_quote : ℕ → Bool
is_quote c = c == 39

-- `d`, `h` or `b`; 0 for another letter
abbrev pub base_of_letter : ℕ → ℕ
base_of_letter c = if c == 100 then 10 else (if c == 104 then 16 else (if c == 98 then 2 else 0))

-- the base that a text's first letter names
abbrev pub letter_base : List ℕ → ℕ
letter_base [] = 0
letter_base (c ∷ s) = base_of_letter c

-- a width as it is written: a number, or the name of a parameter
pub data SizedWidth : Type 0 where
  Number : ℕ → SizedWidth
  Parameter : List ℕ → SizedWidth

abbrev pub width_of : List ℕ → SizedWidth
width_of s = if begins_digit 10 s then Number (number_value s) else Parameter s

-- what a sized number's text says; the value is as written, not taken modulo a power of two
pub record SizedParts : Type 0 where
  pub width : SizedWidth
  pub is_signed : Bool
  pub value : ℕ

-- a text without a leading `s`
abbrev pub past_signed : List ℕ → List ℕ
past_signed s = drop (if begins 115 s then 1 else 0) s

-- what follows the quote: the letter of a base and its digits
abbrev pub literal_value : List ℕ → ℕ
literal_value s = digits_value (letter_base s) (drop 1 s)

unfoldable pub sized_parts : List ℕ → SizedParts
sized_parts s = record {
  width = width_of (before_first is_quote s);
  is_signed = begins 115 (after_first is_quote s);
  value = literal_value (past_signed (after_first is_quote s));
}

-- a number that may stand in a width, or before the quote of a sized number
abbrev pub is_short : ℕ → Bool
is_short n = nat_le n 65535

-- ---- texts

-- the bytes between the quotes
abbrev pub text_value : List ℕ → List ℕ
text_value s = take (length s - 2) (drop 1 s)

-- the bytes of a description are the token's text itself
abbrev pub description_value : List ℕ → List ℕ
description_value s = s
