-- Statement: what the text of a token is, by its kind. The numbers in it are below 2 ^ 128.
use Rattle.std.specs.Prelude.{◌≡◌, ℕ, ◌<◌, ◌^◌, true, false, None, List, [], ◌∷◌, ◌++◌}
use Rattle.std.specs.List.{after_first, list_all}
use Rattle.idl_token.specs.declared.kinds.TokenKind.{TokenKind}
use Rattle.idl_token.specs.declared.kinds.TokenKind.TheVariants as k
use Rattle.idl_token.specs.Spelling.{reserved_text, special_text, sign_text}
use Rattle.idl_token.specs.Numbers.{SizedWidth, Number, Parameter, is_quote, begins_digit, letter_base, past_signed, literal_value, number_value, sized_parts, text_value}
use Rattle.idl_token.specs.Lexeme.{Lexeme}
use Rattle.idl_token.specs.Front.{is_word_byte, is_no_quote, is_no_brace, reserved_of}

-- letters, digits and `_`, not a digit first, and no word of the language
pub record IsWord (x : List ℕ) : Type 0 where
  pub bytes : list_all is_word_byte x ≡ true
  pub first : begins_digit 10 x ≡ false
  pub plain : reserved_of x ≡ None

abbrev pub IsSmallWidth : SizedWidth → Type 0
IsSmallWidth (Number n) = n < 2 ^ 128
IsSmallWidth (Parameter x) = Unit {0}

-- a letter that names a base, and digits of a number
pub record IsLiteral (x : List ℕ) : Type 0 where
  pub letter : 0 < letter_base x
  pub value : literal_value x < 2 ^ 128

-- what follows the quote of a sized number and its `s`, if it has one
abbrev pub literal_of : List ℕ → List ℕ
literal_of x = past_signed (after_first is_quote x)

-- bytes other than a quote between two quotes
pub record IsQuoted (x : List ℕ) : Type 0 where
  pub quotes : x ≡ 34 ∷ text_value x ++ 34 ∷ []
  pub inside : list_all is_no_quote (text_value x) ≡ true

abbrev pub IsSpelled : TokenKind → List ℕ → Type 0
IsSpelled k.Word x = IsWord x
IsSpelled (k.Reserved w) x = x ≡ reserved_text w
IsSpelled (k.Special w) x = x ≡ special_text w
IsSpelled k.Number x = number_value x < 2 ^ 128
IsSpelled k.Sized x = IsSmallWidth (sized_parts x).width × IsLiteral (literal_of x)
IsSpelled k.Text x = IsQuoted x
IsSpelled k.Description x = list_all is_no_brace x ≡ true
IsSpelled (k.Sign g) x = x ≡ sign_text g

abbrev pub IsSpelledToken : Lexeme → Type 0
IsSpelledToken t = IsSpelled t.kind t.text
