-- Machinery: printed text as a row of pieces, tokens with their texts and the bytes between them.
use Rattle.std.specs.Prelude.{◌≡◌, ℕ, ◌+◌, Bool, true, false, not, ◌&&◌, ◌||◌, ◌==◌, List, [], ◌∷◌, ◌++◌, length, codes}
use Rattle.std.specs.List.{flat_map}
use Rattle.idl_token.specs.declared.kinds.Sign.{Sign}
use Rattle.idl_token.specs.declared.kinds.Sign.TheVariants as g
use Rattle.idl_token.specs.declared.kinds.TokenKind.{TokenKind}
use Rattle.idl_token.specs.declared.kinds.TokenKind.TheVariants as kind
use Rattle.idl_token.specs.declared.before.Before.{Before}
use Rattle.idl_token.specs.declared.front.Front.TheVariants.{Gap, Token}
use Rattle.idl_token.specs.Front.{after, front_at, is_description, is_greater, is_word_byte, takes_width}
use Rattle.idl_token.specs.Spelling.{sign_text}
use Rattle.idl_token.specs.Numbers.{begins}
use Rattle.idl_token.specs.Lexeme.{Lexeme, lexeme}
use Rattle.idl_token.specs.Symbol.{Symbol, symbol_by}

pub data Piece : Type 0 where
  token : TokenKind → List ℕ → Piece
  gap : ℕ → Piece

abbrev pub piece_text : Piece → List ℕ
piece_text (token k x) = x
piece_text (gap c) = c ∷ []

abbrev pub text_of : List Piece → List ℕ
text_of ps = flat_map piece_text ps

-- the tokens, the first of which may stand at the place
abbrev pub lexemes_from : ℕ → List Piece → List Lexeme
lexemes_from n [] = []
lexemes_from n (token k x ∷ ps) = lexeme k x n ∷ lexemes_from (n + length x) ps
lexemes_from n (gap c ∷ ps) = lexemes_from (n + 1) ps

abbrev pub symbols_of : List Piece → List Symbol
symbols_of [] = []
symbols_of (token k x ∷ ps) = symbol_by k x ∷ symbols_of ps
symbols_of (gap c ∷ ps) = symbols_of ps

-- Each piece is what stands in front at its place, where the text stands behind them all.
abbrev pub Stands : Before → List Piece → List ℕ → Type 0
Stands b [] s = Unit {0}
Stands b (token k x ∷ ps) s = (front_at b (x ++ (text_of ps ++ s)) ≡ Token k (length x)) × Stands (after b k) ps s
Stands b (gap c ∷ ps) s = (front_at b (c ∷ (text_of ps ++ s)) ≡ Gap 1) × Stands b ps s

abbrev pub state_after : Before → List Piece → Before
state_after b [] = b
state_after b (token k x ∷ ps) = state_after (after b k) ps
state_after b (gap c ∷ ps) = state_after b ps

-- ---- places inside a body: in a width or not, and otherwise as at the start

abbrev pub flagged : Bool → Before
flagged w = record { takes_width = false; in_width = w; describes = false; in_description = false }

-- the pieces stand before the text where the first flag holds, and leave the second
pub record Sits (v : Bool) (ps : List Piece) (s : List ℕ) (w : Bool) : Type 0 where
  pub stands : Stands (flagged v) ps s
  pub leaves : state_after (flagged v) ps ≡ flagged w

-- a text that is read as one token of the kind before such a rest, and leaves the flag as it is
abbrev pub ReadsAsToken : Bool → TokenKind → List ℕ → List ℕ → Type 0
ReadsAsToken w k x s = Sits w (token k x ∷ []) s w

-- such a token takes no width, begins no description and ends no width
abbrev pub keeps_flag : TokenKind → Bool
keeps_flag x = not (takes_width x) && (not (is_description x) && not (is_greater x))

-- ---- what ends a token

-- A word, a number or the like ends before such a text: it is empty, or begins with no byte of a word,
-- no quote mark and no question mark.
abbrev pub ends_before : List ℕ → Bool
ends_before [] = true
ends_before (c ∷ s) = not (is_word_byte c) && (not (c == 39) && not (c == 63))

-- the bytes with which a sign may go on: `=`, `>`, `<`, `:`, `+`, `&` and `|`
abbrev pub is_sign_more : ℕ → Bool
is_sign_more c = (61 == c) || ((62 == c) || ((60 == c) || ((58 == c) || ((43 == c) || ((38 == c) || (124 == c))))))

-- a sign ends before such a text, whichever it is
abbrev pub ends_sign : List ℕ → Bool
ends_sign [] = true
ends_sign (c ∷ s) = not (is_sign_more c)

-- the bytes with which an operand begins: those of words, and `(`, `{`, `"`, `$`, `!`, `~` and `-`
abbrev pub is_part_byte : ℕ → Bool
is_part_byte c = is_word_byte c || ((c == 40) || ((c == 123) || ((c == 34) || ((c == 36) || ((c == 33) || ((c == 126) || (c == 45)))))))

abbrev pub begins_part : List ℕ → Bool
begins_part [] = false
begins_part (c ∷ s) = is_part_byte c

-- signs with which longer ones begin
abbrev pub goes_on : Sign → Bool
goes_on g.Less = true
goes_on g.Greater = true
goes_on g.Colon = true
goes_on g.Assign = true
goes_on g.Not = true
goes_on g.Plus = true
goes_on g.Ampersand = true
goes_on g.Bar = true
goes_on g.Right = true
goes_on _ = false

-- ---- texts of tokens

-- a text between quote marks
abbrev pub between_quotes : List ℕ → List ℕ
between_quotes x = codes "\"" ++ x ++ codes "\""

-- the sign that opens a width, behind the token that takes it
abbrev pub width_opens : TokenKind → List ℕ → List Piece
width_opens k x = token k x ∷ token (kind.Sign g.Less) (sign_text g.Less) ∷ []

-- a sign with a space on either side
abbrev pub between_spaces : Sign → List Piece
between_spaces x = gap 32 ∷ token (kind.Sign x) (sign_text x) ∷ gap 32 ∷ []

-- in a width a sign that begins with `>` is no token
abbrev pub ends_width : Bool → Sign → Bool
ends_width w x = w && begins 62 (sign_text x)
