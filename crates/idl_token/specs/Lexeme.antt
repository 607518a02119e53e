-- Statement: tokens as contracts speak of them.
use Rattle.std.specs.Prelude.{◌≡◌, ℕ, List, [], ◌∷◌, ◌++◌, map}
use Rattle.idl_token.specs.declared.kinds.TokenKind.{TokenKind}
use Rattle.idl_token.specs.declared.tokens.Token.{Token}

-- a token by its kind, its text's bytes and its place in the source
pub record Lexeme : Type 0 where
  pub kind : TokenKind
  pub text : List ℕ
  pub at : ℕ

abbrev pub lexeme : TokenKind → List ℕ → ℕ → Lexeme
lexeme k x n = record { kind = k; text = x; at = n }

abbrev pub lexeme_of : Token → Lexeme
lexeme_of t = lexeme t.kind t.text.now t.at

abbrev pub lexemes : List Token → List Lexeme
lexemes ts = map lexeme_of ts

-- tokens with one more behind them
abbrev pub Appends : List Token → List Token → Lexeme → Type 0
Appends old new t = lexemes new ≡ lexemes old ++ t ∷ []
