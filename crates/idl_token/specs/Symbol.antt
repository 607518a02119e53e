-- Statement: token values, which the grammar reads: a token without its place and its spelling.
use Rattle.std.specs.Prelude.{ℕ, Bool, List, map}
use Rattle.idl_token.specs.declared.kinds.Reserved.{Reserved}
use Rattle.idl_token.specs.declared.kinds.Special.{Special}
use Rattle.idl_token.specs.declared.kinds.Sign.{Sign}
use Rattle.idl_token.specs.declared.kinds.TokenKind.{TokenKind}
use Rattle.idl_token.specs.declared.kinds.TokenKind.TheVariants as kind
use Rattle.idl_token.specs.Numbers.{SizedWidth, SizedParts, number_value, sized_parts, text_value}
use Rattle.idl_token.specs.Lexeme.{Lexeme}

pub data Symbol : Type 0 where
  word : List ℕ → Symbol
  reserved : Reserved → Symbol
  special : Special → Symbol
  number : ℕ → Symbol
  sized : SizedWidth → Bool → ℕ → Symbol
  quoted : List ℕ → Symbol
  described : Symbol
  sign : Sign → Symbol

abbrev pub sized_symbol : SizedParts → Symbol
sized_symbol p = sized p.width p.is_signed p.value

abbrev pub symbol_by : TokenKind → List ℕ → Symbol
symbol_by kind.Word x = word x
symbol_by (kind.Reserved r) x = reserved r
symbol_by (kind.Special p) x = special p
symbol_by kind.Number x = number (number_value x)
symbol_by kind.Sized x = sized_symbol (sized_parts x)
symbol_by kind.Text x = quoted (text_value x)
symbol_by kind.Description x = described
symbol_by (kind.Sign s) x = sign s

abbrev pub symbol_of : Lexeme → Symbol
symbol_of t = symbol_by t.kind t.text

abbrev pub symbols : List Lexeme → List Symbol
symbols ts = map symbol_of ts
