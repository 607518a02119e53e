use Rattle.std.proofs.Common.{◌≡◌, ◌+◌, length}
use denote.Shadow.{shadow}
use denote.Text.{Utf8}
use Rattle.idl_token.specs.Lexeme.{lexemes}
use Rattle.idl_token.specs.Front.{start}
use Rattle.idl_token.specs.Rows.{Reads}
use Rattle.idl_token.proofs.lexer.read.Given as goal

abbrev pub invariant-tokens : goal.invariant-tokens
invariant-tokens l = record { text : shadow (Utf8 l.rest); reads : Reads start 0 l.source (lexemes l.tokens.items) l.before l.at l.rest; whole : l.at + length l.rest ≡ length l.source }

abbrev pub decreases-tokens : goal.decreases-tokens
decreases-tokens l = length l.rest
