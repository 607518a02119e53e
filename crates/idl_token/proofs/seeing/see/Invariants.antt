use Rattle.std.proofs.Common.{◌≡◌, take}
use Rattle.idl_token.specs.Lexeme.{lexemes}
use Rattle.idl_token.specs.Symbol as grammar
use Rattle.idl_token.specs.Seen.{symbols}
use Rattle.idl_token.proofs.seeing.see.Given as goal

abbrev pub invariant-loop-token : goal.invariant-loop-token
invariant-loop-token l = symbols l.seen.items ≡ grammar.symbols (lexemes (take l.token-index l.tokens))
