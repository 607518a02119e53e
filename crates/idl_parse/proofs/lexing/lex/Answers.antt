use Rattle.idl_token.specs.Lexeme.{lexemes}
use Rattle.idl_parse.proofs.Places.{lex_only, lex_bad_only}
use Rattle.idl_parse.proofs.lexing.lex.Goals as goal

pub returns-in-Err-clause-only : goal.returns-in-Err-clause-only
returns-in-Err-clause-only c ts row = lex_only c.lex.result c.in-Err.fault c.of_lexer.result c.in-Err.is c.of_lexer.ensures (λ us. lexemes us.items) ts (c.lex.ensures.only ts row)

pub returns-in-Err-clause-bad_only : goal.returns-in-Err-clause-bad_only
returns-in-Err-clause-bad_only c at bad = lex_bad_only c.lex.result c.in-Err.fault c.of_lexer.result c.in-Err.is c.of_lexer.ensures at (c.lex.ensures.bad_only at bad)
