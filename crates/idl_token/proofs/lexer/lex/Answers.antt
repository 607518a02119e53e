use Rattle.std.proofs.Common.{All}
use Rattle.idl_token.specs.Lexeme.{lexemes}
use Rattle.idl_token.specs.Rows.{IsRow, IsSlice, PlacesRise}
use Rattle.idl_token.specs.Values.{IsSpelledToken}
use Rattle.idl_token.proofs.ValueLemmas.{row-spelled}
use Rattle.idl_token.proofs.RowLemmas.{answers, faults, when-ok, row-slices, row-rises}
use Rattle.idl_token.proofs.lexer.lex.Goals as goal

pub returns-clause-only : goal.returns-clause-only
returns-clause-only c = answers (λ us. lexemes us.items) c.args.source.now c.read.result c.read.ensures.row c.read.ensures.bad

pub returns-clause-bad_only : goal.returns-clause-bad_only
returns-clause-bad_only c = faults (λ us. lexemes us.items) c.args.source.now c.read.result c.read.ensures.row c.read.ensures.bad

pub returns-clause-slices : goal.returns-clause-slices
returns-clause-slices c =
    when-ok (λ us. IsRow c.args.source.now (lexemes us.items)) (λ us. All (IsSlice c.args.source.now) (lexemes us.items)) (λ us. row-slices c.args.source.now (lexemes us.items)) c.read.result c.read.ensures.row

pub returns-clause-rise : goal.returns-clause-rise
returns-clause-rise c =
    when-ok (λ us. IsRow c.args.source.now (lexemes us.items)) (λ us. PlacesRise 0 (lexemes us.items)) (λ us. row-rises c.args.source.now (lexemes us.items)) c.read.result c.read.ensures.row

pub returns-clause-spelled : goal.returns-clause-spelled
returns-clause-spelled c =
    when-ok (λ us. IsRow c.args.source.now (lexemes us.items)) (λ us. All IsSpelledToken (lexemes us.items)) (λ us. row-spelled c.args.source.now (lexemes us.items)) c.read.result c.read.ensures.row
