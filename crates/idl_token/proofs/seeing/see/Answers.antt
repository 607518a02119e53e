use Rattle.std.proofs.Common.{ℕ, ◌<◌, List, length, All, slice_index_or, subst, arith}
use Rattle.std.proofs.lemmas.List.{get_or-map, length-map}
use Rattle.idl_token.specs.declared.tokens.Token.{Token}
use Rattle.idl_token.specs.Lexeme.{lexeme_of, lexemes}
use Rattle.idl_token.specs.Values.{IsSpelledToken}
use Rattle.idl_token.proofs.seeing.see.Goals as goal

at_place : (ts : List Token) (k : ℕ) (d : Token) → k < length ts → All IsSpelledToken (lexemes ts) → IsSpelledToken (lexeme_of (slice_index_or ts k d))
at_place ts k d lt all = subst IsSpelledToken (get_or-map lexeme_of ts k d (lexeme_of d) lt) (all k (lexeme_of d) (omega (arith, length-map ts lexeme_of)))

pub see_token-requires : goal.see_token-requires
see_token-requires c = at_place c.args.tokens.now c.loop-token.token-index _ (omega (arith, c.loop-token-test.true)) c.requires
