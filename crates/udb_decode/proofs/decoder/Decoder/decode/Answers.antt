use Rattle.std.proofs.Common.{◌<◌, ◌^◌, false, length, arith, sym, subst}
use Rattle.udb_decode.proofs.NameLaws.{fewer}
use Rattle.udb_decode.proofs.decoder.Decoder.decode.Goals as goal

pub returns-clause-few : goal.returns-clause-few
returns-clause-few c = subst (λ names. length names < 2 ^ 64) (sym c.over.ensures) (omega (arith, fewer c.args.word c.as_slice.result.now false, c.as_slice.ensures.len))
