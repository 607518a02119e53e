use Rattle.std.proofs.Common.{rules}
use Rattle.std.proofs.lemmas.List.Sorted.{answers_always}
use Rattle.udb_decode.proofs.KeptLaws.{permuted}
use Rattle.udb_decode.proofs.NameLaws.{kept_order, are_picks}
use Rattle.udb_decode.proofs.decoder.Decoder.build.Goals as goal

pub returns : goal.returns
returns c word =
    are_picks c.args.space.now c.args.part.now c.args.codings.now _
    (permuted c.args.space.now c.args.part.now c.args.codings.now c.in_ok-kept.kept.items _ c.in_ok-sort_by.ensures.permutation c.in_ok-kept.ensures)
    word
    (c.in_ok-sort_by.ensures.sorted _ kept_order (answers_always _ _ _ (λ f a r f' k. search rules)))
