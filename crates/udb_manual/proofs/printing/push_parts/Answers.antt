use Rattle.std.proofs.Common.{◌≡◌, ◌++◌, ◌∷◌, [], ◌+◌, take, sym, ◌∙◌, ap}
use Rattle.std.proofs.lemmas.List.{flat_map_more, take_more}
use Rattle.manual_spec.specs.Text.{part_lines, parts_lines}
use Rattle.udb_manual.proofs.printing.push_parts.Goals as goal

pub loop-part-preserved : goal.loop-part-preserved
loop-part-preserved c =
    let more : take (c.loop-part.part-index + 1) c.args.parts.now ≡ take c.loop-part.part-index c.args.parts.now ++ c.part-item.result ∷ [] =
    take_more c.args.parts.now c.loop-part.part-index c.part-item.result c.loop-part-test.true
    ∙ ap (λ p. take c.loop-part.part-index c.args.parts.now ++ p ∷ []) (sym c.part-item.is)
    in c.in_ok-push_part.ensures
    ∙ ap (λ lines. lines ++ part_lines c.args.space.now c.part-item.result) c.loop-part.invariant
    ∙ flat_map_more (part_lines c.args.space.now) c.args.out.now (take c.loop-part.part-index c.args.parts.now) c.part-item.result
    ∙ ap (λ ps. c.args.out.now ++ parts_lines c.args.space.now ps) (sym more)
