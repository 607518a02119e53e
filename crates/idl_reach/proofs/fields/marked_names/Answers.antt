use Rattle.std.proofs.Common.{◌++◌, ◌+◌, drop, map, sym, ap, ◌∙◌, append_assoc}
use Rattle.idl_reach.specs.Asked.{chosen, mark_at, name_if}
use Rattle.idl_reach.proofs.FieldCalls.{names-next}
use Rattle.idl_reach.proofs.fields.marked_names.Goals as goal

pub loop-place-preserved : goal.loop-place-preserved
loop-place-preserved c =
    let fs = c.args.functions.now in
    let ms = c.args.marks.now in
    let i = c.loop-place.place in
    let f = c.index-functions-place.result in
    let rest = map (λ g. g.name) (chosen (drop (i + 1) fs) (drop (i + 1) ms)) in
    ap (λ ns. ns ++ rest) (c.in_ok-push_if_marked.ensures ∙ ap (λ b. c.loop-place.names ++ name_if b f) c.is_marked.ensures)
    ∙ append_assoc c.loop-place.names (name_if (mark_at ms i) f) rest
    ∙ sym (ap (λ ns. c.loop-place.names ++ ns) (names-next fs ms i f c.loop-place-test.true c.index-functions-place.is))
    ∙ c.loop-place.invariant
