use Rattle.std.proofs.Common.{map, ap, sym, ◌∙◌}
use Rattle.std.specs.List.{list_any}
use Rattle.udb_spec.specs.Known.{known}
use Rattle.udb_spec.specs.KnownLaws.{known-All, known-Any}
use Rattle.udb_cond.specs.Steps.{steps_of}
use Rattle.udb_cond.specs.Tally.{is_unknown}
use Rattle.udb_refute.proofs.ChoiceLaws.{all-unknown, any-unknown}
use Rattle.udb_refute.proofs.choices.+choosing.Goals as goal

pub choose-returns-in-All : goal.choose-returns-in-All
choose-returns-in-All t c = λ unknown.
    let space = c.args.space.now in
    let path = steps_of c.args.cells.now in
    let known_parts = map (known space path) c.in-All.parts in
    c.choice_among.ensures (ap (λ ps. list_any is_unknown (map (known space path) ps)) c.as_slice.ensures ∙ all-unknown known_parts (sym (known-All space path c.in-All.parts) ∙ ap (known space path) (sym c.in-All.is) ∙ unknown))

pub choose-returns-in-Any : goal.choose-returns-in-Any
choose-returns-in-Any t c = λ unknown.
    let space = c.args.space.now in
    let path = steps_of c.args.cells.now in
    let known_parts = map (known space path) c.in-Any.parts in
    c.choice_among-in-Any.ensures (ap (λ ps. list_any is_unknown (map (known space path) ps)) c.as_slice-in-Any.ensures ∙ any-unknown known_parts (sym (known-Any space path c.in-Any.parts) ∙ ap (known space path) (sym c.in-Any.is) ∙ unknown))
