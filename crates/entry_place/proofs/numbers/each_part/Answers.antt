use Rattle.std.proofs.Common.{sym, ◌∙◌, arith}
use Rattle.entry_place.specs.Places as spec
use Rattle.entry_place.proofs.NumberLemmas.{part_turn}
use Rattle.entry_place.proofs.numbers.each_part.Goals as goal

pub loop-text-preserved : goal.loop-text-preserved
loop-text-preserved c =
    part_turn (λ x. spec.part_of x.now) c.args.texts.now c.loop-text.text-index _ c.loop-text.parts c.push.new.self c.in-Some.part (omega arith) (sym c.part.ensures ∙ c.in-Some.is) c.in_ok-push-in-Some.ensures.ok c.loop-text.invariant
