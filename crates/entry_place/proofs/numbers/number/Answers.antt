use Rattle.std.proofs.Common.{sym, ◌∙◌}
use Rattle.entry_place.proofs.NumberLemmas.{parsed}
use Rattle.entry_place.proofs.numbers.number.Goals as goal

pub returns-then-is_number : goal.returns-then-is_number
returns-then-is_number c = c.ok.ensures.value ∙ parsed c.args.text.now c.parse.result (sym c.if-is_number.ensures) c.parse.ensures.value.0
