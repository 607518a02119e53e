use Rattle.std.proofs.Common.{◌∙◌, ap, map}
use Rattle.entry_place.proofs.NumberLemmas.{pieces_read}
use Rattle.entry_place.proofs.numbers.parts.Goals as goal

pub returns : goal.returns
returns c = pieces_read c.as_slice.result.now c.args.text.now c.each_part.result (ap (map (λ x. x.now)) c.as_slice.ensures.value ∙ c.in_ok-texts.ensures) c.each_part.ensures
