use Rattle.std.proofs.Common.{◌≡◌, ◌<◌, ◌+◌, ◌*◌, ◌^◌, drop, arith}
use Rattle.std.specs.Prelude.{sum_by}
use Rattle.std.proofs.lemmas.List.{at_drop_all}
use Rattle.idl_spec.specs.Fields.{part_width, gathered}
use Rattle.idl_forms.proofs.VariableBits.{gathered-turn-at, gathered-small}
use Rattle.idl_forms.proofs.names.gathered.Goals as goal

pub loop-part-preserved : goal.loop-part-preserved
loop-part-preserved c =
    gathered-turn-at c.args.word c.loop-part.pattern c.part_width.result c.bits_of.result c.args.location.now c.loop-part.part-index _ c.loop-part-test.true
    c.part_width.ensures.value (rw c.from.ensures at c.bits_of.ensures.value) c.requires.few c.loop-part.invariant

pub returns-clause-small : goal.returns-clause-small
returns-clause-small c =
    let whole : c.loop-part.pattern * 2 ^ sum_by part_width (drop c.loop-part.part-index c.args.location.now) + gathered c.args.word (drop c.loop-part.part-index c.args.location.now) ≡ c.loop-part.pattern * 1 + 0 =
    at_drop_all (λ ps. c.loop-part.pattern * 2 ^ sum_by part_width ps + gathered c.args.word ps) c.args.location.now c.loop-part.part-index c.loop-part-test.false in
    let same : c.loop-part.pattern * 2 ^ sum_by part_width (drop c.loop-part.part-index c.args.location.now) + gathered c.args.word (drop c.loop-part.part-index c.args.location.now) ≡ gathered c.args.word c.args.location.now = c.loop-part.invariant in
    let small : gathered c.args.word c.args.location.now < 2 ^ sum_by part_width c.args.location.now = gathered-small c.args.word c.args.location.now in
    omega arith
