use Rattle.std.proofs.Common.{◌≡◌, ◌<◌, ◌≤◌, refl, sym, ap, ◌∙◌, arith}
use Rattle.std.specs.Prelude.{◌+◌, ◌*◌, ◌^◌}
use Rattle.std.proofs.Math.Nat.{mul-le-mul_left}
use Rattle.idl_bits.proofs.Patterns.{same-parts}
use Rattle.idl_bits.proofs.Fields.{copies-one, copies-more, copies-lt}
use Rattle.idl_bits.specs.Operators.{repeat_of, copies}
use Rattle.idl_bits.proofs.parts.repeat.Goals as goal

pub loop-count-init : goal.loop-count-init
loop-count-init c = c.pattern-pattern.ensures.value ∙ sym (copies-one c.args.a)

pub loop-count-preserved : goal.loop-count-preserved
loop-count-preserved c =
    let count = c.loop-count._count in
    let in_width : c.args.a.pattern < 2 ^ c.args.a.width = rw (← c.pattern.ensures.value) c.pattern.ensures.in_width in
    let more : count + 1 ≤ c.args.times = omega arith in
    copies-more c.args.a count _ _ _ c.loop-count.invariant c.pattern.ensures.value c.width.ensures.value in_width
    (omega (arith, c.requires.limit, mul-le-mul_left c.args.a.width more))

pub new-requires-clause-in_width : goal.new-requires-clause-in_width
new-requires-clause-in_width c =
    let in_width : c.args.a.pattern < 2 ^ c.args.a.width = rw (← c.pattern-pattern.ensures.value) c.pattern-pattern.ensures.in_width in
    let all : c.loop-count._count ≡ c.args.times = omega arith in
    rw (c.loop-count.invariant, all, c.width-2.ensures.value) (copies-lt c.args.a c.args.times in_width)

pub returns : goal.returns
unfolding repeat_of
returns c =
    let all : c.loop-count._count ≡ c.args.times = omega arith in
    same-parts _ _ _ _ _ _ c.new.result c.new.ensures (ap (λ w. w * c.args.times) c.width-2.ensures.value) refl
    (c.loop-count.invariant ∙ ap (λ n. copies n c.args.a) all)
