use Rattle.std.proofs.Common.{◌≡◌, ℕ, ◌<◌, ◌≤◌, ◌^◌, ap, ◌∙◌, subst, arith}
use Rattle.std.proofs.Math.Pow.{pow_mono}
use Rattle.idl_bits.specs.BitVector.{BitVector}
use Rattle.idl_bits.specs.Operators.{resized_to}
use Rattle.idl_forms.proofs.memory.extension.Goals as goal

pub overflow_cast-result : goal.overflow_cast-result
unfolding resized_to
overflow_cast-result c =
    let width : c.resize.result.width ≡ c.args.width = ap (λ (v : BitVector). v.width) c.resize.ensures in
    let small : c.pattern.result < 2 ^ c.args.width = subst (λ (w : ℕ). c.pattern.result < 2 ^ w) width c.pattern.ensures.in_width in
    let wide : 2 ^ c.args.width ≤ 2 ^ 64 = pow_mono c.requires.limit in
    omega arith

pub returns-clause-value : goal.returns-clause-value
unfolding resized_to
returns-clause-value c = c.pattern.ensures.value ∙ ap (λ (v : BitVector). v.pattern) c.resize.ensures

pub returns-clause-small : goal.returns-clause-small
unfolding resized_to
returns-clause-small c =
    let width : c.resize.result.width ≡ c.args.width = ap (λ (v : BitVector). v.width) c.resize.ensures in
    subst (λ (w : ℕ). c.pattern.result < 2 ^ w) width c.pattern.ensures.in_width
