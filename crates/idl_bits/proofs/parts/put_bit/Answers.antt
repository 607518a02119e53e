use Rattle.std.proofs.Common.{◌≡◌, ◌<◌, ◌≤◌, ap, ◌∙◌, arith}
use Rattle.std.specs.Prelude.{◌+◌, ◌%◌, bit_and, nat_lt}
use Rattle.std.proofs.lemmas.Bool.{lt-ltb}
use Rattle.std.proofs.lemmas.Nat.{and_le_r, and_mask}
use borrow.Author.Tests.{le-ltb}
use Rattle.idl_bits.proofs.Patterns.{same-parts, taken, left_over}
use Rattle.idl_bits.proofs.Fields.{with_field-lt}
use Rattle.idl_bits.specs.Operators.{with_bit, shift_amount, with_field}
use Rattle.idl_bits.proofs.parts.put_bit.Goals as goal

pub returns-then-pattern-from : goal.returns-then-pattern-from
unfolding with_bit
returns-then-pattern-from c =
    let past : c.args.a.width ≤ c.args.at.pattern = omega arith in
    left_over (nat_lt c.args.at.pattern c.args.a.width) _ _ (le-ltb c.args.at.pattern c.args.a.width past)

pub with_field-requires-clause-in_width : goal.with_field-requires-clause-in_width
with_field-requires-clause-in_width c = omega (arith, and_le_r c.pattern-3.result 1)

pub new-requires-clause-in_width : goal.new-requires-clause-in_width
new-requires-clause-in_width c =
    let within : c.pattern-place.result + 1 ≤ c.args.a.width = omega arith in
    rw (c.with_field.ensures, c.width-2.ensures.value) (with_field-lt c.pattern-2.result c.pattern-place.result 1 (bit_and c.pattern-3.result 1) c.args.a.width c.pattern-2.ensures.in_width within (omega (arith, and_le_r c.pattern-3.result 1)))

pub returns : goal.returns
unfolding with_bit
returns c =
    let within : c.args.at.pattern < c.args.a.width = omega arith in
    let place : c.pattern-place.result ≡ shift_amount c.args.a c.args.at = omega arith in
    same-parts _ _ _ _ _ _ c.new.result c.new.ensures c.width-2.ensures.value c.signed.ensures
    (c.with_field.ensures ∙ (λ i. with_field (c.pattern-2.ensures.value i) (place i) 1 ((and_mask c.pattern-3.result 1 ∙ ap (λ n. n % 2) c.pattern-3.ensures.value) i)))
    ∙ taken (nat_lt c.args.at.pattern c.args.a.width) _ _ (lt-ltb c.args.at.pattern c.args.a.width within)
