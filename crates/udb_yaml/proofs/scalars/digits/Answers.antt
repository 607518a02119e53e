use Rattle.std.proofs.Common.{◌+◌, ◌*◌, ◌<◌, ℕ, subst}
use Rattle.udb_yaml.proofs.KeyLemmas.{digits_over}
use Rattle.udb_yaml.proofs.scalars.digits.Goals as goal

pub returns-then-value-limit : goal.returns-then-value-limit
returns-then-value-limit c =
    digits_over c.args.hex c.args.limit c.digits.value c.in-Some.digit c.digits.byte-index c.args.text.now c.digits-test.true c.in-Some.ensures
    (subst (λ (z : ℕ). c.args.limit < c.digits.value * z + c.in-Some.digit) c.digits.invariant.2 c.if-value-limit.true) c.digits.invariant.0
