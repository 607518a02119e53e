use Rattle.std.proofs.Common.{◌∙◌, ◌≤◌, arith, sym}
use Rattle.idl_lawful.proofs.Bits.{at-most-decides, few-bits, shifted-out}
use Rattle.idl_lawful.proofs.states.has_bits.Goals as goal

pub returns-then-bits-ge64 : goal.returns-then-bits-ge64
returns-then-bits-ge64 c =
    let wide : 64 ≤ c.args.bits = omega (arith, c.if-bits-ge64.true) in
    (at-most-decides 64 c.args.bits).1 wide ∙ sym (few-bits c.args.number c.args.bits wide (omega (arith, c.ranges.number.fits)))

pub returns-else-bits-ge64 : goal.returns-else-bits-ge64
returns-else-bits-ge64 c = shifted-out c.args.number c.args.bits
