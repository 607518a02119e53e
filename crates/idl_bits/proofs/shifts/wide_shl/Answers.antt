use Rattle.std.proofs.Common.{ap, arith}
use Rattle.std.specs.Prelude.{◌+◌}
use Rattle.idl_bits.proofs.Patterns.{wrap-as}
use Rattle.idl_bits.proofs.Fields.{moved-left}
use Rattle.idl_bits.specs.Operators.{wide_left_shift_of}
use Rattle.idl_bits.proofs.shifts.wide_shl.Goals as goal

pub returns : goal.returns
unfolding wide_left_shift_of
returns c =
    wrap-as c.wrap.result _ _ _ _ _ _ c.wrap.ensures (omega arith) (ap (λ w. w + c.args.by) c.width.ensures.value) c.signed.ensures
    (moved-left _ _ _ (omega arith) c.whole.ensures)
