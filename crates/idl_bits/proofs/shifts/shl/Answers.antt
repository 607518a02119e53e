use Rattle.std.proofs.Common.{ap, ◌∙◌}
use Rattle.std.specs.Prelude.{◌^◌, ◌*ℤ◌, pos}
use Rattle.idl_bits.specs.Number.{number, value_of}
use Rattle.idl_bits.proofs.Patterns.{wrap-as}
use Rattle.idl_bits.proofs.Fields.{shifted-left}
use Rattle.idl_bits.specs.Operators.{left_shift_of}
use Rattle.idl_bits.proofs.shifts.shl.Goals as goal

pub returns : goal.returns
unfolding left_shift_of
returns c =
    wrap-as c.wrap.result _ _ _ _ _ _ c.wrap.ensures c.width.ensures.limit c.width.ensures.value c.signed.ensures
    (c.unbounded_shl.ensures ∙ shifted-left _ _ _ c.shift_amount.ensures.limit c.whole.ensures)
    ∙ ap (λ k. value_of c.args.a.width c.args.a.signed (number c.args.a *ℤ pos (2 ^ k))) c.shift_amount.ensures.value
