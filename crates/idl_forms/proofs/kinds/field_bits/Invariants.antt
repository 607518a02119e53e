use Rattle.std.proofs.Common.{◌≡◌, drop, Some}
use Rattle.idl_width.specs.Numbers.{bits_among}
use Rattle.idl_forms.proofs.kinds.field_bits.Given as goal

abbrev pub invariant-loop-one : goal.invariant-loop-one
invariant-loop-one l = bits_among l.registers (drop l.one-index l.scope) (Some l.csr) l.field ≡ bits_among l.registers l.scope (Some l.csr) l.field
