use Rattle.std.proofs.Common.{◌≡◌, drop}
use Rattle.idl_width.specs.Numbers.{bits_among}
use Rattle.idl_width.proofs.scopes.bits_among.Given as goal

abbrev pub invariant-loop-one : goal.invariant-loop-one
invariant-loop-one l = bits_among l.registers (drop l.one-index l.scope) l.csr l.name ≡ bits_among l.registers l.scope l.csr l.name
