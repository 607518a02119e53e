use Rattle.std.proofs.Common.{◌≡◌}
use Rattle.idl_bits.specs.Operators.{copies}
use Rattle.idl_bits.proofs.parts.repeat.Given as goal

-- so many copies are there
abbrev pub invariant-loop-count : goal.invariant-loop-count
invariant-loop-count l = l.pattern ≡ copies l._count l.a
