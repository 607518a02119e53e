-- Numbers that are clipped.
use Rattle.std.proofs.Common.{◌≡◌, ℕ, ◌<◌, ◌≤◌, ℤ, arith}
use Rattle.std.specs.Prelude.{pos, negsuc, ◌+ℤ◌, ◌-ℤ◌, ◌*ℤ◌, ◌≤ℤ◌}
use mir.Syntax.{w64}
use mir.Val.{to_z, of_z}
use Rattle.std.proofs.lemmas.Int.{ints, clamps}
use Rattle.idl_width.specs.NumberLaws.{number-Number, number-Word, number-Plus, number-Minus, number-Times, number-Max, number-Bits}
use Rattle.idl_width.specs.Numbers.{clip}

pub clipped-many : (n : ℕ) → 1000000 < n → clip (pos n) ≡ pos 1000000
clipped-many n h = omega (arith, ints, clamps)

pub clipped-few : (n : ℕ) → n ≤ 1000000 → clip (pos n) ≡ pos n
clipped-few n h = omega (arith, ints, clamps)

pub ruleset small_steps = (clipped-many, clipped-few, ints, clamps)

pub clipped-back : (z : ℤ) → negsuc 999999 ≤ℤ z → z ≤ℤ pos 1000000 → to_z w64 (of_z w64 z) ≡ z
clipped-back z low high = omega (arith, ints)

pub ruleset number_laws = (clipped-back, number-Number, number-Word, number-Plus, number-Minus, number-Times, number-Max, number-Bits)
