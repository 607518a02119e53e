-- Statement: the values that the ISA Description Language computes with: up to 128 bits, with a sign.
use Rattle.std.specs.Prelude.{ℕ, ◌^◌, ◌<◌, ◌≤◌, Bool}

-- how many bits, whether they are read in two's complement, and the bits as a natural number
pub record BitVector : Type 0 where
  pub width : ℕ
  pub signed : Bool
  pub pattern : ℕ

-- there are 1 to 128 bits, and the pattern has no others
pub record IsWellFormed (v : BitVector) : Type 0 where
  pub positive : 1 ≤ v.width
  pub limit : v.width ≤ 128
  pub in_width : v.pattern < 2 ^ v.width
