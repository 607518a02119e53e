-- Machinery: numbers by sign and absolute value.
use Rattle.std.specs.Prelude.{ℕ, Bool, if◌then◌else◌, ℤ, pos, neg_ℤ}

abbrev pub number_with : Bool → ℕ → ℤ
number_with negative size = if negative then neg_ℤ (pos size) else pos size
