-- The width and the sign of each operator's result, for the layers that type expressions.
use Rattle.std.proofs.Common.{◌≡◌, ℕ, ◌+◌, ◌-◌, ◌*◌, ◌≤◌, Bool, true, false, cond, nat_lt, refl}
use Rattle.std.specs.Prelude.{ℤ, pos}
use Rattle.std.specs.Ordering.{int_eq}
use Rattle.idl_bits.specs.BitVector.{BitVector, IsWellFormed}
use Rattle.idl_bits.specs.Number.{value_of, larger, both_signed, number_beside}
use Rattle.idl_bits.specs.Operators.{sum_of, difference_of, product_of, wide_sum_of, wide_difference_of, wide_product_of, quotient_of, remainder_of, and_of, or_of, xor_of, complement_of, negation_of, resized_to, left_shift_of, right_shift_of, sign_shift_of, wide_left_shift_of, join_of, repeat_of, slice_of, bit_of, with_slice, with_bit}
use Rattle.idl_bits.proofs.Modulo.{pattern_of-lt}

pub record HasShape (v : BitVector) (width : ℕ) (signed : Bool) : Type 0 where
  pub same_width : v.width ≡ width
  pub same_sign : v.signed ≡ signed

same : (width : ℕ) (signed : Bool) (pattern : ℕ) → HasShape (record { width = width; signed = signed; pattern = pattern }) width signed
same width signed pattern = record { same_width = refl; same_sign = refl }

-- both sides of a choice have it
either : (t : Bool) (v w : BitVector) (width : ℕ) (signed : Bool) → HasShape v width signed → HasShape w width signed → HasShape (cond t v w) width signed
either true v w width signed h k = h
either false v w width signed h k = k

pub sum_of-shape : (a b : BitVector) → HasShape (sum_of a b) (larger a b) (both_signed a b)
unfolding sum_of
sum_of-shape a b = same _ _ _

pub difference_of-shape : (a b : BitVector) → HasShape (difference_of a b) (larger a b) (both_signed a b)
unfolding difference_of
difference_of-shape a b = same _ _ _

pub product_of-shape : (a b : BitVector) → HasShape (product_of a b) (larger a b) (both_signed a b)
unfolding product_of
product_of-shape a b = same _ _ _

pub wide_sum_of-shape : (a b : BitVector) → HasShape (wide_sum_of a b) (larger a b + 1) (both_signed a b)
unfolding wide_sum_of
wide_sum_of-shape a b = same _ _ _

pub wide_difference_of-shape : (a b : BitVector) → HasShape (wide_difference_of a b) (larger a b + 1) (both_signed a b)
unfolding wide_difference_of
wide_difference_of-shape a b = same _ _ _

pub wide_product_of-shape : (a b : BitVector) → HasShape (wide_product_of a b) (a.width + b.width) (both_signed a b)
unfolding wide_product_of
wide_product_of-shape a b = same _ _ _

pub and_of-shape : (a b : BitVector) → HasShape (and_of a b) (larger a b) (both_signed a b)
unfolding and_of
and_of-shape a b = same _ _ _

pub or_of-shape : (a b : BitVector) → HasShape (or_of a b) (larger a b) (both_signed a b)
unfolding or_of
or_of-shape a b = same _ _ _

pub xor_of-shape : (a b : BitVector) → HasShape (xor_of a b) (larger a b) (both_signed a b)
unfolding xor_of
xor_of-shape a b = same _ _ _

pub complement_of-shape : (a : BitVector) → HasShape (complement_of a) a.width a.signed
unfolding complement_of
complement_of-shape a = same _ _ _

pub negation_of-shape : (a : BitVector) → HasShape (negation_of a) a.width a.signed
unfolding negation_of
negation_of-shape a = same _ _ _

pub resized_to-shape : (width : ℕ) (a : BitVector) → HasShape (resized_to width a) width a.signed
unfolding resized_to
resized_to-shape width a = same _ _ _

pub left_shift_of-shape : (a b : BitVector) → HasShape (left_shift_of a b) a.width a.signed
unfolding left_shift_of
left_shift_of-shape a b = same _ _ _

pub right_shift_of-shape : (a b : BitVector) → HasShape (right_shift_of a b) a.width a.signed
unfolding right_shift_of
right_shift_of-shape a b = same _ _ _

pub sign_shift_of-shape : (a b : BitVector) → HasShape (sign_shift_of a b) a.width a.signed
unfolding sign_shift_of
sign_shift_of-shape a b = same _ _ _

pub wide_left_shift_of-shape : (a : BitVector) (by : ℕ) → HasShape (wide_left_shift_of a by) (a.width + by) a.signed
unfolding wide_left_shift_of
wide_left_shift_of-shape a by = same _ _ _

pub join_of-shape : (a b : BitVector) → HasShape (join_of a b) (a.width + b.width) false
unfolding join_of
join_of-shape a b = same _ _ _

pub repeat_of-shape : (a : BitVector) (times : ℕ) → HasShape (repeat_of a times) (a.width * times) false
unfolding repeat_of
repeat_of-shape a times = same _ _ _

pub slice_of-shape : (a : BitVector) (high low : ℕ) → HasShape (slice_of a high low) (high - low + 1) false
unfolding slice_of
slice_of-shape a high low = same _ _ _

pub bit_of-shape : (a at : BitVector) → HasShape (bit_of a at) 1 false
unfolding bit_of
bit_of-shape a at = same _ _ _

pub with_slice-shape : (a : BitVector) (high low : ℕ) (value : BitVector) → HasShape (with_slice a high low value) a.width a.signed
unfolding with_slice
with_slice-shape a high low value = same _ _ _

pub quotient_of-shape : (a b : BitVector) → HasShape (quotient_of a b) (larger a b) (both_signed a b)
unfolding quotient_of
quotient_of-shape a b = either (int_eq (number_beside b a) (pos 0)) _ _ _ _ (same _ _ _) (same _ _ _)

pub remainder_of-shape : (a b : BitVector) → HasShape (remainder_of a b) (larger a b) (both_signed a b)
unfolding remainder_of
remainder_of-shape a b = either (int_eq (number_beside b a) (pos 0)) _ _ _ _ (same _ _ _) (same _ _ _)

pub with_bit-shape : (a at value : BitVector) → HasShape (with_bit a at value) a.width a.signed
unfolding with_bit
with_bit-shape a at value = either (nat_lt at.pattern a.width) _ _ _ _ (same _ _ _) (same _ _ _)

-- a value that is made of a number in a width that is in range is well formed
pub value_of-well_formed : (width : ℕ) (signed : Bool) (z : ℤ) → 1 ≤ width → width ≤ 128 → IsWellFormed (value_of width signed z)
value_of-well_formed width signed z h k = record { positive = h; limit = k; in_width = pattern_of-lt width z }
