-- Statement: the operators of the ISA Description Language, each by its whole number modulo
-- 2 ^ width of its result.
use Rattle.std.specs.Prelude.{ℕ, zero, suc, ◌+◌, ◌-◌, ◌*◌, ◌/◌, ◌%◌, ◌^◌, min, Bool, true, false, if◌then◌else◌, nat_lt, pos, ◌+ℤ◌, ◌-ℤ◌, ◌*ℤ◌, neg_ℤ, int_lt, int_div, int_rem, bit_and, bit_or, bit_xor}
use Rattle.std.specs.Int.{bit_at, int_div_euclid}
use Rattle.std.specs.Ordering.{int_eq}
use Rattle.idl_bits.specs.BitVector.{BitVector}
use Rattle.idl_bits.specs.Number.{number, value_of, extension, larger, both_signed, number_beside}

-- ---- `+`, `-` and `*`, at the larger width

unfoldable pub sum_of : BitVector → BitVector → BitVector
sum_of a b = value_of (larger a b) (both_signed a b) (number a +ℤ number b)

unfoldable pub difference_of : BitVector → BitVector → BitVector
difference_of a b = value_of (larger a b) (both_signed a b) (number a -ℤ number b)

unfoldable pub product_of : BitVector → BitVector → BitVector
product_of a b = value_of (larger a b) (both_signed a b) (number a *ℤ number b)

-- ---- the widening `` `+ ``, `` `- `` and `` `* ``

unfoldable pub wide_sum_of : BitVector → BitVector → BitVector
wide_sum_of a b = value_of (larger a b + 1) (both_signed a b) (number a +ℤ number b)

unfoldable pub wide_difference_of : BitVector → BitVector → BitVector
wide_difference_of a b = value_of (larger a b + 1) (both_signed a b) (number a -ℤ number b)

unfoldable pub wide_product_of : BitVector → BitVector → BitVector
wide_product_of a b = value_of (a.width + b.width) (both_signed a b) (number a *ℤ number b)

-- ---- `/` and `%`, towards zero; by zero the quotient is all ones, and the remainder the dividend

unfoldable pub quotient_of : BitVector → BitVector → BitVector
quotient_of a b =
    let width = larger a b in
    let signed = both_signed a b in
    if int_eq (number_beside b a) (pos 0)
    then record { width = width; signed = signed; pattern = 2 ^ width - 1 }
    else value_of width signed (int_div (number_beside a b) (number_beside b a))

unfoldable pub remainder_of : BitVector → BitVector → BitVector
remainder_of a b =
    let width = larger a b in
    let signed = both_signed a b in
    if int_eq (number_beside b a) (pos 0)
    then value_of width signed (number a)
    else value_of width signed (int_rem (number_beside a b) (number_beside b a))

-- ---- `==` and `<`

unfoldable pub is_equal : BitVector → BitVector → Bool
is_equal a b = int_eq (number_beside a b) (number_beside b a)

unfoldable pub is_below : BitVector → BitVector → Bool
is_below a b = int_lt (number_beside a b) (number_beside b a)

-- ---- `&`, `|` and `^`, at the larger width; `~` and the unary `-`, at the same

abbrev bitwise_of : (ℕ → ℕ → ℕ) → BitVector → BitVector → BitVector
bitwise_of f a b = let width = larger a b in
    record { width = width; signed = both_signed a b; pattern = f (extension width a) (extension width b) }

unfoldable pub and_of : BitVector → BitVector → BitVector
and_of a b = bitwise_of bit_and a b

unfoldable pub or_of : BitVector → BitVector → BitVector
or_of a b = bitwise_of bit_or a b

unfoldable pub xor_of : BitVector → BitVector → BitVector
xor_of a b = bitwise_of bit_xor a b

unfoldable pub complement_of : BitVector → BitVector
complement_of a = record a { pattern = 2 ^ a.width - 1 - a.pattern }

unfoldable pub negation_of : BitVector → BitVector
negation_of a = value_of a.width a.signed (neg_ℤ (number a))

-- ---- `$signed`, its counterpart, and `$resize`

abbrev pub signed_of : BitVector → BitVector
signed_of a = record a { signed = true }

abbrev pub unsigned_of : BitVector → BitVector
unsigned_of a = record a { signed = false }

unfoldable pub resized_to : ℕ → BitVector → BitVector
resized_to width a = value_of width a.signed (number a)

-- ---- `<<`, `>>`, `>>>` and the widening `` `<< ``

-- how many places a shift of a by b moves the bits: from the width on, it moves all of them out
abbrev pub shift_amount : BitVector → BitVector → ℕ
shift_amount a b = min b.pattern a.width

unfoldable pub left_shift_of : BitVector → BitVector → BitVector
left_shift_of a b = value_of a.width a.signed (number a *ℤ pos (2 ^ shift_amount a b))

-- zeros come in from above
unfoldable pub right_shift_of : BitVector → BitVector → BitVector
right_shift_of a b = record a { pattern = a.pattern / 2 ^ shift_amount a b }

-- copies of the highest bit come in from above, whatever the sign: the signed number, halved and rounded down at each place
unfoldable pub sign_shift_of : BitVector → BitVector → BitVector
sign_shift_of a b = value_of a.width a.signed (int_div_euclid (number (signed_of a)) (pos (2 ^ shift_amount a b)))

unfoldable pub wide_left_shift_of : BitVector → ℕ → BitVector
wide_left_shift_of a by = value_of (a.width + by) a.signed (number a *ℤ pos (2 ^ by))

-- ---- `{a, b}` and `{n{a}}`, the first highest

unfoldable pub join_of : BitVector → BitVector → BitVector
join_of a b = record { width = a.width + b.width; signed = false; pattern = a.pattern * 2 ^ b.width + b.pattern }

-- n copies of a, one above the other
unfoldable pub copies : ℕ → BitVector → ℕ
copies zero a = 0
copies (suc n) a = copies n a * 2 ^ a.width + a.pattern

unfoldable pub repeat_of : BitVector → ℕ → BitVector
repeat_of a times = record { width = a.width * times; signed = false; pattern = copies times a }

-- ---- `a[high:low]` and `a[at]`, read and written

unfoldable pub slice_of : BitVector → ℕ → ℕ → BitVector
slice_of a high low = let width = high - low + 1 in
    record { width = width; signed = false; pattern = a.pattern / 2 ^ low % 2 ^ width }

-- an index past the width leads to the bit at the width, which is 0
unfoldable pub bit_of : BitVector → BitVector → BitVector
bit_of a at = record { width = 1; signed = false; pattern = bit_at a.pattern (shift_amount a at) }

-- the pattern with so many of its bits from `low` on replaced by those of `part`
abbrev pub with_field : ℕ → ℕ → ℕ → ℕ → ℕ
with_field pattern low count part =
    pattern / 2 ^ (low + count) * 2 ^ (low + count) + part * 2 ^ low + pattern % 2 ^ low

unfoldable pub with_slice : BitVector → ℕ → ℕ → BitVector → BitVector
with_slice a high low value = let count = high - low + 1 in
    record a { pattern = with_field a.pattern low count (extension count value) }

unfoldable pub with_bit : BitVector → BitVector → BitVector → BitVector
with_bit a at value =
    if nat_lt at.pattern a.width
    then record a { pattern = with_field a.pattern (shift_amount a at) 1 (value.pattern % 2) }
    else a
