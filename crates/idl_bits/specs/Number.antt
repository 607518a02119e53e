-- Statement: which whole number a value counts as, and which value holds a whole number.
use Rattle.std.specs.Prelude.{ℕ, ◌-◌, ◌^◌, max, Bool, ◌&&◌, if◌then◌else◌, ◌==◌, ℤ, pos, ◌-ℤ◌, unsigned_abs}
use Rattle.std.specs.Int.{bit_at, int_rem_euclid}
use Rattle.idl_bits.specs.BitVector.{BitVector}

-- the highest of a value's bits is set
abbrev pub has_top_bit : BitVector → Bool
has_top_bit a = bit_at a.pattern (a.width - 1) == 1

-- a value counts as negative
abbrev pub is_negative : BitVector → Bool
is_negative a = a.signed && has_top_bit a

-- the number of a value: its pattern, or 2 ^ width less where it is signed and its highest bit is set
unfoldable pub number : BitVector → ℤ
number a = if is_negative a then pos a.pattern -ℤ pos (2 ^ a.width) else pos a.pattern

-- the pattern of so many bits that holds a whole number: the number modulo 2 ^ width
unfoldable pub pattern_of : ℕ → ℤ → ℕ
pattern_of width z = unsigned_abs (int_rem_euclid z (pos (2 ^ width)))

-- the value of a width and a sign that holds a whole number
abbrev pub value_of : ℕ → Bool → ℤ → BitVector
value_of width signed z = record { width = width; signed = signed; pattern = pattern_of width z }

-- a value's pattern at another width: extended by its own sign, or truncated
abbrev pub extension : ℕ → BitVector → ℕ
extension width a = pattern_of width (number a)

-- the width and the sign that two operands have together
abbrev pub larger : BitVector → BitVector → ℕ
larger a b = max a.width b.width

abbrev pub both_signed : BitVector → BitVector → Bool
both_signed a b = a.signed && b.signed

-- the number that a counts as in a division or a comparison with b: signed only where both are
unfoldable pub number_beside : BitVector → BitVector → ℤ
number_beside a b = if both_signed a b then number a else pos (extension (larger a b) a)
