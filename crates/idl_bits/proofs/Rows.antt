-- Rows of the language's table of operators, computed by the definitions.
use Rattle.std.proofs.Common.{◌≡◌, ℕ, ◌-◌, ◌^◌, true, false, refl}
use Rattle.idl_bits.specs.BitVector.{BitVector}
use Rattle.idl_bits.specs.Number.{number, pattern_of, number_beside}
use Rattle.idl_bits.specs.Operators.{sum_of, wide_sum_of, quotient_of, remainder_of, sign_shift_of, copies, repeat_of, bit_of, with_bit, is_equal, is_below}

plain : ℕ → ℕ → BitVector
plain width pattern = record { width = width; signed = false; pattern = pattern }

in_complement : ℕ → ℕ → BitVector
in_complement width pattern = record { width = width; signed = true; pattern = pattern }

-- 8'sd128 / 8'sd255, the least number by -1
least_by_minus_one : quotient_of (in_complement 8 128) (in_complement 8 255) ≡ in_complement 8 128
unfolding quotient_of number pattern_of number_beside in_complement
least_by_minus_one = refl

no_rest : remainder_of (in_complement 8 128) (in_complement 8 255) ≡ in_complement 8 0
unfolding remainder_of number pattern_of number_beside in_complement
no_rest = refl

-- 8'd7 / 8'd0 and 8'd7 % 8'd0
by_zero : quotient_of (plain 8 7) (plain 8 0) ≡ plain 8 255
unfolding quotient_of number pattern_of number_beside plain
by_zero = refl

rest_by_zero : remainder_of (plain 8 7) (plain 8 0) ≡ plain 8 7
unfolding remainder_of number pattern_of number_beside plain
rest_by_zero = refl

-- 8'sd255 >>> 9
past_the_width : sign_shift_of (in_complement 8 255) (plain 4 9) ≡ in_complement 8 255
unfolding sign_shift_of number pattern_of plain in_complement
past_the_width = refl

-- 4'sd8 + 8'd0
extended_by_its_own_sign : sum_of (in_complement 4 8) (plain 8 0) ≡ plain 8 248
unfolding sum_of number pattern_of plain in_complement
extended_by_its_own_sign = refl

-- 8'd255 + 8'd1 and 8'd255 `+ 8'd1
wraps : sum_of (plain 8 255) (plain 8 1) ≡ plain 8 0
unfolding sum_of number pattern_of plain
wraps = refl

widens : wide_sum_of (plain 8 255) (plain 8 1) ≡ plain 9 256
unfolding wide_sum_of number pattern_of plain
widens = refl

-- {2{4'd5}}
twice : repeat_of (plain 4 5) 2 ≡ plain 8 85
unfolding repeat_of copies plain
twice = refl

-- 8'd5[200]
no_such_bit : bit_of (plain 8 5) (plain 8 200) ≡ plain 1 0
unfolding bit_of plain
no_such_bit = refl

unchanged : with_bit (plain 8 5) (plain 128 (2 ^ 128 - 1)) (plain 1 1) ≡ plain 8 5
unfolding with_bit plain
unchanged = refl

-- 8'sd255 == 8'd255, and 8'sd255 < 8'd1 is false, where 8'sd255 < 8'sd1 is true
one_number : is_equal (in_complement 8 255) (plain 8 255) ≡ true
unfolding is_equal number pattern_of number_beside plain in_complement
one_number = refl

by_pattern : is_below (in_complement 8 255) (plain 8 1) ≡ false
unfolding is_below number pattern_of number_beside plain in_complement
by_pattern = refl

by_sign : is_below (in_complement 8 255) (in_complement 8 1) ≡ true
unfolding is_below number pattern_of number_beside in_complement
by_sign = refl
