-- Where parts stand: the match of an encoding, and the locations of variables and of fields. Bits count from 0 at the
-- lowest, as in the encodings of the RISC-V unprivileged manual.
use Rattle.std.specs.Prelude.{ℕ, pos, negsuc, ℤ, ◌+◌, ◌-◌, ◌==◌, ◌&&◌, ◌||◌, Bool, true, false, not, nat_le, nat_lt, List, [], ◌∷◌, length, map, take, drop, slice_index, Option, None, Some, option_and_then, if◌then◌else◌}
use Rattle.std.specs.Option.{option_map_or}
use Rattle.std.specs.List.{list_all, slice_split, position_or_len, before_first, after_first}
use Rattle.std.specs.Str.{all_ascii_digits, bytes_eq}
use Rattle.std.specs.Str.Parse.{digits_value}
use Rattle.udb_base.specs.Lists.{one, each}
use Rattle.yaml_spec.specs.declared.tree.Tree.{Tree}
use Rattle.yaml_spec.specs.Trees.{int_of, text_of}
use Rattle.idl_tree.specs.declared.programs.BitPart.{BitPart}
use Rattle.idl_tree.specs.declared.programs.Variable.{Variable}

-- ---- numbers

-- decimal digits, and no zero before others
abbrev pub is_number : List ℕ → Bool
is_number text = all_ascii_digits text && (nat_le 1 (length text) && ((length text == 1) || not (slice_index text 0 == 48)))

-- a number of at most 65,535
abbrev pub number_of : List ℕ → Option ℕ
number_of text = if is_number text && nat_lt (digits_value 10 text) 65536 then Some (digits_value 10 text) else None

-- ---- locations

abbrev pub part : ℕ → ℕ → BitPart
part high low = record { high = high; low = low }

abbrev pub one_bit : ℕ → BitPart
one_bit b = part b b

-- the first end isn't below the second one
abbrev pub run : ℕ → ℕ → Option BitPart
run high low = if nat_le low high then Some (part high low) else None

abbrev pub run_of : Option ℕ → Option ℕ → Option BitPart
run_of (Some high) (Some low) = run high low
run_of _ _ = None

abbrev pub bit_of : Option ℕ → Option BitPart
bit_of None = None
bit_of (Some b) = Some (one_bit b)

abbrev pub is_dash : ℕ → Bool
is_dash c = c == 45

-- `h-l`, or `b`
abbrev pub part_of : List ℕ → Option BitPart
part_of text =
    if nat_lt (position_or_len is_dash text) (length text) then run_of (number_of (before_first is_dash text)) (number_of (after_first is_dash text))
    else bit_of (number_of text)

abbrev pub is_bar : ℕ → Bool
is_bar c = c == 124

-- parts joined by `|`, the highest bits of the value first
abbrev pub parts_of : List ℕ → Option (List BitPart)
parts_of text = each part_of (slice_split is_bar text)

-- a whole number is the number of one bit
abbrev pub bit_number : ℤ → Option ℕ
bit_number (pos n) = if nat_lt n 65536 then Some n else None
bit_number (negsuc n) = None

abbrev pub number_location : ℤ → Option (List BitPart)
number_location z = one (bit_of (bit_number z))

abbrev pub text_location : Tree → Option (List BitPart)
text_location t = option_and_then parts_of (text_of t)

-- a whole number, or a text
abbrev pub location_of : Tree → Option (List BitPart)
location_of t = option_map_or number_location (int_of t) (text_location t)

-- ---- bits

-- how many bits a part has
abbrev pub width : BitPart → ℕ
width p = p.high - p.low + 1

-- no bit stands in both parts
abbrev pub are_apart : BitPart → BitPart → Bool
are_apart p q = nat_lt p.high q.low || nat_lt q.high p.low

-- no bit of the part stands in any of the others
abbrev pub is_apart_from : List BitPart → BitPart → Bool
is_apart_from others p = list_all (are_apart p) others

-- no bit stands twice
abbrev pub has_each_bit_once : List BitPart → Bool
has_each_bit_once [] = true
has_each_bit_once (p ∷ ps) = is_apart_from ps p && has_each_bit_once ps

-- the parts have at most so many bits
abbrev pub has_bits_within : ℕ → List BitPart → Bool
has_bits_within most [] = true
has_bits_within most (p ∷ ps) = nat_le (width p) most && has_bits_within (most - width p) ps

-- the parts of a variable, which has at most 32 bits, none of them twice
abbrev pub variable_parts : List BitPart → Option (List BitPart)
variable_parts ps = if has_bits_within 32 ps && has_each_bit_once ps then Some ps else None

abbrev pub variable_location : Tree → Option (List BitPart)
variable_location t = option_and_then variable_parts (location_of t)

-- the place of a field, which is one part of at most 64 bits
abbrev pub field_part : List BitPart → Option BitPart
field_part (p ∷ []) = if nat_le (width p) 64 then Some p else None
field_part _ = None

abbrev pub field_place : Tree → Option BitPart
field_place t = option_and_then field_part (location_of t)

-- ---- matches

abbrev pub is_match_digit : ℕ → Bool
is_match_digit c = (c == 48) || ((c == 49) || is_dash c)

-- 32 of `0`, `1` and `-`, bit 31 first
abbrev pub is_match : List ℕ → Bool
is_match digits = (length digits == 32) && list_all is_match_digit digits

-- the bits of the part are `-` in the match
abbrev pub is_free_part : List ℕ → BitPart → Bool
is_free_part digits p = nat_lt p.high 32 && list_all is_dash (take (width p) (drop (31 - p.high) digits))

-- the variables of one match have different names and share no bit
abbrev pub are_separate : Variable → Variable → Bool
are_separate v w = not (bytes_eq v.name w.name) && list_all (is_apart_from w.location) v.location

-- a variable of a match, beside those before it
abbrev pub fits_match : List ℕ → List Variable → Variable → Bool
fits_match digits before v = list_all (is_free_part digits) v.location && list_all (are_separate v) before
