-- The steps of single forms, as the code takes them.
use Rattle.std.specs.Prelude.{◌==◌, ◌-◌, ◌/◌, ◌%◌, ◌^◌, Bool, true, false, ℕ, List, [], ◌∷◌, Option, None, Some, option_map, option_and_then, if◌then◌else◌}
use Rattle.idl_tree.specs.declared.expressions.Binary.{Binary}
use Rattle.idl_tree.specs.declared.expressions.Binary.TheVariants as b
use Rattle.idl_bits.specs.BitVector.{BitVector}
use Rattle.idl_bits.specs.Number.{extension}
use Rattle.idl_bits.specs.Operators.{signed_of, unsigned_of, resized_to, join_of, repeat_of, slice_of, bit_of, with_slice, with_bit, wide_left_shift_of}
use Rattle.idl_tree.specs.declared.widths.Width.{Width}
use Rattle.idl_tree.specs.declared.programs.CsrBody.{CsrBody}
use Rattle.idl_spec.specs.Values.{Value, bits, flag, plain, within}
use Rattle.idl_spec.specs.Harts.{State, Outcome, done, stuck, and_then, or_stuck, required, read_register, write_register, with_field}
use Rattle.idl_spec.specs.Shapes.{innermost}
use Rattle.idl_spec.specs.Fields.{Placed, part_width}
use Rattle.idl_spec.specs.Settings.{Setting, Scope, Flow, goes_on, registers, number_of_width, with_bits, with_flag, sized, with_width, with_slice_places}
use Rattle.idl_spec.specs.Forms.{binary, address_of, read_memory, Addressed, csr_at, csr_of_name, illegal, or_illegal}
use Rattle.idl_spec.specs.Mean.{in_shape_of, local_bits, set_local, jump, raise, write_memory}

-- what a left operand settles alone, which only those of `&&` and `||` do
abbrev pub left_step : Binary → Value → State → Outcome (Option Bool)
left_step b.And x s = with_flag (done x s) (λ goes t. done (if goes then None else Some false) t)
left_step b.Or x s = with_flag (done x s) (λ settled t. done (if settled then Some true else None) t)
left_step _ x s = done None s

-- the operator where the left operand leaves it open
abbrev pub right_step : Binary → Value → Value → State → Outcome Value
right_step b.And x y s = with_flag (done y s) (λ z t. done (flag z) t)
right_step b.Or x y s = with_flag (done y s) (λ z t. done (flag z) t)
right_step sign x y s = binary sign x y s

-- bits that were read, side by side
abbrev pub behind : BitVector → List BitVector → State → Outcome Value
behind v [] s = sized v s
behind v (w ∷ ws) s = behind (join_of v w) ws s

abbrev pub side_by_side : List BitVector → State → Outcome Value
side_by_side [] s = stuck
side_by_side (v ∷ vs) s = behind (unsigned_of v) vs s

-- ---- what is done with the outcome of a last operand

abbrev pub literal_step : Setting → Width → Bool → ℕ → State → Outcome Value
literal_step e width signed n s = with_width e 1 128 width (λ k. done (bits (record { width = k; signed = signed; pattern = n % 2 ^ k })) s)

abbrev pub wide_left_step : Setting → Width → Outcome Value → Outcome Value
wide_left_step e by o = with_bits o (λ v t. with_width e 0 127 by (λ k. sized (wide_left_shift_of v k) t))

abbrev pub repeat_step : Setting → Width → Outcome Value → Outcome Value
repeat_step e times o = with_bits o (λ v t. with_width e 1 128 times (λ k. sized (repeat_of v k) t))

abbrev pub bit_step : BitVector → Outcome Value → Outcome Value
bit_step v o = with_bits o (λ i r. done (bits (bit_of v i)) r)

abbrev pub slice_step : Setting → Width → Width → Outcome Value → Outcome Value
slice_step e high low o = with_bits o (λ v t. with_slice_places e v.width high low (λ h l. done (bits (slice_of v h l)) t))

abbrev pub signed_step : Outcome Value → Outcome Value
signed_step o = with_bits o (λ v t. done (bits (signed_of v)) t)

abbrev pub resized_step : Setting → Width → Outcome Value → Outcome Value
resized_step e width o = with_bits o (λ v t. with_width e 1 128 width (λ k. done (bits (resized_to k v)) t))

abbrev pub register_step : Setting → Outcome Value → Outcome Value
register_step e o = with_bits o (λ i t. done (bits (plain (registers e) (read_register t.x i.pattern))) t)

abbrev pub read_memory_step : Setting → ℕ → Outcome Value → Outcome Value
read_memory_step e count o = with_bits o (λ v t. read_memory count (address_of e v) t)

-- the CSR that a word names, which has to be present
abbrev pub word_step : Setting → Option (List ℕ) → State → Outcome (Option Addressed)
word_step e (Some name) s = and_then (required (csr_of_name e name) s) (λ a t. done (Some a) t)
word_step e None s = done None s

abbrev pub csr_at_step : Setting → Outcome Value → Outcome Addressed
csr_at_step e o = with_bits o (λ v t. done (csr_at e (v.pattern % 4096)) t)

abbrev pub jump_step : Setting → Scope → Outcome Value → Outcome Flow
jump_step e scope o = with_bits o (λ v r. jump scope (address_of e v) r)

abbrev pub raise_step : Setting → Value → Outcome Value → Outcome Flow
raise_step e code o = with_bits o (λ v z. raise code (address_of e v) z)

abbrev pub write_memory_step : Setting → ℕ → Scope → BitVector → Outcome Value → Outcome Flow
write_memory_step e count scope a o = with_bits o (λ v z. write_memory count scope (address_of e a) v z)

abbrev pub set_register_step : Setting → Scope → BitVector → Outcome Value → Outcome Flow
set_register_step e scope i o = with_bits o (λ v z. done (goes_on scope) (record z { x = write_register z.x i.pattern (extension (registers e) v) }))

abbrev pub set_field_step : Scope → List ℕ → List ℕ → Placed → Outcome Value → Outcome Flow
set_field_step scope csr field p o =
    with_bits o (λ v r. done (goes_on scope) (record r { fields = with_field r.fields csr field (extension (part_width p.bits) v) }))

abbrev pub set_word_step : Scope → List ℕ → Outcome Value → Outcome Flow
set_word_step scope name o =
    and_then o (λ v r. or_stuck (innermost scope name) (λ old. or_stuck (in_shape_of old v) (λ new. set_local scope name new r)))

abbrev pub set_bit_step : Scope → List ℕ → BitVector → Outcome Value → Outcome Flow
set_bit_step scope name i o =
    with_bits o (λ v z. or_stuck (local_bits scope name) (λ old. set_local scope name (bits (with_bit old i v)) z))

abbrev pub set_slice_step : Setting → Scope → List ℕ → Width → Width → Outcome Value → Outcome Flow
set_slice_step e scope name high low o =
    with_bits o (λ v r. or_stuck (local_bits scope name) (λ old.
    with_slice_places e old.width high low (λ h l. set_local scope name (bits (with_slice old h l v)) r)))

-- the CSR that software may write
abbrev pub writable_step : Addressed → State → Outcome CsrBody
writable_step one s = or_illegal one.csr s (λ csr. if one.address / 2 ^ 10 % 4 == 3 then illegal s else done csr s)

-- the two places of a slice, the higher first
abbrev pub slice_ends : Setting → ℕ → Width → Width → Option (ℕ × ℕ)
slice_ends e width high low =
    option_and_then (λ h. option_map (λ l. (h, l)) (within 0 h (number_of_width e low))) (within 0 (width - 1) (number_of_width e high))
