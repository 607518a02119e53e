-- What single forms do with the values of their parts: operators, memory, CSRs, extensions and calls.
use Rattle.std.specs.Prelude.{◌==◌, ◌||◌, ◌+◌, ◌/◌, ◌%◌, Bool, true, false, not, ℕ, nat_lt, List, [], ◌∷◌, find, length, Option, None, Some, option_map, option_and_then, is_some, if◌then◌else◌}
use Rattle.udb_base.specs.declared.names.Name.{Name}
use Rattle.udb_base.specs.declared.characters.Chars.{Chars}
use Rattle.udb_base.specs.declared.versions.Version.{Version}
use Rattle.udb_base.specs.declared.spaces.ExtSpace.{ExtSpace}
use Rattle.udb_spec.specs.Conditions.{holds, same_bytes, present_among}
use Rattle.udb_cond.specs.Requirements.{requirement_of}
use Rattle.idl_tree.specs.declared.expressions.Unary.{Unary}
use Rattle.idl_tree.specs.declared.expressions.Unary.TheVariants as u
use Rattle.idl_tree.specs.declared.expressions.Binary.{Binary}
use Rattle.idl_tree.specs.declared.expressions.Binary.TheVariants as b
use Rattle.idl_tree.specs.declared.expressions.Expr.{Expr}
use Rattle.idl_tree.specs.declared.expressions.Expr.TheVariants as ex
use Rattle.idl_tree.specs.declared.programs.CsrBody.{CsrBody}
use Rattle.idl_bits.specs.BitVector.{BitVector}
use Rattle.idl_bits.specs.Number.{extension}
use Rattle.idl_bits.specs.Operators.{sum_of, difference_of, product_of, wide_sum_of, wide_difference_of, wide_product_of, quotient_of, remainder_of, is_equal, is_below, and_of, or_of, xor_of, complement_of, negation_of, unsigned_of, left_shift_of, right_shift_of, sign_shift_of, join_of}
use Rattle.idl_spec.specs.Values.{Value, bits, flag, member, given_text, written_text, plain, brought_to, same_enum}
use Rattle.idl_spec.specs.Harts.{State, Outcome, done, raised, stuck, and_then, or_stuck, required, field_number, loaded}
use Rattle.idl_spec.specs.Shapes.{Kind, of_bits, of_flag, of_member}
use Rattle.idl_spec.specs.Fields.{Placed, part_width, bits_at, present_field, read_csr, csr_named}
use Rattle.idl_spec.specs.Settings.{Scope, Setting, Reading, registers, with_bits, with_flag, sized, with_width, is_local}

-- ---- operators

abbrev pub unary : Unary → Value → State → Outcome Value
unary u.Not (flag x) s = done (flag (not x)) s
unary u.Invert (bits v) s = done (bits (complement_of v)) s
unary u.Minus (bits v) s = done (bits (negation_of v)) s
unary _ _ s = stuck

abbrev pub binary_bits : Binary → BitVector → BitVector → State → Outcome Value
binary_bits b.BitOr x y s = done (bits (or_of x y)) s
binary_bits b.BitXor x y s = done (bits (xor_of x y)) s
binary_bits b.BitAnd x y s = done (bits (and_of x y)) s
binary_bits b.Equal x y s = done (flag (is_equal x y)) s
binary_bits b.NotEqual x y s = done (flag (not (is_equal x y))) s
binary_bits b.Below x y s = done (flag (is_below x y)) s
binary_bits b.AtMost x y s = done (flag (not (is_below y x))) s
binary_bits b.Above x y s = done (flag (is_below y x)) s
binary_bits b.AtLeast x y s = done (flag (not (is_below x y))) s
binary_bits b.Left x y s = done (bits (left_shift_of x y)) s
binary_bits b.Right x y s = done (bits (right_shift_of x y)) s
binary_bits b.RightSigned x y s = done (bits (sign_shift_of x y)) s
binary_bits b.Add x y s = done (bits (sum_of x y)) s
binary_bits b.Sub x y s = done (bits (difference_of x y)) s
binary_bits b.WideAdd x y s = sized (wide_sum_of x y) s
binary_bits b.WideSub x y s = sized (wide_difference_of x y) s
binary_bits b.Mul x y s = done (bits (product_of x y)) s
binary_bits b.WideMul x y s = sized (wide_product_of x y) s
binary_bits b.Div x y s = done (bits (quotient_of x y)) s
binary_bits b.Rem x y s = done (bits (remainder_of x y)) s
binary_bits _ x y s = stuck

-- `==` of two values that aren't bits: truth values, members of one enumeration, a parameter of texts and a text
abbrev pub same_flag : Bool → Bool → Bool
same_flag x y = if x then y else not y

abbrev pub same_value : Value → Value → Option Bool
same_value (flag x) (flag y) = Some (same_flag x y)
same_value (member k n) (member l m) = if same_enum k l then Some (n == m) else None
same_value (given_text x) (written_text y) = Some (same_bytes x y)
same_value (written_text x) (given_text y) = Some (same_bytes x y)
same_value _ _ = None

abbrev pub binary_other : Binary → Value → Value → State → Outcome Value
binary_other b.Equal x y s = required (option_map flag (same_value x y)) s
binary_other b.NotEqual x y s = required (option_map (λ same. flag (not same)) (same_value x y)) s
binary_other _ x y s = stuck

abbrev pub binary : Binary → Value → Value → State → Outcome Value
binary sign (bits x) (bits y) s = binary_bits sign x y s
binary sign x y s = binary_other sign x y s

-- the right operand counts where the left one leaves it open
abbrev pub and_also : Outcome Value → (State → Outcome Value) → Outcome Value
and_also left right = with_flag left (λ x s. if x then with_flag (right s) (λ y t. done (flag y) t) else done (flag false) s)

abbrev pub or_also : Outcome Value → (State → Outcome Value) → Outcome Value
or_also left right = with_flag left (λ x s. if x then done (flag true) s else with_flag (right s) (λ y t. done (flag y) t))

abbrev pub binary_reading : Binary → Reading → Reading → Reading
binary_reading b.And left right scope s = and_also (left scope s) (right scope)
binary_reading b.Or left right scope s = or_also (left scope s) (right scope)
binary_reading sign left right scope s = and_then (left scope s) (λ x s1. and_then (right scope s1) (λ y s2. binary sign x y s2))

-- the taken side, extended to the shape of both
abbrev pub in_kind : Setting → Option Kind → Value → State → Outcome Value
in_kind e (Some (of_bits width signed)) (bits v) s = with_width e 1 128 width (λ n. done (bits (brought_to n signed v)) s)
in_kind e (Some of_flag) (flag x) s = done (flag x) s
in_kind e (Some (of_member k)) (member l n) s = if same_enum k l then done (member l n) s else stuck
in_kind e _ _ s = stuck

-- the parts behind what the first ones make
abbrev pub joined_onto : BitVector → List Reading → Scope → State → Outcome Value
joined_onto v [] scope s = sized v s
joined_onto v (part ∷ parts) scope s = with_bits (part scope s) (λ w t. joined_onto (join_of v w) parts scope t)

abbrev pub joined : List Reading → Scope → State → Outcome Value
joined [] scope s = stuck
joined (part ∷ parts) scope s = with_bits (part scope s) (λ v t. joined_onto (unsigned_of v) parts scope t)

-- ---- memory: an address that isn't aligned raises the code, one outside the memory the next code

abbrev pub accessed : {A : Type 0} → ℕ → ℕ → ℕ → State → Outcome A → Outcome A
accessed code at count s next =
    if not (at % count == 0) then raised code at s else (if nat_lt (length s.ram) (at + count) then raised (code + 1) at s else next)

-- the address of an access, in MXLEN bits
abbrev pub address_of : Setting → BitVector → ℕ
address_of e v = extension (registers e) v

-- an access has 8, 16, 32 or 64 bits
abbrev pub is_access : ℕ → Bool
is_access count = (count == 8) || ((count == 16) || ((count == 32) || (count == 64)))

-- so many bits from an address
abbrev pub read_memory : ℕ → ℕ → State → Outcome Value
read_memory count at s =
    if is_access count then accessed 4 at (count / 8) s (done (bits (plain count (loaded s.ram at (count / 8)))) s) else stuck

-- ---- CSRs

-- an address with the present CSR that has it
pub record Addressed : Type 0 where
  pub address : ℕ
  pub csr : Option CsrBody

abbrev pub is_present_csr : Setting → CsrBody → Bool
is_present_csr e csr = holds e.space e.full csr.present

abbrev pub csr_at : Setting → ℕ → Addressed
csr_at e address = record { address = address; csr = find (λ c. if c.address == address then is_present_csr e c else false) e.program.csrs }

-- a CSR that is named has to be present
abbrev pub csr_of_name : Setting → Name → Option Addressed
csr_of_name e name =
    option_and_then (λ c. if is_present_csr e c then Some (record { address = c.address; csr = Some c }) else None) (csr_named e.program.csrs name)

-- the word of a CSR, where the expression is one and no local has its name
abbrev pub csr_word : Setting → Scope → Expr → Option Name
csr_word e scope (ex.Word name) = if is_local e scope name then None else Some name
csr_word e scope _ = None

abbrev pub addressed_by : Setting → Option Name → Reading → Scope → State → Outcome Addressed
addressed_by e (Some name) reading scope s = required (csr_of_name e name) s
addressed_by e None reading scope s = with_bits (reading scope s) (λ v t. done (csr_at e (v.pattern % 4096)) t)

-- what stands in `CSR[..]` before `.sw_read` and `.sw_write`; in a body of a field it is stuck
abbrev pub addressed : Setting → Expr → Reading → Scope → State → Outcome Addressed
addressed e address reading scope s =
    if is_some e.soft_write then addressed_by e (csr_word e scope address) reading scope s else stuck

-- where no CSR has the address, the instruction is illegal
abbrev pub illegal : {A : Type 0} → State → Outcome A
illegal s = raised 2 s.word s

abbrev pub or_illegal : {A B : Type 0} → Option A → State → (A → Outcome B) → Outcome B
or_illegal None s next = illegal s
or_illegal (Some a) s next = next a

abbrev pub soft_read : Setting → Addressed → State → Outcome Value
soft_read e one s = or_illegal one.csr s (λ csr. done (bits (plain (registers e) (read_csr e.space e.full csr s))) s)

-- a field that is named has to be present
abbrev pub with_field_of : {A : Type 0} → Setting → Name → Name → (Placed → Outcome A) → Outcome A
with_field_of e csr field next = or_stuck (present_field e.space e.full e.program csr field) next

abbrev pub field_value : Setting → Name → Name → State → Outcome Value
field_value e csr field s =
    with_field_of e csr field (λ p. required (option_map (λ n. bits (plain (part_width p.bits) n)) (field_number s.fields csr field)) s)

abbrev pub new_field : Setting → Name → State → Outcome Value
new_field e field s =
    or_stuck e.written (λ n. with_field_of e n.csr field (λ p. done (bits (plain (part_width p.bits) (bits_at n.number p.bits))) s))

-- ---- extensions

abbrev pub choice_among : List ExtSpace → List (Option Version) → List ℕ → Option (Option Version)
choice_among [] choices name = None
choice_among (x ∷ xs) [] name = None
choice_among (x ∷ xs) (c ∷ cs) name = if same_bytes x.name name then Some c else choice_among xs cs name

abbrev pub implemented : Setting → Name → Option Value
implemented e name = option_map (λ choice. flag (is_some choice)) (choice_among e.space.extensions e.full.extensions name)

abbrev pub implemented_version : Setting → Name → Chars → Option Value
implemented_version e name spelled =
    option_and_then (λ need. option_map (λ choice. flag (present_among e.space.extensions e.full.extensions name (need ∷ [])))
    (choice_among e.space.extensions e.full.extensions name))
    (requirement_of spelled)

-- ---- calls

abbrev pub values_in_turn : List Reading → Scope → State → Outcome (List Value)
values_in_turn [] scope s = done [] s
values_in_turn (r ∷ rs) scope s = and_then (r scope s) (λ v t. and_then (values_in_turn rs scope t) (λ vs z. done (v ∷ vs) z))

abbrev pub call : Setting → Name → List Reading → Scope → State → Outcome (Option Value)
call e name args scope s = and_then (values_in_turn args scope s) (λ vs t.
    or_stuck (find (λ c. same_bytes c.function.name name) e.callees) (λ c. c.run vs t))
