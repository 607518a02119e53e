-- What expressions and statements mean: by cases on their trees, from a scope of named values and a state.
-- Operands go from left to right, and `&&` and `||` stop early. What was written before an exception stays.
use Rattle.std.specs.Prelude.{◌==◌, ◌+◌, ◌-◌, ◌/◌, ◌%◌, ◌^◌, ℕ, zero, suc, List, [], ◌∷◌, ◌++◌, map, take, length, Option, None, Some, option_map, option_and_then, is_some, if◌then◌else◌}
use Rattle.udb_base.specs.declared.names.Name.{Name}
use Rattle.udb_spec.specs.Conditions.{same_bytes}
use Rattle.idl_tree.specs.declared.widths.Width.{Width}
use Rattle.idl_tree.specs.declared.widths.EnumKind.TheVariants.{ExceptionCode}
use Rattle.idl_tree.specs.declared.widths.Shape.{Shape}
use Rattle.idl_tree.specs.declared.widths.Shape.TheVariants as sh
use Rattle.idl_tree.specs.declared.expressions.Expr.{Expr}
use Rattle.idl_tree.specs.declared.expressions.Expr.TheVariants as ex
use Rattle.idl_tree.specs.declared.expressions.Expr.TheOpen.{Expr-F}
use Rattle.idl_tree.specs.declared.expressions.Expr.TheFolds.{para-Expr}
use Rattle.idl_tree.specs.declared.statements.Target.{Target}
use Rattle.idl_tree.specs.declared.statements.Target.TheVariants as t
use Rattle.idl_tree.specs.declared.statements.Stmt.{Stmt}
use Rattle.idl_tree.specs.declared.statements.Stmt.TheOpen.{Stmt-F}
use Rattle.idl_tree.specs.declared.statements.Stmt.TheFolds.{fold-Stmt}
use Rattle.idl_bits.specs.BitVector.{BitVector}
use Rattle.idl_bits.specs.Number.{extension}
use Rattle.idl_bits.specs.Operators.{signed_of, resized_to, wide_left_shift_of, repeat_of, slice_of, bit_of, with_slice, with_bit}
use Rattle.idl_spec.specs.Values.{Value, bits, flag, member, written_text, plain, least_width, brought_to, same_enum, member_number, machine_mode}
use Rattle.idl_spec.specs.Harts.{State, Outcome, done, raised, stuck, and_then, or_stuck, required, read_register, write_register, with_field, stored}
use Rattle.idl_spec.specs.Shapes.{shape, innermost}
use Rattle.idl_spec.specs.Fields.{part_width}
use Rattle.idl_spec.specs.Settings.{Scope, Setting, Reading, Flow, goes_on, returns, Change, registers, with_bits, with_flag, sized, with_width, with_slice_places, value_named, names_of}
use Rattle.idl_spec.specs.Forms.{unary, binary_reading, in_kind, joined, is_access, accessed, address_of, read_memory, Addressed, addressed, illegal, or_illegal, soft_read, with_field_of, field_value, new_field, implemented, implemented_version, call}

-- ---- expressions

-- an operand beside its meaning
abbrev pub Part : Type 0
Part = Expr × Reading

abbrev pub expr_step : Setting → Expr-F Part → Reading
expr_step e (Expr-F.Number n) scope s = done (bits (plain (least_width n) n)) s
expr_step e (Expr-F.Sized width signed n) scope s = with_width e 1 128 width (λ k. done (bits (record { width = k; signed = signed; pattern = n % 2 ^ k })) s)
expr_step e (Expr-F.Text x) scope s = done (written_text x) s
expr_step e (Expr-F.Flag x) scope s = done (flag x) s
expr_step e (Expr-F.Word name) scope s = required (value_named e scope name s) s
expr_step e (Expr-F.Member kind name) scope s = required (option_map (member kind) (member_number kind name)) s
expr_step e (Expr-F.Unary sign of) scope s = and_then (of.1 scope s) (unary sign)
expr_step e (Expr-F.Binary sign left right) scope s = binary_reading sign left.1 right.1 scope s
expr_step e (Expr-F.WideLeft left by) scope s = with_bits (left.1 scope s) (λ v t. with_width e 0 127 by (λ k. sized (wide_left_shift_of v k) t))
expr_step e (Expr-F.Choice test taken other) scope s =
    with_flag (test.1 scope s) (λ x t. and_then (if x then taken.1 scope t else other.1 scope t)
    (in_kind e (shape (names_of e scope) (ex.Choice test.0 taken.0 other.0))))
expr_step e (Expr-F.Join parts) scope s = joined (map (λ p. p.1) parts) scope s
expr_step e (Expr-F.Repeat times of) scope s = with_bits (of.1 scope s) (λ v t. with_width e 1 128 times (λ k. sized (repeat_of v k) t))
expr_step e (Expr-F.Index of at) scope s = with_bits (of.1 scope s) (λ v t. with_bits (at.1 scope t) (λ i r. done (bits (bit_of v i)) r))
expr_step e (Expr-F.Slice of high low) scope s = with_bits (of.1 scope s) (λ v t. with_slice_places e v.width high low (λ h l. done (bits (slice_of v h l)) t))
expr_step e (Expr-F.Call name args) scope s = and_then (call e name (map (λ p. p.1) args) scope s) (λ v t. required v t)
expr_step e (Expr-F.Signed of) scope s = with_bits (of.1 scope s) (λ v t. done (bits (signed_of v)) t)
expr_step e (Expr-F.Resize width of) scope s = with_bits (of.1 scope s) (λ v t. with_width e 1 128 width (λ k. done (bits (resized_to k v)) t))
expr_step e Expr-F.Pc scope s = done (bits (plain (registers e) s.pc)) s
expr_step e Expr-F.Encoding scope s = done (bits (plain 32 s.word)) s
expr_step e (Expr-F.Register at) scope s = with_bits (at.1 scope s) (λ i t. done (bits (plain (registers e) (read_register t.x i.pattern))) t)
expr_step e (Expr-F.Field csr field) scope s = field_value e csr field s
expr_step e (Expr-F.SoftRead address) scope s = and_then (addressed e address.0 address.1 scope s) (soft_read e)
expr_step e (Expr-F.ReadMemory count at) scope s = with_bits (at.1 scope s) (λ v t. read_memory count (address_of e v) t)
expr_step e (Expr-F.NewField field) scope s = new_field e field s
expr_step e Expr-F.Mode scope s = done machine_mode s
expr_step e (Expr-F.Implemented name) scope s = required (implemented e name) s
expr_step e (Expr-F.ImplementedVersion extension x) scope s = required (implemented_version e extension x) s

-- what an expression means
unfoldable pub mean_expr : Setting → Expr → Reading
mean_expr e = para-Expr Reading (expr_step e)

-- ---- assignments

-- a value in a declared shape
abbrev pub in_shape : Setting → Shape → Value → State → Outcome Value
in_shape e (sh.Bits signed width) (bits v) s = with_width e 1 128 width (λ n. done (bits (brought_to n signed v)) s)
in_shape e sh.Boolean (flag x) s = done (flag x) s
in_shape e (sh.Enum k) (member l n) s = if same_enum k l then done (member l n) s else stuck
in_shape e _ _ s = stuck

-- a value in the shape of another
abbrev pub in_shape_of : Value → Value → Option Value
in_shape_of (bits old) (bits v) = Some (bits (brought_to old.width old.signed v))
in_shape_of (flag old) (flag x) = Some (flag x)
in_shape_of (member k old) (member l n) = if same_enum k l then Some (member l n) else None
in_shape_of _ _ = None

abbrev pub declared : Scope → List ℕ → Value → Scope
declared scope name v = scope ++ (name, v) ∷ []

-- the innermost of a name takes a value
abbrev pub assigned : Scope → List ℕ → Value → Scope
assigned [] name v = []
assigned (p ∷ ps) name v = if is_some (innermost ps name) then p ∷ assigned ps name v else (if same_bytes p.0 name then (p.0, v) ∷ ps else p ∷ ps)

abbrev pub bits_of_value : Value → Option BitVector
bits_of_value (bits v) = Some v
bits_of_value _ = None

abbrev pub local_bits : Scope → List ℕ → Option BitVector
local_bits scope name = option_and_then bits_of_value (innermost scope name)

abbrev pub set_local : Scope → List ℕ → Value → State → Outcome Flow
set_local scope name v s = done (goes_on (assigned scope name v)) s

-- the index of a target before the assigned value
abbrev pub assign : Setting → Target → Expr → Change
assign e (t.Word name) x scope s =
    and_then (mean_expr e x scope s) (λ v r. or_stuck (innermost scope name) (λ old. or_stuck (in_shape_of old v) (λ new. set_local scope name new r)))
assign e (t.Bit name at) x scope s =
    with_bits (mean_expr e at scope s) (λ i r. with_bits (mean_expr e x scope r) (λ v z.
    or_stuck (local_bits scope name) (λ old. set_local scope name (bits (with_bit old i v)) z)))
assign e (t.Slice name high low) x scope s =
    with_bits (mean_expr e x scope s) (λ v r. or_stuck (local_bits scope name) (λ old.
    with_slice_places e old.width high low (λ h l. set_local scope name (bits (with_slice old h l v)) r)))
assign e (t.Register at) x scope s =
    with_bits (mean_expr e at scope s) (λ i r. with_bits (mean_expr e x scope r) (λ v z.
    done (goes_on scope) (record z { x = write_register z.x i.pattern (extension (registers e) v) })))
assign e (t.Field csr field) x scope s =
    with_field_of e csr field (λ p. with_bits (mean_expr e x scope s) (λ v r.
    done (goes_on scope) (record r { fields = with_field r.fields csr field (extension (part_width p.bits) v) })))

-- ---- statements

abbrev pub onward : Change → Flow → State → Outcome Flow
onward next (goes_on scope) s = next scope s
onward next (returns v) s = done (returns v) s

abbrev pub in_turn : List Change → Change
in_turn [] scope s = done (goes_on scope) s
in_turn (c ∷ cs) scope s = and_then (c scope s) (onward (in_turn cs))

-- what was declared inside is gone outside
abbrev pub leaving : ℕ → Flow → State → Outcome Flow
leaving count (goes_on scope) s = done (goes_on (take count scope)) s
leaving count (returns v) s = done (returns v) s

abbrev pub block : List Change → Change
block cs scope s = and_then (in_turn cs scope s) (leaving (length scope))

abbrev pub other_block : Option (List Change) → Change
other_block None scope s = done (goes_on scope) s
other_block (Some cs) scope s = block cs scope s

-- a block once for each of so many counters from a first one
abbrev pub turns : List ℕ → List Change → ℕ → ℕ → Change
turns name cs zero from scope s = done (goes_on scope) s
turns name cs (suc count) from scope s =
    and_then (and_then (in_turn cs (declared scope name (bits (plain 32 from))) s) (leaving (length scope))) (onward (turns name cs count (from + 1)))

abbrev pub loop : Setting → Name → Width → Width → List Change → Change
loop e name from to cs scope s =
    with_width e 0 (2 ^ 32 - 1) from (λ low. with_width e 0 (2 ^ 32 - 1) to (λ high. turns name cs (high - low) low scope s))

abbrev pub jump : Scope → ℕ → State → Outcome Flow
jump scope to s = if to % 4 == 0 then done (goes_on scope) (record s { next = to }) else raised 0 to s

abbrev pub raise : Value → ℕ → State → Outcome Flow
raise (member ExceptionCode code) tval s = raised code tval s
raise _ tval s = stuck

-- so many bits of a value at an address
abbrev pub write_memory : ℕ → Scope → ℕ → BitVector → State → Outcome Flow
write_memory count scope at v s =
    if is_access count then accessed 6 at (count / 8) s (done (goes_on scope) (record s { ram = stored s.ram at (count / 8) (extension count v) })) else stuck

-- the CSRs whose address has bits 11:10 set are read alone
abbrev pub soft_write : Setting → Scope → Addressed → BitVector → State → Outcome Flow
soft_write e scope one v s = or_illegal one.csr s (λ csr.
    if one.address / 2 ^ 10 % 4 == 3 then illegal s
    else or_stuck e.soft_write (λ write. or_stuck (write csr (address_of e v) s) (λ new. done (goes_on scope) new)))

abbrev pub stmt_step : Setting → Stmt-F Change → Change
stmt_step e (Stmt-F.Declare declared_shape name x) scope s =
    and_then (mean_expr e x scope s) (λ v r. and_then (in_shape e declared_shape v r) (λ w z. done (goes_on (declared scope name w)) z))
stmt_step e (Stmt-F.Assign target x) scope s = assign e target x scope s
stmt_step e (Stmt-F.Block cs) scope s = block cs scope s
stmt_step e (Stmt-F.Return x) scope s = and_then (mean_expr e x scope s) (λ v r. done (returns v) r)
stmt_step e (Stmt-F.If test taken other) scope s = with_flag (mean_expr e test scope s) (λ x r. if x then block taken scope r else other_block other scope r)
stmt_step e (Stmt-F.For name from to cs) scope s = loop e name from to cs scope s
stmt_step e (Stmt-F.Jump to) scope s = with_bits (mean_expr e to scope s) (λ v r. jump scope (address_of e v) r)
stmt_step e (Stmt-F.Raise code tval) scope s =
    and_then (mean_expr e code scope s) (λ c r. with_bits (mean_expr e tval scope r) (λ v z. raise c (address_of e v) z))
stmt_step e (Stmt-F.WriteMemory count at x) scope s =
    with_bits (mean_expr e at scope s) (λ a r. with_bits (mean_expr e x scope r) (λ v z. write_memory count scope (address_of e a) v z))
stmt_step e (Stmt-F.SoftWrite address x) scope s =
    and_then (addressed e address (mean_expr e address) scope s) (λ one r. with_bits (mean_expr e x scope r) (soft_write e scope one))
stmt_step e (Stmt-F.Call name args) scope s = and_then (call e name (map (mean_expr e) args) scope s) (λ v r. done (goes_on scope) r)

-- what a statement means
unfoldable pub mean_stmt : Setting → Stmt → Change
mean_stmt e = fold-Stmt Change (stmt_step e)

-- what statements mean, one after the other
abbrev pub mean_stmts : Setting → List Stmt → Change
mean_stmts e stmts = in_turn (map (mean_stmt e) stmts)
