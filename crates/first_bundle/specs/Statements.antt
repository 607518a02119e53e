-- How a statement of the first path is read.
use Rattle.std.specs.Prelude.{◌&&◌, ◌+◌, ◌-◌, ◌*◌, ◌^◌, min, Bool, true, false, ℕ, nat_lt, nat_eq, List, [], ◌∷◌, drop, codes, Option, None, Some, if◌then◌else◌}
use Rattle.std.specs.List.{starts_with}
use Rattle.idl_tree.specs.declared.widths.Width.TheVariants as w
use Rattle.idl_tree.specs.declared.expressions.Binary.TheVariants.{Add}
use Rattle.idl_tree.specs.declared.expressions.Expr.{Expr}
use Rattle.idl_tree.specs.declared.expressions.Expr.TheVariants as e
use Rattle.idl_tree.specs.declared.statements.Target.TheVariants as t
use Rattle.idl_tree.specs.declared.statements.Stmt.{Stmt}
use Rattle.idl_tree.specs.declared.statements.Stmt.TheVariants as s
use Rattle.first_bundle.specs.declared.statements.Operand.{Operand}
use Rattle.first_bundle.specs.declared.statements.Operand.TheVariants.{Literal, Register}
use Rattle.first_bundle.specs.declared.statements.Assignment.{Assignment}
use Rattle.first_spec.specs.Alphabets.{is_digit}

-- a number with one more digit, up to the last of 64 bits
abbrev pub with_digit : ℕ → ℕ → ℕ
with_digit n b = min (min (n * 10) (2 ^ 64 - 1) + (b - 48)) (2 ^ 64 - 1)

abbrev pub read_digits : ℕ → List ℕ → ℕ × List ℕ
read_digits n [] = (n, [])
read_digits n (b ∷ bs) = if is_digit b then read_digits (with_digit n b) bs else (n, b ∷ bs)

abbrev pub begins_with : List ℕ → List ℕ → Bool
begins_with word text = starts_with nat_eq text word

-- an operand at the front of a text, and the rest
abbrev pub literal_or_none : ℕ × List ℕ → Option (Operand × List ℕ)
literal_or_none r = if nat_lt r.0 4294967296 then Some (Literal r.0, r.1) else None

abbrev pub register_or_none : ℕ × List ℕ → Option (Operand × List ℕ)
register_or_none r = if nat_lt r.0 32 && begins_with (codes "]") r.1 then Some (Register r.0, drop 1 r.1) else None

abbrev pub read_operand : List ℕ → Option (Operand × List ℕ)
read_operand text =
    if begins_with (codes "32'd") text then literal_or_none (read_digits 0 (drop 4 text))
    else (if begins_with (codes "X[") text then register_or_none (read_digits 0 (drop 2 text)) else None)

abbrev pub operand_tree : Operand → Expr
operand_tree (Literal k) = e.Sized (w.Number 32) false k
operand_tree (Register n) = e.Register (e.Number n)

abbrev pub value_tree : Operand → Option Operand → Expr
value_tree first None = operand_tree first
value_tree first (Some second) = e.Binary Add (operand_tree first) (operand_tree second)

abbrev pub assignment_tree : Assignment → Stmt
assignment_tree a = s.Assign (t.Register (e.Number a.register)) (value_tree a.first a.second)

-- the second operand of a sum, up to the end of the statement
abbrev pub read_second : ℕ → Operand → Option (Operand × List ℕ) → Option Assignment
read_second n first None = None
read_second n first (Some r) = if begins_with (codes ";") r.1 then Some (record { register = n; first = first; second = Some r.0 }) else None

abbrev pub is_register : Operand → Bool
is_register (Register n) = true
is_register (Literal k) = false

abbrev pub read_value : ℕ → Option (Operand × List ℕ) → Option Assignment
read_value n None = None
read_value n (Some r) =
    if begins_with (codes ";") r.1 then Some (record { register = n; first = r.0; second = None })
    else (if is_register r.0 && begins_with (codes " + ") r.1 then read_second n r.0 (read_operand (drop 3 r.1)) else None)

abbrev pub read_target : Option (Operand × List ℕ) → Option Assignment
read_target None = None
read_target (Some (Literal k, rest)) = None
read_target (Some (Register n, rest)) = if begins_with (codes " = ") rest then read_value n (read_operand (drop 3 rest)) else None

abbrev pub read_statement : List ℕ → Option Assignment
read_statement text = read_target (read_operand text)
