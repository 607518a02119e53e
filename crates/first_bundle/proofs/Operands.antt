-- Operands and assignments: what is read is one of the language, and what is printed is read back.
use Rattle.std.proofs.Common.{◌≡◌, ℕ, ◌<◌, ◌≤◌, ◌^◌, Bool, true, false, cond, ◌&&◌, List, drop, refl, nat_lt, codes, IsTrue, Option, None, Some, ltb-true}
use Rattle.idl_tree.specs.declared.expressions.Expr.{Expr}
use Rattle.idl_tree.specs.declared.expressions.Expr.TheVariants as e
use Rattle.idl_tree.specs.declared.statements.Target.TheVariants as t
use Rattle.idl_tree.specs.declared.statements.Stmt.{Stmt}
use Rattle.idl_tree.specs.declared.statements.Stmt.TheVariants as s
use Rattle.entry_tree.specs.declared.ParamEntry.{ParamEntry}
use Rattle.first_bundle.specs.declared.statements.Operand.{Operand}
use Rattle.first_bundle.specs.declared.statements.Operand.TheVariants.{Literal, Register}
use Rattle.first_bundle.specs.declared.statements.Assignment.{Assignment}
use Rattle.first_spec.specs.Bundle.{IsValue, IsStatement}
use Rattle.first_bundle.specs.Statements.{read_digits, begins_with, literal_or_none, register_or_none, read_operand, read_second, read_value, read_target, read_statement, value_tree, assignment_tree, is_register}
use Rattle.first_bundle.proofs.Clean.{left_so}

abbrev pub InRange : Operand → Type 0
InRange (Literal k) = k < 2 ^ 32
InRange (Register n) = n < 32

abbrev pub SecondInRange : Operand → Option Operand → Type 0
SecondInRange first None = Unit {0}
SecondInRange first (Some second) = IsTrue (is_register first) × InRange second

pub record IsAssignment (a : Assignment) : Type 0 where
  pub register : a.register < 32
  pub first : InRange a.first
  pub second : SecondInRange a.first a.second

-- ---- what is read is in range

abbrev pub FrontInRange : Option (Operand × List ℕ) → Type 0
FrontInRange None = Unit {0}
FrontInRange (Some r) = InRange r.0

literal_range : (r : ℕ × List ℕ) (b : Bool) → nat_lt r.0 4294967296 ≡ b → FrontInRange (cond b (Some (Literal r.0, r.1)) None)
literal_range r true h = ltb-true r.0 4294967296 h
literal_range r false h = tt

register_range : (r : ℕ × List ℕ) (b : Bool) → (nat_lt r.0 32 && begins_with (codes "]") r.1) ≡ b → FrontInRange (cond b (Some (Register r.0, drop 1 r.1)) None)
register_range r true h = ltb-true r.0 32 (left_so (nat_lt r.0 32) (begins_with (codes "]") r.1) h)
register_range r false h = tt

other_range : (b : Bool) (r : ℕ × List ℕ) → FrontInRange (cond b (register_or_none r) None)
other_range true r = register_range r (nat_lt r.0 32 && begins_with (codes "]") r.1) refl
other_range false r = tt

front_range : (b c : Bool) (q r : ℕ × List ℕ) → FrontInRange (cond b (literal_or_none q) (cond c (register_or_none r) None))
front_range true c q r = literal_range q (nat_lt q.0 4294967296) refl
front_range false c q r = other_range c r

operand_range : (text : List ℕ) → FrontInRange (read_operand text)
operand_range text = front_range (begins_with (codes "32'd") text) (begins_with (codes "X[") text) (read_digits 0 (drop 4 text)) (read_digits 0 (drop 2 text))

abbrev pub Fine : Option Assignment → Type 0
Fine None = Unit {0}
Fine (Some a) = IsAssignment a

second_end : (n : ℕ) (first : Operand) (r : Operand × List ℕ) (b : Bool) → n < 32 → InRange first → is_register first ≡ true → InRange r.0 → Fine (cond b (Some (record { register = n; first = first; second = Some r.0 })) None)
second_end n first r true l f g h = record { register = l; first = f; second = (g, h) }
second_end n first r false l f g h = tt

second_fine : (n : ℕ) (first : Operand) (o : Option (Operand × List ℕ)) → n < 32 → InRange first → is_register first ≡ true → FrontInRange o → Fine (read_second n first o)
second_fine n first None l f g h = tt
second_fine n first (Some r) l f g h = second_end n first r (begins_with (codes ";") r.1) l f g h

sum_fine : (n : ℕ) (r : Operand × List ℕ) (c : Bool) → n < 32 → InRange r.0 → (is_register r.0 && begins_with (codes " + ") r.1) ≡ c → Fine (cond c (read_second n r.0 (read_operand (drop 3 r.1))) None)
sum_fine n r true l f g = second_fine n r.0 (read_operand (drop 3 r.1)) l f (left_so (is_register r.0) (begins_with (codes " + ") r.1) g) (operand_range (drop 3 r.1))
sum_fine n r false l f g = tt

value_end : (n : ℕ) (r : Operand × List ℕ) (b : Bool) → n < 32 → InRange r.0 → Fine (cond b (Some (record { register = n; first = r.0; second = None })) (cond (is_register r.0 && begins_with (codes " + ") r.1) (read_second n r.0 (read_operand (drop 3 r.1))) None))
value_end n r true l f = record { register = l; first = f; second = tt }
value_end n r false l f = sum_fine n r (is_register r.0 && begins_with (codes " + ") r.1) l f refl

value_fine : (n : ℕ) (o : Option (Operand × List ℕ)) → n < 32 → FrontInRange o → Fine (read_value n o)
value_fine n None l h = tt
value_fine n (Some r) l h = value_end n r (begins_with (codes ";") r.1) l h

target_end : (n : ℕ) (rest : List ℕ) (b : Bool) → n < 32 → Fine (cond b (read_value n (read_operand (drop 3 rest))) None)
target_end n rest true l = value_fine n (read_operand (drop 3 rest)) l (operand_range (drop 3 rest))
target_end n rest false l = tt

target_fine : (o : Option (Operand × List ℕ)) → FrontInRange o → Fine (read_target o)
target_fine None h = tt
target_fine (Some (Literal k, rest)) h = tt
target_fine (Some (Register n, rest)) h = target_end n rest (begins_with (codes " = ") rest) h

pub statement_fine : (text : List ℕ) → Fine (read_statement text)
statement_fine text = target_fine (read_operand text) (operand_range text)

-- ---- assignments and statements

value_of : (first : Operand) (second : Option Operand) → InRange first → SecondInRange first second → IsValue (value_tree first second)
value_of (Literal k) None f h = IsValue.literal k f
value_of (Register n) None f h = IsValue.register n f
value_of (Literal k) (Some o) f h = absurd (cc h.0)
value_of (Register n) (Some (Literal k)) f h = IsValue.plus_literal n k f h.1
value_of (Register n) (Some (Register m)) f h = IsValue.plus_register n m f h.1

pub statement_of : (ps : List ParamEntry) (depth : ℕ) (a : Assignment) → depth ≤ 8 → IsAssignment a → IsStatement ps depth (assignment_tree a)
statement_of ps depth a d h = IsStatement.assign depth a.register (value_tree a.first a.second) d h.register (value_of a.first a.second h.first h.second)

-- the assignment that a statement is
pub record Assigns (x : Stmt) : Type 0 where
  pub assignment : Assignment
  pub fine : IsAssignment assignment
  pub tree : assignment_tree assignment ≡ x

pub assigned : (n : ℕ) (x : Expr) → n < 32 → IsValue x → Assigns (s.Assign (t.Register (e.Number n)) x)
assigned n _ l (IsValue.literal k h) = record { assignment = record { register = n; first = Literal k; second = None }; fine = record { register = l; first = h; second = tt }; tree = refl }
assigned n _ l (IsValue.register m h) = record { assignment = record { register = n; first = Register m; second = None }; fine = record { register = l; first = h; second = tt }; tree = refl }
assigned n _ l (IsValue.plus_literal m k h g) = record { assignment = record { register = n; first = Register m; second = Some (Literal k) }; fine = record { register = l; first = h; second = (refl, g) }; tree = refl }
assigned n _ l (IsValue.plus_register m k h g) = record { assignment = record { register = n; first = Register m; second = Some (Register k) }; fine = record { register = l; first = h; second = (refl, g) }; tree = refl }
