-- The text of an assignment, and that it is read back.
use Rattle.std.proofs.Common.{◌≡◌, ℕ, Bool, true, false, cond, ◌&&◌, List, [], ◌∷◌, ◌++◌, refl, ap, sym, ◌∙◌, arith, append_assoc, append-nil, decimal, codes, Option, None, Some, lt-ltb}
use Rattle.std.proofs.lemmas.Fmt.{decimal_step, decimal_digit}
use Rattle.idl_tree.specs.declared.widths.Width.TheVariants as w
use Rattle.idl_tree.specs.declared.expressions.Binary.TheVariants.{Add}
use Rattle.idl_tree.specs.declared.expressions.Expr.TheVariants as e
use Rattle.idl_tree.specs.declared.expressions.Expr.TheOpen.{Expr-F}
use Rattle.idl_tree.specs.declared.statements.Target.TheVariants as t
use Rattle.idl_tree.specs.Print.{Form, within, quote_word, expr_step, expr_form, expr_text, stmt_lines}
use Rattle.idl_tree.proofs.Printed.{width_form-Number, expr_form-Number, expr_form-Sized, expr_form-Register, expr_form-Binary, stmt_lines-Assign}
use Rattle.first_bundle.specs.declared.statements.Operand.{Operand}
use Rattle.first_bundle.specs.declared.statements.Operand.TheVariants.{Literal, Register}
use Rattle.first_bundle.specs.declared.statements.Assignment.{Assignment}
use Rattle.first_spec.specs.Alphabets.{is_digit}
use Rattle.first_bundle.specs.Statements.{literal_or_none, register_or_none, read_operand, read_second, read_value, read_target, read_statement, operand_tree, value_tree, assignment_tree}
use Rattle.first_bundle.proofs.Clean.{is_clean, clean, all_joined, clean-decimal}
use Rattle.first_bundle.proofs.Digits.{read_decimal}
use Rattle.first_bundle.proofs.Operands.{InRange, SecondInRange, IsAssignment}

-- an operand before a text
abbrev pub operand_onto : Operand → List ℕ → List ℕ
operand_onto (Literal k) rest = codes "32'd" ++ (decimal k ++ rest)
operand_onto (Register n) rest = codes "X[" ++ (decimal n ++ (codes "]" ++ rest))

abbrev pub value_onto : Operand → Option Operand → List ℕ → List ℕ
value_onto first None rest = operand_onto first rest
value_onto first (Some second) rest = operand_onto first (codes " + " ++ operand_onto second rest)

abbrev pub line_of : Assignment → List ℕ
line_of a = operand_onto (Register a.register) (codes " = " ++ value_onto a.first a.second (codes ";"))

operand-append : (o : Operand) (rest more : List ℕ) → operand_onto o rest ++ more ≡ operand_onto o (rest ++ more)
operand-append (Literal k) rest more = ap (λ x. codes "32'd" ++ x) (append_assoc (decimal k) rest more)
operand-append (Register n) rest more = ap (λ x. codes "X[" ++ x) (append_assoc (decimal n) (codes "]" ++ rest) more)

value-append : (first : Operand) (second : Option Operand) (more : List ℕ) → value_onto first second [] ++ more ≡ value_onto first second more
value-append first None more = operand-append first [] more
value-append first (Some second) more =
    operand-append first (codes " + " ++ operand_onto second []) more
    ∙ ap (λ x. operand_onto first (codes " + " ++ x)) (operand-append second [] more)

decimal-32 : decimal 32 ≡ codes "32"
decimal-32 = decimal_step 32 (omega arith) (omega arith) ∙ ap (λ x. x ++ 50 ∷ []) (decimal_digit 3 (omega arith))

operand_form : (o : Operand) → expr_form (operand_tree o) ≡ (0, operand_onto o [])
operand_form (Literal k) =
    expr_form-Sized (w.Number 32) false k
    ∙ (ap (λ (f : Form). (0, (within 0 f ++ quote_word false) ++ decimal k)) (width_form-Number 32)
    ∙ (ap (λ (d : List ℕ). (0, (d ++ codes "'d") ++ decimal k)) decimal-32
    ∙ ap (λ (d : List ℕ). (0, codes "32'd" ++ d)) (sym (append-nil (decimal k)))))
operand_form (Register n) = expr_form-Register (e.Number n) ∙ ap (λ f. expr_step (Expr-F.Register f)) (expr_form-Number n)

value_text : (first : Operand) (second : Option Operand) → expr_text (value_tree first second) ≡ value_onto first second []
value_text first None = ap (λ (f : Form). f.1) (operand_form first)
value_text first (Some second) =
    ap (λ (f : Form). f.1) (expr_form-Binary Add (operand_tree first) (operand_tree second))
    ∙ (ap (λ (f : Form). (within 1 f ++ codes " + ") ++ within 1 (expr_form (operand_tree second))) (operand_form first)
    ∙ (ap (λ (f : Form). (operand_onto first [] ++ codes " + ") ++ within 1 f) (operand_form second)
    ∙ (ap (λ (x : List ℕ). x ++ operand_onto second []) (operand-append first [] (codes " + "))
    ∙ operand-append first (codes " + ") (operand_onto second []))))

joined_line : (n : ℕ) (first : Operand) (second : Option Operand) → ((operand_onto (Register n) [] ++ codes " = ") ++ value_onto first second []) ++ codes ";" ≡ operand_onto (Register n) (codes " = " ++ value_onto first second (codes ";"))
joined_line n first second =
    ap (λ (x : List ℕ). (x ++ value_onto first second []) ++ codes ";") (operand-append (Register n) [] (codes " = "))
    ∙ (ap (λ (x : List ℕ). x ++ codes ";") (operand-append (Register n) (codes " = ") (value_onto first second []))
    ∙ (operand-append (Register n) (codes " = " ++ value_onto first second []) (codes ";")
    ∙ ap (λ (x : List ℕ). operand_onto (Register n) (codes " = " ++ x)) (value-append first second (codes ";"))))

-- an assignment has one line
pub stmt_line : (a : Assignment) → stmt_lines (assignment_tree a) ≡ line_of a ∷ []
stmt_line a =
    stmt_lines-Assign (t.Register (e.Number a.register)) (value_tree a.first a.second)
    ∙ (ap (λ (f : Form). (((((codes "X[" ++ f.1) ++ codes "]") ++ codes " = ") ++ expr_text (value_tree a.first a.second)) ++ codes ";") ∷ []) (expr_form-Number a.register)
    ∙ (ap (λ (v : List ℕ). (((operand_onto (Register a.register) [] ++ codes " = ") ++ v) ++ codes ";") ∷ []) (value_text a.first a.second)
    ∙ ap (λ (x : List ℕ). x ∷ []) (joined_line a.register a.first a.second)))

-- ---- bytes

clean_operand : (o : Operand) (rest : List ℕ) → InRange o → clean rest ≡ true → clean (operand_onto o rest) ≡ true
clean_operand (Literal k) rest l h = all_joined is_clean (decimal k) rest (clean-decimal k (omega arith)) h
clean_operand (Register n) rest l h = all_joined is_clean (decimal n) (codes "]" ++ rest) (clean-decimal n (omega arith)) h

clean_value : (first : Operand) (second : Option Operand) (rest : List ℕ) → InRange first → SecondInRange first second → clean rest ≡ true → clean (value_onto first second rest) ≡ true
clean_value first None rest l h k = clean_operand first rest l k
clean_value first (Some second) rest l h k = clean_operand first (codes " + " ++ operand_onto second rest) l (clean_operand second rest h.1 k)

pub clean_line : (a : Assignment) → IsAssignment a → clean (line_of a) ≡ true
clean_line a h = clean_operand (Register a.register) (codes " = " ++ value_onto a.first a.second (codes ";")) h.register (clean_value a.first a.second (codes ";") h.first h.second refl)

-- ---- read back

operand_read : (o : Operand) (b : ℕ) (bs : List ℕ) → InRange o → is_digit b ≡ false → read_operand (operand_onto o (b ∷ bs)) ≡ Some (o, b ∷ bs)
operand_read (Literal k) b bs l h =
    ap literal_or_none (read_decimal k b bs l h)
    ∙ ap (λ (q : Bool). cond q (Some (Literal k, b ∷ bs)) None) (lt-ltb k 4294967296 l)
operand_read (Register n) b bs l h =
    ap register_or_none (read_decimal n 93 (b ∷ bs) (omega arith) refl)
    ∙ ap (λ (q : Bool). cond (q && true) (Some (Register n, b ∷ bs)) None) (lt-ltb n 32 l)

value_read : (n : ℕ) (first : Operand) (second : Option Operand) → InRange first → SecondInRange first second → read_value n (read_operand (value_onto first second (codes ";"))) ≡ Some (record { register = n; first = first; second = second })
value_read n first None l h = ap (read_value n) (operand_read first 59 [] l refl)
value_read n first (Some second) l h =
    ap (read_value n) (operand_read first 32 (43 ∷ 32 ∷ operand_onto second (codes ";")) l refl)
    ∙ (ap (λ (q : Bool). cond (q && true) (read_second n first (read_operand (operand_onto second (codes ";")))) None) h.0
    ∙ ap (read_second n first) (operand_read second 59 [] h.1 refl))

pub line_read : (a : Assignment) → IsAssignment a → read_statement (line_of a) ≡ Some a
line_read a h =
    ap read_target (operand_read (Register a.register) 32 (61 ∷ 32 ∷ value_onto a.first a.second (codes ";")) h.register refl)
    ∙ value_read a.register a.first a.second h.first h.second
