-- Lines after a margin, and lists that grow by one more part.
use Rattle.std.proofs.Common.{◌≡◌, ◌<◌, ◌+◌, ℕ, zero, suc, List, [], ◌∷◌, ◌++◌, map, take, length, get_or, Option, None, Some, refl, sym, ap, ◌∙◌, append_assoc, add-one, arith}
use Rattle.std.specs.Prelude.{codes}
use Rattle.std.specs.List.{flat_map}
use Rattle.std.specs.Fmt.{decimal}
use Rattle.std.proofs.lemmas.List.{append-nil}
use Rattle.udb_base.specs.declared.names.Name.{Name}
use Rattle.idl_tree.specs.declared.widths.Width.{Width}
use Rattle.idl_tree.specs.declared.widths.Shape.{Shape}
use Rattle.idl_tree.specs.declared.expressions.Expr.{Expr}
use Rattle.idl_tree.specs.declared.statements.Target.{Target}
use Rattle.idl_tree.specs.declared.statements.Stmt.{Stmt}
use Rattle.idl_tree.specs.declared.statements.Stmt.TheVariants as s
use Rattle.udb_base.specs.Lines.{Lines, text_of_lines}
use Rattle.idl_tree.specs.Print.{margined, indented, enclosed, stmt_lines, separator, commas, expr_text, shape_text, target_text, call_text, for_text, if_text}
use Rattle.idl_tree.proofs.Printed.{stmt_lines-Declare, stmt_lines-Assign, stmt_lines-Block, stmt_lines-Return, stmt_lines-If, stmt_lines-For, stmt_lines-Jump, stmt_lines-Raise, stmt_lines-WriteMemory, stmt_lines-SoftWrite, stmt_lines-Call}

pub margined-append : (m : List ℕ) (xs ys : Lines) → margined m (xs ++ ys) ≡ margined m xs ++ margined m ys
unfolding margined
margined-append m [] ys = refl
margined-append m (x ∷ xs) ys = ap (λ ls. (m ++ x) ∷ ls) (margined-append m xs ys)

pub margined-cons : (m x : List ℕ) (xs : Lines) → margined m (x ∷ xs) ≡ (m ++ x) ∷ margined m xs
unfolding margined
margined-cons m x xs = refl

pub margined-nil : (m : List ℕ) → margined m [] ≡ []
unfolding margined
margined-nil m = refl

pub margined-one : (m x : List ℕ) → margined m (x ∷ []) ≡ (m ++ x) ∷ []
unfolding margined
margined-one m x = refl

pub margined-twice : (m k : List ℕ) (xs : Lines) → margined (m ++ k) xs ≡ margined m (margined k xs)
unfolding margined
margined-twice m k [] = refl
margined-twice m k (x ∷ xs) = rw (append_assoc m k x) (ap (λ ls. (m ++ (k ++ x)) ∷ ls) (margined-twice m k xs))

pub margined-none : (xs : Lines) → margined [] xs ≡ xs
unfolding margined
margined-none [] = refl
margined-none (x ∷ xs) = ap (λ ls. x ∷ ls) (margined-none xs)

pub lines_of : (ss : List Stmt) → flat_map (λ lines. lines) (map stmt_lines ss) ≡ flat_map stmt_lines ss
lines_of [] = refl
lines_of (x ∷ ss) = ap (λ ls. stmt_lines x ++ ls) (lines_of ss)

pub ruleset margins = (margined-twice, margined-none, append_assoc)

-- ---- one more part

pub flat_map-take : {X A : Type 0} (f : X → List A) (xs : List X) (i : ℕ) (d : X) → i < length xs → flat_map f (take (suc i) xs) ≡ flat_map f (take i xs) ++ f (get_or xs i d)
flat_map-take f [] i d lt = absurd (omega arith)
flat_map-take f (x ∷ xs) zero d lt = append-nil (f x)
flat_map-take f (x ∷ xs) (suc i) d lt = ap (λ ys. f x ++ ys) (flat_map-take f xs i d (omega arith)) ∙ sym (append_assoc (f x) (flat_map f (take i xs)) (f (get_or xs i d)))

pub statements_more : (m : List ℕ) (ss : List Stmt) (i : ℕ) (d : Stmt) → i < length ss → margined m (flat_map stmt_lines (take (i + 1) ss)) ≡ margined m (flat_map stmt_lines (take i ss)) ++ margined m (stmt_lines (get_or ss i d))
statements_more m ss i d lt = rw (add-one, flat_map-take stmt_lines ss i d lt, margined-append m (flat_map stmt_lines (take i ss)) (stmt_lines (get_or ss i d))) refl

pub ruleset more_statements = (margined-nil, append-nil, statements_more, append_assoc)

commas-rest : (es : List Expr) (i : ℕ) (d : Expr) → i < length es →
    flat_map (λ (y : List ℕ). codes ", " ++ y) (map expr_text (take (suc i) es)) ≡ flat_map (λ (y : List ℕ). codes ", " ++ y) (map expr_text (take i es)) ++ (codes ", " ++ expr_text (get_or es i d))
commas-rest [] i d lt = absurd (omega arith)
commas-rest (x ∷ es) zero d lt = append-nil (codes ", " ++ expr_text x)
commas-rest (x ∷ es) (suc i) d lt = ap (λ (ys : List ℕ). (codes ", " ++ expr_text x) ++ ys) (commas-rest es i d (omega arith)) ∙ sym (append_assoc (codes ", " ++ expr_text x) _ _)

pub commas_more : (es : List Expr) (i : ℕ) (d : Expr) → i < length es → commas (map expr_text (take (i + 1) es)) ≡ commas (map expr_text (take i es)) ++ (separator i ++ expr_text (get_or es i d))
commas_more [] i d lt = absurd (omega arith)
commas_more (x ∷ es) zero d lt = append-nil (expr_text x)
commas_more (x ∷ es) (suc i) d lt = rw (add-one) (ap (λ (ys : List ℕ). expr_text x ++ ys) (commas-rest es i d (omega arith)) ∙ sym (append_assoc (expr_text x) _ _))
