-- The nodes of expressions, targets and statements, form by form, and the walk that looks for one.
use Rattle.std.proofs.Common.{append_assoc, ◌≡◌, ◌<◌, ◌+◌, ◌-◌, ◌↔◌, ◌⊎◌, ℕ, zero, suc, Bool, false, List, [], ◌∷◌, ◌++◌, map, take, length, get_or, Option, None, Some, refl, sym, ap, ◌∙◌, inl, inr, add-one, arith, ne_eqb}
use Rattle.std.specs.Prelude.{slice_get, ◌==◌}
use Rattle.std.specs.List.{flat_map}
use Rattle.std.proofs.lemmas.Grind.{flat_map-append}
use Rattle.std.proofs.lemmas.List.{append-nil}
use Rattle.udb_base.specs.declared.names.Name.{Name}
use Rattle.udb_base.specs.declared.characters.Chars.{Chars}
use Rattle.idl_tree.specs.declared.widths.Width.{Width}
use Rattle.idl_tree.specs.declared.widths.Shape.{Shape}
use Rattle.idl_tree.specs.declared.widths.EnumKind.{EnumKind}
use Rattle.idl_tree.specs.declared.expressions.Unary.{Unary}
use Rattle.idl_tree.specs.declared.expressions.Binary.{Binary}
use Rattle.idl_tree.specs.declared.expressions.Expr.{Expr}
use Rattle.idl_tree.specs.declared.expressions.Expr.TheVariants as e
use Rattle.idl_tree.specs.declared.statements.Target.{Target}
use Rattle.idl_tree.specs.declared.statements.Target.TheVariants as t
use Rattle.idl_tree.specs.declared.statements.Stmt.{Stmt}
use Rattle.idl_tree.specs.declared.statements.Stmt.TheVariants as s
use Rattle.idl_print.specs.declared.nodes.Search.{Search}
use Rattle.idl_tree.specs.ExprLaws.{para-Expr-Number, para-Expr-Sized, para-Expr-Text, para-Expr-Flag, para-Expr-Word, para-Expr-Member, para-Expr-Pc, para-Expr-Encoding, para-Expr-Field, para-Expr-NewField, para-Expr-Mode, para-Expr-Implemented, para-Expr-ImplementedVersion, para-Expr-Unary, para-Expr-Binary, para-Expr-WideLeft, para-Expr-Choice, para-Expr-Repeat, para-Expr-Index, para-Expr-Slice, para-Expr-Signed, para-Expr-Resize, para-Expr-Register, para-Expr-SoftRead, para-Expr-ReadMemory, para-Expr-Join, para-Expr-Call}
use Rattle.idl_tree.specs.StmtLaws.{para-Stmt-Declare, para-Stmt-Assign, para-Stmt-Block, para-Stmt-Return, para-Stmt-If, para-Stmt-For, para-Stmt-Jump, para-Stmt-Raise, para-Stmt-WriteMemory, para-Stmt-SoftWrite, para-Stmt-Call}
use Rattle.udb_base.specs.Lines.{Lines}
use Rattle.idl_tree.specs.Print.{stmt_lines}
use Rattle.idl_tree.specs.Nodes.{expr_lines, target_lines, expr_part, expr_parts_step, expr_parts, expr_nodes, target_parts, target_nodes, stmt_part, stmt_parts_step, stmt_parts, stmt_nodes, node_at}
use Rattle.idl_tree.specs.Operands.{target_operands}
use Rattle.idl_print.specs.Searches.{after_node, after_nodes}

parts_of : (es : List Expr) → flat_map expr_part (map (λ x. (x, expr_parts x)) es) ≡ flat_map expr_nodes es
unfolding expr_nodes
parts_of [] = refl
parts_of (x ∷ es) = ap (λ (ls : List Lines). expr_nodes x ++ ls) (parts_of es)

statements_of : (ss : List Stmt) → flat_map stmt_part (map (λ x. (x, stmt_parts x)) ss) ≡ flat_map stmt_nodes ss
unfolding stmt_nodes
statements_of [] = refl
statements_of (x ∷ ss) = ap (λ (ls : List Lines). stmt_nodes x ++ ls) (statements_of ss)

pub parts-Number : (n : ℕ) → expr_parts (e.Number n) ≡ []
unfolding expr_parts
parts-Number = para-Expr-Number (List Lines) expr_parts_step

pub parts-Sized : (width : Width) (signed : Bool) (value : ℕ) → expr_parts (e.Sized width signed value) ≡ []
unfolding expr_parts
parts-Sized = para-Expr-Sized (List Lines) expr_parts_step

pub parts-Text : (text : Chars) → expr_parts (e.Text text) ≡ []
unfolding expr_parts
parts-Text = para-Expr-Text (List Lines) expr_parts_step

pub parts-Flag : (flag : Bool) → expr_parts (e.Flag flag) ≡ []
unfolding expr_parts
parts-Flag = para-Expr-Flag (List Lines) expr_parts_step

pub parts-Word : (name : Name) → expr_parts (e.Word name) ≡ []
unfolding expr_parts
parts-Word = para-Expr-Word (List Lines) expr_parts_step

pub parts-Member : (kind : EnumKind) (name : Name) → expr_parts (e.Member kind name) ≡ []
unfolding expr_parts
parts-Member = para-Expr-Member (List Lines) expr_parts_step

pub parts-Pc : expr_parts e.Pc ≡ []
unfolding expr_parts
parts-Pc = para-Expr-Pc (List Lines) expr_parts_step

pub parts-Encoding : expr_parts e.Encoding ≡ []
unfolding expr_parts
parts-Encoding = para-Expr-Encoding (List Lines) expr_parts_step

pub parts-Field : (csr : Name) (field : Name) → expr_parts (e.Field csr field) ≡ []
unfolding expr_parts
parts-Field = para-Expr-Field (List Lines) expr_parts_step

pub parts-NewField : (name : Name) → expr_parts (e.NewField name) ≡ []
unfolding expr_parts
parts-NewField = para-Expr-NewField (List Lines) expr_parts_step

pub parts-Mode : expr_parts e.Mode ≡ []
unfolding expr_parts
parts-Mode = para-Expr-Mode (List Lines) expr_parts_step

pub parts-Implemented : (name : Name) → expr_parts (e.Implemented name) ≡ []
unfolding expr_parts
parts-Implemented = para-Expr-Implemented (List Lines) expr_parts_step

pub parts-ImplementedVersion : (extension : Name) (text : Chars) → expr_parts (e.ImplementedVersion extension text) ≡ []
unfolding expr_parts
parts-ImplementedVersion = para-Expr-ImplementedVersion (List Lines) expr_parts_step

pub parts-Unary : (sign : Unary) (a : Expr) → expr_parts (e.Unary sign a) ≡ expr_nodes a
unfolding expr_parts expr_nodes
parts-Unary sign a = para-Expr-Unary (List Lines) expr_parts_step sign a ∙ append-nil _

pub parts-Binary : (sign : Binary) (a : Expr) (b : Expr) → expr_parts (e.Binary sign a b) ≡ expr_nodes a ++ expr_nodes b
unfolding expr_parts expr_nodes
parts-Binary sign a b = para-Expr-Binary (List Lines) expr_parts_step sign a b ∙ ap (λ (ls : List Lines). expr_nodes a ++ ls) (append-nil _)

pub parts-WideLeft : (a : Expr) (by : Width) → expr_parts (e.WideLeft a by) ≡ expr_nodes a
unfolding expr_parts expr_nodes
parts-WideLeft a by = para-Expr-WideLeft (List Lines) expr_parts_step a by ∙ append-nil _

pub parts-Choice : (test : Expr) (taken : Expr) (other : Expr) → expr_parts (e.Choice test taken other) ≡ expr_nodes test ++ (expr_nodes taken ++ expr_nodes other)
unfolding expr_parts expr_nodes
parts-Choice test taken other = para-Expr-Choice (List Lines) expr_parts_step test taken other ∙ ap (λ (ls : List Lines). expr_nodes test ++ (expr_nodes taken ++ ls)) (append-nil _)

pub parts-Repeat : (times : Width) (a : Expr) → expr_parts (e.Repeat times a) ≡ expr_nodes a
unfolding expr_parts expr_nodes
parts-Repeat times a = para-Expr-Repeat (List Lines) expr_parts_step times a ∙ append-nil _

pub parts-Index : (a : Expr) (at : Expr) → expr_parts (e.Index a at) ≡ expr_nodes a ++ expr_nodes at
unfolding expr_parts expr_nodes
parts-Index a at = para-Expr-Index (List Lines) expr_parts_step a at ∙ ap (λ (ls : List Lines). expr_nodes a ++ ls) (append-nil _)

pub parts-Slice : (a : Expr) (high : Width) (low : Width) → expr_parts (e.Slice a high low) ≡ expr_nodes a
unfolding expr_parts expr_nodes
parts-Slice a high low = para-Expr-Slice (List Lines) expr_parts_step a high low ∙ append-nil _

pub parts-Signed : (a : Expr) → expr_parts (e.Signed a) ≡ expr_nodes a
unfolding expr_parts expr_nodes
parts-Signed a = para-Expr-Signed (List Lines) expr_parts_step a ∙ append-nil _

pub parts-Resize : (width : Width) (a : Expr) → expr_parts (e.Resize width a) ≡ expr_nodes a
unfolding expr_parts expr_nodes
parts-Resize width a = para-Expr-Resize (List Lines) expr_parts_step width a ∙ append-nil _

pub parts-Register : (a : Expr) → expr_parts (e.Register a) ≡ expr_nodes a
unfolding expr_parts expr_nodes
parts-Register a = para-Expr-Register (List Lines) expr_parts_step a ∙ append-nil _

pub parts-SoftRead : (a : Expr) → expr_parts (e.SoftRead a) ≡ expr_nodes a
unfolding expr_parts expr_nodes
parts-SoftRead a = para-Expr-SoftRead (List Lines) expr_parts_step a ∙ append-nil _

pub parts-ReadMemory : (bits : ℕ) (at : Expr) → expr_parts (e.ReadMemory bits at) ≡ expr_nodes at
unfolding expr_parts expr_nodes
parts-ReadMemory bits at = para-Expr-ReadMemory (List Lines) expr_parts_step bits at ∙ append-nil _

pub parts-Join : (es : List Expr) → expr_parts (e.Join es) ≡ flat_map expr_nodes es
unfolding expr_parts expr_nodes
parts-Join es = para-Expr-Join (List Lines) expr_parts_step es ∙ parts_of es

pub parts-Call : (name : Name) (es : List Expr) → expr_parts (e.Call name es) ≡ flat_map expr_nodes es
unfolding expr_parts expr_nodes
parts-Call name es = para-Expr-Call (List Lines) expr_parts_step name es ∙ parts_of es

pub target-Word : (name : Name) → target_parts (t.Word name) ≡ []
unfolding target_parts
target-Word name = refl

pub target-Bit : (name : Name) (at : Expr) → target_parts (t.Bit name at) ≡ expr_nodes at
unfolding target_parts
target-Bit name at = append-nil _

pub target-Slice : (name : Name) (high low : Width) → target_parts (t.Slice name high low) ≡ []
unfolding target_parts
target-Slice name high low = refl

pub target-Register : (at : Expr) → target_parts (t.Register at) ≡ expr_nodes at
unfolding target_parts
target-Register at = append-nil _

pub target-Field : (csr field : Name) → target_parts (t.Field csr field) ≡ []
unfolding target_parts
target-Field csr field = refl

pub below-Declare : (shape : Shape) (name : Name) (value : Expr) → stmt_parts (s.Declare shape name value) ≡ expr_nodes value
unfolding stmt_parts stmt_nodes
below-Declare shape name value = para-Stmt-Declare (List Lines) stmt_parts_step shape name value ∙ (append-nil _ ∙ append-nil _)

pub below-Assign : (target : Target) (value : Expr) → stmt_parts (s.Assign target value) ≡ target_nodes target ++ expr_nodes value
unfolding stmt_parts target_nodes target_parts
below-Assign target value =
    para-Stmt-Assign (List Lines) stmt_parts_step target value
    ∙ ap (λ (ls : List Lines). target_lines target ∷ ls) (append-nil _ ∙ (flat_map-append expr_nodes (target_operands target) (value ∷ []) ∙ ap (λ (ls : List Lines). flat_map expr_nodes (target_operands target) ++ ls) (append-nil _)))

pub below-Return : (value : Expr) → stmt_parts (s.Return value) ≡ expr_nodes value
unfolding stmt_parts stmt_nodes
below-Return value = para-Stmt-Return (List Lines) stmt_parts_step value ∙ (append-nil _ ∙ append-nil _)

pub below-Jump : (to : Expr) → stmt_parts (s.Jump to) ≡ expr_nodes to
unfolding stmt_parts stmt_nodes
below-Jump to = para-Stmt-Jump (List Lines) stmt_parts_step to ∙ (append-nil _ ∙ append-nil _)

pub below-Raise : (cause : Expr) (tval : Expr) → stmt_parts (s.Raise cause tval) ≡ expr_nodes cause ++ expr_nodes tval
unfolding stmt_parts stmt_nodes
below-Raise cause tval = para-Stmt-Raise (List Lines) stmt_parts_step cause tval ∙ (append-nil _ ∙ ap (λ (ls : List Lines). expr_nodes cause ++ ls) (append-nil _))

pub below-WriteMemory : (bits : ℕ) (at : Expr) (value : Expr) → stmt_parts (s.WriteMemory bits at value) ≡ expr_nodes at ++ expr_nodes value
unfolding stmt_parts stmt_nodes
below-WriteMemory bits at value = para-Stmt-WriteMemory (List Lines) stmt_parts_step bits at value ∙ (append-nil _ ∙ ap (λ (ls : List Lines). expr_nodes at ++ ls) (append-nil _))

pub below-SoftWrite : (address : Expr) (value : Expr) → stmt_parts (s.SoftWrite address value) ≡ expr_nodes address ++ expr_nodes value
unfolding stmt_parts stmt_nodes
below-SoftWrite address value = para-Stmt-SoftWrite (List Lines) stmt_parts_step address value ∙ (append-nil _ ∙ ap (λ (ls : List Lines). expr_nodes address ++ ls) (append-nil _))

pub below-Call : (name : Name) (args : List Expr) → stmt_parts (s.Call name args) ≡ flat_map expr_nodes args
unfolding stmt_parts stmt_nodes
below-Call name args = para-Stmt-Call (List Lines) stmt_parts_step name args ∙ append-nil _

pub below-Block : (block : List Stmt) → stmt_parts (s.Block block) ≡ flat_map stmt_nodes block
unfolding stmt_parts stmt_nodes
below-Block block = para-Stmt-Block (List Lines) stmt_parts_step block ∙ (append-nil _ ∙ statements_of block)

pub below-For : (name : Name) (from to : Width) (block : List Stmt) → stmt_parts (s.For name from to block) ≡ flat_map stmt_nodes block
unfolding stmt_parts stmt_nodes
below-For name from to block = para-Stmt-For (List Lines) stmt_parts_step name from to block ∙ (append-nil _ ∙ statements_of block)

pub below-If_None : (test : Expr) (taken : List Stmt) → stmt_parts (s.If test taken None) ≡ expr_nodes test ++ flat_map stmt_nodes taken
unfolding stmt_parts stmt_nodes
below-If_None test taken =
    para-Stmt-If (List Lines) stmt_parts_step test taken None
    ∙ (append_assoc (expr_nodes test) [] _
    ∙ ap (λ (ls : List Lines). expr_nodes test ++ ls) (append-nil _ ∙ statements_of taken))

pub below-If_Some : (test : Expr) (taken other : List Stmt) → stmt_parts (s.If test taken (Some other)) ≡ expr_nodes test ++ (flat_map stmt_nodes taken ++ flat_map stmt_nodes other)
unfolding stmt_parts stmt_nodes
below-If_Some test taken other =
    para-Stmt-If (List Lines) stmt_parts_step test taken (Some other)
    ∙ (append_assoc (expr_nodes test) [] _
    ∙ (ap (λ (ls : List Lines). expr_nodes test ++ (ls ++ (flat_map stmt_part (map (λ x. (x, stmt_parts x)) other) ++ []))) (statements_of taken)
    ∙ ap (λ (ls : List Lines). expr_nodes test ++ (flat_map stmt_nodes taken ++ ls)) (append-nil _ ∙ statements_of other)))

-- ---- the walk

pub after_nodes-nil : (s : Search) → after_nodes [] s ≡ s
unfolding after_nodes
after_nodes-nil s = refl

pub after_nodes-append : (xs ys : List Lines) (s : Search) → after_nodes (xs ++ ys) s ≡ after_nodes ys (after_nodes xs s)
unfolding after_nodes
after_nodes-append [] ys s = refl
after_nodes-append (x ∷ xs) ys s = after_nodes-append xs ys (after_node x s)

pub first-expression : (e : Expr) (s : Search) → after_nodes (expr_nodes e) s ≡ after_nodes (expr_parts e) (after_node (expr_lines e) s)
unfolding expr_nodes after_nodes
first-expression e s = refl

pub first-target : (t : Target) (s : Search) → after_nodes (target_nodes t) s ≡ after_nodes (target_parts t) (after_node (target_lines t) s)
unfolding target_nodes after_nodes
first-target t s = refl

pub first-statement : (x : Stmt) (s : Search) → after_nodes (stmt_nodes x) s ≡ after_nodes (stmt_parts x) (after_node (stmt_lines x) s)
unfolding stmt_nodes after_nodes
first-statement x s = refl

pub ruleset first_nodes = (first-expression, first-target, first-statement)

after_nodes-take : {X : Type 0} (f : X → List Lines) (xs : List X) (i : ℕ) (d : X) (s : Search) → i < length xs → after_nodes (flat_map f (take (suc i) xs)) s ≡ after_nodes (f (get_or xs i d)) (after_nodes (flat_map f (take i xs)) s)
after_nodes-take f [] i d s lt = absurd (omega arith)
after_nodes-take f (x ∷ xs) zero d s lt = rw (append-nil (f x), after_nodes-nil s) refl
after_nodes-take f (x ∷ xs) (suc i) d s lt =
    after_nodes-append (f x) (flat_map f (take (suc i) xs)) s
    ∙ (after_nodes-take f xs i d (after_nodes (f x) s) (omega arith)
    ∙ ap (after_nodes (f (get_or xs i d))) (sym (after_nodes-append (f x) (flat_map f (take i xs)) s)))

pub expression-more : (es : List Expr) (i : ℕ) (d : Expr) (s : Search) → i < length es → after_nodes (flat_map expr_nodes (take (i + 1) es)) s ≡ after_nodes (expr_nodes (get_or es i d)) (after_nodes (flat_map expr_nodes (take i es)) s)
expression-more es i d s lt = rw add-one (after_nodes-take expr_nodes es i d s lt)

pub statement-more : (ss : List Stmt) (i : ℕ) (d : Stmt) (s : Search) → i < length ss → after_nodes (flat_map stmt_nodes (take (i + 1) ss)) s ≡ after_nodes (stmt_nodes (get_or ss i d)) (after_nodes (flat_map stmt_nodes (take i ss)) s)
statement-more ss i d s lt = rw add-one (after_nodes-take stmt_nodes ss i d s lt)

pub ruleset next_expression = (after_nodes-nil, expression-more)

pub ruleset next_statement = (after_nodes-nil, statement-more)

-- ---- what is found

past : (xs : List Lines) (s : Search) → s.left ≡ 0 → (after_nodes xs s).found ≡ s.found
unfolding after_nodes after_node
past [] s h = refl
past (x ∷ xs) s h = rw h (past xs (record { left = 0; found = s.found }) refl)

after_node-other : (x : Lines) (n : ℕ) → after_node x (record { left = suc (suc n); found = None }) ≡ record { left = suc n; found = None }
unfolding after_node
after_node-other x n =
    let down : suc (suc n) - 1 ≡ suc n = omega arith in
    let other : (suc (suc n) == 1) ≡ false = ne_eqb (suc (suc n)) 1 (λ h. omega arith) in
    rw (down, other) refl

pub found-is : (xs : List Lines) (n : ℕ) → (after_nodes xs (record { left = n; found = None })).found ≡ node_at xs n
unfolding after_nodes after_node
found-is [] zero = refl
found-is [] (suc n) = refl
found-is (x ∷ xs) zero = found-is xs zero
found-is (x ∷ xs) (suc zero) = past xs (record { left = 0; found = Some x }) refl
found-is (x ∷ xs) (suc (suc n)) = ap (λ (s : Search). (after_nodes xs s).found) (after_node-other x n) ∙ found-is xs (suc n)

get-none : (xs : List Lines) (n : ℕ) → (slice_get xs n ≡ None) ↔ (length xs < suc n)
get-none [] n = (λ h. omega arith, λ h. refl)
get-none (x ∷ xs) zero = (λ h. absurd (cc h), λ h. absurd (omega arith))
get-none (x ∷ xs) (suc n) = (λ h. let k = (get-none xs n).0 h in omega arith, λ h. (get-none xs n).1 (omega arith))

pub none-is : (xs : List Lines) (n : ℕ) (r : Option Lines) → r ≡ node_at xs n → (r ≡ None) ↔ ((n ≡ 0) ⊎ (length xs < n))
none-is xs zero r is = (λ h. inl refl, λ h. is)
none-is xs (suc n) r is = (
  λ h. inr ((get-none xs n).0 (sym is ∙ h)),
  λ h. is ∙ (elim h as (λ x. slice_get xs n ≡ None) [ inl e ↦ absurd (omega arith) | inr lt ↦ (get-none xs n).1 lt ]),
)

pub ruleset found_node = (found-is, none-is)

-- ---- what each function's goals want

pub ruleset expression_nodes = (parts-Number, parts-Sized, parts-Text, parts-Flag, parts-Word, parts-Member, parts-Pc, parts-Encoding, parts-Field, parts-NewField, parts-Mode, parts-Implemented, parts-ImplementedVersion, parts-Unary, parts-Binary, parts-WideLeft, parts-Choice, parts-Repeat, parts-Index, parts-Slice, parts-Signed, parts-Resize, parts-Register, parts-SoftRead, parts-ReadMemory, parts-Join, parts-Call, after_nodes-nil, after_nodes-append)

pub ruleset target_nodes_laws = (target-Word, target-Bit, target-Slice, target-Register, target-Field, after_nodes-nil)

pub ruleset statement_nodes = (below-Declare, below-Assign, below-Return, below-Jump, below-Raise, below-WriteMemory, below-SoftWrite, below-Call, below-Block, below-For, below-If_None, below-If_Some, after_nodes-nil, after_nodes-append)
