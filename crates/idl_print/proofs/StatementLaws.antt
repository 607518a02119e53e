-- The first line of a statement and the lines after it, form by form.
use Rattle.std.proofs.Common.{◌≡◌, ℕ, List, [], ◌∷◌, ◌++◌, map, Option, None, Some, codes, refl, sym, ap, ◌∙◌, append_assoc}
use Rattle.std.specs.List.{flat_map}
use Rattle.std.specs.Fmt.{decimal}
use Rattle.std.proofs.lemmas.List.{append-nil}
use Rattle.udb_base.specs.declared.names.Name.{Name}
use Rattle.udb_base.specs.Lines.{Lines}
use Rattle.idl_tree.specs.declared.widths.Width.{Width}
use Rattle.idl_tree.specs.declared.widths.Shape.{Shape}
use Rattle.idl_tree.specs.declared.expressions.Expr.{Expr}
use Rattle.idl_tree.specs.declared.statements.Target.{Target}
use Rattle.idl_tree.specs.declared.statements.Stmt.{Stmt}
use Rattle.idl_tree.specs.declared.statements.Stmt.TheVariants as s
use Rattle.idl_tree.specs.declared.statements.Stmt.TheOpen.{Stmt-F}
use Rattle.idl_tree.specs.declared.statements.Stmt.TheFolds.{map-Stmt, fold-roll-Stmt}
use Rattle.idl_tree.specs.declared.statements.Stmt.TheViews.{out-Stmt, roll-out-Stmt, outs-Declare, outs-Assign, outs-Block, outs-Return, outs-If, outs-For, outs-Jump, outs-Raise, outs-WriteMemory, outs-SoftWrite, outs-Call}
use Rattle.idl_tree.specs.Print.{margined, indented, first_line, lines_after_first, lines_step, stmt_lines, expr_text, shape_text, target_text, call_text, for_text, if_text}
use Rattle.idl_tree.proofs.Margins.{margined-append, margined-cons, margined-one, margined-twice, margined-nil, lines_of}
use Rattle.idl_print.specs.StatementLines.{statement_head, statement_tail, block_lines}

pub head-Declare : (shape : Shape) (name : Name) (value : Expr) → statement_head (s.Declare shape name value) ≡ shape_text shape ++ codes " " ++ name ++ codes " = " ++ expr_text value ++ codes ";"
unfolding statement_head
head-Declare shape name value = ap first_line (outs-Declare shape name value)

pub head-Assign : (target : Target) (value : Expr) → statement_head (s.Assign target value) ≡ target_text target ++ codes " = " ++ expr_text value ++ codes ";"
unfolding statement_head
head-Assign target value = ap first_line (outs-Assign target value)

pub head-Return : (value : Expr) → statement_head (s.Return value) ≡ codes "return " ++ expr_text value ++ codes ";"
unfolding statement_head
head-Return value = ap first_line (outs-Return value)

pub head-Jump : (to : Expr) → statement_head (s.Jump to) ≡ codes "jump(" ++ expr_text to ++ codes ");"
unfolding statement_head
head-Jump to = ap first_line (outs-Jump to)

pub head-Raise : (cause tval : Expr) → statement_head (s.Raise cause tval) ≡ codes "raise(" ++ expr_text cause ++ codes ", mode(), " ++ expr_text tval ++ codes ");"
unfolding statement_head
head-Raise cause tval = ap first_line (outs-Raise cause tval)

pub head-WriteMemory : (bits : ℕ) (at value : Expr) → statement_head (s.WriteMemory bits at value) ≡ codes "write_memory<" ++ decimal bits ++ codes ">(" ++ expr_text at ++ codes ", " ++ expr_text value ++ codes ");"
unfolding statement_head
head-WriteMemory bits at value = ap first_line (outs-WriteMemory bits at value)

pub head-SoftWrite : (address value : Expr) → statement_head (s.SoftWrite address value) ≡ codes "CSR[" ++ expr_text address ++ codes "].sw_write(" ++ expr_text value ++ codes ");"
unfolding statement_head
head-SoftWrite address value = ap first_line (outs-SoftWrite address value)

pub head-Call : (name : Name) (args : List Expr) → statement_head (s.Call name args) ≡ call_text name (map expr_text args) ++ codes ";"
unfolding statement_head
head-Call name args = ap first_line (outs-Call name args)

pub head-Block : (block : List Stmt) → statement_head (s.Block block) ≡ codes "{"
unfolding statement_head
head-Block block = ap first_line (outs-Block block)

pub head-If : (test : Expr) (taken : List Stmt) (other : Option (List Stmt)) → statement_head (s.If test taken other) ≡ if_text test
unfolding statement_head
head-If test taken None = ap first_line (outs-If test taken None)
head-If test taken (Some other) = ap first_line (outs-If test taken (Some other))

pub head-For : (name : Name) (from to : Width) (block : List Stmt) → statement_head (s.For name from to block) ≡ for_text name from to
unfolding statement_head
head-For name from to block = ap first_line (outs-For name from to block)

pub ruleset heads = (head-Declare, head-Assign, head-Return, head-Jump, head-Raise, head-WriteMemory, head-SoftWrite, head-Call, head-Block, head-If, head-For, append_assoc)

-- ---- the lines after the first

abbrev after : Stmt-F Stmt → Lines
after layer = lines_after_first (map-Stmt Stmt Lines stmt_lines layer)

pub tail-Declare : (shape : Shape) (name : Name) (value : Expr) → statement_tail (s.Declare shape name value) ≡ []
unfolding statement_tail
tail-Declare shape name value = ap after (outs-Declare shape name value)

pub tail-Assign : (target : Target) (value : Expr) → statement_tail (s.Assign target value) ≡ []
unfolding statement_tail
tail-Assign target value = ap after (outs-Assign target value)

pub tail-Return : (value : Expr) → statement_tail (s.Return value) ≡ []
unfolding statement_tail
tail-Return value = ap after (outs-Return value)

pub tail-Jump : (to : Expr) → statement_tail (s.Jump to) ≡ []
unfolding statement_tail
tail-Jump to = ap after (outs-Jump to)

pub tail-Raise : (cause tval : Expr) → statement_tail (s.Raise cause tval) ≡ []
unfolding statement_tail
tail-Raise cause tval = ap after (outs-Raise cause tval)

pub tail-WriteMemory : (bits : ℕ) (at value : Expr) → statement_tail (s.WriteMemory bits at value) ≡ []
unfolding statement_tail
tail-WriteMemory bits at value = ap after (outs-WriteMemory bits at value)

pub tail-SoftWrite : (address value : Expr) → statement_tail (s.SoftWrite address value) ≡ []
unfolding statement_tail
tail-SoftWrite address value = ap after (outs-SoftWrite address value)

pub tail-Call : (name : Name) (args : List Expr) → statement_tail (s.Call name args) ≡ []
unfolding statement_tail
tail-Call name args = ap after (outs-Call name args)

pub tail-Block : (block : List Stmt) → statement_tail (s.Block block) ≡ block_lines block (codes "}")
unfolding statement_tail block_lines
tail-Block block = ap after (outs-Block block) ∙ ap (λ (ls : Lines). indented ls ++ (codes "}" ∷ [])) (lines_of block)

pub tail-For : (name : Name) (from to : Width) (block : List Stmt) → statement_tail (s.For name from to block) ≡ block_lines block (codes "}")
unfolding statement_tail block_lines
tail-For name from to block = ap after (outs-For name from to block) ∙ ap (λ (ls : Lines). indented ls ++ (codes "}" ∷ [])) (lines_of block)

pub tail-If_None : (test : Expr) (taken : List Stmt) → statement_tail (s.If test taken None) ≡ block_lines taken (codes "}")
unfolding statement_tail block_lines
tail-If_None test taken = ap after (outs-If test taken None) ∙ ap (λ (ls : Lines). indented ls ++ (codes "}" ∷ [])) (lines_of taken)

pub tail-If_Some : (test : Expr) (taken other : List Stmt) → statement_tail (s.If test taken (Some other)) ≡ block_lines taken (codes "} else {") ++ block_lines other (codes "}")
unfolding statement_tail block_lines
tail-If_Some test taken other =
    ap after (outs-If test taken (Some other))
    ∙ (ap (λ (ls : Lines). indented ls ++ (codes "} else {" ∷ (indented (flat_map (λ lines. lines) (map stmt_lines other)) ++ (codes "}" ∷ [])))) (lines_of taken)
    ∙ (ap (λ (ls : Lines). indented (flat_map stmt_lines taken) ++ (codes "} else {" ∷ (indented ls ++ (codes "}" ∷ [])))) (lines_of other)
    ∙ sym (append_assoc (indented (flat_map stmt_lines taken)) (codes "} else {" ∷ []) _)))

same_first : (layer : Stmt-F Stmt) → first_line (map-Stmt Stmt Lines stmt_lines layer) ≡ first_line layer
same_first (Stmt-F.Declare shape name value) = refl
same_first (Stmt-F.Assign target value) = refl
same_first (Stmt-F.Return value) = refl
same_first (Stmt-F.Jump to) = refl
same_first (Stmt-F.Raise cause tval) = refl
same_first (Stmt-F.WriteMemory bits at value) = refl
same_first (Stmt-F.SoftWrite address value) = refl
same_first (Stmt-F.Call name args) = refl
same_first (Stmt-F.Block block) = refl
same_first (Stmt-F.If test taken other) = refl
same_first (Stmt-F.For name from to block) = refl

pub lines-split : (x : Stmt) → stmt_lines x ≡ statement_head x ∷ statement_tail x
unfolding stmt_lines statement_head statement_tail
lines-split x =
    sym (ap stmt_lines (roll-out-Stmt x))
    ∙ (fold-roll-Stmt Lines lines_step (out-Stmt x)
    ∙ ap (λ (line : List ℕ). line ∷ after (out-Stmt x)) (same_first (out-Stmt x)))

-- ---- after a margin

pub statement-margined : (m : List ℕ) (x : Stmt) → margined m (stmt_lines x) ≡ (m ++ statement_head x) ∷ margined m (statement_tail x)
statement-margined m x = ap (margined m) (lines-split x) ∙ margined-cons m (statement_head x) (statement_tail x)

pub block-margined : (m : List ℕ) (block : List Stmt) (last : List ℕ) → margined m (block_lines block last) ≡ margined (m ++ codes "  ") (flat_map stmt_lines block) ++ ((m ++ last) ∷ [])
unfolding block_lines
block-margined m block last =
    margined-append m (indented (flat_map stmt_lines block)) (last ∷ [])
    ∙ (ap (λ (ls : Lines). ls ++ margined m (last ∷ [])) (sym (margined-twice m (codes "  ") (flat_map stmt_lines block)))
    ∙ ap (λ (ls : Lines). margined (m ++ codes "  ") (flat_map stmt_lines block) ++ ls) (margined-one m last))

pub ruleset statement_lines = (statement-margined, append_assoc)

pub ruleset block_steps = (block-margined, append_assoc)

pub ruleset tails = (tail-Declare, tail-Assign, tail-Return, tail-Jump, tail-Raise, tail-WriteMemory, tail-SoftWrite, tail-Call, tail-Block, tail-For, tail-If_None, tail-If_Some, margined-append, margined-nil, append-nil, append_assoc)
