-- Rows of tokens, read by computing.
use Rattle.std.proofs.Common.{◌≡◌, ℕ, List, [], ◌∷◌, Ok, Err, Some, None, refl}
use Rattle.std.specs.Prelude.{codes}
use Rattle.idl_token.specs.declared.kinds.Reserved.TheVariants as r
use Rattle.idl_token.specs.declared.kinds.Sign.TheVariants as s
use Rattle.idl_tree.specs.declared.widths.Width.TheVariants as w
use Rattle.idl_tree.specs.declared.expressions.Binary.TheVariants as b
use Rattle.idl_tree.specs.declared.expressions.Expr.TheVariants as e
use Rattle.idl_tree.specs.declared.statements.Target.TheVariants as target
use Rattle.idl_tree.specs.declared.statements.Stmt.TheVariants as st
use Rattle.idl_token.specs.Symbol.{Symbol}
use Rattle.idl_token.specs.Symbol as t
use Rattle.idl_grammar.specs.Outcome as o
use Rattle.idl_grammar.specs.WidthReader as wr
use Rattle.idl_grammar.specs.ExprReader as er
use Rattle.idl_grammar.specs.StmtReader as sr

-- X[1] =
abbrev set_one : List Symbol → List Symbol
set_one ts = t.reserved r.X ∷ t.sign s.OpenBracket ∷ t.number 1 ∷ t.sign s.CloseBracket ∷ t.sign s.Assign ∷ ts

-- X[k]
abbrev at : ℕ → List Symbol → List Symbol
at k ts = t.reserved r.X ∷ t.sign s.OpenBracket ∷ t.number k ∷ t.sign s.CloseBracket ∷ ts

-- X[1] = X[2] + X[3] * 2;
sum_of_product : sr.whole_body 64 (set_one (at 2 (t.sign s.Plus ∷ at 3 (t.sign s.Times ∷ t.number 2 ∷ t.sign s.Semicolon ∷ []))))
    ≡ Ok (st.Assign (target.Register (e.Number 1)) (e.Binary b.Add (e.Register (e.Number 2)) (e.Binary b.Mul (e.Register (e.Number 3)) (e.Number 2))) ∷ [], 5)
unfolding sr.whole_body sr.stmts sr.after_if sr.stmt sr.register sr.assigned sr.declared o.rows o.repeated o.want o.name er.expr_part er.level er.operand er.post er.parts er.inside er.single er.range er.named er.called er.register er.rest_of er.onward er.more er.choice wr.width_part wr.level wr.atoms wr.terms wr.sums wr.multiplied wr.after_number
sum_of_product = refl

-- X[1] = ;
nothing_set : sr.whole_body 64 (set_one (t.sign s.Semicolon ∷ [])) ≡ Err (t.sign s.Semicolon ∷ [])
unfolding sr.whole_body sr.stmts sr.after_if sr.stmt sr.register sr.assigned sr.declared o.rows o.repeated o.want o.name er.expr_part er.level er.operand er.post er.parts er.rest_of er.onward er.more er.choice
nothing_set = refl

abbrev a : List ℕ
a = codes "a"

abbrev m : List ℕ
m = codes "MXLEN"

-- a[2*MXLEN-1:0] = 0;
slice_set : sr.whole_body 4 (t.word a ∷ t.sign s.OpenBracket ∷ t.number 2 ∷ t.sign s.Times ∷ t.word m ∷ t.sign s.Minus ∷ t.number 1 ∷ t.sign s.Colon ∷ t.number 0 ∷ t.sign s.CloseBracket ∷ t.sign s.Assign ∷ t.number 0 ∷ t.sign s.Semicolon ∷ [])
    ≡ Ok (st.Assign (target.Slice a (w.Minus (w.Times (w.Number 2) (w.Word m)) (w.Number 1)) (w.Number 0)) (e.Number 0) ∷ [], 4)
unfolding sr.whole_body sr.stmts sr.after_if sr.stmt sr.register sr.assigned sr.worded sr.part sr.called sr.when sr.braced sr.blocked sr.otherwise sr.count sr.give sr.csr sr.csr_word sr.field sr.field_or_write sr.field_set sr.written sr.declared sr.shape sr.bits o.rows o.repeated o.commas o.separated o.want o.name er.expr_part er.level er.operand er.post er.parts er.inside er.single er.range er.named er.called er.register er.csr er.csr_word er.field er.field_or_read er.address er.soft_read er.braced er.joined er.repeated er.parens er.rest_of er.onward er.more er.choice wr.width_part wr.level wr.atoms wr.terms wr.sums wr.multiplied wr.after_number wr.parens wr.factor_parens
slice_set = refl

-- with a limit of 3 the width's sum is too deep: the place is its sign
slice_too_deep : sr.whole_body 3 (t.word a ∷ t.sign s.OpenBracket ∷ t.number 2 ∷ t.sign s.Times ∷ t.word m ∷ t.sign s.Minus ∷ t.number 1 ∷ t.sign s.Colon ∷ []) ≡ Err (t.sign s.Minus ∷ t.number 1 ∷ t.sign s.Colon ∷ [])
unfolding sr.whole_body sr.stmts sr.after_if sr.stmt sr.register sr.assigned sr.worded sr.part sr.called sr.when sr.braced sr.blocked sr.otherwise sr.count sr.give sr.csr sr.csr_word sr.field sr.field_or_write sr.field_set sr.written sr.declared sr.shape sr.bits o.rows o.repeated o.commas o.separated o.want o.name er.expr_part er.level er.operand er.post er.parts er.inside er.single er.range er.named er.called er.register er.csr er.csr_word er.field er.field_or_read er.address er.soft_read er.braced er.joined er.repeated er.parens er.rest_of er.onward er.more er.choice wr.width_part wr.level wr.atoms wr.terms wr.sums wr.multiplied wr.after_number wr.parens wr.factor_parens
slice_too_deep = refl

-- return a[a ? 1 : 0];
choice_inside : sr.whole_body 4 (t.reserved r.Return ∷ t.word a ∷ t.sign s.OpenBracket ∷ t.word a ∷ t.sign s.Question ∷ t.number 1 ∷ t.sign s.Colon ∷ t.number 0 ∷ t.sign s.CloseBracket ∷ t.sign s.Semicolon ∷ [])
    ≡ Ok (st.Return (e.Index (e.Word a) (e.Choice (e.Word a) (e.Number 1) (e.Number 0))) ∷ [], 4)
unfolding sr.whole_body sr.stmts sr.after_if sr.stmt sr.register sr.assigned sr.worded sr.part sr.called sr.when sr.braced sr.blocked sr.otherwise sr.count sr.give sr.csr sr.csr_word sr.field sr.field_or_write sr.field_set sr.written sr.declared sr.shape sr.bits o.rows o.repeated o.commas o.separated o.want o.name er.expr_part er.level er.operand er.post er.parts er.inside er.single er.range er.named er.called er.register er.csr er.csr_word er.field er.field_or_read er.address er.soft_read er.braced er.joined er.repeated er.parens er.rest_of er.onward er.more er.choice wr.width_part wr.level wr.atoms wr.terms wr.sums wr.multiplied wr.after_number wr.parens wr.factor_parens
choice_inside = refl

-- return {2{a}};
twice : sr.whole_body 4 (t.reserved r.Return ∷ t.sign s.OpenBrace ∷ t.number 2 ∷ t.sign s.OpenBrace ∷ t.word a ∷ t.sign s.CloseBrace ∷ t.sign s.CloseBrace ∷ t.sign s.Semicolon ∷ []) ≡ Ok (st.Return (e.Repeat (w.Number 2) (e.Word a)) ∷ [], 3)
unfolding sr.whole_body sr.stmts sr.after_if sr.stmt sr.register sr.assigned sr.worded sr.part sr.called sr.when sr.braced sr.blocked sr.otherwise sr.count sr.give sr.csr sr.csr_word sr.field sr.field_or_write sr.field_set sr.written sr.declared sr.shape sr.bits o.rows o.repeated o.commas o.separated o.want o.name er.expr_part er.level er.operand er.post er.parts er.inside er.single er.range er.named er.called er.register er.csr er.csr_word er.field er.field_or_read er.address er.soft_read er.braced er.joined er.repeated er.parens er.rest_of er.onward er.more er.choice wr.width_part wr.level wr.atoms wr.terms wr.sums wr.multiplied wr.after_number wr.parens wr.factor_parens
twice = refl

-- return (a + 1); parentheses round a sum count nothing, and round a word one level
round_sum : sr.whole_body 3 (t.reserved r.Return ∷ t.sign s.OpenParen ∷ t.word a ∷ t.sign s.Plus ∷ t.number 1 ∷ t.sign s.CloseParen ∷ t.sign s.Semicolon ∷ []) ≡ Ok (st.Return (e.Binary b.Add (e.Word a) (e.Number 1)) ∷ [], 3)
unfolding sr.whole_body sr.stmts sr.after_if sr.stmt sr.register sr.assigned sr.worded sr.part sr.called sr.when sr.braced sr.blocked sr.otherwise sr.count sr.give sr.csr sr.csr_word sr.field sr.field_or_write sr.field_set sr.written sr.declared sr.shape sr.bits o.rows o.repeated o.commas o.separated o.want o.name er.expr_part er.level er.operand er.post er.parts er.inside er.single er.range er.named er.called er.register er.csr er.csr_word er.field er.field_or_read er.address er.soft_read er.braced er.joined er.repeated er.parens er.rest_of er.onward er.more er.choice wr.width_part wr.level wr.atoms wr.terms wr.sums wr.multiplied wr.after_number wr.parens wr.factor_parens
round_sum = refl

round_word : sr.whole_body 3 (t.reserved r.Return ∷ t.sign s.OpenParen ∷ t.word a ∷ t.sign s.CloseParen ∷ t.sign s.Semicolon ∷ []) ≡ Ok (st.Return (e.Word a) ∷ [], 3)
unfolding sr.whole_body sr.stmts sr.after_if sr.stmt sr.register sr.assigned sr.worded sr.part sr.called sr.when sr.braced sr.blocked sr.otherwise sr.count sr.give sr.csr sr.csr_word sr.field sr.field_or_write sr.field_set sr.written sr.declared sr.shape sr.bits o.rows o.repeated o.commas o.separated o.want o.name er.expr_part er.level er.operand er.post er.parts er.inside er.single er.range er.named er.called er.register er.csr er.csr_word er.field er.field_or_read er.address er.soft_read er.braced er.joined er.repeated er.parens er.rest_of er.onward er.more er.choice wr.width_part wr.level wr.atoms wr.terms wr.sums wr.multiplied wr.after_number wr.parens wr.factor_parens
round_word = refl

-- return ((a + 1)); within 3 nothing begins with two parentheses there
round_twice : sr.whole_body 3 (t.reserved r.Return ∷ t.sign s.OpenParen ∷ t.sign s.OpenParen ∷ t.word a ∷ t.sign s.Plus ∷ t.number 1 ∷ t.sign s.CloseParen ∷ t.sign s.CloseParen ∷ t.sign s.Semicolon ∷ []) ≡ Err (t.sign s.OpenParen ∷ t.word a ∷ t.sign s.Plus ∷ t.number 1 ∷ t.sign s.CloseParen ∷ t.sign s.CloseParen ∷ t.sign s.Semicolon ∷ [])
unfolding sr.whole_body sr.stmts sr.after_if sr.stmt sr.register sr.assigned sr.worded sr.part sr.called sr.when sr.braced sr.blocked sr.otherwise sr.count sr.give sr.csr sr.csr_word sr.field sr.field_or_write sr.field_set sr.written sr.declared sr.shape sr.bits o.rows o.repeated o.commas o.separated o.want o.name er.expr_part er.level er.operand er.post er.parts er.inside er.single er.range er.named er.called er.register er.csr er.csr_word er.field er.field_or_read er.address er.soft_read er.braced er.joined er.repeated er.parens er.rest_of er.onward er.more er.choice wr.width_part wr.level wr.atoms wr.terms wr.sums wr.multiplied wr.after_number wr.parens wr.factor_parens
round_twice = refl

-- CSR[a].sw_write(CSR[a].sw_read());
soft : sr.whole_body 64 (t.reserved r.Csr ∷ t.sign s.OpenBracket ∷ t.word a ∷ t.sign s.CloseBracket ∷ t.sign s.Dot ∷ t.word (codes "sw_write") ∷ t.sign s.OpenParen
    ∷ t.reserved r.Csr ∷ t.sign s.OpenBracket ∷ t.word a ∷ t.sign s.CloseBracket ∷ t.sign s.Dot ∷ t.word (codes "sw_read") ∷ t.sign s.OpenParen ∷ t.sign s.CloseParen ∷ t.sign s.CloseParen ∷ t.sign s.Semicolon ∷ [])
    ≡ Ok (st.SoftWrite (e.Word a) (e.SoftRead (e.Word a)) ∷ [], 3)
unfolding sr.whole_body sr.stmts sr.after_if sr.stmt sr.register sr.assigned sr.worded sr.part sr.called sr.when sr.braced sr.blocked sr.otherwise sr.count sr.give sr.csr sr.csr_word sr.field sr.field_or_write sr.field_set sr.written sr.declared sr.shape sr.bits o.rows o.repeated o.commas o.separated o.want o.name er.expr_part er.level er.operand er.post er.parts er.inside er.single er.range er.named er.called er.register er.csr er.csr_word er.field er.field_or_read er.address er.soft_read er.braced er.joined er.repeated er.parens er.rest_of er.onward er.more er.choice wr.width_part wr.level wr.atoms wr.terms wr.sums wr.multiplied wr.after_number wr.parens wr.factor_parens
soft = refl

-- if (a) { } else if (a) { }
else_if : sr.whole_body 3 (t.reserved r.If ∷ t.sign s.OpenParen ∷ t.word a ∷ t.sign s.CloseParen ∷ t.sign s.OpenBrace ∷ t.sign s.CloseBrace ∷ t.reserved r.Else ∷ t.reserved r.If ∷ t.sign s.OpenParen ∷ t.word a ∷ t.sign s.CloseParen ∷ t.sign s.OpenBrace ∷ t.sign s.CloseBrace ∷ [])
    ≡ Ok (st.If (e.Word a) [] (Some (st.If (e.Word a) [] None ∷ [])) ∷ [], 3)
unfolding sr.whole_body sr.stmts sr.after_if sr.stmt sr.register sr.assigned sr.worded sr.part sr.called sr.when sr.braced sr.blocked sr.otherwise sr.count sr.give sr.csr sr.csr_word sr.field sr.field_or_write sr.field_set sr.written sr.declared sr.shape sr.bits o.rows o.repeated o.commas o.separated o.want o.name er.expr_part er.level er.operand er.post er.parts er.inside er.single er.range er.named er.called er.register er.csr er.csr_word er.field er.field_or_read er.address er.soft_read er.braced er.joined er.repeated er.parens er.rest_of er.onward er.more er.choice wr.width_part wr.level wr.atoms wr.terms wr.sums wr.multiplied wr.after_number wr.parens wr.factor_parens
else_if = refl

-- 2*(1+a) is no width, but an expression in brackets
no_width : sr.whole_body 8 (t.reserved r.Return ∷ t.word a ∷ t.sign s.OpenBracket ∷ t.number 2 ∷ t.sign s.Times ∷ t.sign s.OpenParen ∷ t.number 1 ∷ t.sign s.Plus ∷ t.word a ∷ t.sign s.CloseParen ∷ t.sign s.Colon ∷ []) ≡ Err (t.sign s.Colon ∷ [])
unfolding sr.whole_body sr.stmts sr.after_if sr.stmt sr.register sr.assigned sr.worded sr.part sr.called sr.when sr.braced sr.blocked sr.otherwise sr.count sr.give sr.csr sr.csr_word sr.field sr.field_or_write sr.field_set sr.written sr.declared sr.shape sr.bits o.rows o.repeated o.commas o.separated o.want o.name er.expr_part er.level er.operand er.post er.parts er.inside er.single er.range er.named er.called er.register er.csr er.csr_word er.field er.field_or_read er.address er.soft_read er.braced er.joined er.repeated er.parens er.rest_of er.onward er.more er.choice wr.width_part wr.level wr.atoms wr.terms wr.sums wr.multiplied wr.after_number wr.parens wr.factor_parens
no_width = refl
