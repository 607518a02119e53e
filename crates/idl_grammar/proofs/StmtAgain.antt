-- Types and statements of the grammar are read as what they read as.
use Rattle.std.proofs.Common.{◌≡◌, ℕ, zero, suc, ◌-◌, ◌<◌, ◌≤◌, Bool, true, false, cond, List, [], ◌∷◌, Option, Some, Ok, Err, refl, sym, ap, ◌∙◌, arith}
use Rattle.std.specs.Prelude.{max}
use Rattle.std.proofs.lemmas.Bool.{eq-eqb}
use Rattle.idl_token.specs.declared.kinds.Reserved.{Reserved}
use Rattle.idl_token.specs.declared.kinds.Reserved.TheVariants as r
use Rattle.idl_token.specs.declared.kinds.Sign.TheVariants as s
use Rattle.idl_tree.specs.declared.widths.Width.{Width}
use Rattle.idl_tree.specs.declared.widths.Shape.{Shape}
use Rattle.idl_tree.specs.declared.widths.Shape.TheVariants as sh
use Rattle.idl_tree.specs.declared.expressions.Expr.{Expr}
use Rattle.idl_tree.specs.declared.expressions.Expr.TheVariants as e
use Rattle.idl_tree.specs.declared.statements.Target.{Target}
use Rattle.idl_tree.specs.declared.statements.Target.TheVariants as target
use Rattle.idl_tree.specs.declared.statements.Stmt.{Stmt}
use Rattle.idl_tree.specs.declared.statements.Stmt.TheVariants as st
use Rattle.idl_token.specs.Symbol.{Symbol}
use Rattle.idl_token.specs.Symbol as t
use Rattle.idl_grammar.specs.Tables.{loosest, sw_write}
use Rattle.idl_grammar.specs.WidthGrammar.{ReadsWidth}
use Rattle.idl_grammar.specs.ExprGrammar as ge
use Rattle.idl_grammar.specs.ExprGrammar.{Inside, ReadsExpr, ReadsArgs, ReadsInside}
use Rattle.idl_grammar.specs.StmtGrammar as g
use Rattle.idl_grammar.specs.StmtGrammar.{short_shape, ReadsShape, ReadsTarget, ReadsStmt, ReadsElse, ReadsStmts, part_of_word}
use Rattle.idl_grammar.specs.Outcome as o
use Rattle.idl_grammar.specs.Outcome.{Outcome, Reader, Move, take, stop, pass}
use Rattle.idl_grammar.specs.ExprReader as er
use Rattle.idl_grammar.specs.ExprReader.{Found, Part}
use Rattle.idl_grammar.specs.StmtReader as sr
use Rattle.idl_grammar.specs.StmtReader.{Typed, Rows, One, Rest}
use Rattle.idl_grammar.proofs.Bounds.{expr_bounded, args_bounded}
use Rattle.idl_grammar.proofs.WidthAgain.{deeper_take, whole_width}
use Rattle.idl_grammar.proofs.LevelLaw.{expr_law, expr_part_law}
use Rattle.idl_grammar.proofs.Turns.{rank}
use Rattle.idl_grammar.proofs.ExprAgain.{inside_again, inside_alone, commas_again, only_is, args_open, ok_parts, word_at, expr_part_again, expr_again}

-- ---- types

bits_again : (n : ℕ) (f : Bool) {h : ℕ} {ts us : List Symbol} {a : Width} → ReadsWidth h ts (t.sign s.Greater ∷ us) a → h ≤ n → sr.bits n f (t.sign s.Less ∷ ts) ≡ Ok ((sh.Bits f a, h), us)
unfolding sr.bits o.want
bits_again n f q le = let first = whole_width n q le refl refl in rw first refl

short_is : (n : ℕ) (c : Reserved) (x : Shape) → short_shape c ≡ Some x → sr.shape_by n (t.reserved c) ≡ take (o.pure (x, 0))
short_is n r.Bits x is = absurd cc
short_is n r.Signed x is = absurd cc
short_is n c x is = ap sr.short_by is

pub shape_again : (n : ℕ) {h : ℕ} {ts us : List Symbol} {x : Shape} → ReadsShape h ts us x → h ≤ n → sr.shape n ts ≡ Ok ((x, h), us)
unfolding sr.shape sr.signed_bits o.want
shape_again n (g.bits q) le = bits_again n false q le
shape_again n (g.signed_bits q) le = bits_again n true q le
shape_again n (g.short {c} {x} is) le = rw (short_is n c x is) refl

-- ---- statements

pub no_expr : (ts : List Symbol) → er.expr 0 ts ≡ Err ts
unfolding er.expr_part
no_expr ts = refl

target_inside : (n : ℕ) {h : ℕ} {ts us : List Symbol} {j : Inside} → ReadsInside h ts us j → h ≤ n → er.inside n (er.expr n) ts ≡ Ok ((j, h), us)
target_inside zero q le = inside_alone 0 (er.expr 0) no_expr q le refl
target_inside (suc n) q le = inside_again (suc n) (er.expr (suc n)) (expr_law (suc n) (omega arith)) (expr_again (suc n)) q le

pub args_read : (n : ℕ) {h : ℕ} {ts us : List Symbol} {xs : List Expr} → ReadsArgs h ts us xs → h ≤ n → 11 < rank us → o.sees (o.is_sign s.Comma) us ≡ false → o.commas (er.expr n) ts ≡ Ok ((xs, h), us)
args_read n q le ends none = commas_again n (er.expr_part n) (expr_part_again n) (expr_part_law n) q le ends none

pub same_text-refl : (x : List ℕ) → o.same_text x x ≡ true
same_text-refl [] = refl
same_text-refl (c ∷ x) = let here = eq-eqb c c refl in rw here (same_text-refl x)

module _ (n : ℕ) (inner : Reader Rows) (later : Reader One)
    (inners : (h : ℕ) (ts us : List Symbol) (xs : List Stmt) → ReadsStmts h ts us xs → h ≤ n → o.sees sr.begins us ≡ false → o.sees (o.is_reserved r.Else) us ≡ false → inner ts ≡ Ok ((xs, h), us))
    (laters : (h : ℕ) (ts us : List Symbol) (x : Stmt) → ReadsStmt h (t.reserved r.If ∷ ts) us x → h ≤ n → o.sees (o.is_reserved r.Else) us ≡ false → later ts ≡ Ok ((x, h), us)) where
  assigned_again : (x : Target) (h i : ℕ) (us vs : List Symbol) (y : Expr) → ReadsExpr i us (t.sign s.Semicolon ∷ vs) y → i ≤ n → sr.assigned n inner later x h us ≡ Ok ((st.Assign x y, suc (max h i)), vs)
  unfolding sr.assigned o.want
  assigned_again x h i us vs y m le = let first = expr_again n i us (t.sign s.Semicolon ∷ vs) y m le (omega arith) in rw first refl

  assign_again : {h i : ℕ} {ts us vs : List Symbol} {x : Target} {y : Expr} → ReadsTarget h ts (t.sign s.Assign ∷ us) x → ReadsExpr i us (t.sign s.Semicolon ∷ vs) y → suc (max h i) ≤ suc n → sr.stmt n inner later ts ≡ Ok ((st.Assign x y, suc (max h i)), vs)
  unfolding sr.stmt sr.worded sr.part sr.register sr.csr sr.csr_word sr.field sr.field_or_write sr.field_set o.want o.name
  assign_again {i = i} {us = us} {vs = vs} {y = y} (g.word {x}) m le = let low = (expr_bounded m).low in
      rw (deeper_take {B = One} n (sr.assigned n inner later (target.Word x) 1) (omega arith)) (assigned_again (target.Word x) 1 i us vs y m (omega arith))
  assign_again {i = i} {us = us} {vs = vs} {y = y} (g.part {x = x} {h = h} {ts = ts} {j = j} q) m le = let low = (expr_bounded m).low in
      let first = target_inside (n - 1) q (omega arith) in
      rw (deeper_take {B = One} n (sr.part n inner later x) (omega arith), first) (assigned_again (part_of_word x j) (suc h) i us vs y m (omega arith))
  assign_again {i = i} {us = us} {vs = vs} {y = y} (g.register {h = h} {ts = ts} {x = x} q) m le = let low = (expr_bounded m).low in let low' = (expr_bounded q).low in
      let first = expr_again (n - 1) h ts (t.sign s.CloseBracket ∷ t.sign s.Assign ∷ us) x q (omega arith) (omega arith) in
      rw (deeper_take {B = One} (n - 1) (sr.register n inner later) (omega arith), first) (assigned_again (target.Register x) (suc h) i us vs y m (omega arith))
  assign_again {i = i} {us = us} {vs = vs} {y = y} (g.field {x = x} {y = z}) m le = let low = (expr_bounded m).low in
      rw (deeper_take {B = One} n (sr.csr n inner later) (omega arith)) (by_word (o.same_text z sw_write))
    where
      by_word : (b : Bool) → cond b (o.choose (sr.write_by n inner later x) (sr.field_set n inner later x z)) (sr.field_set n inner later x z) (t.sign s.Assign ∷ us) ≡ Ok ((st.Assign (target.Field x z) y, suc (max 1 i)), vs)
      by_word true = assigned_again (target.Field x z) 1 i us vs y m (omega arith)
      by_word false = assigned_again (target.Field x z) 1 i us vs y m (omega arith)

  shape_pass : {h : ℕ} {ts us : List Symbol} {x : Shape} → ReadsShape h ts us x → sr.stmt n inner later ts ≡ o.only n (sr.declared n inner later) ts
  unfolding sr.stmt
  shape_pass (g.bits q) = refl
  shape_pass (g.signed_bits q) = refl
  shape_pass (g.short {c} {x} {us} is) = ap (λ (m : Move One). o.moved m (o.only n (sr.declared n inner later)) (t.reserved c ∷ us)) (passes c x is)
    where
      passes : (c : Reserved) (x : Shape) → short_shape c ≡ Some x → sr.reserved_by n inner later c ≡ pass
      passes r.X x is = absurd cc
      passes r.Csr x is = absurd cc
      passes r.Return x is = absurd cc
      passes r.If x is = absurd cc
      passes r.For x is = absurd cc
      passes r.Jump x is = absurd cc
      passes r.Raise x is = absurd cc
      passes r.WriteMemory x is = absurd cc
      passes c x is = refl

  declare_again : {h i : ℕ} {ts us vs : List Symbol} {x : Shape} {y : List ℕ} {z : Expr} → ReadsShape h ts (t.word y ∷ t.sign s.Assign ∷ us) x → ReadsExpr i us (t.sign s.Semicolon ∷ vs) z → suc (max h i) ≤ suc n → sr.stmt n inner later ts ≡ Ok ((st.Declare x y z, suc (max h i)), vs)
  unfolding sr.declared o.want o.name
  declare_again {h} {i} {ts} {us} {vs} {x} {y} {z} q m le = let low = (expr_bounded m).low in
      let first = shape_again n q (omega arith) in let second = expr_again n i us (t.sign s.Semicolon ∷ vs) z m (omega arith) (omega arith) in
      shape_pass q ∙ rw (only_is {B = One} n (sr.declared n inner later) (omega arith), first, second) refl

  braced_again : {h : ℕ} {ts us : List Symbol} {xs : List Stmt} → ReadsStmts h ts (t.sign s.CloseBrace ∷ us) xs → h ≤ n → sr.braced n inner later ts ≡ Ok ((xs, h), us)
  unfolding sr.braced o.want
  braced_again {h} {ts} {us} {xs} q le = let first = inners h ts (t.sign s.CloseBrace ∷ us) xs q le refl refl in rw first refl

  otherwise_again : {h : ℕ} {ts us : List Symbol} {x : Option (List Stmt)} → ReadsElse h ts us x → h ≤ n → o.sees (o.is_reserved r.Else) us ≡ false → sr.otherwise n inner later ts ≡ Ok ((x, h), us)
  unfolding sr.otherwise
  otherwise_again g.no_else le none = rw none refl
  otherwise_again (g.otherwise q) le none = let first = braced_again q le in rw first refl
  otherwise_again (g.else_if {h} {ts} {us} {x} q) le none = let first = laters h ts us x q le none in
      rw (deeper_take {B = Rest} (n - 1) (λ us. o.and_then (later us) (λ y. o.pure (Some (y.0 ∷ []), y.1))) (if_low q le), first) refl
    where
      if_low : {h : ℕ} {ts us : List Symbol} {x : Stmt} → ReadsStmt h (t.reserved r.If ∷ ts) us x → h ≤ n → 1 ≤ n - 1
      if_low (g.when q m l) le = let low = (expr_bounded q).low in omega arith
      if_low (g.assign q m) le = elim q [ ]
      if_low (g.declare q m) le = shape_not q
        where
          shape_not : {h : ℕ} {ts us : List Symbol} {x : Shape} → ReadsShape h (t.reserved r.If ∷ ts) us x → 1 ≤ n - 1
          shape_not (g.short is) = absurd cc

  when_again : {h i j : ℕ} {ts us vs ws : List Symbol} {x : Expr} {ys : List Stmt} {zs : Option (List Stmt)} → ReadsExpr h ts (t.sign s.CloseParen ∷ t.sign s.OpenBrace ∷ us) x → ReadsStmts i us (t.sign s.CloseBrace ∷ vs) ys → ReadsElse j vs ws zs
      → suc (max h (max i j)) ≤ suc n → o.sees (o.is_reserved r.Else) ws ≡ false → sr.when n inner later (t.sign s.OpenParen ∷ ts) ≡ Ok ((st.If x ys zs, suc (max h (max i j))), ws)
  unfolding sr.when o.want
  when_again {h} {i} {j} {ts} {us} {vs} {ws} {x} {ys} {zs} q m l le none =
      let first = expr_again n h ts (t.sign s.CloseParen ∷ t.sign s.OpenBrace ∷ us) x q (omega arith) (omega arith) in
      let second = braced_again m (omega arith) in let third = otherwise_again l (omega arith) none in
      rw (first, second, third) refl

  count_again : {h i j : ℕ} {ts us vs ws : List Symbol} {x : List ℕ} {a b : Width} {ys : List Stmt} → ReadsWidth h ts (t.sign s.Semicolon ∷ t.word x ∷ t.sign s.Less ∷ us) a
      → ReadsWidth i us (t.sign s.Semicolon ∷ t.word x ∷ t.sign s.Increment ∷ t.sign s.CloseParen ∷ t.sign s.OpenBrace ∷ vs) b → ReadsStmts j vs (t.sign s.CloseBrace ∷ ws) ys → suc (max h (max i j)) ≤ suc n
      → sr.count n inner later (t.sign s.OpenParen ∷ t.reserved r.U32 ∷ t.word x ∷ t.sign s.Assign ∷ ts) ≡ Ok ((st.For x a b ys, suc (max h (max i j))), ws)
  unfolding sr.count o.want o.name
  count_again {x = x} q m l le = let first = whole_width n q (omega arith) refl refl in let second = whole_width n m (omega arith) refl refl in let third = braced_again l (omega arith) in let same = same_text-refl x in
      rw (first, same, second, same, third) refl

  called_again : (x : List ℕ) {h : ℕ} {ts us : List Symbol} {ys : List Expr} → ReadsArgs h ts (t.sign s.CloseParen ∷ t.sign s.Semicolon ∷ us) ys → suc h ≤ suc n → sr.called n inner later x ts ≡ Ok ((st.Call x ys, suc h), us)
  unfolding sr.called o.want
  called_again x {h} {ts} {us} {ys} q le =
      let low = (args_bounded q).low in let other = args_open q in let first = args_read n q (omega arith) (omega arith) refl in
      rw (other, only_is {B = One} n _ (omega arith), first) refl

  called_empty : (x : List ℕ) (us : List Symbol) → sr.called n inner later x (t.sign s.CloseParen ∷ t.sign s.Semicolon ∷ us) ≡ Ok ((st.Call x [], 1), us)
  unfolding sr.called o.want
  called_empty x us = refl

  -- ---- CSRs

  abbrev write_text : List Symbol → List Symbol
  write_text us = t.sign s.Dot ∷ t.word sw_write ∷ t.sign s.OpenParen ∷ us

  written_again : (x : Expr) (h i : ℕ) (us vs : List Symbol) (y : Expr) → ReadsExpr i us (t.sign s.CloseParen ∷ t.sign s.Semicolon ∷ vs) y → i ≤ n → sr.written n inner later (x, h) us ≡ Ok ((st.SoftWrite x y, suc (max h i)), vs)
  unfolding sr.written o.want
  written_again x h i us vs y m le = let first = expr_again n i us (t.sign s.CloseParen ∷ t.sign s.Semicolon ∷ vs) y m le (omega arith) in rw first refl

  address_again : (q : Part) (ts us : List Symbol) (x : Found) → er.expr_part n q ts ≡ Ok (x, t.sign s.CloseBracket ∷ write_text us) → sr.address n inner later q ts ≡ sr.written n inner later x us
  unfolding sr.address sr.soft_write o.want
  address_again q ts us x first = rw first refl

  write_alone : (w : List ℕ) (us : List Symbol) → sr.csr_word n inner later w (t.sign s.CloseBracket ∷ write_text us) ≡ sr.written n inner later (e.Word w, 1) us
  unfolding sr.csr_word sr.field sr.field_or_write o.want o.name
  write_alone w us = refl

  csr_word_by : (w : List ℕ) (ts us : List Symbol) (x : Found) → er.expr_part n (er.behind w) ts ≡ Ok (x, t.sign s.CloseBracket ∷ write_text us)
      → ((vs : List Symbol) → ts ≡ t.sign s.CloseBracket ∷ vs → sr.csr_word n inner later w ts ≡ sr.written n inner later x us) → sr.csr_word n inner later w ts ≡ sr.written n inner later x us
  unfolding sr.csr_word
  csr_word_by w [] us x first alone = address_again (er.behind w) [] us x first
  csr_word_by w (t.sign s.CloseBracket ∷ ts) us x first alone = alone ts refl
  csr_word_by w (c ∷ ts) us x first alone = address_again (er.behind w) (c ∷ ts) us x first

  csr_word_again : {h : ℕ} {w : List ℕ} {ts us : List Symbol} {x : Expr} → ReadsExpr h (t.word w ∷ ts) (t.sign s.CloseBracket ∷ write_text us) x → h ≤ n → 1 ≤ n → sr.csr_word n inner later w ts ≡ sr.written n inner later (x, h) us
  csr_word_again {h} {w} {ts} {us} {x} q le low = csr_word_by w ts us (x, h) ((expr_part_again n low).behinds q le (omega arith)) alone
    where
      alone : (vs : List Symbol) → ts ≡ t.sign s.CloseBracket ∷ vs → sr.csr_word n inner later w ts ≡ sr.written n inner later (x, h) us
      alone vs is =
          let one = expr_again n h (t.word w ∷ ts) (t.sign s.CloseBracket ∷ write_text us) x q le (omega arith) in
          let two = expr_again n 1 (t.word w ∷ (t.sign s.CloseBracket ∷ vs)) (t.sign s.CloseBracket ∷ vs) (e.Word w) (ge.level (word_at loosest w (t.sign s.CloseBracket ∷ vs))) low (omega arith) in
          let parts = ok_parts (x, h) (e.Word w, 1) (t.sign s.CloseBracket ∷ write_text us) (t.sign s.CloseBracket ∷ vs) (sym one ∙ ap (λ (v : List Symbol). er.expr n (t.word w ∷ v)) is ∙ two) in
          let tails = parts.1 in let pair = parts.0 in
          let rest : vs ≡ write_text us = cc in
          ap (sr.csr_word n inner later w) (is ∙ ap (λ (v : List Symbol). t.sign s.CloseBracket ∷ v) rest) ∙ write_alone w us ∙ ap (λ (y : Found). sr.written n inner later y us) (sym pair)

  csr_again : {h : ℕ} {ts us : List Symbol} {x : Expr} → ReadsExpr h ts (t.sign s.CloseBracket ∷ write_text us) x → h ≤ n → sr.csr n inner later (t.sign s.OpenBracket ∷ ts) ≡ sr.written n inner later (x, h) us
  unfolding sr.csr o.want
  csr_again {h} {ts} {us} {x} q le = by_first ts q
    where
      low : 1 ≤ n
      low = let k = (expr_bounded q).low in omega arith

      first : (ts : List Symbol) → ReadsExpr h ts (t.sign s.CloseBracket ∷ write_text us) x → sr.address n inner later er.any ts ≡ sr.written n inner later (x, h) us
      first ts q = address_again er.any ts us (x, h) (expr_again n h ts (t.sign s.CloseBracket ∷ write_text us) x q le (omega arith))

      by_first : (ts : List Symbol) → ReadsExpr h ts (t.sign s.CloseBracket ∷ write_text us) x → o.choose (sr.csr_by n inner later) (sr.address n inner later er.any) ts ≡ sr.written n inner later (x, h) us
      by_first (t.word w ∷ ts) q = csr_word_again q le low
      by_first [] q = first [] q
      by_first (c ∷ ts) q = first (c ∷ ts) q

  -- ---- any statement

  pub stmt_again : {h : ℕ} {ts us : List Symbol} {x : Stmt} → ReadsStmt h ts us x → h ≤ suc n → o.sees (o.is_reserved r.Else) us ≡ false → sr.stmt n inner later ts ≡ Ok ((x, h), us)
  unfolding sr.stmt sr.worded sr.blocked sr.give sr.jump sr.trap sr.memory er.access o.want
  stmt_again (g.declare q m) le none = declare_again q m le
  stmt_again (g.assign q m) le none = assign_again q m le
  stmt_again (g.block q) le none = let first = braced_again q (omega arith) in rw first refl
  stmt_again (g.give {h} {ts} {us} {x} q) le none = let low = (expr_bounded q).low in let first = expr_again n h ts (t.sign s.Semicolon ∷ us) x q (omega arith) (omega arith) in rw (deeper_take {B = One} n (sr.give n inner later) (omega arith), first) refl
  stmt_again (g.when q m l) le none = let low = (expr_bounded q).low in rw (deeper_take {B = One} n (sr.when n inner later) (omega arith)) (when_again q m l le none)
  stmt_again (g.count q m l) le none = count_again q m l le
  stmt_again (g.jump {h} {ts} {us} {x} q) le none = let low = (expr_bounded q).low in let first = expr_again n h ts (t.sign s.CloseParen ∷ t.sign s.Semicolon ∷ us) x q (omega arith) (omega arith) in rw (deeper_take {B = One} n (sr.jump n inner later) (omega arith), first) refl
  stmt_again (g.trap {h} {i} {ts} {us} {vs} {x} {y} q m) le none = let low = (expr_bounded q).low in
      let first = expr_again n h ts (t.sign s.Comma ∷ t.reserved r.Mode ∷ t.sign s.OpenParen ∷ t.sign s.CloseParen ∷ t.sign s.Comma ∷ us) x q (omega arith) (omega arith) in
      let second = expr_again n i us (t.sign s.CloseParen ∷ t.sign s.Semicolon ∷ vs) y m (omega arith) (omega arith) in
      rw (deeper_take {B = One} n (sr.trap n inner later) (omega arith), first, second) refl
  stmt_again (g.write_memory {k} {h} {i} {ts} {us} {vs} {x} {y} is q m) le none = let low = (expr_bounded q).low in
      let first = expr_again n h ts (t.sign s.Comma ∷ us) x q (omega arith) (omega arith) in let second = expr_again n i us (t.sign s.CloseParen ∷ t.sign s.Semicolon ∷ vs) y m (omega arith) (omega arith) in
      rw (deeper_take {B = One} n (sr.memory n inner later) (omega arith), is, first, second) refl
  stmt_again (g.soft_write {h} {i} {ts} {us} {vs} {x} {y} q m) le none = let low = (expr_bounded q).low in
      rw (deeper_take {B = One} n (sr.csr n inner later) (omega arith)) (csr_again q (omega arith) ∙ written_again x h i us vs y m (omega arith))
  stmt_again (g.call_none {x} {us}) le none = called_empty x us
  stmt_again (g.call {x} q) le none = called_again x q le

  -- what follows `if`
  pub if_again : {h : ℕ} {ts us : List Symbol} {x : Stmt} → ReadsStmt h (t.reserved r.If ∷ ts) us x → h ≤ suc n → o.sees (o.is_reserved r.Else) us ≡ false → sr.when n inner later ts ≡ Ok ((x, h), us)
  if_again (g.when q m l) le none = when_again q m l le none
  if_again (g.assign q m) le none = elim q [ ]
  if_again (g.declare (g.short is) m) le none = absurd cc
