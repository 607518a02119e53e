-- The readers of types and statements keep the law.
use Rattle.std.proofs.Common.{◌≡◌, ℕ, zero, suc, ◌-◌, ◌≤◌, false, List, [], ◌∷◌, ◌++◌, Option, Some, None, refl, sym, subst, arith}
use Rattle.idl_token.specs.declared.kinds.Reserved.{Reserved}
use Rattle.idl_token.specs.declared.kinds.Reserved.TheVariants as r
use Rattle.idl_token.specs.declared.kinds.Sign.TheVariants as s
use Rattle.idl_tree.specs.declared.widths.Shape.{Shape}
use Rattle.idl_tree.specs.declared.widths.Shape.TheVariants as sh
use Rattle.idl_tree.specs.declared.expressions.Expr.TheVariants as e
use Rattle.idl_tree.specs.declared.statements.Target.{Target}
use Rattle.idl_tree.specs.declared.statements.Target.TheVariants as target
use Rattle.idl_tree.specs.declared.statements.Stmt.TheVariants as st
use Rattle.idl_token.specs.Symbol.{Symbol}
use Rattle.idl_token.specs.Symbol as t
use Rattle.idl_grammar.specs.Tables.{loosest, sw_write}
use Rattle.idl_grammar.specs.ExprGrammar as ge
use Rattle.idl_grammar.specs.ExprGrammar.{ReadsLevel}
use Rattle.idl_grammar.specs.StmtGrammar as g
use Rattle.idl_grammar.specs.StmtGrammar.{short_shape, ReadsShape, ReadsTarget, ReadsStmt, ReadsElse, ReadsStmts, part_of_word}
use Rattle.idl_grammar.specs.Outcome as o
use Rattle.idl_grammar.specs.Outcome.{Reader, Move, take, stop, pass, ◌>>=◌}
use Rattle.idl_grammar.specs.ExprReader as er
use Rattle.idl_grammar.specs.ExprReader.{Found, Part}
use Rattle.idl_grammar.specs.StmtReader as sr
use Rattle.idl_grammar.specs.StmtReader.{Typed, Rows, One, Rest}
use Rattle.idl_grammar.proofs.Law.{Reads, behind, Law, LawMove, law_pure, law_bind, law_choose, law_among, law_deeper, law_only, law_if, law_if_next, law_if_reserved, law_expect, law_reserved, law_word, law_name, same_text-true}
use Rattle.idl_grammar.proofs.WidthLaw.{width_law}
use Rattle.idl_grammar.proofs.ExprLaw.{ExprAt, InsideAt, args_law, inside_law, inside_none, law_access}
use Rattle.idl_grammar.proofs.LevelLaw.{expr_part_law, expr_law}

-- ---- types

pub record ShapeAt (n : ℕ) (ts us : List Symbol) (x : Typed) : Type 0 where
  pub reads : ReadsShape x.1 ts us x.0
  pub within : x.1 ≤ n

bits_law : (n : ℕ) → Law (behind (t.reserved r.Bits ∷ []) (ShapeAt n)) (sr.bits n false)
unfolding sr.bits
bits_law n = law_expect _ _ (law_bind _ _ (width_law n) (λ x a q. law_expect _ _ (law_pure _ _ (λ us. let k = q (t.sign s.Greater ∷ us) in record { reads = g.bits k.reads; within = k.within }))))

signed_bits_law : (n : ℕ) → Law (behind (t.reserved r.Signed ∷ []) (ShapeAt n)) (sr.signed_bits n)
unfolding sr.signed_bits sr.bits
signed_bits_law n = law_reserved _ _ (law_expect _ _ (law_bind _ _ (width_law n) (λ x a q. law_expect _ _ (law_pure _ _ (λ us. let k = q (t.sign s.Greater ∷ us) in record { reads = g.signed_bits k.reads; within = k.within })))))

short_move : (n : ℕ) (c : Reserved) (found : Option Shape) → short_shape c ≡ found → LawMove (behind (t.reserved c ∷ []) (ShapeAt n)) (sr.short_by found)
short_move n c None is = tt
short_move n c (Some x) is = law_pure _ _ (λ us. record { reads = g.short is; within = omega arith })

reserved_shape : (n : ℕ) (c : Reserved) → LawMove (behind (t.reserved c ∷ []) (ShapeAt n)) (sr.shape_by n (t.reserved c))
reserved_shape n r.Bits = bits_law n
reserved_shape n r.Signed = signed_bits_law n
reserved_shape n c = short_move n c (short_shape c) refl

shape_move : (n : ℕ) (c : Symbol) → LawMove (behind (c ∷ []) (ShapeAt n)) (sr.shape_by n c)
shape_move n (t.reserved c) = reserved_shape n c
shape_move n c = tt

pub shape_law : (n : ℕ) → Law (ShapeAt n) (sr.shape n)
unfolding sr.shape
shape_law n = law_among (sr.shape_by n) (record { more = t.reserved r.Boolean ∷ []; value = (sh.Boolean, 0); reads = λ us. record { reads = g.short refl; within = omega arith } }) (shape_move n)

-- ---- statements

pub record StmtAt (n : ℕ) (ts us : List Symbol) (x : One) : Type 0 where
  pub reads : ReadsStmt x.1 ts us x.0
  pub within : x.1 ≤ n

pub record StmtsAt (n : ℕ) (ts us : List Symbol) (x : Rows) : Type 0 where
  pub reads : ReadsStmts x.1 ts us x.0
  pub within : x.1 ≤ n

pub record ElseAt (n : ℕ) (ts us : List Symbol) (x : Rest) : Type 0 where
  pub reads : ReadsElse x.1 ts us x.0
  pub within : x.1 ≤ n

pub record TargetAt (n : ℕ) (ts us : List Symbol) (x : Target) (h : ℕ) : Type 0 where
  pub reads : ReadsTarget h ts us x
  pub within : h ≤ n

word_level : (k : ℕ) (x : List ℕ) (us : List Symbol) → ReadsLevel 1 k (t.word x ∷ us) us (e.Word x)
word_level zero x us = ge.post ge.word
word_level (suc k) x us = ge.looser (word_level k x us)

no_expr : (ts : List Symbol) → er.expr 0 ts ≡ o.refuse ts
unfolding er.expr_part
no_expr ts = refl

pub target_inside : (n : ℕ) → 1 ≤ n → Law (InsideAt (n - 1)) (er.inside (n - 1) (er.expr (n - 1)))
target_inside n le = go (n - 1)
  where
    go : (m : ℕ) → Law (InsideAt m) (er.inside m (er.expr m))
    go zero = inside_none 0 (er.expr 0) no_expr
    go (suc m) = inside_law (suc m) (er.expr (suc m)) (expr_law (suc m) (omega arith))

-- within a block alone
pub block_law : (n : ℕ) (inner : Reader Rows) (later : Reader One) → Law (StmtsAt n) inner → Law (λ ts us x. StmtsAt n ts (t.sign s.CloseBrace ∷ us) x) (sr.braced n inner later)
unfolding sr.braced
block_law n inner later law = law_bind inner _ law (λ xs a q. law_expect _ _ (law_pure _ xs (λ us. q (t.sign s.CloseBrace ∷ us))))

module _ (n : ℕ) (inner : Reader Rows) (later : Reader One) (law : Law (StmtsAt n) inner) (later_law : 1 ≤ n - 1 → Law (behind (t.reserved r.If ∷ []) (StmtAt n)) later) where
  abbrev Stmt' : Reads One
  Stmt' = StmtAt (suc n)

  -- after a target and its sign; lead is what stands in front
  assigned_law : (lead : List Symbol → List Symbol) (x : Target) (h : ℕ) → 1 ≤ n → ((us : List Symbol) → TargetAt n (lead (t.sign s.Assign ∷ us)) (t.sign s.Assign ∷ us) x h) → Law (λ ts us y. Stmt' (lead (t.sign s.Assign ∷ ts)) us y) (sr.assigned n inner later x h)
  unfolding sr.assigned
  assigned_law lead x h le q = law_bind _ _ (expr_law n le) (λ y a v. law_expect _ _ (law_pure _ _ (λ us. let k = q (a ++ (t.sign s.Semicolon ∷ us)) in let l = v (t.sign s.Semicolon ∷ us) in
      record { reads = g.assign k.reads l.reads; within = let i = k.within in let j = l.within in omega arith })))

  called_law : (x : List ℕ) → Law (behind (t.word x ∷ t.sign s.OpenParen ∷ []) Stmt') (sr.called n inner later x)
  unfolding sr.called
  called_law x = law_if_next s.CloseParen _ _ (law_expect _ _ (law_pure _ _ (λ us. record { reads = g.call_none; within = omega arith })))
      (law_only n _ (record { more = t.sign s.CloseParen ∷ t.sign s.Semicolon ∷ []; value = (st.Call x [], 1); reads = λ us. record { reads = g.call_none; within = omega arith } })
      (λ le. law_bind _ _ (args_law n (er.expr n) (expr_law n le)) (λ ys a q. law_expect _ _ (law_expect _ _ (law_pure _ _ (λ us. let k = q (t.sign s.CloseParen ∷ t.sign s.Semicolon ∷ us) in
      record { reads = g.call k.reads; within = let i = k.within in omega arith }))))))

  part_law : (x : List ℕ) → 1 ≤ n → Law (behind (t.sign s.OpenBracket ∷ []) (behind (t.word x ∷ []) Stmt')) (sr.part n inner later x)
  unfolding sr.part
  part_law x le = law_bind _ _ (target_inside n le) (λ j a q. law_expect _ _ (assigned_law (λ ts. t.word x ∷ t.sign s.OpenBracket ∷ (a ++ ts)) (part_of_word x j.0) (suc j.1) le
      (λ us. let k = q (t.sign s.Assign ∷ us) in record { reads = g.part k.reads; within = let i = k.within in omega arith })))

  word_move : (x : List ℕ) (c : Symbol) → LawMove (behind (c ∷ []) (behind (t.word x ∷ []) Stmt')) (sr.word_by n inner later x c)
  word_move x (t.sign s.OpenParen) = called_law x
  word_move x (t.sign s.Assign) = law_deeper n _ (λ le. assigned_law (λ ts. t.word x ∷ ts) (target.Word x) 1 le (λ us. record { reads = g.word; within = le }))
  word_move x (t.sign s.OpenBracket) = law_deeper n _ (part_law x)
  word_move x c = tt

  worded_law : (x : List ℕ) → Law (behind (t.word x ∷ []) Stmt') (sr.worded n inner later x)
  unfolding sr.worded
  worded_law x = law_among (sr.word_by n inner later x) (record { more = t.sign s.OpenParen ∷ t.sign s.CloseParen ∷ t.sign s.Semicolon ∷ []; value = (st.Call x [], 1); reads = λ us. record { reads = g.call_none; within = omega arith } }) (word_move x)

  register_law : 1 ≤ n - 1 → Law (behind (t.reserved r.X ∷ []) Stmt') (sr.register n inner later)
  unfolding sr.register
  register_law le = law_expect _ _ (law_bind _ _ (expr_law (n - 1) le) (λ x a q. law_expect _ _ (law_expect _ _ (assigned_law (λ ts. t.reserved r.X ∷ t.sign s.OpenBracket ∷ (a ++ (t.sign s.CloseBracket ∷ ts))) (target.Register x.0) (suc x.1) (omega arith)
      (λ us. let k = q (t.sign s.CloseBracket ∷ t.sign s.Assign ∷ us) in record { reads = g.register k.reads; within = let i = k.within in omega arith })))))

  -- ---- CSRs

  abbrev write_text : List Symbol → List Symbol
  write_text ts = t.sign s.CloseBracket ∷ t.sign s.Dot ∷ t.word sw_write ∷ t.sign s.OpenParen ∷ ts

  written_law : (lead : List Symbol → List Symbol) (x : Found) → 1 ≤ n → ((us : List Symbol) → ExprAt n (lead (write_text us)) (write_text us) x) → Law (λ ts us y. Stmt' (t.reserved r.Csr ∷ t.sign s.OpenBracket ∷ lead (write_text ts)) us y) (sr.written n inner later x)
  unfolding sr.written
  written_law lead x le q = law_bind _ _ (expr_law n le) (λ y a v. law_expect _ _ (law_expect _ _ (law_pure _ _
      (λ us. let k = q (a ++ (t.sign s.CloseParen ∷ t.sign s.Semicolon ∷ us)) in let l = v (t.sign s.CloseParen ∷ t.sign s.Semicolon ∷ us) in record { reads = g.soft_write k.reads l.reads; within = let i = k.within in let j = l.within in omega arith }))))

  address_law : (q : Part) (front : List Symbol) → 1 ≤ n → Law (behind front (ExprAt n)) (er.expr_part n q) → Law (behind (t.reserved r.Csr ∷ t.sign s.OpenBracket ∷ front) Stmt') (sr.address n inner later q)
  unfolding sr.address sr.soft_write
  address_law q front le law = law_bind (er.expr_part n q) _ law (λ x a v. law_expect _ _ (law_expect _ _ (law_word _ _ (law_expect _ _ (written_law (λ ts. front ++ (a ++ ts)) x le (λ us. v (write_text us)))))))

  abbrev field_text : List ℕ → List ℕ → List Symbol → List Symbol
  field_text x y ts = t.reserved r.Csr ∷ t.sign s.OpenBracket ∷ t.word x ∷ t.sign s.CloseBracket ∷ t.sign s.Dot ∷ t.word y ∷ ts

  field_set_law : (x y : List ℕ) → 1 ≤ n → Law (λ ts us z. Stmt' (field_text x y ts) us z) (sr.field_set n inner later x y)
  unfolding sr.field_set
  field_set_law x y le = law_expect _ _ (assigned_law (field_text x y) (target.Field x y) 1 le (λ us. record { reads = g.field; within = le }))

  write_move : (x : List ℕ) → 1 ≤ n → (c : Symbol) → LawMove (behind (c ∷ []) (λ ts us z. Stmt' (field_text x sw_write ts) us z)) (sr.write_by n inner later x c)
  write_move x le (t.sign s.OpenParen) = written_law (λ ts. t.word x ∷ ts) (e.Word x, 1) le (λ us. record { reads = ge.level (word_level loosest x _); within = le })
  write_move x le c = tt

  field_or_write_law : (x y : List ℕ) → 1 ≤ n → Law (λ ts us z. Stmt' (field_text x y ts) us z) (sr.field_or_write n inner later x y)
  unfolding sr.field_or_write
  field_or_write_law x y le = law_if (o.same_text y sw_write) _ _
      (λ is. subst (λ (v : List ℕ). Law (λ ts us z. Stmt' (field_text x v ts) us z) (o.choose (sr.write_by n inner later x) (sr.field_set n inner later x v))) (sym (same_text-true sw_write y is))
      (law_choose (sr.write_by n inner later x) _ (write_move x le) (field_set_law x sw_write le)))
      (λ other. field_set_law x y le)

  field_law : (x : List ℕ) → 1 ≤ n → Law (behind (t.sign s.CloseBracket ∷ []) (behind (t.reserved r.Csr ∷ t.sign s.OpenBracket ∷ t.word x ∷ []) Stmt')) (sr.field n inner later x)
  unfolding sr.field
  field_law x le = law_expect _ _ (law_name _ (λ y. field_or_write_law x y le))

  csr_word_law : (x : List ℕ) → 1 ≤ n → Law (behind (t.reserved r.Csr ∷ t.sign s.OpenBracket ∷ t.word x ∷ []) Stmt') (sr.csr_word n inner later x)
  unfolding sr.csr_word
  csr_word_law x le = law_if_next s.CloseBracket _ _ (field_law x le) (address_law (er.behind x) (t.word x ∷ []) le (expr_part_law n (er.behind x) le))

  csr_move : 1 ≤ n → (c : Symbol) → LawMove (behind (c ∷ []) (behind (t.reserved r.Csr ∷ t.sign s.OpenBracket ∷ []) Stmt')) (sr.csr_by n inner later c)
  csr_move le (t.word x) = csr_word_law x le
  csr_move le c = tt

  csr_law : 1 ≤ n → Law (behind (t.reserved r.Csr ∷ []) Stmt') (sr.csr n inner later)
  unfolding sr.csr
  csr_law le = law_expect _ _ (law_choose (sr.csr_by n inner later) _ (csr_move le) (address_law er.any [] le (expr_law n le)))

  -- ---- blocks

  braced_law : Law (λ ts us x. StmtsAt n ts (t.sign s.CloseBrace ∷ us) x) (sr.braced n inner later)
  braced_law = block_law n inner later law

  blocked_law : Law (behind (t.sign s.OpenBrace ∷ []) Stmt') (sr.blocked n inner later)
  unfolding sr.blocked
  blocked_law = law_bind _ _ braced_law (λ xs a q. law_pure _ _ (λ us. let k = q us in record { reads = g.block k.reads; within = let i = k.within in omega arith }))

  else_move : (c : Symbol) → LawMove (behind (c ∷ []) (behind (t.reserved r.Else ∷ []) (ElseAt n))) (sr.else_by n inner later c)
  else_move (t.sign s.OpenBrace) = law_bind _ _ braced_law (λ xs a q. law_pure _ _ (λ us. let k = q us in record { reads = g.otherwise k.reads; within = k.within }))
  else_move (t.reserved r.If) = law_deeper (n - 1) _ (λ le. law_bind later _ (later_law le) (λ x a q. law_pure _ _ (λ us. let k = q us in record { reads = g.else_if k.reads; within = k.within })))
  else_move c = tt

  otherwise_law : Law (ElseAt n) (sr.otherwise n inner later)
  unfolding sr.otherwise
  otherwise_law = law_if_reserved r.Else _ _ (law_among (sr.else_by n inner later) (record { more = t.sign s.OpenBrace ∷ t.sign s.CloseBrace ∷ []; value = (Some [], 0); reads = λ us. record { reads = g.otherwise g.none; within = omega arith } }) else_move)
      (law_pure _ _ (λ us. record { reads = g.no_else; within = omega arith }))

  pub when_law : 1 ≤ n → Law (behind (t.reserved r.If ∷ []) Stmt') (sr.when n inner later)
  unfolding sr.when
  when_law le = law_expect _ _ (law_bind _ _ (expr_law n le) (λ x a q. law_expect _ _ (law_expect _ _ (law_bind _ _ braced_law (λ ys b v. law_bind _ _ otherwise_law (λ zs d u. law_pure _ _
      (λ us. let k = q (t.sign s.CloseParen ∷ t.sign s.OpenBrace ∷ (b ++ (d ++ us))) in let l = v (d ++ us) in let m = u us in record { reads = g.when k.reads l.reads m.reads; within = let i = k.within in let j = l.within in let h = m.within in omega arith })))))))

  count_law : Law (behind (t.reserved r.For ∷ []) Stmt') (sr.count n inner later)
  unfolding sr.count
  count_law = law_expect _ _ (law_reserved _ _ (law_name _ (λ x. law_expect _ _ (law_bind _ _ (width_law n) (λ y a q. law_expect _ _ (law_word x _ (law_expect _ _ (law_bind _ _ (width_law n) (λ z b v. law_expect _ _ (law_word x _ (law_expect _ _ (law_expect _ _ (law_expect _ _
      (law_bind _ _ braced_law (λ ys d u. law_pure _ _ (λ us.
      let k = q (t.sign s.Semicolon ∷ t.word x ∷ t.sign s.Less ∷ (b ++ (t.sign s.Semicolon ∷ t.word x ∷ t.sign s.Increment ∷ t.sign s.CloseParen ∷ t.sign s.OpenBrace ∷ (d ++ us)))) in
      let l = v (t.sign s.Semicolon ∷ t.word x ∷ t.sign s.Increment ∷ t.sign s.CloseParen ∷ t.sign s.OpenBrace ∷ (d ++ us)) in let m = u us in
      record { reads = g.count k.reads l.reads m.reads; within = let i = k.within in let j = l.within in let h = m.within in omega arith }))))))))))))))))

  -- ---- other statements

  give_law : 1 ≤ n → Law (behind (t.reserved r.Return ∷ []) Stmt') (sr.give n inner later)
  unfolding sr.give
  give_law le = law_bind _ _ (expr_law n le) (λ x a q. law_expect _ _ (law_pure _ _ (λ us. let k = q (t.sign s.Semicolon ∷ us) in record { reads = g.give k.reads; within = let i = k.within in omega arith })))

  jump_law : 1 ≤ n → Law (behind (t.reserved r.Jump ∷ []) Stmt') (sr.jump n inner later)
  unfolding sr.jump
  jump_law le = law_expect _ _ (law_bind _ _ (expr_law n le) (λ x a q. law_expect _ _ (law_expect _ _ (law_pure _ _ (λ us. let k = q (t.sign s.CloseParen ∷ t.sign s.Semicolon ∷ us) in record { reads = g.jump k.reads; within = let i = k.within in omega arith })))))

  trap_law : 1 ≤ n → Law (behind (t.reserved r.Raise ∷ []) Stmt') (sr.trap n inner later)
  unfolding sr.trap
  trap_law le = law_expect _ _ (law_bind _ _ (expr_law n le) (λ x a q. law_expect _ _ (law_reserved _ _ (law_expect _ _ (law_expect _ _ (law_expect _ _ (law_bind _ _ (expr_law n le) (λ y b v. law_expect _ _ (law_expect _ _ (law_pure _ _ (λ us.
      let k = q (t.sign s.Comma ∷ t.reserved r.Mode ∷ t.sign s.OpenParen ∷ t.sign s.CloseParen ∷ t.sign s.Comma ∷ (b ++ (t.sign s.CloseParen ∷ t.sign s.Semicolon ∷ us))) in let l = v (t.sign s.CloseParen ∷ t.sign s.Semicolon ∷ us) in
      record { reads = g.trap k.reads l.reads; within = let i = k.within in let j = l.within in omega arith })))))))))))

  memory_law : 1 ≤ n → Law (behind (t.reserved r.WriteMemory ∷ []) Stmt') (sr.memory n inner later)
  unfolding sr.memory
  memory_law le = law_access _ (λ k is. law_expect _ _ (law_bind _ _ (expr_law n le) (λ x a q. law_expect _ _ (law_bind _ _ (expr_law n le) (λ y b v. law_expect _ _ (law_expect _ _ (law_pure _ _ (λ us.
      let l = q (t.sign s.Comma ∷ (b ++ (t.sign s.CloseParen ∷ t.sign s.Semicolon ∷ us))) in let m = v (t.sign s.CloseParen ∷ t.sign s.Semicolon ∷ us) in
      record { reads = g.write_memory is l.reads m.reads; within = let i = l.within in let j = m.within in omega arith }))))))))

  declared_law : 1 ≤ n → Law Stmt' (sr.declared n inner later)
  unfolding sr.declared
  declared_law le = law_bind _ _ (shape_law n) (λ x a q. law_name _ (λ y. law_expect _ _ (law_bind _ _ (expr_law n le) (λ z b v. law_expect _ _ (law_pure _ _ (λ us.
      let k = q (t.word y ∷ t.sign s.Assign ∷ (b ++ (t.sign s.Semicolon ∷ us))) in let l = v (t.sign s.Semicolon ∷ us) in record { reads = g.declare k.reads l.reads; within = let i = k.within in let j = l.within in omega arith }))))))

  reserved_move : (c : Reserved) → LawMove (behind (t.reserved c ∷ []) Stmt') (sr.reserved_by n inner later c)
  reserved_move r.X = law_deeper (n - 1) _ register_law
  reserved_move r.Csr = law_deeper n _ csr_law
  reserved_move r.Return = law_deeper n _ give_law
  reserved_move r.If = law_deeper n _ when_law
  reserved_move r.For = count_law
  reserved_move r.Jump = law_deeper n _ jump_law
  reserved_move r.Raise = law_deeper n _ trap_law
  reserved_move r.WriteMemory = law_deeper n _ memory_law
  reserved_move c = tt

  stmt_move : (c : Symbol) → LawMove (behind (c ∷ []) Stmt') (sr.stmt_by n inner later c)
  stmt_move (t.word x) = worded_law x
  stmt_move (t.sign s.OpenBrace) = blocked_law
  stmt_move (t.reserved c) = reserved_move c
  stmt_move c = tt

  pub stmt_law : Law Stmt' (sr.stmt n inner later)
  unfolding sr.stmt
  stmt_law = law_choose (sr.stmt_by n inner later) _ stmt_move (law_only n _ (record { more = t.sign s.OpenBrace ∷ t.sign s.CloseBrace ∷ []; value = (st.Block [], 1); reads = λ us. record { reads = g.block g.none; within = omega arith } }) declared_law)
