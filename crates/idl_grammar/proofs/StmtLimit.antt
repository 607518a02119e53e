-- With a higher limit a statement, a body and a function are read the same, or were refused at a token.
use Rattle.std.proofs.Common.{◌≡◌, ℕ, zero, suc, ◌+◌, ◌-◌, ◌<◌, ◌≤◌, Bool, true, false, cond, List, [], ◌∷◌, length, None, Ok, Err, refl, sym, ◌∙◌, arith}
use Rattle.idl_token.specs.declared.kinds.Reserved.{Reserved}
use Rattle.idl_token.specs.declared.kinds.Reserved.TheVariants as r
use Rattle.idl_token.specs.declared.kinds.Sign.TheVariants as s
use Rattle.idl_tree.specs.declared.expressions.Expr.TheVariants as e
use Rattle.idl_tree.specs.declared.statements.Target.{Target}
use Rattle.idl_tree.specs.declared.statements.Target.TheVariants as target
use Rattle.idl_tree.specs.declared.statements.Stmt.TheVariants as st
use Rattle.idl_token.specs.Symbol.{Symbol}
use Rattle.idl_token.specs.Symbol as t
use Rattle.idl_grammar.specs.Tables.{sw_write}
use Rattle.idl_grammar.specs.Outcome as o
use Rattle.idl_grammar.specs.Outcome.{Outcome, Reader, Move, take, stop, pass, ◌>>=◌}
use Rattle.idl_grammar.specs.WidthReader as wr
use Rattle.idl_grammar.specs.ExprReader as er
use Rattle.idl_grammar.specs.ExprReader.{Found, Part}
use Rattle.idl_grammar.specs.StmtReader as sr
use Rattle.idl_grammar.specs.StmtReader.{Typed, Rows, One, Rest}
use Rattle.idl_grammar.proofs.Law.{Law, name_law}
use Rattle.idl_grammar.proofs.Bounds.{args_bounded}
use Rattle.idl_grammar.proofs.WidthLaw.{width_law}
use Rattle.idl_grammar.proofs.WidthLimit.{width_grows}
use Rattle.idl_grammar.proofs.ExprLaw as at
use Rattle.idl_grammar.proofs.ExprLaw.{ExprAt, ArgsAt, InsideAt, args_law, expr_shortens}
use Rattle.idl_grammar.proofs.LevelLaw.{expr_law, expr_part_law}
use Rattle.idl_grammar.proofs.ExprLimit.{inside_grows, width_in, expr_part_grows, expr_in, behind_in}
use Rattle.idl_grammar.proofs.StmtLaw as law
use Rattle.idl_grammar.proofs.StmtLaw.{ShapeAt, shape_law, StmtAt, StmtsAt}
use Rattle.idl_grammar.proofs.StmtAgain.{no_expr}
use Rattle.idl_grammar.proofs.Limit.{Deeper, same, stops, weaken, deeper_bind, deeper_want, deeper_after, law_left, law_nothing, guard_grows, only_grows, if_grows, commas_grows}

-- ---- types

module _ (n n' m l : ℕ) where
  shape_by_grows : (c : Reserved) (ts : List Symbol) → ((us : List Symbol) → length us < length ts → Deeper m l (wr.width n us) (wr.width n' us)) → Deeper m l (o.moved (sr.shape_by n (t.reserved c)) o.refuse (t.reserved c ∷ ts)) (o.moved (sr.shape_by n' (t.reserved c)) o.refuse (t.reserved c ∷ ts))
  unfolding sr.bits sr.signed_bits
  shape_by_grows r.Bits ts wide = deeper_want _ _ _ ts (λ us a. deeper_bind _ _ (wide us a) (λ x vs z. same refl))
  shape_by_grows r.Signed ts wide = deeper_want _ _ _ ts (λ us a. deeper_want _ _ _ us (λ vs b. deeper_bind _ _ (wide vs (omega arith)) (λ x ws z. same refl)))
  shape_by_grows c ts wide = same refl

  pub shape_grows : (ts : List Symbol) → ((us : List Symbol) → length us < length ts → Deeper m l (wr.width n us) (wr.width n' us)) → Deeper m l (sr.shape n ts) (sr.shape n' ts)
  unfolding sr.shape
  shape_grows [] wide = same refl
  shape_grows (t.reserved c ∷ ts) wide = shape_by_grows c ts (λ us lt. wide us (omega arith))
  shape_grows (c ∷ ts) wide = same refl

-- ---- targets: two levels below a statement, behind two tokens

target_expr : (m m' n l : ℕ) (ts : List Symbol) → m ≤ m' → n ≤ m + 2 → length ts + 2 ≤ l → Deeper n l (er.expr m ts) (er.expr m' ts)
target_expr zero zero n l ts le high b = same refl
target_expr zero (suc m') n l [] le high b = same (no_expr [] ∙ sym (law_nothing (ExprAt (suc m')) (er.expr (suc m')) (expr_shortens (suc m')) (expr_law (suc m') (omega arith))))
target_expr zero (suc m') n l (c ∷ ts) le high b = stops c ts (no_expr (c ∷ ts)) (omega arith)
target_expr (suc m) m' n l ts le high b = weaken (suc m) (length ts) n l _ _ (omega arith) (expr_part_grows (suc m) m' (omega arith) le er.any (length ts) ts (omega arith))

target_grows : (m m' n l : ℕ) (ts : List Symbol) → m ≤ m' → n ≤ m + 2 → length ts + 2 ≤ l → Deeper n l (er.inside m (er.expr m) ts) (er.inside m' (er.expr m') ts)
target_grows zero zero n l ts le high b = same refl
target_grows (suc m) zero n l ts le high b = absurd (omega arith)
target_grows m (suc m') n l ts le high b = inside_grows m (suc m') n l le (er.expr m) (er.expr (suc m')) ts (λ us lt. weaken m (length us) n l _ _ (omega arith) (width_grows m (suc m') (length us) us le (omega arith))) (target_expr m (suc m') n l ts le high b) (expr_law (suc m') (omega arith))

abbrev call_rest : ℕ → List ℕ → Reader One
call_rest n x = o.commas (er.expr n) >>= (λ ys. o.expect s.CloseParen >>= (λ _. o.expect s.Semicolon >>= (λ _. o.pure (st.Call x ys.0, suc ys.1))))

abbrev no_args : List ℕ → Reader One
no_args x = o.expect s.Semicolon >>= (λ _. o.pure (st.Call x [], 1))

module _ (n n' : ℕ) (le : n ≤ n') (inner inner' : Reader Rows) (later later' : Reader One)
    (inner_law : Law (StmtsAt n) inner)
    (inner_grows : (l : ℕ) (ts : List Symbol) → length ts < l → Deeper (suc n) l (inner ts) (inner' ts))
    (later_grows : (l : ℕ) (ts : List Symbol) → 1 ≤ n - 1 → suc (length ts) < l → Deeper (suc n) l (later ts) (later' ts)) where
  expr_left : (ts us : List Symbol) (x : Found) → 1 ≤ n → er.expr n ts ≡ Ok (x, us) → length us ≤ length ts
  expr_left ts us x low z = law_left (ExprAt n) (er.expr n) (expr_law n low) ts us x z

  assigned_grows : (x : Target) (h l : ℕ) (ts : List Symbol) → 1 ≤ n → length ts < l → Deeper (suc n) l (sr.assigned n inner later x h ts) (sr.assigned n' inner' later' x h ts)
  unfolding sr.assigned
  assigned_grows x h l ts low lt = deeper_bind _ _ (expr_in n n' l ts low le lt) (λ y us z. same refl)

  called_grows : (x : List ℕ) (l : ℕ) (ts : List Symbol) → length ts < l → Deeper (suc n) l (sr.called n inner later x ts) (sr.called n' inner' later' x ts)
  unfolding sr.called
  called_grows x l ts lt = if_grows (o.is_sign s.CloseParen) (no_args x) (no_args x) (o.only n (call_rest n x)) (o.only n' (call_rest n' x)) ts (λ us m. same refl)
      (only_grows n n' (call_rest n x) (call_rest n' x) ts le (λ z. omega arith)
      (λ z low. let first = law_nothing (ArgsAt n') (o.commas (er.expr n')) (λ ts us xs q. let b = args_bounded q.reads in let l = b.low in let h = b.high in omega arith) (args_law n' (er.expr n') (expr_law n' low)) in rw first refl)
      (λ low. deeper_bind _ _ (commas_grows (suc n) l (er.expr n) (er.expr n') (λ us m. expr_in n n' l us low le m) (λ us vs y z. expr_left us vs y low z) ts lt) (λ ys us z. same refl)))

  part_grows : (x : List ℕ) (l : ℕ) (ts : List Symbol) → 1 ≤ n → suc (length ts) < l → Deeper (suc n) l (sr.part n inner later x ts) (sr.part n' inner' later' x ts)
  unfolding sr.part
  part_grows x l ts low lt = deeper_bind (er.inside (n - 1) (er.expr (n - 1)) ts) (er.inside (n' - 1) (er.expr (n' - 1)) ts) (target_grows (n - 1) (n' - 1) (suc n) l ts (omega arith) (omega arith) (omega arith)) (λ j us z.
      let a = law_left (InsideAt (n - 1)) (er.inside (n - 1) (er.expr (n - 1))) (law.target_inside n low) ts us j z in
      deeper_want _ _ _ us (λ vs b. assigned_grows _ _ l vs low (omega arith)))

  word_grows : (x : List ℕ) (l : ℕ) (c : Symbol) (ts : List Symbol) → length (c ∷ ts) < l → Deeper (suc n) l (o.moved (sr.word_by n inner later x c) o.refuse (c ∷ ts)) (o.moved (sr.word_by n' inner' later' x c) o.refuse (c ∷ ts))
  word_grows x l (t.sign s.OpenParen) ts lt = called_grows x l ts (omega arith)
  word_grows x l (t.sign s.Assign) ts lt = guard_grows n n' _ _ o.refuse o.refuse (t.sign s.Assign) ts le (λ z. omega arith) (λ low. assigned_grows (target.Word x) 1 l ts low (omega arith))
  word_grows x l (t.sign s.OpenBracket) ts lt = guard_grows n n' _ _ o.refuse o.refuse (t.sign s.OpenBracket) ts le (λ z. omega arith) (λ low. part_grows x l ts low (omega arith))
  word_grows x l c ts lt = same refl

  worded_grows : (x : List ℕ) (l : ℕ) (ts : List Symbol) → length ts < l → Deeper (suc n) l (sr.worded n inner later x ts) (sr.worded n' inner' later' x ts)
  unfolding sr.worded
  worded_grows x l [] lt = same refl
  worded_grows x l (c ∷ ts) lt = word_grows x l c ts lt

  register_grows : (l : ℕ) (ts : List Symbol) → 1 ≤ n - 1 → length ts < l → Deeper (suc n) l (sr.register n inner later ts) (sr.register n' inner' later' ts)
  unfolding sr.register
  register_grows l ts low lt = deeper_want _ _ _ ts (λ us a. deeper_bind (er.expr (n - 1) us) (er.expr (n' - 1) us) (target_expr (n - 1) (n' - 1) (suc n) l us (omega arith) (omega arith) (omega arith)) (λ x vs z.
      let b = law_left (ExprAt (n - 1)) (er.expr (n - 1)) (expr_law (n - 1) low) us vs x z in
      deeper_want _ _ _ vs (λ ws c. deeper_want _ _ _ ws (λ zs d. assigned_grows _ _ l zs (omega arith) (omega arith)))))

  -- ---- CSRs

  written_grows : (x : Found) (l : ℕ) (ts : List Symbol) → 1 ≤ n → length ts < l → Deeper (suc n) l (sr.written n inner later x ts) (sr.written n' inner' later' x ts)
  unfolding sr.written
  written_grows x l ts low lt = deeper_bind _ _ (expr_in n n' l ts low le lt) (λ y us z. same refl)

  address_grows : (q : Part) (l : ℕ) (ts : List Symbol) → 1 ≤ n → length ts < l → Deeper (suc n) l (er.expr_part n q ts) (er.expr_part n' q ts) → ((us : List Symbol) (x : Found) → er.expr_part n q ts ≡ Ok (x, us) → length us ≤ length ts) → Deeper (suc n) l (sr.address n inner later q ts) (sr.address n' inner' later' q ts)
  unfolding sr.address sr.soft_write
  address_grows q l ts low lt first left = deeper_bind (er.expr_part n q ts) (er.expr_part n' q ts) first (λ x us z. let a = left us x z in
      deeper_want _ _ _ us (λ vs b. deeper_want _ _ _ vs (λ ws c. deeper_want _ _ _ ws (λ zs d. deeper_want _ _ _ zs (λ ys f. written_grows x l ys low (omega arith))))))

  field_set_grows : (x y : List ℕ) (l : ℕ) (ts : List Symbol) → 1 ≤ n → length ts < l → Deeper (suc n) l (sr.field_set n inner later x y ts) (sr.field_set n' inner' later' x y ts)
  unfolding sr.field_set
  field_set_grows x y l ts low lt = deeper_want _ _ _ ts (λ us a. assigned_grows _ _ l us low (omega arith))

  write_grows : (x y : List ℕ) (l : ℕ) (ts : List Symbol) → 1 ≤ n → length ts < l → Deeper (suc n) l (o.choose (sr.write_by n inner later x) (sr.field_set n inner later x y) ts) (o.choose (sr.write_by n' inner' later' x) (sr.field_set n' inner' later' x y) ts)
  write_grows x y l [] low lt = field_set_grows x y l [] low lt
  write_grows x y l (t.sign s.OpenParen ∷ ts) low lt = written_grows (e.Word x, 1) l ts low (omega arith)
  write_grows x y l (c ∷ ts) low lt = field_set_grows x y l (c ∷ ts) low lt

  field_grows : (x : List ℕ) (l : ℕ) (ts : List Symbol) → 1 ≤ n → length ts < l → Deeper (suc n) l (sr.field n inner later x ts) (sr.field n' inner' later' x ts)
  unfolding sr.field sr.field_or_write
  field_grows x l ts low lt = deeper_want _ _ _ ts (λ us a. deeper_after _ o.name name_law _ _ us (λ y vs b. go y vs (o.same_text y sw_write) (omega arith)))
    where
      go : (y : List ℕ) (ts : List Symbol) (f : Bool) → length ts < l → Deeper (suc n) l (cond f (o.choose (sr.write_by n inner later x) (sr.field_set n inner later x y)) (sr.field_set n inner later x y) ts)
          (cond f (o.choose (sr.write_by n' inner' later' x) (sr.field_set n' inner' later' x y)) (sr.field_set n' inner' later' x y) ts)
      go y ts true b = write_grows x y l ts low b
      go y ts false b = field_set_grows x y l ts low b

  csr_word_grows : (x : List ℕ) (l : ℕ) (ts : List Symbol) → 1 ≤ n → suc (length ts) < l → Deeper (suc n) l (sr.csr_word n inner later x ts) (sr.csr_word n' inner' later' x ts)
  unfolding sr.csr_word
  csr_word_grows x l ts low lt = if_grows (o.is_sign s.CloseBracket) (sr.field n inner later x) (sr.field n' inner' later' x) (sr.address n inner later (er.behind x)) (sr.address n' inner' later' (er.behind x)) ts
      (λ us m. field_grows x l us low (omega arith))
      (address_grows (er.behind x) l ts low (omega arith) (behind_in n n' l x ts low le lt) (λ us y z. law_left _ (er.expr_part n (er.behind x)) (expr_part_law n (er.behind x) low) ts us y z))

  csr_by_grows : (l : ℕ) (ts : List Symbol) → 1 ≤ n → length ts < l → Deeper (suc n) l (o.choose (sr.csr_by n inner later) (sr.address n inner later er.any) ts) (o.choose (sr.csr_by n' inner' later') (sr.address n' inner' later' er.any) ts)
  csr_by_grows l (t.word x ∷ ts) low lt = csr_word_grows x l ts low (omega arith)
  csr_by_grows l [] low lt = address_grows er.any l [] low lt (expr_in n n' l [] low le lt) (λ us y z. expr_left [] us y low z)
  csr_by_grows l (c ∷ ts) low lt = address_grows er.any l (c ∷ ts) low lt (expr_in n n' l (c ∷ ts) low le lt) (λ us y z. expr_left (c ∷ ts) us y low z)

  csr_grows : (l : ℕ) (ts : List Symbol) → 1 ≤ n → length ts < l → Deeper (suc n) l (sr.csr n inner later ts) (sr.csr n' inner' later' ts)
  unfolding sr.csr
  csr_grows l ts low lt = deeper_want _ _ _ ts (λ us a. csr_by_grows l us low (omega arith))

  -- ---- blocks

  braced_grows : (l : ℕ) (ts : List Symbol) → length ts < l → Deeper (suc n) l (sr.braced n inner later ts) (sr.braced n' inner' later' ts)
  unfolding sr.braced
  braced_grows l ts lt = deeper_bind _ _ (inner_grows l ts lt) (λ xs us z. same refl)

  braced_left : (ts us : List Symbol) (xs : Rows) → sr.braced n inner later ts ≡ Ok (xs, us) → length us ≤ length ts
  braced_left ts us xs z = law_left _ (sr.braced n inner later) (law.block_law n inner later inner_law) ts us xs z

  else_grows : (l : ℕ) (c : Symbol) (ts : List Symbol) → suc (length (c ∷ ts)) ≤ l → Deeper (suc n) l (o.moved (sr.else_by n inner later c) o.refuse (c ∷ ts)) (o.moved (sr.else_by n' inner' later' c) o.refuse (c ∷ ts))
  else_grows l (t.sign s.OpenBrace) ts b = deeper_bind _ _ (braced_grows l ts (omega arith)) (λ xs us z. same refl)
  else_grows l (t.reserved r.If) ts b = guard_grows (n - 1) (n' - 1) _ _ o.refuse o.refuse (t.reserved r.If) ts (omega arith) (λ z. omega arith) (λ low. deeper_bind _ _ (later_grows l ts low (omega arith)) (λ x us z. same refl))
  else_grows l c ts b = same refl

  among_else : (l : ℕ) (ts : List Symbol) → length ts < l → Deeper (suc n) l (o.among (sr.else_by n inner later) ts) (o.among (sr.else_by n' inner' later') ts)
  among_else l [] lt = same refl
  among_else l (c ∷ ts) lt = else_grows l c ts (omega arith)

  otherwise_grows : (l : ℕ) (ts : List Symbol) → length ts < l → Deeper (suc n) l (sr.otherwise n inner later ts) (sr.otherwise n' inner' later' ts)
  unfolding sr.otherwise
  otherwise_grows l ts lt = if_grows (o.is_reserved r.Else) (o.among (sr.else_by n inner later)) (o.among (sr.else_by n' inner' later')) (o.pure (None, 0)) (o.pure (None, 0)) ts (λ us m. among_else l us (omega arith)) (same refl)

  pub when_grows : (l : ℕ) (ts : List Symbol) → 1 ≤ n → length ts < l → Deeper (suc n) l (sr.when n inner later ts) (sr.when n' inner' later' ts)
  unfolding sr.when
  when_grows l ts low lt = deeper_want _ _ _ ts (λ us a. deeper_bind _ _ (expr_in n n' l us low le (omega arith)) (λ x vs z. let b = expr_left us vs x low z in deeper_want _ _ _ vs (λ ws c. deeper_want _ _ _ ws (λ zs d.
      deeper_bind _ _ (braced_grows l zs (omega arith)) (λ ys ks z. let f = braced_left zs ks ys z in deeper_bind _ _ (otherwise_grows l ks (omega arith)) (λ ms us z. same refl))))))

  count_grows : (l : ℕ) (ts : List Symbol) → length ts < l → Deeper (suc n) l (sr.count n inner later ts) (sr.count n' inner' later' ts)
  unfolding sr.count
  count_grows l ts lt = deeper_want _ _ _ ts (λ t1 a. deeper_want _ _ _ t1 (λ t2 b. deeper_after _ o.name name_law _ _ t2 (λ x t3 c. deeper_want _ _ _ t3 (λ t4 d. deeper_bind _ _ (width_in n n' l t4 le (omega arith)) (λ y t5 z.
      let k = law_left _ (wr.width n) (width_law n) t4 t5 y z in
      deeper_want _ _ _ t5 (λ t6 f. deeper_want _ _ _ t6 (λ t7 h. deeper_want _ _ _ t7 (λ t8 i. deeper_bind _ _ (width_in n n' l t8 le (omega arith)) (λ v t9 z'.
      let k' = law_left _ (wr.width n) (width_law n) t8 t9 v z' in
      deeper_want _ _ _ t9 (λ u1 j. deeper_want _ _ _ u1 (λ u2 m. deeper_want _ _ _ u2 (λ u3 p. deeper_want _ _ _ u3 (λ u4 q. deeper_want _ _ _ u4 (λ u5 w. deeper_bind _ _ (braced_grows l u5 (omega arith)) (λ ys us z. same refl)))))))))))))))

  -- ---- other statements

  give_grows : (l : ℕ) (ts : List Symbol) → 1 ≤ n → length ts < l → Deeper (suc n) l (sr.give n inner later ts) (sr.give n' inner' later' ts)
  unfolding sr.give
  give_grows l ts low lt = deeper_bind _ _ (expr_in n n' l ts low le lt) (λ x us z. same refl)

  jump_grows : (l : ℕ) (ts : List Symbol) → 1 ≤ n → length ts < l → Deeper (suc n) l (sr.jump n inner later ts) (sr.jump n' inner' later' ts)
  unfolding sr.jump
  jump_grows l ts low lt = deeper_want _ _ _ ts (λ us a. deeper_bind _ _ (expr_in n n' l us low le (omega arith)) (λ x vs z. same refl))

  trap_grows : (l : ℕ) (ts : List Symbol) → 1 ≤ n → length ts < l → Deeper (suc n) l (sr.trap n inner later ts) (sr.trap n' inner' later' ts)
  unfolding sr.trap
  trap_grows l ts low lt = deeper_want _ _ _ ts (λ t1 a. deeper_bind _ _ (expr_in n n' l t1 low le (omega arith)) (λ x t2 z. let b = expr_left t1 t2 x low z in
      deeper_want _ _ _ t2 (λ t3 c. deeper_want _ _ _ t3 (λ t4 d. deeper_want _ _ _ t4 (λ t5 f. deeper_want _ _ _ t5 (λ t6 h. deeper_want _ _ _ t6 (λ t7 i. deeper_bind _ _ (expr_in n n' l t7 low le (omega arith)) (λ y us z. same refl))))))))

  memory_grows : (l : ℕ) (ts : List Symbol) → 1 ≤ n → length ts < l → Deeper (suc n) l (sr.memory n inner later ts) (sr.memory n' inner' later' ts)
  unfolding sr.memory
  memory_grows l ts low lt = deeper_after _ er.access at.access_law _ _ ts (λ k t1 a. deeper_want _ _ _ t1 (λ t2 b. deeper_bind _ _ (expr_in n n' l t2 low le (omega arith)) (λ x t3 z. let c = expr_left t2 t3 x low z in
      deeper_want _ _ _ t3 (λ t4 d. deeper_bind _ _ (expr_in n n' l t4 low le (omega arith)) (λ y us z. same refl)))))

  declared_grows : (l : ℕ) (ts : List Symbol) → 1 ≤ n → length ts ≤ l → Deeper (suc n) l (sr.declared n inner later ts) (sr.declared n' inner' later' ts)
  unfolding sr.declared
  declared_grows l ts low b = deeper_bind _ _ (shape_grows n n' (suc n) l ts (λ us m. width_in n n' l us le (omega arith))) (λ x us z. let a = law_left (ShapeAt n) (sr.shape n) (shape_law n) ts us x z in
      deeper_after _ o.name name_law _ _ us (λ y vs c. deeper_want _ _ _ vs (λ ws d. deeper_bind _ _ (expr_in n n' l ws low le (omega arith)) (λ w zs z. same refl))))

  declared_nothing : sr.declared n' inner' later' [] ≡ Err []
  unfolding sr.declared sr.shape
  declared_nothing = refl

  reserved_grows : (l : ℕ) (c : Reserved) (ts : List Symbol) → length (t.reserved c ∷ ts) ≤ l → Deeper (suc n) l (o.only n (sr.declared n inner later) (t.reserved c ∷ ts)) (o.only n' (sr.declared n' inner' later') (t.reserved c ∷ ts))
      → Deeper (suc n) l (o.moved (sr.reserved_by n inner later c) (o.only n (sr.declared n inner later)) (t.reserved c ∷ ts)) (o.moved (sr.reserved_by n' inner' later' c) (o.only n' (sr.declared n' inner' later')) (t.reserved c ∷ ts))
  reserved_grows l r.X ts b next = guard_grows (n - 1) (n' - 1) _ _ _ _ (t.reserved r.X) ts (omega arith) (λ z. omega arith) (λ low. register_grows l ts low (omega arith))
  reserved_grows l r.Csr ts b next = guard_grows n n' _ _ _ _ (t.reserved r.Csr) ts le (λ z. omega arith) (λ low. csr_grows l ts low (omega arith))
  reserved_grows l r.Return ts b next = guard_grows n n' _ _ _ _ (t.reserved r.Return) ts le (λ z. omega arith) (λ low. give_grows l ts low (omega arith))
  reserved_grows l r.If ts b next = guard_grows n n' _ _ _ _ (t.reserved r.If) ts le (λ z. omega arith) (λ low. when_grows l ts low (omega arith))
  reserved_grows l r.For ts b next = count_grows l ts (omega arith)
  reserved_grows l r.Jump ts b next = guard_grows n n' _ _ _ _ (t.reserved r.Jump) ts le (λ z. omega arith) (λ low. jump_grows l ts low (omega arith))
  reserved_grows l r.Raise ts b next = guard_grows n n' _ _ _ _ (t.reserved r.Raise) ts le (λ z. omega arith) (λ low. trap_grows l ts low (omega arith))
  reserved_grows l r.WriteMemory ts b next = guard_grows n n' _ _ _ _ (t.reserved r.WriteMemory) ts le (λ z. omega arith) (λ low. memory_grows l ts low (omega arith))
  reserved_grows l c ts b next = next

  blocked_grows : (l : ℕ) (ts : List Symbol) → length ts < l → Deeper (suc n) l (sr.blocked n inner later ts) (sr.blocked n' inner' later' ts)
  unfolding sr.blocked
  blocked_grows l ts lt = deeper_bind _ _ (braced_grows l ts lt) (λ xs us z. same refl)

  only_declared : (l : ℕ) (ts : List Symbol) → length ts ≤ l → Deeper (suc n) l (o.only n (sr.declared n inner later) ts) (o.only n' (sr.declared n' inner' later') ts)
  only_declared l ts b = only_grows n n' (sr.declared n inner later) (sr.declared n' inner' later') ts le (λ z. omega arith) (λ z low. declared_nothing) (λ low. declared_grows l ts low b)

  pub stmt_grows : (l : ℕ) (ts : List Symbol) → length ts ≤ l → Deeper (suc n) l (sr.stmt n inner later ts) (sr.stmt n' inner' later' ts)
  unfolding sr.stmt
  stmt_grows l (t.word x ∷ ts) b = worded_grows x l ts (omega arith)
  stmt_grows l (t.sign s.OpenBrace ∷ ts) b = blocked_grows l ts (omega arith)
  stmt_grows l (t.reserved c ∷ ts) b = reserved_grows l c ts b (only_declared l (t.reserved c ∷ ts) b)
  stmt_grows l [] b = only_declared l [] b
  stmt_grows l (c ∷ ts) b = only_declared l (c ∷ ts) b
