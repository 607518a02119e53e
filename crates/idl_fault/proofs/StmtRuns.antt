-- The machine reads types and statements as the readers do, where the limit is above the tokens left.
use Rattle.std.proofs.Common.{◌≡◌, ℕ, suc, ◌-◌, ◌<◌, ◌≤◌, Bool, true, false, cond, List, [], ◌∷◌, length, Option, Some, None, refl, arith}
use Rattle.idl_token.specs.declared.kinds.Reserved.{Reserved}
use Rattle.idl_token.specs.declared.kinds.Reserved.TheVariants as r
use Rattle.idl_token.specs.declared.kinds.Sign.TheVariants as s
use Rattle.idl_tree.specs.declared.widths.Shape.{Shape}
use Rattle.idl_tree.specs.declared.expressions.Expr.TheVariants as e
use Rattle.idl_tree.specs.declared.statements.Target.{Target}
use Rattle.idl_tree.specs.declared.statements.Target.TheVariants as target
use Rattle.idl_tree.specs.declared.statements.Stmt.TheVariants as st
use Rattle.idl_token.specs.Symbol.{Symbol}
use Rattle.idl_token.specs.Symbol as t
use Rattle.idl_grammar.specs.Tables.{sw_write}
use Rattle.idl_grammar.specs.StmtGrammar.{short_shape}
use Rattle.idl_grammar.specs.Outcome as o
use Rattle.idl_grammar.specs.Outcome.{Reader, ◌>>=◌}
use Rattle.idl_grammar.specs.ExprReader as er
use Rattle.idl_grammar.specs.ExprReader.{Found, Part}
use Rattle.idl_grammar.specs.StmtReader as sr
use Rattle.idl_grammar.specs.StmtReader.{Rows, One}
use Rattle.idl_fault.specs.Machine as m
use Rattle.idl_fault.specs.Machine.{Item, takes, passes, plan}
use Rattle.idl_fault.proofs.Steps.{Known, Follows, ends, binds, binds_all, takes_on, passes_on, refuses_on, takes_deeper, only_on, next_on, reserved_next_on, expects, reserves, words, names}
use Rattle.idl_fault.proofs.Lists.{Fewer}
use Rattle.idl_fault.proofs.WidthRuns.{In, width_on}
use Rattle.idl_fault.proofs.Tails.{item_of, size, inside_on}
use Rattle.idl_fault.proofs.Operands.{args_on, access_on, expr_part_on, expr_on}

-- ---- types

bits_on : (n : ℕ) (f : Bool) (l : ℕ) (ts : List Symbol) (b : Bool) → length ts ≤ n → length ts < l → Follows (In 0 l) (m.sign s.Less ∷ m.width ∷ m.sign s.Greater ∷ []) (sr.bits n f ts) b ts
unfolding sr.bits
bits_on n f l ts b le lt = expects s.Less _ (λ us d. binds (width_on n us b (omega arith)) (λ a vs c h. let i = h.high in let j = h.less in expects s.Greater _ (λ ws g. ends (record { low = omega arith; less = omega arith; high = omega arith }))))

signed_bits_on : (n l : ℕ) (ts : List Symbol) (b : Bool) → length ts ≤ n → length ts < l → Follows (In 0 l) (m.reserved r.Bits ∷ m.sign s.Less ∷ m.width ∷ m.sign s.Greater ∷ []) (sr.signed_bits n ts) b ts
unfolding sr.signed_bits
signed_bits_on n l ts b le lt = reserves r.Bits _ (λ us d. bits_on n true l us b (omega arith) (omega arith))

short_shape_on : (c : Reserved) (found : Option Shape) (ts : List Symbol) (b : Bool) → plan b m.shape (Some (t.reserved c)) ≡ m.short_shape_plan found → Follows (In 0 (suc (length ts))) (m.shape ∷ []) (o.moved (sr.short_by found) o.refuse (t.reserved c ∷ ts)) b (t.reserved c ∷ ts)
short_shape_on c None ts b is = refuses_on is
short_shape_on c (Some x) ts b is = takes_on is (ends (record { low = omega arith; less = omega arith; high = omega arith }))

shape_by_on : (n : ℕ) (c : Reserved) (ts : List Symbol) (b : Bool) → length ts ≤ n → Follows (In 0 (suc (length ts))) (m.shape ∷ []) (o.moved (sr.shape_by n (t.reserved c)) o.refuse (t.reserved c ∷ ts)) b (t.reserved c ∷ ts)
shape_by_on n r.Bits ts b le = takes_on refl (bits_on n false (suc (length ts)) ts b le (omega arith))
shape_by_on n r.Signed ts b le = takes_on refl (signed_bits_on n (suc (length ts)) ts b le (omega arith))
shape_by_on n c ts b le = short_shape_on c (short_shape c) ts b refl

pub shape_on : (n : ℕ) (ts : List Symbol) (b : Bool) → length ts ≤ n → Follows (In 0 (length ts)) (m.shape ∷ []) (sr.shape n ts) b ts
unfolding sr.shape
shape_on n [] b le = refuses_on refl
shape_on n (t.reserved c ∷ ts) b le = shape_by_on n c ts b (omega arith)
shape_on n (c ∷ ts) b le = refuses_on refl

-- ---- plans by a test

call_stmt_is : (b : Bool) (ts : List Symbol) → plan b m.call_stmt (o.head ts) ≡ cond (o.sees (o.is_sign s.CloseParen) ts) (takes (m.sign s.Semicolon ∷ [])) (passes (m.args ∷ m.sign s.CloseParen ∷ m.sign s.Semicolon ∷ []))
call_stmt_is b [] = refl
call_stmt_is b (t.sign s.CloseParen ∷ ts) = refl
call_stmt_is b (c ∷ ts) = refl

csr_stmt_word_is : (b : Bool) (ts : List Symbol) → plan b m.csr_stmt_word (o.head ts) ≡ cond (o.sees (o.is_sign s.CloseBracket) ts) (takes (m.sign s.Dot ∷ m.csr_target ∷ [])) (passes (m.behind ∷ m.sign s.CloseBracket ∷ m.soft_write))
csr_stmt_word_is b [] = refl
csr_stmt_word_is b (t.sign s.CloseBracket ∷ ts) = refl
csr_stmt_word_is b (c ∷ ts) = refl

otherwise_is : (b : Bool) (ts : List Symbol) → plan b m.otherwise (o.head ts) ≡ cond (o.sees (o.is_reserved r.Else) ts) (takes (m.else_block ∷ [])) (passes [])
otherwise_is b [] = refl
otherwise_is b (t.reserved r.Else ∷ ts) = refl
otherwise_is b (c ∷ ts) = refl

-- a word, and what a loop has behind it
abbrev count_items : List ℕ → List Item
count_items x = m.sign s.Assign ∷ m.width ∷ m.sign s.Semicolon ∷ m.same x ∷ m.sign s.Less ∷ m.width ∷ m.sign s.Semicolon ∷ m.same x ∷ m.sign s.Increment ∷ m.sign s.CloseParen ∷ m.sign s.OpenBrace ∷ m.block

counts : {A : Type 0} {on : Known A} {f : List ℕ → Reader A} (ts : List Symbol) (b : Bool) → ((x : List ℕ) (us : List Symbol) → length us < length ts → Follows on (count_items x) (f x us) b us) → Follows on (m.count ∷ []) (o.and_then (o.name ts) f) b ts
unfolding o.name
counts [] b then = refuses_on refl
counts (t.word x ∷ ts) b then = takes_on refl (then x ts (omega arith))
counts (c ∷ ts) b then = refuses_on refl

-- ---- statements: n is above the number of the tokens left, from the statement's first on

module _ (n : ℕ) (inner : Reader Rows) (later : Reader One)
    (inner_on : (ts : List Symbol) (b : Bool) → suc (length ts) < n → Follows (Fewer (suc (length ts))) (m.stmts ∷ []) (inner ts) b ts)
    (later_on : (ts : List Symbol) (b : Bool) → suc (suc (length ts)) < n → Follows (Fewer (length ts)) (m.when ∷ []) (later ts) b ts) where
  assigned_on : (l : ℕ) (x : Target) (h : ℕ) (ts : List Symbol) (b : Bool) → length ts < n → length ts ≤ l → Follows (Fewer l) m.value_ends (sr.assigned n inner later x h ts) b ts
  unfolding sr.assigned
  assigned_on l x h ts b lt le = binds (expr_on n ts b lt) (λ y us c i. let less = i.less in expects s.Semicolon _ (λ vs d. ends (record { less = omega arith })))

  abbrev some_args : List ℕ → Reader One
  some_args x = o.commas (er.expr n) >>= (λ ys. o.expect s.CloseParen >>= (λ _. o.expect s.Semicolon >>= (λ _. o.pure (st.Call x ys.0, suc ys.1))))

  called_on : (l : ℕ) (x : List ℕ) (ts : List Symbol) (b : Bool) → length ts < n → length ts ≤ l → Follows (Fewer l) (m.call_stmt ∷ []) (sr.called n inner later x ts) b ts
  unfolding sr.called
  called_on l x ts b lt le = next_on s.CloseParen (o.expect s.Semicolon >>= (λ _. o.pure (st.Call x [], 1))) (o.only n (some_args x)) (call_stmt_is b ts) (λ us d. expects s.Semicolon _ (λ vs f. ends (record { less = omega arith })))
      (only_on (some_args x) n (omega arith) (binds (args_on n (er.expr n) (expr_on n) ts b lt) (λ ys us c h. let less = h.less in expects s.CloseParen _ (λ vs d. expects s.Semicolon _ (λ ws f. ends (record { less = omega arith }))))))

  part_on : (l : ℕ) (x : List ℕ) (ts : List Symbol) (b : Bool) → suc (length ts) < n → length ts ≤ l → Follows (Fewer l) (m.inside ∷ m.assign_ends) (sr.part n inner later x ts) b ts
  unfolding sr.part
  part_on l x ts b lt le = binds (inside_on (n - 1) (er.expr (n - 1)) (expr_on (n - 1)) ts b (omega arith)) (λ j us c h. let less = h.less in expects s.Assign _ (λ vs d. assigned_on l _ _ vs c (omega arith) (omega arith)))

  worded_on : (l : ℕ) (x : List ℕ) (ts : List Symbol) (b : Bool) → suc (length ts) ≤ n → length ts ≤ l → Follows (Fewer l) (m.worded ∷ []) (sr.worded n inner later x ts) b ts
  unfolding sr.worded
  worded_on l x [] b lt le = refuses_on refl
  worded_on l x (t.sign s.OpenParen ∷ ts) b lt le = takes_on refl (called_on l x ts b (omega arith) (omega arith))
  worded_on l x (t.sign s.Assign ∷ ts) b lt le = takes_deeper _ _ n (omega arith) refl (assigned_on l (target.Word x) 1 ts b (omega arith) (omega arith))
  worded_on l x (t.sign s.OpenBracket ∷ ts) b lt le = takes_deeper _ _ n (omega arith) refl (part_on l x ts b (omega arith) (omega arith))
  worded_on l x (c ∷ ts) b lt le = refuses_on refl

  register_on : (l : ℕ) (ts : List Symbol) (b : Bool) → suc (length ts) < n → length ts ≤ l → Follows (Fewer l) (m.sign s.OpenBracket ∷ m.any ∷ m.sign s.CloseBracket ∷ m.assign_ends) (sr.register n inner later ts) b ts
  unfolding sr.register
  register_on l ts b lt le = expects s.OpenBracket _ (λ us d. binds (expr_on (n - 1) us b (omega arith)) (λ x vs c h. let less = h.less in expects s.CloseBracket _ (λ ws f. expects s.Assign _ (λ ys g. assigned_on l _ _ ys c (omega arith) (omega arith)))))

  -- ---- CSRs

  written_on : (l : ℕ) (x : Found) (ts : List Symbol) (b : Bool) → length ts < n → length ts ≤ l → Follows (Fewer l) m.write_ends (sr.written n inner later x ts) b ts
  unfolding sr.written
  written_on l x ts b lt le = binds (expr_on n ts b lt) (λ y us c h. let less = h.less in expects s.CloseParen _ (λ vs d. expects s.Semicolon _ (λ ws f. ends (record { less = omega arith }))))

  soft_write_on : (l : ℕ) (x : Found) (ts : List Symbol) (b : Bool) → length ts < n → length ts ≤ l → Follows (Fewer l) m.soft_write (sr.soft_write n inner later x ts) b ts
  unfolding sr.soft_write
  soft_write_on l x ts b lt le = expects s.Dot _ (λ us d. words sw_write _ (λ vs f. expects s.OpenParen _ (λ ws g. written_on l x ws b (omega arith) (omega arith))))

  address_on : (l : ℕ) (q : Part) (ts : List Symbol) (b : Bool) → size q ts < n → size q ts ≤ l → Follows (Fewer l) (item_of q ∷ m.sign s.CloseBracket ∷ m.soft_write) (sr.address n inner later q ts) b ts
  unfolding sr.address
  address_on l q ts b lt le = binds (expr_part_on n q ts b lt) (λ x us c h. let less = h.less in expects s.CloseBracket _ (λ vs d. soft_write_on l x vs c (omega arith) (omega arith)))

  field_set_on : (l : ℕ) (x y : List ℕ) (ts : List Symbol) (b : Bool) → length ts < n → length ts ≤ l → Follows (Fewer l) m.assign_ends (sr.field_set n inner later x y ts) b ts
  unfolding sr.field_set
  field_set_on l x y ts b lt le = expects s.Assign _ (λ us d. assigned_on l _ _ us b (omega arith) (omega arith))

  write_or_set_on : (l : ℕ) (x y : List ℕ) (ts : List Symbol) (b : Bool) → length ts < n → length ts ≤ l → Follows (Fewer l) (m.write_or_set ∷ []) (o.choose (sr.write_by n inner later x) (sr.field_set n inner later x y) ts) b ts
  write_or_set_on l x y [] b lt le = passes_on refl (field_set_on l x y [] b lt le)
  write_or_set_on l x y (t.sign s.OpenParen ∷ ts) b lt le = takes_on refl (written_on l (e.Word x, 1) ts b (omega arith) (omega arith))
  write_or_set_on l x y (c ∷ ts) b lt le = passes_on refl (field_set_on l x y (c ∷ ts) b lt le)

  csr_target_on : (l : ℕ) (x : List ℕ) (ts : List Symbol) (b : Bool) → length ts < n → length ts ≤ l → Follows (Fewer l) (m.csr_target ∷ []) (o.and_then (o.name ts) (sr.field_or_write n inner later x)) b ts
  unfolding o.name sr.field_or_write
  csr_target_on l x [] b lt le = refuses_on refl
  csr_target_on l x (t.word y ∷ ts) b lt le = go (o.same_text y sw_write) refl
    where
      go : (f : Bool) → plan b m.csr_target (Some (t.word y)) ≡ cond f (takes (m.write_or_set ∷ [])) (takes m.assign_ends)
          → Follows (Fewer l) (m.csr_target ∷ []) (cond f (o.choose (sr.write_by n inner later x) (sr.field_set n inner later x y)) (sr.field_set n inner later x y) ts) b (t.word y ∷ ts)
      go true is = takes_on is (write_or_set_on l x y ts b (omega arith) (omega arith))
      go false is = takes_on is (field_set_on l x y ts b (omega arith) (omega arith))
  csr_target_on l x (c ∷ ts) b lt le = refuses_on refl

  field_on : (l : ℕ) (x : List ℕ) (ts : List Symbol) (b : Bool) → length ts < n → length ts ≤ l → Follows (Fewer l) (m.sign s.Dot ∷ m.csr_target ∷ []) (sr.field n inner later x ts) b ts
  unfolding sr.field
  field_on l x ts b lt le = expects s.Dot _ (λ us d. csr_target_on l x us b (omega arith) (omega arith))

  csr_word_on : (l : ℕ) (x : List ℕ) (ts : List Symbol) (b : Bool) → suc (length ts) < n → suc (length ts) ≤ l → Follows (Fewer l) (m.csr_stmt_word ∷ []) (sr.csr_word n inner later x ts) b ts
  unfolding sr.csr_word
  csr_word_on l x ts b lt le = next_on s.CloseBracket (sr.field n inner later x) (sr.address n inner later (er.behind x)) (csr_stmt_word_is b ts) (λ us d. field_on l x us b (omega arith) (omega arith)) (address_on l (er.behind x) ts b lt le)

  csr_by_on : (l : ℕ) (ts : List Symbol) (b : Bool) → suc (length ts) < n → length ts ≤ l → Follows (Fewer l) (m.csr_stmt ∷ []) (o.choose (sr.csr_by n inner later) (sr.address n inner later er.any) ts) b ts
  csr_by_on l [] b lt le = passes_on refl (address_on l er.any [] b (omega arith) le)
  csr_by_on l (t.word x ∷ ts) b lt le = takes_on refl (csr_word_on l x ts b (omega arith) (omega arith))
  csr_by_on l (c ∷ ts) b lt le = passes_on refl (address_on l er.any (c ∷ ts) b (omega arith) le)

  csr_on : (l : ℕ) (ts : List Symbol) (b : Bool) → length ts < n → length ts ≤ l → Follows (Fewer l) (m.sign s.OpenBracket ∷ m.csr_stmt ∷ []) (sr.csr n inner later ts) b ts
  unfolding sr.csr
  csr_on l ts b lt le = expects s.OpenBracket _ (λ us d. csr_by_on l us b (omega arith) (omega arith))

  -- ---- blocks

  braced_on : (l : ℕ) (ts : List Symbol) (b : Bool) → suc (length ts) < n → length ts ≤ l → Follows (Fewer l) m.block (sr.braced n inner later ts) b ts
  unfolding sr.braced
  braced_on l ts b lt le = binds (inner_on ts b lt) (λ xs us c h. let less = h.less in expects s.CloseBrace _ (λ vs d. ends (record { less = omega arith })))

  blocked_on : (l : ℕ) (ts : List Symbol) (b : Bool) → suc (length ts) < n → length ts ≤ l → Follows (Fewer l) m.block (sr.blocked n inner later ts) b ts
  unfolding sr.blocked
  blocked_on l ts b lt le = binds_all m.block (braced_on l ts b lt le) (λ xs us c h. ends (record { less = h.less }))

  else_on : (l : ℕ) (ts : List Symbol) (b : Bool) → suc (length ts) < n → length ts ≤ l → Follows (Fewer l) (m.else_block ∷ []) (o.among (sr.else_by n inner later) ts) b ts
  else_on l [] b lt le = refuses_on refl
  else_on l (t.sign s.OpenBrace ∷ ts) b lt le = takes_on refl (binds_all m.block (braced_on l ts b (omega arith) (omega arith)) (λ xs us c h. ends (record { less = h.less })))
  else_on l (t.reserved r.If ∷ ts) b lt le = takes_deeper _ _ (n - 1) (omega arith) refl (binds (later_on ts b (omega arith)) (λ x us c h. let less = h.less in ends (record { less = omega arith })))
  else_on l (c ∷ ts) b lt le = refuses_on refl

  otherwise_on : (ts : List Symbol) (b : Bool) → suc (length ts) ≤ n → Follows (Fewer (suc (length ts))) (m.otherwise ∷ []) (sr.otherwise n inner later ts) b ts
  unfolding sr.otherwise
  otherwise_on ts b lt = reserved_next_on r.Else (o.among (sr.else_by n inner later)) (o.pure (None, 0)) (otherwise_is b ts) (λ us d. else_on (suc (length ts)) us b (omega arith) (omega arith)) (ends (record { less = omega arith }))

  pub when_on : (l : ℕ) (ts : List Symbol) (b : Bool) → suc (length ts) < n → length ts ≤ l → Follows (Fewer l) (m.when ∷ []) (sr.when n inner later ts) b ts
  unfolding sr.when
  when_on l ts b lt le = passes_on refl (expects s.OpenParen _ (λ us d. binds (expr_on n us b (omega arith)) (λ x vs c h. let i = h.less in expects s.CloseParen _ (λ ws f. expects s.OpenBrace _ (λ ys g.
      binds_all m.block (braced_on (length ys) ys c (omega arith) (omega arith)) (λ xs zs a k. let j = k.less in binds (otherwise_on zs a (omega arith)) (λ z us u w. let fall = w.less in ends (record { less = omega arith }))))))))

  count_on : (l : ℕ) (ts : List Symbol) (b : Bool) → suc (length ts) < n → length ts ≤ l → Follows (Fewer l) (m.sign s.OpenParen ∷ m.reserved r.U32 ∷ m.count ∷ []) (sr.count n inner later ts) b ts
  unfolding sr.count
  count_on l ts b lt le = expects s.OpenParen _ (λ t1 d1. reserves r.U32 _ (λ t2 d2. counts t2 b (λ x t3 d3. expects s.Assign _ (λ t4 d4. binds (width_on n t4 b (omega arith)) (λ y t5 c h. let d5 = h.less in
      expects s.Semicolon _ (λ t6 d6. words x _ (λ t7 d7. expects s.Less _ (λ t8 d8. binds (width_on n t8 c (omega arith)) (λ z t9 f k. let d9 = k.less in
      expects s.Semicolon _ (λ u1 e1. words x _ (λ u2 e2. expects s.Increment _ (λ u3 e3. expects s.CloseParen _ (λ u4 e4. expects s.OpenBrace _ (λ u5 e5.
      binds_all m.block (braced_on (length u5) u5 f (omega arith) (omega arith)) (λ xs u6 g w. let e6 = w.less in ends (record { less = omega arith }))))))))))))))))

  -- ---- other statements

  give_on : (l : ℕ) (ts : List Symbol) (b : Bool) → length ts < n → length ts ≤ l → Follows (Fewer l) m.value_ends (sr.give n inner later ts) b ts
  unfolding sr.give
  give_on l ts b lt le = binds (expr_on n ts b lt) (λ x us c h. let less = h.less in expects s.Semicolon _ (λ vs d. ends (record { less = omega arith })))

  jump_on : (l : ℕ) (ts : List Symbol) (b : Bool) → length ts < n → length ts ≤ l → Follows (Fewer l) (m.sign s.OpenParen ∷ m.write_ends) (sr.jump n inner later ts) b ts
  unfolding sr.jump
  jump_on l ts b lt le = expects s.OpenParen _ (λ us d. binds (expr_on n us b (omega arith)) (λ x vs c h. let less = h.less in expects s.CloseParen _ (λ ws f. expects s.Semicolon _ (λ ys g. ends (record { less = omega arith })))))

  trap_on : (l : ℕ) (ts : List Symbol) (b : Bool) → length ts < n → length ts ≤ l
      → Follows (Fewer l) (m.sign s.OpenParen ∷ m.any ∷ m.sign s.Comma ∷ m.reserved r.Mode ∷ m.sign s.OpenParen ∷ m.sign s.CloseParen ∷ m.sign s.Comma ∷ m.write_ends) (sr.trap n inner later ts) b ts
  unfolding sr.trap
  trap_on l ts b lt le = expects s.OpenParen _ (λ us d. binds (expr_on n us b (omega arith)) (λ x vs c h. let less = h.less in expects s.Comma _ (λ ws f. reserves r.Mode _ (λ ys g. expects s.OpenParen _ (λ zs i. expects s.CloseParen _ (λ us j. expects s.Comma _ (λ vs k.
      binds (expr_on n vs c (omega arith)) (λ y ws a u. let fall = u.less in expects s.CloseParen _ (λ ys w. expects s.Semicolon _ (λ zs z. ends (record { less = omega arith })))))))))))

  memory_on : (l : ℕ) (ts : List Symbol) (b : Bool) → length ts < n → length ts ≤ l → Follows (Fewer l) (m.sign s.Less ∷ m.bits ∷ m.sign s.Greater ∷ m.sign s.OpenParen ∷ m.any ∷ m.sign s.Comma ∷ m.write_ends) (sr.memory n inner later ts) b ts
  unfolding sr.memory
  memory_on l ts b lt le = binds_all (m.sign s.Less ∷ m.bits ∷ m.sign s.Greater ∷ []) (access_on (length ts) ts b (omega arith)) (λ k us c h. let i = h.less in expects s.OpenParen _ (λ vs d. binds (expr_on n vs c (omega arith)) (λ x ws a j. let less = j.less in expects s.Comma _ (λ ys f.
      binds (expr_on n ys a (omega arith)) (λ y zs g k. let fall = k.less in expects s.CloseParen _ (λ us w. expects s.Semicolon _ (λ vs z. ends (record { less = omega arith }))))))))

  declared_on : (l : ℕ) (ts : List Symbol) (b : Bool) → length ts < n → length ts ≤ l → Follows (Fewer l) (m.shape ∷ m.word ∷ m.assign_ends) (sr.declared n inner later ts) b ts
  unfolding sr.declared
  declared_on l ts b lt le = binds (shape_on n ts b (omega arith)) (λ x us c h. let less = h.less in names (λ y vs d. expects s.Assign _ (λ ws f. binds (expr_on n ws c (omega arith)) (λ z ys a i. let fall = i.less in expects s.Semicolon _ (λ zs g. ends (record { less = omega arith }))))))

  other_on : (ts : List Symbol) (b : Bool) → length ts < n → Follows (Fewer (length ts)) (m.shape ∷ m.word ∷ m.assign_ends) (o.only n (sr.declared n inner later) ts) b ts
  other_on ts b lt = only_on (sr.declared n inner later) n (omega arith) (declared_on (length ts) ts b lt (omega arith))

  reserved_on : (c : Reserved) (ts : List Symbol) (b : Bool) → suc (length ts) < n
      → Follows (Fewer (suc (length ts))) (m.stmt ∷ []) (o.moved (sr.reserved_by n inner later c) (o.only n (sr.declared n inner later)) (t.reserved c ∷ ts)) b (t.reserved c ∷ ts)
  reserved_on r.X ts b lt = takes_deeper _ _ (n - 1) (omega arith) refl (register_on (suc (length ts)) ts b lt (omega arith))
  reserved_on r.Csr ts b lt = takes_deeper _ _ n (omega arith) refl (csr_on (suc (length ts)) ts b (omega arith) (omega arith))
  reserved_on r.Return ts b lt = takes_deeper _ _ n (omega arith) refl (give_on (suc (length ts)) ts b (omega arith) (omega arith))
  reserved_on r.If ts b lt = takes_deeper _ _ n (omega arith) refl (when_on (suc (length ts)) ts b lt (omega arith))
  reserved_on r.For ts b lt = takes_on refl (count_on (suc (length ts)) ts b lt (omega arith))
  reserved_on r.Jump ts b lt = takes_deeper _ _ n (omega arith) refl (jump_on (suc (length ts)) ts b (omega arith) (omega arith))
  reserved_on r.Raise ts b lt = takes_deeper _ _ n (omega arith) refl (trap_on (suc (length ts)) ts b (omega arith) (omega arith))
  reserved_on r.WriteMemory ts b lt = takes_deeper _ _ n (omega arith) refl (memory_on (suc (length ts)) ts b (omega arith) (omega arith))
  reserved_on c ts b lt = passes_on refl (other_on (t.reserved c ∷ ts) b lt)

  pub stmt_on : (ts : List Symbol) (b : Bool) → length ts < n → Follows (Fewer (length ts)) (m.stmt ∷ []) (sr.stmt n inner later ts) b ts
  unfolding sr.stmt
  stmt_on [] b lt = passes_on refl (other_on [] b lt)
  stmt_on (t.word x ∷ ts) b lt = takes_on refl (worded_on (suc (length ts)) x ts b (omega arith) (omega arith))
  stmt_on (t.sign s.OpenBrace ∷ ts) b lt = takes_on refl (blocked_on (suc (length ts)) ts b lt (omega arith))
  stmt_on (t.reserved c ∷ ts) b lt = reserved_on c ts b lt
  stmt_on (c ∷ ts) b lt = passes_on refl (other_on (c ∷ ts) b lt)
