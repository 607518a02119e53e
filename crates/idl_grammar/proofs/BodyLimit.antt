-- With a higher limit bodies and functions are read the same, or were refused at a token.
use Rattle.std.proofs.Common.{◌≡◌, ℕ, zero, suc, ◌-◌, ◌<◌, ◌≤◌, true, List, [], ◌∷◌, length, Some, None, refl, arith}
use Rattle.idl_token.specs.declared.kinds.Reserved.TheVariants as r
use Rattle.idl_token.specs.Symbol.{Symbol}
use Rattle.idl_grammar.specs.Outcome as o
use Rattle.idl_grammar.specs.Outcome.{Outcome, Reader, ◌>>=◌}
use Rattle.idl_grammar.specs.StmtReader as sr
use Rattle.idl_grammar.specs.StmtReader.{Rows, One}
use Rattle.idl_grammar.proofs.Law.{name_law}
use Rattle.idl_grammar.proofs.WidthLimit.{width_grows}
use Rattle.idl_grammar.proofs.StmtLaw.{StmtAt, stmt_law}
use Rattle.idl_grammar.proofs.BodyLaw.{stmts_law, after_if_law, result_law, argument_law, taken_law, about_law, function_law}
use Rattle.idl_grammar.proofs.StmtLimit.{shape_grows, stmt_grows, when_grows}
use Rattle.idl_grammar.proofs.Limit.{Deeper, same, stops, weaken, deeper_bind, deeper_want, deeper_after, law_left, if_grows, commas_grows, rows_grows}

-- ---- bodies

nothing_grows : (l : ℕ) (one : Reader One) (us : List Symbol) → length us ≤ l → o.sees sr.begins us ≡ true → Deeper 0 l (o.refuse {A = One} us) (one us)
nothing_grows l one [] b is = absurd cc
nothing_grows l one (c ∷ us) b is = stops c us refl (omega arith)

mutual
  unfolding sr.stmts sr.after_if

  pub stmts_grows : (n n' l : ℕ) (ts : List Symbol) → n ≤ n' → length ts ≤ l → Deeper n l (sr.stmts n ts) (sr.stmts n' ts)
  stmts_grows zero zero l ts le b = same refl
  stmts_grows zero (suc n') l ts le b = rows_grows 0 l (o.refuse {A = One}) (sr.stmt n' (sr.stmts n') (sr.after_if n')) sr.begins (nothing_grows l (sr.stmt n' (sr.stmts n') (sr.after_if n'))) (λ us vs x z. absurd cc) ts b
  stmts_grows (suc n) zero l ts le b = absurd (omega arith)
  stmts_grows (suc n) (suc n') l ts le b = rows_grows (suc n) l (sr.stmt n (sr.stmts n) (sr.after_if n)) (sr.stmt n' (sr.stmts n') (sr.after_if n')) sr.begins
      (λ us b is. stmt_grows n n' (omega arith) (sr.stmts n) (sr.stmts n') (sr.after_if n) (sr.after_if n') (stmts_law n) (λ l ts lt. weaken n (length ts) (suc n) l _ _ (omega arith) (stmts_grows n n' (length ts) ts (omega arith) (omega arith)))
      (λ l ts low lt. weaken n (suc (length ts)) (suc n) l _ _ (omega arith) (after_if_grows n n' (suc (length ts)) ts (omega arith) low (omega arith))) l us b)
      (λ us vs x z. law_left (StmtAt (suc n)) (sr.stmt n (sr.stmts n) (sr.after_if n)) (stmt_law n (sr.stmts n) (sr.after_if n) (stmts_law n) (after_if_law n)) us vs x z) ts b

  pub after_if_grows : (n n' l : ℕ) (ts : List Symbol) → n ≤ n' → 1 ≤ n - 1 → length ts < l → Deeper n l (sr.after_if n ts) (sr.after_if n' ts)
  after_if_grows zero n' l ts le low lt = absurd (omega arith)
  after_if_grows (suc n) zero l ts le low lt = absurd (omega arith)
  after_if_grows (suc n) (suc n') l ts le low lt = when_grows n n' (omega arith) (sr.stmts n) (sr.stmts n') (sr.after_if n) (sr.after_if n') (stmts_law n) (λ l ts lt. weaken n (length ts) (suc n) l _ _ (omega arith) (stmts_grows n n' (length ts) ts (omega arith) (omega arith)))
      (λ l ts low lt. weaken n (suc (length ts)) (suc n) l _ _ (omega arith) (after_if_grows n n' (suc (length ts)) ts (omega arith) low (omega arith))) l ts (omega arith) lt

-- ---- functions

module _ (n n' : ℕ) (le : n ≤ n') where
  shape_in : (l : ℕ) (ts : List Symbol) → length ts ≤ l → Deeper n l (sr.shape n ts) (sr.shape n' ts)
  shape_in l ts b = shape_grows n n' n l ts (λ us m. width_grows n n' l us le (omega arith))

  result_grows : (l : ℕ) (ts : List Symbol) → length ts ≤ l → Deeper n l (sr.result n ts) (sr.result n' ts)
  unfolding sr.result
  result_grows l ts b = if_grows (o.is_reserved r.Returns) (sr.shape n >>= (λ x. o.pure (Some x.0, x.1))) (sr.shape n' >>= (λ x. o.pure (Some x.0, x.1))) (o.pure (None, 0)) (o.pure (None, 0)) ts (λ us m. deeper_bind _ _ (shape_in l us (omega arith)) (λ x vs z. same refl)) (same refl)

  argument_grows : (l : ℕ) (ts : List Symbol) → length ts ≤ l → Deeper n l (sr.argument n ts) (sr.argument n' ts)
  unfolding sr.argument
  argument_grows l ts b = deeper_bind _ _ (shape_in l ts b) (λ x us z. same refl)

  taken_grows : (l : ℕ) (ts : List Symbol) → length ts ≤ l → Deeper n l (sr.taken n ts) (sr.taken n' ts)
  unfolding sr.taken
  taken_grows l ts b = if_grows (o.is_reserved r.Arguments) (o.commas (sr.argument n)) (o.commas (sr.argument n')) (o.pure ([], 0)) (o.pure ([], 0)) ts
      (λ us m. commas_grows n l (sr.argument n) (sr.argument n') (λ us m. argument_grows l us (omega arith)) (λ us vs x z. law_left _ (sr.argument n) (argument_law n) us vs x z) us (omega arith)) (same refl)

  function_grows : (l : ℕ) (ts : List Symbol) → length ts ≤ l → Deeper n l (sr.function n ts) (sr.function n' ts)
  unfolding sr.function
  function_grows l ts b = deeper_want _ _ _ ts (λ t1 a. deeper_after _ o.name name_law _ _ t1 (λ x t2 c. deeper_want _ _ _ t2 (λ t3 d. deeper_bind _ _ (result_grows l t3 (omega arith)) (λ y t4 z. let f = law_left _ (sr.result n) (result_law n) t3 t4 y z in
      deeper_bind _ _ (taken_grows l t4 (omega arith)) (λ xs t5 z. let h = law_left _ (sr.taken n) (taken_law n) t4 t5 xs z in deeper_after _ sr.about about_law _ _ t5 (λ u t6 i. deeper_want _ _ _ t6 (λ t7 j. deeper_want _ _ _ t7 (λ t8 k.
      deeper_bind _ _ (stmts_grows n n' l t8 le (omega arith)) (λ ys t9 z. same refl)))))))))

  pub functions_grows : (l : ℕ) (ts : List Symbol) → length ts ≤ l → Deeper n l (sr.functions n ts) (sr.functions n' ts)
  unfolding sr.functions
  functions_grows l ts b = rows_grows n l (sr.function n) (sr.function n') (o.is_reserved r.Function) (λ us b is. function_grows l us b) (λ us vs x z. law_left _ (sr.function n) (function_law n) us vs x z) ts b
