-- The machine reads bodies and functions as the readers do.
use Rattle.std.proofs.Common.{◌≡◌, ℕ, zero, suc, ◌+◌, ◌-◌, ◌<◌, ◌≤◌, Bool, cond, List, [], ◌∷◌, length, Some, None, refl, arith}
use Rattle.idl_token.specs.declared.kinds.Reserved.TheVariants as r
use Rattle.idl_token.specs.declared.kinds.Sign.TheVariants as s
use Rattle.idl_token.specs.Symbol.{Symbol}
use Rattle.idl_token.specs.Symbol as t
use Rattle.idl_grammar.specs.Outcome as o
use Rattle.idl_grammar.specs.Outcome.{◌>>=◌}
use Rattle.idl_grammar.specs.StmtReader as sr
use Rattle.idl_fault.specs.Machine as m
use Rattle.idl_fault.specs.Machine.{takes, passes, plan, frames, Runs}
use Rattle.idl_fault.specs.Verdict.{verdict}
use Rattle.idl_fault.proofs.Steps.{Follows, ends, follows_map, binds, takes_on, passes_on, reserved_next_on, expects, reserves, names}
use Rattle.idl_fault.proofs.Lists.{Fewer, commas_on, rows_on}
use Rattle.idl_fault.proofs.WidthRuns.{In}
use Rattle.idl_fault.proofs.StmtRuns.{shape_on, stmt_on, when_on}
use Rattle.idl_fault.proofs.Verdicts.{follows_all}

-- ---- plans by a test

stmts_is : (b : Bool) (ts : List Symbol) → plan b m.stmts (o.head ts) ≡ cond (o.sees sr.begins ts) (passes (m.stmt ∷ m.stmts ∷ [])) (passes [])
stmts_is b [] = refl
stmts_is b (c ∷ ts) = refl

functions_is : (b : Bool) (ts : List Symbol) → plan b m.functions (o.head ts) ≡ cond (o.sees (o.is_reserved r.Function) ts) (passes (m.function ∷ m.functions ∷ [])) (passes [])
functions_is b [] = refl
functions_is b (t.reserved r.Function ∷ ts) = refl
functions_is b (c ∷ ts) = refl

result_is : (b : Bool) (ts : List Symbol) → plan b m.result (o.head ts) ≡ cond (o.sees (o.is_reserved r.Returns) ts) (takes (m.shape ∷ [])) (passes [])
result_is b [] = refl
result_is b (t.reserved r.Returns ∷ ts) = refl
result_is b (c ∷ ts) = refl

taken_is : (b : Bool) (ts : List Symbol) → plan b m.taken (o.head ts) ≡ cond (o.sees (o.is_reserved r.Arguments) ts) (takes (m.arguments ∷ [])) (passes [])
taken_is b [] = refl
taken_is b (t.reserved r.Arguments ∷ ts) = refl
taken_is b (c ∷ ts) = refl

more_arguments_is : (b : Bool) (ts : List Symbol) → plan b m.more_arguments (o.head ts) ≡ cond (o.sees (o.is_sign s.Comma) ts) (takes (m.arguments ∷ [])) (passes [])
more_arguments_is b [] = refl
more_arguments_is b (t.sign s.Comma ∷ ts) = refl
more_arguments_is b (c ∷ ts) = refl

about_is : (b : Bool) (ts : List Symbol) → plan b m.about (o.head ts) ≡ cond (o.sees (o.is_reserved r.Description) ts) (takes (m.sign s.OpenBrace ∷ m.about_text ∷ [])) (passes [])
about_is b [] = refl
about_is b (t.reserved r.Description ∷ ts) = refl
about_is b (c ∷ ts) = refl

-- ---- bodies

mutual
  unfolding sr.stmts sr.after_if

  pub stmts_on : (n : ℕ) (ts : List Symbol) (b : Bool) → suc (length ts) < n → Follows (Fewer (suc (length ts))) (m.stmts ∷ []) (sr.stmts n ts) b ts
  stmts_on zero ts b lt = absurd (omega arith)
  stmts_on (suc n) ts b lt = rows_on n sr.begins (sr.stmt n (sr.stmts n) (sr.after_if n)) m.stmt m.stmts stmts_is (stmt_on n (sr.stmts n) (sr.after_if n) (λ us c le. stmts_on n us c le) (λ us c le. after_if_on n us c le)) ts b (omega arith)

  after_if_on : (n : ℕ) (ts : List Symbol) (b : Bool) → suc (suc (length ts)) < n → Follows (Fewer (length ts)) (m.when ∷ []) (sr.after_if n ts) b ts
  after_if_on zero ts b lt = absurd (omega arith)
  after_if_on (suc n) ts b lt = when_on n (sr.stmts n) (sr.after_if n) (λ us c le. stmts_on n us c le) (λ us c le. after_if_on n us c le) (length ts) ts b (omega arith) (omega arith)

-- ---- functions

result_on : (n : ℕ) (ts : List Symbol) (b : Bool) → length ts ≤ n → Follows (Fewer (suc (length ts))) (m.result ∷ []) (sr.result n ts) b ts
unfolding sr.result
result_on n ts b le = reserved_next_on r.Returns (sr.shape n >>= (λ x. o.pure (Some x.0, x.1))) (o.pure (None, 0)) (result_is b ts) (λ us d. binds (shape_on n us b (omega arith)) (λ x vs c h. let less = h.less in ends (record { less = omega arith }))) (ends (record { less = omega arith }))

argument_on : (n : ℕ) (ts : List Symbol) (b : Bool) → length ts ≤ n → Follows (In 0 (length ts)) (m.shape ∷ m.word ∷ []) (sr.argument n ts) b ts
unfolding sr.argument
argument_on n ts b le = binds (shape_on n ts b le) (λ x us c h. let less = h.less in let high = h.high in names (λ y vs d. ends (record { low = omega arith; less = omega arith; high = omega arith })))

taken_on : (n : ℕ) (ts : List Symbol) (b : Bool) → length ts ≤ n → Follows (Fewer (suc (length ts))) (m.taken ∷ []) (sr.taken n ts) b ts
unfolding sr.taken
taken_on n ts b le = reserved_next_on r.Arguments (o.commas (sr.argument n)) (o.pure ([], 0)) (taken_is b ts)
    (λ us d. follows_fewer us d (commas_on n (sr.argument n) (m.shape ∷ m.word ∷ []) m.arguments m.more_arguments (λ b c. refl) more_arguments_is (λ ts b lt. argument_on n ts b (omega arith)) us b (omega arith))) (ends (record { less = omega arith }))
  where
    follows_fewer : (us : List Symbol) → length us < length ts → Follows (In 0 (length us)) (m.arguments ∷ []) (o.commas (sr.argument n) us) b us → Follows (Fewer (suc (length ts))) (m.arguments ∷ []) (o.commas (sr.argument n) us) b us
    follows_fewer us d first = follows_map (λ x c us h. record { less = let less = h.less in omega arith }) first

about_text_on : (l : ℕ) (ts : List Symbol) (b : Bool) → length ts < l → Follows (Fewer l) (m.about_text ∷ []) (o.choose sr.about_by (o.expect s.CloseBrace >>= (λ _. o.pure tt)) ts) b ts
about_text_on l [] b lt = passes_on refl (expects s.CloseBrace _ (λ us d. ends (record { less = omega arith })))
about_text_on l (t.described ∷ ts) b lt = takes_on refl (expects s.CloseBrace _ (λ us d. ends (record { less = omega arith })))
about_text_on l (c ∷ ts) b lt = passes_on refl (expects s.CloseBrace _ (λ us d. ends (record { less = omega arith })))

about_on : (ts : List Symbol) (b : Bool) → Follows (Fewer (suc (length ts))) (m.about ∷ []) (sr.about ts) b ts
unfolding sr.about
about_on ts b = reserved_next_on r.Description (o.expect s.OpenBrace >>= (λ _. o.choose sr.about_by (o.expect s.CloseBrace >>= (λ _. o.pure tt)))) (o.pure tt) (about_is b ts) (λ us d. expects s.OpenBrace _ (λ vs f. about_text_on (suc (length ts)) vs b (omega arith))) (ends (record { less = omega arith }))

function_on : (n : ℕ) (ts : List Symbol) (b : Bool) → suc (length ts) < n → Follows (Fewer (length ts)) (m.function ∷ []) (sr.function n ts) b ts
unfolding sr.function
function_on n ts b lt = passes_on refl (reserves r.Function _ (λ t1 d1. names (λ x t2 d2. expects s.OpenBrace _ (λ t3 d3. binds (result_on n t3 b (omega arith)) (λ y t4 c h. let d4 = h.less in binds (taken_on n t4 c (omega arith)) (λ xs t5 f i. let d5 = i.less in
    binds (about_on t5 f) (λ u t6 g j. let d6 = j.less in reserves r.Body _ (λ t7 d7. expects s.OpenBrace _ (λ t8 d8. binds (stmts_on n t8 g (omega arith)) (λ ys t9 w k. let d9 = k.less in
    expects s.CloseBrace _ (λ u1 e1. expects s.CloseBrace _ (λ u2 e2. ends (record { less = omega arith })))))))))))))

pub functions_on : (n : ℕ) (ts : List Symbol) (b : Bool) → suc (length ts) < n → Follows (Fewer (suc (length ts))) (m.functions ∷ []) (sr.functions n ts) b ts
unfolding sr.functions
functions_on n ts b lt = rows_on (n - 1) (o.is_reserved r.Function) (sr.function n) m.function m.functions functions_is (λ us c le. function_on n us c (omega arith)) ts b (omega arith)

-- ---- all of the tokens

pub body_runs : (b : Bool) (ts : List Symbol) → Runs (frames (m.stmts ∷ [])) b ts (verdict (sr.whole_body (length ts + 2) ts))
unfolding sr.whole_body
body_runs b ts = follows_all (stmts_on (length ts + 2) ts b (omega arith))

pub functions_run : (b : Bool) (ts : List Symbol) → Runs (frames (m.functions ∷ [])) b ts (verdict (sr.whole_functions (length ts + 2) ts))
unfolding sr.whole_functions
functions_run b ts = follows_all (functions_on (length ts + 2) ts b (omega arith))
