-- The readers of statements by the readers within one level less, and what they answer.
use Rattle.std.proofs.Common.{◌≡◌, ℕ, zero, suc, ◌-◌, ◌<◌, ◌≤◌, true, List, [], ◌∷◌, length, Some, Ok, Err, refl, ◌∙◌, arith}
use Rattle.std.specs.Prelude.{Result, IfOk}
use Rattle.idl_token.specs.declared.kinds.Reserved.TheVariants as r
use Rattle.idl_token.specs.declared.kinds.Sign.TheVariants as s
use Rattle.idl_tree.specs.declared.widths.Shape.{Shape}
use Rattle.idl_tree.specs.declared.statements.Stmt.{Stmt}
use Rattle.idl_token.specs.Symbol.{Symbol}
use Rattle.idl_grammar.specs.Outcome as o
use Rattle.idl_grammar.specs.StmtReader as sr
use Rattle.idl_grammar.proofs.Apart.{law_reads}
use Rattle.idl_grammar.proofs.ListLaw.{Takes, law_takes}
use Rattle.idl_grammar.proofs.StmtBounds.{argument_bounded, function_bounded}
use Rattle.idl_grammar.proofs.StmtLaw.{ShapeAt, StmtAt, StmtsAt, shape_law, stmt_law}
use Rattle.idl_grammar.proofs.BodyLaw.{ArgumentAt, FunctionAt, stmt_shortens, stmts_law, after_if_law, argument_law, function_law}
use Rattle.idl_exprs.specs.Gives.{Gives, pair}
use Rattle.idl_exprs.specs.declared.stop.Stop.{Stop}
use Rattle.idl_parse.specs.Statements.{at, any_stmt, begins_at, else_if, about_text}

-- ---- what is read is within the limit

pub shape_small : (n : ℕ) (ts us : List Symbol) (q : Result (Shape × ℕ) Stop) → Gives pair (sr.shape n ts) q us → IfOk q (λ x. x.1 ≤ n)
shape_small n ts us (Ok x) e = (law_reads (ShapeAt n) (sr.shape n) (shape_law n) ts us (x.0, x.1) e).within
shape_small n ts us (Err e) k = tt

pub stmts_within : (n : ℕ) (ts us : List Symbol) (xs : List Stmt) (h : ℕ) → sr.stmts n ts ≡ Ok ((xs, h), us) → h ≤ n
stmts_within n ts us xs h e = (law_reads (StmtsAt n) (sr.stmts n) (stmts_law n) ts us (xs, h) e).within

-- ---- what is read takes a token

pub one_takes : (n : ℕ) (ts : List Symbol) → Takes (length ts) (any_stmt n ts)
unfolding any_stmt
one_takes zero ts = tt
one_takes (suc n) ts = law_takes (StmtAt (suc n)) (at sr.stmt n) (stmt_shortens (suc n)) (stmt_law n (sr.stmts n) (sr.after_if n) (stmts_law n) (after_if_law n)) ts

pub argument_takes : (n : ℕ) (ts : List Symbol) → Takes (length ts) (sr.argument n ts)
argument_takes n ts = law_takes (ArgumentAt n) (sr.argument n) (λ us vs x q. let b = argument_bounded q.reads in omega arith) (argument_law n) ts

pub function_takes : (n : ℕ) (ts : List Symbol) → Takes (length ts) (sr.function n ts)
function_takes n ts = law_takes (FunctionAt n) (sr.function n) (λ us vs x q. let b = function_bounded q.reads in omega arith) (function_law n) ts

-- ---- by the readers below

pub stmts_is : (n : ℕ) (ts : List Symbol) → sr.stmts n ts ≡ o.rows sr.begins (any_stmt n) ts
unfolding sr.stmts any_stmt
stmts_is zero ts = refl
stmts_is (suc n) ts = refl

pub one_is : (n : ℕ) (ts : List Symbol) → 1 ≤ n → any_stmt n ts ≡ at sr.stmt (n - 1) ts
unfolding any_stmt
one_is n ts le = go n (n - 1) (omega arith)
  where
    go : (n m : ℕ) → n ≡ suc m → any_stmt n ts ≡ at sr.stmt m ts
    go n m is = rw is refl

pub begins_is : (ts : List Symbol) → o.sees sr.begins ts ≡ begins_at (o.head ts)
begins_is [] = refl
begins_is (c ∷ ts) = refl

pub after_if_is : (n : ℕ) (ts : List Symbol) → 1 ≤ n → sr.after_if n ts ≡ at sr.when (n - 1) ts
unfolding sr.after_if
after_if_is n ts le = go n (n - 1) (omega arith)
  where
    go : (n m : ℕ) → n ≡ suc m → sr.after_if n ts ≡ at sr.when m ts
    go n m is = rw is refl

pub else_if_fails : (n : ℕ) (ts us : List Symbol) → 1 ≤ n → at sr.when (n - 1) ts ≡ Err us → else_if n ts ≡ Err us
else_if_fails n ts us le e = let first = after_if_is n ts le ∙ e in rw first refl

pub else_if_reads : (n : ℕ) (ts us : List Symbol) (x : Stmt) (xs : List Stmt) (h : ℕ) → 1 ≤ n → at sr.when (n - 1) ts ≡ Ok ((x, h), us) → xs ≡ x ∷ [] → else_if n ts ≡ Ok ((Some xs, h), us)
else_if_reads n ts us x xs h le e is = let first = after_if_is n ts le ∙ e in rw (first, is) refl

pub about_is : (ts us : List Symbol) → o.sees (o.is_reserved r.Description) ts ≡ true → o.expect s.OpenBrace (o.after ts) ≡ Ok (tt, us) → sr.about ts ≡ about_text us
unfolding sr.about
about_is ts us some opens = rw (some, opens) refl
