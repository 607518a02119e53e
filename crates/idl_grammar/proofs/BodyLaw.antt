-- The readers of bodies and of functions keep the law.
use Rattle.std.proofs.Common.{ℕ, zero, suc, ◌-◌, ◌<◌, ◌≤◌, List, [], ◌∷◌, ◌++◌, length, Option, arith}
use Rattle.idl_token.specs.declared.kinds.Reserved.TheVariants as r
use Rattle.idl_token.specs.declared.kinds.Sign.TheVariants as s
use Rattle.idl_tree.specs.declared.widths.Shape.{Shape}
use Rattle.idl_tree.specs.declared.programs.Argument.{Argument}
use Rattle.idl_tree.specs.declared.programs.Function.{Function}
use Rattle.idl_token.specs.Symbol.{Symbol}
use Rattle.idl_token.specs.Symbol as t
use Rattle.idl_grammar.specs.StmtGrammar as g
use Rattle.idl_grammar.specs.StmtGrammar.{ReadsResult, ReadsArgument, ReadsArguments, ReadsTaken, ReadsAbout, ReadsFunction, ReadsFunctions}
use Rattle.idl_grammar.specs.Outcome as o
use Rattle.idl_grammar.specs.Outcome.{Reader, take, stop, pass}
use Rattle.idl_grammar.specs.StmtReader as sr
use Rattle.idl_grammar.specs.StmtReader.{Rows, One}
use Rattle.idl_grammar.proofs.Law.{Reads, behind, Law, LawMove, law_pure, law_map, law_bind, law_choose, law_if_reserved, law_expect, law_reserved, law_name}
use Rattle.idl_grammar.proofs.ListLaw.{commas_law, rows_law, no_rows_law}
use Rattle.idl_grammar.proofs.StmtLaw.{shape_law, StmtAt, StmtsAt, stmt_law, when_law}
use Rattle.idl_grammar.proofs.StmtBounds.{stmt_bounded, argument_bounded, function_bounded}

-- ---- bodies

pub stmt_shortens : (n : ℕ) (ts us : List Symbol) (x : One) → StmtAt n ts us x → length us < length ts
stmt_shortens n ts us x q = let b = stmt_bounded q.reads in let l = b.low in let h = b.high in omega arith

mutual
  unfolding sr.stmts sr.after_if

  pub stmts_law : (n : ℕ) → Law (StmtsAt n) (sr.stmts n)
  stmts_law zero = no_rows_law sr.begins (StmtsAt 0) (λ us. record { reads = g.none; within = omega arith })
  stmts_law (suc n) = rows_law sr.begins _ (StmtAt (suc n)) (StmtsAt (suc n)) (λ us. record { reads = g.none; within = omega arith })
      (λ ts us vs x xs q v. record { reads = g.then q.reads v.reads; within = let i = q.within in let j = v.within in omega arith })
      (stmt_law n (sr.stmts n) (sr.after_if n) (stmts_law n) (after_if_law n)) (stmt_shortens (suc n))

  pub after_if_law : (n : ℕ) → 1 ≤ n - 1 → Law (behind (t.reserved r.If ∷ []) (StmtAt n)) (sr.after_if n)
  after_if_law zero le = absurd (omega arith)
  after_if_law (suc n) le = when_law n (sr.stmts n) (sr.after_if n) (stmts_law n) (after_if_law n) (omega arith)

-- ---- functions

pub record ResultAt (n : ℕ) (ts us : List Symbol) (x : Option Shape × ℕ) : Type 0 where
  pub reads : ReadsResult x.1 ts us x.0
  pub within : x.1 ≤ n

pub record ArgumentAt (n : ℕ) (ts us : List Symbol) (x : Argument × ℕ) : Type 0 where
  pub reads : ReadsArgument x.1 ts us x.0
  pub within : x.1 ≤ n

pub record ArgumentsAt (n : ℕ) (ts us : List Symbol) (x : List Argument × ℕ) : Type 0 where
  pub reads : ReadsArguments x.1 ts us x.0
  pub within : x.1 ≤ n

pub record TakenAt (n : ℕ) (ts us : List Symbol) (x : List Argument × ℕ) : Type 0 where
  pub reads : ReadsTaken x.1 ts us x.0
  pub within : x.1 ≤ n

pub record FunctionAt (n : ℕ) (ts us : List Symbol) (x : Function × ℕ) : Type 0 where
  pub reads : ReadsFunction x.1 ts us x.0
  pub within : x.1 ≤ n

pub record FunctionsAt (n : ℕ) (ts us : List Symbol) (x : List Function × ℕ) : Type 0 where
  pub reads : ReadsFunctions x.1 ts us x.0
  pub within : x.1 ≤ n

pub result_law : (n : ℕ) → Law (ResultAt n) (sr.result n)
unfolding sr.result
result_law n = law_if_reserved r.Returns _ _ (law_bind _ _ (shape_law n) (λ x a q. law_pure _ _ (λ us. let k = q us in record { reads = g.result k.reads; within = k.within })))
    (law_pure _ _ (λ us. record { reads = g.no_result; within = omega arith }))

pub argument_law : (n : ℕ) → Law (ArgumentAt n) (sr.argument n)
unfolding sr.argument
argument_law n = law_bind _ _ (shape_law n) (λ x a q. law_name _ (λ y. law_pure _ _ (λ us. let k = q (t.word y ∷ us) in record { reads = g.argument k.reads; within = k.within })))

pub taken_law : (n : ℕ) → Law (TakenAt n) (sr.taken n)
unfolding sr.taken
taken_law n = law_if_reserved r.Arguments _ _ (law_map _ (λ ts us x q. record { reads = g.arguments q.reads; within = q.within })
    (commas_law (sr.argument n) (ArgumentAt n) (ArgumentsAt n) (λ ts us x q. record { reads = g.one q.reads; within = q.within })
    (λ ts us vs x xs q v. record { reads = g.several q.reads v.reads; within = let i = q.within in let j = v.within in omega arith })
    (argument_law n) (λ ts us x q. let b = argument_bounded q.reads in omega arith)))
    (law_pure _ _ (λ us. record { reads = g.no_arguments; within = omega arith }))

abbrev pub AboutAt : Reads (Unit {0})
AboutAt ts us x = ReadsAbout ts us

about_move : (c : Symbol) → LawMove (behind (c ∷ []) (behind (t.reserved r.Description ∷ t.sign s.OpenBrace ∷ []) AboutAt)) (sr.about_by c)
about_move t.described = law_expect _ _ (law_pure _ _ (λ us. g.described))
about_move c = tt

pub about_law : Law AboutAt sr.about
unfolding sr.about
about_law = law_if_reserved r.Description _ _ (law_expect _ _ (law_choose sr.about_by _ about_move (law_expect _ _ (law_pure _ _ (λ us. g.empty))))) (law_pure _ _ (λ us. g.no_description))

pub function_law : (n : ℕ) → Law (FunctionAt n) (sr.function n)
unfolding sr.function
function_law n = law_reserved _ _ (law_name _ (λ x. law_expect _ _ (law_bind _ _ (result_law n) (λ y a q. law_bind _ _ (taken_law n) (λ xs b v. law_bind _ _ about_law (λ u d m. law_reserved _ _ (law_expect _ _
    (law_bind _ _ (stmts_law n) (λ ys f l. law_expect _ _ (law_expect _ _ (law_pure _ _ (λ us.
    let end = t.sign s.CloseBrace ∷ t.sign s.CloseBrace ∷ us in let inside = t.reserved r.Body ∷ t.sign s.OpenBrace ∷ (f ++ end) in
    let i = q (b ++ (d ++ inside)) in let j = v (d ++ inside) in let k = l end in
    record { reads = g.function i.reads j.reads (m inside) k.reads; within = let i' = i.within in let j' = j.within in let k' = k.within in omega arith }))))))))))))

pub functions_law : (n : ℕ) → Law (FunctionsAt n) (sr.functions n)
unfolding sr.functions
functions_law n = rows_law (o.is_reserved r.Function) (sr.function n) (FunctionAt n) (FunctionsAt n) (λ us. record { reads = g.none; within = omega arith })
    (λ ts us vs x xs q v. record { reads = g.then q.reads v.reads; within = let i = q.within in let j = v.within in omega arith })
    (function_law n) (λ ts us x q. let b = function_bounded q.reads in omega arith)
