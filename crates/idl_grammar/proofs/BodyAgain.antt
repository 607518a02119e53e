-- Bodies and functions of the grammar are read as what they read as.
use Rattle.std.proofs.Common.{◌≡◌, ℕ, zero, suc, ◌+◌, ◌<◌, ◌≤◌, true, false, List, ◌∷◌, length, Option, Some, Ok, refl, arith}
use Rattle.idl_token.specs.declared.kinds.Reserved.{Reserved}
use Rattle.idl_token.specs.declared.kinds.Reserved.TheVariants as r
use Rattle.idl_token.specs.declared.kinds.Sign.TheVariants as s
use Rattle.idl_tree.specs.declared.widths.Shape.{Shape}
use Rattle.idl_tree.specs.declared.statements.Stmt.{Stmt}
use Rattle.idl_tree.specs.declared.programs.Argument.{Argument}
use Rattle.idl_tree.specs.declared.programs.Function.{Function}
use Rattle.idl_token.specs.Symbol.{Symbol}
use Rattle.idl_token.specs.Symbol as t
use Rattle.idl_grammar.specs.StmtGrammar as g
use Rattle.idl_grammar.specs.StmtGrammar.{short_shape, ReadsShape, ReadsTarget, ReadsStmt, ReadsStmts, ReadsResult, ReadsArgument, ReadsArguments, ReadsTaken, ReadsAbout, ReadsFunction, ReadsFunctions}
use Rattle.idl_grammar.specs.Outcome as o
use Rattle.idl_grammar.specs.Outcome.{Outcome, Reader}
use Rattle.idl_grammar.specs.StmtReader as sr
use Rattle.idl_grammar.specs.StmtReader.{Rows, One}
use Rattle.idl_grammar.proofs.StmtBounds.{stmt_bounded, stmts_bounded, argument_bounded, arguments_bounded, function_bounded, functions_bounded}
use Rattle.idl_grammar.proofs.StmtAgain.{shape_again, stmt_again, if_again}

-- ---- how statements begin

short_begins : (c : Reserved) (x : Shape) → short_shape c ≡ Some x → sr.begins_reserved c ≡ true
short_begins r.XReg x is = refl
short_begins r.U32 x is = refl
short_begins r.U64 x is = refl
short_begins r.Boolean x is = refl
short_begins r.PrivilegeMode x is = refl
short_begins r.ExceptionCode x is = refl
short_begins r.CsrFieldType x is = refl
short_begins c x is = absurd cc

short_no_else : (c : Reserved) (x : Shape) (us : List Symbol) → short_shape c ≡ Some x → o.sees (o.is_reserved r.Else) (t.reserved c ∷ us) ≡ false
short_no_else r.Else x us is = absurd cc
short_no_else c x us is = refl

shape_begins : {h : ℕ} {ts us : List Symbol} {x : Shape} → ReadsShape h ts us x → o.sees sr.begins ts ≡ true
shape_begins (g.bits q) = refl
shape_begins (g.signed_bits q) = refl
shape_begins (g.short {c} {x} is) = short_begins c x is

shape_no_else : {h : ℕ} {ts us : List Symbol} {x : Shape} → ReadsShape h ts us x → o.sees (o.is_reserved r.Else) ts ≡ false
shape_no_else (g.bits q) = refl
shape_no_else (g.signed_bits q) = refl
shape_no_else (g.short {c} {x} {us} is) = short_no_else c x us is

stmt_begins : {h : ℕ} {ts us : List Symbol} {x : Stmt} → ReadsStmt h ts us x → o.sees sr.begins ts ≡ true
stmt_begins (g.declare q m) = shape_begins q
stmt_begins (g.assign g.word m) = refl
stmt_begins (g.assign (g.part q) m) = refl
stmt_begins (g.assign (g.register q) m) = refl
stmt_begins (g.assign g.field m) = refl
stmt_begins q = refl

stmt_no_else : {h : ℕ} {ts us : List Symbol} {x : Stmt} → ReadsStmt h ts us x → o.sees (o.is_reserved r.Else) ts ≡ false
stmt_no_else (g.declare q m) = shape_no_else q
stmt_no_else (g.assign g.word m) = refl
stmt_no_else (g.assign (g.part q) m) = refl
stmt_no_else (g.assign (g.register q) m) = refl
stmt_no_else (g.assign g.field m) = refl
stmt_no_else q = refl

stmts_no_else : {h : ℕ} {ts us : List Symbol} {xs : List Stmt} → ReadsStmts h ts us xs → o.sees (o.is_reserved r.Else) us ≡ false → o.sees (o.is_reserved r.Else) ts ≡ false
stmts_no_else g.none none = none
stmts_no_else (g.then q m) none = stmt_no_else q

-- ---- bodies

abbrev One_again : ℕ → Reader One → Type 0
One_again n one = (h : ℕ) (ts us : List Symbol) (x : Stmt) → ReadsStmt h ts us x → h ≤ n → o.sees (o.is_reserved r.Else) us ≡ false → one ts ≡ Ok ((x, h), us)

rows_again : (n : ℕ) (one : Reader One) → One_again n one → (h : ℕ) (ts us : List Symbol) (xs : List Stmt) → ReadsStmts h ts us xs → h ≤ n → (f : ℕ) → length ts < f + length us → o.sees sr.begins us ≡ false → o.sees (o.is_reserved r.Else) us ≡ false
    → o.repeated sr.begins one f ts ≡ Ok ((xs, h), us)
unfolding o.repeated
rows_again n one again h ts us xs q le zero lt ends none = let b = stmts_bounded q in absurd (omega arith)
rows_again n one again h ts us xs g.none le (suc f) lt ends none = rw ends refl
rows_again n one again _ _ _ _ (g.then {h} {i} {ts} {us} {vs} {x} {xs} q m) le (suc f) lt ends none =
    let b = stmt_bounded q in let low = b.low in let high = b.high in
    let grown = stmt_begins q in let first = again h ts us x q (omega arith) (stmts_no_else m none) in
    let second = rows_again n one again i us vs xs m (omega arith) f (omega arith) ends none in
    rw (grown, first, second) refl

nothing_again : (h : ℕ) (ts us : List Symbol) (xs : List Stmt) → ReadsStmts h ts us xs → h ≤ 0 → o.sees sr.begins us ≡ false → o.sees (o.is_reserved r.Else) us ≡ false → o.rows sr.begins (o.refuse {A = One}) ts ≡ Ok ((xs, h), us)
unfolding o.rows
nothing_again h ts us xs q le ends none = rows_again 0 (o.refuse {A = One}) (λ h ts us x q le none. let low = (stmt_bounded q).low in absurd (omega arith)) h ts us xs q le (suc (length ts)) (omega arith) ends none

mutual
  unfolding sr.stmts sr.after_if o.rows

  pub stmts_again : (n h : ℕ) (ts us : List Symbol) (xs : List Stmt) → ReadsStmts h ts us xs → h ≤ n → o.sees sr.begins us ≡ false → o.sees (o.is_reserved r.Else) us ≡ false → sr.stmts n ts ≡ Ok ((xs, h), us)
  stmts_again zero h ts us xs q le ends none = nothing_again h ts us xs q le ends none
  stmts_again (suc n) h ts us xs q le ends none = rows_again (suc n) (sr.stmt n (sr.stmts n) (sr.after_if n)) (λ h ts us x q le none. stmt_again n (sr.stmts n) (sr.after_if n) (stmts_again n) (after_if_again n) q le none) h ts us xs q le (suc (length ts)) (omega arith) ends none

  pub after_if_again : (n h : ℕ) (ts us : List Symbol) (x : Stmt) → ReadsStmt h (t.reserved r.If ∷ ts) us x → h ≤ n → o.sees (o.is_reserved r.Else) us ≡ false → sr.after_if n ts ≡ Ok ((x, h), us)
  after_if_again zero h ts us x q le none = let low = (stmt_bounded q).low in absurd (omega arith)
  after_if_again (suc n) h ts us x q le none = if_again n (sr.stmts n) (sr.after_if n) (stmts_again n) (after_if_again n) q le none

-- ---- functions

result_again : (n : ℕ) {h : ℕ} {ts us : List Symbol} {x : Option Shape} → ReadsResult h ts us x → h ≤ n → o.sees (o.is_reserved r.Returns) us ≡ false → sr.result n ts ≡ Ok ((x, h), us)
unfolding sr.result
result_again n g.no_result le none = rw none refl
result_again n (g.result q) le none = let first = shape_again n q le in rw first refl

argument_again : (n h : ℕ) (ts us : List Symbol) (x : Argument) → ReadsArgument h ts us x → h ≤ n → sr.argument n ts ≡ Ok ((x, h), us)
unfolding sr.argument o.name
argument_again n _ _ _ _ (g.argument q) le = let first = shape_again n q le in rw first refl

arguments_again : (n h : ℕ) (ts us : List Symbol) (xs : List Argument) → ReadsArguments h ts us xs → h ≤ n → (f : ℕ) → length ts < f + length us → o.sees (o.is_sign s.Comma) us ≡ false → o.separated (sr.argument n) f ts ≡ Ok ((xs, h), us)
unfolding o.separated
arguments_again n h ts us xs q le zero lt none = let b = arguments_bounded q in absurd (omega arith)
arguments_again n _ _ _ _ (g.one {h} {ts} {us} {x} q) le (suc f) lt none = let first = argument_again n h ts us x q le in rw (first, none) refl
arguments_again n _ _ _ _ (g.several {h} {i} {ts} {us} {vs} {x} {xs} q m) le (suc f) lt none =
    let first = argument_again n h ts (t.sign s.Comma ∷ us) x q (omega arith) in let b = argument_bounded q in
    let second = arguments_again n i us vs xs m (omega arith) f (omega arith) none in
    rw (first, second) refl

taken_again : (n : ℕ) {h : ℕ} {ts us : List Symbol} {xs : List Argument} → ReadsTaken h ts us xs → h ≤ n → o.sees (o.is_sign s.Comma) us ≡ false → o.sees (o.is_reserved r.Arguments) us ≡ false → sr.taken n ts ≡ Ok ((xs, h), us)
unfolding sr.taken o.commas
taken_again n g.no_arguments le none none' = rw none' refl
taken_again n (g.arguments {h} {ts} {us} {xs} q) le none none' = arguments_again n h ts us xs q le (suc (length ts)) (omega arith) none

about_again : {ts us : List Symbol} → ReadsAbout ts us → o.sees (o.is_reserved r.Description) us ≡ false → sr.about ts ≡ Ok (tt, us)
unfolding sr.about o.want
about_again g.no_description none = rw none refl
about_again g.empty none = refl
about_again g.described none = refl

about_begins : {ts us : List Symbol} → ReadsAbout ts us → o.sees (o.is_sign s.Comma) us ≡ false → o.sees (o.is_sign s.Comma) ts ≡ false
about_begins g.no_description e = e
about_begins g.empty e = refl
about_begins g.described e = refl

about_no_arguments : {ts us : List Symbol} → ReadsAbout ts us → o.sees (o.is_reserved r.Arguments) us ≡ false → o.sees (o.is_reserved r.Arguments) ts ≡ false
about_no_arguments g.no_description e = e
about_no_arguments g.empty e = refl
about_no_arguments g.described e = refl

about_no_returns : {ts us : List Symbol} → ReadsAbout ts us → o.sees (o.is_reserved r.Returns) us ≡ false → o.sees (o.is_reserved r.Returns) ts ≡ false
about_no_returns g.no_description e = e
about_no_returns g.empty e = refl
about_no_returns g.described e = refl

taken_no_returns : {h : ℕ} {ts us : List Symbol} {xs : List Argument} → ReadsTaken h ts us xs → o.sees (o.is_reserved r.Returns) us ≡ false → o.sees (o.is_reserved r.Returns) ts ≡ false
taken_no_returns g.no_arguments e = e
taken_no_returns (g.arguments q) e = refl

function_again : (n h : ℕ) (ts us : List Symbol) (x : Function) → ReadsFunction h ts us x → h ≤ n → sr.function n ts ≡ Ok ((x, h), us)
unfolding sr.function o.want o.name
function_again n _ _ _ _ (g.function {h} {i} {j} {x} {ts} {us} {vs} {ws} {zs} {y} {xs} {ys} q m a l) le =
    let first = result_again n q (omega arith) (taken_no_returns m (about_no_returns a refl)) in
    let second = taken_again n m (omega arith) (about_begins a refl) (about_no_arguments a refl) in
    let third = about_again a refl in
    let fourth = stmts_again n j ws (t.sign s.CloseBrace ∷ t.sign s.CloseBrace ∷ zs) ys l (omega arith) refl refl in
    rw (first, second, third, fourth) refl

functions_from : (n h : ℕ) (ts us : List Symbol) (xs : List Function) → ReadsFunctions h ts us xs → h ≤ n → (f : ℕ) → length ts < f + length us → o.sees (o.is_reserved r.Function) us ≡ false → o.repeated (o.is_reserved r.Function) (sr.function n) f ts ≡ Ok ((xs, h), us)
unfolding o.repeated
functions_from n h ts us xs q le zero lt ends = let b = functions_bounded q in absurd (omega arith)
functions_from n h ts us xs g.none le (suc f) lt ends = rw ends refl
functions_from n _ _ _ _ (g.then {h} {i} {ts} {us} {vs} {x} {xs} q m) le (suc f) lt ends =
    let b = function_bounded q in
    let grown = function_begins q in let first = function_again n h ts us x q (omega arith) in
    let second = functions_from n i us vs xs m (omega arith) f (omega arith) ends in
    rw (grown, first, second) refl
  where
    function_begins : {h : ℕ} {ts us : List Symbol} {x : Function} → ReadsFunction h ts us x → o.sees (o.is_reserved r.Function) ts ≡ true
    function_begins (g.function q m a l) = refl

pub functions_again : (n h : ℕ) (ts us : List Symbol) (xs : List Function) → ReadsFunctions h ts us xs → h ≤ n → o.sees (o.is_reserved r.Function) us ≡ false → sr.functions n ts ≡ Ok ((xs, h), us)
unfolding sr.functions o.rows
functions_again n h ts us xs q le ends = functions_from n h ts us xs q le (suc (length ts)) (omega arith) ends
