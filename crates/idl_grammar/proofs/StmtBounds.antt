-- Types, statements and functions take more tokens than they nest.
use Rattle.std.proofs.Common.{ℕ, ◌+◌, ◌<◌, ◌≤◌, List, Option, length, arith}
use Rattle.idl_tree.specs.declared.widths.Shape.{Shape}
use Rattle.idl_tree.specs.declared.statements.Target.{Target}
use Rattle.idl_tree.specs.declared.statements.Stmt.{Stmt}
use Rattle.idl_tree.specs.declared.programs.Argument.{Argument}
use Rattle.idl_tree.specs.declared.programs.Function.{Function}
use Rattle.idl_token.specs.Symbol.{Symbol}
use Rattle.idl_grammar.specs.StmtGrammar as g
use Rattle.idl_grammar.specs.StmtGrammar.{ReadsShape, ReadsTarget, ReadsStmt, ReadsElse, ReadsStmts, ReadsResult, ReadsArgument, ReadsArguments, ReadsTaken, ReadsAbout, ReadsFunction, ReadsFunctions}
use Rattle.idl_grammar.proofs.Bounds.{Bounded, width_bounded, expr_bounded, args_bounded, inside_bounded}

pub shape_bounded : {h : ℕ} {ts us : List Symbol} {x : Shape} → ReadsShape h ts us x → h + length us < length ts
shape_bounded (g.bits q) = let i = width_bounded q in omega arith
shape_bounded (g.signed_bits q) = let i = width_bounded q in omega arith
shape_bounded (g.short e) = omega arith

pub target_bounded : {h : ℕ} {ts us : List Symbol} {x : Target} → ReadsTarget h ts us x → Bounded h ts us
target_bounded g.word = record { low = omega arith; high = omega arith }
target_bounded (g.part q) = let i = inside_bounded q in record { low = omega arith; high = omega arith }
target_bounded (g.register q) = let i = expr_bounded q in record { low = omega arith; high = omega arith }
target_bounded g.field = record { low = omega arith; high = omega arith }

mutual
  pub stmt_bounded : {h : ℕ} {ts us : List Symbol} {x : Stmt} → ReadsStmt h ts us x → Bounded h ts us
  stmt_bounded (g.declare q p) = let i = shape_bounded q in let j = expr_bounded p in record { low = omega arith; high = omega arith }
  stmt_bounded (g.assign q p) = let i = target_bounded q in let j = expr_bounded p in record { low = omega arith; high = omega arith }
  stmt_bounded (g.block q) = let i = stmts_bounded q in record { low = omega arith; high = omega arith }
  stmt_bounded (g.give q) = let i = expr_bounded q in record { low = omega arith; high = omega arith }
  stmt_bounded (g.when q p m) = let i = expr_bounded q in let j = stmts_bounded p in let k = else_bounded m in record { low = omega arith; high = omega arith }
  stmt_bounded (g.count q p m) = let i = width_bounded q in let j = width_bounded p in let k = stmts_bounded m in record { low = omega arith; high = omega arith }
  stmt_bounded (g.jump q) = let i = expr_bounded q in record { low = omega arith; high = omega arith }
  stmt_bounded (g.trap q p) = let i = expr_bounded q in let j = expr_bounded p in record { low = omega arith; high = omega arith }
  stmt_bounded (g.write_memory e q p) = let i = expr_bounded q in let j = expr_bounded p in record { low = omega arith; high = omega arith }
  stmt_bounded (g.soft_write q p) = let i = expr_bounded q in let j = expr_bounded p in record { low = omega arith; high = omega arith }
  stmt_bounded g.call_none = record { low = omega arith; high = omega arith }
  stmt_bounded (g.call q) = let i = args_bounded q in record { low = omega arith; high = omega arith }

  pub else_bounded : {h : ℕ} {ts us : List Symbol} {x : Option (List Stmt)} → ReadsElse h ts us x → h + length us ≤ length ts
  else_bounded g.no_else = omega arith
  else_bounded (g.otherwise q) = let i = stmts_bounded q in omega arith
  else_bounded (g.else_if q) = let i = stmt_bounded q in omega arith

  pub stmts_bounded : {h : ℕ} {ts us : List Symbol} {xs : List Stmt} → ReadsStmts h ts us xs → h + length us ≤ length ts
  stmts_bounded g.none = omega arith
  stmts_bounded (g.then q p) = let i = stmt_bounded q in let j = stmts_bounded p in omega arith

-- ---- functions

result_bounded : {h : ℕ} {ts us : List Symbol} {x : Option Shape} → ReadsResult h ts us x → h + length us ≤ length ts
result_bounded g.no_result = omega arith
result_bounded (g.result q) = let i = shape_bounded q in omega arith

pub argument_bounded : {h : ℕ} {ts us : List Symbol} {x : Argument} → ReadsArgument h ts us x → h + length us < length ts
argument_bounded (g.argument q) = let i = shape_bounded q in omega arith

pub arguments_bounded : {h : ℕ} {ts us : List Symbol} {xs : List Argument} → ReadsArguments h ts us xs → h + length us < length ts
arguments_bounded (g.one q) = argument_bounded q
arguments_bounded (g.several q p) = let i = argument_bounded q in let j = arguments_bounded p in omega arith

taken_bounded : {h : ℕ} {ts us : List Symbol} {xs : List Argument} → ReadsTaken h ts us xs → h + length us ≤ length ts
taken_bounded g.no_arguments = omega arith
taken_bounded (g.arguments q) = let i = arguments_bounded q in omega arith

about_bounded : {ts us : List Symbol} → ReadsAbout ts us → length us ≤ length ts
about_bounded g.no_description = omega arith
about_bounded g.empty = omega arith
about_bounded g.described = omega arith

pub function_bounded : {h : ℕ} {ts us : List Symbol} {x : Function} → ReadsFunction h ts us x → h + length us < length ts
function_bounded (g.function q p m k) = let i = result_bounded q in let j = taken_bounded p in let l = about_bounded m in let n = stmts_bounded k in omega arith

pub functions_bounded : {h : ℕ} {ts us : List Symbol} {xs : List Function} → ReadsFunctions h ts us xs → h + length us ≤ length ts
functions_bounded g.none = omega arith
functions_bounded (g.then q p) = let i = function_bounded q in let j = functions_bounded p in omega arith
