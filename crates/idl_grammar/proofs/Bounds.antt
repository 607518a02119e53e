-- What reads takes more tokens than it nests, and an expression nests.
use Rattle.std.proofs.Common.{ℕ, ◌+◌, ◌<◌, ◌≤◌, Bool, List, length, arith}
use Rattle.idl_tree.specs.declared.widths.Width.{Width}
use Rattle.idl_tree.specs.declared.expressions.Expr.{Expr}
use Rattle.idl_token.specs.Symbol.{Symbol}
use Rattle.idl_grammar.specs.WidthGrammar as w
use Rattle.idl_grammar.specs.WidthGrammar.{ReadsWatom, ReadsTerm, ReadsSum, ReadsWidth}
use Rattle.idl_grammar.specs.ExprGrammar as g
use Rattle.idl_grammar.specs.ExprGrammar.{Inside, ReadsPost, ReadsLevel, ReadsBinary, ReadsChoice, ReadsExpr, ReadsArgs, ReadsInside, ReadsBraced}

mutual
  pub watom_bounded : {f : Bool} {h : ℕ} {ts us : List Symbol} {a : Width} → ReadsWatom f h ts us a → h + length us < length ts
  watom_bounded (w.number e) = omega arith
  watom_bounded w.word = omega arith
  watom_bounded w.bits = omega arith
  watom_bounded w.field_bits = omega arith
  watom_bounded (w.greatest q p) = let i = width_bounded q in let j = width_bounded p in omega arith
  watom_bounded (w.parens q) = let i = term_bounded q in omega arith
  watom_bounded (w.parens_sum q) = let i = sum_bounded q in omega arith

  pub term_bounded : {f : Bool} {h : ℕ} {ts us : List Symbol} {a : Width} → ReadsTerm f h ts us a → h + length us < length ts
  term_bounded (w.atom q) = watom_bounded q
  term_bounded (w.times e q) = let i = watom_bounded q in omega arith
  term_bounded (w.times_number q e) = let i = watom_bounded q in omega arith

  pub sum_bounded : {h : ℕ} {ts us : List Symbol} {a : Width} → ReadsSum h ts us a → h + length us < length ts
  sum_bounded (w.sum q is p) = let i = width_bounded q in let j = term_bounded p in omega arith

  pub width_bounded : {h : ℕ} {ts us : List Symbol} {a : Width} → ReadsWidth h ts us a → h + length us < length ts
  width_bounded (w.term q) = term_bounded q
  width_bounded (w.sum_of q) = sum_bounded q

pub record Bounded (h : ℕ) (ts us : List Symbol) : Type 0 where
  pub low : 1 ≤ h
  pub high : h + length us ≤ length ts

mutual
  pub post_bounded : {h : ℕ} {ts us : List Symbol} {x : Expr} → ReadsPost h ts us x → Bounded h ts us
  post_bounded g.number = record { low = omega arith; high = omega arith }
  post_bounded (g.sized e) = record { low = omega arith; high = omega arith }
  post_bounded g.quoted = record { low = omega arith; high = omega arith }
  post_bounded g.yes_flag = record { low = omega arith; high = omega arith }
  post_bounded g.no_flag = record { low = omega arith; high = omega arith }
  post_bounded g.word = record { low = omega arith; high = omega arith }
  post_bounded (g.member e) = record { low = omega arith; high = omega arith }
  post_bounded (g.parens q) = let i = level_bounded q in record { low = omega arith; high = omega arith }
  post_bounded (g.parens_binary q) = let i = binary_bounded q in record { low = omega arith; high = omega arith }
  post_bounded (g.parens_choice q) = let i = choice_bounded q in record { low = omega arith; high = omega arith }
  post_bounded (g.braces q) = let i = braced_bounded q in record { low = omega arith; high = omega arith }
  post_bounded g.call_none = record { low = omega arith; high = omega arith }
  post_bounded (g.call q) = let i = args_bounded q in record { low = omega arith; high = omega arith }
  post_bounded (g.as_signed q) = let i = expr_bounded q in record { low = omega arith; high = omega arith }
  post_bounded (g.resize q p) = let i = width_bounded q in let j = expr_bounded p in record { low = omega arith; high = omega arith }
  post_bounded g.pc = record { low = omega arith; high = omega arith }
  post_bounded g.encoding = record { low = omega arith; high = omega arith }
  post_bounded (g.register q) = let i = expr_bounded q in record { low = omega arith; high = omega arith }
  post_bounded g.field = record { low = omega arith; high = omega arith }
  post_bounded (g.soft_read q) = let i = expr_bounded q in record { low = omega arith; high = omega arith }
  post_bounded (g.read_memory e q) = let i = expr_bounded q in record { low = omega arith; high = omega arith }
  post_bounded g.new_field = record { low = omega arith; high = omega arith }
  post_bounded g.xlen = record { low = omega arith; high = omega arith }
  post_bounded g.mode = record { low = omega arith; high = omega arith }
  post_bounded g.implemented = record { low = omega arith; high = omega arith }
  post_bounded g.implemented_version = record { low = omega arith; high = omega arith }
  post_bounded (g.part q p) = let i = post_bounded q in let j = inside_bounded p in record { low = omega arith; high = omega arith }

  pub level_bounded : {h k : ℕ} {ts us : List Symbol} {x : Expr} → ReadsLevel h k ts us x → Bounded h ts us
  level_bounded (g.post q) = post_bounded q
  level_bounded (g.unary e q) = let i = level_bounded q in record { low = omega arith; high = omega arith }
  level_bounded (g.binary q) = binary_bounded q
  level_bounded (g.looser q) = level_bounded q

  pub binary_bounded : {h k : ℕ} {ts us : List Symbol} {x : Expr} → ReadsBinary h k ts us x → Bounded h ts us
  binary_bounded (g.between q is p) = let i = level_bounded q in let j = level_bounded p in record { low = omega arith; high = omega arith }
  binary_bounded (g.widened q is p) = let i = level_bounded q in let j = watom_bounded p in record { low = omega arith; high = omega arith }

  pub choice_bounded : {h : ℕ} {ts us : List Symbol} {x : Expr} → ReadsChoice h ts us x → Bounded h ts us
  choice_bounded (g.choice q p m) = let i = level_bounded q in let j = expr_bounded p in let k = expr_bounded m in record { low = omega arith; high = omega arith }

  pub expr_bounded : {h : ℕ} {ts us : List Symbol} {x : Expr} → ReadsExpr h ts us x → Bounded h ts us
  expr_bounded (g.level q) = level_bounded q
  expr_bounded (g.chosen q) = choice_bounded q

  pub args_bounded : {h : ℕ} {ts us : List Symbol} {xs : List Expr} → ReadsArgs h ts us xs → Bounded h ts us
  args_bounded (g.one q) = expr_bounded q
  args_bounded (g.several q p) = let i = expr_bounded q in let j = args_bounded p in record { low = omega arith; high = omega arith }

  pub inside_bounded : {h : ℕ} {ts us : List Symbol} {x : Inside} → ReadsInside h ts us x → h + length us ≤ length ts
  inside_bounded (g.at q) = let i = expr_bounded q in omega arith
  inside_bounded (g.from_to q p) = let i = width_bounded q in let j = width_bounded p in omega arith

  pub braced_bounded : {h : ℕ} {ts us : List Symbol} {x : Expr} → ReadsBraced h ts us x → h + length us ≤ length ts
  braced_bounded (g.join q) = let i = args_bounded q in omega arith
  braced_bounded (g.repeat q p) = let i = width_bounded q in let j = expr_bounded p in omega arith
