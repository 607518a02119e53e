-- Expressions that were read are printed as texts that read as them.
use Rattle.std.proofs.Common.{ℕ, suc, true, false, List, map, arith}
use Rattle.idl_tree.specs.declared.expressions.Expr.{Expr}
use Rattle.idl_tree.specs.Print.{commas, expr_text}
use Rattle.idl_token.specs.Symbol.{Symbol}
use Rattle.idl_grammar.specs.Tables.{mxlen}
use Rattle.idl_grammar.specs.ExprGrammar as g
use Rattle.idl_grammar.specs.ExprGrammar.{Inside, ReadsPost, ReadsLevel, ReadsBinary, ReadsChoice, ReadsExpr, ReadsArgs, ReadsInside, ReadsBraced}
use Rattle.idl_back.specs.Spelled.{AreSpelled}
use Rattle.idl_back.proofs.PrintedTexts.{Shows}
use Rattle.idl_back.proofs.PrintedWidths.{told_watom, told_width}
use Rattle.idl_back.proofs.PrintedParts as s
use Rattle.idl_back.proofs.PrintedParts.{ArgsOf, InsideOf, Shown, Told, inside_text}

mutual
  pub told_post : {h : ℕ} {ts us : List Symbol} {x : Expr} → ReadsPost h ts us x → AreSpelled ts → AreSpelled us × Told h x
  told_post (g.number {k = n}) q = (q.1, s.number_told n q.0)
  told_post (g.sized {v = v} {a = a} {f = u} {k = n} is) q = (q.1, s.sized_told v a u n is q.0)
  told_post (g.quoted {x = x}) q = (q.1, s.text_told x q.0)
  told_post g.yes_flag q = (q.1, s.yes_told)
  told_post g.no_flag q = (q.1, s.no_told)
  told_post (g.word {x = x}) q = (q.1, s.word_told x q.0)
  told_post (g.member {c = c} {kind = kind} {x = x} is) q = (q.1.1.1, s.member_told c kind x is q.1.1.0)
  told_post (g.parens {h = h} {x = x} m) q = let i = told_level m q.1 in (i.0.1, s.higher (suc h) (suc h) x (omega arith) (omega arith) i.1)
  told_post (g.parens_binary m) q = let i = told_binary m q.1 in (i.0.1, i.1)
  told_post (g.parens_choice m) q = let i = told_choice m q.1 in (i.0.1, i.1)
  told_post (g.braces m) q = told_braced m q.1
  told_post (g.call_none {x = x}) q = (q.1.1.1, s.call_none_told x q.0)
  told_post (g.call {x = x} {h = h} {xs = xs} m) q = let i = told_args m q.1.1 in (i.0.1, s.call_told h x xs q.0 i.1)
  told_post (g.as_signed {x = x} m) q = let i = told_expr m q.1.1 in (i.0.1, s.signed_told x i.1)
  told_post (g.resize {h = h} {a = a} {x = x} m n) q = let i = told_width true m q.1.1 in let j = told_expr n i.0.1.1 in (j.0.1, s.resize_told h a x i.1.1.bare j.1)
  told_post g.pc q = (q.1, s.pc_told)
  told_post g.encoding q = (q.1, s.encoding_told)
  told_post (g.register {x = x} m) q = let i = told_expr m q.1.1 in (i.0.1, s.register_told x i.1)
  told_post (g.field {x = x} {y = y}) q = (q.1.1.1.1.1.1, s.field_told x y q.1.1.0 q.1.1.1.1.1.0)
  told_post (g.soft_read {x = x} m) q = let i = told_expr m q.1.1 in (i.0.1.1.1.1.1, s.soft_read_told x i.0.1.1.0 i.1)
  told_post (g.read_memory {k = n} {x = x} ok m) q = let i = told_expr m q.1.1.1.1.1 in (i.0.1, s.read_memory_told n x ok q.1.1.0 i.1)
  told_post (g.new_field {x = x}) q = (q.1.1.1, s.new_field_told x q.1.1.0)
  told_post g.xlen q = (q.1.1.1, s.word_told mxlen s.mxlen_spelled)
  told_post g.mode q = (q.1.1.1, s.mode_told)
  told_post (g.implemented {x = x}) q = (q.1.1.1.1.1.1, s.implemented_told x q.1.1.1.1.0)
  told_post (g.implemented_version {x = x} {y = y}) q = (q.1.1.1.1.1.1.1.1, s.version_told x y q.1.1.1.1.0 q.1.1.1.1.1.1.0)
  told_post (g.part {i = n} {x = x} {j = j} m l) q = let i = told_post m q in let k = told_inside l i.0.1 in (k.0, s.part_told n x j i.1 k.1)

  pub told_level : {h n : ℕ} {ts us : List Symbol} {x : Expr} → ReadsLevel h n ts us x → AreSpelled ts → AreSpelled us × Shown (suc h) h x
  told_level (g.post {h = h} {x = x} m) q = let i = told_post m q in (i.0, s.higher (suc h) h x (omega arith) (omega arith) i.1)
  told_level (g.unary {x = x} {c = c} {op = op} is m) q = let i = told_level m q.1 in (i.0, s.unary_told c op x is i.1)
  told_level (g.binary {h = h} {x = x} m) q = let i = told_binary m q in (i.0, s.higher (suc h) h x (omega arith) (omega arith) i.1)
  told_level (g.looser m) q = told_level m q

  pub told_binary : {h n : ℕ} {ts us : List Symbol} {x : Expr} → ReadsBinary h n ts us x → AreSpelled ts → AreSpelled us × Told h x
  told_binary (g.between {k = n} {x = x} {y = y} {c = c} {op = op} m is l) q = let i = told_level m q in let j = told_level l i.0.1 in (j.0, s.binary_told c n op x y is i.1 j.1)
  told_binary (g.widened {k = n} {f = f} {x = x} {a = a} {c = c} m is l) q = let i = told_level m q in let j = told_watom false l i.0.1 in (j.0, s.wide_told c n f x a is i.1 j.1)

  pub told_choice : {h : ℕ} {ts us : List Symbol} {x : Expr} → ReadsChoice h ts us x → AreSpelled ts → AreSpelled us × Told h x
  told_choice (g.choice {x = x} {y = y} {z = z} m n l) q = let i = told_level m q in let j = told_expr n i.0.1 in let k = told_expr l j.0.1 in (k.0, s.choice_told x y z i.1 j.1 k.1)

  pub told_expr : {h : ℕ} {ts us : List Symbol} {x : Expr} → ReadsExpr h ts us x → AreSpelled ts → AreSpelled us × Shown (suc h) h x
  told_expr (g.level m) q = told_level m q
  told_expr (g.chosen {h = h} {x = x} m) q = let i = told_choice m q in (i.0, s.higher (suc h) h x (omega arith) (omega arith) i.1)

  pub told_args : {h : ℕ} {ts us : List Symbol} {xs : List Expr} → ReadsArgs h ts us xs → AreSpelled ts → AreSpelled us × Shows false (ArgsOf h xs) (commas (map expr_text xs))
  told_args (g.one {x = x} m) q = let i = told_expr m q in (i.0, s.one_told x i.1)
  told_args (g.several {i = n} {x = x} {xs = xs} m l) q = let i = told_expr m q in let j = told_args l i.0.1 in (j.0, s.several_told n x xs i.1 j.1)

  pub told_inside : {h : ℕ} {ts us : List Symbol} {j : Inside} → ReadsInside h ts us j → AreSpelled ts → AreSpelled us × Shows false (InsideOf h j) (inside_text j)
  told_inside (g.at {x = x} m) q = let i = told_expr m q in (i.0.1, s.place_shown x i.1)
  told_inside (g.from_to {h = h} {i = n} {a = a} {b = b} m l) q = let i = told_width false m q in let j = told_width false l i.0.1 in (j.0.1, s.slice_shown h n a b i.1.1.bare j.1.1.bare)

  pub told_braced : {h : ℕ} {ts us : List Symbol} {x : Expr} → ReadsBraced h ts us x → AreSpelled ts → AreSpelled us × Told (suc h) x
  told_braced (g.join {h = h} {xs = xs} m) q = let i = told_args m q in (i.0.1, s.join_told h xs i.1)
  told_braced (g.repeat {h = h} {a = a} {x = x} m n) q = let i = told_width false m q in let j = told_expr n i.0.1 in (j.0.1.1, s.repeat_told h a x i.1.1.bare j.1)
