-- The costs of statements, form by form.
use Rattle.std.proofs.Common.{◌≡◌, ◌+◌, ◌*◌, ℕ, List, [], ◌∷◌, None, Some, sym, ap, ◌∙◌, arith}
use Rattle.std.specs.Prelude.{sum_by}
use Rattle.std.proofs.lemmas.List.Sums.{sum-map, sum_by-append, sum_by_more}
use Rattle.udb_base.specs.declared.names.Name.{Name}
use Rattle.idl_tree.specs.declared.widths.Width.{Width}
use Rattle.idl_tree.specs.declared.widths.Shape.{Shape}
use Rattle.idl_tree.specs.declared.expressions.Expr.{Expr}
use Rattle.idl_tree.specs.declared.statements.Target.{Target}
use Rattle.idl_tree.specs.declared.statements.Target.TheVariants as t
use Rattle.idl_tree.specs.declared.statements.Stmt.{Stmt}
use Rattle.idl_tree.specs.declared.statements.Stmt.TheVariants as st
use Rattle.idl_tree.specs.Operands.{target_operands}
use Rattle.idl_spec.specs.Costs.{Prices, expr_cost, stmt_cost, cost_under, greatest_turns}
use Rattle.idl_spec.specs.CostLaws as law
use Rattle.type_costs.specs.Capped.{capped}
use Rattle.type_costs.specs.Prices.{price_among, target_cost}
use Rattle.type_costs.proofs.CappedSums.{capped-both, capped-right, capped-times}
use Rattle.type_costs.proofs.ExpressionCosts.{node-none, node-one, node-two, node-three, node-more, none-cost}

module _ (prices : Prices) where
  abbrev cost : Expr → ℕ
  cost e = expr_cost prices e

  abbrev of : Stmt → ℕ
  of s = stmt_cost prices s

  -- ---- targets

  pub target-Word : (name : Name) → capped (target_cost prices (t.Word name)) ≡ 1
  unfolding target_cost
  target-Word name = node-none (target_cost prices (t.Word name)) (omega arith)

  pub target-Slice : (name : Name) (high low : Width) → capped (target_cost prices (t.Slice name high low)) ≡ 1
  unfolding target_cost
  target-Slice name high low = node-none (target_cost prices (t.Slice name high low)) (omega arith)

  pub target-Field : (csr field : Name) → capped (target_cost prices (t.Field csr field)) ≡ 1
  unfolding target_cost
  target-Field csr field = node-none (target_cost prices (t.Field csr field)) (omega arith)

  pub target-Bit : (name : Name) (a : Expr) → capped (target_cost prices (t.Bit name a)) ≡ capped (1 + capped (cost a))
  unfolding target_cost
  target-Bit name a = node-one (target_cost prices (t.Bit name a)) (cost a) (omega arith)

  pub target-Register : (a : Expr) → capped (target_cost prices (t.Register a)) ≡ capped (1 + capped (cost a))
  unfolding target_cost
  target-Register a = node-one (target_cost prices (t.Register a)) (cost a) (omega arith)

  -- ---- statements

  pub cost-Declare : (declared : Shape) (name : Name) (x : Expr) → capped (of (st.Declare declared name x)) ≡ capped (1 + capped (cost x))
  cost-Declare declared name x = node-one (of (st.Declare declared name x)) (cost x) (law.costs-stmt-Declare prices declared name x ∙ omega arith)

  pub cost-Assign : (to : Target) (x : Expr) → capped (of (st.Assign to x)) ≡ capped (capped (1 + capped (target_cost prices to)) + capped (cost x))
  unfolding target_cost
  cost-Assign to x =
      node-more (of (st.Assign to x)) (target_cost prices to) (cost x)
      (law.costs-stmt-Assign prices to x ∙ (ap (λ n. 1 + 0 + 1 + n + 0) (sum_by-append cost (target_operands to) (x ∷ [])) ∙ omega arith))
      ∙ ap (λ n. capped (n + capped (cost x))) (sym (capped-right 1 (target_cost prices to)))

  pub cost-Block : (ss : List Stmt) → capped (of (st.Block ss)) ≡ capped (1 + capped (cost_under prices ss))
  cost-Block ss = node-one (of (st.Block ss)) (cost_under prices ss) (law.costs-stmt-Block prices ss ∙ omega (arith, sum-map of ss))

  pub cost-Return : (x : Expr) → capped (of (st.Return x)) ≡ capped (1 + capped (cost x))
  cost-Return x = node-one (of (st.Return x)) (cost x) (law.costs-stmt-Return prices x ∙ omega arith)

  pub cost-If : (x : Expr) (ss : List Stmt) → capped (of (st.If x ss None)) ≡ capped (1 + capped (capped (cost x) + capped (cost_under prices ss)))
  cost-If x ss = node-two (of (st.If x ss None)) (cost x) (cost_under prices ss) (law.costs-stmt-If prices x ss None ∙ omega (arith, sum-map of ss))

  pub cost-Else : (x : Expr) (ss zs : List Stmt)
      → capped (of (st.If x ss (Some zs))) ≡ capped (1 + capped (capped (cost x) + capped (capped (cost_under prices ss) + capped (cost_under prices zs))))
  cost-Else x ss zs =
      node-three (of (st.If x ss (Some zs))) (cost x) (cost_under prices ss) (cost_under prices zs)
      (law.costs-stmt-If prices x ss (Some zs) ∙ omega (arith, sum-map of ss, sum-map of zs))

  pub cost-For : (name : Name) (from to : Width) (ss : List Stmt)
      → capped (of (st.For name from to ss)) ≡ capped (1 + capped (greatest_turns prices.space prices.program prices.variables from to * capped (cost_under prices ss)))
  cost-For name from to ss =
      let turns = greatest_turns prices.space prices.program prices.variables from to in
      node-one (of (st.For name from to ss)) (turns * cost_under prices ss)
      (law.costs-stmt-For prices name from to ss ∙ (ap (λ n. 1 + 0 + 0 + 0 + turns * n) (sum-map of ss) ∙ omega arith))
      ∙ ap (λ n. capped (1 + n)) (sym (capped-times turns (cost_under prices ss)))

  pub cost-Jump : (x : Expr) → capped (of (st.Jump x)) ≡ capped (1 + capped (cost x))
  cost-Jump x = node-one (of (st.Jump x)) (cost x) (law.costs-stmt-Jump prices x ∙ omega arith)

  pub cost-Raise : (a x : Expr) → capped (of (st.Raise a x)) ≡ capped (1 + capped (capped (cost a) + capped (cost x)))
  cost-Raise a x = node-two (of (st.Raise a x)) (cost a) (cost x) (law.costs-stmt-Raise prices a x ∙ omega arith)

  pub cost-WriteMemory : (count : ℕ) (a x : Expr) → capped (of (st.WriteMemory count a x)) ≡ capped (1 + capped (capped (cost a) + capped (cost x)))
  cost-WriteMemory count a x = node-two (of (st.WriteMemory count a x)) (cost a) (cost x) (law.costs-stmt-WriteMemory prices count a x ∙ omega arith)

  pub cost-SoftWrite : (a x : Expr) → capped (of (st.SoftWrite a x)) ≡ capped (capped (1 + prices.soft) + capped (capped (cost a) + capped (cost x)))
  cost-SoftWrite a x =
      node-more (of (st.SoftWrite a x)) prices.soft (cost a + cost x) (law.costs-stmt-SoftWrite prices a x ∙ omega arith)
      ∙ ap (λ n. capped (capped (1 + prices.soft) + n)) (sym (capped-both (cost a) (cost x)))

  pub cost-Call : (name : Name) (es : List Expr) → capped (of (st.Call name es)) ≡ capped (capped (1 + price_among prices.functions name) + capped (sum_by (expr_cost prices) es))
  cost-Call name es = node-more (of (st.Call name es)) (price_among prices.functions name) (sum_by cost es) (law.costs-stmt-Call prices name es ∙ omega arith)

pub ruleset target_laws = (target-Word, target-Slice, target-Field, target-Bit, target-Register)

pub ruleset cost_laws = (cost-Declare, cost-Assign, cost-Block, cost-Return, cost-If, cost-Else, cost-For, cost-Jump, cost-Raise, cost-WriteMemory, cost-SoftWrite, cost-Call)

pub ruleset block_laws = (none-cost, capped-both, sum_by_more)
