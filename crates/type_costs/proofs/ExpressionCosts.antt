-- The costs of expressions, form by form.
use Rattle.std.proofs.Common.{◌≡◌, ◌+◌, ℕ, Bool, List, sym, ap, ◌∙◌, arith}
use Rattle.std.specs.Prelude.{sum_by}
use Rattle.std.proofs.lemmas.List.Sums.{sum-map, sum_by_more}
use Rattle.udb_base.specs.declared.names.Name.{Name}
use Rattle.udb_base.specs.declared.characters.Chars.{Chars}
use Rattle.idl_tree.specs.declared.widths.Width.{Width}
use Rattle.idl_tree.specs.declared.widths.EnumKind.{EnumKind}
use Rattle.idl_tree.specs.declared.expressions.Unary.{Unary}
use Rattle.idl_tree.specs.declared.expressions.Binary.{Binary}
use Rattle.idl_tree.specs.declared.expressions.Expr.{Expr}
use Rattle.idl_tree.specs.declared.expressions.Expr.TheVariants as ex
use Rattle.idl_spec.specs.Costs.{Prices, expr_cost}
use Rattle.idl_spec.specs.CostLaws as law
use Rattle.type_costs.specs.Capped.{capped}
use Rattle.type_costs.specs.Prices.{price_among}
use Rattle.type_costs.proofs.CappedSums.{small, capped-left, capped-right, capped-both}

-- ---- nodes over parts that are capped

pub node-none : (n : ℕ) → n ≡ 1 → capped n ≡ 1
node-none n h = ap capped h ∙ small 1 (omega arith)

pub node-one : (n a : ℕ) → n ≡ 1 + a → capped n ≡ capped (1 + capped a)
node-one n a h = ap capped h ∙ sym (capped-right 1 a)

pub node-two : (n a c : ℕ) → n ≡ 1 + (a + c) → capped n ≡ capped (1 + capped (capped a + capped c))
node-two n a c h = node-one n (a + c) h ∙ ap (λ m. capped (1 + m)) (sym (capped-both a c))

pub node-three : (n a c d : ℕ) → n ≡ 1 + (a + (c + d)) → capped n ≡ capped (1 + capped (capped a + capped (capped c + capped d)))
node-three n a c d h = node-two n a (c + d) h ∙ ap (λ m. capped (1 + capped (capped a + m))) (sym (capped-both c d))

-- a node that adds something itself
pub node-more : (n p a : ℕ) → n ≡ 1 + p + a → capped n ≡ capped (capped (1 + p) + capped a)
node-more n p a h = ap capped h ∙ sym (capped-both (1 + p) a)

-- ---- expressions

module _ (prices : Prices) where
  abbrev cost : Expr → ℕ
  cost e = expr_cost prices e

  pub cost-Number : (n : ℕ) → capped (cost (ex.Number n)) ≡ 1
  cost-Number n = node-none (cost (ex.Number n)) (law.costs-Number prices n ∙ omega arith)

  pub cost-Sized : (width : Width) (signed : Bool) (n : ℕ) → capped (cost (ex.Sized width signed n)) ≡ 1
  cost-Sized width signed n = node-none (cost (ex.Sized width signed n)) (law.costs-Sized prices width signed n ∙ omega arith)

  pub cost-Text : (x : Chars) → capped (cost (ex.Text x)) ≡ 1
  cost-Text x = node-none (cost (ex.Text x)) (law.costs-Text prices x ∙ omega arith)

  pub cost-Flag : (x : Bool) → capped (cost (ex.Flag x)) ≡ 1
  cost-Flag x = node-none (cost (ex.Flag x)) (law.costs-Flag prices x ∙ omega arith)

  pub cost-Word : (name : Name) → capped (cost (ex.Word name)) ≡ 1
  cost-Word name = node-none (cost (ex.Word name)) (law.costs-Word prices name ∙ omega arith)

  pub cost-Member : (kind : EnumKind) (name : Name) → capped (cost (ex.Member kind name)) ≡ 1
  cost-Member kind name = node-none (cost (ex.Member kind name)) (law.costs-Member prices kind name ∙ omega arith)

  pub cost-Pc : capped (cost ex.Pc) ≡ 1
  cost-Pc = node-none (cost ex.Pc) (law.costs-Pc prices ∙ omega arith)

  pub cost-Encoding : capped (cost ex.Encoding) ≡ 1
  cost-Encoding = node-none (cost ex.Encoding) (law.costs-Encoding prices ∙ omega arith)

  pub cost-Field : (csr field : Name) → capped (cost (ex.Field csr field)) ≡ 1
  cost-Field csr field = node-none (cost (ex.Field csr field)) (law.costs-Field prices csr field ∙ omega arith)

  pub cost-NewField : (name : Name) → capped (cost (ex.NewField name)) ≡ 1
  cost-NewField name = node-none (cost (ex.NewField name)) (law.costs-NewField prices name ∙ omega arith)

  pub cost-Mode : capped (cost ex.Mode) ≡ 1
  cost-Mode = node-none (cost ex.Mode) (law.costs-Mode prices ∙ omega arith)

  pub cost-Implemented : (name : Name) → capped (cost (ex.Implemented name)) ≡ 1
  cost-Implemented name = node-none (cost (ex.Implemented name)) (law.costs-Implemented prices name ∙ omega arith)

  pub cost-ImplementedVersion : (extension : Name) (x : Chars) → capped (cost (ex.ImplementedVersion extension x)) ≡ 1
  cost-ImplementedVersion extension x = node-none (cost (ex.ImplementedVersion extension x)) (law.costs-ImplementedVersion prices extension x ∙ omega arith)

  pub cost-Unary : (sign : Unary) (a : Expr) → capped (cost (ex.Unary sign a)) ≡ capped (1 + capped (cost a))
  cost-Unary sign a = node-one (cost (ex.Unary sign a)) (cost a) (law.costs-Unary prices sign a ∙ omega arith)

  pub cost-WideLeft : (a : Expr) (by : Width) → capped (cost (ex.WideLeft a by)) ≡ capped (1 + capped (cost a))
  cost-WideLeft a by = node-one (cost (ex.WideLeft a by)) (cost a) (law.costs-WideLeft prices a by ∙ omega arith)

  pub cost-Repeat : (times : Width) (a : Expr) → capped (cost (ex.Repeat times a)) ≡ capped (1 + capped (cost a))
  cost-Repeat times a = node-one (cost (ex.Repeat times a)) (cost a) (law.costs-Repeat prices times a ∙ omega arith)

  pub cost-Slice : (a : Expr) (high low : Width) → capped (cost (ex.Slice a high low)) ≡ capped (1 + capped (cost a))
  cost-Slice a high low = node-one (cost (ex.Slice a high low)) (cost a) (law.costs-Slice prices a high low ∙ omega arith)

  pub cost-Signed : (a : Expr) → capped (cost (ex.Signed a)) ≡ capped (1 + capped (cost a))
  cost-Signed a = node-one (cost (ex.Signed a)) (cost a) (law.costs-Signed prices a ∙ omega arith)

  pub cost-Resize : (width : Width) (a : Expr) → capped (cost (ex.Resize width a)) ≡ capped (1 + capped (cost a))
  cost-Resize width a = node-one (cost (ex.Resize width a)) (cost a) (law.costs-Resize prices width a ∙ omega arith)

  pub cost-Register : (a : Expr) → capped (cost (ex.Register a)) ≡ capped (1 + capped (cost a))
  cost-Register a = node-one (cost (ex.Register a)) (cost a) (law.costs-Register prices a ∙ omega arith)

  pub cost-ReadMemory : (count : ℕ) (a : Expr) → capped (cost (ex.ReadMemory count a)) ≡ capped (1 + capped (cost a))
  cost-ReadMemory count a = node-one (cost (ex.ReadMemory count a)) (cost a) (law.costs-ReadMemory prices count a ∙ omega arith)

  pub cost-Binary : (sign : Binary) (a c : Expr) → capped (cost (ex.Binary sign a c)) ≡ capped (1 + capped (capped (cost a) + capped (cost c)))
  cost-Binary sign a c = node-two (cost (ex.Binary sign a c)) (cost a) (cost c) (law.costs-Binary prices sign a c ∙ omega arith)

  pub cost-Index : (a c : Expr) → capped (cost (ex.Index a c)) ≡ capped (1 + capped (capped (cost a) + capped (cost c)))
  cost-Index a c = node-two (cost (ex.Index a c)) (cost a) (cost c) (law.costs-Index prices a c ∙ omega arith)

  pub cost-Choice : (a c d : Expr) → capped (cost (ex.Choice a c d)) ≡ capped (1 + capped (capped (cost a) + capped (capped (cost c) + capped (cost d))))
  cost-Choice a c d = node-three (cost (ex.Choice a c d)) (cost a) (cost c) (cost d) (law.costs-Choice prices a c d ∙ omega arith)

  pub cost-Join : (es : List Expr) → capped (cost (ex.Join es)) ≡ capped (1 + capped (sum_by (expr_cost prices) es))
  cost-Join es = node-one (cost (ex.Join es)) (sum_by cost es) (law.costs-Join prices es ∙ (ap (λ n. 1 + 0 + n) (sum-map cost es) ∙ omega arith))

  pub cost-Call : (name : Name) (es : List Expr) → capped (cost (ex.Call name es)) ≡ capped (capped (1 + price_among prices.functions name) + capped (sum_by (expr_cost prices) es))
  cost-Call name es = node-more (cost (ex.Call name es)) (price_among prices.functions name) (sum_by cost es) (law.costs-Call prices name es ∙ ap (λ n. 1 + price_among prices.functions name + n) (sum-map cost es))

  pub cost-SoftRead : (a : Expr) → capped (cost (ex.SoftRead a)) ≡ capped (capped (1 + prices.soft) + capped (cost a))
  cost-SoftRead a = node-more (cost (ex.SoftRead a)) prices.soft (cost a) (law.costs-SoftRead prices a ∙ omega arith)

pub ruleset cost_laws = (cost-Number, cost-Sized, cost-Text, cost-Flag, cost-Word, cost-Member, cost-Pc, cost-Encoding, cost-Field, cost-NewField, cost-Mode, cost-Implemented, cost-ImplementedVersion, cost-Unary, cost-WideLeft, cost-Repeat, cost-Slice, cost-Signed, cost-Resize, cost-Register, cost-ReadMemory, cost-Binary, cost-Index, cost-Choice, cost-Join, cost-Call, cost-SoftRead)

-- ---- lists

pub none-cost : capped 0 ≡ 0
none-cost = small 0 (omega arith)

pub ruleset list_laws = (none-cost, capped-both, sum_by_more)
