-- The laws of folds over statements, one for each variant, for any step. A definition over statements is
-- `fold-Stmt A step`, where the step sees one layer with the results of the parts in their places;
-- `para-Stmt A step` sees each part beside its result.
use Rattle.std.specs.Prelude.{◌≡◌, map, ℕ, List, Option, None, Some, IfSome}
use Rattle.std.specs.Option.{option_map}
use Rattle.std.proofs.Common.{sym, ap, ◌∙◌, subst}
use Rattle.idl_tree.specs.Each.{Each, each}
use Rattle.udb_base.specs.declared.names.Name.{Name}
use Rattle.idl_tree.specs.declared.widths.Width.{Width}
use Rattle.idl_tree.specs.declared.widths.Shape.{Shape}
use Rattle.idl_tree.specs.declared.expressions.Expr.{Expr}
use Rattle.idl_tree.specs.declared.statements.Target.{Target}
use Rattle.idl_tree.specs.declared.statements.Stmt.{Stmt}
use Rattle.idl_tree.specs.declared.statements.Stmt.TheVariants as v
use Rattle.idl_tree.specs.declared.statements.Stmt.TheOpen.{Stmt-F}
use Rattle.idl_tree.specs.declared.statements.Stmt.TheFolds.{fold-Stmt, fold-roll-Stmt, para-Stmt, para-roll-Stmt, ind-Stmt, map-Stmt}
use Rattle.idl_tree.specs.declared.statements.Stmt.TheViews.{roll-Stmt}

module _ (A : Type 0) (step : Stmt-F A → A) where
  pub fold-Stmt-Declare : (shape : Shape) (name : Name) (value : Expr) → fold-Stmt A step (v.Declare shape name value) ≡ step (Stmt-F.Declare shape name value)
  fold-Stmt-Declare shape name value = ap (fold-Stmt A step) (sym (v.rolls-Declare shape name value)) ∙ fold-roll-Stmt A step _

  pub fold-Stmt-Assign : (target : Target) (value : Expr) → fold-Stmt A step (v.Assign target value) ≡ step (Stmt-F.Assign target value)
  fold-Stmt-Assign target value = ap (fold-Stmt A step) (sym (v.rolls-Assign target value)) ∙ fold-roll-Stmt A step _

  pub fold-Stmt-Block : (ss : List Stmt) → fold-Stmt A step (v.Block ss) ≡ step (Stmt-F.Block (map (fold-Stmt A step) ss))
  fold-Stmt-Block ss = ap (fold-Stmt A step) (sym (v.rolls-Block ss)) ∙ fold-roll-Stmt A step _

  pub fold-Stmt-Return : (value : Expr) → fold-Stmt A step (v.Return value) ≡ step (Stmt-F.Return value)
  fold-Stmt-Return value = ap (fold-Stmt A step) (sym (v.rolls-Return value)) ∙ fold-roll-Stmt A step _

  pub fold-Stmt-If : (test : Expr) (taken : List Stmt) (other : Option (List Stmt)) → fold-Stmt A step (v.If test taken other) ≡ step (Stmt-F.If test (map (fold-Stmt A step) taken) (option_map (map (fold-Stmt A step)) other))
  fold-Stmt-If test taken None = ap (fold-Stmt A step) (sym (v.rolls-If test taken None)) ∙ fold-roll-Stmt A step _
  fold-Stmt-If test taken (Some other) = ap (fold-Stmt A step) (sym (v.rolls-If test taken (Some other))) ∙ fold-roll-Stmt A step _

  pub fold-Stmt-For : (name : Name) (from : Width) (to : Width) (ss : List Stmt) → fold-Stmt A step (v.For name from to ss) ≡ step (Stmt-F.For name from to (map (fold-Stmt A step) ss))
  fold-Stmt-For name from to ss = ap (fold-Stmt A step) (sym (v.rolls-For name from to ss)) ∙ fold-roll-Stmt A step _

  pub fold-Stmt-Jump : (value : Expr) → fold-Stmt A step (v.Jump value) ≡ step (Stmt-F.Jump value)
  fold-Stmt-Jump value = ap (fold-Stmt A step) (sym (v.rolls-Jump value)) ∙ fold-roll-Stmt A step _

  pub fold-Stmt-Raise : (code : Expr) (tval : Expr) → fold-Stmt A step (v.Raise code tval) ≡ step (Stmt-F.Raise code tval)
  fold-Stmt-Raise code tval = ap (fold-Stmt A step) (sym (v.rolls-Raise code tval)) ∙ fold-roll-Stmt A step _

  pub fold-Stmt-WriteMemory : (bits : ℕ) (at : Expr) (value : Expr) → fold-Stmt A step (v.WriteMemory bits at value) ≡ step (Stmt-F.WriteMemory bits at value)
  fold-Stmt-WriteMemory bits at value = ap (fold-Stmt A step) (sym (v.rolls-WriteMemory bits at value)) ∙ fold-roll-Stmt A step _

  pub fold-Stmt-SoftWrite : (address : Expr) (value : Expr) → fold-Stmt A step (v.SoftWrite address value) ≡ step (Stmt-F.SoftWrite address value)
  fold-Stmt-SoftWrite address value = ap (fold-Stmt A step) (sym (v.rolls-SoftWrite address value)) ∙ fold-roll-Stmt A step _

  pub fold-Stmt-Call : (name : Name) (es : List Expr) → fold-Stmt A step (v.Call name es) ≡ step (Stmt-F.Call name es)
  fold-Stmt-Call name es = ap (fold-Stmt A step) (sym (v.rolls-Call name es)) ∙ fold-roll-Stmt A step _

module _ (A : Type 0) (step : Stmt-F (Stmt × A) → A) where
  pub para-Stmt-Declare : (shape : Shape) (name : Name) (value : Expr) → para-Stmt A step (v.Declare shape name value) ≡ step (Stmt-F.Declare shape name value)
  para-Stmt-Declare shape name value = ap (para-Stmt A step) (sym (v.rolls-Declare shape name value)) ∙ para-roll-Stmt A step _

  pub para-Stmt-Assign : (target : Target) (value : Expr) → para-Stmt A step (v.Assign target value) ≡ step (Stmt-F.Assign target value)
  para-Stmt-Assign target value = ap (para-Stmt A step) (sym (v.rolls-Assign target value)) ∙ para-roll-Stmt A step _

  pub para-Stmt-Block : (ss : List Stmt) → para-Stmt A step (v.Block ss) ≡ step (Stmt-F.Block (map (λ e. (e, para-Stmt A step e)) ss))
  para-Stmt-Block ss = ap (para-Stmt A step) (sym (v.rolls-Block ss)) ∙ para-roll-Stmt A step _

  pub para-Stmt-Return : (value : Expr) → para-Stmt A step (v.Return value) ≡ step (Stmt-F.Return value)
  para-Stmt-Return value = ap (para-Stmt A step) (sym (v.rolls-Return value)) ∙ para-roll-Stmt A step _

  pub para-Stmt-If : (test : Expr) (taken : List Stmt) (other : Option (List Stmt)) → para-Stmt A step (v.If test taken other) ≡ step (Stmt-F.If test (map (λ e. (e, para-Stmt A step e)) taken) (option_map (map (λ e. (e, para-Stmt A step e))) other))
  para-Stmt-If test taken None = ap (para-Stmt A step) (sym (v.rolls-If test taken None)) ∙ para-roll-Stmt A step _
  para-Stmt-If test taken (Some other) = ap (para-Stmt A step) (sym (v.rolls-If test taken (Some other))) ∙ para-roll-Stmt A step _

  pub para-Stmt-For : (name : Name) (from : Width) (to : Width) (ss : List Stmt) → para-Stmt A step (v.For name from to ss) ≡ step (Stmt-F.For name from to (map (λ e. (e, para-Stmt A step e)) ss))
  para-Stmt-For name from to ss = ap (para-Stmt A step) (sym (v.rolls-For name from to ss)) ∙ para-roll-Stmt A step _

  pub para-Stmt-Jump : (value : Expr) → para-Stmt A step (v.Jump value) ≡ step (Stmt-F.Jump value)
  para-Stmt-Jump value = ap (para-Stmt A step) (sym (v.rolls-Jump value)) ∙ para-roll-Stmt A step _

  pub para-Stmt-Raise : (code : Expr) (tval : Expr) → para-Stmt A step (v.Raise code tval) ≡ step (Stmt-F.Raise code tval)
  para-Stmt-Raise code tval = ap (para-Stmt A step) (sym (v.rolls-Raise code tval)) ∙ para-roll-Stmt A step _

  pub para-Stmt-WriteMemory : (bits : ℕ) (at : Expr) (value : Expr) → para-Stmt A step (v.WriteMemory bits at value) ≡ step (Stmt-F.WriteMemory bits at value)
  para-Stmt-WriteMemory bits at value = ap (para-Stmt A step) (sym (v.rolls-WriteMemory bits at value)) ∙ para-roll-Stmt A step _

  pub para-Stmt-SoftWrite : (address : Expr) (value : Expr) → para-Stmt A step (v.SoftWrite address value) ≡ step (Stmt-F.SoftWrite address value)
  para-Stmt-SoftWrite address value = ap (para-Stmt A step) (sym (v.rolls-SoftWrite address value)) ∙ para-roll-Stmt A step _

  pub para-Stmt-Call : (name : Name) (es : List Expr) → para-Stmt A step (v.Call name es) ≡ step (Stmt-F.Call name es)
  para-Stmt-Call name es = ap (para-Stmt A step) (sym (v.rolls-Call name es)) ∙ para-roll-Stmt A step _

-- what is to be shown for a fact of all statements, variant by variant
pub record Cases-Stmt (P : Stmt → Type 0) : Type 0 where
  pub declare : (shape : Shape) (name : Name) (value : Expr) → P (v.Declare shape name value)
  pub assign : (target : Target) (value : Expr) → P (v.Assign target value)
  pub block : (ss : List Stmt) → Each P ss → P (v.Block ss)
  pub return : (value : Expr) → P (v.Return value)
  pub if : (test : Expr) (taken : List Stmt) (other : Option (List Stmt)) → Each P taken → IfSome other (Each P) → P (v.If test taken other)
  pub for : (name : Name) (from : Width) (to : Width) (ss : List Stmt) → Each P ss → P (v.For name from to ss)
  pub jump : (value : Expr) → P (v.Jump value)
  pub raise : (code : Expr) (tval : Expr) → P (v.Raise code tval)
  pub write_memory : (bits : ℕ) (at : Expr) (value : Expr) → P (v.WriteMemory bits at value)
  pub soft_write : (address : Expr) (value : Expr) → P (v.SoftWrite address value)
  pub call : (name : Name) (es : List Expr) → P (v.Call name es)

module _ (P : Stmt → Type 0) (cases : Cases-Stmt P) where
  layer-Stmt : (y : Stmt-F ((e : Stmt) × P e)) → P (roll-Stmt (map-Stmt ((e : Stmt) × P e) Stmt (λ e. e.0) y))
  layer-Stmt (Stmt-F.Declare shape name value) = subst P (sym (v.rolls-Declare shape name value)) (cases.declare shape name value)
  layer-Stmt (Stmt-F.Assign target value) = subst P (sym (v.rolls-Assign target value)) (cases.assign target value)
  layer-Stmt (Stmt-F.Block ss) = subst P (sym (v.rolls-Block (map (λ e. e.0) ss))) (cases.block (map (λ e. e.0) ss) (each P ss))
  layer-Stmt (Stmt-F.Return value) = subst P (sym (v.rolls-Return value)) (cases.return value)
  layer-Stmt (Stmt-F.If test taken None) = subst P (sym (v.rolls-If test (map (λ e. e.0) taken) None)) (cases.if test (map (λ e. e.0) taken) None (each P taken) tt)
  layer-Stmt (Stmt-F.If test taken (Some other)) = subst P (sym (v.rolls-If test (map (λ e. e.0) taken) (Some (map (λ e. e.0) other)))) (cases.if test (map (λ e. e.0) taken) (Some (map (λ e. e.0) other)) (each P taken) (each P other))
  layer-Stmt (Stmt-F.For name from to ss) = subst P (sym (v.rolls-For name from to (map (λ e. e.0) ss))) (cases.for name from to (map (λ e. e.0) ss) (each P ss))
  layer-Stmt (Stmt-F.Jump value) = subst P (sym (v.rolls-Jump value)) (cases.jump value)
  layer-Stmt (Stmt-F.Raise code tval) = subst P (sym (v.rolls-Raise code tval)) (cases.raise code tval)
  layer-Stmt (Stmt-F.WriteMemory bits at value) = subst P (sym (v.rolls-WriteMemory bits at value)) (cases.write_memory bits at value)
  layer-Stmt (Stmt-F.SoftWrite address value) = subst P (sym (v.rolls-SoftWrite address value)) (cases.soft_write address value)
  layer-Stmt (Stmt-F.Call name es) = subst P (sym (v.rolls-Call name es)) (cases.call name es)

  pub induct-Stmt : (x : Stmt) → P x
  induct-Stmt = ind-Stmt P (λ x y is. subst (λ z. P (roll-Stmt z)) is (layer-Stmt y))
