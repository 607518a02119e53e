-- The laws of folds over expressions, one for each variant, for any step. A definition over expressions is
-- `fold-Expr A step`, where the step sees one layer with the results of the parts in their places;
-- `para-Expr A step` sees each part beside its result.
use Rattle.std.specs.Prelude.{◌≡◌, map, ℕ, Bool, List}
use Rattle.std.proofs.Common.{sym, ap, ◌∙◌, subst}
use Rattle.idl_tree.specs.Each.{Each, each}
use Rattle.udb_base.specs.declared.names.Name.{Name}
use Rattle.udb_base.specs.declared.characters.Chars.{Chars}
use Rattle.idl_tree.specs.declared.widths.Width.{Width}
use Rattle.idl_tree.specs.declared.widths.EnumKind.{EnumKind}
use Rattle.idl_tree.specs.declared.expressions.Unary.{Unary}
use Rattle.idl_tree.specs.declared.expressions.Binary.{Binary}
use Rattle.idl_tree.specs.declared.expressions.Expr.{Expr}
use Rattle.idl_tree.specs.declared.expressions.Expr.TheVariants as v
use Rattle.idl_tree.specs.declared.expressions.Expr.TheOpen.{Expr-F}
use Rattle.idl_tree.specs.declared.expressions.Expr.TheFolds.{fold-Expr, fold-roll-Expr, para-Expr, para-roll-Expr, ind-Expr, map-Expr}
use Rattle.idl_tree.specs.declared.expressions.Expr.TheViews.{roll-Expr}

module _ (A : Type 0) (step : Expr-F A → A) where
  pub fold-Expr-Number : (n : ℕ) → fold-Expr A step (v.Number n) ≡ step (Expr-F.Number n)
  fold-Expr-Number n = ap (fold-Expr A step) (sym (v.rolls-Number n)) ∙ fold-roll-Expr A step _

  pub fold-Expr-Sized : (width : Width) (signed : Bool) (value : ℕ) → fold-Expr A step (v.Sized width signed value) ≡ step (Expr-F.Sized width signed value)
  fold-Expr-Sized width signed value = ap (fold-Expr A step) (sym (v.rolls-Sized width signed value)) ∙ fold-roll-Expr A step _

  pub fold-Expr-Text : (text : Chars) → fold-Expr A step (v.Text text) ≡ step (Expr-F.Text text)
  fold-Expr-Text text = ap (fold-Expr A step) (sym (v.rolls-Text text)) ∙ fold-roll-Expr A step _

  pub fold-Expr-Flag : (flag : Bool) → fold-Expr A step (v.Flag flag) ≡ step (Expr-F.Flag flag)
  fold-Expr-Flag flag = ap (fold-Expr A step) (sym (v.rolls-Flag flag)) ∙ fold-roll-Expr A step _

  pub fold-Expr-Word : (name : Name) → fold-Expr A step (v.Word name) ≡ step (Expr-F.Word name)
  fold-Expr-Word name = ap (fold-Expr A step) (sym (v.rolls-Word name)) ∙ fold-roll-Expr A step _

  pub fold-Expr-Member : (kind : EnumKind) (name : Name) → fold-Expr A step (v.Member kind name) ≡ step (Expr-F.Member kind name)
  fold-Expr-Member kind name = ap (fold-Expr A step) (sym (v.rolls-Member kind name)) ∙ fold-roll-Expr A step _

  pub fold-Expr-Unary : (sign : Unary) (a : Expr) → fold-Expr A step (v.Unary sign a) ≡ step (Expr-F.Unary sign (fold-Expr A step a))
  fold-Expr-Unary sign a = ap (fold-Expr A step) (sym (v.rolls-Unary sign a)) ∙ fold-roll-Expr A step _

  pub fold-Expr-Binary : (sign : Binary) (a : Expr) (b : Expr) → fold-Expr A step (v.Binary sign a b) ≡ step (Expr-F.Binary sign (fold-Expr A step a) (fold-Expr A step b))
  fold-Expr-Binary sign a b = ap (fold-Expr A step) (sym (v.rolls-Binary sign a b)) ∙ fold-roll-Expr A step _

  pub fold-Expr-WideLeft : (a : Expr) (by : Width) → fold-Expr A step (v.WideLeft a by) ≡ step (Expr-F.WideLeft (fold-Expr A step a) by)
  fold-Expr-WideLeft a by = ap (fold-Expr A step) (sym (v.rolls-WideLeft a by)) ∙ fold-roll-Expr A step _

  pub fold-Expr-Choice : (test : Expr) (taken : Expr) (other : Expr) → fold-Expr A step (v.Choice test taken other) ≡ step (Expr-F.Choice (fold-Expr A step test) (fold-Expr A step taken) (fold-Expr A step other))
  fold-Expr-Choice test taken other = ap (fold-Expr A step) (sym (v.rolls-Choice test taken other)) ∙ fold-roll-Expr A step _

  pub fold-Expr-Join : (es : List Expr) → fold-Expr A step (v.Join es) ≡ step (Expr-F.Join (map (fold-Expr A step) es))
  fold-Expr-Join es = ap (fold-Expr A step) (sym (v.rolls-Join es)) ∙ fold-roll-Expr A step _

  pub fold-Expr-Repeat : (times : Width) (a : Expr) → fold-Expr A step (v.Repeat times a) ≡ step (Expr-F.Repeat times (fold-Expr A step a))
  fold-Expr-Repeat times a = ap (fold-Expr A step) (sym (v.rolls-Repeat times a)) ∙ fold-roll-Expr A step _

  pub fold-Expr-Index : (a : Expr) (at : Expr) → fold-Expr A step (v.Index a at) ≡ step (Expr-F.Index (fold-Expr A step a) (fold-Expr A step at))
  fold-Expr-Index a at = ap (fold-Expr A step) (sym (v.rolls-Index a at)) ∙ fold-roll-Expr A step _

  pub fold-Expr-Slice : (a : Expr) (high : Width) (low : Width) → fold-Expr A step (v.Slice a high low) ≡ step (Expr-F.Slice (fold-Expr A step a) high low)
  fold-Expr-Slice a high low = ap (fold-Expr A step) (sym (v.rolls-Slice a high low)) ∙ fold-roll-Expr A step _

  pub fold-Expr-Call : (name : Name) (es : List Expr) → fold-Expr A step (v.Call name es) ≡ step (Expr-F.Call name (map (fold-Expr A step) es))
  fold-Expr-Call name es = ap (fold-Expr A step) (sym (v.rolls-Call name es)) ∙ fold-roll-Expr A step _

  pub fold-Expr-Signed : (a : Expr) → fold-Expr A step (v.Signed a) ≡ step (Expr-F.Signed (fold-Expr A step a))
  fold-Expr-Signed a = ap (fold-Expr A step) (sym (v.rolls-Signed a)) ∙ fold-roll-Expr A step _

  pub fold-Expr-Resize : (width : Width) (a : Expr) → fold-Expr A step (v.Resize width a) ≡ step (Expr-F.Resize width (fold-Expr A step a))
  fold-Expr-Resize width a = ap (fold-Expr A step) (sym (v.rolls-Resize width a)) ∙ fold-roll-Expr A step _

  pub fold-Expr-Pc : fold-Expr A step v.Pc ≡ step Expr-F.Pc
  fold-Expr-Pc = ap (fold-Expr A step) (sym v.rolls-Pc) ∙ fold-roll-Expr A step _

  pub fold-Expr-Encoding : fold-Expr A step v.Encoding ≡ step Expr-F.Encoding
  fold-Expr-Encoding = ap (fold-Expr A step) (sym v.rolls-Encoding) ∙ fold-roll-Expr A step _

  pub fold-Expr-Register : (a : Expr) → fold-Expr A step (v.Register a) ≡ step (Expr-F.Register (fold-Expr A step a))
  fold-Expr-Register a = ap (fold-Expr A step) (sym (v.rolls-Register a)) ∙ fold-roll-Expr A step _

  pub fold-Expr-Field : (csr : Name) (field : Name) → fold-Expr A step (v.Field csr field) ≡ step (Expr-F.Field csr field)
  fold-Expr-Field csr field = ap (fold-Expr A step) (sym (v.rolls-Field csr field)) ∙ fold-roll-Expr A step _

  pub fold-Expr-SoftRead : (a : Expr) → fold-Expr A step (v.SoftRead a) ≡ step (Expr-F.SoftRead (fold-Expr A step a))
  fold-Expr-SoftRead a = ap (fold-Expr A step) (sym (v.rolls-SoftRead a)) ∙ fold-roll-Expr A step _

  pub fold-Expr-ReadMemory : (bits : ℕ) (at : Expr) → fold-Expr A step (v.ReadMemory bits at) ≡ step (Expr-F.ReadMemory bits (fold-Expr A step at))
  fold-Expr-ReadMemory bits at = ap (fold-Expr A step) (sym (v.rolls-ReadMemory bits at)) ∙ fold-roll-Expr A step _

  pub fold-Expr-NewField : (name : Name) → fold-Expr A step (v.NewField name) ≡ step (Expr-F.NewField name)
  fold-Expr-NewField name = ap (fold-Expr A step) (sym (v.rolls-NewField name)) ∙ fold-roll-Expr A step _

  pub fold-Expr-Mode : fold-Expr A step v.Mode ≡ step Expr-F.Mode
  fold-Expr-Mode = ap (fold-Expr A step) (sym v.rolls-Mode) ∙ fold-roll-Expr A step _

  pub fold-Expr-Implemented : (name : Name) → fold-Expr A step (v.Implemented name) ≡ step (Expr-F.Implemented name)
  fold-Expr-Implemented name = ap (fold-Expr A step) (sym (v.rolls-Implemented name)) ∙ fold-roll-Expr A step _

  pub fold-Expr-ImplementedVersion : (extension : Name) (text : Chars) → fold-Expr A step (v.ImplementedVersion extension text) ≡ step (Expr-F.ImplementedVersion extension text)
  fold-Expr-ImplementedVersion extension text = ap (fold-Expr A step) (sym (v.rolls-ImplementedVersion extension text)) ∙ fold-roll-Expr A step _

module _ (A : Type 0) (step : Expr-F (Expr × A) → A) where
  pub para-Expr-Number : (n : ℕ) → para-Expr A step (v.Number n) ≡ step (Expr-F.Number n)
  para-Expr-Number n = ap (para-Expr A step) (sym (v.rolls-Number n)) ∙ para-roll-Expr A step _

  pub para-Expr-Sized : (width : Width) (signed : Bool) (value : ℕ) → para-Expr A step (v.Sized width signed value) ≡ step (Expr-F.Sized width signed value)
  para-Expr-Sized width signed value = ap (para-Expr A step) (sym (v.rolls-Sized width signed value)) ∙ para-roll-Expr A step _

  pub para-Expr-Text : (text : Chars) → para-Expr A step (v.Text text) ≡ step (Expr-F.Text text)
  para-Expr-Text text = ap (para-Expr A step) (sym (v.rolls-Text text)) ∙ para-roll-Expr A step _

  pub para-Expr-Flag : (flag : Bool) → para-Expr A step (v.Flag flag) ≡ step (Expr-F.Flag flag)
  para-Expr-Flag flag = ap (para-Expr A step) (sym (v.rolls-Flag flag)) ∙ para-roll-Expr A step _

  pub para-Expr-Word : (name : Name) → para-Expr A step (v.Word name) ≡ step (Expr-F.Word name)
  para-Expr-Word name = ap (para-Expr A step) (sym (v.rolls-Word name)) ∙ para-roll-Expr A step _

  pub para-Expr-Member : (kind : EnumKind) (name : Name) → para-Expr A step (v.Member kind name) ≡ step (Expr-F.Member kind name)
  para-Expr-Member kind name = ap (para-Expr A step) (sym (v.rolls-Member kind name)) ∙ para-roll-Expr A step _

  pub para-Expr-Unary : (sign : Unary) (a : Expr) → para-Expr A step (v.Unary sign a) ≡ step (Expr-F.Unary sign (a, para-Expr A step a))
  para-Expr-Unary sign a = ap (para-Expr A step) (sym (v.rolls-Unary sign a)) ∙ para-roll-Expr A step _

  pub para-Expr-Binary : (sign : Binary) (a : Expr) (b : Expr) → para-Expr A step (v.Binary sign a b) ≡ step (Expr-F.Binary sign (a, para-Expr A step a) (b, para-Expr A step b))
  para-Expr-Binary sign a b = ap (para-Expr A step) (sym (v.rolls-Binary sign a b)) ∙ para-roll-Expr A step _

  pub para-Expr-WideLeft : (a : Expr) (by : Width) → para-Expr A step (v.WideLeft a by) ≡ step (Expr-F.WideLeft (a, para-Expr A step a) by)
  para-Expr-WideLeft a by = ap (para-Expr A step) (sym (v.rolls-WideLeft a by)) ∙ para-roll-Expr A step _

  pub para-Expr-Choice : (test : Expr) (taken : Expr) (other : Expr) → para-Expr A step (v.Choice test taken other) ≡ step (Expr-F.Choice (test, para-Expr A step test) (taken, para-Expr A step taken) (other, para-Expr A step other))
  para-Expr-Choice test taken other = ap (para-Expr A step) (sym (v.rolls-Choice test taken other)) ∙ para-roll-Expr A step _

  pub para-Expr-Join : (es : List Expr) → para-Expr A step (v.Join es) ≡ step (Expr-F.Join (map (λ e. (e, para-Expr A step e)) es))
  para-Expr-Join es = ap (para-Expr A step) (sym (v.rolls-Join es)) ∙ para-roll-Expr A step _

  pub para-Expr-Repeat : (times : Width) (a : Expr) → para-Expr A step (v.Repeat times a) ≡ step (Expr-F.Repeat times (a, para-Expr A step a))
  para-Expr-Repeat times a = ap (para-Expr A step) (sym (v.rolls-Repeat times a)) ∙ para-roll-Expr A step _

  pub para-Expr-Index : (a : Expr) (at : Expr) → para-Expr A step (v.Index a at) ≡ step (Expr-F.Index (a, para-Expr A step a) (at, para-Expr A step at))
  para-Expr-Index a at = ap (para-Expr A step) (sym (v.rolls-Index a at)) ∙ para-roll-Expr A step _

  pub para-Expr-Slice : (a : Expr) (high : Width) (low : Width) → para-Expr A step (v.Slice a high low) ≡ step (Expr-F.Slice (a, para-Expr A step a) high low)
  para-Expr-Slice a high low = ap (para-Expr A step) (sym (v.rolls-Slice a high low)) ∙ para-roll-Expr A step _

  pub para-Expr-Call : (name : Name) (es : List Expr) → para-Expr A step (v.Call name es) ≡ step (Expr-F.Call name (map (λ e. (e, para-Expr A step e)) es))
  para-Expr-Call name es = ap (para-Expr A step) (sym (v.rolls-Call name es)) ∙ para-roll-Expr A step _

  pub para-Expr-Signed : (a : Expr) → para-Expr A step (v.Signed a) ≡ step (Expr-F.Signed (a, para-Expr A step a))
  para-Expr-Signed a = ap (para-Expr A step) (sym (v.rolls-Signed a)) ∙ para-roll-Expr A step _

  pub para-Expr-Resize : (width : Width) (a : Expr) → para-Expr A step (v.Resize width a) ≡ step (Expr-F.Resize width (a, para-Expr A step a))
  para-Expr-Resize width a = ap (para-Expr A step) (sym (v.rolls-Resize width a)) ∙ para-roll-Expr A step _

  pub para-Expr-Pc : para-Expr A step v.Pc ≡ step Expr-F.Pc
  para-Expr-Pc = ap (para-Expr A step) (sym v.rolls-Pc) ∙ para-roll-Expr A step _

  pub para-Expr-Encoding : para-Expr A step v.Encoding ≡ step Expr-F.Encoding
  para-Expr-Encoding = ap (para-Expr A step) (sym v.rolls-Encoding) ∙ para-roll-Expr A step _

  pub para-Expr-Register : (a : Expr) → para-Expr A step (v.Register a) ≡ step (Expr-F.Register (a, para-Expr A step a))
  para-Expr-Register a = ap (para-Expr A step) (sym (v.rolls-Register a)) ∙ para-roll-Expr A step _

  pub para-Expr-Field : (csr : Name) (field : Name) → para-Expr A step (v.Field csr field) ≡ step (Expr-F.Field csr field)
  para-Expr-Field csr field = ap (para-Expr A step) (sym (v.rolls-Field csr field)) ∙ para-roll-Expr A step _

  pub para-Expr-SoftRead : (a : Expr) → para-Expr A step (v.SoftRead a) ≡ step (Expr-F.SoftRead (a, para-Expr A step a))
  para-Expr-SoftRead a = ap (para-Expr A step) (sym (v.rolls-SoftRead a)) ∙ para-roll-Expr A step _

  pub para-Expr-ReadMemory : (bits : ℕ) (at : Expr) → para-Expr A step (v.ReadMemory bits at) ≡ step (Expr-F.ReadMemory bits (at, para-Expr A step at))
  para-Expr-ReadMemory bits at = ap (para-Expr A step) (sym (v.rolls-ReadMemory bits at)) ∙ para-roll-Expr A step _

  pub para-Expr-NewField : (name : Name) → para-Expr A step (v.NewField name) ≡ step (Expr-F.NewField name)
  para-Expr-NewField name = ap (para-Expr A step) (sym (v.rolls-NewField name)) ∙ para-roll-Expr A step _

  pub para-Expr-Mode : para-Expr A step v.Mode ≡ step Expr-F.Mode
  para-Expr-Mode = ap (para-Expr A step) (sym v.rolls-Mode) ∙ para-roll-Expr A step _

  pub para-Expr-Implemented : (name : Name) → para-Expr A step (v.Implemented name) ≡ step (Expr-F.Implemented name)
  para-Expr-Implemented name = ap (para-Expr A step) (sym (v.rolls-Implemented name)) ∙ para-roll-Expr A step _

  pub para-Expr-ImplementedVersion : (extension : Name) (text : Chars) → para-Expr A step (v.ImplementedVersion extension text) ≡ step (Expr-F.ImplementedVersion extension text)
  para-Expr-ImplementedVersion extension text = ap (para-Expr A step) (sym (v.rolls-ImplementedVersion extension text)) ∙ para-roll-Expr A step _

-- what is to be shown for a fact of all expressions, variant by variant
pub record Cases-Expr (P : Expr → Type 0) : Type 0 where
  pub number : (n : ℕ) → P (v.Number n)
  pub sized : (width : Width) (signed : Bool) (value : ℕ) → P (v.Sized width signed value)
  pub text : (text : Chars) → P (v.Text text)
  pub flag : (flag : Bool) → P (v.Flag flag)
  pub word : (name : Name) → P (v.Word name)
  pub member : (kind : EnumKind) (name : Name) → P (v.Member kind name)
  pub unary : (sign : Unary) (a : Expr) → P a → P (v.Unary sign a)
  pub binary : (sign : Binary) (a : Expr) (b : Expr) → P a → P b → P (v.Binary sign a b)
  pub wide_left : (a : Expr) (by : Width) → P a → P (v.WideLeft a by)
  pub choice : (test : Expr) (taken : Expr) (other : Expr) → P test → P taken → P other → P (v.Choice test taken other)
  pub join : (es : List Expr) → Each P es → P (v.Join es)
  pub repeat : (times : Width) (a : Expr) → P a → P (v.Repeat times a)
  pub index : (a : Expr) (at : Expr) → P a → P at → P (v.Index a at)
  pub slice : (a : Expr) (high : Width) (low : Width) → P a → P (v.Slice a high low)
  pub call : (name : Name) (es : List Expr) → Each P es → P (v.Call name es)
  pub signed : (a : Expr) → P a → P (v.Signed a)
  pub resize : (width : Width) (a : Expr) → P a → P (v.Resize width a)
  pub pc : P v.Pc
  pub encoding : P v.Encoding
  pub register : (a : Expr) → P a → P (v.Register a)
  pub field : (csr : Name) (field : Name) → P (v.Field csr field)
  pub soft_read : (a : Expr) → P a → P (v.SoftRead a)
  pub read_memory : (bits : ℕ) (at : Expr) → P at → P (v.ReadMemory bits at)
  pub new_field : (name : Name) → P (v.NewField name)
  pub mode : P v.Mode
  pub implemented : (name : Name) → P (v.Implemented name)
  pub implemented_version : (extension : Name) (text : Chars) → P (v.ImplementedVersion extension text)

module _ (P : Expr → Type 0) (cases : Cases-Expr P) where
  layer-Expr : (y : Expr-F ((e : Expr) × P e)) → P (roll-Expr (map-Expr ((e : Expr) × P e) Expr (λ e. e.0) y))
  layer-Expr (Expr-F.Number n) = subst P (sym (v.rolls-Number n)) (cases.number n)
  layer-Expr (Expr-F.Sized width signed value) = subst P (sym (v.rolls-Sized width signed value)) (cases.sized width signed value)
  layer-Expr (Expr-F.Text text) = subst P (sym (v.rolls-Text text)) (cases.text text)
  layer-Expr (Expr-F.Flag flag) = subst P (sym (v.rolls-Flag flag)) (cases.flag flag)
  layer-Expr (Expr-F.Word name) = subst P (sym (v.rolls-Word name)) (cases.word name)
  layer-Expr (Expr-F.Member kind name) = subst P (sym (v.rolls-Member kind name)) (cases.member kind name)
  layer-Expr (Expr-F.Unary sign a) = subst P (sym (v.rolls-Unary sign a.0)) (cases.unary sign a.0 a.1)
  layer-Expr (Expr-F.Binary sign a b) = subst P (sym (v.rolls-Binary sign a.0 b.0)) (cases.binary sign a.0 b.0 a.1 b.1)
  layer-Expr (Expr-F.WideLeft a by) = subst P (sym (v.rolls-WideLeft a.0 by)) (cases.wide_left a.0 by a.1)
  layer-Expr (Expr-F.Choice test taken other) = subst P (sym (v.rolls-Choice test.0 taken.0 other.0)) (cases.choice test.0 taken.0 other.0 test.1 taken.1 other.1)
  layer-Expr (Expr-F.Join es) = subst P (sym (v.rolls-Join (map (λ e. e.0) es))) (cases.join (map (λ e. e.0) es) (each P es))
  layer-Expr (Expr-F.Repeat times a) = subst P (sym (v.rolls-Repeat times a.0)) (cases.repeat times a.0 a.1)
  layer-Expr (Expr-F.Index a at) = subst P (sym (v.rolls-Index a.0 at.0)) (cases.index a.0 at.0 a.1 at.1)
  layer-Expr (Expr-F.Slice a high low) = subst P (sym (v.rolls-Slice a.0 high low)) (cases.slice a.0 high low a.1)
  layer-Expr (Expr-F.Call name es) = subst P (sym (v.rolls-Call name (map (λ e. e.0) es))) (cases.call name (map (λ e. e.0) es) (each P es))
  layer-Expr (Expr-F.Signed a) = subst P (sym (v.rolls-Signed a.0)) (cases.signed a.0 a.1)
  layer-Expr (Expr-F.Resize width a) = subst P (sym (v.rolls-Resize width a.0)) (cases.resize width a.0 a.1)
  layer-Expr Expr-F.Pc = subst P (sym v.rolls-Pc) cases.pc
  layer-Expr Expr-F.Encoding = subst P (sym v.rolls-Encoding) cases.encoding
  layer-Expr (Expr-F.Register a) = subst P (sym (v.rolls-Register a.0)) (cases.register a.0 a.1)
  layer-Expr (Expr-F.Field csr field) = subst P (sym (v.rolls-Field csr field)) (cases.field csr field)
  layer-Expr (Expr-F.SoftRead a) = subst P (sym (v.rolls-SoftRead a.0)) (cases.soft_read a.0 a.1)
  layer-Expr (Expr-F.ReadMemory bits at) = subst P (sym (v.rolls-ReadMemory bits at.0)) (cases.read_memory bits at.0 at.1)
  layer-Expr (Expr-F.NewField name) = subst P (sym (v.rolls-NewField name)) (cases.new_field name)
  layer-Expr Expr-F.Mode = subst P (sym v.rolls-Mode) cases.mode
  layer-Expr (Expr-F.Implemented name) = subst P (sym (v.rolls-Implemented name)) (cases.implemented name)
  layer-Expr (Expr-F.ImplementedVersion extension text) = subst P (sym (v.rolls-ImplementedVersion extension text)) (cases.implemented_version extension text)

  pub induct-Expr : (x : Expr) → P x
  induct-Expr = ind-Expr P (λ x y is. subst (λ z. P (roll-Expr z)) is (layer-Expr y))
