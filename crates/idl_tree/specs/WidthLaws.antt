-- The laws of folds over widths, one for each variant, for any step. A definition over widths is
-- `fold-Width A step`, where the step sees one layer with the results of the parts in their places;
-- `para-Width A step` sees each part beside its result.
use Rattle.std.specs.Prelude.{◌≡◌, ℕ, Option}
use Rattle.std.proofs.Common.{sym, ap, ◌∙◌, subst}
use Rattle.udb_base.specs.declared.names.Name.{Name}
use Rattle.idl_tree.specs.declared.widths.Width.{Width}
use Rattle.idl_tree.specs.declared.widths.Width.TheVariants as v
use Rattle.idl_tree.specs.declared.widths.Width.TheOpen.{Width-F}
use Rattle.idl_tree.specs.declared.widths.Width.TheFolds.{fold-Width, fold-roll-Width, para-Width, para-roll-Width, ind-Width, map-Width}
use Rattle.idl_tree.specs.declared.widths.Width.TheViews.{roll-Width}

module _ (A : Type 0) (step : Width-F A → A) where
  pub fold-Width-Number : (n : ℕ) → fold-Width A step (v.Number n) ≡ step (Width-F.Number n)
  fold-Width-Number n = ap (fold-Width A step) (sym (v.rolls-Number n)) ∙ fold-roll-Width A step _

  pub fold-Width-Word : (name : Name) → fold-Width A step (v.Word name) ≡ step (Width-F.Word name)
  fold-Width-Word name = ap (fold-Width A step) (sym (v.rolls-Word name)) ∙ fold-roll-Width A step _

  pub fold-Width-Plus : (a : Width) (b : Width) → fold-Width A step (v.Plus a b) ≡ step (Width-F.Plus (fold-Width A step a) (fold-Width A step b))
  fold-Width-Plus a b = ap (fold-Width A step) (sym (v.rolls-Plus a b)) ∙ fold-roll-Width A step _

  pub fold-Width-Minus : (a : Width) (b : Width) → fold-Width A step (v.Minus a b) ≡ step (Width-F.Minus (fold-Width A step a) (fold-Width A step b))
  fold-Width-Minus a b = ap (fold-Width A step) (sym (v.rolls-Minus a b)) ∙ fold-roll-Width A step _

  pub fold-Width-Times : (a : Width) (b : Width) → fold-Width A step (v.Times a b) ≡ step (Width-F.Times (fold-Width A step a) (fold-Width A step b))
  fold-Width-Times a b = ap (fold-Width A step) (sym (v.rolls-Times a b)) ∙ fold-roll-Width A step _

  pub fold-Width-Max : (a : Width) (b : Width) → fold-Width A step (v.Max a b) ≡ step (Width-F.Max (fold-Width A step a) (fold-Width A step b))
  fold-Width-Max a b = ap (fold-Width A step) (sym (v.rolls-Max a b)) ∙ fold-roll-Width A step _

  pub fold-Width-Bits : (csr : Option Name) (name : Name) → fold-Width A step (v.Bits csr name) ≡ step (Width-F.Bits csr name)
  fold-Width-Bits csr name = ap (fold-Width A step) (sym (v.rolls-Bits csr name)) ∙ fold-roll-Width A step _

module _ (A : Type 0) (step : Width-F (Width × A) → A) where
  pub para-Width-Number : (n : ℕ) → para-Width A step (v.Number n) ≡ step (Width-F.Number n)
  para-Width-Number n = ap (para-Width A step) (sym (v.rolls-Number n)) ∙ para-roll-Width A step _

  pub para-Width-Word : (name : Name) → para-Width A step (v.Word name) ≡ step (Width-F.Word name)
  para-Width-Word name = ap (para-Width A step) (sym (v.rolls-Word name)) ∙ para-roll-Width A step _

  pub para-Width-Plus : (a : Width) (b : Width) → para-Width A step (v.Plus a b) ≡ step (Width-F.Plus (a, para-Width A step a) (b, para-Width A step b))
  para-Width-Plus a b = ap (para-Width A step) (sym (v.rolls-Plus a b)) ∙ para-roll-Width A step _

  pub para-Width-Minus : (a : Width) (b : Width) → para-Width A step (v.Minus a b) ≡ step (Width-F.Minus (a, para-Width A step a) (b, para-Width A step b))
  para-Width-Minus a b = ap (para-Width A step) (sym (v.rolls-Minus a b)) ∙ para-roll-Width A step _

  pub para-Width-Times : (a : Width) (b : Width) → para-Width A step (v.Times a b) ≡ step (Width-F.Times (a, para-Width A step a) (b, para-Width A step b))
  para-Width-Times a b = ap (para-Width A step) (sym (v.rolls-Times a b)) ∙ para-roll-Width A step _

  pub para-Width-Max : (a : Width) (b : Width) → para-Width A step (v.Max a b) ≡ step (Width-F.Max (a, para-Width A step a) (b, para-Width A step b))
  para-Width-Max a b = ap (para-Width A step) (sym (v.rolls-Max a b)) ∙ para-roll-Width A step _

  pub para-Width-Bits : (csr : Option Name) (name : Name) → para-Width A step (v.Bits csr name) ≡ step (Width-F.Bits csr name)
  para-Width-Bits csr name = ap (para-Width A step) (sym (v.rolls-Bits csr name)) ∙ para-roll-Width A step _

-- what is to be shown for a fact of all widths, variant by variant
pub record Cases-Width (P : Width → Type 0) : Type 0 where
  pub number : (n : ℕ) → P (v.Number n)
  pub word : (name : Name) → P (v.Word name)
  pub plus : (a : Width) (b : Width) → P a → P b → P (v.Plus a b)
  pub minus : (a : Width) (b : Width) → P a → P b → P (v.Minus a b)
  pub times : (a : Width) (b : Width) → P a → P b → P (v.Times a b)
  pub max : (a : Width) (b : Width) → P a → P b → P (v.Max a b)
  pub bits : (csr : Option Name) (name : Name) → P (v.Bits csr name)

module _ (P : Width → Type 0) (cases : Cases-Width P) where
  layer-Width : (y : Width-F ((e : Width) × P e)) → P (roll-Width (map-Width ((e : Width) × P e) Width (λ e. e.0) y))
  layer-Width (Width-F.Number n) = subst P (sym (v.rolls-Number n)) (cases.number n)
  layer-Width (Width-F.Word name) = subst P (sym (v.rolls-Word name)) (cases.word name)
  layer-Width (Width-F.Plus a b) = subst P (sym (v.rolls-Plus a.0 b.0)) (cases.plus a.0 b.0 a.1 b.1)
  layer-Width (Width-F.Minus a b) = subst P (sym (v.rolls-Minus a.0 b.0)) (cases.minus a.0 b.0 a.1 b.1)
  layer-Width (Width-F.Times a b) = subst P (sym (v.rolls-Times a.0 b.0)) (cases.times a.0 b.0 a.1 b.1)
  layer-Width (Width-F.Max a b) = subst P (sym (v.rolls-Max a.0 b.0)) (cases.max a.0 b.0 a.1 b.1)
  layer-Width (Width-F.Bits csr name) = subst P (sym (v.rolls-Bits csr name)) (cases.bits csr name)

  pub induct-Width : (x : Width) → P x
  induct-Width = ind-Width P (λ x y is. subst (λ z. P (roll-Width z)) is (layer-Width y))
