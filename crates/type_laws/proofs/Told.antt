-- What the truth of a test says: its claims hold.
use Rattle.std.proofs.Common.{◌≡◌, Bool, true, false, [], ◌∷◌, Option, None, Some, refl, ap, ◌∙◌, subst}
use Rattle.std.specs.Prelude.{◌&&◌, ◌||◌, not, IfSome}
use Rattle.std.specs.List.{list_all, list_any}
use Rattle.udb_base.specs.declared.conditions.Cond.{Cond}
use Rattle.udb_base.specs.declared.conditions.Cond.TheVariants as c
use Rattle.udb_base.specs.declared.spaces.Space.{Space}
use Rattle.udb_base.specs.declared.spaces.Full.{Full}
use Rattle.udb_spec.specs.Conditions.{holds}
use Rattle.udb_spec.specs.CondLaws.{holds-Always, holds-Never, holds-All, holds-Any, holds-Not}
use Rattle.idl_spec.specs.Formulas.{Claims, unknown, of_formula, of_option, negated, both, either, truth_cond}

module _ (space : Space) (full : Full) where
  -- where a test has this truth value, its claims hold
  pub record Told (x : Claims) (v : Bool) : Type 0 where
    pub formula : IfSome x.formula (λ p. holds space full p ≡ v)
    pub yes : v ≡ true → holds space full x.when_true ≡ true
    pub no : v ≡ false → holds space full x.when_false ≡ true

  always : holds space full c.Always ≡ true
  always = holds-Always space full

  pub told_unknown : (v : Bool) → Told unknown v
  told_unknown v = record { formula = tt; yes = λ e. always; no = λ e. always }

  pub told_formula : (p : Cond) (v : Bool) → holds space full p ≡ v → Told (of_formula p) v
  told_formula p v h = record { formula = h; yes = λ e. h ∙ e; no = λ e. holds-Not space full p ∙ ap not (h ∙ e) }

  pub told_option : (o : Option Cond) (v : Bool) → IfSome o (λ p. holds space full p ≡ v) → Told (of_option o) v
  told_option None v h = told_unknown v
  told_option (Some p) v h = told_formula p v h

  pub truth_is : (x : Bool) → holds space full (truth_cond x) ≡ x
  truth_is true = holds-Always space full
  truth_is false = holds-Never space full

  pub told_negated : (x : Claims) (o : Option Cond) (v : Bool) → x.formula ≡ o → Told x v → Told (negated x o) (not v)
  told_negated x None v e h = record { formula = tt; yes = λ k. h.no (flip v k); no = λ k. h.yes (back v k) }
    where
      flip : (v : Bool) → not v ≡ true → v ≡ false
      flip true k = absurd (cc)
      flip false k = refl

      back : (v : Bool) → not v ≡ false → v ≡ true
      back true k = refl
      back false k = absurd (cc)
  told_negated x (Some p) v e h = told_formula (c.Not p) (not v) (holds-Not space full p ∙ ap not (subst (λ (o : Option Cond). IfSome o (λ p. holds space full p ≡ v)) e h.formula))

  formula_of : (x : Claims) (p : Cond) (v : Bool) → x.formula ≡ Some p → Told x v → holds space full p ≡ v
  formula_of x p v e h = subst (λ (o : Option Cond). IfSome o (λ p. holds space full p ≡ v)) e h.formula

  pub two_all : (p q : Cond) → holds space full (c.All (p ∷ q ∷ [])) ≡ (holds space full p && holds space full q)
  two_all p q = holds-All space full (p ∷ q ∷ []) ∙ at (holds space full p) (holds space full q)
    where
      at : (x y : Bool) → list_all (λ z. z) (x ∷ y ∷ []) ≡ (x && y)
      at true true = refl
      at true false = refl
      at false y = refl

  two_any : (p q : Cond) → holds space full (c.Any (p ∷ q ∷ [])) ≡ (holds space full p || holds space full q)
  two_any p q = holds-Any space full (p ∷ q ∷ []) ∙ at (holds space full p) (holds space full q)
    where
      at : (x y : Bool) → list_any (λ z. z) (x ∷ y ∷ []) ≡ (x || y)
      at true y = refl
      at false true = refl
      at false false = refl

  -- the left side is false, or both have truth values
  pub told_left : (x y : Claims) (o k : Option Cond) → x.formula ≡ o → Told x false → Told (both x y o k) false
  told_left x y None k e h = record { formula = tt; yes = λ i. absurd (cc); no = λ i. always }
  told_left x y (Some p) None e h = record { formula = tt; yes = λ i. absurd (cc); no = λ i. always }
  told_left x y (Some p) (Some q) e h = told_formula _ false (two_all p q ∙ ap (λ z. z && holds space full q) (formula_of x p false e h))

  both_hold : (x y : Claims) (v : Bool) → Told x true → Told y v → v ≡ true → holds space full (c.All (x.when_true ∷ y.when_true ∷ [])) ≡ true
  both_hold x y v h i j = two_all x.when_true y.when_true ∙ (ap (λ z. z && holds space full y.when_true) (h.yes refl) ∙ i.yes j)

  pub told_both : (x y : Claims) (o k : Option Cond) (v : Bool) → x.formula ≡ o → y.formula ≡ k → Told x true → Told y v → Told (both x y o k) v
  told_both x y (Some p) (Some q) v e f h i = told_formula _ v (two_all p q ∙ (ap (λ z. z && holds space full q) (formula_of x p true e h) ∙ formula_of y q v f i))
  told_both x y None k v e f h i = record { formula = tt; yes = both_hold x y v h i; no = λ j. always }
  told_both x y (Some p) None v e f h i = record { formula = tt; yes = both_hold x y v h i; no = λ j. always }

  pub told_right : (x y : Claims) (o k : Option Cond) → x.formula ≡ o → Told x true → Told (either x y o k) true
  told_right x y None k e h = record { formula = tt; yes = λ i. always; no = λ i. absurd (cc) }
  told_right x y (Some p) None e h = record { formula = tt; yes = λ i. always; no = λ i. absurd (cc) }
  told_right x y (Some p) (Some q) e h = told_formula _ true (two_any p q ∙ ap (λ z. z || holds space full q) (formula_of x p true e h))

  both_fail : (x y : Claims) (v : Bool) → Told x false → Told y v → v ≡ false → holds space full (c.All (x.when_false ∷ y.when_false ∷ [])) ≡ true
  both_fail x y v h i j = two_all x.when_false y.when_false ∙ (ap (λ z. z && holds space full y.when_false) (h.no refl) ∙ i.no j)

  pub told_either : (x y : Claims) (o k : Option Cond) (v : Bool) → x.formula ≡ o → y.formula ≡ k → Told x false → Told y v → Told (either x y o k) v
  told_either x y (Some p) (Some q) v e f h i = told_formula _ v (two_any p q ∙ (ap (λ z. z || holds space full q) (formula_of x p false e h) ∙ formula_of y q v f i))
  told_either x y None k v e f h i = record { formula = tt; yes = λ j. always; no = both_fail x y v h i }
  told_either x y (Some p) None v e f h i = record { formula = tt; yes = λ j. always; no = both_fail x y v h i }
