-- What expressions claim, form by form.
use Rattle.std.proofs.Math.Nat.{mod-eq_of_lt, pow-le-pow_right}
use Rattle.std.proofs.Common.{◌≡◌, ◌<◌, ◌≤◌, ◌%◌, ◌^◌, arith, ℕ, Bool, [], ◌∷◌, Option, None, Some, refl, sym, ap, ◌∙◌, subst}
use Rattle.udb_base.specs.declared.names.Name.{Name}
use Rattle.udb_base.specs.declared.characters.Chars.{Chars}
use Rattle.udb_base.specs.declared.conditions.Cond.{Cond}
use Rattle.udb_base.specs.declared.conditions.Cond.TheVariants as co
use Rattle.udb_base.specs.declared.spaces.Space.{Space}
use Rattle.idl_tree.specs.declared.expressions.Unary.{Unary}
use Rattle.idl_tree.specs.declared.expressions.Unary.TheVariants as u
use Rattle.idl_tree.specs.declared.expressions.Binary.{Binary}
use Rattle.idl_tree.specs.declared.expressions.Binary.TheVariants as b
use Rattle.idl_tree.specs.declared.expressions.Expr.{Expr}
use Rattle.idl_tree.specs.declared.expressions.Expr.TheVariants as v
use Rattle.idl_tree.specs.declared.expressions.Expr.TheOpen.{Expr-F}
use Rattle.idl_tree.specs.declared.expressions.Expr.TheFolds.{para-Expr, para-roll-Expr, map-Expr}
use Rattle.idl_tree.specs.declared.expressions.Expr.TheViews.{out-Expr, roll-Expr, roll-out-Expr}
use Rattle.idl_spec.specs.Shapes.{parameter_named}
use Rattle.idl_spec.specs.Formulas.{Claims, Part, claims, claims_step, claims_unary, claims_binary, of_formula, of_option, unknown, negated, both, either, compared, test_of, truth_cond, word_formula, parameter_side, version_formula}
use Rattle.idl_spec.specs.FormulaLaws.{claims-Flag, claims-Word, claims-Unary, claims-Binary, claims-Implemented, claims-ImplementedVersion}
use Rattle.type_kinds.specs.Formulas.{negated_formula, all_of, any_of, extension_formula}

-- ---- literals

-- a number below two to the power of 128 is itself modulo a power that is no less
pub wide-itself : (n w : ℕ) → n < 2 ^ 128 → 128 ≤ w → n % 2 ^ w ≡ n
wide-itself n w small wide =
    let more : 2 ^ 128 ≤ 2 ^ w = pow-le-pow_right (omega arith) wide in
    mod-eq_of_lt (omega (arith, small, more))

pub ruleset wide_laws = (wide-itself)

-- ---- formulas

option-is : (o : Option Cond) → (of_option o).formula ≡ o
option-is None = refl
option-is (Some x) = refl

negated-is : (x : Claims) (o : Option Cond) → (negated x o).formula ≡ negated_formula o
negated-is x None = refl
negated-is x (Some p) = refl

both-is : (x y : Claims) (o p : Option Cond) → (both x y o p).formula ≡ all_of o p
both-is x y None p = refl
both-is x y (Some a) None = refl
both-is x y (Some a) (Some c) = refl

either-is : (x y : Claims) (o p : Option Cond) → (either x y o p).formula ≡ any_of o p
either-is x y None p = refl
either-is x y (Some a) None = refl
either-is x y (Some a) (Some c) = refl

abbrev Formula : Claims → Option Cond
Formula c = c.formula

pub formula-Flag : (space : Space) (x : Bool) → (claims space (v.Flag x)).formula ≡ Some (truth_cond x)
formula-Flag space x = ap Formula (claims-Flag space x)

pub formula-Word : (space : Space) (name : Name) → (claims space (v.Word name)).formula ≡ word_formula (parameter_side name (parameter_named space.params name))
formula-Word space name = ap Formula (claims-Word space name) ∙ option-is _

pub formula-Not : (space : Space) (a : Expr) → (claims space (v.Unary u.Not a)).formula ≡ negated_formula (claims space a).formula
formula-Not space a = ap Formula (claims-Unary space u.Not a) ∙ negated-is (claims space a) (claims space a).formula

pub formula-Invert : (space : Space) (a : Expr) → (claims space (v.Unary u.Invert a)).formula ≡ None
formula-Invert space a = ap Formula (claims-Unary space u.Invert a)

pub formula-Minus : (space : Space) (a : Expr) → (claims space (v.Unary u.Minus a)).formula ≡ None
formula-Minus space a = ap Formula (claims-Unary space u.Minus a)

pub formula-And : (space : Space) (a c : Expr) → (claims space (v.Binary b.And a c)).formula ≡ all_of (claims space a).formula (claims space c).formula
formula-And space a c =
    ap Formula (claims-Binary space b.And a c) ∙ both-is (claims space a) (claims space c) (claims space a).formula (claims space c).formula

pub formula-Or : (space : Space) (a c : Expr) → (claims space (v.Binary b.Or a c)).formula ≡ any_of (claims space a).formula (claims space c).formula
formula-Or space a c =
    ap Formula (claims-Binary space b.Or a c) ∙ either-is (claims space a) (claims space c) (claims space a).formula (claims space c).formula

compared-step : (space : Space) (sign : Binary) (x y : Part) → (sign ≡ b.And → ⊥) → (sign ≡ b.Or → ⊥) → claims_binary space sign x y ≡ of_option (compared space (test_of sign) x.0 y.0)
compared-step space b.And x y h k = absurd (h refl)
compared-step space b.Or x y h k = absurd (k refl)
compared-step space _ x y h k = refl

pub formula-compared : (space : Space) (sign : Binary) (a c : Expr) → (sign ≡ b.And → ⊥) → (sign ≡ b.Or → ⊥) → (claims space (v.Binary sign a c)).formula ≡ compared space (test_of sign) a c
formula-compared space sign a c h k =
    ap Formula (claims-Binary space sign a c ∙ compared-step space sign (a, claims space a) (c, claims space c) h k) ∙ option-is _

pub formula-Implemented : (space : Space) (name : Name) → (claims space (v.Implemented name)).formula ≡ extension_formula space name
formula-Implemented space name = ap Formula (claims-Implemented space name) ∙ option-is _

pub formula-Version : (space : Space) (extension : Name) (x : Chars) → (claims space (v.ImplementedVersion extension x)).formula ≡ version_formula space extension x
formula-Version space extension x = ap Formula (claims-ImplementedVersion space extension x) ∙ option-is _

pub ruleset formula_laws = (formula-Flag, formula-Word, formula-Not, formula-Invert, formula-Minus, formula-And, formula-Or, formula-compared, formula-Implemented, formula-Version)

-- ---- forms that claim nothing, and claims that are formulas

abbrev NoUnary : Expr → Type 0
NoUnary x = (sign : Unary) (of : Expr) → x ≡ v.Unary sign of → ⊥

abbrev NoBinary : Expr → Type 0
NoBinary x = (sign : Binary) (left right : Expr) → x ≡ v.Binary sign left right → ⊥

abbrev NoFlag : Expr → Type 0
NoFlag x = (truth : Bool) → x ≡ v.Flag truth → ⊥

abbrev NoWord : Expr → Type 0
NoWord x = (name : Name) → x ≡ v.Word name → ⊥

abbrev NoImplemented : Expr → Type 0
NoImplemented x = (name : Name) → x ≡ v.Implemented name → ⊥

abbrev NoVersion : Expr → Type 0
NoVersion x = (extension : Name) (text : Chars) → x ≡ v.ImplementedVersion extension text → ⊥

module _ (space : Space) where
  -- what a layer claims, over the claims of its parts
  at_roll : (y : Expr-F Expr) (P : Claims → Type 0) → ((z : Expr-F Part) → P (claims_step space z)) → P (claims space (roll-Expr y))
  unfolding claims
  at_roll y P h = subst P (sym (para-roll-Expr Claims (claims_step space) y)) (h (map-Expr Expr Part (λ p. (p, para-Expr Claims (claims_step space) p)) y))

  abbrev Bare : Expr → Type 0
  Bare x = NoFlag x → NoWord x → NoUnary x → NoBinary x → NoImplemented x → NoVersion x → (claims space x).formula ≡ None

  bare_layer : (y : Expr-F Expr) → Bare (roll-Expr y)
  unfolding claims
  bare_layer (Expr-F.Flag x) h w k l m n = absurd (h x (v.rolls-Flag x))
  bare_layer (Expr-F.Word name) h w k l m n = absurd (w name (v.rolls-Word name))
  bare_layer (Expr-F.Unary sign of) h w k l m n = absurd (k sign of (v.rolls-Unary sign of))
  bare_layer (Expr-F.Binary sign left right) h w k l m n = absurd (l sign left right (v.rolls-Binary sign left right))
  bare_layer (Expr-F.Implemented name) h w k l m n = absurd (m name (v.rolls-Implemented name))
  bare_layer (Expr-F.ImplementedVersion name text) h w k l m n = absurd (n name text (v.rolls-ImplementedVersion name text))
  bare_layer y h w k l m n = ap Formula (para-roll-Expr Claims (claims_step space) y)

  pub formula-none : (x : Expr) → Bare x
  formula-none x = subst Bare (roll-out-Expr x) (bare_layer (out-Expr x))

  -- a formula is itself what is known
  abbrev Agrees : Claims → Type 0
  Agrees c = (f : Cond) → c.formula ≡ Some f → (c.when_true ≡ f) × (c.when_false ≡ co.Not f)

  formula-agrees : (f : Cond) → Agrees (of_formula f)
  formula-agrees f g is = (cc, cc)

  unknown-agrees : Agrees unknown
  unknown-agrees f is = absurd (cc)

  option-agrees : (o : Option Cond) → Agrees (of_option o)
  option-agrees None f is = absurd (cc)
  option-agrees (Some x) f is = formula-agrees x f is

  negated-agrees : (x : Claims) (o : Option Cond) → Agrees (negated x o)
  negated-agrees x None f is = absurd (cc)
  negated-agrees x (Some p) f is = formula-agrees (co.Not p) f is

  both-agrees : (x y : Claims) (o p : Option Cond) → Agrees (both x y o p)
  both-agrees x y None p f is = absurd (cc)
  both-agrees x y (Some a) None f is = absurd (cc)
  both-agrees x y (Some a) (Some c) f is = formula-agrees (co.All (a ∷ c ∷ [])) f is

  either-agrees : (x y : Claims) (o p : Option Cond) → Agrees (either x y o p)
  either-agrees x y None p f is = absurd (cc)
  either-agrees x y (Some a) None f is = absurd (cc)
  either-agrees x y (Some a) (Some c) f is = formula-agrees (co.Any (a ∷ c ∷ [])) f is

  unary-agrees : (sign : Unary) (x : Claims) → Agrees (claims_unary sign x)
  unary-agrees u.Not x = negated-agrees x x.formula
  unary-agrees u.Invert x = unknown-agrees
  unary-agrees u.Minus x = unknown-agrees

  binary-agrees : (sign : Binary) (x y : Part) → Agrees (claims_binary space sign x y)
  binary-agrees b.And x y = both-agrees x.1 y.1 x.1.formula y.1.formula
  binary-agrees b.Or x y = either-agrees x.1 y.1 x.1.formula y.1.formula
  binary-agrees sign x y = option-agrees (compared space (test_of sign) x.0 y.0)

  layer-agrees : (z : Expr-F Part) → Agrees (claims_step space z)
  layer-agrees (Expr-F.Flag x) = formula-agrees (truth_cond x)
  layer-agrees (Expr-F.Word name) = option-agrees _
  layer-agrees (Expr-F.Unary sign of) = unary-agrees sign of.1
  layer-agrees (Expr-F.Binary sign left right) = binary-agrees sign left right
  layer-agrees (Expr-F.Implemented name) = option-agrees _
  layer-agrees (Expr-F.ImplementedVersion extension text) = option-agrees _
  layer-agrees _ = unknown-agrees

  pub agrees : (x : Expr) → Agrees (claims space x)
  agrees x = subst (λ y. Agrees (claims space y)) (roll-out-Expr x) (at_roll (out-Expr x) Agrees layer-agrees)

  -- nothing is known of what is no formula and has no sign
  abbrev Quiet : Claims → Type 0
  Quiet c = c.formula ≡ None → (c.when_true ≡ co.Always) × (c.when_false ≡ co.Always)

  option-quiet : (o : Option Cond) → Quiet (of_option o)
  option-quiet None is = (refl, refl)
  option-quiet (Some x) is = absurd (cc)

  abbrev Plain : Expr → Type 0
  Plain x = NoUnary x → NoBinary x → Quiet (claims space x)

  plain_layer : (y : Expr-F Expr) → Plain (roll-Expr y)
  unfolding claims
  plain_layer (Expr-F.Unary sign of) k l = absurd (k sign of (v.rolls-Unary sign of))
  plain_layer (Expr-F.Binary sign left right) k l = absurd (l sign left right (v.rolls-Binary sign left right))
  plain_layer (Expr-F.Flag x) k l = subst Quiet (sym (para-roll-Expr Claims (claims_step space) (Expr-F.Flag x))) (λ is. absurd (cc))
  plain_layer (Expr-F.Word name) k l = subst Quiet (sym (para-roll-Expr Claims (claims_step space) (Expr-F.Word name))) (option-quiet _)
  plain_layer (Expr-F.Implemented name) k l = subst Quiet (sym (para-roll-Expr Claims (claims_step space) (Expr-F.Implemented name))) (option-quiet _)
  plain_layer (Expr-F.ImplementedVersion name text) k l =
      subst Quiet (sym (para-roll-Expr Claims (claims_step space) (Expr-F.ImplementedVersion name text))) (option-quiet _)
  plain_layer y k l = subst Quiet (sym (para-roll-Expr Claims (claims_step space) y)) (λ is. (refl, refl))

  pub plain : (x : Expr) → Plain x
  plain x = subst Plain (roll-out-Expr x) (plain_layer (out-Expr x))

-- ---- what is known, form by form

pub formula-true : (space : Space) (x : Expr) (f : Cond) → (claims space x).formula ≡ Some f → (claims space x).when_true ≡ f
formula-true space x f is = (agrees space x f is).0

pub formula-false : (space : Space) (x : Expr) (f : Cond) → (claims space x).formula ≡ Some f → (claims space x).when_false ≡ co.Not f
formula-false space x f is = (agrees space x f is).1

negated-known : (x : Claims) (o : Option Cond) → (negated x o).formula ≡ None → ((negated x o).when_true ≡ x.when_false) × ((negated x o).when_false ≡ x.when_true)
negated-known x None is = (refl, refl)
negated-known x (Some p) is = absurd (cc)

both-known : (x y : Claims) (o p : Option Cond) → (both x y o p).formula ≡ None
    → ((both x y o p).when_true ≡ co.All (x.when_true ∷ y.when_true ∷ [])) × ((both x y o p).when_false ≡ co.Always)
both-known x y None p is = (refl, refl)
both-known x y (Some a) None is = (refl, refl)
both-known x y (Some a) (Some c) is = absurd (cc)

either-known : (x y : Claims) (o p : Option Cond) → (either x y o p).formula ≡ None
    → ((either x y o p).when_true ≡ co.Always) × ((either x y o p).when_false ≡ co.All (x.when_false ∷ y.when_false ∷ []))
either-known x y None p is = (refl, refl)
either-known x y (Some a) None is = (refl, refl)
either-known x y (Some a) (Some c) is = absurd (cc)

abbrev Known : Claims → Cond → Cond → Type 0
Known c t f = c.formula ≡ None → (c.when_true ≡ t) × (c.when_false ≡ f)

known-Not : (space : Space) (a : Expr) → Known (claims space (v.Unary u.Not a)) (claims space a).when_false (claims space a).when_true
known-Not space a = subst (λ c. Known c (claims space a).when_false (claims space a).when_true) (sym (claims-Unary space u.Not a)) (negated-known (claims space a) (claims space a).formula)

known-And : (space : Space) (a c : Expr) → Known (claims space (v.Binary b.And a c)) (co.All ((claims space a).when_true ∷ (claims space c).when_true ∷ [])) co.Always
known-And space a c =
    subst (λ k. Known k (co.All ((claims space a).when_true ∷ (claims space c).when_true ∷ [])) co.Always) (sym (claims-Binary space b.And a c))
    (both-known (claims space a) (claims space c) (claims space a).formula (claims space c).formula)

known-Or : (space : Space) (a c : Expr) → Known (claims space (v.Binary b.Or a c)) co.Always (co.All ((claims space a).when_false ∷ (claims space c).when_false ∷ []))
known-Or space a c =
    subst (λ k. Known k co.Always (co.All ((claims space a).when_false ∷ (claims space c).when_false ∷ []))) (sym (claims-Binary space b.Or a c))
    (either-known (claims space a) (claims space c) (claims space a).formula (claims space c).formula)

known-compared : (space : Space) (sign : Binary) (a c : Expr) → (sign ≡ b.And → ⊥) → (sign ≡ b.Or → ⊥) → Known (claims space (v.Binary sign a c)) co.Always co.Always
known-compared space sign a c h k =
    subst (λ x. Known x co.Always co.Always) (sym (claims-Binary space sign a c ∙ compared-step space sign (a, claims space a) (c, claims space c) h k)) (option-quiet space _)

pub true-Not : (space : Space) (a : Expr) → (claims space (v.Unary u.Not a)).formula ≡ None → (claims space (v.Unary u.Not a)).when_true ≡ (claims space a).when_false
true-Not space a is = (known-Not space a is).0

pub false-Not : (space : Space) (a : Expr) → (claims space (v.Unary u.Not a)).formula ≡ None → (claims space (v.Unary u.Not a)).when_false ≡ (claims space a).when_true
false-Not space a is = (known-Not space a is).1

abbrev WhenTrue : Claims → Cond
WhenTrue c = c.when_true

abbrev WhenFalse : Claims → Cond
WhenFalse c = c.when_false

pub true-Invert : (space : Space) (a : Expr) → (claims space (v.Unary u.Invert a)).when_true ≡ co.Always
true-Invert space a = ap WhenTrue (claims-Unary space u.Invert a)

pub true-Minus : (space : Space) (a : Expr) → (claims space (v.Unary u.Minus a)).when_true ≡ co.Always
true-Minus space a = ap WhenTrue (claims-Unary space u.Minus a)

pub false-Invert : (space : Space) (a : Expr) → (claims space (v.Unary u.Invert a)).when_false ≡ co.Always
false-Invert space a = ap WhenFalse (claims-Unary space u.Invert a)

pub false-Minus : (space : Space) (a : Expr) → (claims space (v.Unary u.Minus a)).when_false ≡ co.Always
false-Minus space a = ap WhenFalse (claims-Unary space u.Minus a)

pub true-And : (space : Space) (a c : Expr) → (claims space (v.Binary b.And a c)).formula ≡ None
    → (claims space (v.Binary b.And a c)).when_true ≡ co.All ((claims space a).when_true ∷ (claims space c).when_true ∷ [])
true-And space a c is = (known-And space a c is).0

pub false-Or : (space : Space) (a c : Expr) → (claims space (v.Binary b.Or a c)).formula ≡ None
    → (claims space (v.Binary b.Or a c)).when_false ≡ co.All ((claims space a).when_false ∷ (claims space c).when_false ∷ [])
false-Or space a c is = (known-Or space a c is).1

-- a sign other than `&&` says nothing where it is true, and one other than `||` nothing where it is false
pub true-others : (space : Space) (sign : Binary) (a c : Expr) → (sign ≡ b.And → ⊥) → (claims space (v.Binary sign a c)).formula ≡ None → (claims space (v.Binary sign a c)).when_true ≡ co.Always
true-others space b.And a c h is = absurd (h refl)
true-others space b.Or a c h is = (known-Or space a c is).0
true-others space sign a c h is = (known-compared space sign a c h (λ e. absurd (cc)) is).0

pub false-others : (space : Space) (sign : Binary) (a c : Expr) → (sign ≡ b.Or → ⊥) → (claims space (v.Binary sign a c)).formula ≡ None → (claims space (v.Binary sign a c)).when_false ≡ co.Always
false-others space b.Or a c h is = absurd (h refl)
false-others space b.And a c h is = (known-And space a c is).1
false-others space sign a c h is = (known-compared space sign a c (λ e. absurd (cc)) h is).1

pub true-plain : (space : Space) (x : Expr) → NoUnary x → NoBinary x → (claims space x).formula ≡ None → (claims space x).when_true ≡ co.Always
true-plain space x k l is = (plain space x k l is).0

pub false-plain : (space : Space) (x : Expr) → NoUnary x → NoBinary x → (claims space x).formula ≡ None → (claims space x).when_false ≡ co.Always
false-plain space x k l is = (plain space x k l is).1

pub ruleset known_laws = (formula-true, formula-false, true-Not, false-Not, true-Invert, true-Minus, false-Invert, false-Minus, true-And, false-Or)
