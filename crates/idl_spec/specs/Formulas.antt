-- Expressions that are formulas over the parameters and extensions, and what a test says where it
-- is true or false.
use Rattle.std.specs.Prelude.{◌==◌, ◌%◌, ◌^◌, Bool, true, false, not, ℕ, nat_lt, nat_le, List, [], ◌∷◌, Option, None, Some, option_map, if◌then◌else◌}
use Rattle.std.specs.List.{list_any}
use Rattle.udb_base.specs.declared.names.Name.{Name}
use Rattle.udb_base.specs.declared.conditions.Value.TheVariants as given
use Rattle.udb_base.specs.declared.conditions.Test.{Test}
use Rattle.udb_base.specs.declared.conditions.Test.TheVariants as test
use Rattle.udb_base.specs.declared.conditions.Cond.{Cond}
use Rattle.udb_base.specs.declared.conditions.Cond.TheVariants as c
use Rattle.udb_base.specs.declared.spaces.Domain.TheVariants as d
use Rattle.udb_base.specs.declared.spaces.ParamSpace.{ParamSpace}
use Rattle.udb_base.specs.declared.spaces.Space.{Space}
use Rattle.udb_spec.specs.Conditions.{same_bytes}
use Rattle.udb_cond.specs.Requirements.{requirement_of}
use Rattle.idl_tree.specs.declared.widths.Width.TheVariants as wd
use Rattle.idl_tree.specs.declared.expressions.Unary.{Unary}
use Rattle.idl_tree.specs.declared.expressions.Unary.TheVariants as u
use Rattle.idl_tree.specs.declared.expressions.Binary.{Binary}
use Rattle.idl_tree.specs.declared.expressions.Binary.TheVariants as b
use Rattle.idl_tree.specs.declared.expressions.Expr.{Expr}
use Rattle.idl_tree.specs.declared.expressions.Expr.TheVariants as ex
use Rattle.idl_tree.specs.declared.expressions.Expr.TheOpen.{Expr-F}
use Rattle.idl_tree.specs.declared.expressions.Expr.TheFolds.{para-Expr}
use Rattle.idl_spec.specs.Shapes.{parameter_named}

-- the condition of a formula, and what is known where a test is true and where it is false
pub record Claims : Type 0 where
  pub formula : Option Cond
  pub when_true : Cond
  pub when_false : Cond

abbrev pub of_formula : Cond → Claims
of_formula x = record { formula = Some x; when_true = x; when_false = c.Not x }

-- nothing is known of what is no formula
abbrev pub unknown : Claims
unknown = record { formula = None; when_true = c.Always; when_false = c.Always }

abbrev pub of_option : Option Cond → Claims
of_option None = unknown
of_option (Some x) = of_formula x

abbrev pub negated : Claims → Option Cond → Claims
negated x None = record { formula = None; when_true = x.when_false; when_false = x.when_true }
negated x (Some p) = of_formula (c.Not p)

abbrev pub both : Claims → Claims → Option Cond → Option Cond → Claims
both x y (Some p) (Some q) = of_formula (c.All (p ∷ q ∷ []))
both x y _ _ = record { formula = None; when_true = c.All (x.when_true ∷ y.when_true ∷ []); when_false = c.Always }

abbrev pub either : Claims → Claims → Option Cond → Option Cond → Claims
either x y (Some p) (Some q) = of_formula (c.Any (p ∷ q ∷ []))
either x y _ _ = record { formula = None; when_true = c.Always; when_false = c.All (x.when_false ∷ y.when_false ∷ []) }

-- ---- comparisons

-- a side of a comparison, as far as formulas know it
pub data Side : Type 0 where
  literal : ℕ → Side
  number : Name → Side
  truth : Bool → Side
  flag : Name → Side
  text : List ℕ → Side
  word : Name → Side
  other : Side

abbrev pub parameter_side : Name → Option ParamSpace → Side
parameter_side name None = other
parameter_side name (Some p) = elim p.domain [ d.Flags ↦ flag name | d.Numbers ns ↦ number name | d.Range low high ↦ number name | d.Words ws ↦ word name ]

-- a number, an unsigned literal of numeric width, a truth value, a text, or a parameter
abbrev pub side : Space → Expr → Side
side space (ex.Number n) = literal n
side space (ex.Sized (wd.Number width) false n) = literal (n % 2 ^ width)
side space (ex.Flag x) = truth x
side space (ex.Text x) = text x
side space (ex.Word name) = parameter_side name (parameter_named space.params name)
side space _ = other

abbrev pub test_of : Binary → Option Test
test_of b.Equal = Some test.Equal
test_of b.NotEqual = Some test.NotEqual
test_of b.Below = Some test.Below
test_of b.AtMost = Some test.AtMost
test_of b.Above = Some test.Above
test_of b.AtLeast = Some test.AtLeast
test_of _ = None

-- the same with its sides exchanged
abbrev pub mirrored : Test → Test
mirrored test.Above = test.Below
mirrored test.AtLeast = test.AtMost
mirrored test.Below = test.Above
mirrored test.AtMost = test.AtLeast
mirrored t = t

abbrev pub compares : Test → ℕ → ℕ → Bool
compares test.Equal x y = x == y
compares test.NotEqual x y = not (x == y)
compares test.Above x y = nat_lt y x
compares test.AtLeast x y = nat_le y x
compares test.Below x y = nat_lt x y
compares test.AtMost x y = nat_le x y

abbrev pub truth_cond : Bool → Cond
truth_cond x = if x then c.Always else c.Never

-- a parameter's numbers lie below 2^64: beside a greater one any of them decides
abbrev pub number_test : Test → Name → ℕ → Cond
number_test t name n =
    if nat_lt n (2 ^ 64) then c.Param name t (given.Number n) else truth_cond (compares t 0 n)

-- `==` and `!=` alone
abbrev pub equality : Test → Cond → Option Cond
equality test.Equal x = Some x
equality test.NotEqual x = Some x
equality _ x = None

abbrev pub same_truth : Test → Bool → Bool → Bool
same_truth t x y = compares t (if x then 1 else 0) (if y then 1 else 0)

-- at most one side is a parameter
abbrev pub comparison : Test → Side → Side → Option Cond
comparison t (literal m) (literal n) = Some (truth_cond (compares t m n))
comparison t (number name) (literal n) = Some (number_test t name n)
comparison t (literal n) (number name) = Some (number_test (mirrored t) name n)
comparison t (truth x) (truth y) = equality t (truth_cond (same_truth t x y))
comparison t (flag name) (truth x) = equality t (c.Param name t (given.Flag x))
comparison t (truth x) (flag name) = equality t (c.Param name t (given.Flag x))
comparison t (word name) (text x) = equality t (c.Param name t (given.Word x))
comparison t (text x) (word name) = equality t (c.Param name t (given.Word x))
comparison t _ _ = None

-- ---- all formulas

-- an operand beside what it claims
abbrev pub Part : Type 0
Part = Expr × Claims

abbrev pub word_formula : Side → Option Cond
word_formula (flag name) = Some (c.Param name test.Equal (given.Flag true))
word_formula _ = None

abbrev pub lists_extension : Space → Name → Bool
lists_extension space name = list_any (λ x. same_bytes x.name name) space.extensions

abbrev pub version_formula : Space → Name → List ℕ → Option Cond
version_formula space name spelled =
    if lists_extension space name then option_map (λ need. c.Ext name (need ∷ [])) (requirement_of spelled) else None

abbrev pub claims_unary : Unary → Claims → Claims
claims_unary u.Not x = negated x x.formula
claims_unary _ x = unknown

abbrev pub compared : Space → Option Test → Expr → Expr → Option Cond
compared space None left right = None
compared space (Some t) left right = comparison t (side space left) (side space right)

abbrev pub claims_binary : Space → Binary → Part → Part → Claims
claims_binary space b.And x y = both x.1 y.1 x.1.formula y.1.formula
claims_binary space b.Or x y = either x.1 y.1 x.1.formula y.1.formula
claims_binary space sign x y = of_option (compared space (test_of sign) x.0 y.0)

abbrev pub claims_step : Space → Expr-F Part → Claims
claims_step space (Expr-F.Flag x) = of_formula (truth_cond x)
claims_step space (Expr-F.Word name) =
    of_option (word_formula (parameter_side name (parameter_named space.params name)))
claims_step space (Expr-F.Unary sign of) = claims_unary sign of.1
claims_step space (Expr-F.Binary sign left right) = claims_binary space sign left right
claims_step space (Expr-F.Implemented name) =
    of_option (if lists_extension space name then Some (c.Ext name []) else None)
claims_step space (Expr-F.ImplementedVersion extension spelled) =
    of_option (version_formula space extension spelled)
claims_step space _ = unknown

unfoldable pub claims : Space → Expr → Claims
claims space = para-Expr Claims (claims_step space)
