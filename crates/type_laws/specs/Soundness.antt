-- What soundness says of an expression at a place.
use Rattle.std.specs.Prelude.{◌≡◌, true, List, Some}
use Rattle.idl_tree.specs.Each.{Each}
use Rattle.udb_base.specs.declared.conditions.Cond.{Cond}
use Rattle.idl_tree.specs.declared.expressions.Expr.{Expr}
use Rattle.idl_spec.specs.Harts.{State}
use Rattle.idl_spec.specs.Shapes.{Kind, Names, shape}
use Rattle.idl_spec.specs.Settings.{Setting, Scope}
use Rattle.idl_spec.specs.Mean.{mean_expr}
use Rattle.idl_spec.specs.Deeds.{expr_deeds}
use Rattle.idl_spec.specs.Demands.{Check, Visible, names_at}
use Rattle.idl_spec.specs.Checks.{expr_checks, context_holds}
use Rattle.type_laws.specs.Kinds.{HasKind, Mode, StateOk, Good, DeedOk, Matches, Round, view_in, under, AllPass}
use Rattle.type_laws.specs.Literals.{expr_numbers, AreSmall}

module _ (e : Setting) (mode : Mode) (round : Round) where
  -- a scope and a state stand at a place: the visible names have values, and the context holds
  pub record Stands (inner : List Visible) (known : List Cond) (scope : Scope) (s : State) : Type 0 where
    pub matches : Matches e inner scope
    pub state : StateOk e mode s
    pub here : context_holds (under e) known ≡ true

  abbrev pub names_in : List Visible → Names
  names_in inner = names_at (view_in e mode round inner)

  abbrev pub checks_in : List Visible → Expr → List Cond → List Check
  checks_in inner x known = expr_checks (view_in e mode round inner) x known

  -- an expression has a kind, and its meaning has a value of it wherever the place is reached
  pub record IsSound (x : Expr) (inner : List Visible) (known : List Cond) : Type 0 where
    pub kind : Kind
    pub is : shape (names_in inner) x ≡ Some kind
    pub runs : (scope : Scope) (s : State) → Stands inner known scope s → Good e mode (HasKind e kind) (mean_expr e x scope s)

  -- what an expression does is allowed, and its numbers are small
  abbrev pub Clean : Expr → Type 0
  Clean x = Each (DeedOk e mode round.before) (expr_deeds x) × AreSmall (expr_numbers x)

  abbrev pub Sound : Expr → Type 0
  Sound x = (inner : List Visible) (known : List Cond) → Clean x → AllPass e (checks_in inner x known) → IsSound x inner known
