-- The law of expressions.
use Rattle.idl_tree.specs.declared.expressions.Expr.{Expr}
use Rattle.idl_spec.specs.Settings.{Setting}
use Rattle.type_laws.specs.Kinds.{Mode, Round}
use Rattle.type_laws.specs.Worlds.{World, Tested}
use Rattle.type_laws.specs.Callees.{Callable}
use Rattle.type_laws.specs.Software.{Software}
use Rattle.type_laws.specs.Soundness.{Sound}

-- an expression whose checks pass has a kind, and wherever its place is reached its meaning isn't stuck and has a
-- value of that kind
abbrev pub ExpressionsAreSound : Type 0
ExpressionsAreSound =
    (e : Setting) (mode : Mode) (round : Round)
    → World e → Tested e → Callable e mode round → Software e mode
    → (x : Expr) → Sound e mode round x
