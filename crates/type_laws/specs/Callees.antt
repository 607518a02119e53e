-- Which functions a body can call, and that their calls are good.
use Rattle.std.specs.Prelude.{◌≡◌, true, ℕ, List, Some, find}
use Rattle.udb_spec.specs.Conditions.{same_bytes}
use Rattle.idl_tree.specs.declared.programs.Function.{Function}
use Rattle.idl_spec.specs.Values.{Value}
use Rattle.idl_spec.specs.Harts.{State, or_stuck}
use Rattle.idl_spec.specs.Shapes.{function_named}
use Rattle.idl_spec.specs.Settings.{Setting}
use Rattle.type_laws.specs.Kinds.{SuitAll, IsResult, Mode, is_in_field, StateOk, Good, MayCall, Round}

-- calls of the functions declared before, with values that suit their arguments, are good
abbrev pub AreGood : Setting → Mode → List Function → Type 0
AreGood e mode before =
    (name : List ℕ) (f : Function) → function_named before name ≡ Some f → MayCall e mode before name
    → (values : List Value) → SuitAll f.arguments values → (s : State) → StateOk e mode s
    → Good e mode (IsResult e f.result) (or_stuck (find (λ c. same_bytes c.function.name name) e.callees) (λ c. c.run values s))

-- the functions before are the program's, all of them in a field's body, and their calls are good
pub record Callable (e : Setting) (mode : Mode) (round : Round) : Type 0 where
  pub earlier : (name : List ℕ) (f : Function) → function_named round.before name ≡ Some f → function_named e.program.functions name ≡ Some f
  pub whole : is_in_field mode ≡ true → round.before ≡ e.program.functions
  pub good : AreGood e mode round.before
