-- What is good in a setting is good in another with other variables, callees and writes.
use Rattle.std.proofs.Common.{◌≡◌, ℕ, Bool, true, false, List, Option, None, Some, sym, ◌∙◌, subst}
use Rattle.std.specs.Prelude.{find}
use Rattle.udb_spec.specs.Conditions.{same_bytes}
use Rattle.idl_tree.specs.declared.widths.Shape.{Shape}
use Rattle.idl_tree.specs.declared.widths.Shape.TheVariants as sh
use Rattle.idl_tree.specs.declared.programs.Variable.{Variable}
use Rattle.idl_tree.specs.declared.programs.Function.{Function}
use Rattle.idl_tree.specs.declared.programs.CsrBody.{CsrBody}
use Rattle.idl_spec.specs.Values.{Value, bits, flag, member, given_text, written_text}
use Rattle.idl_spec.specs.Harts.{State, Outcome, done, raised, stuck, or_stuck}
use Rattle.idl_spec.specs.Shapes.{declared_kind, function_named}
use Rattle.idl_spec.specs.Settings.{Setting, Callee, NewNumber, number_of_width}
use Rattle.type_laws.specs.Kinds.{HasKind, IsResult, Mode, loud, in_field, below_field, StateOk, Good, MayCall}
use Rattle.type_laws.specs.Callees.{AreGood}

module _ (e : Setting) (variables : List Variable) (callees : List Callee) (soft_write : Option (CsrBody → ℕ → State → Option State)) (written : Option NewNumber) where
  abbrev pub moved : Setting
  moved = record e { variables = variables; callees = callees; soft_write = soft_write; written = written }

  pub state_to : (mode : Mode) (s : State) → StateOk e mode s → StateOk moved mode s
  state_to loud s h = h
  state_to (in_field true) s h = h
  state_to (in_field false) s h = h
  state_to (below_field true) s h = h
  state_to (below_field false) s h = h

  pub state_back : (mode : Mode) (s : State) → StateOk moved mode s → StateOk e mode s
  state_back loud s h = h
  state_back (in_field true) s h = h
  state_back (in_field false) s h = h
  state_back (below_field true) s h = h
  state_back (below_field false) s h = h

  pub good_to : (mode : Mode) {A : Type 0} (P Q : A → Type 0) (o : Outcome A) → ((a : A) → P a → Q a) → Good e mode P o → Good moved mode Q o
  good_to mode P Q (done a s) to h = (to a h.0, state_to mode s h.1)
  good_to mode P Q (raised code tval s) to h = (h.0, state_to mode s h.1)
  good_to mode P Q stuck to h = absurd h

  -- a shape has the same width in both
  abbrev pub SameSize : Shape → Type 0
  SameSize (sh.Bits signed width) = number_of_width e width ≡ number_of_width moved width
  SameSize _ = Unit {0}

  abbrev pub SameResult : Option Shape → Type 0
  SameResult None = Unit {0}
  SameResult (Some shape) = SameSize shape

  shape_to : (shape : Shape) (v : Value) → SameSize shape → HasKind e (declared_kind shape) v → HasKind moved (declared_kind shape) v
  shape_to (sh.Bits signed width) (bits v) same h = record { number = sym same ∙ h.number; low = h.low; high = h.high; sign = h.sign }
  shape_to (sh.Bits signed width) (flag x) same h = absurd h
  shape_to (sh.Bits signed width) (member l n) same h = absurd h
  shape_to (sh.Bits signed width) (given_text x) same h = absurd h
  shape_to (sh.Bits signed width) (written_text x) same h = absurd h
  shape_to sh.Boolean (flag x) same h = h
  shape_to sh.Boolean (bits v) same h = absurd h
  shape_to sh.Boolean (member l n) same h = absurd h
  shape_to sh.Boolean (given_text x) same h = absurd h
  shape_to sh.Boolean (written_text x) same h = absurd h
  shape_to (sh.Enum k) (member l n) same h = h
  shape_to (sh.Enum k) (bits v) same h = absurd h
  shape_to (sh.Enum k) (flag x) same h = absurd h
  shape_to (sh.Enum k) (given_text x) same h = absurd h
  shape_to (sh.Enum k) (written_text x) same h = absurd h

  pub result_to : (shape : Option Shape) (v : Option Value) → SameResult shape → IsResult e shape v → IsResult moved shape v
  result_to None v same h = tt
  result_to (Some shape) None same h = absurd h
  result_to (Some shape) (Some v) same h = shape_to shape v same h

  pub may_back : (mode : Mode) (turns : List Function) (name : List ℕ) → MayCall moved mode turns name → MayCall e mode turns name
  may_back loud turns name h = tt
  may_back (in_field reads) turns name h = h
  may_back (below_field reads) turns name h = h

  -- calls are good in both
  pub good_calls : (mode : Mode) (before : List Function) → callees ≡ e.callees → ((name : List ℕ) (f : Function) → function_named before name ≡ Some f → SameResult f.result) → AreGood e mode before → AreGood moved mode before
  good_calls mode before is same good name f named may values suit s st =
      subst (λ (cs : List Callee). Good moved mode (IsResult moved f.result) (or_stuck (find (λ c. same_bytes c.function.name name) cs) (λ c. c.run values s))) (sym is)
      (good_to mode (IsResult e f.result) (IsResult moved f.result) (or_stuck (find (λ c. same_bytes c.function.name name) e.callees) (λ c. c.run values s))
      (λ v h. result_to f.result v (same name f named) h) (good name f named (may_back mode before name may) values suit s (state_back mode s st)))

-- a body of a field calls what a function below it may call
pub into_field : (e : Setting) (reads : Bool) (before : List Function) → AreGood e (below_field reads) before → AreGood e (in_field reads) before
into_field e reads before good name f named may values suit s st = at (or_stuck (find (λ c. same_bytes c.function.name name) e.callees) (λ c. c.run values s)) (good name f named may values suit s st)
  where
    at : (o : Outcome (Option Value)) → Good e (below_field reads) (IsResult e f.result) o → Good e (in_field reads) (IsResult e f.result) o
    at (done v t) h = h
    at (raised code tval t) h = h
    at stuck h = absurd h
