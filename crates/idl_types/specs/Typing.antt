-- The laws of typing, for programs all of whose bodies are typed, and of formulas.
use Rattle.std.specs.Prelude.{◌≡◌, ◌≢◌, Bool, true, ℕ, List, None, Some, Contains, IfSome}
use Rattle.udb_base.specs.declared.conditions.Cond.{Cond}
use Rattle.udb_base.specs.declared.spaces.Space.{Space}
use Rattle.udb_base.specs.declared.spaces.Full.{Full}
use Rattle.udb_spec.specs.Conditions.{holds}
use Rattle.udb_spec.specs.Spaces.{Valid}
use Rattle.udb_spec.specs.Lawful.{Lawful}
use Rattle.idl_tree.specs.declared.programs.Body.{Body}
use Rattle.idl_tree.specs.declared.programs.Function.{Function}
use Rattle.idl_tree.specs.declared.programs.CsrBody.{CsrBody}
use Rattle.idl_tree.specs.declared.programs.Program.{Program}
use Rattle.idl_spec.specs.declared.scopes.BodyScope.TheVariants as scope
use Rattle.idl_tree.specs.declared.expressions.Expr.{Expr}
use Rattle.idl_spec.specs.Values.{Value, flag}
use Rattle.idl_spec.specs.Harts.{State, done, stuck}
use Rattle.idl_spec.specs.Settings.{Setting, Scope}
use Rattle.idl_spec.specs.Mean.{mean_expr}
use Rattle.idl_spec.specs.Formulas.{claims}
use Rattle.idl_spec.specs.Demands.{Visible}
use Rattle.idl_spec.specs.Shapes.{function_named}
use Rattle.idl_spec.specs.Fields.{Placed, layout}
use Rattle.idl_spec.specs.Programs.{IsState, as_operation, as_function, as_field_write, mean, field_type, reset_number}
use Rattle.idl_spec.specs.Faults.{HasNoFault}
use Rattle.idl_forms.specs.Ready.{IsLawfulProgram, AreLawfulVariables}
use Rattle.type_laws.specs.Kinds.{SuitAll, Matches}
use Rattle.type_laws.specs.Literals.{expr_numbers, AreSmall}
use Rattle.type_laws.specs.Given.{IsReadSpace, IsReadBody, IsBareProgram, AreApart}
use Rattle.idl_types.specs.Assembled.{IsTypedProgram}

-- a space and a program as readers give them, all of whose bodies are typed
pub record IsReady (space : Space) (program : Program) : Type 0 where
  pub lawful : Lawful space
  pub read : IsReadSpace space
  pub names : IsLawfulProgram program
  pub bare : IsBareProgram program
  pub typed : IsTypedProgram space program

-- an operation as readers give it, which is typed
pub record IsReadyOperation (space : Space) (program : Program) (presence : Cond) (body : Body) : Type 0 where
  pub variables : AreLawfulVariables body.variables
  pub read : IsReadBody space body
  pub typed : HasNoFault space program presence scope.Operation body

-- in every valid full configuration, and from every state of it: a typed operation that is present is not stuck, nor
-- a function with values that suit its arguments; each field that is present has a type, a number at reset and what
-- software writes
pub record TypedBodiesAreNeverStuck : Type 0 where
  pub operations : (space : Space) (program : Program) → IsReady space program → (presence : Cond) (body : Body) → IsReadyOperation space program presence body
      → (full : Full) → Valid space full → holds space full presence ≡ true
      → (s : State) → IsState space full program s → mean space full program as_operation body s ≢ stuck
  pub functions : (space : Space) (program : Program) → IsReady space program
      → (name : List ℕ) (f : Function) → function_named program.functions name ≡ Some f → (values : List Value) → SuitAll f.arguments values
      → (full : Full) → Valid space full → (s : State) → IsState space full program s → mean space full program (as_function name values) f.body s ≢ stuck
  pub types : (space : Space) (program : Program) → IsReady space program → (full : Full) → Valid space full
      → (csr : CsrBody) → Contains program.csrs csr → (p : Placed) → Contains (layout space full csr) p → field_type space full program p ≢ None
  pub resets : (space : Space) (program : Program) → IsReady space program → (full : Full) → Valid space full
      → (csr : CsrBody) → Contains program.csrs csr → (p : Placed) → Contains (layout space full csr) p → reset_number space full program p ≢ None
  pub writes : (space : Space) (program : Program) → IsReady space program → (full : Full) → Valid space full
      → (csr : CsrBody) → Contains program.csrs csr → (p : Placed) → Contains (layout space full csr) p → (body : Body) → p.field.write ≡ Some body
      → (n : ℕ) (s : State) → IsState space full program s → mean space full program (as_field_write csr.name p.field.name n) body s ≢ stuck

-- the condition of a formula holds exactly where the formula is true: whenever an expression that is one has a truth
-- value, in a valid full configuration and in a scope whose names are no parameters
abbrev pub FormulasAreTrue : Type 0
FormulasAreTrue =
    (e : Setting) → Valid e.space e.full → IsReadSpace e.space → AreApart e.space.params e.variables
    → (names : List Visible) (scope : Scope) → Matches e names scope
    → (x : Expr) → AreSmall (expr_numbers x) → (s t : State) (v : Bool) → mean_expr e x scope s ≡ done (flag v) t
    → IfSome (claims e.space x).formula (λ p. holds e.space e.full p ≡ v)
