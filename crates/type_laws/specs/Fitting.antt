-- The law of typing: a body that fits a full configuration, of a program that fits it, is never stuck there.
use Rattle.std.specs.Prelude.{◌≡◌, ◌≢◌, true, ℕ, List, None, Some, Contains}
use Rattle.udb_base.specs.declared.conditions.Cond.{Cond}
use Rattle.udb_base.specs.declared.spaces.Space.{Space}
use Rattle.udb_base.specs.declared.spaces.Full.{Full}
use Rattle.udb_spec.specs.Conditions.{holds}
use Rattle.udb_spec.specs.Spaces.{Valid}
use Rattle.udb_spec.specs.Lawful.{Lawful}
use Rattle.idl_tree.specs.declared.programs.Body.{Body}
use Rattle.idl_tree.specs.declared.programs.Function.{Function}
use Rattle.idl_tree.specs.declared.programs.CsrBody.{CsrBody}
use Rattle.idl_tree.specs.declared.programs.Program.{Program}
use Rattle.idl_spec.specs.declared.scopes.BodyScope.TheVariants as scope
use Rattle.idl_spec.specs.Values.{Value}
use Rattle.idl_spec.specs.Harts.{State, stuck}
use Rattle.idl_spec.specs.Shapes.{function_named}
use Rattle.idl_spec.specs.Fields.{Placed, layout}
use Rattle.idl_spec.specs.Programs.{IsState, as_operation, as_function, as_field_write, mean, field_type, reset_number}
use Rattle.idl_spec.specs.ProgramFits.{program_fits}
use Rattle.idl_spec.specs.Checks.{fits}
use Rattle.idl_forms.specs.Ready.{IsLawfulProgram, AreLawfulVariables}
use Rattle.type_laws.specs.Kinds.{SuitAll}
use Rattle.type_laws.specs.Given.{IsReadSpace, IsReadBody, IsBareProgram}

-- a program that fits a valid full configuration
pub record IsFitting (space : Space) (full : Full) (program : Program) : Type 0 where
  pub lawful : Lawful space
  pub read : IsReadSpace space
  pub valid : Valid space full
  pub names : IsLawfulProgram program
  pub bare : IsBareProgram program
  pub fit : program_fits space full program ≡ true

-- an operation that fits it
pub record IsFittingOperation (space : Space) (full : Full) (program : Program) (presence : Cond) (body : Body) : Type 0 where
  pub variables : AreLawfulVariables body.variables
  pub read : IsReadBody space body
  pub here : holds space full presence ≡ true
  pub fit : fits space full program presence scope.Operation body ≡ true

-- from every state of the full configuration an operation is not stuck, and so is a function with values that
-- suit its arguments; each field that is present has a type, a number at reset and what software writes
pub record FittingBodiesAreNeverStuck : Type 0 where
  pub operations : (space : Space) (full : Full) (program : Program) → IsFitting space full program
      → (presence : Cond) (body : Body) → IsFittingOperation space full program presence body
      → (s : State) → IsState space full program s → mean space full program as_operation body s ≢ stuck
  pub functions : (space : Space) (full : Full) (program : Program) → IsFitting space full program
      → (name : List ℕ) (f : Function) → function_named program.functions name ≡ Some f → (values : List Value) → SuitAll f.arguments values
      → (s : State) → IsState space full program s → mean space full program (as_function name values) f.body s ≢ stuck
  pub types : (space : Space) (full : Full) (program : Program) → IsFitting space full program
      → (csr : CsrBody) → Contains program.csrs csr → (p : Placed) → Contains (layout space full csr) p → field_type space full program p ≢ None
  pub resets : (space : Space) (full : Full) (program : Program) → IsFitting space full program
      → (csr : CsrBody) → Contains program.csrs csr → (p : Placed) → Contains (layout space full csr) p → reset_number space full program p ≢ None
  pub writes : (space : Space) (full : Full) (program : Program) → IsFitting space full program
      → (csr : CsrBody) → Contains program.csrs csr → (p : Placed) → Contains (layout space full csr) p → (body : Body) → p.field.write ≡ Some body
      → (n : ℕ) (s : State) → IsState space full program s → mean space full program (as_field_write csr.name p.field.name n) body s ≢ stuck
