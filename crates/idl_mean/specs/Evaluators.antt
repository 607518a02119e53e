-- What an evaluator holds, and how its answers are outcomes.
use Rattle.std.specs.Prelude.{◌≡◌, ◌≢◌, ℕ, true, List, [], map, All, Option, None, IfSome, option_and_then, slice_get, if◌then◌else◌}
use Rattle.udb_base.specs.declared.conditions.Cond.TheVariants as c
use Rattle.udb_base.specs.declared.spaces.Space.{Space}
use Rattle.udb_base.specs.declared.spaces.Full.{Full}
use Rattle.udb_spec.specs.Conditions.{holds}
use Rattle.udb_spec.specs.Lawful.{Lawful}
use Rattle.idl_tree.specs.declared.programs.Program.{Program}
use Rattle.idl_width.specs.declared.scopes.BitsOf.{BitsOf}
use Rattle.idl_spec.specs.Values as meant
use Rattle.idl_spec.specs.Harts as hart
use Rattle.idl_spec.specs.Harts.{State}
use Rattle.idl_spec.specs.Fields.{Placed, placed, bits_scope}
use Rattle.idl_spec.specs.Programs.{as_operation, mean, reset_number, IsState}
use Rattle.idl_spec.specs.declared.scopes.BodyScope.TheVariants as scope
use Rattle.idl_spec.specs.Checks.{fits}
use Rattle.idl_forms.specs.Ready.{IsLawfulProgram, AreLawfulVariables}
use Rattle.type_laws.specs.Given.{IsReadSpace, IsReadBody, IsBareProgram}
use Rattle.idl_mean.specs.declared.prepared.Prepared.{Prepared}
use Rattle.idl_mean.specs.declared.evaluator.Outcome.{Outcome}
use Rattle.idl_mean.specs.declared.evaluator.Outcome.TheVariants.{Done, Raised}

-- the space and the program are lawful, and `$bits` can name in each body, and where no variable stands, what
-- the definitions say
pub record IsReady (prepared : Prepared) (widths : List (List BitsOf)) (bare : List BitsOf) : Type 0 where
  pub lawful : Lawful prepared.space
  pub program : IsLawfulProgram prepared.program
  pub variables : All (λ b. AreLawfulVariables b.variables) prepared.bodies
  pub scopes : widths ≡ map (λ b. bits_scope prepared.program b.variables) prepared.bodies
  pub bare_scope : bare ≡ bits_scope prepared.program []

-- what the body at a place does to a state as an operation
abbrev pub operation : Prepared → ℕ → Full → State → hart.Outcome (Option meant.Value)
operation prepared place full s =
    hart.or_stuck (slice_get prepared.bodies place) (λ body. mean prepared.space full prepared.program as_operation body s)

-- the space and the program are as readers give them
pub record IsRead (prepared : Prepared) : Type 0 where
  pub space : IsReadSpace prepared.space
  pub program : IsBareProgram prepared.program

-- the body at a place is as readers give it, and fits as an operation that is always present
pub record FitsAt (prepared : Prepared) (place : ℕ) (full : Full) : Type 0 where
  pub read : IfSome (slice_get prepared.bodies place) (IsReadBody prepared.space)
  pub fit : IfSome (slice_get prepared.bodies place) (λ body. fits prepared.space full prepared.program c.Always scope.Operation body ≡ true)

-- how a body ends, with the state that it leaves
abbrev pub outcome_of : Outcome → State → hart.Outcome (Option meant.Value)
outcome_of Done s = hart.done None s
outcome_of (Raised code tval) s = hart.raised code tval s

-- the field at its places in the program, where it is present
abbrev pub placed_at : Space → Full → Program → ℕ → ℕ → Option Placed
placed_at space full program csr field =
    option_and_then
    (λ one. if holds space full one.present then option_and_then (placed space full) (slice_get one.fields field) else None)
    (slice_get program.csrs csr)

-- the number that it holds at reset
abbrev pub reset_at : Space → Full → Program → ℕ → ℕ → Option ℕ
reset_at space full program csr field = option_and_then (reset_number space full program) (placed_at space full program csr field)

-- a body that fits is never stuck
abbrev pub NeverStuck : Prepared → ℕ → Full → Type 0
NeverStuck prepared place full = (s : State) → IsState prepared.space full prepared.program s → operation prepared place full s ≢ hart.stuck

-- a field that is present has a number at reset
abbrev pub HasReset : Prepared → ℕ → ℕ → Full → Type 0
HasReset prepared csr field full =
    placed_at prepared.space full prepared.program csr field ≢ None
    → reset_at prepared.space full prepared.program csr field ≢ None
