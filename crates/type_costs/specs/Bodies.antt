-- The costs of some bodies together, and what the cost of a body depends on by its place.
use Rattle.std.specs.Prelude.{◌++◌, ℕ, List, take, slice_get, sum_by, Option, None, Some}
use Rattle.udb_base.specs.declared.names.Name.{Name}
use Rattle.udb_base.specs.declared.spaces.Space.{Space}
use Rattle.idl_tree.specs.declared.programs.Body.{Body}
use Rattle.idl_tree.specs.declared.programs.Function.{Function}
use Rattle.idl_tree.specs.declared.programs.FieldBodies.{FieldBodies}
use Rattle.idl_tree.specs.declared.programs.Program.{Program}
use Rattle.idl_spec.specs.declared.scopes.BodyScope.{BodyScope}
use Rattle.idl_spec.specs.declared.scopes.BodyScope.TheVariants as scope
use Rattle.idl_spec.specs.Costs.{Prices, cost_under, kind_bodies, reset_bodies, write_bodies}
use Rattle.type_costs.specs.Capped.{capped}
use Rattle.type_costs.specs.Prices.{soft_of}

-- the bodies of a field
abbrev pub bodies_of : FieldBodies → List Body
bodies_of f = kind_bodies f.kind ++ (reset_bodies f.reset ++ write_bodies f.write)

-- what bodies cost together, as far as the bound
unfoldable pub bodies_cost : Prices → List Body → ℕ
bodies_cost prices bodies = capped (sum_by (λ body. cost_under prices body.statements) bodies)

-- the functions that a body may call
abbrev pub before_of : List Function → BodyScope → List Function
before_of functions (scope.Function place) = take place functions
before_of functions _ = functions

abbrev pub soft_at : List Name → ℕ → Option Function → ℕ
soft_at reached cost None = 0
soft_at reached cost (Some f) = soft_of reached cost f.name

-- what software access adds in a body
abbrev pub soft_in : List Function → List Name → ℕ → BodyScope → ℕ
soft_in functions reached cost scope.Operation = cost
soft_in functions reached cost (scope.Function place) = soft_at reached cost (slice_get functions place)
soft_in functions reached cost _ = 0

-- what a body depends on under given prices
abbrev pub body_prices : Space → Program → Body → List (Name × ℕ) → ℕ → Prices
body_prices space program body functions soft = record {
  space = space;
  program = program;
  variables = body.variables;
  functions = functions;
  soft = soft;
}
