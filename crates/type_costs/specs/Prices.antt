-- What the cost of a body depends on, as the definitions have it, and the costs of parts.
use Rattle.std.specs.Prelude.{◌≡◌, ◌+◌, ℕ, List, [], map, find, sum_by, None, Some, if◌then◌else◌}
use Rattle.udb_base.specs.declared.names.Name.{Name}
use Rattle.udb_base.specs.declared.spaces.Space.{Space}
use Rattle.udb_base.specs.Lists.{is_among}
use Rattle.udb_spec.specs.Conditions.{same_bytes}
use Rattle.idl_tree.specs.declared.statements.Target.{Target}
use Rattle.idl_tree.specs.declared.programs.Program.{Program}
use Rattle.idl_tree.specs.Operands.{target_operands}
use Rattle.idl_spec.specs.Fields.{bits_scope}
use Rattle.idl_spec.specs.Costs.{expr_cost}
use Rattle.idl_spec.specs.Costs as meant
use Rattle.type_costs.specs.Capped.{capped}
use Rattle.type_costs.specs.declared.prices.Price.{Price}
use Rattle.type_costs.specs.declared.prices.Prices.{Prices}

abbrev pub priced : Price → Name × ℕ
priced p = (p.name, p.cost)

abbrev pub prices_of : Prices → meant.Prices
prices_of p = record {
  space = p.space.now;
  program = p.program.now;
  variables = p.variables.now;
  functions = map priced p.functions.now;
  soft = p.soft;
}

-- the bits are those that widths can name
abbrev pub IsScoped : Prices → Type 0
IsScoped p = p.scope.now ≡ bits_scope p.program.now p.variables.now

abbrev pub price_among : List (Name × ℕ) → Name → ℕ
price_among functions name = elim (find (λ p. same_bytes p.0 name) functions) [
  | None ↦ 0
  | Some p ↦ p.1
]

-- what a target costs
unfoldable pub target_cost : meant.Prices → Target → ℕ
target_cost prices target = 1 + sum_by (expr_cost prices) (target_operands target)

-- prices as far as the bound
abbrev pub capped_prices : List (Name × ℕ) → List (Name × ℕ)
capped_prices functions = map (λ p. (p.0, capped p.1)) functions

-- what a body without variables depends on
abbrev pub bare_prices : Space → Program → List (Name × ℕ) → ℕ → meant.Prices
bare_prices space program functions soft = record {
  space = space;
  program = program;
  variables = [];
  functions = functions;
  soft = soft;
}

-- what software access adds in a function: nothing where a body of a field reaches it
abbrev pub soft_of : List Name → ℕ → Name → ℕ
soft_of reached cost name = if is_among same_bytes name reached then 0 else cost
