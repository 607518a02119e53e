-- The constraints that a configuration adds to its space, in order.
use Rattle.std.specs.Prelude.{◌≡◌, ◌≢◌, AllPairs, Bool, ℕ, List, [], ◌∷◌, ◌++◌, map, Option, None, Some, if◌then◌else◌}
use Rattle.std.specs.List.{Contains, list_any, flat_map}
use Rattle.udb_base.specs.declared.conditions.Test.TheVariants.{Equal}
use Rattle.udb_base.specs.declared.conditions.Cond.{Cond}
use Rattle.udb_base.specs.declared.conditions.Cond.TheVariants as c
use Rattle.udb_base.specs.declared.refutations.Partial.{Partial}
use Rattle.udb_base.specs.declared.spaces.ExtSpace.{ExtSpace}
use Rattle.udb_base.specs.declared.spaces.ParamSpace.{ParamSpace}
use Rattle.udb_base.specs.declared.spaces.Space.{Space}
use Rattle.udb_spec.specs.Conditions.{same_bytes}
use Rattle.entry_tree.specs.declared.Member.{Member}
use Rattle.entry_tree.specs.declared.Given.{Given}
use Rattle.entry_tree.specs.declared.ConfigKind.{ConfigKind}
use Rattle.entry_tree.specs.declared.ConfigKind.TheVariants.{Unconfigured, Partially, Fully}
use Rattle.entry_tree.specs.declared.ConfigEntry.{ConfigEntry}

-- ---- parameters

abbrev pub given_among : List Given → List ℕ → Option Given
given_among [] name = None
given_among (g ∷ gs) name = if same_bytes g.name name then Some g else given_among gs name

abbrev pub given_constraints : Option Given → List Cond
given_constraints None = []
given_constraints (Some g) = c.Param g.name Equal g.value ∷ []

abbrev pub value_constraint : List Given → List ℕ → List Cond
value_constraint givens name = given_constraints (given_among givens name)

-- The pairs in the order of their names, which is the order of the space: an entry gives each name once, and names
-- parameters of the space alone.
abbrev pub value_constraints : List ParamSpace → List Given → List Cond
value_constraints params givens = flat_map (λ p. value_constraint givens p.name) params

-- ---- extensions

-- the extension is present, in a version that meets the requirements
abbrev pub present : Member → Cond
present m = c.Ext m.name m.needs

abbrev pub contrary : Member → Cond
contrary m = c.Not (present m)

abbrev pub is_named : List Member → ExtSpace → Bool
is_named members e = list_any (λ m. same_bytes m.name e.name) members

abbrev pub unless_named : List Member → ExtSpace → List Cond
unless_named members e = if is_named members e then [] else c.Not (c.Ext e.name []) ∷ []

-- each extension of the space that no member names is absent
abbrev pub others_absent : List ExtSpace → List Member → List Cond
others_absent extensions members = flat_map (unless_named members) extensions

abbrev pub unless_additional : Bool → List ExtSpace → List Member → List Cond
unless_additional additional extensions members = if additional then [] else others_absent extensions members

-- ---- configurations

abbrev pub part_constraints : Space → ConfigEntry → List Cond
part_constraints space x = value_constraints space.params x.params ++ map present x.mandatory ++ map contrary x.prohibited ++ unless_additional x.additional space.extensions x.mandatory

abbrev pub full_constraints : Space → ConfigEntry → List Cond
full_constraints space x = part_constraints space x ++ map present x.implemented ++ others_absent space.extensions x.implemented

-- every full configuration completes an unconfigured one
abbrev pub constraints_by : ConfigKind → Space → ConfigEntry → List Cond
constraints_by Unconfigured space x = []
constraints_by Partially space x = part_constraints space x
constraints_by Fully space x = full_constraints space x

abbrev pub config_constraints : Space → ConfigEntry → List Cond
config_constraints space x = constraints_by x.kind space x

-- each pair that is given for a parameter of the space is a constraint, where no two pairs have one name
abbrev pub IsValued : Space → ConfigEntry → List Cond → Type 0
IsValued space x constraints = AllPairs (λ a b. a.name ≢ b.name) x.params → (g : Given) (p : ParamSpace) → Contains x.params g → Contains space.params p → p.name ≡ g.name → Contains constraints (c.Param g.name Equal g.value)

-- so it is of each configuration that isn't unconfigured
abbrev pub HasValues : Space → ConfigEntry → Partial → Type 0
HasValues space x part = x.kind ≢ Unconfigured → IsValued space x part.constraints
