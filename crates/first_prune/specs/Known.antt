-- What is known of Boolean parameters, and the full configurations and completions of a bundle.
use Rattle.std.specs.Prelude.{Bool, false, ℕ, List, [], ◌∷◌, map, Option, None, Some, if◌then◌else◌}
use Rattle.udb_base.specs.declared.conditions.Value.{Value}
use Rattle.udb_base.specs.declared.conditions.Value.TheVariants.{Flag, Number}
use Rattle.udb_base.specs.declared.conditions.Test.TheVariants.{Equal}
use Rattle.udb_base.specs.declared.conditions.Cond.TheVariants.{Param}
use Rattle.udb_base.specs.declared.spaces.Domain.{Domain}
use Rattle.udb_base.specs.declared.spaces.Domain.TheVariants.{Flags}
use Rattle.udb_base.specs.declared.spaces.Full.{Full}
use Rattle.udb_base.specs.declared.refutations.Partial.{Partial}
use Rattle.udb_spec.specs.Conditions.{same_bytes}
use Rattle.idl_tree.specs.declared.programs.Program.{Program}
use Rattle.entry_tree.specs.declared.ParamEntry.{ParamEntry}
use Rattle.entry_tree.specs.declared.Given.{Given}
use Rattle.entry_tree.specs.declared.ConfigEntry.{ConfigEntry}
use Rattle.first_spec.specs.declared.bundle.FirstBundle.{FirstBundle}
use Rattle.manual_spec.specs.Entries.{Entries}

-- names with truth values, the newest first
abbrev pub Known : Type 0
Known = List (List ℕ × Bool)

abbrev pub look : Known → List ℕ → Option Bool
look [] name = None
look (k ∷ ks) name = if same_bytes k.0 name then Some k.1 else look ks name

abbrev pub truth_of : Value → Bool
truth_of (Flag b) = b
truth_of _ = false

-- the given values
abbrev pub known_of : List Given → Known
known_of = map (λ g. (g.name, truth_of g.value))

-- the entries of the bundle's tables
abbrev pub entries_of : FirstBundle → Entries
entries_of x =
    record { extensions = []; params = x.params; instructions = x.instruction ∷ []; csrs = []; functions = [] }

-- the bodies of a bundle name neither functions nor CSRs
abbrev pub no_program : Program
no_program = record { functions = []; csrs = [] }

-- a constraint for each given value
abbrev pub partial_of : ConfigEntry → Partial
partial_of x = record { constraints = map (λ g. Param g.name Equal g.value) x.params }

-- a Boolean parameter has the value that is known, else false; MXLEN has 32
abbrev pub flag_of : Option Bool → Bool
flag_of None = false
flag_of (Some b) = b

abbrev pub value_with : Known → List ℕ → Domain → Value
value_with known name Flags = Flag (flag_of (look known name))
value_with known name _ = Number 32

abbrev pub completion_with : Known → List ParamEntry → Full
completion_with known params = record { extensions = []; params = map (λ p. value_with known p.name p.domain) params }
