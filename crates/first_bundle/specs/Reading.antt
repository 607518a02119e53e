-- How the lines of a bundle are read: by their places, whatever stands there. Whether the entries
-- that come out are ones of a bundle, and whether the lines are theirs, is examined afterwards.
use Rattle.std.specs.Prelude.{◌++◌, Bool, true, ℕ, zero, suc, List, [], ◌∷◌, map, length, drop, slice_index_or, codes, Option, None, Some, if◌then◌else◌}
use Rattle.std.specs.Option.{option_map}
use Rattle.udb_base.specs.declared.conditions.Cond.TheVariants.{Always}
use Rattle.udb_base.specs.declared.conditions.Value.TheVariants.{Flag}
use Rattle.udb_base.specs.declared.spaces.Domain.{Domain}
use Rattle.udb_base.specs.declared.spaces.Domain.TheVariants.{Flags, Numbers}
use Rattle.idl_tree.specs.declared.programs.Base.TheVariants.{All}
use Rattle.idl_tree.specs.declared.statements.Stmt.{Stmt}
use Rattle.entry_tree.specs.declared.ParamEntry.{ParamEntry}
use Rattle.entry_tree.specs.declared.InstructionEntry.{InstructionEntry}
use Rattle.entry_tree.specs.declared.ConfigKind.{ConfigKind}
use Rattle.entry_tree.specs.declared.ConfigKind.TheVariants.{Unconfigured, Partially}
use Rattle.entry_tree.specs.declared.Given.{Given}
use Rattle.entry_tree.specs.declared.ConfigEntry.{ConfigEntry}
use Rattle.first_spec.specs.declared.bundle.FirstBundle.{FirstBundle}
use Rattle.first_bundle.specs.Lines.{plain, until}
use Rattle.first_bundle.specs.Statements.{begins_with}
use Rattle.first_bundle.specs.Blocks.{read_body}

abbrev pub nth : ℕ → List (List ℕ) → List ℕ
nth at lines = slice_index_or lines at []

-- what follows the first `skip` bytes of a line
abbrev pub field : ℕ → ℕ → List (List ℕ) → List ℕ
field skip at lines = plain (drop skip (nth at lines))

abbrev pub is_switch_part : List (List ℕ) → Bool
is_switch_part lines = begins_with (codes "  type: boolean") (nth 6 lines)

abbrev pub domain_of : List (List ℕ) → Domain
domain_of lines = if is_switch_part lines then Flags else Numbers (32 ∷ [])

abbrev pub param_of : List (List ℕ) → ParamEntry
param_of lines = record { name = field 6 2 lines; long_name = field 11 3 lines; description = field 13 4 lines; domain = domain_of lines; defined = Always; needs = Always }

-- the lines after a parameter
abbrev pub after_param : List (List ℕ) → List (List ℕ)
after_param lines = if is_switch_part lines then drop 7 lines else drop 8 lines

abbrev pub is_param_part : List (List ℕ) → Bool
is_param_part lines = begins_with (codes "=== parameter ") (nth 0 lines)

-- at most so many parameters at the front, and the rest
abbrev pub params_onto : ℕ → List ParamEntry → List (List ℕ) → List ParamEntry × List (List ℕ)
params_onto zero params lines = (params, lines)
params_onto (suc n) params lines = if is_param_part lines then params_onto n (params ++ param_of lines ∷ []) (after_param lines) else (params, lines)

abbrev pub instruction_of : List (List ℕ) → List Stmt → InstructionEntry
instruction_of lines statements =
    record {
      name = field 6 2 lines;
      long_name = field 11 3 lines;
      description = field 13 4 lines;
      assembly = [];
      base = None;
      encodings = record { base = All; digits = field 9 7 lines } ∷ [];
      defined = Always;
      operation = record { variables = []; statements = statements };
    }

-- a line that gives a value
abbrev pub given_of : List ℕ → Given
given_of line =
    let name = until 58 (drop 2 line)
    in record { name = plain name; value = Flag (begins_with (codes ": true") (drop (length name) (drop 2 line))) }

abbrev pub gives_params : List (List ℕ) → Bool
gives_params lines = begins_with (codes "type: partially") (nth 3 lines)

abbrev pub kind_of : List (List ℕ) → ConfigKind
kind_of lines = if gives_params lines then Partially else Unconfigured

abbrev pub givens_of : List (List ℕ) → List Given
givens_of lines = if gives_params lines then map given_of (drop 6 lines) else []

abbrev pub config_of : List (List ℕ) → ConfigEntry
config_of lines =
    record {
      name = field 6 2 lines;
      description = field 13 4 lines;
      kind = kind_of lines;
      params = givens_of lines;
      mandatory = [];
      prohibited = [];
      additional = true;
      implemented = [];
    }

-- the instruction at the front, then the configuration
abbrev pub bundle_after : List ParamEntry → List (List ℕ) → Option FirstBundle
bundle_after params lines =
    option_map (λ r. record { params = params; instruction = instruction_of lines r.0; config = config_of r.1 })
    (read_body params (drop 9 lines))

abbrev pub bundle_of : List (List ℕ) → Option FirstBundle
bundle_of lines = let front = params_onto (length lines) [] lines in bundle_after front.0 front.1
