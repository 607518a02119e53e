-- What the entries that were read are examined for: the facts of a bundle that reading by places
-- doesn't give by itself.
use Rattle.std.specs.Prelude.{◌&&◌, Bool, true, false, not, ℕ, nat_le, List, [], ◌∷◌, map, length, codes, Option, None, Some, if◌then◌else◌, option_and_then}
use Rattle.std.specs.List.{list_all, list_any}
use Rattle.std.specs.Cmp.Lexicographic.{slice_cmp}
use Rattle.std.specs.Ordering.{nat_cmp, is_lt}
use Rattle.udb_base.specs.declared.spaces.Domain.{Domain}
use Rattle.udb_base.specs.declared.spaces.Domain.TheVariants.{Flags, Numbers}
use Rattle.udb_spec.specs.Conditions.{same_bytes}
use Rattle.entry_tree.specs.declared.ParamEntry.{ParamEntry}
use Rattle.entry_tree.specs.declared.InstructionEntry.{InstructionEntry}
use Rattle.entry_tree.specs.declared.ConfigKind.{ConfigKind}
use Rattle.entry_tree.specs.declared.ConfigKind.TheVariants.{Partially}
use Rattle.entry_tree.specs.declared.Given.{Given}
use Rattle.entry_tree.specs.declared.ConfigEntry.{ConfigEntry}
use Rattle.first_spec.specs.declared.bundle.FirstBundle.{FirstBundle}
use Rattle.udb_base.specs.Lines.{text_of_lines}
use Rattle.first_spec.specs.Alphabets.{is_parameter_name, is_instruction_name, is_config_name, is_text, is_match}
use Rattle.first_spec.specs.Bundle.{param_lines, instruction_lines, config_lines, bundle_lines, digits_among, is_switch_name}
use Rattle.first_bundle.specs.Lines.{split_lines}
use Rattle.first_bundle.specs.Reading.{bundle_of}

abbrev pub fits : List (List ℕ) → Bool
fits lines = nat_le (length (text_of_lines lines)) 65536

abbrev pub is_mxlen : List ℕ → Bool
is_mxlen name = same_bytes name (codes "MXLEN")

abbrev pub is_switch : List ℕ → Domain → Bool
is_switch name Flags = not (is_mxlen name)
is_switch name (Numbers ns) = is_mxlen name && same_bytes ns (32 ∷ [])
is_switch name _ = false

abbrev pub plain_param_passes : ParamEntry → Bool
plain_param_passes x = is_parameter_name x.name && (is_text x.long_name && (is_text x.description && is_switch x.name x.domain))

abbrev pub param_passes : ParamEntry → Bool
param_passes x = plain_param_passes x && fits (param_lines x)

-- names rise strictly, and the first is past this one
abbrev pub rises_from : List ℕ → List (List ℕ) → Bool
rises_from name [] = true
rises_from name (n ∷ ns) = is_lt (slice_cmp nat_cmp name n) && rises_from n ns

abbrev pub plain_instruction_passes : InstructionEntry → Bool
plain_instruction_passes x =
    is_instruction_name x.name && (is_text x.long_name && (is_text x.description
    && (is_match (digits_among x.encodings) && nat_le 1 (length x.operation.statements))))

abbrev pub instruction_passes : InstructionEntry → Bool
instruction_passes x = plain_instruction_passes x && fits (instruction_lines x)

abbrev pub plain_config_passes : ConfigEntry → Bool
plain_config_passes x = is_config_name x.name && is_text x.description

-- each given value is one of a Boolean parameter, and the names rise
abbrev pub givens_pass : List ParamEntry → List Given → Bool
givens_pass params givens = list_all (λ g. is_switch_name params g.name) givens && rises_from [] (map (λ g. g.name) givens)

-- a partially configured configuration gives some value
abbrev pub gives_pass : List ParamEntry → ConfigKind → List Given → Bool
gives_pass params Partially givens = nat_le 1 (length givens) && givens_pass params givens
gives_pass params _ givens = true

abbrev pub config_passes : List ParamEntry → ConfigEntry → Bool
config_passes params x = plain_config_passes x && (gives_pass params x.kind x.params && fits (config_lines x))

abbrev pub names_pass : List ParamEntry → Bool
names_pass ps = rises_from [] (map (λ p. p.name) ps) && list_any (λ p. is_mxlen p.name) ps

abbrev pub bundle_passes : FirstBundle → Bool
bundle_passes x = names_pass x.params && (list_all param_passes x.params && (instruction_passes x.instruction && config_passes x.params x.config))

-- the entries pass, and the bytes are their text
abbrev pub is_spelled : List ℕ → FirstBundle → Bool
is_spelled bytes x = bundle_passes x && same_bytes (text_of_lines (bundle_lines x)) bytes

abbrev pub if_spelled : List ℕ → FirstBundle → Option FirstBundle
if_spelled bytes x = if is_spelled bytes x then Some x else None

-- the bundle that bytes spell
abbrev pub spelled_by : List ℕ → Option FirstBundle
spelled_by bytes = option_and_then (if_spelled bytes) (bundle_of (split_lines bytes))
