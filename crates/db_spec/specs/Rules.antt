-- The rules of acceptance: what each asks is said in Breaks.
use Rattle.std.specs.Prelude.{ℕ}

-- each rule by what it asks of an entry
pub data Rule : Type 0 where
  is_spelled : Rule
  meets_schema : Rule
  has_name : Rule
  has_alphabet : Rule
  versions_rise : Rule
  domain_is_sound : Rule
  encodings_are_formed : Rule
  conditions_are_read : Rule
  bodies_are_read : Rule
  names_are_known : Rule
  functions_are_declared_once : Rule
  addresses_are_apart : Rule
  words_are_known : Rule
  kinds_fit : Rule
  widths_fit : Rule
  slices_fit : Rule
  parts_are_present : Rule
  cost_is_bounded : Rule
  order_is_kept : Rule
  encodings_are_apart : Rule
  fields_are_apart : Rule
  some_full : Rule
  has_completion : Rule

-- the number by which a refusal names the rule
abbrev pub rule_number : Rule → ℕ
rule_number is_spelled = 1
rule_number meets_schema = 2
rule_number has_name = 3
rule_number has_alphabet = 4
rule_number versions_rise = 5
rule_number domain_is_sound = 6
rule_number encodings_are_formed = 7
rule_number conditions_are_read = 8
rule_number bodies_are_read = 9
rule_number names_are_known = 10
rule_number functions_are_declared_once = 11
rule_number addresses_are_apart = 12
rule_number words_are_known = 13
rule_number kinds_fit = 14
rule_number widths_fit = 15
rule_number slices_fit = 16
rule_number parts_are_present = 17
rule_number cost_is_bounded = 18
rule_number order_is_kept = 19
rule_number encodings_are_apart = 20
rule_number fields_are_apart = 21
rule_number some_full = 22
rule_number has_completion = 23

-- The rules are examined in passes: the texts one by one; the names in the read entries; the types of bodies; the
-- encodings and fields that meet in one machine; the full configurations that there are. A pass is examined only where
-- all earlier ones are kept.
abbrev pub pass_of : Rule → ℕ
pass_of is_spelled = 1
pass_of meets_schema = 1
pass_of has_name = 1
pass_of has_alphabet = 1
pass_of versions_rise = 1
pass_of domain_is_sound = 1
pass_of encodings_are_formed = 1
pass_of conditions_are_read = 1
pass_of bodies_are_read = 1
pass_of names_are_known = 2
pass_of functions_are_declared_once = 2
pass_of addresses_are_apart = 2
pass_of words_are_known = 3
pass_of kinds_fit = 3
pass_of widths_fit = 3
pass_of slices_fit = 3
pass_of parts_are_present = 3
pass_of cost_is_bounded = 3
pass_of order_is_kept = 3
pass_of encodings_are_apart = 4
pass_of fields_are_apart = 4
pass_of some_full = 5
pass_of has_completion = 5
