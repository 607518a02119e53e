-- The rules on single texts come before that on names.
use Rattle.std.proofs.Common.{◌≡◌, ◌≤◌, arith}
use Rattle.db_spec.specs.Rules.{Rule, rule_number, pass_of, is_spelled, meets_schema, has_name, has_alphabet, versions_rise, domain_is_sound, encodings_are_formed, conditions_are_read, bodies_are_read, names_are_known, functions_are_declared_once, addresses_are_apart, words_are_known, kinds_fit, widths_fit, slices_fit, parts_are_present, cost_is_bounded, order_is_kept, encodings_are_apart, fields_are_apart, some_full, has_completion}

pub early_number : (r : Rule) → pass_of r ≡ 1 → rule_number r ≤ 12
early_number is_spelled p = omega arith
early_number meets_schema p = omega arith
early_number has_name p = omega arith
early_number has_alphabet p = omega arith
early_number versions_rise p = omega arith
early_number domain_is_sound p = omega arith
early_number encodings_are_formed p = omega arith
early_number conditions_are_read p = omega arith
early_number bodies_are_read p = omega arith
early_number names_are_known p = omega arith
early_number functions_are_declared_once p = omega arith
early_number addresses_are_apart p = omega arith
early_number words_are_known p = absurd (omega (arith, p))
early_number kinds_fit p = absurd (omega (arith, p))
early_number widths_fit p = absurd (omega (arith, p))
early_number slices_fit p = absurd (omega (arith, p))
early_number parts_are_present p = absurd (omega (arith, p))
early_number cost_is_bounded p = absurd (omega (arith, p))
early_number order_is_kept p = absurd (omega (arith, p))
early_number encodings_are_apart p = absurd (omega (arith, p))
early_number fields_are_apart p = absurd (omega (arith, p))
early_number some_full p = absurd (omega (arith, p))
early_number has_completion p = absurd (omega (arith, p))
