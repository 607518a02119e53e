use Rattle.std.proofs.Common.{◌≡◌, drop}
use Rattle.std.specs.Prelude.{map}
use Rattle.std.specs.List.{list_all}
use Rattle.idl_spec.specs.Deeds.{all_of}
use Rattle.type_laws.specs.Literals.{expr_numbers}
use Rattle.idl_lawful.specs.Tests.{is_below_power}
use Rattle.idl_lawful.proofs.literals.+expressions.Given as goal

abbrev pub invariant-are_small_expressions-loop-one : goal.invariant-are_small_expressions-loop-one
invariant-are_small_expressions-loop-one l = list_all (is_below_power 128) (all_of (map expr_numbers (drop l.one-index l.all))) ≡ list_all (is_below_power 128) (all_of (map expr_numbers l.all))
