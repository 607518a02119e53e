use Rattle.std.proofs.Common.{◌≡◌, drop}
use Rattle.std.specs.List.{list_all}
use Rattle.idl_lawful.specs.Tests.{is_below_power}
use Rattle.idl_lawful.proofs.states.have_bits.Given as goal

abbrev pub invariant-loop-number : goal.invariant-loop-number
invariant-loop-number l = list_all (is_below_power l.bits) (drop l.number-index l.numbers) ≡ list_all (is_below_power l.bits) l.numbers
