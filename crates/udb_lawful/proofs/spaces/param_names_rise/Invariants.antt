use Rattle.std.specs.Prelude.{IsTrue}
use Rattle.udb_spec.specs.Lawful.{name_lt}
use Rattle.udb_lawful.proofs.Rising.{Rising}
use Rattle.udb_lawful.proofs.spaces.param_names_rise.Given as goal

abbrev pub invariant-loop-at : goal.invariant-loop-at
invariant-loop-at l = Rising (λ a b. IsTrue (name_lt a.name b.name)) l.list l.at
