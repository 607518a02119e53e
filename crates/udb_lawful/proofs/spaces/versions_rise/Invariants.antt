use Rattle.std.specs.Prelude.{IsTrue}
use Rattle.udb_spec.specs.Versions.{version_lt}
use Rattle.udb_lawful.proofs.Rising.{Rising}
use Rattle.udb_lawful.proofs.spaces.versions_rise.Given as goal

abbrev pub invariant-loop-at : goal.invariant-loop-at
invariant-loop-at l = Rising (λ a b. IsTrue (version_lt a.version b.version)) l.list l.at
