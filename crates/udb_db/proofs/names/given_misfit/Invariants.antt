use Rattle.std.proofs.Common.{◌≡◌, drop, map}
use Rattle.db_spec.specs.Entries.{given}
use Rattle.udb_db.specs.Phases.{first_unfit}
use Rattle.udb_db.proofs.names.given_misfit.Given as goal

abbrev pub invariant-loop-given : goal.invariant-loop-given
invariant-loop-given l = first_unfit l.space (map given (drop l.given-index l.givens)) ≡ first_unfit l.space (map given l.givens)
