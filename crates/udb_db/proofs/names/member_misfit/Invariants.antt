use Rattle.std.proofs.Common.{◌≡◌, drop, map}
use Rattle.udb_entry.specs.Config.{present}
use Rattle.udb_db.specs.Phases.{first_unfit}
use Rattle.udb_db.proofs.names.member_misfit.Given as goal

abbrev pub invariant-loop-member : goal.invariant-loop-member
invariant-loop-member l = first_unfit l.space (map present (drop l.member-index l.members)) ≡ first_unfit l.space (map present l.members)
