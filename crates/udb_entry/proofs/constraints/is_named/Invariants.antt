use Rattle.std.proofs.Common.{◌≡◌, drop}
use Rattle.udb_entry.specs.Config.{is_named}
use Rattle.udb_entry.proofs.constraints.is_named.Given as goal

abbrev pub invariant-loop-member : goal.invariant-loop-member
invariant-loop-member l = is_named (drop l.member-index l.members) l.extension ≡ is_named l.members l.extension
