use Rattle.std.proofs.Common.{◌≡◌, ◌++◌, take, map}
use Rattle.udb_entry.specs.Config.{contrary}
use Rattle.udb_entry.proofs.constraints.push_contrary.Given as goal

abbrev pub invariant-loop-member : goal.invariant-loop-member
invariant-loop-member l = l.into ≡ l.initial.into ++ map contrary (take l.member-index l.members)
