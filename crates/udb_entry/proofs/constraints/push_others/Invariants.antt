use Rattle.std.proofs.Common.{◌≡◌, ◌++◌, take}
use Rattle.udb_entry.specs.Config.{others_absent}
use Rattle.udb_entry.proofs.constraints.push_others.Given as goal

abbrev pub invariant-loop-extension : goal.invariant-loop-extension
invariant-loop-extension l = l.into ≡ l.initial.into ++ others_absent (take l.extension-index l.extensions) l.members
