use Rattle.std.proofs.Common.{◌≡◌, take}
use Rattle.std.specs.List.{flat_map}
use Rattle.udb_db.specs.Phases.{ext_spaces_in}
use Rattle.udb_db.proofs.spaces.ext_spaces.Given as goal

abbrev pub invariant-loop-entry : goal.invariant-loop-entry
invariant-loop-entry l = l.all ≡ flat_map ext_spaces_in (take l.entry-index l.entries)
