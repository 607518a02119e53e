use Rattle.std.proofs.Common.{◌<◌, ◌-◌, ◌^◌, length, take}
use Rattle.std.specs.List.{All}
use Rattle.udb_db.proofs.searching.are_short_extensions.Given as goal

abbrev pub invariant-loop-extension : goal.invariant-loop-extension
invariant-loop-extension l = All (λ e. length e.versions < 2 ^ 32 - 1) (take l.extension-index l.extensions)
