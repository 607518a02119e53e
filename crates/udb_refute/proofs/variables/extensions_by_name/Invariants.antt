use Rattle.std.proofs.Common.{◌≡◌, ◌-◌, ℕ, List, drop}
use Rattle.std.specs.HashMap.{get_by_text}
use Rattle.udb_refute.specs.Variables.{extension_among}
use Rattle.udb_refute.proofs.variables.extensions_by_name.Given as goal

-- the variables from a place on have been put into the map
abbrev pub invariant-loop-done : goal.invariant-loop-done
invariant-loop-done l = (name : List ℕ) → get_by_text l.all name ≡ extension_among (drop (l.count - l.done) l.extensions) name (l.count - l.done)
