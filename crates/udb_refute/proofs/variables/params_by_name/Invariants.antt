use Rattle.std.proofs.Common.{◌≡◌, ◌-◌, ℕ, List, drop}
use Rattle.std.specs.HashMap.{get_by_text}
use Rattle.udb_refute.specs.Variables.{param_among}
use Rattle.udb_refute.proofs.variables.params_by_name.Given as goal

-- the variables from a place on have been put into the map
abbrev pub invariant-loop-done : goal.invariant-loop-done
invariant-loop-done l = (name : List ℕ) → get_by_text l.all name ≡ param_among (drop (l.count - l.done) l.params) name (l.count - l.done)
