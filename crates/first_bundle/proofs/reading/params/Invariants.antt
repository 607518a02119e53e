use Rattle.std.proofs.Common.{◌≡◌, ◌-◌, [], length}
use Rattle.first_bundle.specs.Reading.{params_onto}
use Rattle.first_bundle.proofs.reading.params.Given as goal

abbrev pub invariant-loop-turn : goal.invariant-loop-turn
invariant-loop-turn l = params_onto (length l.lines - l._turn) l.params l.rest ≡ params_onto (length l.lines) [] l.lines
