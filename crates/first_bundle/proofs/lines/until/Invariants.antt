use Rattle.std.proofs.Common.{◌≡◌, ◌++◌, take, drop}
use Rattle.first_bundle.specs.Lines.{until}
use Rattle.first_bundle.proofs.lines.until.Given as goal

abbrev pub invariant-loop-at : goal.invariant-loop-at
invariant-loop-at l = take l.at l.text ++ until l.byte (drop l.at l.text) ≡ until l.byte l.text
