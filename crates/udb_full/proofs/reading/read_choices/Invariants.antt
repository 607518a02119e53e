use Rattle.std.proofs.Common.{◌≤◌, take, length}
use Rattle.udb_full.specs.Found.{IsChoiceFound}
use Rattle.udb_full.specs.Reading.{AreFound}
use Rattle.udb_full.proofs.reading.read_choices.Given as goal

abbrev pub invariant-loop-at : goal.invariant-loop-at
invariant-loop-at l = record {
  items : AreFound IsChoiceFound (take l.at l.exts) (take l.at l.lines) l.choices;
  within : l.at ≤ length l.lines;
}
