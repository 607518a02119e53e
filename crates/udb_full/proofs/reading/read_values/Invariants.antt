use Rattle.std.proofs.Common.{◌≤◌, take, length}
use Rattle.udb_full.specs.Found.{IsValueFound}
use Rattle.udb_full.specs.Reading.{AreFound}
use Rattle.udb_full.proofs.reading.read_values.Given as goal

abbrev pub invariant-loop-at : goal.invariant-loop-at
invariant-loop-at l = record {
  items : AreFound IsValueFound (take l.at l.params) (take l.at l.lines) l.values;
  within : l.at ≤ length l.lines;
}
