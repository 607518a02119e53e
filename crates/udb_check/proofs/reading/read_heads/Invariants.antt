use Rattle.std.proofs.Common.{◌≡◌, ◌≤◌, ◌+◌, ◌*◌, ◌^◌, Some, map, take, IsTrue}
use Rattle.std.specs.List.{list_all}
use Rattle.udb_check.specs.Heads.{head_text, is_head, awaited_after}
use Rattle.udb_check.proofs.reading.read_heads.Given as goal

abbrev pub invariant-loop-at : goal.invariant-loop-at
invariant-loop-at l = record {
  text : map (head_text l.space) l.heads ≡ take l.at l.lines;
  fit : IsTrue (list_all (is_head l.space) l.heads);
  count : awaited_after 1 l.heads ≡ Some l.awaited;
  room : l.awaited ≤ 1 + l.at * 2 ^ 32;
}
