use Rattle.std.proofs.Common.{◌≡◌, ◌≤◌, ◌-◌, take, length}
use Rattle.udb_http.specs.Scans.{IsScanned}
use Rattle.udb_http.specs.Sessions.{unread, Stays}
use Rattle.udb_http.proofs.reader.read_head.Given as goal

abbrev pub invariant-reads : goal.invariant-reads
invariant-reads g l = record {
  scanned : IsScanned (take l.limit l.buffer) l.scan;
  stays : Stays (unread l.fn.buffer (g.L.Link.left l.fn.link)) (unread l.buffer (g.L.Link.left l.link));
  faults : g.L.Link.faults l.fn.link ≤ g.L.Link.faults l.link;
  later : g.L.Link.later l.link ≡ g.L.Link.later l.fn.link;
  sent : g.L.Link.sent l.link ≡ g.L.Link.sent l.fn.link;
  nexts : g.L.Link.next_faults l.link ≡ g.L.Link.next_faults l.fn.link;
}

abbrev pub decreases-reads : goal.decreases-reads
decreases-reads g l = l.limit - length l.buffer
