use Rattle.std.proofs.Common.{◌≡◌, map, drop}
use Rattle.httparse.specs.Spans.{header_bytes}
use Rattle.udb_http.specs.Framing.{agree}
use Rattle.udb_http.proofs.framing.agree.Given as goal

abbrev pub invariant-loop-field : goal.invariant-loop-field
invariant-loop-field l =
    agree l.name l.value (map (header_bytes l.head) (drop l.field-index l.fields))
    ≡ agree l.name l.value (map (header_bytes l.head) l.fields)
