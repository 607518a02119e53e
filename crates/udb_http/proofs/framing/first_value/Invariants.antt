use Rattle.std.proofs.Common.{◌≡◌, map, drop}
use Rattle.httparse.specs.Spans.{header_bytes}
use Rattle.udb_http.specs.Framing.{first_value}
use Rattle.udb_http.proofs.framing.first_value.Given as goal

abbrev pub invariant-loop-field : goal.invariant-loop-field
invariant-loop-field l =
    first_value l.name (map (header_bytes l.head) (drop l.field-index l.fields))
    ≡ first_value l.name (map (header_bytes l.head) l.fields)
