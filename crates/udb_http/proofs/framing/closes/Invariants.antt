use Rattle.std.proofs.Common.{◌≡◌, ◌&&◌, codes, map, drop}
use Rattle.httparse.specs.Spans.{header_bytes}
use Rattle.udb_http.specs.Framing.{is_named, same_word}
use Rattle.std.specs.List.{list_any}
use Rattle.udb_http.proofs.framing.closes.Given as goal

abbrev pub invariant-loop-field : goal.invariant-loop-field
invariant-loop-field l =
    let says = list_any (λ f. is_named (codes "connection") f && same_word (codes "close") f.1) in
    says (map (header_bytes l.head) (drop l.field-index l.fields)) ≡ says (map (header_bytes l.head) l.fields)
