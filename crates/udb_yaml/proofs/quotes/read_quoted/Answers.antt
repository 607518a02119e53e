use Rattle.std.proofs.Common.{◌∙◌, sym, ap, drop}
use Rattle.yaml_spec.specs.declared.sights.Inner.{Inner}
use Rattle.yaml_spec.specs.Reading as spec
use Rattle.udb_yaml.proofs.QuoteLemmas.{ends_last, ends_past, ends_quote, turn_goes, turn_byte, turn_gives}
use Rattle.udb_yaml.proofs.quotes.read_quoted.Goals as goal
use Rattle.udb_yaml.proofs.quotes.read_quoted.Goals.{in-Goes, in-Byte+in_ok-push-in-Byte, in-Gives+in_ok-push-in-Gives}

pub chars-requires : goal.chars-requires
chars-requires c = (ends_last c.args.first c.bytes.place c.args.text.now _ c.bytes.bytes.items c.bytes.at c.utf8.text c.as_bytes-byte-items.ensures.value c.bytes.invariant c.bytes-test.true c.in-Last.ensures).utf8

pub returns-in-Last : goal.returns-in-Last
returns-in-Last c =
    rw c.chars.ensures (ends_last c.args.first c.bytes.place c.args.text.now _ c.bytes.bytes.items c.bytes.at c.utf8.text c.as_bytes-byte-items.ensures.value c.bytes.invariant c.bytes-test.true c.in-Last.ensures).takes

pub chars-requires-in-Past : goal.chars-requires-in-Past
chars-requires-in-Past c = (ends_past c.args.first c.bytes.place c.args.text.now _ c.bytes.bytes.items c.bytes.at c.utf8.text c.as_bytes-byte-items.ensures.value c.bytes.invariant c.bytes-test.true c.in-Past.ensures).utf8

pub returns-in-Past : goal.returns-in-Past
returns-in-Past c =
    rw c.chars-in-Past.ensures (ends_past c.args.first c.bytes.place c.args.text.now _ c.bytes.bytes.items c.bytes.at c.utf8.text c.as_bytes-byte-items.ensures.value c.bytes.invariant c.bytes-test.true c.in-Past.ensures).takes

pub bytes-preserved : goal.bytes-preserved
bytes-preserved c = elim c.match-turn.branch [
  | in-Goes w ↦ rw (w.place-is, w.bytes-is) (turn_goes c.bytes.place w.in-Goes.next c.args.text.now _ c.bytes.bytes.items c.bytes.at c.as_bytes-byte-items.ensures.value c.bytes-test.true w.in-Goes.ensures ∙ c.bytes.invariant)
  | in-Byte+in_ok-push-in-Byte w ↦ rw (w.place-is, w.bytes-is, w.in_ok-push-in-Byte.ensures.items) (turn_byte c.bytes.place w.in-Byte.next c.args.text.now _ c.bytes.bytes.items c.bytes.at c.as_bytes-byte-items.ensures.value c.bytes-test.true w.in-Byte.ensures ∙ c.bytes.invariant)
  | in-Gives+in_ok-push-in-Gives w ↦ rw (w.place-is, w.bytes-is, w.in_ok-push-in-Gives.ensures) (turn_gives c.bytes.place w.in-Gives.code c.args.text.now _ c.bytes.bytes.items c.bytes.at c.as_bytes-byte-items.ensures.value c.bytes-test.true w.in-Gives.ensures ∙ c.bytes.invariant)
]

pub chars-requires-in-Quote : goal.chars-requires-in-Quote
chars-requires-in-Quote c =
    (ends_quote c.args.first c.args.text.now _ c.bytes.bytes.items c.bytes.at c.utf8.text c.as_bytes-byte-items.ensures.value (ap (λ (z : Inner). spec.prefixed c.bytes.bytes.items (spec.quoted z (drop c.bytes.at c.args.text.now))) (sym c.in-Quote.is) ∙ c.bytes.invariant) c.bytes-test.false).utf8
