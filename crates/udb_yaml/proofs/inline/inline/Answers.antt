use Rattle.std.proofs.Common.{◌∙◌, sym, ap}
use Rattle.yaml_spec.specs.Reading as spec
use Rattle.udb_yaml.proofs.FlowLemmas.{inline_quoted, inline_other}
use Rattle.udb_yaml.proofs.inline.inline.Goals as goal

pub returns-in_ok-read-in-Some : goal.returns-in_ok-read-in-Some
returns-in_ok-read-in-Some c =
    let quote = ap spec.quote_of (sym c.as_bytes.ensures.value) ∙ sym c.in-Some.ensures in
    c.ends_line.ensures ∙ inline_quoted c.args.room c.args.text.now c.as_bytes-in-Some.result.now c.in-Some.place c.in_ok-read-in-Some.read quote c.as_bytes-in-Some.ensures.value c.in_ok-read-in-Some.ensures

pub returns-in-None : goal.returns-in-None
returns-in-None c =
    let quote = ap spec.quote_of (sym c.as_bytes.ensures.value) ∙ sym c.in-None.ensures in
    rw (inline_other c.args.room c.args.text.now quote) c.unquoted.ensures
