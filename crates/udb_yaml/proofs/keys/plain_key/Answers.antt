use Rattle.std.proofs.Common.{◌∙◌, sym, ap, arith}
use Rattle.std.proofs.lemmas.Str.{IsCharBoundary-after_ascii}
use Rattle.udb_yaml.specs.Places.{is_plain_key}
use Rattle.udb_yaml.proofs.KeyLemmas.{plain_found, plain_refused, colon_text}
use Rattle.udb_yaml.proofs.keys.plain_key.Goals as goal

pub returns-in_ok-of-in-Some : goal.returns-in_ok-of-in-Some
returns-in_ok-of-in-Some c =
    let colon = colon_text c.args.text.now c.as_bytes.result.now c.in-Some.at c.as_bytes.ensures.value c.in-Some.ensures in
    let key = c.text_before-key.ensures in
    let is = ap (is_plain_key c.args.flow) (sym key) ∙ (sym c.is_plain_key.ensures ∙ c.if-is_plain_key.true) in
    let cut = IsCharBoundary-after_ascii c.args.text.now c.in-Some.at c.utf8.text colon.1 (let at = colon.2 in omega arith) in
    (plain_found c.args.flow c.args.text.now c.in_ok-of-in-Some.field-0 c.in-Some.at colon.0 is (c.in_ok-of-in-Some.ensures ∙ key), cut.0, cut)

pub returns-else-is_plain_key : goal.returns-else-is_plain_key
returns-else-is_plain_key c =
    let colon = colon_text c.args.text.now c.as_bytes.result.now c.in-Some.at c.as_bytes.ensures.value c.in-Some.ensures in
    plain_refused c.args.flow c.args.text.now c.in-Some.at colon.0 (ap (is_plain_key c.args.flow) (sym c.text_before-key.ensures) ∙ (sym c.is_plain_key.ensures ∙ c.if-is_plain_key.false))
