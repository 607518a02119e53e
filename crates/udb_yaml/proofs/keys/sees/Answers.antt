use Rattle.std.proofs.Common.{◌≡◌, ◌∙◌, List, ℕ, false, Some, None, sym, ap, subst}
use Rattle.udb_yaml.specs.Places.{Takes, key_in}
use Rattle.yaml_spec.specs.declared.state.Group.TheVariants.{Listed, Mapped}
use Rattle.yaml_spec.specs.Reading as spec
use Rattle.udb_yaml.proofs.KeyLemmas.{shows_dash, shows_other, shows_key}
use Rattle.udb_yaml.proofs.keys.sees.Goals as goal

pub returns-then-is_dash : goal.returns-then-is_dash
returns-then-is_dash c =
    shows_dash c.args.text.now c.as_bytes-bytes.result.now c.behind.result c.new.result c.as_bytes-bytes.ensures.value c.utf8.text (sym c.is_dash.ensures.test ∙ c.if-is_dash.true) c.new.ensures
    (c.behind.ensures ∙ ap (λ (z : List ℕ). spec.behind Listed c.new.result 1 z) c.after.ensures)

pub returns-in-None : goal.returns-in-None
returns-in-None c =
    let none : key_in false c.args.text.now ≡ None = subst (Takes c.args.text.now (key_in false c.args.text.now)) c.in-None.is c.in_ok-key_of.ensures in
    shows_other c.args.text.now c.as_bytes-bytes.result.now c.as_bytes-bytes.ensures.value (sym c.is_dash.ensures.test ∙ c.if-is_dash.false) none

pub returns-in-Some : goal.returns-in-Some
returns-in-Some c =
    let found : Takes c.args.text.now (key_in false c.args.text.now) (Some (c.in-Some.key, c.in-Some.count)) = subst (Takes c.args.text.now (key_in false c.args.text.now)) c.in-Some.is c.in_ok-key_of.ensures in
    shows_key c.args.text.now c.as_bytes-bytes.result.now c.behind-in-Some.result c.in-Some.key c.in-Some.count c.as_bytes-bytes.ensures.value c.utf8.text (sym c.is_dash.ensures.test ∙ c.if-is_dash.false) found.0 found.1 found.2
    (c.behind-in-Some.ensures ∙ ap (λ (z : List ℕ). spec.behind Mapped c.in-Some.key c.in-Some.count z) c.after-in-Some.ensures)
