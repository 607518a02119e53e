use Rattle.std.proofs.Common.{sym, ◌∙◌}
use Rattle.std.specs.Cmp.Lexicographic.{bytes_decides}
use Rattle.std.proofs.lemmas.Bool.{false≢true}
use Rattle.udb_base.proofs.FrontLemmas.{no-utf8, no-parse, other-text}
use Rattle.udb_base.proofs.fronts.number_of_text.Goals as goal

pub returns-in_default : goal.returns-in_default
returns-in_default c = no-utf8 c.args.text.now c.in_default.ensures.cases.0

pub returns-in_default-parse : goal.returns-in_default-parse
returns-in_default-parse c = no-parse c.args.text.now c.in-Ok.digits.now c.parse.result c.in-Ok.ensures.cases.0 c.parse.ensures.value.0 c.in_default-parse.not-Ok

pub returns : goal.returns
returns c =
    other-text c.args.text.now c.in-Ok.digits.now c.parse.result c.in-Ok-parse.number c.in-Ok.ensures.cases.0 c.parse.ensures.value.0 c.in-Ok-parse.is
    (λ e. false≢true (c.if-eq.ensures ∙ (bytes_decides c.as_str.result.now c.in-Ok.digits.now).1 (c.as_str.ensures.value ∙ c.in_ok-printed.ensures.ok ∙ e ∙ sym c.in-Ok.ensures.cases.0)))
