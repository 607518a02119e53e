use Rattle.std.proofs.lemmas.Result.{IfOk-weaker}
use Rattle.udb_check.proofs.HeadLaws.{no-name, no-space, number-after}
use Rattle.udb_check.proofs.heads.number_after.Goals as goal

pub returns-in_default : goal.returns-in_default
returns-in_default c = no-name c.args.name.now c.args.text.now c.in_default.ensures

pub returns-in-Some-strip_prefix : goal.returns-in-Some-strip_prefix
returns-in-Some-strip_prefix c = IfOk-weaker c.number_of_text.result _ _ (λ o h. number-after c.args.name.now c.args.text.now c.in-Some.rest.now c.in-Some-strip_prefix.digits.now o c.in-Some.ensures c.in-Some-strip_prefix.ensures h) c.number_of_text.ensures

pub returns-in-None : goal.returns-in-None
returns-in-None c = no-space c.args.name.now c.args.text.now c.in-Some.rest.now c.in-Some.ensures c.in-None.ensures
