use Rattle.std.proofs.lemmas.Result.{IfOk-weaker}
use Rattle.udb_cond.proofs.Completions.{each-meets, meets-completion}
use Rattle.udb_cond.proofs.constraints.constraint.Goals as goal

pub returns-clause-met : goal.returns-clause-met
returns-clause-met c = IfOk-weaker c.numbered_constraint.result _ _ (λ found is. each-meets c.args.space.now c.args.part.now c.args.cond.now c.args.number found is) c.numbered_constraint.ensures

pub returns-clause-enough : goal.returns-clause-enough
returns-clause-enough c = λ full lawful within all. meets-completion c.args.space.now full c.args.part.now c.args.cond.now lawful within all
