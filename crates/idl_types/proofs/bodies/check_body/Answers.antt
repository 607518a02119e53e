use Rattle.std.proofs.lemmas.Result.{IfOk-weaker}
use Rattle.idl_types.proofs.FitLaws.{fits-all}
use Rattle.idl_types.proofs.bodies.check_body.Goals as goal

pub returns-clause-fits : goal.returns-clause-fits
returns-clause-fits c =
    IfOk-weaker c.keep_body.result _ _ (λ t _. fits-all c.args.space.now c.args.program.now c.args.presence.now c.args.scope c.args.body.now c.in_ok-check_faults.ensures.accepted)
    c.keep_body.ensures.body
