use Rattle.std.proofs.Common.{◌≡◌, true, ◌-◌, ◌+◌, length, sym, ◌∙◌, arith}
use Rattle.first_bundle.specs.Reading.{is_param_part}
use Rattle.first_bundle.proofs.ParamSteps.{params_taken, params_left}
use Rattle.first_bundle.proofs.reading.params.Goals as goal

pub returns-then-not-begins_param : goal.returns-then-not-begins_param
returns-then-not-begins_param c =
    sym (params_left _ (length c.args.lines.now - (c.loop-turn._turn + 1)) c.loop-turn.params c.loop-turn.rest.now (omega arith) (sym c.if-not-begins_param.ensures))
    ∙ c.loop-turn.invariant

pub loop-turn-preserved : goal.loop-turn-preserved
loop-turn-preserved c =
    let begins : is_param_part c.loop-turn.rest.now ≡ true = cc in
    rw (c.in_ok-push.ensures.ok, c.past_param-rest.ensures, c.in_ok-param.ensures)
    (sym (params_taken _ (length c.args.lines.now - (c.loop-turn._turn + 1)) c.loop-turn.params c.loop-turn.rest.now (omega arith) begins)
    ∙ c.loop-turn.invariant)
