use Rattle.std.proofs.Common.{[], not, reverse, sym, ap, ◌∙◌}
use Rattle.std.specs.Option.{option_map, is_some}
use Rattle.udb_check.proofs.Flawless.{flawless}
use Rattle.udb_check.proofs.checker.find_flaw.Goals as goal

pub returns-in-None-clause-none : goal.returns-in-None-clause-none
returns-in-None-clause-none c =
    ap (λ o. not (is_some o)) (sym (ap (option_map reverse) c.in-None.is) ∙ c.in_ok-flaw_under.ensures) ∙ flawless c.args.space.now c.args.part.now c.args.cond.now c.args.proof.now []

pub returns-in_ok-reversed-in-Some-clause-none : goal.returns-in_ok-reversed-in-Some-clause-none
returns-in_ok-reversed-in-Some-clause-none c =
    ap (λ o. not (is_some o)) (sym (ap (option_map reverse) c.in-Some.is) ∙ c.in_ok-flaw_under.ensures) ∙ flawless c.args.space.now c.args.part.now c.args.cond.now c.args.proof.now []
