use Rattle.std.proofs.Common.{sym, ap, subst, ◌∙◌}
use Rattle.idl_grammar.specs.Outcome.{Outcome}
use Rattle.idl_grammar.specs.ExprReader.{Found}
use Rattle.idl_token.specs.Seen.{symbols}
use Rattle.idl_exprs.specs.Exprs.{part_of}
use Rattle.idl_exprs.specs.Steps as step
use Rattle.idl_exprs.specs.Steps.{Leads}
use Rattle.std.proofs.lemmas.Result.{err_from_is_err_and}
use Rattle.idl_exprs.specs.declared.progress.Step.{Step}
use Rattle.idl_exprs.proofs.WidthSteps.{fails_on}
use Rattle.idl_exprs.proofs.LevelSteps.{behind_level, tight_level, any_level, opened_leads, after}
use Rattle.idl_exprs.proofs.filling.begin.Goals as goal

pub returns-in_err-opening-in-Behind-clause-leads : goal.returns-in_err-opening-in-Behind-clause-leads
returns-in_err-opening-in-Behind-clause-leads c =
    let p = err_from_is_err_and c.from_residual.result c.from_residual.ensures.1 in
    rw (p.1, p.2) (fails_on _ _ c.in_err-opening-in-Behind.field-0.0 _ (λ e.
    behind_level c.args.below c.args.part c.in-Behind.name (symbols c.args.tokens.now.rest.now) c.in-Behind.is
    ∙ after _ _ (step.operand c.args.below (part_of c.args.part)) e) c.in_err-opening-in-Behind.ensures.leads)

pub returns-in_ok-opening-in-Behind-clause-leads : goal.returns-in_ok-opening-in-Behind-clause-leads
returns-in_ok-opening-in-Behind-clause-leads c =
    behind_level c.args.below c.args.part c.in-Behind.name (symbols c.args.tokens.now.rest.now) c.in-Behind.is
    ∙ after _ _ (step.operand c.args.below (part_of c.args.part)) c.in_ok-opening-in-Behind.ensures.leads
    ∙ opened_leads c.args.below (part_of c.args.part) c.in_ok-opening-in-Behind.opening (symbols c.word_or_call.new.tokens.rest.now)
    ∙ ap (λ (x : Step). step.awaits c.args.below (part_of c.args.part) x (symbols c.word_or_call.new.tokens.rest.now)) (sym c.first_step.ensures)

pub returns-in-Tight-clause-leads : goal.returns-in-Tight-clause-leads
returns-in-Tight-clause-leads c =
    subst (λ (r : Outcome Found). Leads c.args.below (part_of c.args.part) r c.first_operand.result (symbols c.first_operand.new.tokens.rest.now))
    (sym (tight_level c.args.below c.args.part c.in-Tight.field-0 (symbols c.args.tokens.now.rest.now) c.in-Tight.is)) c.first_operand.ensures.leads

pub returns-in-Any-clause-leads : goal.returns-in-Any-clause-leads
returns-in-Any-clause-leads c =
    subst (λ (r : Outcome Found). Leads c.args.below (part_of c.args.part) r c.first_operand-in-Any.result (symbols c.first_operand-in-Any.new.tokens.rest.now))
    (sym (any_level c.args.below c.args.part (symbols c.args.tokens.now.rest.now) c.in-Any.is)) c.first_operand-in-Any.ensures.leads
