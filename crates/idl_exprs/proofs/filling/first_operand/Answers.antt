use Rattle.std.proofs.Common.{sym, ap, ◌∙◌, arith}
use Rattle.idl_token.specs.Seen.{symbols}
use Rattle.idl_exprs.specs.Exprs.{part_of}
use Rattle.idl_exprs.specs.Steps as step
use Rattle.idl_exprs.specs.Steps.{Leads}
use Rattle.idl_exprs.specs.declared.progress.Hole.TheVariants as hole
use Rattle.idl_exprs.specs.declared.progress.Step.TheVariants as st
use Rattle.std.proofs.lemmas.Result.{err_from_is_err_and}
use Rattle.idl_exprs.specs.declared.progress.Step.{Step}
use Rattle.idl_exprs.proofs.WidthSteps.{fails_on}
use Rattle.idl_exprs.proofs.LevelSteps.{begun_plain, begun_signed, begun_refused, opened_leads, after}
use Rattle.idl_exprs.proofs.filling.first_operand.Goals as goal

pub returns-then-below-eq0-clause-leads : goal.returns-then-below-eq0-clause-leads
returns-then-below-eq0-clause-leads c =
    begun_refused c.args.below (part_of c.args.part) (symbols c.args.tokens.now.rest.now) c.in-Some.sign (sym c.unary_at.ensures ∙ c.in-Some.is) c.if-below-eq0.true

pub returns-else-below-eq0-clause-leads : goal.returns-else-below-eq0-clause-leads
returns-else-below-eq0-clause-leads c =
    begun_signed c.args.below (part_of c.args.part) (symbols c.args.tokens.now.rest.now) c.in-Some.sign (sym c.unary_at.ensures ∙ c.in-Some.is) (omega arith)
    ∙ ap (step.awaits c.args.below (part_of c.args.part) (st.Inner (hole.Signed c.in-Some.sign))) (sym c.skip.ensures)

pub returns-in_err-opening-in-None-clause-leads : goal.returns-in_err-opening-in-None-clause-leads
returns-in_err-opening-in-None-clause-leads c =
    let p = err_from_is_err_and c.from_residual.result c.from_residual.ensures.1 in
    rw (p.1, p.2) (fails_on _ _ c.in_err-opening-in-None.field-0.0 _ (λ e.
    begun_plain c.args.below (part_of c.args.part) (symbols c.args.tokens.now.rest.now) (sym c.unary_at.ensures ∙ c.in-None.is)
    ∙ after _ _ (step.operand c.args.below (part_of c.args.part)) e) c.in_err-opening-in-None.ensures.leads)

pub returns-in_ok-opening-in-None-clause-leads : goal.returns-in_ok-opening-in-None-clause-leads
returns-in_ok-opening-in-None-clause-leads c =
    begun_plain c.args.below (part_of c.args.part) (symbols c.args.tokens.now.rest.now) (sym c.unary_at.ensures ∙ c.in-None.is)
    ∙ after _ _ (step.operand c.args.below (part_of c.args.part)) c.in_ok-opening-in-None.ensures.leads
    ∙ opened_leads c.args.below (part_of c.args.part) c.in_ok-opening-in-None.opening (symbols c.atom.new.tokens.rest.now)
    ∙ ap (λ (x : Step). step.awaits c.args.below (part_of c.args.part) x (symbols c.atom.new.tokens.rest.now)) (sym c.first_step.ensures)
