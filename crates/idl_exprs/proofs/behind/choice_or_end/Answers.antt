use Rattle.std.proofs.Common.{◌≡◌, true, false, sym, ap, subst, ◌∙◌, arith}
use Rattle.idl_grammar.specs.Outcome as o
use Rattle.idl_grammar.specs.Outcome.{Outcome}
use Rattle.idl_grammar.specs.ExprReader.{Found}
use Rattle.idl_token.specs.declared.kinds.Sign.TheVariants as s
use Rattle.idl_token.specs.Seen.{symbols}
use Rattle.idl_exprs.specs.Exprs.{part_of}
use Rattle.idl_exprs.specs.Steps as step
use Rattle.idl_exprs.specs.Steps.{Leads}
use Rattle.idl_exprs.specs.declared.progress.Hole.TheVariants as hole
use Rattle.idl_exprs.specs.declared.progress.Step.TheVariants as st
use Rattle.idl_exprs.proofs.LevelSteps.{topped_never, topped_plain, topped_refused, topped_goes}
use Rattle.idl_exprs.proofs.behind.choice_or_end.Goals as goal

pub returns-then-not-may_choose-clause-leads : goal.returns-then-not-may_choose-clause-leads
returns-then-not-may_choose-clause-leads c =
    let never : step.may_choose (part_of c.args.part) c.args.place ≡ false = cc in
    subst (λ (r : Outcome Found). Leads c.args.below (part_of c.args.part) r c.after_choice.result (symbols c.after_choice.new.tokens.rest.now))
    (sym (topped_never c.args.below (part_of c.args.part) c.args.place (c.args.test, c.args.nesting) (symbols c.args.tokens.now.rest.now) never)) c.after_choice.ensures.leads

pub returns-then-not-sees-clause-leads : goal.returns-then-not-sees-clause-leads
returns-then-not-sees-clause-leads c =
    let none : o.sees (o.is_sign s.Question) (symbols c.args.tokens.now.rest.now) ≡ false = cc in
    subst (λ (r : Outcome Found). Leads c.args.below (part_of c.args.part) r c.after_choice-then-not-sees.result (symbols c.after_choice-then-not-sees.new.tokens.rest.now))
    (sym (topped_plain c.args.below (part_of c.args.part) c.args.place (c.args.test, c.args.nesting) (symbols c.args.tokens.now.rest.now) none)) c.after_choice-then-not-sees.ensures.leads

pub returns-then-nesting-from-clause-leads : goal.returns-then-nesting-from-clause-leads
returns-then-nesting-from-clause-leads c =
    let may : step.may_choose (part_of c.args.part) c.args.place ≡ true = cc in
    let here : o.sees (o.is_sign s.Question) (symbols c.args.tokens.now.rest.now) ≡ true = cc in
    topped_refused c.args.below (part_of c.args.part) c.args.place (c.args.test, c.args.nesting) (symbols c.args.tokens.now.rest.now) may here (omega arith)

pub returns-clause-leads : goal.returns-clause-leads
returns-clause-leads c =
    let may : step.may_choose (part_of c.args.part) c.args.place ≡ true = cc in
    let here : o.sees (o.is_sign s.Question) (symbols c.args.tokens.now.rest.now) ≡ true = cc in
    topped_goes c.args.below (part_of c.args.part) c.args.place c.args.test c.args.nesting (symbols c.args.tokens.now.rest.now) may here (omega arith)
    ∙ ap (step.awaits c.args.below (part_of c.args.part) (st.Inner (hole.Yes c.args.test c.args.nesting c.args.place))) (sym c.skip.ensures)
