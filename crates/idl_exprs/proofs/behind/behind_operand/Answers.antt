use Rattle.std.proofs.Common.{◌≡◌, true, false, sym, ap, subst, ◌∙◌, arith}
use Rattle.idl_grammar.specs.Outcome as o
use Rattle.idl_grammar.specs.Outcome.{Outcome}
use Rattle.idl_grammar.specs.ExprReader.{Found}
use Rattle.idl_token.specs.declared.kinds.Sign.TheVariants as s
use Rattle.idl_token.specs.Seen.{symbols}
use Rattle.idl_exprs.specs.Exprs.{part_of}
use Rattle.idl_exprs.specs.Steps as step
use Rattle.idl_exprs.specs.Steps.{Leads}
use Rattle.idl_exprs.specs.declared.progress.Step.TheVariants as st
use Rattle.idl_exprs.proofs.LevelSteps.{operand_plainly, operand_deep, operand_turns}
use Rattle.idl_exprs.proofs.behind.behind_operand.Goals as goal

pub returns-then-not-sees-clause-leads : goal.returns-then-not-sees-clause-leads
returns-then-not-sees-clause-leads c =
    let none : o.sees (o.is_sign s.OpenBracket) (symbols c.args.tokens.now.rest.now) ≡ false = cc in
    subst (λ (r : Outcome Found). Leads c.args.below (part_of c.args.part) r c.operators.result (symbols c.operators.new.tokens.rest.now))
    (sym (operand_plainly c.args.below (part_of c.args.part) (c.args.of, c.args.nesting) (symbols c.args.tokens.now.rest.now) none)) c.operators.ensures.leads

pub returns-then-nesting-from-clause-leads : goal.returns-then-nesting-from-clause-leads
returns-then-nesting-from-clause-leads c =
    let here : o.sees (o.is_sign s.OpenBracket) (symbols c.args.tokens.now.rest.now) ≡ true = cc in
    operand_deep c.args.below (part_of c.args.part) (c.args.of, c.args.nesting) (symbols c.args.tokens.now.rest.now) here (omega arith)

pub returns-clause-leads : goal.returns-clause-leads
returns-clause-leads c =
    let here : o.sees (o.is_sign s.OpenBracket) (symbols c.args.tokens.now.rest.now) ≡ true = cc in
    operand_turns c.args.below (part_of c.args.part) c.args.of c.args.nesting (symbols c.args.tokens.now.rest.now) here (omega arith)
    ∙ ap (step.awaits c.args.below (part_of c.args.part) (st.Brackets c.args.of c.args.nesting)) (sym c.skip.ensures)
