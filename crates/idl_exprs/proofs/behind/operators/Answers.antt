use Rattle.std.proofs.Common.{◌≡◌, ℕ, Some, None, sym, ap, subst, ◌∙◌, arith}
use Rattle.idl_grammar.specs.Outcome as o
use Rattle.idl_grammar.specs.Outcome.{Outcome}
use Rattle.idl_grammar.specs.ExprReader.{Found}
use Rattle.idl_token.specs.Seen.{symbols}
use Rattle.idl_exprs.specs.Exprs as piece
use Rattle.idl_exprs.specs.Exprs.{part_of}
use Rattle.idl_exprs.specs.Steps as step
use Rattle.idl_exprs.specs.Steps.{Leads}
use Rattle.idl_exprs.specs.declared.progress.Step.{Step}
use Rattle.idl_exprs.proofs.LevelSteps.{onward_tops, onward_refused, onward_turns}
use Rattle.idl_exprs.proofs.behind.operators.Goals as goal

pub returns-in-None-clause-leads : goal.returns-in-None-clause-leads
returns-in-None-clause-leads c =
    let none : piece.next_operator c.args.level (step.upto (part_of c.args.part) c.args.place) (o.head (symbols c.args.tokens.now.rest.now)) ≡ None =
    ap (λ (l : ℕ). piece.next_operator c.args.level l (o.head (symbols c.args.tokens.now.rest.now))) (sym c.level_limit.ensures) ∙ (sym c.next_operator.ensures ∙ ap piece.leveled c.in-None.is) in
    subst (λ (r : Outcome Found). Leads c.args.below (part_of c.args.part) r c.choice_or_end.result (symbols c.choice_or_end.new.tokens.rest.now))
    (sym (onward_tops c.args.below (part_of c.args.part) c.args.place c.args.level (c.args.left, c.args.nesting) (symbols c.args.tokens.now.rest.now) none)) c.choice_or_end.ensures.leads

pub returns-then-nesting-from-clause-leads : goal.returns-then-nesting-from-clause-leads
returns-then-nesting-from-clause-leads c =
    let some : piece.next_operator c.args.level (step.upto (part_of c.args.part) c.args.place) (o.head (symbols c.args.tokens.now.rest.now)) ≡ Some (c.in-Some.level, piece.operator_of c.in-Some.operator) =
    ap (λ (l : ℕ). piece.next_operator c.args.level l (o.head (symbols c.args.tokens.now.rest.now))) (sym c.level_limit.ensures) ∙ (sym c.next_operator.ensures ∙ ap piece.leveled c.in-Some.is) in
    onward_refused c.args.below (part_of c.args.part) c.args.place c.args.level (c.args.left, c.args.nesting) (symbols c.args.tokens.now.rest.now) c.in-Some.level (piece.operator_of c.in-Some.operator) some (omega arith)

pub returns-else-nesting-from-clause-leads : goal.returns-else-nesting-from-clause-leads
returns-else-nesting-from-clause-leads c =
    let some : piece.next_operator c.args.level (step.upto (part_of c.args.part) c.args.place) (o.head (symbols c.args.tokens.now.rest.now)) ≡ Some (c.in-Some.level, piece.operator_of c.in-Some.operator) =
    ap (λ (l : ℕ). piece.next_operator c.args.level l (o.head (symbols c.args.tokens.now.rest.now))) (sym c.level_limit.ensures) ∙ (sym c.next_operator.ensures ∙ ap piece.leveled c.in-Some.is) in
    onward_turns c.args.below (part_of c.args.part) c.args.place c.args.level c.args.left c.args.nesting (symbols c.args.tokens.now.rest.now) c.in-Some.level c.in-Some.operator some (omega arith)
    ∙ ap (step.awaits c.args.below (part_of c.args.part) (step.right_side c.in-Some.operator c.in-Some.level c.args.left c.args.nesting c.args.place)) (sym c.skip.ensures)
    ∙ ap (λ (x : Step). step.awaits c.args.below (part_of c.args.part) x (symbols c.skip.new.self.rest.now)) (sym c.right_side.ensures)
