use Rattle.std.proofs.Common.{◌≡◌, sym, ap, ◌∙◌}
use Rattle.idl_grammar.specs.ExprReader as er
use Rattle.idl_grammar.specs.Outcome.{after}
use Rattle.idl_exprs.specs.Exprs.{xlen}
use Rattle.idl_exprs.specs.Gives.{in_expr, ahead}
use Rattle.idl_exprs.specs.Steps.{moved_by}
use Rattle.idl_tree.specs.declared.expressions.Expr.TheVariants as e
use Rattle.idl_exprs.proofs.AtomSteps.{opens_as, reserved_member}
use Rattle.idl_exprs.proofs.atoms.reserved_word.Goals as goal

pub returns-in-CsrValue-clause-leads : goal.returns-in-CsrValue-clause-leads
returns-in-CsrValue-clause-leads c = opens_as c.args.below (moved_by er.reserved_by c.args.below c.args.word) (in_expr er.new_field c.args.below) c.args.tokens.now c.skip-in-CsrValue.new.self c.new_field.new.tokens c.new_field.result
    (rw c.in-CsrValue.is (ap (in_expr er.new_field c.args.below) (sym c.skip-in-CsrValue.ensures))) (c.new_field.ensures.leads c.args.below)

pub returns-in-CsrValue-clause-small : goal.returns-in-CsrValue-clause-small
returns-in-CsrValue-clause-small c = c.new_field.ensures.small c.args.below

pub returns-in-Xlen-clause-leads : goal.returns-in-Xlen-clause-leads
returns-in-Xlen-clause-leads c = opens_as c.args.below (moved_by er.reserved_by c.args.below c.args.word) (in_expr er.empty_call c.args.below xlen) c.args.tokens.now c.skip-in-Xlen.new.self c.xlen.new.tokens c.xlen.result
    (rw c.in-Xlen.is (ap (in_expr er.empty_call c.args.below xlen) (sym c.skip-in-Xlen.ensures))) (c.xlen.ensures.leads c.args.below)

pub returns-in-Xlen-clause-small : goal.returns-in-Xlen-clause-small
returns-in-Xlen-clause-small c = c.xlen.ensures.small c.args.below

pub returns-in-Mode-clause-leads : goal.returns-in-Mode-clause-leads
returns-in-Mode-clause-leads c = opens_as c.args.below (moved_by er.reserved_by c.args.below c.args.word) (in_expr er.empty_call c.args.below e.Mode) c.args.tokens.now c.skip-in-Mode.new.self c.empty_call.new.tokens c.empty_call.result
    (rw c.in-Mode.is (ap (in_expr er.empty_call c.args.below e.Mode) (sym c.skip-in-Mode.ensures))) (c.empty_call.ensures.leads c.args.below)

pub returns-in-Mode-clause-small : goal.returns-in-Mode-clause-small
returns-in-Mode-clause-small c = c.empty_call.ensures.small c.args.below

pub returns-in-Some : goal.returns-in-Some
returns-in-Some c = record {
  leads = opens_as c.args.below (moved_by er.reserved_by c.args.below c.args.word) (in_expr er.member c.args.below c.in-Some.kind) c.args.tokens.now c.skip-in-Some.new.self c.member.new.tokens c.member.result
      (reserved_member c.args.below (er.expr_part c.args.below) c.args.word c.in-Some.kind (ahead c.args.tokens.now) (sym c.enum_of.ensures ∙ c.in-Some.is) ∙ ap (in_expr er.member c.args.below c.in-Some.kind) (sym c.skip-in-Some.ensures)) (c.member.ensures.leads c.args.below);
  small = c.member.ensures.small c.args.below;
}
