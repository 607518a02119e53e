use Rattle.std.proofs.Common.{◌-◌, ◌∙◌, arith}
use Rattle.std.proofs.lemmas.List.{take_all}
use Rattle.udb_spec.specs.Constraints.{constraints}
use Rattle.udb_refute.proofs.SearchLaws.{length-all}
use Rattle.udb_refute.proofs.VariableLaws.{constraint-more}
use Rattle.udb_refute.proofs.variables.constraints_of.Goals as goal

pub loop-number-preserved : goal.loop-number-preserved
loop-number-preserved c =
    constraint-more (constraints c.args.space.now c.args.part.now c.args.cond.now) c.loop-number.number c.loop-number.all c.push_if_any.new.items c.in_ok-constraint.field-0 (omega arith) c.loop-number.invariant c.in_ok-constraint.ensures.numbered c.in_ok-push_if_any.ensures

pub returns : goal.returns
returns c =
    let numbers = constraints c.args.space.now c.args.part.now c.args.cond.now in
    c.loop-number.invariant ∙ take_all (c.loop-number.number - 1) numbers (omega (arith, length-all c.args.space.now c.args.part.now c.args.cond.now, c.len.ensures, c.len-2.ensures, c.len-3.ensures))
