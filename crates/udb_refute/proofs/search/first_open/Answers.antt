use Rattle.std.proofs.Common.{◌-◌, ap, ◌∙◌, arith}
use Rattle.std.specs.Option.{option_copied}
use Rattle.udb_spec.specs.Constraints.{constraints, numbered}
use Rattle.udb_cond.specs.Steps.{steps_of}
use Rattle.udb_cond.proofs.Agreement.{known-yes}
use Rattle.udb_refute.proofs.SearchLaws.{hold-some, hold-all}
use Rattle.udb_refute.proofs.search.first_open.Goals as goal

pub loop-position-preserved : goal.loop-position-preserved
loop-position-preserved c =
    let numbers = constraints c.args.space.now c.args.part.now c.args.cond.now in
    let path = steps_of c.args.cells.now in
    let asked = c.in-Some.asked.now in
    let there = c.constraint.ensures ∙ (ap (λ cs. numbered cs c.number_at-number.result) c.requires.table.constraints ∙ ap (numbered numbers) c.number_at-number.ensures) in
    hold-some c.args.space.now c.args.part.now c.args.cond.now path c.loop-position.position (option_copied c.constraint.result) asked there (ap option_copied c.in-Some.is) (omega arith) (λ full w. known-yes c.args.space.now path full w asked _ c.truth.ensures c.in-Yes.is) c.loop-position.invariant

pub returns : goal.returns
returns c =
    hold-all c.args.space.now c.args.part.now c.args.cond.now (steps_of c.args.cells.now) (c.loop-position.position - 1) c.loop-position.invariant (omega arith)
