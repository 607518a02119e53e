use Rattle.std.proofs.lemmas.Result.{IfOk-weaker}
use Rattle.udb_yaml.proofs.StepLemmas.{advance_hole, advance_done, advance_block, reaches_same}
use Rattle.udb_yaml.proofs.steps.advance.Goals as goal

pub returns-in-Block : goal.returns-in-Block
returns-in-Block c = IfOk-weaker c.row.result _ _ (λ o e. reaches_same _ _ o (advance_block c.args.state.started c.args.state.frames c.args.state.leaf c.in-Block.block c.args.column c.args.content.now c.in-Block.is) e) c.row.ensures

pub returns-in-Hole : goal.returns-in-Hole
returns-in-Hole c = IfOk-weaker c.unless_skipped.result _ _ (λ o e. reaches_same _ _ o (advance_hole c.args.state.started c.args.state.frames c.args.state.leaf c.args.column c.args.content.now c.in-Hole.is) e) c.unless_skipped.ensures

pub returns-in-Done : goal.returns-in-Done
returns-in-Done c = IfOk-weaker c.unless_skipped-in-Done.result _ _ (λ o e. reaches_same _ _ o (advance_done c.args.state.started c.args.state.frames c.args.state.leaf c.in-Done.value c.args.column c.args.content.now c.in-Done.is) e) c.unless_skipped-in-Done.ensures
