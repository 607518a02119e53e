use Rattle.std.proofs.Common.{subst}
use Rattle.yaml_spec.specs.Machine.{add}
use Rattle.udb_yaml.specs.Steps.{Stepped}
use Rattle.udb_yaml.proofs.StepLemmas.{stays, stepped_none, stepped_some}
use Rattle.udb_yaml.proofs.steps.unless_skipped.Goals as goal

pub returns-then-is_skipped : goal.returns-then-is_skipped
returns-then-is_skipped c = stays c.args.state.started c.is_skipped.result c.args.state.frames c.args.state.leaf c.args.column c.args.content.now c.is_skipped.ensures c.if-is_skipped.true

pub returns-in-None : goal.returns-in-None
returns-in-None c = stepped_none c.args.state.started c.is_skipped.result c.args.state.frames c.add.new.frames c.args.state.leaf c.args.column c.args.content.now c.is_skipped.ensures c.if-is_skipped.false (subst (Stepped (add 32 0 0 c.args.state.frames c.args.state.leaf c.args.column c.args.content.now) c.add.new.frames) c.in-None.is c.in_ok-add.ensures)

pub returns-in-Some : goal.returns-in-Some
returns-in-Some c = stepped_some c.args.state.started c.is_skipped.result c.args.state.frames c.add.new.frames c.args.state.leaf c.in-Some.leaf c.args.column c.args.content.now c.is_skipped.ensures c.if-is_skipped.false (subst (Stepped (add 32 0 0 c.args.state.frames c.args.state.leaf c.args.column c.args.content.now) c.add.new.frames) c.in-Some.is c.in_ok-add.ensures)
