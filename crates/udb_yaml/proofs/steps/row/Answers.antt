use Rattle.std.proofs.Common.{◌∙◌, Option, ap}
use Rattle.std.proofs.lemmas.Result.{IfOk-weaker}
use Rattle.yaml_spec.specs.declared.state.Block.{Block}
use Rattle.yaml_spec.specs.Machine as k
use Rattle.udb_yaml.proofs.StepLemmas.{row_within, row_behind, reaches_same}
use Rattle.udb_yaml.proofs.steps.row.Goals as goal

pub returns-in-None : goal.returns-in-None
returns-in-None c = row_within c.args.started c.is_inside.result c.args.frames c.args.block c.in_ok-with_row.field-0 c.args.column c.args.content.now c.is_inside.ensures c.if-is_inside.true c.in_ok-with_row.ensures ∙ ap (λ (z : Option Block). k.with_start c.args.started (k.with_block c.args.frames z)) c.in-None.is

pub returns-in-Some : goal.returns-in-Some
returns-in-Some c = row_within c.args.started c.is_inside.result c.args.frames c.args.block c.in_ok-with_row.field-0 c.args.column c.args.content.now c.is_inside.ensures c.if-is_inside.true c.in_ok-with_row.ensures ∙ ap (λ (z : Option Block). k.with_start c.args.started (k.with_block c.args.frames z)) c.in-Some.is

pub returns : goal.returns
returns c = IfOk-weaker c.unless_skipped.result _ _ (λ o e. reaches_same _ _ o (row_behind c.args.started c.is_inside.result c.args.frames c.args.block c.in_ok-block_tree.field-0 c.args.column c.args.content.now c.is_inside.ensures c.if-is_inside.false c.in_ok-block_tree.ensures) e) c.unless_skipped.ensures
