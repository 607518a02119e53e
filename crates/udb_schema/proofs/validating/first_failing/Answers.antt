use Rattle.std.proofs.Common.{ap, ◌∙◌, ◌+◌, drop, List, Option}
use Rattle.udb_schema.specs.declared.words.Word.{Word}
use Rattle.udb_schema.specs.declared.words.SchemaWord.{SchemaWord}
use Rattle.udb_schema.specs.Faults as spec
use Rattle.udb_schema.specs.Validating as view
use Rattle.udb_schema.proofs.MeetLemmas.{failing_step}
use Rattle.udb_schema.proofs.validating.first_failing.Goals as goal

pub loop-schema-preserved : goal.loop-schema-preserved
loop-schema-preserved c =
    ap (λ (v : Option Word). spec.earliest v (spec.failing (view.behind (drop (c.loop-schema.schema-index + 1) c.args.schemas.now)) c.args.tree.now)) (c.earliest_in-least.ensures ∙ ap (λ (ws : List SchemaWord). spec.earliest c.loop-schema.least (view.failing_in ws c.args.tree.now)) c.as_slice.ensures)
    ∙ (failing_step c.args.schemas.now c.loop-schema.schema-index c.schema-item.result c.args.tree.now c.loop-schema.least c.loop-schema-test.true c.schema-item.is ∙ c.loop-schema.invariant)
