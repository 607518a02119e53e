use Rattle.std.proofs.Common.{◌∙◌, sym}
use Rattle.udb_yaml.proofs.PlaceLemmas.{signless_at, signless_stop, signless_end}
use Rattle.udb_yaml.proofs.bytes.signless.Goals as goal

pub returns-then-is_flow-clause-content : goal.returns-then-is_flow-clause-content
returns-then-is_flow-clause-content c =
    signless_at c.args.text.now c.bytes.at (signless_stop c.args.text.now c.bytes.at _ c.bytes-test.true (sym c.is_flow.ensures ∙ c.if-is_flow.true) c.bytes.invariant.0)

pub returns-clause-content : goal.returns-clause-content
returns-clause-content c = signless_at c.args.text.now c.bytes.at (signless_end c.args.text.now c.bytes.at _ c.bytes-test.false c.bytes.invariant.0)
