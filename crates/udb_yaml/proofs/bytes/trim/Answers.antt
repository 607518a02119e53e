use Rattle.std.proofs.Common.{◌∙◌, sym, arith}
use Rattle.udb_yaml.proofs.PlaceLemmas.{trim_step, trim_stop}
use Rattle.udb_yaml.proofs.bytes.trim.Goals as goal

pub spaces-preserved : goal.spaces-preserved
spaces-preserved c = (trim_step c.args.text.now c.spaces.end c.spaces-test.true c.spaces.invariant.1 c.if-text-end-eq32.true ∙ c.spaces.invariant.0, omega arith, λ lt. c.if-text-end-eq32.true)

pub returns-else-text-end-eq32-clause-content : goal.returns-else-text-end-eq32-clause-content
returns-else-text-end-eq32-clause-content c = sym c.spaces.invariant.0 ∙ trim_stop c.args.text.now c.spaces.end c.spaces-test.true c.spaces.invariant.1 c.if-text-end-eq32.false
