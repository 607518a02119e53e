use Rattle.udb_yaml.proofs.PlaceLemmas.{lean_cut}
use Rattle.std.proofs.Common.{arith, length-take, ℕ}
use Rattle.udb_yaml.proofs.bytes.lean.Goals as goal

pub returns-clause-content : goal.returns-clause-content
returns-clause-content c = (lean_cut c.args.text.now c.pair.result c.trim.result c.pair.ensures.place c.trim.ensures.content c.trim.ensures.within (omega (arith, length-take {A = ℕ}, c.trim.ensures.within))).0

pub returns-clause-tail : goal.returns-clause-tail
returns-clause-tail c = (lean_cut c.args.text.now c.pair.result c.trim.result c.pair.ensures.place c.trim.ensures.content c.trim.ensures.within (omega (arith, length-take {A = ℕ}, c.trim.ensures.within))).1
