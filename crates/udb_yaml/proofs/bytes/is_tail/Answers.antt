use Rattle.std.proofs.Common.{arith}
use Rattle.std.proofs.lemmas.Bool.Decides.{nat_tests}
use Rattle.udb_yaml.proofs.PlaceLemmas.{tail_told}
use Rattle.udb_yaml.proofs.bytes.is_tail.Goals as goal

pub returns-then-at-text : goal.returns-then-at-text
returns-then-at-text c = let e = tail_told c.args.text.now c.front-at.result c.front-at.ensures.count in grind (arith, nat_tests)

pub returns-then-at-gt0 : goal.returns-then-at-gt0
returns-then-at-gt0 c = let e = tail_told c.args.text.now c.front-at.result c.front-at.ensures.count in grind (arith, nat_tests)

pub returns-else-at-gt0 : goal.returns-else-at-gt0
returns-else-at-gt0 c = let e = tail_told c.args.text.now c.front-at.result c.front-at.ensures.count in grind (arith, nat_tests)
