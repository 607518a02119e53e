use Rattle.std.proofs.Common.{sym}
use Rattle.udb_yaml.proofs.KeyLemmas.{ends_last}
use Rattle.udb_yaml.proofs.keys.ends_in.Goals as goal

pub returns-then-text-gt0 : goal.returns-then-text-gt0
returns-then-text-gt0 c = sym (ends_last c.args.byte c.args.text.now c.if-text-gt0.true)
