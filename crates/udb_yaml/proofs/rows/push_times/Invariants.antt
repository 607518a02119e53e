use Rattle.std.proofs.Common.{◌≡◌, ◌++◌, replicate}
use Rattle.udb_yaml.proofs.rows.push_times.Given as goal

abbrev pub invariant-times : goal.invariant-times
invariant-times l = l.text ≡ l.fn.text ++ replicate l.counter l.code
