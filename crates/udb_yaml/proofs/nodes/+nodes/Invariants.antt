use Rattle.std.proofs.Common.{◌+◌, ◌*◌}
use Rattle.udb_yaml.proofs.nodes.+nodes.Given as goal

abbrev pub decreases-begin : goal.decreases-begin
decreases-begin l = 2 * l.room

abbrev pub decreases-behind : goal.decreases-behind
decreases-behind l = 2 * l.room + 1
