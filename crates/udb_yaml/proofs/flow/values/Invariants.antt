use Rattle.std.proofs.Common.{◌≡◌, ◌++◌, length, map, reverse}
use Rattle.yaml_spec.specs.Line.{value_of}
use Rattle.udb_yaml.proofs.flow.values.Given as goal

abbrev pub invariant-turns : goal.invariant-turns
invariant-turns l = l.left ++ reverse l.turned ≡ l.fn.parts

abbrev pub decreases-turns : goal.decreases-turns
decreases-turns l = length l.left

abbrev pub invariant-values : goal.invariant-values
invariant-values l = l.all ++ map value_of (reverse l.turned) ≡ map value_of l.fn.parts

abbrev pub decreases-values : goal.decreases-values
decreases-values l = length l.turned
