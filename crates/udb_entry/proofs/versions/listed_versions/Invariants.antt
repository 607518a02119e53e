use Rattle.std.proofs.Common.{◌≡◌, ◌++◌, drop, map, None}
use Rattle.udb_entry.specs.Entries as spec
use Rattle.udb_entry.specs.Rules as rules
use Rattle.udb_entry.proofs.versions.listed_versions.Given as goal

abbrev pub invariant-loop-tree : goal.invariant-loop-tree
invariant-loop-tree l =
    (l.list ++ map spec.listed_of (drop l.tree-index l.versions) ≡ map spec.listed_of l.versions)
    × (rules.first_wrong l.before (drop l.tree-index l.versions) ≡ rules.first_wrong None l.versions)
