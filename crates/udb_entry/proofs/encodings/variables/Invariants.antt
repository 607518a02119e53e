use Rattle.std.proofs.Common.{◌≡◌, ◌++◌, drop, map, []}
use Rattle.udb_entry.specs.Entries as spec
use Rattle.udb_entry.specs.Rules as rules
use Rattle.udb_entry.proofs.encodings.variables.Given as goal

abbrev pub invariant-loop-item : goal.invariant-loop-item
invariant-loop-item l =
    (l.variables ++ map (spec.variable_of l.base) (drop l.item-index l.items) ≡ map (spec.variable_of l.base) l.items)
    × (rules.first_misfit l.digits l.base l.variables (drop l.item-index l.items) ≡ rules.first_misfit l.digits l.base [] l.items)
