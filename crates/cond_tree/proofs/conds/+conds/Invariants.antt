use Rattle.std.proofs.Common.{◌≡◌, ◌+◌, ◌*◌, drop}
use Rattle.udb_base.specs.Lists.{each, after_parts}
use Rattle.cond_tree.specs.Conds.{cond_of}
use Rattle.cond_tree.proofs.conds.+conds.Given as goal

abbrev pub decreases-each_cond : goal.decreases-each_cond
decreases-each_cond l = 5 * l.depth + 1

abbrev pub decreases-parts_of : goal.decreases-parts_of
decreases-parts_of l = 5 * l.depth + 2

abbrev pub decreases-by_form : goal.decreases-by_form
decreases-by_form l = 5 * l.depth + 3

abbrev pub decreases-form_cond : goal.decreases-form_cond
decreases-form_cond l = 5 * l.depth + 4

abbrev pub decreases-cond_within : goal.decreases-cond_within
decreases-cond_within l = 5 * l.depth

abbrev pub invariant-each_cond-loop-item : goal.invariant-each_cond-loop-item
invariant-each_cond-loop-item l = after_parts l.parts (each (cond_of l.depth) (drop l.item-index l.items)) ≡ each (cond_of l.depth) l.items
