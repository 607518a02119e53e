use Rattle.std.proofs.Common.{◌≡◌, drop}
use Rattle.udb_base.specs.Lists.{each, after_parts}
use Rattle.cond_tree.specs.Members.{requirement_at}
use Rattle.cond_tree.proofs.members.each_requirement.Given as goal

abbrev pub invariant-loop-item : goal.invariant-loop-item
invariant-loop-item l = after_parts l.needs (each requirement_at (drop l.item-index l.items)) ≡ each requirement_at l.items
