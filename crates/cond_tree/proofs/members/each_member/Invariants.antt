use Rattle.std.proofs.Common.{◌≡◌, drop}
use Rattle.udb_base.specs.Lists.{each, after_parts}
use Rattle.cond_tree.specs.Members.{member_by}
use Rattle.cond_tree.proofs.members.each_member.Given as goal

abbrev pub invariant-loop-item : goal.invariant-loop-item
invariant-loop-item l = after_parts l.members (each (member_by l.wanted) (drop l.item-index l.items)) ≡ each (member_by l.wanted) l.items
