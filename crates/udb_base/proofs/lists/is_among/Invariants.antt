use Rattle.std.proofs.Common.{◌≡◌, drop}
use Rattle.udb_base.specs.Lists as lists
use Rattle.udb_base.proofs.lists.is_among.Given as goal

abbrev pub invariant-loop-other : goal.invariant-loop-other
invariant-loop-other g l = lists.is_among g.T.PartialEq.eq l.one (drop l.other-index l.others) ≡ lists.is_among g.T.PartialEq.eq l.one l.others
