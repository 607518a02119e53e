use Rattle.std.proofs.Common.{subst, arith}
use Rattle.udb_check.specs.Heads.{IsNamedBy}
use Rattle.udb_check.proofs.HeadLaws.{split-after}
use Rattle.udb_check.proofs.heads.split.Goals as goal

pub returns-then-cells-from : goal.returns-then-cells-from
returns-then-cells-from c =
    let found = subst (IsNamedBy c.args.space.now c.args.param c.args.text.now) c.in-Some.is c.in_ok-place.ensures in
    split-after c.args.space.now c.args.param c.args.text.now c.in-Some.place c.in-Some.cells found.0 found.2 (omega arith)
