use Rattle.std.proofs.Common.{subst, arith}
use Rattle.udb_base.specs.Fronts.{IsNumberOf}
use Rattle.udb_check.proofs.HeadLaws.{leaf-after}
use Rattle.udb_check.proofs.heads.leaf.Goals as goal

pub returns-then-number-from : goal.returns-then-number-from
returns-then-number-from c =
    let found = subst (IsNumberOf c.args.text.now) c.in-Some.is c.in_ok-number.ensures in
    leaf-after c.args.text.now c.in-Some.number found.0 found.1 (omega arith)
