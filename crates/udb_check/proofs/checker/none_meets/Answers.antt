use Rattle.udb_cond.proofs.Sound.{none-meets}
use Rattle.udb_check.proofs.checker.none_meets.Goals as goal

pub returns : goal.returns
returns c = λ space part asked proof full lawful right done. none-meets space part asked proof lawful right full done
