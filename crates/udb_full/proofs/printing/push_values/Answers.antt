use Rattle.std.proofs.Common.{◌++◌, ap, sym, ◌∙◌, append-nil, arith}
use Rattle.udb_full.proofs.DoneLines.{values_done}
use Rattle.udb_full.proofs.printing.push_values.Goals as goal

pub returns : goal.returns
returns c =
    sym (ap (λ lines. c.loop-at.out ++ lines) (values_done c.loop-at.at _ _ (omega arith)) ∙ append-nil c.loop-at.out)
    ∙ c.loop-at.invariant
