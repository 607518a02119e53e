use Rattle.std.proofs.Common.{arith}
use Rattle.udb_base.proofs.LineLemmas.{bad_line_counted}
use Rattle.udb_base.proofs.accepted.text.Goals as goal

pub returns-in-Err-clause-at_line : goal.returns-in-Err-clause-at_line
returns-in-Err-clause-at_line c line e =
    bad_line_counted c.args.bytes.now c.valid_up_to.result line
    (rw c.valid_up_to.ensures c.in-Err.ensures.cases.1)
    (grind (arith, c.line_after.ensures))
