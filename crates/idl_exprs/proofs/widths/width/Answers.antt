use Rattle.idl_exprs.proofs.WidthSteps.{whole_read}
use Rattle.idl_exprs.proofs.widths.width.Goals as goal

pub returns-clause-small : goal.returns-clause-small
returns-clause-small c = whole_read c.args.depth _ _ _ _ _ c.in_ok-found.ensures
