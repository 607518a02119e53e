use Rattle.idl_exprs.proofs.WidthSteps.{atom_read}
use Rattle.idl_exprs.proofs.widths.width_atom.Goals as goal

pub returns-clause-small : goal.returns-clause-small
returns-clause-small c = atom_read c.args.depth _ _ _ _ _ c.in_ok-found.ensures
