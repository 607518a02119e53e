use Rattle.std.proofs.Common.{◌≤◌, suc, arith}
use Rattle.idl_exprs.specs.Steps as step
use Rattle.idl_exprs.proofs.LevelSteps.{highest_fits}
use Rattle.idl_exprs.proofs.filling.after_atom.Goals as goal

pub returns-clause-fits : goal.returns-clause-fits
returns-clause-fits c = let high : step.highest c.args.start c.args.nesting ≤ c.args.below = highest_fits c.args.below c.args.start c.args.nesting c.requires.fits c.requires.small in let small : c.in_ok-whole.nesting ≤ suc (step.highest c.args.start c.args.nesting) = c.in_ok-whole.ensures.small in omega arith
