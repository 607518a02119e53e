use Rattle.std.proofs.Common.{◌≡◌, drop, map}
use Rattle.udb_lawful.specs.Misfit.{first_name, first_misfit}
use Rattle.udb_lawful.proofs.fitting.+misfits.Given as goal

abbrev pub invariant-misfit_among-loop-cond : goal.invariant-misfit_among-loop-cond
invariant-misfit_among-loop-cond l = first_name (map (first_misfit l.space) (drop l.cond-index l.conds)) ≡ first_name (map (first_misfit l.space) l.conds)
