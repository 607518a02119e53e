use Rattle.std.proofs.Common.{◌≡◌, drop}
use Rattle.udb_spec.specs.Lawful.{domain_among}
use Rattle.udb_lawful.proofs.fitting.param_fits.Given as goal

abbrev pub invariant-loop-param : goal.invariant-loop-param
invariant-loop-param l = domain_among (drop l.param-index l.space.params) l.name ≡ domain_among l.space.params l.name
