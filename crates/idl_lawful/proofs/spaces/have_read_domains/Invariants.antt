use Rattle.std.proofs.Common.{◌≡◌, drop}
use Rattle.std.specs.List.{list_all}
use Rattle.idl_lawful.specs.Readings.{has_read_domain}
use Rattle.idl_lawful.proofs.spaces.have_read_domains.Given as goal

abbrev pub invariant-loop-param : goal.invariant-loop-param
invariant-loop-param l = list_all has_read_domain (drop l.param-index l.params) ≡ list_all has_read_domain l.params
