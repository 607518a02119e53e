use Rattle.std.proofs.Common.{◌≡◌, drop}
use Rattle.std.specs.List.{list_all}
use Rattle.idl_lawful.specs.Readings.{has_bare_fields}
use Rattle.idl_lawful.proofs.bodies.have_bare_fields.Given as goal

abbrev pub invariant-loop-csr : goal.invariant-loop-csr
invariant-loop-csr l = list_all has_bare_fields (drop l.csr-index l.csrs) ≡ list_all has_bare_fields l.csrs
