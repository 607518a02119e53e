use Rattle.std.proofs.Common.{◌≡◌, drop}
use Rattle.std.specs.List.{list_all}
use Rattle.idl_lawful.specs.Tests.{has_places}
use Rattle.idl_lawful.proofs.programs.have_places.Given as goal

abbrev pub invariant-loop-csr : goal.invariant-loop-csr
invariant-loop-csr l = list_all has_places (drop l.csr-index l.csrs) ≡ list_all has_places l.csrs
