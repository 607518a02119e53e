use Rattle.std.proofs.Common.{◌≡◌, drop}
use Rattle.idl_spec.specs.Fields.{csr_named}
use Rattle.type_kinds.proofs.views.csr_named.Given as goal

abbrev pub invariant-loop-csr : goal.invariant-loop-csr
invariant-loop-csr l = csr_named (drop l.csr-index l.csrs) l.name ≡ csr_named l.csrs l.name
