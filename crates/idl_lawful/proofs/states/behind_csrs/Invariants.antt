use Rattle.std.proofs.Common.{◌≡◌, drop, map}
use Rattle.idl_forms.specs.States.{field_of}
use Rattle.idl_lawful.specs.Tests.{behind_csrs}
use Rattle.idl_lawful.proofs.states.behind_csrs.Given as goal

abbrev pub invariant-loop-csr : goal.invariant-loop-csr
invariant-loop-csr l = behind_csrs l.space l.full (drop l.csr-index l.program.csrs) (map field_of l.left) ≡ behind_csrs l.space l.full l.program.csrs (map field_of l.values)
