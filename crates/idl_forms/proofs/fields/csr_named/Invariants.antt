use Rattle.std.proofs.Common.{◌≡◌, drop}
use Rattle.idl_spec.specs.Fields.{csr_named}
use Rattle.idl_forms.proofs.fields.csr_named.Given as goal

abbrev pub invariant-loop-csr : goal.invariant-loop-csr
invariant-loop-csr l = csr_named (drop l.csr-index l.scene.program.now.csrs) l.name ≡ csr_named l.scene.program.now.csrs l.name
