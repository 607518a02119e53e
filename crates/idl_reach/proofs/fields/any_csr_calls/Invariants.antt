use Rattle.std.proofs.Common.{◌≡◌, drop}
use Rattle.idl_reach.specs.Asked.{fields_call}
use Rattle.idl_reach.proofs.fields.any_csr_calls.Given as goal

abbrev pub invariant-loop-csr : goal.invariant-loop-csr
invariant-loop-csr l = fields_call l.name (drop l.csr-index l.csrs) ≡ fields_call l.name l.csrs
