use Rattle.std.proofs.Common.{◌≡◌, take, map}
use Rattle.idl_reach.specs.Asked.{fields_call}
use Rattle.idl_reach.proofs.fields.mark_called_by_fields.Given as goal

abbrev pub invariant-loop-f : goal.invariant-loop-f
invariant-loop-f l = l.marks ≡ map (λ f. fields_call f.name l.program.csrs) (take l.f-index l.program.functions)
