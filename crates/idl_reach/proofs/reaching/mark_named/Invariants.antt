use Rattle.std.proofs.Common.{◌≡◌, take}
use Rattle.std.specs.Prelude.{map}
use Rattle.udb_spec.specs.Conditions.{same_bytes}
use Rattle.idl_reach.proofs.reaching.mark_named.Given as goal

abbrev pub invariant-loop-f : goal.invariant-loop-f
invariant-loop-f l = l.marks ≡ map (λ f. same_bytes f.name l.name) (take l.f-index l.functions)
