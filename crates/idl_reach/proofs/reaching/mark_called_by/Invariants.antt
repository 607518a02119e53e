use Rattle.std.proofs.Common.{◌≡◌, take}
use Rattle.std.specs.Prelude.{map}
use Rattle.std.specs.List.{list_any}
use Rattle.idl_spec.specs.Deeds.{expr_deeds}
use Rattle.idl_reach.specs.Asked.{is_call}
use Rattle.idl_reach.proofs.reaching.mark_called_by.Given as goal

abbrev pub invariant-loop-f : goal.invariant-loop-f
invariant-loop-f l = l.marks ≡ map (λ f. list_any (is_call f.name) (expr_deeds l.e)) (take l.f-index l.functions)
