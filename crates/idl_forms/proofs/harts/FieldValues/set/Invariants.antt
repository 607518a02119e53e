use Rattle.std.proofs.Common.{◌≡◌, ◌++◌, map, take, drop}
use Rattle.idl_forms.proofs.FieldNumbers.{renumbered}
use Rattle.idl_forms.proofs.harts.FieldValues.set.Given as goal

abbrev pub invariant-loop-value : goal.invariant-loop-value
invariant-loop-value l =
    l.value-items ≡ map (renumbered l.csr l.field l.number) (take l.value-index l.initial.value-items) ++ drop l.value-index l.initial.value-items
