use Rattle.std.proofs.Common.{◌≡◌, drop}
use Rattle.idl_spec.specs.Harts.{State}
use Rattle.idl_forms.specs.Steps.{side_by_side, behind}
use Rattle.idl_forms.proofs.operators.join.Given as goal

abbrev pub invariant-loop-part : goal.invariant-loop-part
invariant-loop-part l = (s : State) → side_by_side l.parts s ≡ behind l.joined (drop l.part-index l.rest) s
