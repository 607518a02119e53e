use Rattle.std.proofs.Common.{◌≡◌, ◌<◌, ◌^◌}
use Rattle.idl_spec.specs.Values.{least_width, width_up_to}
use Rattle.idl_forms.proofs.operators.least_width.Given as goal

abbrev pub invariant-loop-width : goal.invariant-loop-width
invariant-loop-width l = (least_width l.number ≡ width_up_to l.width l.number) × (l.number < 2 ^ l.width)
