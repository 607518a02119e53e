use Rattle.std.proofs.Common.{◌≡◌, ◌≤◌, ◌<◌, ◌+◌, ◌-◌, ◌*◌, ◌^◌}
use Rattle.idl_spec.specs.Harts.{loaded}
use Rattle.idl_forms.proofs.memory.loaded.Given as goal

abbrev pub invariant-loop-place : goal.invariant-loop-place
invariant-loop-place l =
    (l.number ≡ loaded l.ram l.place (l.at + l.count - l.place)) × (l.number < 2 ^ (8 * (l.at + l.count - l.place))) × (l.at ≤ l.place)
