use Rattle.std.proofs.Common.{◌≡◌, ◌+◌, ◌-◌, length}
use Rattle.idl_spec.specs.Harts.{stored}
use Rattle.idl_forms.proofs.harts.Ram.store.Given as goal

abbrev pub invariant-loop-place : goal.invariant-loop-place
invariant-loop-place l =
    (stored l.self-inside.bytes.items l.place (l.at + l.count - l.place) l.rest ≡ stored l.initial.self-inside.bytes.items l.at l.count l.number)
    × (length l.self-inside.bytes.items ≡ length l.initial.self-inside.bytes.items)
