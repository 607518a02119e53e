use Rattle.std.proofs.Common.{◌≡◌, drop, ◌∷◌, []}
use Rattle.udb_spec.specs.Conditions.{present_among}
use Rattle.idl_forms.proofs.names.is_met.Given as goal

abbrev pub invariant-loop-place : goal.invariant-loop-place
invariant-loop-place l = present_among (drop l.place l.extensions) (drop l.place l.choices) l.name (l.need ∷ []) ≡ present_among l.extensions l.choices l.name (l.need ∷ [])
