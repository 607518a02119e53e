use Rattle.std.proofs.Common.{◌≡◌, drop}
use Rattle.idl_spec.specs.Forms.{choice_among}
use Rattle.idl_forms.proofs.names.choice_of.Given as goal

abbrev pub invariant-loop-place : goal.invariant-loop-place
invariant-loop-place l = choice_among (drop l.place l.extensions) (drop l.place l.choices) l.name ≡ choice_among l.extensions l.choices l.name
