use Rattle.std.proofs.Common.{◌≡◌, drop}
use Rattle.udb_spec.specs.Known.{param_known}
use Rattle.udb_cond.specs.Steps.{steps_of}
use Rattle.udb_refute.proofs.choices.param_choice.Given as goal

abbrev pub invariant-loop-place : goal.invariant-loop-place
invariant-loop-place l = param_known (steps_of l.cells) l.place (drop l.place l.params) l.name l.test l.given ≡ param_known (steps_of l.cells) 0 l.params l.name l.test l.given
