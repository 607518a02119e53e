-- What `find` answers.
use Rattle.std.specs.Prelude.{◌≡◌, true, false}
use Rattle.udb_base.specs.declared.conditions.Cond.{Cond}
use Rattle.udb_base.specs.declared.refutations.Partial.{Partial}
use Rattle.udb_base.specs.declared.spaces.Space.{Space}
use Rattle.udb_base.specs.declared.spaces.Full.{Full}
use Rattle.udb_spec.specs.Conditions.{holds}
use Rattle.udb_spec.specs.Spaces.{Completes}
use Rattle.udb_spec.specs.Refutes.{refutes}
use Rattle.udb_refute.specs.declared.search.Found.{Found}
use Rattle.udb_refute.specs.declared.search.Found.TheVariants.{Completion, Refuted}

-- a completion of the configuration that meets the condition, or a proof that refutes it, and then none does
abbrev pub IsAnswer : Space → Partial → Cond → Found → Type 0
IsAnswer space part cond (Completion full) = Completes space part full × (holds space full cond ≡ true)
IsAnswer space part cond (Refuted proof) = (refutes space part cond proof ≡ true) × ((full : Full) → Completes space part full → holds space full cond ≡ false)
