-- What a reader of lines answers.
use Rattle.std.specs.Prelude.{◌≡◌, ℕ, List, Result, Ok, Err}
use Rattle.udb_base.specs.declared.spaces.Space.{Space}
use Rattle.udb_spec.specs.ProofText.{SpellProof, IsFirstBadLine}
use Rattle.udb_check.specs.declared.heads.Head.{Head}
use Rattle.udb_check.specs.declared.reading.ProofFault.{ProofFault}
use Rattle.udb_check.specs.declared.reading.ProofFault.TheVariants.{Memory, Line}
use Rattle.udb_check.specs.Heads.{AreHeads}

-- the value, unless there was no memory
abbrev pub AnswersOnly : {A : Type 0} → A → Result A ProofFault → Type 0
AnswersOnly x (Ok y) = x ≡ y
AnswersOnly x (Err Memory) = Unit {0}
AnswersOnly x (Err (Line number)) = ⊥

-- the heads of the lines, or else the number of the first bad line
abbrev pub IsReading : Space → List (List ℕ) → Result (List Head) ℕ → Type 0
IsReading space lines (Ok heads) = AreHeads space lines heads
IsReading space lines (Err number) = IsFirstBadLine (SpellProof space) lines number
