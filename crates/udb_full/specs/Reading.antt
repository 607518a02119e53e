-- Lines read place by place.
use Rattle.std.specs.Prelude.{◌≡◌, ◌≤◌, ◌<◌, ℕ, List, [], ◌∷◌, length, take, drop, Option, None, Some, Result, Ok, Err, slice_get}
use Rattle.udb_base.specs.declared.spaces.Space.{Space}
use Rattle.udb_base.specs.declared.spaces.Full.{Full}
use Rattle.udb_spec.specs.ProofText.{SpellFull, IsFirstBadLine}
use Rattle.udb_full.specs.declared.reading.FullFault.{FullFault}
use Rattle.udb_full.specs.declared.reading.FullFault.TheVariants.{Memory, Line}
use Rattle.udb_full.specs.Found.{IsChoiceFound, IsValueFound}

-- the value, unless there was no memory
abbrev pub AnswersOnly : {A : Type 0} → A → Result A FullFault → Type 0
AnswersOnly x (Ok y) = y ≡ x
AnswersOnly x (Err Memory) = Unit {0}
AnswersOnly x (Err (Line number)) = ⊥

-- each line is found at its place, as these items
abbrev pub AreFound : {P X : Type 0} → (P → List ℕ → Option X → Type 0) → List P → List (List ℕ) → List X → Type 0
AreFound Found [] [] [] = Unit {0}
AreFound Found (p ∷ ps) (l ∷ ls) (x ∷ xs) = Found p l (Some x) × AreFound Found ps ls xs
AreFound Found _ _ _ = ⊥

-- the lines before a place are right, and its own is missing or none of its items
pub record Stops {P X : Type 0} (Found : P → List ℕ → Option X → Type 0) (ps : List P) (ls : List (List ℕ)) (at : ℕ) : Type 0 where
  pub items : List X
  pub before : AreFound Found (take at ps) (take at ls) items
  pub place : at < length ps
  pub line : at ≤ length ls
  pub bad : (p : P) (l : List ℕ) → slice_get ps at ≡ Some p → slice_get ls at ≡ Some l → Found p l None

-- the items of the first lines, or else the place, from 0, where they stop
abbrev pub IsReading : {P X : Type 0} → (P → List ℕ → Option X → Type 0) → List P → List (List ℕ) → Result (List X) ℕ → Type 0
IsReading Found ps ls (Ok xs) = AreFound Found ps (take (length ps) ls) xs
IsReading Found ps ls (Err at) = Stops Found ps ls at

-- the full configuration of the lines, or else the number of the first bad line
abbrev pub IsFullReading : Space → List (List ℕ) → Result Full ℕ → Type 0
IsFullReading space lines (Ok full) = AreFound IsChoiceFound space.extensions (take (length space.extensions) lines) full.extensions × AreFound IsValueFound space.params (drop (length space.extensions) lines) full.params
IsFullReading space lines (Err number) = IsFirstBadLine (SpellFull space) lines number
