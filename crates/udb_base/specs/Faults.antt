-- What a source takes, what a sink receives, and the counts of their faults.
use Rattle.std.specs.Prelude.{◌≡◌, ℕ, ◌+◌, ◌-◌, ◌^◌, ◌≤◌, min, List, [], ◌++◌, take, drop, length, Option, Some, Result, MatchResult, OnErr, IfSome}

-- the count rose, or stands at its last value
abbrev pub Rose : ℕ → ℕ → Type 0
Rose before now = min (before + 1) (2 ^ 64 - 1) ≤ now

-- the count never falls, and a failure has a rise
pub record HasCause {T E : Type 0} (before now : ℕ) (result : Result T E) : Type 0 where
  pub later : before ≤ now
  pub failed : OnErr result (Rose before now)

-- the bytes taken are the front of what is left, none are taken of something exactly at its end,
-- and a failed read takes nothing
abbrev pub Takes : {E : Type 0} → List ℕ → Option (List ℕ) → Result ℕ E → List ℕ → Type 0
Takes before after result buffer =
    MatchResult result
    (λ n. (after ≡ Some (drop n before)) × (take n buffer ≡ take n before) × (n ≤ length before) × (n ≡ 0 → 1 ≤ length buffer → before ≡ []))
    (λ _. after ≡ Some before)

-- the same where the source tells what is left
abbrev pub ReadTakes : {E : Type 0} → Option (List ℕ) → Option (List ℕ) → Result ℕ E → List ℕ → Type 0
ReadTakes before after result buffer = IfSome before (λ left. Takes left after result buffer)

-- the sink received the whole piece, or where it failed a front of it
abbrev pub Receives : {E : Type 0} → List ℕ → Option (List ℕ) → Result (Unit {0}) E → List ℕ → Type 0
Receives before after result piece =
    MatchResult result
    (λ _. after ≡ Some (before ++ piece))
    (λ _. (n : ℕ) × (after ≡ Some (before ++ take n piece)))

-- the same where the sink tells what it received
abbrev pub WriteReceives : {E : Type 0} → Option (List ℕ) → Option (List ℕ) → Result (Unit {0}) E → List ℕ → Type 0
WriteReceives before after result piece = IfSome before (λ written. Receives written after result piece)
