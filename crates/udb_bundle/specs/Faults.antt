-- The line of a fault.
use Rattle.std.specs.Prelude.{◌≡◌, ◌≢◌, ◌≤◌, ◌+◌, ◌-◌, ◌⊎◌, ℕ, List, ◌++◌, length, take, All, Result, Ok, Err}
use Rattle.udb_bundle.specs.declared.bundle.Bundle.{Bundle}
use Rattle.udb_bundle.specs.declared.bundle.BundleFault.{BundleFault}
use Rattle.udb_bundle.specs.declared.bundle.BundleFault.TheVariants.{Memory, Line as AtLine}
use Rattle.udb_bundle.specs.Bundles.{Line, SpellsLines, Spells, lines_of}

-- no line feed stands in a line
abbrev pub IsFeedless : Line → Type 0
IsFeedless line = All (λ b. b ≢ 10) line

-- some bundle begins with these lines
pub record GoesOn (lines : List Line) : Type 0 where
  pub more : List Line
  pub feedless : All IsFeedless more
  pub bundle : Bundle
  pub spells : SpellsLines (lines ++ more) bundle

-- Line n, counted from 1, is the first with which no bundle goes on, or where all lines go on it is
-- one past the last.
pub record IsFirstBadLine (lines : List Line) (n : ℕ) : Type 0 where
  pub counted : 1 ≤ n
  pub within : n ≤ length lines + 1
  pub before : GoesOn (take (n - 1) lines)
  pub here : n ≤ length lines → GoesOn (take n lines) → ⊥

-- the bytes are no bundle
abbrev pub SpellsNone : List ℕ → Type 0
SpellsNone bytes = (b : Bundle) → Spells bytes b → ⊥

-- the bytes are no bundle, and n is their first bad line
abbrev pub IsFaultLine : List ℕ → ℕ → Type 0
IsFaultLine bytes n = SpellsNone bytes × IsFirstBadLine (lines_of bytes) n

-- the bundle is answered, or memory lacks
abbrev pub Answers : Result Bundle BundleFault → Bundle → Type 0
Answers result b = (result ≡ Ok b) ⊎ (result ≡ Err Memory)

-- the bundle that is spelled, or where none is the first bad line; memory may lack
abbrev pub IsAnswer : List ℕ → Result Bundle BundleFault → Type 0
IsAnswer bytes (Ok b) = Spells bytes b
IsAnswer bytes (Err Memory) = Unit {0}
IsAnswer bytes (Err (AtLine n)) = IsFaultLine bytes n

-- a line is named, or memory lacks
abbrev pub Refuses : Result Bundle BundleFault → Type 0
Refuses result = ((n : ℕ) × (result ≡ Err (AtLine n))) ⊎ (result ≡ Err Memory)
