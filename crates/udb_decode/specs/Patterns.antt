-- Words that have the fixed bits of an encoding (RISC-V unprivileged manual, "Base Instruction
-- Formats").
use Rattle.std.specs.Prelude.{◌≡◌, ◌≤◌, ◌==◌, bit_and, Bool, true, ℕ, Option, None, Some}
use Rattle.udb_decode.specs.declared.patterns.Pattern.{Pattern}

-- the word's bits under the mask are those of the pattern
abbrev pub matches : Pattern → ℕ → Bool
matches p word = bit_and word p.mask == p.bits

pub record MatchesBoth (a b : Pattern) (word : ℕ) : Type 0 where
  pub first : matches a word ≡ true
  pub second : matches b word ≡ true

-- the least of the words that match both, where there are any
abbrev pub IsOverlap : Pattern → Pattern → Option ℕ → Type 0
IsOverlap a b None = (word : ℕ) → MatchesBoth a b word → ⊥
IsOverlap a b (Some least) = MatchesBoth a b least × ((word : ℕ) → MatchesBoth a b word → least ≤ word)
