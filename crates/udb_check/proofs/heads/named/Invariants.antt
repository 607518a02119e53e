use Rattle.std.proofs.Common.{◌≡◌, ℕ, ◌<◌, ◌^◌}
use Rattle.udb_check.specs.Heads.{named_text}
use Rattle.udb_check.proofs.heads.named.Given as goal

-- no place so far has a name with a number after it that is the text
abbrev pub invariant-loop-place : goal.invariant-loop-place
invariant-loop-place l = (q n : ℕ) → q < l.place → n < 2 ^ 64 → named_text l.space l.param q n ≡ l.text → ⊥
