-- The line of a byte that no UTF-8 text has at its place.
use Rattle.std.specs.Prelude.{ℕ, ◌≡◌, ◌==◌, ◌-◌, ◌≤◌, zero, suc, List, [], ◌∷◌, if◌then◌else◌, Result, Err, IsUtf8}
use Rattle.udb_base.specs.declared.rows.TextFault.{TextFault}
use Rattle.udb_base.specs.declared.rows.TextFault.TheVariants.{NotUtf8}

-- the bytes of the first n lines, each with its line feed
abbrev pub first_lines : ℕ → List ℕ → List ℕ
first_lines zero bytes = []
first_lines (suc n) [] = []
first_lines (suc n) (b ∷ bytes) = b ∷ (if b == 10 then first_lines n bytes else first_lines (suc n) bytes)

-- line n, counted from 1, is the first that no UTF-8 text has: a line feed always ends a character
pub record IsBadLine (bytes : List ℕ) (n : ℕ) : Type 0 where
  pub counted : 1 ≤ n
  pub before : IsUtf8 (first_lines (n - 1) bytes)
  pub here : IsUtf8 (first_lines n bytes) → ⊥

-- the answer that bytes are no UTF-8, at a line or at any
abbrev pub IsNotUtf8At : {T : Type 0} → ℕ → Result T TextFault → Type 0
IsNotUtf8At line result = result ≡ Err (NotUtf8 line)

abbrev pub IsNotUtf8 : {T : Type 0} → Result T TextFault → Type 0
IsNotUtf8 result = (line : ℕ) × IsNotUtf8At line result
