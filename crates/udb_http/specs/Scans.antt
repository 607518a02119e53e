-- What a search for the end of a head has found out.
use Rattle.std.specs.Prelude.{◌≡◌, ◌≤◌, ℕ, ◌+◌, List, ◌++◌, drop, length, Option, option_map}
use Rattle.udb_http.specs.declared.scans.Scan.{Scan}
use Rattle.udb_http.specs.Heads.{head_from, head_length}

-- so many more
abbrev pub past : ℕ → Option ℕ → Option ℕ
past at n = option_map (λ n. at + n) n

-- what follows the searched bytes decides where the head ends
pub record IsScanned (bytes : List ℕ) (scan : Scan) : Type 0 where
  pub within : scan.at ≤ length bytes
  pub same : (more : List ℕ) → head_length (bytes ++ more) ≡ past scan.at (head_from scan.begun scan.line (drop scan.at bytes ++ more))
