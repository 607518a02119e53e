-- What a word can mean under a configuration, by a list of codings.
use Rattle.std.specs.Prelude.{◌≡◌, ◌↔◌, true, ℕ, List, IsTrue, AllPairs, Contains}
use Rattle.udb_base.specs.declared.names.Name.{Name}
use Rattle.udb_base.specs.declared.conditions.Cond.{Cond}
use Rattle.udb_base.specs.declared.refutations.Partial.{Partial}
use Rattle.udb_base.specs.declared.spaces.Space.{Space}
use Rattle.udb_base.specs.declared.spaces.Full.{Full}
use Rattle.udb_base.specs.Names.{name_lt}
use Rattle.udb_spec.specs.Conditions.{holds}
use Rattle.udb_spec.specs.Spaces.{Completes}
use Rattle.udb_decode.specs.Patterns.{matches}
use Rattle.udb_decode.specs.declared.decoder.Coding.{Coding}

-- the condition holds in some completion of the configuration
abbrev pub CanHold : Space → Partial → Cond → Type 0
CanHold space part cond = (full : Full) × (Completes space part full × (holds space full cond ≡ true))

-- the name has a coding that matches the word and is present in some completion
pub record CanBe (space : Space) (part : Partial) (codings : List Coding) (word : ℕ) (name : Name) : Type 0 where
  pub coding : Coding
  pub among : Contains codings coding
  pub named : coding.name ≡ name
  pub matching : matches coding.pattern word ≡ true
  pub present : CanHold space part coding.present

-- all such names, in the order of their bytes, each once
pub record ArePicks (space : Space) (part : Partial) (codings : List Coding) (word : ℕ) (names : List Name) : Type 0 where
  pub rising : AllPairs (λ a b. IsTrue (name_lt a b)) names
  pub each : (name : Name) → Contains names name ↔ CanBe space part codings word name
