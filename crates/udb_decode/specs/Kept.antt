-- What a decoder keeps, and the names that it gives for a word.
use Rattle.std.specs.Prelude.{◌≡◌, ◌||◌, Bool, true, false, ℕ, List, [], ◌∷◌, Contains, if◌then◌else◌}
use Rattle.udb_base.specs.declared.names.Name.{Name}
use Rattle.udb_base.specs.declared.refutations.Partial.{Partial}
use Rattle.udb_base.specs.declared.spaces.Space.{Space}
use Rattle.udb_spec.specs.Conditions.{same_bytes}
use Rattle.udb_decode.specs.Patterns.{matches}
use Rattle.udb_decode.specs.Picks.{CanHold}
use Rattle.udb_decode.specs.declared.decoder.Coding.{Coding}
use Rattle.udb_decode.specs.declared.decoder.Kept.{Kept}
use Rattle.udb_decode.specs.declared.decoder.Decoder.{Decoder}
use Rattle.udb_decode.specs.declared.picks.Picks.{Picks}

abbrev pub kept_of : Coding → Kept
kept_of coding = record { name = coding.name; pattern = coding.pattern }

-- one of the codings, which some completion has, is kept so
pub record IsKept (space : Space) (part : Partial) (codings : List Coding) (kept : Kept) : Type 0 where
  pub coding : Coding
  pub among : Contains codings coding
  pub present : CanHold space part coding.present
  pub is : kept_of coding ≡ kept

-- the codings that some completion has
pub record AreKept (space : Space) (part : Partial) (codings : List Coding) (all : List Kept) : Type 0 where
  pub each : (kept : Kept) → Contains all kept → IsKept space part codings kept
  pub whole : (coding : Coding) → Contains codings coding → CanHold space part coding.present → Contains all (kept_of coding)

-- the first that is kept has the name
abbrev pub begins_with : Name → List Kept → Bool
begins_with name [] = false
begins_with name (k ∷ rest) = same_bytes k.name name

-- the names of those that match the word, of neighbours of one name once; `found` says that one of
-- the name just before has matched
abbrev pub names_from : ℕ → Bool → List Kept → List Name
names_from word found [] = []
names_from word found (k ∷ rest) =
    if found || matches k.pattern word
    then (if begins_with k.name rest then names_from word true rest else k.name ∷ names_from word false rest)
    else names_from word false rest

abbrev pub names_of : Decoder → ℕ → List Name
names_of decoder word = names_from word false decoder.kept.items

-- what an iterator has left
abbrev pub names_left : Picks → List Name
names_left picks = names_from picks.word false picks.rest.now
