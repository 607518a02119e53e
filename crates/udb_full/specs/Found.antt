-- The one choice or value that a text is.
use Rattle.std.specs.Prelude.{◌≡◌, ◌<◌, ◌^◌, ◌++◌, ◌∷◌, ℕ, List, Option, Some, IfSome}
use Rattle.udb_base.specs.declared.versions.Version.{Version}
use Rattle.udb_base.specs.declared.conditions.Value.{Value}
use Rattle.udb_base.specs.declared.spaces.ExtSpace.{ExtSpace}
use Rattle.udb_base.specs.declared.spaces.ParamSpace.{ParamSpace}
use Rattle.udb_spec.specs.Versions.{IsListed}
use Rattle.udb_spec.specs.Spaces.{InDomain}
use Rattle.udb_spec.specs.ProofText.{choice_text, value_text}

-- what is found is of the kind and has the text, and nothing else of the kind has it
pub record IsFound {X : Type 0} (Of : X → Type 0) (spelling : X → List ℕ) (text : List ℕ) (found : Option X) : Type 0 where
  pub right : IfSome found (λ x. Of x × (spelling x ≡ text))
  pub only : (x : X) → Of x → spelling x ≡ text → found ≡ Some x

abbrev pub IsChoiceOf : ExtSpace → Option Version → Type 0
IsChoiceOf ext choice = IfSome choice (IsListed ext.versions)

abbrev pub choice_line : ExtSpace → Option Version → List ℕ
choice_line ext choice = ext.name ++ (32 ∷ choice_text choice)

abbrev pub IsValueOf : ParamSpace → Value → Type 0
IsValueOf param x = InDomain param.domain x

abbrev pub value_line : ParamSpace → Value → List ℕ
value_line param x = param.name ++ (32 ∷ value_text x)

-- the choice, or the value, that a line is
abbrev pub IsChoiceFound : ExtSpace → List ℕ → Option (Option Version) → Type 0
IsChoiceFound ext line found = IsFound (IsChoiceOf ext) (choice_line ext) line found

abbrev pub IsValueFound : ParamSpace → List ℕ → Option Value → Type 0
IsValueFound param line found = IsFound (IsValueOf param) (value_line param) line found

-- a number of 64 bits
abbrev pub IsShort : ℕ → Type 0
IsShort n = n < 2 ^ 64

-- what follows a name and a space
abbrev pub IsNamed : List ℕ → List ℕ → Option (List ℕ) → Type 0
IsNamed name line rest = IsFound (λ (text : List ℕ). Unit {0}) (λ text. name ++ (32 ∷ text)) line rest

-- each part is a number of 64 bits
pub record IsShortVersion (v : Version) : Type 0 where
  pub major : v.major < 2 ^ 64
  pub minor : v.minor < 2 ^ 64
  pub patch : v.patch < 2 ^ 64
