-- How the words of a command are read. Nothing above names these definitions.
use Rattle.std.specs.Prelude.{◌≡◌, ◌≢◌, ℕ, List, [], ◌∷◌, codes, Option, Some, None, if◌then◌else◌}
use Rattle.std.specs.Str.{bytes_eq}
use Rattle.udb_base.specs.declared.kinds.Kind.{Kind}
use Rattle.udb_base.specs.declared.kinds.Kind.TheVariants as kinds
use Rattle.udb_base.specs.Kinds.{kind_word}
use Rattle.udb_command.specs.declared.commands.Command.TheVariants.{Manual}
use Rattle.udb_command.specs.declared.questions.Question.{Question}
use Rattle.udb_command.specs.Words.{Asks, AreArguments}

-- the words aren't this first word and one other, or three others
abbrev pub IsOtherWords : List (List ℕ) → List ℕ → Type 0
IsOtherWords words first = (word : List ℕ) → words ≢ first ∷ word ∷ []

abbrev pub IsOtherRow : List (List ℕ) → List ℕ → Type 0
IsOtherRow words first = (second third fourth : List ℕ) → words ≢ first ∷ second ∷ third ∷ fourth ∷ []

-- they ask for no manual
abbrev pub IsNoManual : List (List ℕ) → Type 0
IsNoManual words = (config : List ℕ) → Asks words (Manual config) → ⊥

-- the kind that a word names, of those that are asked about
abbrev pub kind_of : List ℕ → Option Kind
kind_of w =
    if bytes_eq w (codes "extension") then Some kinds.Extension else
    (if bytes_eq w (codes "parameter") then Some kinds.Parameter else
    (if bytes_eq w (codes "instruction") then Some kinds.Instruction else
    (if bytes_eq w (codes "csr") then Some kinds.Csr else
    (if bytes_eq w (codes "config") then Some kinds.Config else None))))

-- the words are a first word and a question
pub record Asking (words : List (List ℕ)) (first : List ℕ) (question : Question) : Type 0 where
  pub spelled : words ≡ first ∷ question.config ∷ kind_word question.kind ∷ question.name ∷ []
  pub arguments : AreArguments question.config question.kind question.name

abbrev pub IsQuestion : List (List ℕ) → List ℕ → Type 0
IsQuestion words first = (question : Question) × Asking words first question

abbrev pub IsNoQuestion : List (List ℕ) → List ℕ → Type 0
IsNoQuestion words first = (question : Question) → Asking words first question → ⊥
