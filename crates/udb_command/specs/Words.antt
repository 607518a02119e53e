-- Which words ask for which command.
use Rattle.std.specs.Prelude.{◌≡◌, ◌≢◌, ℕ, List, [], ◌∷◌, map, codes, string_bytes}
use Rattle.std.specs.declared.string.String.{String}
use Rattle.udb_base.specs.declared.kinds.Kind.{Kind}
use Rattle.udb_base.specs.declared.kinds.Kind.TheVariants.{Functions, Config}
use Rattle.udb_base.specs.Kinds.{kind_word}
use Rattle.udb_base.specs.Names.{IsName}
use Rattle.udb_command.specs.declared.commands.Command.{Command}
use Rattle.udb_command.specs.declared.commands.Command.TheVariants.{Manual, Refute, CheckProof}

-- words as bytes
abbrev pub words_of : {Z : Type 0} → List (String Z) → List (List ℕ)
words_of words = map string_bytes words

-- a word that names something: a name that doesn't begin with `-`
pub record IsArgument (word : List ℕ) : Type 0 where
  pub name : IsName word
  pub dash : (rest : List ℕ) → word ≢ 45 ∷ rest

-- a configuration, and an entry of it that is asked about: of any kind but functions; of kind
-- `config` it is the configuration itself
abbrev pub AsksAbout : List ℕ → Kind → List ℕ → Type 0
AsksAbout config Functions name = ⊥
AsksAbout config Config name = name ≡ config
AsksAbout config kind name = Unit {0}

pub record AreArguments (config : List ℕ) (kind : Kind) (name : List ℕ) : Type 0 where
  pub names_config : IsArgument config
  pub names_entry : IsArgument name
  pub about : AsksAbout config kind name

-- the words of a command
abbrev pub command_words : Command → List (List ℕ)
command_words (Manual config) = codes "manual" ∷ config ∷ []
command_words (Refute config kind name) = codes "refute" ∷ config ∷ kind_word kind ∷ name ∷ []
command_words (CheckProof config kind name) = codes "check-proof" ∷ config ∷ kind_word kind ∷ name ∷ []

-- its names are words that name something
abbrev pub HasArguments : Command → Type 0
HasArguments (Manual config) = IsArgument config
HasArguments (Refute config kind name) = AreArguments config kind name
HasArguments (CheckProof config kind name) = AreArguments config kind name

-- the words ask for the command
pub record Asks (words : List (List ℕ)) (command : Command) : Type 0 where
  pub spelled : words ≡ command_words command
  pub arguments : HasArguments command

-- they ask for some command
abbrev pub IsCommand : List (List ℕ) → Type 0
IsCommand words = (command : Command) × Asks words command

-- they ask for none
abbrev pub IsNoCommand : List (List ℕ) → Type 0
IsNoCommand words = (command : Command) → Asks words command → ⊥

-- words ask for at most one command
abbrev pub AsksForOne : Type 0
AsksForOne = (words : List (List ℕ)) (a b : Command) → Asks words a → Asks words b → a ≡ b
