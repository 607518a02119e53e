-- Machinery, no part of what a schema means: what the functions that validate say of their answers.
use Rattle.std.specs.Prelude.{◌≡◌, ◌≢◌, ℕ, Bool, List, [], ◌∷◌, ◌++◌, map, Result, Err}
use Rattle.std.specs.Borrow.{Bor}
use Rattle.std.specs.Global.{Vec}
use Rattle.std.specs.List.{list_all, flat_map}
use Rattle.yaml_spec.specs.declared.tree.Tree.{Tree}
use Rattle.yaml_spec.specs.declared.tree.Pair.{Pair}
use Rattle.udb_schema.specs.declared.words.Word.{Word}
use Rattle.udb_schema.specs.declared.words.Schema.{Schema}
use Rattle.udb_schema.specs.declared.words.SchemaWord.{SchemaWord}
use Rattle.udb_schema.specs.declared.validating.SchemaFault.{SchemaFault}
use Rattle.udb_schema.specs.declared.validating.SchemaFault.TheVariants.{Memory, At}
use Rattle.udb_schema.specs.Meets.{named}
use Rattle.udb_schema.specs.Faults.{word_for_key, for_items, for_key, all_meet, failing_words, FirstFault}

-- the schemas that references point to
abbrev pub behind : List (Bor Schema) → List Schema
behind ss = map (λ s. s.now) ss

-- the list of references gained these schemas
abbrev pub Gains : Vec (Bor Schema) → Vec (Bor Schema) → List Schema → Type 0
Gains old now more = behind now.items ≡ behind old.items ++ more

-- the schemas that a word gives to the value under a key, among these words of its schema
abbrev pub given_for_key : List SchemaWord → List ℕ → SchemaWord → List Schema
given_for_key ws key w = word_for_key (named ws) key w

-- the schemas that all words of a schema give to the value under a key
abbrev pub all_for_key : List SchemaWord → List ℕ → List Schema
all_for_key ws key = flat_map (given_for_key ws key) ws

-- what a fault names, where there is one
abbrev pub OnFault : Result (Unit {0}) SchemaFault → (List ℕ → Word → Type 0) → Type 0
OnFault r P = (path : List ℕ) (w : Word) → r ≡ Err (At path w) → P path w

-- a fault of a child, named from its parent; the step from the parent is the key
abbrev pub IsUnder : List ℕ → SchemaFault → SchemaFault → Type 0
IsUnder key inner outer = (path : List ℕ) (w : Word) → outer ≡ At path w → (rest : List ℕ) × (inner ≡ At rest w) × (path ≡ 47 ∷ key ++ rest)

-- an entry's first failing place, named from its map; `ss` stand at the map
abbrev pub InEntry : List Schema → Pair → List ℕ → Word → Type 0
InEntry ss p path w = (rest : List ℕ) × FirstFault (for_key p.key ss) p.value rest w × (path ≡ 47 ∷ p.key ++ rest)

-- a first failing place is answered, unless there was no memory
abbrev pub IsNamed : Schema → Tree → Result (Unit {0}) SchemaFault → Type 0
IsNamed s t r = (path : List ℕ) (w : Word) → FirstFault (s ∷ []) t path w → r ≢ Err Memory → r ≡ Err (At path w)

-- each item of a list meets the schemas that stand at the items; `ss` stand at the list
abbrev pub items_meet : List Schema → List Tree → Bool
items_meet ss xs = list_all (all_meet (for_items ss)) xs

-- an entry's value meets the schemas that stand there; `ss` stand at the map
abbrev pub entry_meets : List Schema → Pair → Bool
entry_meets ss e = all_meet (for_key e.key ss) e.value

-- the words of a schema that fail at a node
abbrev pub failing_in : List SchemaWord → Tree → List Word
failing_in ws t = failing_words (named ws) t ws
