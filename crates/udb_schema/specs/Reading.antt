-- Machinery, no part of what a schema means: what the functions that read schemas say of their answers.
use Rattle.std.specs.Prelude.{◌≡◌, ◌≢◌, ℕ, List, Option, Result, Ok, Err, option_map, option_and_then}
use Rattle.serde_json.specs.Data.{Data}
use Rattle.udb_schema.specs.declared.words.Word.{Word}
use Rattle.udb_schema.specs.declared.words.Schema.{Schema}
use Rattle.udb_schema.specs.declared.words.SchemaWord.{SchemaWord}
use Rattle.udb_schema.specs.declared.words.SchemaWord.TheVariants as w
use Rattle.udb_schema.specs.declared.reading.SchemaTextFault.{SchemaTextFault}
use Rattle.udb_schema.specs.declared.reading.SchemaTextFault.TheVariants.{Memory}
use Rattle.udb_schema.specs.Spelled.{if_any, word_named, additional_of, operand, schema_of, schema_list, property_list}

-- what is made of a part that was read
abbrev pub IsMade : {A B E : Type 0} → (A → B) → Result (Option A) E → Option B → Type 0
IsMade {A} f part made = (v : Option A) × (part ≡ Ok v) × (made ≡ option_map f v)

abbrev pub additional_word : Data → Option SchemaWord
additional_word d = option_map w.AdditionalProperties (additional_of d (schema_of d))

-- schemas in an array that isn't empty
abbrev pub some_schemas : Data → Option (List Schema)
some_schemas d = option_and_then if_any (schema_list d)

-- a word with its operand
abbrev pub word_with : Data → Word → Option SchemaWord
word_with d v = operand v d (schema_of d) (schema_list d) (property_list d)

abbrev pub word_under : List ℕ → Data → Option SchemaWord
word_under key d = option_and_then (word_with d) (word_named key)

-- the answer, unless there was no memory
abbrev pub Answers : Result Schema SchemaTextFault → Result Schema SchemaTextFault → Type 0
Answers r answer = r ≢ Err Memory → r ≡ answer
