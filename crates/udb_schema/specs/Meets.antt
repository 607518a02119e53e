-- Statement: when a tree meets a schema, by cases on its words (JSON Schema 2020-12, validation 6 and core 10), on trees
-- that have no fractions.
use Rattle.std.specs.Prelude.{ℕ, ◌||◌, ◌==◌, Bool, true, false, not, is_some, nat_le, int_le, List, length, map, Option, None, Some, count_by}
use Rattle.std.specs.Fmt.{char_count}
use Rattle.std.specs.Str.{bytes_eq}
use Rattle.std.specs.List.{list_all, list_any}
use Rattle.yaml_spec.specs.declared.tree.Tree.{Tree}
use Rattle.yaml_spec.specs.declared.tree.Pair.{Pair}
use Rattle.udb_schema.specs.declared.words.TypeName.{TypeName}
use Rattle.udb_schema.specs.declared.words.TypeName.TheVariants as type
use Rattle.udb_schema.specs.declared.words.Schema.{Schema}
use Rattle.udb_schema.specs.declared.words.SchemaWord.{SchemaWord}
use Rattle.udb_schema.specs.declared.words.SchemaProperty.{SchemaProperty}
use Rattle.udb_schema.specs.declared.words.Additional.{Additional}
use Rattle.udb_schema.specs.declared.words.Additional.TheOpen.{SchemaWord-F, Additional-F, Schema-F, SchemaProperty-F}
use Rattle.udb_schema.specs.declared.words.Additional.TheFolds.{fold-Schema, fold-SchemaWord, fold-Additional}
use Rattle.yaml_spec.specs.Line.{has_key}
use Rattle.yaml_spec.specs.Trees.{is_null, flag_of, int_of, text_of, items_of, entries_of}
use Rattle.udb_base.specs.Lists.{is_among, are_distinct}
use Rattle.udb_schema.specs.Equality.{Test, same}

-- A word about another type than the node's is met.
abbrev pub met_by : {X : Type 0} → Option X → (X → Bool) → Bool
met_by None test = true
met_by (Some x) test = test x

abbrev pub is_type : Tree → TypeName → Bool
is_type t type.Null = is_null t
is_type t type.Boolean = is_some (flag_of t)
is_type t type.Integer = is_some (int_of t)
is_type t type.Number = is_some (int_of t)
is_type t type.Text = is_some (text_of t)
is_type t type.List = is_some (items_of t)
is_type t type.Map = is_some (entries_of t)

-- a set of keys
abbrev pub Keys : Type 0
Keys = List ℕ → Bool

abbrev pub no_keys : Keys
no_keys key = false

-- a word: the keys that it names, and what it says of a tree beside the keys that its schema names
pub record Clause : Type 0 where
  pub names : Keys
  pub test : Keys → Test

abbrev pub plain : Test → Clause
plain test = record { names = no_keys; test = λ named. test }

abbrev pub has_property : List (List ℕ × Test) → Keys
has_property ps key = list_any (λ p. bytes_eq p.0 key) ps

-- no value, or one that meets the schema
abbrev pub allowed : Option Test → Test
allowed None t = false
allowed (Some s) t = s t

-- a map has each of the keys
abbrev pub has_keys : List (List ℕ) → List Pair → Bool
has_keys keys ps = list_all (λ key. has_key key ps) keys

-- an entry's value meets the schema of each property with its key
abbrev pub meets_properties : List (List ℕ × Test) → Pair → Bool
meets_properties ps e = list_all (λ p. not (bytes_eq p.0 e.key) || p.1 e.value) ps

-- an entry's key is named, or its value is allowed
abbrev pub is_named_or_allowed : Keys → Option Test → Pair → Bool
is_named_or_allowed named a e = named e.key || allowed a e.value

abbrev pub unique_test : Bool → Test
unique_test b t = met_by (items_of t) (λ xs. not b || are_distinct same xs)

abbrev pub required_test : List (List ℕ) → Test
required_test keys t = met_by (entries_of t) (has_keys keys)

abbrev pub others_test : Keys → Option Test → Test
others_test named a t = met_by (entries_of t) (list_all (is_named_or_allowed named a))

abbrev pub properties_test : List (List ℕ × Test) → Test
properties_test ps t = met_by (entries_of t) (list_all (meets_properties ps))

abbrev pub items_test : Test → Test
items_test s t = met_by (items_of t) (list_all s)

abbrev pub additional_step : Additional-F (Option Test) Clause Test (List ℕ × Test) → Option Test
additional_step Additional-F.Closed = None
additional_step (Additional-F.Meets s) = Some s

abbrev pub word_step : SchemaWord-F (Option Test) Clause Test (List ℕ × Test) → Clause
word_step (SchemaWord-F.Type names) = plain (λ t. list_any (is_type t) names)
word_step (SchemaWord-F.Enum xs) = plain (λ t. is_among same t xs)
word_step (SchemaWord-F.Const x) = plain (λ t. same t x)
word_step (SchemaWord-F.Minimum n) = plain (λ t. met_by (int_of t) (λ z. int_le n z))
word_step (SchemaWord-F.Maximum n) = plain (λ t. met_by (int_of t) (λ z. int_le z n))
word_step (SchemaWord-F.MinLength n) = plain (λ t. met_by (text_of t) (λ s. nat_le n (char_count s)))
word_step (SchemaWord-F.MinItems n) = plain (λ t. met_by (items_of t) (λ xs. nat_le n (length xs)))
word_step (SchemaWord-F.MaxItems n) = plain (λ t. met_by (items_of t) (λ xs. nat_le (length xs) n))
word_step (SchemaWord-F.UniqueItems b) = plain (unique_test b)
word_step (SchemaWord-F.MinProperties n) = plain (λ t. met_by (entries_of t) (λ ps. nat_le n (length ps)))
word_step (SchemaWord-F.MaxProperties n) = plain (λ t. met_by (entries_of t) (λ ps. nat_le (length ps) n))
word_step (SchemaWord-F.Required keys) = plain (required_test keys)
word_step (SchemaWord-F.AdditionalProperties a) = record { names = no_keys; test = λ named. others_test named a }
word_step (SchemaWord-F.Properties ps) = record { names = has_property ps; test = λ named. properties_test ps }
word_step (SchemaWord-F.Items s) = plain (items_test s)
word_step (SchemaWord-F.AllOf ss) = plain (λ t. list_all (λ s. s t) ss)
word_step (SchemaWord-F.AnyOf ss) = plain (λ t. list_any (λ s. s t) ss)
word_step (SchemaWord-F.OneOf ss) = plain (λ t. count_by (λ s. s t) ss == 1)
word_step (SchemaWord-F.Not s) = plain (λ t. not (s t))

-- the keys that the words name
abbrev pub named_in : List Clause → Keys
named_in ws key = list_any (λ w. w.names key) ws

-- each word is met
abbrev pub schema_step : Schema-F (Option Test) Clause Test (List ℕ × Test) → Test
schema_step s t = list_all (λ w. w.test (named_in s.words) t) s.words

abbrev pub property_step : SchemaProperty-F (Option Test) Clause Test (List ℕ × Test) → List ℕ × Test
property_step p = (p.key, p.schema)

-- the tree meets the schema
unfoldable pub meets : Schema → Tree → Bool
meets = fold-Schema (Option Test) Clause Test (List ℕ × Test) additional_step word_step schema_step property_step

-- what a word says
unfoldable pub clause : SchemaWord → Clause
clause = fold-SchemaWord (Option Test) Clause Test (List ℕ × Test) additional_step word_step schema_step property_step

-- what holds of the values that no property names: none, or a test
unfoldable pub additional : Additional → Option Test
additional = fold-Additional (Option Test) Clause Test (List ℕ × Test) additional_step word_step schema_step property_step

-- a property's key, and whether a tree meets its schema
abbrev pub property : SchemaProperty → List ℕ × Test
property p = (p.key, meets p.schema)

-- the keys that a schema's words name
abbrev pub named : List SchemaWord → Keys
named ws = named_in (map clause ws)

-- the tree meets a word of a schema that names these keys
abbrev pub met : Keys → SchemaWord → Tree → Bool
met keys w t = (clause w).test keys t

-- what `additionalProperties` says of a tree, among these words of its schema
abbrev pub meets_others : List SchemaWord → Additional → Test
meets_others ws a = others_test (named ws) (additional a)
