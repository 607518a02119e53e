-- Statement: the schema that a JSON value spells.
use Rattle.std.specs.Prelude.{◌≡◌, ℕ, ℤ, Bool, List, [], ◌∷◌, codes, Option, None, Some, option_map, option_and_then, if◌then◌else◌}
use Rattle.std.specs.Str.{bytes_eq}
use Rattle.serde_json.specs.Data.{Data, null, boolean, number, string, array, object, Items, no_items, item, Members, no_members, member}
use Rattle.serde_json.specs.Read.{read}
use Rattle.serde_json.specs.Find.{as_bool, as_number, as_str, as_integer, as_u64}
use Rattle.udb_base.specs.Lists.{one, one_more_part, each, are_distinct}
use Rattle.yaml_spec.specs.declared.tree.Tree.{Tree}
use Rattle.yaml_spec.specs.declared.tree.Tree.TheVariants as tree
use Rattle.yaml_spec.specs.declared.tree.Pair.{Pair}
use Rattle.yaml_spec.specs.Line.{pair}
use Rattle.udb_schema.specs.declared.words.TypeName.{TypeName}
use Rattle.udb_schema.specs.declared.words.TypeName.TheVariants as type
use Rattle.udb_schema.specs.declared.words.Word.{Word}
use Rattle.udb_schema.specs.declared.words.Word.TheVariants as word
use Rattle.udb_schema.specs.declared.words.Schema.{Schema}
use Rattle.udb_schema.specs.declared.words.SchemaWord.{SchemaWord}
use Rattle.udb_schema.specs.declared.words.SchemaWord.TheVariants as w
use Rattle.udb_schema.specs.declared.words.SchemaProperty.{SchemaProperty}
use Rattle.udb_schema.specs.declared.words.Additional.{Additional}
use Rattle.udb_schema.specs.declared.words.Additional.TheVariants as a

-- ---- parts

-- the value of each item, where each has one
abbrev pub each_item : {A : Type 0} → (Data → Option A) → Items → Option (List A)
each_item f no_items = Some []
each_item f (item d ds) = one_more_part (f d) (each_item f ds)

-- texts, where they are distinct
abbrev pub if_distinct : List (List ℕ) → Option (List (List ℕ))
if_distinct ss = if are_distinct bytes_eq ss then Some ss else None

abbrev pub distinct_texts : Items → Option (List (List ℕ))
distinct_texts ds = option_and_then if_distinct (each_item as_str ds)

-- a list, where it isn't empty
abbrev pub if_any : {A : Type 0} → List A → Option (List A)
if_any [] = None
if_any (x ∷ xs) = Some (x ∷ xs)

-- distinct texts in an array
abbrev pub keys : Data → Option (List (List ℕ))
keys (array ds) = distinct_texts ds
keys null = None
keys (boolean b) = None
keys (number n) = None
keys (string s) = None
keys (object ms) = None

-- a whole number from -2^63 to 2^64-1
abbrev pub whole : Data → Option ℤ
whole d = option_and_then as_integer (as_number d)

-- a whole number from 0 to 2^64-1
abbrev pub count : Data → Option ℕ
count d = option_and_then as_u64 (as_number d)

-- ---- types

abbrev pub type_name : List ℕ → Option TypeName
type_name s =
    if bytes_eq s (codes "null") then Some type.Null else
    if bytes_eq s (codes "boolean") then Some type.Boolean else
    if bytes_eq s (codes "integer") then Some type.Integer else
    if bytes_eq s (codes "number") then Some type.Number else
    if bytes_eq s (codes "string") then Some type.Text else
    if bytes_eq s (codes "array") then Some type.List else
    if bytes_eq s (codes "object") then Some type.Map else None

-- distinct names in an array
abbrev pub distinct_names : Items → Option (List TypeName)
distinct_names ds = option_and_then (each type_name) (distinct_texts ds)

-- a name, or an array of distinct names that isn't empty
abbrev pub types : Data → Option (List TypeName)
types (string s) = one (type_name s)
types (array ds) = option_and_then if_any (distinct_names ds)
types null = None
types (boolean b) = None
types (number n) = None
types (object ms) = None

-- ---- trees

-- A number with a fraction or an exponent, or out of the range of trees, spells no tree.
abbrev mutual
  pub tree_of : Data → Option Tree
  tree_of null = Some tree.Null
  tree_of (boolean b) = Some (tree.Flag b)
  tree_of (number n) = option_map tree.Int (as_integer n)
  tree_of (string s) = Some (tree.Text s)
  tree_of (array ds) = option_map tree.List (trees_of ds)
  tree_of (object ms) = option_map tree.Map (pairs_of ms)

  pub trees_of : Items → Option (List Tree)
  trees_of no_items = Some []
  trees_of (item d ds) = one_more_part (tree_of d) (trees_of ds)

  pub pairs_of : Members → Option (List Pair)
  pairs_of no_members = Some []
  pairs_of (member k d ms) = one_more_part (option_map (pair k) (tree_of d)) (pairs_of ms)

abbrev pub tree_list : Data → Option (List Tree)
tree_list (array ds) = trees_of ds
tree_list null = None
tree_list (boolean b) = None
tree_list (number n) = None
tree_list (string s) = None
tree_list (object ms) = None

-- ---- words

abbrev pub word_named : List ℕ → Option Word
word_named s =
    if bytes_eq s (codes "type") then Some word.Type else
    if bytes_eq s (codes "enum") then Some word.Enum else
    if bytes_eq s (codes "const") then Some word.Const else
    if bytes_eq s (codes "minimum") then Some word.Minimum else
    if bytes_eq s (codes "maximum") then Some word.Maximum else
    if bytes_eq s (codes "minLength") then Some word.MinLength else
    if bytes_eq s (codes "minItems") then Some word.MinItems else
    if bytes_eq s (codes "maxItems") then Some word.MaxItems else
    if bytes_eq s (codes "uniqueItems") then Some word.UniqueItems else
    if bytes_eq s (codes "minProperties") then Some word.MinProperties else
    if bytes_eq s (codes "maxProperties") then Some word.MaxProperties else
    if bytes_eq s (codes "required") then Some word.Required else
    if bytes_eq s (codes "additionalProperties") then Some word.AdditionalProperties else
    if bytes_eq s (codes "properties") then Some word.Properties else
    if bytes_eq s (codes "items") then Some word.Items else
    if bytes_eq s (codes "allOf") then Some word.AllOf else
    if bytes_eq s (codes "anyOf") then Some word.AnyOf else
    if bytes_eq s (codes "oneOf") then Some word.OneOf else
    if bytes_eq s (codes "not") then Some word.Not else None

-- `false`, or a schema, which the value spells where s is there
abbrev pub additional_of : Data → Option Schema → Option Additional
additional_of (boolean b) s = if b then None else Some a.Closed
additional_of null s = option_map a.Meets s
additional_of (number n) s = option_map a.Meets s
additional_of (string t) s = option_map a.Meets s
additional_of (array ds) s = option_map a.Meets s
additional_of (object ms) s = option_map a.Meets s

-- A word with its operand. The value spells the schema s, the array of schemas ss or the object of schemas ps,
-- where these are there.
abbrev pub operand : Word → Data → Option Schema → Option (List Schema) → Option (List SchemaProperty) → Option SchemaWord
operand word.Type d s ss ps = option_map w.Type (types d)
operand word.Enum d s ss ps = option_map w.Enum (tree_list d)
operand word.Const d s ss ps = option_map w.Const (tree_of d)
operand word.Minimum d s ss ps = option_map w.Minimum (whole d)
operand word.Maximum d s ss ps = option_map w.Maximum (whole d)
operand word.MinLength d s ss ps = option_map w.MinLength (count d)
operand word.MinItems d s ss ps = option_map w.MinItems (count d)
operand word.MaxItems d s ss ps = option_map w.MaxItems (count d)
operand word.UniqueItems d s ss ps = option_map w.UniqueItems (as_bool d)
operand word.MinProperties d s ss ps = option_map w.MinProperties (count d)
operand word.MaxProperties d s ss ps = option_map w.MaxProperties (count d)
operand word.Required d s ss ps = option_map w.Required (keys d)
operand word.AdditionalProperties d s ss ps = option_map w.AdditionalProperties (additional_of d s)
operand word.Properties d s ss ps = option_map w.Properties ps
operand word.Items d s ss ps = option_map w.Items s
operand word.AllOf d s ss ps = option_map w.AllOf (option_and_then if_any ss)
operand word.AnyOf d s ss ps = option_map w.AnyOf (option_and_then if_any ss)
operand word.OneOf d s ss ps = option_map w.OneOf (option_and_then if_any ss)
operand word.Not d s ss ps = option_map w.Not s

abbrev pub property : List ℕ → Schema → SchemaProperty
property k s = record { key = k; schema = s }

abbrev pub schema_with : List SchemaWord → Schema
schema_with ws = record { words = ws }

abbrev mutual
  -- the schema that a value spells: an object of known words with fitting operands
  pub schema_of : Data → Option Schema
  schema_of (object ms) = option_map schema_with (words_of ms)
  schema_of null = None
  schema_of (boolean b) = None
  schema_of (number n) = None
  schema_of (string s) = None
  schema_of (array ds) = None

  pub words_of : Members → Option (List SchemaWord)
  words_of no_members = Some []
  words_of (member k d ms) = one_more_part (option_and_then (λ v. operand v d (schema_of d) (schema_list d) (property_list d)) (word_named k)) (words_of ms)

  pub schema_list : Data → Option (List Schema)
  schema_list (array ds) = schemas_of ds
  schema_list null = None
  schema_list (boolean b) = None
  schema_list (number n) = None
  schema_list (string s) = None
  schema_list (object ms) = None

  pub schemas_of : Items → Option (List Schema)
  schemas_of no_items = Some []
  schemas_of (item d ds) = one_more_part (schema_of d) (schemas_of ds)

  pub property_list : Data → Option (List SchemaProperty)
  property_list (object ms) = properties_of ms
  property_list null = None
  property_list (boolean b) = None
  property_list (number n) = None
  property_list (string s) = None
  property_list (array ds) = None

  pub properties_of : Members → Option (List SchemaProperty)
  properties_of no_members = Some []
  properties_of (member k d ms) = one_more_part (option_map (property k) (schema_of d)) (properties_of ms)

-- the schema that a text spells
abbrev pub spelled : List ℕ → Option Schema
spelled text = option_and_then schema_of (read text)

-- the text is a JSON value that is no schema
abbrev pub IsNoSchema : List ℕ → Type 0
IsNoSchema text = (d : Data) × (read text ≡ Some d) × (schema_of d ≡ None)
