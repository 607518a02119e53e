-- The form of each kind of entry as a schema (JSON Schema 2020-12): a table of the keys of a map, from which its schema
-- is made.
use Rattle.std.specs.Prelude.{ℕ, pos, Bool, true, false, List, [], ◌∷◌, ◌++◌, map, codes, if◌then◌else◌}
use Rattle.udb_base.specs.declared.kinds.Kind.{Kind}
use Rattle.udb_base.specs.declared.kinds.Kind.TheVariants.{Extension, Parameter, Instruction, Csr, Functions, Config}
use Rattle.yaml_spec.specs.declared.tree.Tree.{Tree}
use Rattle.yaml_spec.specs.declared.tree.Tree.TheVariants as tree
use Rattle.udb_schema.specs.declared.words.TypeName.TheVariants as type
use Rattle.udb_schema.specs.declared.words.Schema.{Schema}
use Rattle.udb_schema.specs.declared.words.SchemaWord.{SchemaWord}
use Rattle.udb_schema.specs.declared.words.SchemaWord.TheVariants as word
use Rattle.udb_schema.specs.declared.words.SchemaProperty.{SchemaProperty}
use Rattle.udb_schema.specs.declared.words.Additional.TheVariants as additional
use Rattle.entry_form.specs.declared.tables.Table.{Table}

abbrev pub Key : Type 0
Key = List ℕ

abbrev pub schema : List SchemaWord → Schema
schema ws = record { words = ws }

abbrev pub property : Key → Schema → SchemaProperty
property k s = record { key = k; schema = s }

-- ---- tables

-- a key of a map, the form of its value, and whether the key must be there
pub record Row : Type 0 where
  pub key : Key
  pub form : Schema
  pub required : Bool

abbrev pub required : Key → Schema → Row
required k s = record { key = k; form = s; required = true }

abbrev pub optional : Key → Schema → Row
optional k s = record { key = k; form = s; required = false }

abbrev pub required_keys : List Row → List Key
required_keys [] = []
required_keys (r ∷ rs) = if r.required then r.key ∷ required_keys rs else required_keys rs

abbrev pub properties : List Row → List SchemaProperty
properties rows = map (λ r. property r.key r.form) rows

abbrev pub table : List Row → Table
table rows = record { keys = required_keys rows; properties = properties rows }

-- a map with the required keys of a table, and no others than the table's
unfoldable pub map_words : Table → List SchemaWord
map_words t = word.Type (type.Map ∷ []) ∷ word.Required t.keys ∷ word.AdditionalProperties additional.Closed ∷ word.Properties t.properties ∷ []

abbrev pub map_of : List Row → Schema
map_of rows = schema (map_words (table rows))

-- ---- one more row of a table

abbrev pub with_required : Table → Key → Schema → Table
with_required t k s = record { keys = t.keys ++ k ∷ []; properties = t.properties ++ property k s ∷ [] }

abbrev pub with_optional : Table → Key → Schema → Table
with_optional t k s = record { keys = t.keys; properties = t.properties ++ property k s ∷ [] }

-- ---- values

unfoldable pub any_value : Schema
any_value = schema []

unfoldable pub text_value : Schema
text_value = schema (word.Type (type.Text ∷ []) ∷ [])

unfoldable pub flag_value : Schema
flag_value = schema (word.Type (type.Boolean ∷ []) ∷ [])

-- a whole number from 0 up to another
unfoldable pub number_to : ℕ → Schema
number_to most = schema (word.Type (type.Integer ∷ []) ∷ word.Minimum (pos 0) ∷ word.Maximum (pos most) ∷ [])

-- a whole number of 64 bits
abbrev pub number_value : Schema
number_value = number_to 18446744073709551615

unfoldable pub text_or_number : Schema
text_or_number = schema (word.Type (type.Text ∷ type.Integer ∷ []) ∷ [])

-- this text and nothing else
unfoldable pub exactly : List ℕ → Schema
exactly text = schema (word.Const (tree.Text text) ∷ [])

-- one of these values
abbrev pub one_of : List Tree → Schema
one_of values = schema (word.Enum values ∷ [])

-- no value, so the key isn't there
unfoldable pub no_value : Schema
no_value = schema (word.Not any_value ∷ [])

unfoldable pub list_of : ℕ → ℕ → Schema → Schema
list_of low high s = schema (word.Type (type.List ∷ []) ∷ word.MinItems low ∷ word.MaxItems high ∷ word.Items s ∷ [])

-- a map that has the key
unfoldable pub has_key : Key → Schema
has_key key = schema (word.Required (key ∷ []) ∷ [])

-- just one of two
unfoldable pub either : Schema → Schema → SchemaWord
either s r = word.OneOf (s ∷ r ∷ [])

-- ---- keys of every kind

unfoldable pub common : List ℕ → List Row
common kind =
    optional (codes "$schema") text_value ∷ required (codes "kind") (exactly kind) ∷ required (codes "name") text_value
    ∷ required (codes "description") text_value ∷ []

-- the same of all kinds but configurations
unfoldable pub titled : List ℕ → List Row
titled kind = common kind ++ required (codes "long_name") text_value ∷ []

-- ---- extensions

unfoldable pub version_rows : List Row
version_rows =
    required (codes "version") text_or_number ∷ optional (codes "breaking") flag_value ∷ optional (codes "state") text_value
    ∷ optional (codes "ratification_date") any_value ∷ []

unfoldable pub extension_rows : List Row
extension_rows =
    required (codes "versions") (list_of 1 64 (map_of version_rows)) ∷ optional (codes "requirements") any_value
    ∷ optional (codes "type") any_value ∷ []

unfoldable pub extension_schema : Schema
extension_schema = map_of (titled (codes "extension") ++ extension_rows)

-- ---- parameters

-- one of a type's listed values
unfoldable pub listed_domain : List ℕ → Schema → Schema
listed_domain name value = map_of (required (codes "type") (exactly name) ∷ required (codes "enum") (list_of 1 128 value) ∷ [])

unfoldable pub boolean_domain : Schema
boolean_domain = map_of (required (codes "type") (exactly (codes "boolean")) ∷ [])

unfoldable pub ranged_domain : Schema
ranged_domain =
    map_of (required (codes "type") (exactly (codes "integer")) ∷ required (codes "minimum") number_value ∷ required (codes "maximum") number_value ∷ [])

unfoldable pub domain_schema : Schema
domain_schema = schema (word.AnyOf (boolean_domain ∷ listed_domain (codes "integer") number_value ∷ ranged_domain ∷ listed_domain (codes "string") text_value ∷ []) ∷ [])

unfoldable pub parameter_rows : List Row
parameter_rows =
    required (codes "schema") domain_schema ∷ optional (codes "definedBy") any_value ∷ optional (codes "requirements") any_value ∷ []

unfoldable pub parameter_schema : Schema
parameter_schema = map_of (titled (codes "parameter") ++ parameter_rows)

-- ---- instructions

unfoldable pub variable_rows : List Row
variable_rows = required (codes "name") text_value ∷ required (codes "location") text_or_number ∷ optional (codes "left_shift") (number_to 31) ∷ []

unfoldable pub variables_schema : Schema
variables_schema = list_of 0 16 (map_of variable_rows)

unfoldable pub match_rows : List Row
match_rows = required (codes "match") text_value ∷ optional (codes "variables") variables_schema ∷ []

-- a match with its variables
unfoldable pub match_schema : Schema
match_schema = map_of match_rows

unfoldable pub base_rows : List Row
base_rows = optional (codes "RV32") match_schema ∷ optional (codes "RV64") match_schema ∷ []

-- such maps for one base or for both
unfoldable pub by_base : Schema
by_base = schema (word.MinProperties 1 ∷ map_words (table base_rows))

unfoldable pub encoding_schema : Schema
encoding_schema = schema (word.AnyOf (match_schema ∷ by_base ∷ []) ∷ [])

unfoldable pub base_value : Schema
base_value = one_of (tree.Int (pos 32) ∷ tree.Int (pos 64) ∷ [])

-- keys that nothing reads
unfoldable pub unread_rows : List Row
unread_rows =
    optional (codes "access") any_value ∷ optional (codes "data_independent_timing") any_value
    ∷ optional (codes "sail()") any_value ∷ optional (codes "pseudoinstructions") any_value ∷ []

unfoldable pub instruction_rows : List Row
instruction_rows =
    required (codes "assembly") text_value ∷ required (codes "encoding") encoding_schema ∷ optional (codes "definedBy") any_value
    ∷ optional (codes "base") base_value ∷ optional (codes "operation()") text_value ∷ []

unfoldable pub instruction_schema : Schema
instruction_schema = map_of (titled (codes "instruction") ++ (instruction_rows ++ unread_rows))

-- ---- registers

unfoldable pub field_type : Schema
field_type =
    one_of (tree.Text (codes "RO") ∷ tree.Text (codes "RO-H") ∷ tree.Text (codes "RW") ∷ tree.Text (codes "RW-R") ∷ tree.Text (codes "RW-H") ∷ tree.Text (codes "RW-RH") ∷ [])

unfoldable pub place_rows : List Row
place_rows = optional (codes "location") text_or_number ∷ optional (codes "location_rv32") text_or_number ∷ optional (codes "location_rv64") text_or_number ∷ []

unfoldable pub field_rows : List Row
field_rows =
    optional (codes "type") field_type ∷ optional (codes "type()") text_value ∷ optional (codes "reset_value") number_value
    ∷ optional (codes "reset_value()") text_value ∷ optional (codes "sw_write(csr_value)") text_value
    ∷ optional (codes "definedBy") any_value ∷ optional (codes "long_name") text_value ∷ optional (codes "description") text_value ∷ []

-- a place for one base or for both
unfoldable pub placed_by_base : Schema
placed_by_base = schema (word.AnyOf (has_key (codes "location_rv32") ∷ has_key (codes "location_rv64") ∷ []) ∷ [])

-- a field has one place or places by base, a type that is given or computed, and such a value at reset
unfoldable pub field_words : List SchemaWord
field_words =
    either (has_key (codes "location")) placed_by_base ∷ either (has_key (codes "type")) (has_key (codes "type()"))
    ∷ either (has_key (codes "reset_value")) (has_key (codes "reset_value()")) ∷ []

unfoldable pub field_schema : Schema
field_schema = schema (field_words ++ map_words (table (place_rows ++ field_rows)))

-- one to 64 fields by their names
unfoldable pub fields_schema : Schema
fields_schema =
    schema (word.Type (type.Map ∷ []) ∷ word.MinProperties 1 ∷ word.MaxProperties 64 ∷ word.AdditionalProperties (additional.Meets field_schema) ∷ [])

unfoldable pub length_value : Schema
length_value = one_of (tree.Int (pos 32) ∷ tree.Int (pos 64) ∷ tree.Text (codes "MXLEN") ∷ [])

unfoldable pub csr_rows : List Row
csr_rows =
    required (codes "address") (number_to 4095) ∷ required (codes "length") length_value ∷ required (codes "priv_mode") (exactly (codes "M"))
    ∷ required (codes "fields") fields_schema ∷ optional (codes "definedBy") any_value ∷ optional (codes "writable") any_value ∷ []

unfoldable pub csr_schema : Schema
csr_schema = map_of (titled (codes "csr") ++ csr_rows)

-- ---- functions

unfoldable pub functions_schema : Schema
functions_schema = map_of (titled (codes "functions") ++ required (codes "body") text_value ∷ [])

-- ---- configurations

-- a Flag, a number of 64 bits or a text
unfoldable pub given_value : Schema
given_value = schema (word.Type (type.Boolean ∷ type.Integer ∷ type.Text ∷ []) ∷ word.Minimum (pos 0) ∷ word.Maximum (pos 18446744073709551615) ∷ [])

unfoldable pub givens : Schema
givens = schema (word.Type (type.Map ∷ []) ∷ word.AdditionalProperties (additional.Meets given_value) ∷ [])

-- what a member has that is a map
unfoldable pub member_words : List SchemaWord
member_words =
    word.Required (codes "name" ∷ []) ∷ word.AdditionalProperties additional.Closed
    ∷ word.Properties (property (codes "name") text_value ∷ property (codes "version") any_value ∷ []) ∷ []

unfoldable pub member : Schema
member = schema (word.Type (type.Text ∷ type.Map ∷ []) ∷ member_words)

-- a list of members, or one of them
unfoldable pub members : Schema
members = schema (word.Type (type.Text ∷ type.Map ∷ type.List ∷ []) ∷ word.Items member ∷ member_words)

unfoldable pub config_rows : List Row
config_rows =
    required (codes "type") text_value ∷ optional (codes "params") givens
    ∷ optional (codes "mandatory_extensions") members ∷ optional (codes "prohibited_extensions") members
    ∷ optional (codes "additional_extensions") flag_value ∷ optional (codes "implemented_extensions") members ∷ []

-- keys that aren't there
abbrev pub without : List Key → List SchemaProperty
without keys = map (λ k. property k no_value) keys

-- a configuration of this type hasn't these keys
unfoldable pub config_type : List ℕ → List Key → Schema
config_type name keys = schema (word.Properties (property (codes "type") (exactly name) ∷ without keys) ∷ [])

-- the keys of some configurations, and those of partial ones alone
unfoldable pub optional_keys : List Key
optional_keys = codes "params" ∷ codes "mandatory_extensions" ∷ codes "prohibited_extensions" ∷ codes "additional_extensions" ∷ codes "implemented_extensions" ∷ []

unfoldable pub partial_keys : List Key
partial_keys = codes "mandatory_extensions" ∷ codes "prohibited_extensions" ∷ codes "additional_extensions" ∷ []

unfoldable pub unconfigured_type : Schema
unconfigured_type = config_type (codes "unconfigured") optional_keys

unfoldable pub partial_type : Schema
partial_type = config_type (codes "partially configured") (codes "implemented_extensions" ∷ [])

unfoldable pub full_type : Schema
full_type = config_type (codes "fully configured") partial_keys

abbrev pub config_types : List Schema
config_types = unconfigured_type ∷ partial_type ∷ full_type ∷ []

unfoldable pub config_schema : Schema
config_schema = schema (word.AnyOf config_types ∷ map_words (table (common (codes "architecture configuration") ++ config_rows)))

-- ---- kinds

abbrev pub schema_of : Kind → Schema
schema_of Extension = extension_schema
schema_of Parameter = parameter_schema
schema_of Instruction = instruction_schema
schema_of Csr = csr_schema
schema_of Functions = functions_schema
schema_of Config = config_schema
