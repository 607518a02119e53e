-- The entries that trees give. A missing condition is Always, a missing list is empty, a missing shift is 0; what the
-- schemas rule out gives what is said of something missing.
use Rattle.std.specs.Prelude.{◌==◌, Bool, true, false, ℕ, nat_lt, List, [], ◌∷◌, ◌++◌, map, codes, Option, None, Some, is_some, option_map, option_and_then, if◌then◌else◌}
use Rattle.std.specs.List.{flat_map}
use Rattle.std.specs.Option.{unwrap_or, option_map_or}
use Rattle.std.specs.Str.{bytes_eq}
use Rattle.std.specs.Fmt.{signed_decimal}
use Rattle.yaml_spec.specs.declared.tree.Tree.{Tree}
use Rattle.yaml_spec.specs.declared.tree.Pair.{Pair}
use Rattle.udb_base.specs.declared.kinds.Kind.{Kind}
use Rattle.udb_base.specs.declared.kinds.Kind.TheVariants.{Extension, Parameter, Instruction, Csr, Functions, Config}
use Rattle.udb_base.specs.declared.versions.Version.{Version}
use Rattle.udb_base.specs.declared.versions.Listed.{Listed}
use Rattle.udb_base.specs.declared.conditions.Cond.{Cond}
use Rattle.udb_base.specs.declared.conditions.Cond.TheVariants.{Always}
use Rattle.udb_base.specs.declared.conditions.Value.{Value}
use Rattle.udb_base.specs.declared.conditions.Value.TheVariants.{Number}
use Rattle.udb_base.specs.declared.spaces.Domain.{Domain}
use Rattle.udb_base.specs.declared.spaces.Domain.TheVariants.{Flags, Numbers, Range, Words}
use Rattle.entry_tree.specs.declared.ConfigKind.{ConfigKind}
use Rattle.entry_tree.specs.declared.ConfigKind.TheVariants.{Unconfigured, Partially, Fully}
use Rattle.entry_tree.specs.declared.Member.{Member}
use Rattle.entry_tree.specs.declared.Given.{Given}
use Rattle.entry_tree.specs.declared.ExtensionEntry.{ExtensionEntry}
use Rattle.entry_tree.specs.declared.ParamEntry.{ParamEntry}
use Rattle.entry_tree.specs.declared.ConfigEntry.{ConfigEntry}
use Rattle.entry_tree.specs.declared.Encoding.{Encoding}
use Rattle.entry_tree.specs.declared.InstructionEntry.{InstructionEntry}
use Rattle.entry_tree.specs.declared.FieldEntry.{FieldEntry}
use Rattle.entry_tree.specs.declared.CsrEntry.{CsrEntry}
use Rattle.entry_tree.specs.declared.FunctionsEntry.{FunctionsEntry}
use Rattle.idl_tree.specs.declared.programs.Base.{Base}
use Rattle.idl_tree.specs.declared.programs.Base.TheVariants.{All, Rv32, Rv64}
use Rattle.idl_tree.specs.declared.programs.BitPart.{BitPart}
use Rattle.idl_tree.specs.declared.programs.Variable.{Variable}
use Rattle.idl_tree.specs.declared.programs.Body.{Body}
use Rattle.idl_tree.specs.declared.programs.Function.{Function}
use Rattle.idl_tree.specs.declared.programs.FieldType.{FieldType}
use Rattle.idl_tree.specs.declared.programs.FieldType.TheVariants.{RO, ROH, RW, RWR, RWH, RWRH}
use Rattle.idl_tree.specs.declared.programs.FieldKind.{FieldKind}
use Rattle.idl_tree.specs.declared.programs.FieldKind.TheVariants as field_kind
use Rattle.idl_tree.specs.declared.programs.ResetValue.{ResetValue}
use Rattle.idl_tree.specs.declared.programs.ResetValue.TheVariants as reset
use Rattle.idl_tree.specs.declared.programs.FieldPlaces.{FieldPlaces}
use Rattle.idl_tree.specs.declared.programs.FieldPlaces.TheVariants as place
use Rattle.idl_tree.specs.declared.programs.Length.{Length}
use Rattle.idl_tree.specs.declared.programs.Length.TheVariants.{Bits32, Bits64, Mxlen}
use Rattle.entry_place.specs.Places.{variable_location, field_place}
use Rattle.udb_entry.specs.Bodies.{body_of, functions_of}
use Rattle.udb_spec.specs.Grammar.{version_of}
use Rattle.yaml_spec.specs.Trees.{int_of}
use Rattle.cond_tree.specs.Values as values
use Rattle.cond_tree.specs.Conds.{cond_of}
use Rattle.cond_tree.specs.Members.{members_of, implemented_of}
use Rattle.udb_entry.specs.declared.encodings.EncodingParts.{EncodingParts}
use Rattle.udb_entry.specs.declared.answers.Entry.{Entry}
use Rattle.udb_entry.specs.declared.answers.Entry.TheVariants as entry
use Rattle.udb_entry.specs.Keys.{value_at, pairs_at, pairs_in, items_at, text_at, number_at, flag_at, text_in, number_in}

-- ---- versions

-- a text, or a whole number as its decimal digits
abbrev pub scalar_text : Tree → List ℕ
scalar_text t = option_map_or signed_decimal (int_of t) (text_in t)

-- the text of a listed version
abbrev pub version_text : Tree → List ℕ
version_text t = option_map_or scalar_text (value_at t (codes "version")) []

abbrev pub version_in : Tree → Option Version
version_in t = version_of (version_text t)

abbrev pub no_version : Version
no_version = record { major = 0; minor = 0; patch = 0 }

-- a version that is read, and none where it isn't
abbrev pub listed : Option Version → Bool → Listed
listed v breaking = record { version = unwrap_or v no_version; breaking = breaking }

abbrev pub listed_of : Tree → Listed
listed_of t = listed (version_in t) (flag_at t (codes "breaking") false)

-- ---- domains

-- listed numbers, or a range
abbrev pub number_domain : Tree → Domain
number_domain t = if is_some (value_at t (codes "enum")) then Numbers (map number_in (items_at t (codes "enum"))) else Range (number_at t (codes "minimum")) (number_at t (codes "maximum"))

-- the domain of a parameter's schema
abbrev pub domain_of : Tree → Domain
domain_of t =
    if bytes_eq (text_at t (codes "type")) (codes "boolean") then Flags
    else (if bytes_eq (text_at t (codes "type")) (codes "string") then Words (map text_in (items_at t (codes "enum"))) else number_domain t)

abbrev pub domain_at : Tree → List ℕ → Domain
domain_at t key = option_map_or domain_of (value_at t key) Flags

-- ---- conditions and members

-- the condition under a key, where it can be read
abbrev pub condition_at : Tree → List ℕ → Option Cond
condition_at t key = option_map_or (cond_of 12) (value_at t key) (Some Always)

-- the members under a key, where they can be read
abbrev pub members_at : Tree → List ℕ → Option (List Member)
members_at t key = option_map_or members_of (value_at t key) (Some [])

-- the same of members with one version or none
abbrev pub implemented_at : Tree → List ℕ → Option (List Member)
implemented_at t key = option_map_or implemented_of (value_at t key) (Some [])

-- ---- configurations

abbrev pub kind_of : List ℕ → ConfigKind
kind_of text = if bytes_eq text (codes "unconfigured") then Unconfigured else (if bytes_eq text (codes "partially configured") then Partially else Fully)

abbrev pub given_value : Tree → Value
given_value t = unwrap_or (values.value_of t) (Number 0)

abbrev pub given_of : Pair → Given
given_of p = record { name = p.key; value = given_value p.value }

-- ---- encodings

-- a number below another, and 0 where it is none
abbrev pub below : ℕ → ℕ → ℕ
below limit n = if nat_lt n limit then n else 0

abbrev pub location_at : Tree → Option (List BitPart)
location_at t = option_and_then variable_location (value_at t (codes "location"))

abbrev pub variable_by : Base → Tree → List BitPart → Variable
variable_by base t ps = record { base = base; name = text_at t (codes "name"); location = ps; shift = below 256 (number_at t (codes "left_shift")) }

-- a variable whose location is well formed
abbrev pub placed_variable : Base → Tree → Option Variable
placed_variable base t = option_map (variable_by base t) (location_at t)

abbrev pub no_variable : Variable
no_variable = record { base = All; name = []; location = []; shift = 0 }

abbrev pub variable_of : Base → Tree → Variable
variable_of base t = unwrap_or (placed_variable base t) no_variable

abbrev pub variables_in : Base → Tree → List Variable
variables_in base t = map (variable_of base) (items_at t (codes "variables"))

abbrev pub encoding_in : Base → Tree → Encoding
encoding_in base t = record { base = base; digits = text_at t (codes "match") }

-- a match with its variables, and the base for which it stands
pub record Form : Type 0 where
  pub base : Base
  pub tree : Tree

abbrev pub form : Base → Tree → Form
form base t = record { base = base; tree = t }

abbrev pub base_of : List ℕ → Base
base_of key = if bytes_eq key (codes "RV32") then Rv32 else Rv64

-- the match of one base
abbrev pub form_of : Pair → Form
form_of p = form (base_of p.key) p.value

-- one match for all bases, or one for each that is named, in the order of the text
abbrev pub forms_in : Tree → List Form
forms_in t = if is_some (value_at t (codes "match")) then form All t ∷ [] else map form_of (pairs_in t)

abbrev pub forms_of : Tree → List Form
forms_of t = option_map_or forms_in (value_at t (codes "encoding")) []

-- the encodings of matches, and the variables of all of them
abbrev pub forms : List Form → EncodingParts
forms fs = record { encodings = map (λ f. encoding_in f.base f.tree) fs; variables = flat_map (λ f. variables_in f.base f.tree) fs }

-- the one base of an instruction that has one alone
abbrev pub bits_of_base : Tree → ℕ
bits_of_base t = if number_in t == 64 then 64 else 32

abbrev pub own_base : Tree → Option ℕ
own_base t = option_map bits_of_base (value_at t (codes "base"))

-- ---- fields

-- the place under a key, where there is one and it is well formed
abbrev pub place_at : Tree → List ℕ → Option BitPart
place_at t key = option_and_then field_place (value_at t key)

-- one place for all bases, or one for each that is named
abbrev pub places_by : Option BitPart → Option BitPart → Option BitPart → FieldPlaces
places_by (Some whole) rv32 rv64 = place.All whole
places_by None rv32 rv64 = place.ByBase rv32 rv64

abbrev pub places_with : (Option BitPart × (Option BitPart × Option BitPart)) → FieldPlaces
places_with v = places_by v.0 v.1.0 v.1.1

abbrev pub places_of : Tree → FieldPlaces
places_of t = places_with (place_at t (codes "location"), (place_at t (codes "location_rv32"), place_at t (codes "location_rv64")))

abbrev pub type_of : List ℕ → FieldType
type_of text =
    if bytes_eq text (codes "RO") then RO else (if bytes_eq text (codes "RO-H") then ROH else (if bytes_eq text (codes "RW") then RW
    else (if bytes_eq text (codes "RW-R") then RWR else (if bytes_eq text (codes "RW-H") then RWH else RWRH))))

-- the body under a key, where there is one
abbrev pub body_under : Tree → List ℕ → Option Body
body_under t key = option_map (λ v. body_of (text_in v)) (value_at t key)

abbrev pub kind_by : Option Body → FieldType → FieldKind
kind_by (Some b) given = field_kind.Computed b
kind_by None given = field_kind.Plain given

-- a type that is given, or computed by a body
abbrev pub kind_in : Tree → FieldKind
kind_in t = kind_by (body_under t (codes "type()")) (type_of (text_at t (codes "type")))

abbrev pub reset_by : Option Body → ℕ → ResetValue
reset_by (Some b) given = reset.Computed b
reset_by None given = reset.Plain given

-- a value at reset that is given, or computed by a body
abbrev pub reset_in : Tree → ResetValue
reset_in t = reset_by (body_under t (codes "reset_value()")) (number_at t (codes "reset_value"))

abbrev pub write_in : Tree → Option Body
write_in t = body_under t (codes "sw_write(csr_value)")

abbrev pub text_if_any : Tree → List ℕ → Option (List ℕ)
text_if_any t key = option_map text_in (value_at t key)

-- the parts of a field in the order in which they are read
abbrev pub field_texts : Pair → List ℕ × (Option (List ℕ) × Option (List ℕ))
field_texts p = (p.key, (text_if_any p.value (codes "long_name"), text_if_any p.value (codes "description")))

abbrev pub field_bodies : Tree → FieldKind × (ResetValue × Option Body)
field_bodies t = (kind_in t, (reset_in t, write_in t))

abbrev pub FieldParts : Type 0
FieldParts = FieldPlaces × (Cond × ((FieldKind × (ResetValue × Option Body)) × (List ℕ × (Option (List ℕ) × Option (List ℕ)))))

abbrev pub field_with : FieldParts → FieldEntry
field_with v = record {
  bodies = record { name = v.1.1.1.0; present = v.1.0; places = v.0; kind = v.1.1.0.0; reset = v.1.1.0.1.0; write = v.1.1.0.1.1 };
  long_name = v.1.1.1.1.0;
  description = v.1.1.1.1.1;
}

abbrev pub field_of : Pair → FieldEntry
field_of p = field_with (places_of p.value, (unwrap_or (condition_at p.value (codes "definedBy")) Always, (field_bodies p.value, field_texts p)))

-- ---- registers

-- the length of a register; a text is the one that follows the base
abbrev pub length_in : Tree → Length
length_in t = if number_in t == 64 then Bits64 else (if number_in t == 32 then Bits32 else Mxlen)

abbrev pub length_of : Tree → Length
length_of t = option_map_or length_in (value_at t (codes "length")) Mxlen

-- ---- entries

-- the name, the long name and the description
abbrev pub titles_of : Tree → List ℕ × (List ℕ × List ℕ)
titles_of t = (text_at t (codes "name"), (text_at t (codes "long_name"), text_at t (codes "description")))

abbrev pub Titles : Type 0
Titles = List ℕ × (List ℕ × List ℕ)

abbrev pub extension_with : (List Listed × (Cond × Titles)) → ExtensionEntry
extension_with v = record { name = v.1.1.0; long_name = v.1.1.1.0; description = v.1.1.1.1; versions = v.0; needs = v.1.0 }

abbrev pub param_with : (Domain × (Cond × (Cond × Titles))) → ParamEntry
param_with v = record { name = v.1.1.1.0; long_name = v.1.1.1.1.0; description = v.1.1.1.1.1; domain = v.0; defined = v.1.0; needs = v.1.1.0 }

abbrev pub functions_with : (Titles × List Function) → FunctionsEntry
functions_with v = record { name = v.0.0; long_name = v.0.1.0; description = v.0.1.1; functions = v.1 }

abbrev pub extension_of : Tree → ExtensionEntry
extension_of t = record {
  name = text_at t (codes "name");
  long_name = text_at t (codes "long_name");
  description = text_at t (codes "description");
  versions = map listed_of (items_at t (codes "versions"));
  needs = unwrap_or (condition_at t (codes "requirements")) Always;
}

abbrev pub param_of : Tree → ParamEntry
param_of t = record {
  name = text_at t (codes "name");
  long_name = text_at t (codes "long_name");
  description = text_at t (codes "description");
  domain = domain_at t (codes "schema");
  defined = unwrap_or (condition_at t (codes "definedBy")) Always;
  needs = unwrap_or (condition_at t (codes "requirements")) Always;
}

abbrev pub InstructionParts : Type 0
InstructionParts = EncodingParts × (Cond × (Body × (Titles × List ℕ)))

-- an instruction of encodings, a condition, a body and texts; the body takes the variables of the encodings
abbrev pub instruction_with : Option ℕ → InstructionParts → InstructionEntry
instruction_with base v = record {
  name = v.1.1.1.0.0;
  long_name = v.1.1.1.0.1.0;
  description = v.1.1.1.0.1.1;
  assembly = v.1.1.1.1;
  base = base;
  encodings = v.0.encodings;
  defined = v.1.0;
  operation = record { variables = v.0.variables; statements = v.1.1.0.statements };
}

abbrev pub instruction_of : Tree → InstructionEntry
instruction_of t =
    instruction_with (own_base t)
    (forms (forms_of t), (unwrap_or (condition_at t (codes "definedBy")) Always, (body_of (text_at t (codes "operation()")), (titles_of t, text_at t (codes "assembly")))))

abbrev pub address_of : Tree → ℕ
address_of t = below 65536 (number_at t (codes "address"))

abbrev pub CsrParts : Type 0
CsrParts = (Cond × Titles) × List FieldEntry

abbrev pub csr_with : ℕ → Length → CsrParts → CsrEntry
csr_with address length v = record {
  name = v.0.1.0;
  long_name = v.0.1.1.0;
  description = v.0.1.1.1;
  address = address;
  length = length;
  defined = v.0.0;
  fields = v.1;
}

abbrev pub csr_of : Tree → CsrEntry
csr_of t =
    csr_with (address_of t) (length_of t)
    ((unwrap_or (condition_at t (codes "definedBy")) Always, titles_of t), map field_of (pairs_at t (codes "fields")))

abbrev pub functions_entry_of : Tree → FunctionsEntry
functions_entry_of t = record {
  name = text_at t (codes "name");
  long_name = text_at t (codes "long_name");
  description = text_at t (codes "description");
  functions = functions_of (text_at t (codes "body"));
}

abbrev pub config_kind : Tree → ConfigKind
config_kind t = kind_of (text_at t (codes "type"))

abbrev pub ConfigParts : Type 0
ConfigParts = List Member × (List Member × (List Member × (Titles × List Given)))

abbrev pub config_with : ConfigKind → Bool → ConfigParts → ConfigEntry
config_with kind additional v = record {
  name = v.1.1.1.0.0;
  description = v.1.1.1.0.1.1;
  kind = kind;
  params = v.1.1.1.1;
  mandatory = v.0;
  prohibited = v.1.0;
  additional = additional;
  implemented = v.1.1.0;
}

abbrev pub config_of : Tree → ConfigEntry
config_of t =
    config_with (config_kind t) (flag_at t (codes "additional_extensions") true) (
      unwrap_or (members_at t (codes "mandatory_extensions")) [],
      (
        unwrap_or (members_at t (codes "prohibited_extensions")) [],
        (unwrap_or (implemented_at t (codes "implemented_extensions")) [], (titles_of t, map given_of (pairs_at t (codes "params")))),
      ),
    )

-- the entry of each kind
abbrev pub entry_of : Kind → Tree → Entry
entry_of Extension t = entry.Extension (extension_of t)
entry_of Parameter t = entry.Param (param_of t)
entry_of Instruction t = entry.Instruction (instruction_of t)
entry_of Csr t = entry.Csr (csr_of t)
entry_of Functions t = entry.Functions (functions_entry_of t)
entry_of Config t = entry.Config (config_of t)
