-- The first broken rule of an entry, and the entry that a row gives.
use Rattle.std.specs.Prelude.{◌≡◌, ◌⊎◌, ℕ, nat_lt, Bool, true, false, List, [], ◌∷◌, ◌++◌, map, codes, Option, None, Some, Result, Ok, Err, if◌then◌else◌}
use Rattle.std.specs.Fmt.{decimal}
use Rattle.yaml_spec.specs.declared.tree.Tree.{Tree}
use Rattle.yaml_spec.specs.declared.tree.Pair.{Pair}
use Rattle.yaml_spec.specs.declared.tree.Mark.{Mark}
use Rattle.yaml_spec.specs.declared.tree.Mark.TheVariants.{Anchor, Alias, Tag, Document, Directive}
use Rattle.yaml_spec.specs.Texts.{lines_of, Spelled}
use Rattle.yaml_spec.specs.Faults.{IsLeast}
use Rattle.udb_yaml.specs.Answers.{HasMark}
use Rattle.udb_base.specs.declared.kinds.Kind.{Kind}
use Rattle.udb_base.specs.declared.kinds.Kind.TheVariants.{Extension, Parameter, Instruction, Csr, Functions, Config}
use Rattle.udb_base.specs.declared.rows.Row.{Row}
use Rattle.udb_schema.specs.declared.words.Word.{Word}
use Rattle.udb_schema.specs.declared.words.Word.TheVariants as word
use Rattle.udb_schema.specs.Meets.{meets}
use Rattle.udb_schema.specs.Faults.{FirstFault}
use Rattle.udb_entry.specs.declared.answers.Entry.{Entry}
use Rattle.udb_entry.specs.declared.answers.Breach.{Breach}
use Rattle.udb_entry.specs.declared.answers.EntryFault.{EntryFault}
use Rattle.udb_entry.specs.declared.answers.EntryFault.TheVariants.{Memory, Broken}
use Rattle.entry_form.specs.Forms.{schema_of}
use Rattle.udb_entry.specs.Keys.{text_at, pairs_at}
use Rattle.udb_entry.specs.Alphabets.{is_field_name}
use Rattle.udb_entry.specs.Entries.{entry_of}
use Rattle.udb_entry.specs.Rules.{Lines, name_rule, alphabet_rule, version_rule, domain_rule, first_unfit, variables_rule, declared_rule, match_rule, one_place_rule, condition_rule, members_rule, implemented_rule, body_rule, functions_rule, field_body_rule}

-- ---- what is shown

abbrev pub mark_word : Mark → List ℕ
mark_word Anchor = codes "anchor"
mark_word Alias = codes "alias"
mark_word Tag = codes "tag"
mark_word Document = codes "document"
mark_word Directive = codes "directive"

-- a line that spells nothing, with its mark where it has one
abbrev pub fault_line : ℕ → Option Mark → List ℕ
fault_line n None = codes "line " ++ decimal n
fault_line n (Some w) = codes "line " ++ (decimal n ++ (32 ∷ mark_word w))

-- a word of schemas, as JSON Schema writes it
abbrev pub word_text : Word → List ℕ
word_text word.Type = codes "type"
word_text word.Enum = codes "enum"
word_text word.Const = codes "const"
word_text word.Minimum = codes "minimum"
word_text word.Maximum = codes "maximum"
word_text word.MinLength = codes "minLength"
word_text word.MinItems = codes "minItems"
word_text word.MaxItems = codes "maxItems"
word_text word.UniqueItems = codes "uniqueItems"
word_text word.MinProperties = codes "minProperties"
word_text word.MaxProperties = codes "maxProperties"
word_text word.Required = codes "required"
word_text word.AdditionalProperties = codes "additionalProperties"
word_text word.Properties = codes "properties"
word_text word.Items = codes "items"
word_text word.AllOf = codes "allOf"
word_text word.AnyOf = codes "anyOf"
word_text word.OneOf = codes "oneOf"
word_text word.Not = codes "not"

-- ---- the first broken rule

abbrev pub breach : ℕ → Lines → Breach
breach rule shows = record { rule = rule; shows = shows }

abbrev pub broken : ℕ → Option Lines → Option Breach
broken rule None = None
broken rule (Some shows) = Some (breach rule shows)

abbrev pub or_else : Option Breach → Option Breach → Option Breach
or_else None c = c
or_else (Some b) c = Some b

-- of rules with what they show, the first that is broken
abbrev pub first_of : List (ℕ × Option Lines) → Option Breach
first_of [] = None
first_of (r ∷ rs) = or_else (broken r.0 r.1) (first_of rs)

-- of two breaches the one of the lesser rule, and the first of two of one rule
abbrev pub lesser : Breach → Breach → Breach
lesser b c = if nat_lt c.rule b.rule then c else b

abbrev pub earlier : Option Breach → Option Breach → Option Breach
earlier None c = c
earlier (Some b) None = Some b
earlier (Some b) (Some c) = Some (lesser b c)

-- the same of many, after one
abbrev pub earliest : Option Breach → List (Option Breach) → Option Breach
earliest b [] = b
earliest b (c ∷ cs) = earliest (earlier b c) cs

-- the first rule that a field breaks: those on its name, its places, its condition and its bodies
abbrev pub places_breach : Pair → Option Breach
places_breach p = or_else (broken 7 (one_place_rule p (codes "location"))) (or_else (broken 7 (one_place_rule p (codes "location_rv32"))) (broken 7 (one_place_rule p (codes "location_rv64"))))

abbrev pub bodies_breach : Pair → Option Breach
bodies_breach p = or_else (broken 9 (field_body_rule p (codes "type()"))) (or_else (broken 9 (field_body_rule p (codes "reset_value()"))) (broken 9 (field_body_rule p (codes "sw_write(csr_value)"))))

abbrev pub field_breach : Pair → Option Breach
field_breach p =
    or_else (broken 4 (first_unfit is_field_name (p.key ∷ []))) (or_else (places_breach p) (or_else (broken 8 (condition_rule p.value (codes "definedBy"))) (or_else (bodies_breach p) None)))

abbrev pub fields_breach : List Pair → Option Breach
fields_breach ps = earliest None (map field_breach ps)

-- the rules on a text of functions
abbrev pub functions_rules : List ℕ → List (ℕ × Option Lines)
functions_rules source = (4, declared_rule source) ∷ (9, functions_rule source) ∷ []

-- the rules on an entry of a kind behind those on its own name, in their order
abbrev pub kind_rules : Kind → Tree → List (ℕ × Option Lines)
kind_rules Extension t = (5, version_rule t) ∷ (8, condition_rule t (codes "requirements")) ∷ []
kind_rules Parameter t = (6, domain_rule t) ∷ (8, condition_rule t (codes "definedBy")) ∷ (8, condition_rule t (codes "requirements")) ∷ []
kind_rules Instruction t =
    (4, variables_rule t) ∷ (7, match_rule t) ∷ (8, condition_rule t (codes "definedBy"))
    ∷ (9, body_rule (codes "operation()") (text_at t (codes "operation()"))) ∷ []
kind_rules Csr t = (8, condition_rule t (codes "definedBy")) ∷ []
kind_rules Functions t = functions_rules (text_at t (codes "body"))
kind_rules Config t =
    (8, members_rule t (codes "mandatory_extensions")) ∷ (8, members_rule t (codes "prohibited_extensions"))
    ∷ (8, implemented_rule t (codes "implemented_extensions")) ∷ []

-- the first of them that is broken, among those on the fields of a register too
abbrev pub kind_breach : Kind → Tree → Option Breach
kind_breach Extension t = first_of (kind_rules Extension t)
kind_breach Parameter t = first_of (kind_rules Parameter t)
kind_breach Instruction t = first_of (kind_rules Instruction t)
kind_breach Csr t = earlier (first_of (kind_rules Csr t)) (fields_breach (pairs_at t (codes "fields")))
kind_breach Functions t = first_of (kind_rules Functions t)
kind_breach Config t = first_of (kind_rules Config t)

-- the first broken rule on the tree that a row's text spells
abbrev pub first_breach : Row → Tree → Option Breach
first_breach row t = or_else (broken 3 (name_rule row.name t)) (or_else (broken 4 (alphabet_rule row.kind t)) (kind_breach row.kind t))

-- the first broken rule of a row, with its lines: the text spells a tree, the tree meets its kind's schema, and then
-- the rules on the tree
pub data FirstBroken (row : Row) (b : Breach) : Type 0 where
  unspelled : (n : ℕ) (mark : Option Mark) → IsLeast (lines_of row.text) n → HasMark (lines_of row.text) n mark → b ≡ breach 1 (fault_line n mark ∷ []) → FirstBroken row b
  unfit : (t : Tree) (path : List ℕ) (w : Word) → Spelled row.text t → FirstFault (schema_of row.kind ∷ []) t path w → b ≡ breach 2 (path ∷ word_text w ∷ []) → FirstBroken row b
  wrong : (t : Tree) → Spelled row.text t → meets (schema_of row.kind) t ≡ true → first_breach row t ≡ Some b → FirstBroken row b

-- the row breaks no rule, and gives the entry
pub record Gives (row : Row) (e : Entry) : Type 0 where
  pub tree : Tree
  pub spelled : Spelled row.text tree
  pub meets_schema : meets (schema_of row.kind) tree ≡ true
  pub unbroken : first_breach row tree ≡ None
  pub is : e ≡ entry_of row.kind tree

abbrev pub fault_of : Breach → EntryFault
fault_of b = Broken b.rule b.shows

-- the answer is this one, or that there was no memory
abbrev pub IsOrMemory : Result Entry EntryFault → Result Entry EntryFault → Type 0
IsOrMemory expected answer = (answer ≡ expected) ⊎ (answer ≡ Err Memory)

abbrev pub IsRefusal : Breach → Result Entry EntryFault → Type 0
IsRefusal b answer = IsOrMemory (Err (fault_of b)) answer

-- what is answered of a row
abbrev pub IsAnswer : Row → Result Entry EntryFault → Type 0
IsAnswer row (Ok e) = Gives row e
IsAnswer row (Err Memory) = Unit {0}
IsAnswer row (Err (Broken rule shows)) = FirstBroken row (breach rule shows)
