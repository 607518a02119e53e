-- What it is that tables break a rule at a site, and what is then shown, rule by rule. The tables are a list of rows.
use Rattle.std.specs.Prelude.{◌≡◌, true, ℕ, List, [], ◌∷◌, Option, None, Some, Contains}
use Rattle.std.specs.List.{AllZip}
use Rattle.yaml_spec.specs.declared.tree.Tree.{Tree}
use Rattle.yaml_spec.specs.declared.tree.Mark.{Mark}
use Rattle.yaml_spec.specs.Texts.{lines_of, Spelled}
use Rattle.yaml_spec.specs.Faults.{IsLeast, HasMark}
use Rattle.udb_schema.specs.declared.words.Word.{Word}
use Rattle.udb_schema.specs.Meets.{meets}
use Rattle.udb_schema.specs.Faults.{FirstFault}
use Rattle.udb_base.specs.declared.kinds.Kind.{Kind}
use Rattle.udb_base.specs.declared.kinds.Kind.TheVariants as kind
use Rattle.udb_base.specs.declared.rows.Row.{Row}
use Rattle.udb_base.specs.declared.conditions.Cond.{Cond}
use Rattle.udb_base.specs.declared.conditions.Cond.TheVariants as c
use Rattle.udb_base.specs.declared.refutations.Partial.{Partial}
use Rattle.udb_base.specs.declared.refutations.Proof.{Proof}
use Rattle.udb_base.specs.declared.spaces.Space.{Space}
use Rattle.udb_base.specs.declared.spaces.Full.{Full}
use Rattle.udb_spec.specs.Spaces.{Completes}
use Rattle.udb_spec.specs.Refutes.{refutes}
use Rattle.udb_spec.specs.ProofText.{proof_lines}
use Rattle.udb_lawful.specs.Misfit.{first_misfit}
use Rattle.udb_entry.specs.declared.answers.Entry.{Entry}
use Rattle.udb_entry.specs.declared.answers.Entry.TheVariants.{Extension, Param, Instruction, Csr, Functions, Config}
use Rattle.entry_form.specs.Forms.{schema_of}
use Rattle.udb_entry.specs.Rules.{Lines, name_rule, alphabet_rule}
use Rattle.udb_entry.specs.First.{fault_line, word_text, Gives}
use Rattle.db_spec.specs.Rules.{Rule, is_spelled, meets_schema, has_name, has_alphabet, versions_rise, domain_is_sound, encodings_are_formed, conditions_are_read, bodies_are_read, names_are_known, functions_are_declared_once, addresses_are_apart, words_are_known, kinds_fit, widths_fit, slices_fit, parts_are_present, cost_is_bounded, order_is_kept, encodings_are_apart, fields_are_apart, some_full, has_completion}
use Rattle.db_spec.specs.Kinds.{kind_version_rule, kind_domain_rule, kind_condition_rule}
use Rattle.db_spec.specs.Sites.{Site, entry, database}
use Rattle.db_spec.specs.Entries.{kind_of, name_of, space_of, conditions_of, width_name, DependsOnWidth, HasWidths, unconfigured, part_of}

-- ---- where

-- the row of a kind and a name
pub record IsRowAt (rows : List Row) (kind : Kind) (name : List ℕ) (row : Row) : Type 0 where
  pub among : Contains rows row
  pub of_kind : row.kind ≡ kind
  pub of_name : row.name ≡ name

abbrev pub AtRow : List Row → Site → (Row → Type 0) → Type 0
AtRow rows database P = ⊥
AtRow rows (entry kind name) P = (row : Row) × IsRowAt rows kind name row × P row

-- the rows break no rule that is asked of each by itself, and give these entries in their order
abbrev pub Give : List Row → List Entry → Type 0
Give rows entries = AllZip Gives rows entries

-- the entry of a kind and a name among the entries that the rows give
pub record IsEntryAt (rows : List Row) (kind : Kind) (name : List ℕ) (entries : List Entry) (e : Entry) : Type 0 where
  pub give : Give rows entries
  pub among : Contains entries e
  pub of_kind : kind_of e ≡ kind
  pub of_name : name_of e ≡ name

-- what is said of an entry and the space of all
abbrev pub AtEntry : List Row → Site → (Space → Entry → Type 0) → Type 0
AtEntry rows database P = ⊥
AtEntry rows (entry kind name) P = (entries : List Entry) × (e : Entry) × IsEntryAt rows kind name entries e × P (space_of entries) e

-- what is said of the space alone
abbrev pub AtDatabase : List Row → Site → (Space → Type 0) → Type 0
AtDatabase rows database P = (entries : List Entry) × Give rows entries × P (space_of entries)
AtDatabase rows (entry kind name) P = ⊥

-- ---- the texts, one by one

-- 1: the text is spelled in the YAML profile
pub record IsUnspelled (row : Row) (shows : Lines) : Type 0 where
  pub line : ℕ
  pub mark : Option Mark
  pub least : IsLeast (lines_of row.text) line
  pub has_mark : HasMark (lines_of row.text) line mark
  pub shown : shows ≡ fault_line line mark ∷ []

-- 2: its tree meets the schema of its kind
pub record IsUnfit (row : Row) (shows : Lines) : Type 0 where
  pub tree : Tree
  pub spelled : Spelled row.text tree
  pub path : List ℕ
  pub word : Word
  pub fault : FirstFault (schema_of row.kind ∷ []) tree path word
  pub shown : shows ≡ path ∷ word_text word ∷ []

-- a rule on the tree, where it meets its schema
pub record BreaksTree (row : Row) (rule : Tree → Option Lines) (shows : Lines) : Type 0 where
  pub tree : Tree
  pub spelled : Spelled row.text tree
  pub fits : meets (schema_of row.kind) tree ≡ true
  pub broken : rule tree ≡ Some shows

-- 3: the name in the text is the row's
abbrev pub HasOtherName : Row → Lines → Type 0
HasOtherName row shows = BreaksTree row (name_rule row.name) shows

-- 4: names have their alphabet
abbrev pub HasOtherAlphabet : Row → Lines → Type 0
HasOtherAlphabet row shows = BreaksTree row (alphabet_rule row.kind) shows

-- 5: versions can be read and rise strictly
abbrev pub HasWrongVersion : Row → Lines → Type 0
HasWrongVersion row shows = BreaksTree row (kind_version_rule row.kind) shows

-- 6: a domain has no value twice, and no low end above its high end
abbrev pub HasWrongDomain : Row → Lines → Type 0
HasWrongDomain row shows = BreaksTree row (kind_domain_rule row.kind) shows

-- Instructions, CSRs and functions aren't examined yet. In the rules 7, 9 and 11 to 21 they add what they can break;
-- entries of the other kinds keep these rules.

-- 7: matches, variables and locations are well formed
abbrev pub HasWrongEncoding : Kind → Row → Lines → Type 0
HasWrongEncoding kind.Extension row shows = ⊥
HasWrongEncoding kind.Parameter row shows = ⊥
HasWrongEncoding kind.Instruction row shows = ⊥
HasWrongEncoding kind.Csr row shows = ⊥
HasWrongEncoding kind.Functions row shows = ⊥
HasWrongEncoding kind.Config row shows = ⊥

-- 8: conditions, requirements and members can be read
abbrev pub HasUnreadCondition : Row → Lines → Type 0
HasUnreadCondition row shows = BreaksTree row (kind_condition_rule row.kind) shows

-- 9: bodies can be read
abbrev pub HasUnreadBody : Kind → Row → Lines → Type 0
HasUnreadBody kind.Extension row shows = ⊥
HasUnreadBody kind.Parameter row shows = ⊥
HasUnreadBody kind.Instruction row shows = ⊥
HasUnreadBody kind.Csr row shows = ⊥
HasUnreadBody kind.Functions row shows = ⊥
HasUnreadBody kind.Config row shows = ⊥

-- ---- names in the read entries

-- 10: What conditions and configurations name is there, with values and tests of the domain's kind; what depends on MXLEN
-- has a parameter MXLEN with widths. The name is shown, of a condition the first that doesn't fit.
pub data HasUnknownName (space : Space) (e : Entry) (shows : Lines) : Type 0 where
  named : (cond : Cond) (name : List ℕ) → Contains (conditions_of e) cond → first_misfit space cond ≡ Some name → shows ≡ name ∷ [] → HasUnknownName space e shows
  no_width : DependsOnWidth e → (HasWidths space → ⊥) → shows ≡ width_name ∷ [] → HasUnknownName space e shows

-- 11: no function is declared twice or has a builtin's name
abbrev pub HasRepeatedFunction : Space → Entry → Lines → Type 0
HasRepeatedFunction space (Extension x) shows = ⊥
HasRepeatedFunction space (Param x) shows = ⊥
HasRepeatedFunction space (Instruction x) shows = ⊥
HasRepeatedFunction space (Csr x) shows = ⊥
HasRepeatedFunction space (Functions x) shows = ⊥
HasRepeatedFunction space (Config x) shows = ⊥

-- 12: no two CSRs of one address are present in one valid full configuration
abbrev pub HasSharedAddress : Space → Entry → Lines → Type 0
HasSharedAddress space (Extension x) shows = ⊥
HasSharedAddress space (Param x) shows = ⊥
HasSharedAddress space (Instruction x) shows = ⊥
HasSharedAddress space (Csr x) shows = ⊥
HasSharedAddress space (Functions x) shows = ⊥
HasSharedAddress space (Config x) shows = ⊥

-- ---- types of bodies

-- 13: each word of a body is known
abbrev pub HasUnknownWord : Space → Entry → Lines → Type 0
HasUnknownWord space (Extension x) shows = ⊥
HasUnknownWord space (Param x) shows = ⊥
HasUnknownWord space (Instruction x) shows = ⊥
HasUnknownWord space (Csr x) shows = ⊥
HasUnknownWord space (Functions x) shows = ⊥
HasUnknownWord space (Config x) shows = ⊥

-- 14: the kinds of its parts fit
abbrev pub HasMismatch : Space → Entry → Lines → Type 0
HasMismatch space (Extension x) shows = ⊥
HasMismatch space (Param x) shows = ⊥
HasMismatch space (Instruction x) shows = ⊥
HasMismatch space (Csr x) shows = ⊥
HasMismatch space (Functions x) shows = ⊥
HasMismatch space (Config x) shows = ⊥

-- 15: its widths are 1 to 128 where they are reached
abbrev pub HasWrongWidth : Space → Entry → Lines → Type 0
HasWrongWidth space (Extension x) shows = ⊥
HasWrongWidth space (Param x) shows = ⊥
HasWrongWidth space (Instruction x) shows = ⊥
HasWrongWidth space (Csr x) shows = ⊥
HasWrongWidth space (Functions x) shows = ⊥
HasWrongWidth space (Config x) shows = ⊥

-- 16: its slices lie within their operands
abbrev pub HasWrongSlice : Space → Entry → Lines → Type 0
HasWrongSlice space (Extension x) shows = ⊥
HasWrongSlice space (Param x) shows = ⊥
HasWrongSlice space (Instruction x) shows = ⊥
HasWrongSlice space (Csr x) shows = ⊥
HasWrongSlice space (Functions x) shows = ⊥
HasWrongSlice space (Config x) shows = ⊥

-- 17: what it names is present where it is reached
abbrev pub HasAbsentPart : Space → Entry → Lines → Type 0
HasAbsentPart space (Extension x) shows = ⊥
HasAbsentPart space (Param x) shows = ⊥
HasAbsentPart space (Instruction x) shows = ⊥
HasAbsentPart space (Csr x) shows = ⊥
HasAbsentPart space (Functions x) shows = ⊥
HasAbsentPart space (Config x) shows = ⊥

-- 18: its cost is within the limit
abbrev pub HasExcessCost : Space → Entry → Lines → Type 0
HasExcessCost space (Extension x) shows = ⊥
HasExcessCost space (Param x) shows = ⊥
HasExcessCost space (Instruction x) shows = ⊥
HasExcessCost space (Csr x) shows = ⊥
HasExcessCost space (Functions x) shows = ⊥
HasExcessCost space (Config x) shows = ⊥

-- 19: it calls what is declared before it
abbrev pub HasWrongOrder : Space → Entry → Lines → Type 0
HasWrongOrder space (Extension x) shows = ⊥
HasWrongOrder space (Param x) shows = ⊥
HasWrongOrder space (Instruction x) shows = ⊥
HasWrongOrder space (Csr x) shows = ⊥
HasWrongOrder space (Functions x) shows = ⊥
HasWrongOrder space (Config x) shows = ⊥

-- ---- encodings and fields

-- 20: no word is that of two instructions that are present in one valid full configuration
abbrev pub HasSharedWord : Space → Entry → Lines → Type 0
HasSharedWord space (Extension x) shows = ⊥
HasSharedWord space (Param x) shows = ⊥
HasSharedWord space (Instruction x) shows = ⊥
HasSharedWord space (Csr x) shows = ⊥
HasSharedWord space (Functions x) shows = ⊥
HasSharedWord space (Config x) shows = ⊥

-- 21: no two present fields of a present CSR share a bit, and none passes its length
abbrev pub HasSharedBit : Space → Entry → Lines → Type 0
HasSharedBit space (Extension x) shows = ⊥
HasSharedBit space (Param x) shows = ⊥
HasSharedBit space (Instruction x) shows = ⊥
HasSharedBit space (Csr x) shows = ⊥
HasSharedBit space (Functions x) shows = ⊥
HasSharedBit space (Config x) shows = ⊥

-- ---- full configurations

-- nothing completes the configuration; the lines are those of a proof which refutes that something does
pub record HasNoCompletion (space : Space) (part : Partial) (shows : Lines) : Type 0 where
  pub none : (full : Full) → Completes space part full → ⊥
  pub proof : Proof
  pub refuted : refutes space part c.Always proof ≡ true
  pub shown : shows ≡ proof_lines space proof

-- 23: a stored configuration has a completion
abbrev pub LacksCompletion : Space → Entry → Lines → Type 0
LacksCompletion space (Extension x) shows = ⊥
LacksCompletion space (Param x) shows = ⊥
LacksCompletion space (Instruction x) shows = ⊥
LacksCompletion space (Csr x) shows = ⊥
LacksCompletion space (Functions x) shows = ⊥
LacksCompletion space (Config x) shows = HasNoCompletion space (part_of space x) shows

-- ---- all rules

-- The rules from 10 on are asked of the entries that the rows give, so they stand only where the rows break no earlier
-- one. 22: there is a valid full configuration.
abbrev pub Breaks : List Row → Site → Rule → Lines → Type 0
Breaks rows site is_spelled shows = AtRow rows site (λ row. IsUnspelled row shows)
Breaks rows site meets_schema shows = AtRow rows site (λ row. IsUnfit row shows)
Breaks rows site has_name shows = AtRow rows site (λ row. HasOtherName row shows)
Breaks rows site has_alphabet shows = AtRow rows site (λ row. HasOtherAlphabet row shows)
Breaks rows site versions_rise shows = AtRow rows site (λ row. HasWrongVersion row shows)
Breaks rows site domain_is_sound shows = AtRow rows site (λ row. HasWrongDomain row shows)
Breaks rows site encodings_are_formed shows = AtRow rows site (λ row. HasWrongEncoding row.kind row shows)
Breaks rows site conditions_are_read shows = AtRow rows site (λ row. HasUnreadCondition row shows)
Breaks rows site bodies_are_read shows = AtRow rows site (λ row. HasUnreadBody row.kind row shows)
Breaks rows site names_are_known shows = AtEntry rows site (λ space e. HasUnknownName space e shows)
Breaks rows site functions_are_declared_once shows = AtEntry rows site (λ space e. HasRepeatedFunction space e shows)
Breaks rows site addresses_are_apart shows = AtEntry rows site (λ space e. HasSharedAddress space e shows)
Breaks rows site words_are_known shows = AtEntry rows site (λ space e. HasUnknownWord space e shows)
Breaks rows site kinds_fit shows = AtEntry rows site (λ space e. HasMismatch space e shows)
Breaks rows site widths_fit shows = AtEntry rows site (λ space e. HasWrongWidth space e shows)
Breaks rows site slices_fit shows = AtEntry rows site (λ space e. HasWrongSlice space e shows)
Breaks rows site parts_are_present shows = AtEntry rows site (λ space e. HasAbsentPart space e shows)
Breaks rows site cost_is_bounded shows = AtEntry rows site (λ space e. HasExcessCost space e shows)
Breaks rows site order_is_kept shows = AtEntry rows site (λ space e. HasWrongOrder space e shows)
Breaks rows site encodings_are_apart shows = AtEntry rows site (λ space e. HasSharedWord space e shows)
Breaks rows site fields_are_apart shows = AtEntry rows site (λ space e. HasSharedBit space e shows)
Breaks rows site some_full shows = AtDatabase rows site (λ space. HasNoCompletion space unconfigured shows)
Breaks rows site has_completion shows = AtEntry rows site (λ space e. LacksCompletion space e shows)
