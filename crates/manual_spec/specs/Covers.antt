-- A manual shows exactly the entries that some completion has, each with such a completion.
use Rattle.std.specs.Prelude.{◌≡◌, ◌++◌, ◌==◌, true, false, ℕ, List, [], ◌∷◌, map, if◌then◌else◌}
use Rattle.std.specs.Fmt.{decimal}
use Rattle.udb_base.specs.declared.spaces.Domain.{Domain}
use Rattle.udb_base.specs.declared.spaces.Domain.TheVariants as d
use Rattle.udb_base.specs.declared.conditions.Value.TheVariants as v
use Rattle.udb_base.specs.declared.spaces.Space.{Space}
use Rattle.udb_base.specs.declared.spaces.Full.{Full}
use Rattle.udb_base.specs.declared.refutations.Partial.{Partial}
use Rattle.udb_spec.specs.Spaces.{Completes, mxlen}
use Rattle.idl_tree.specs.declared.programs.Base.{Base}
use Rattle.idl_tree.specs.declared.programs.Base.TheVariants as b
use Rattle.idl_tree.specs.declared.programs.BitPart.{BitPart}
use Rattle.idl_tree.specs.declared.programs.Variable.{Variable}
use Rattle.idl_tree.specs.declared.programs.Body.{Body}
use Rattle.entry_tree.specs.declared.ExtensionEntry.{ExtensionEntry}
use Rattle.entry_tree.specs.declared.ParamEntry.{ParamEntry}
use Rattle.entry_tree.specs.declared.Encoding.{Encoding}
use Rattle.entry_tree.specs.declared.InstructionEntry.{InstructionEntry}
use Rattle.manual_spec.specs.declared.manuals.PartText.{PartText}
use Rattle.manual_spec.specs.declared.manuals.Shown.TheVariants as s
use Rattle.manual_spec.specs.declared.manuals.Part.{Part}
use Rattle.manual_spec.specs.declared.manuals.Manual.{Manual}
use Rattle.udb_spec.specs.ProofText.{version_text, value_text}
use Rattle.idl_spec.specs.Fields.{is_for}
use Rattle.manual_spec.specs.Entries.{Entries, space_of, HasExtension, HasParam, HasInstruction}
use Rattle.manual_spec.specs.Text.{lines_of, codes_rv32, codes_rv64, codes_all}

-- a list of items as a manual shows it: those that some completion has, in order, each once
pub data Shows {X Y : Type 0} (Complete : Full → Type 0) (Has : Full → X → Type 0) (Is : X → Y → Type 0) : List X → List Y → Type 0 where
  none : Shows Complete Has Is [] []
  shown : {x : X} {y : Y} {xs : List X} {ys : List Y} → (full : Full) → Complete full → Has full x → Is x y → Shows Complete Has Is xs ys → Shows Complete Has Is (x ∷ xs) (y ∷ ys)
  left_out : {x : X} {xs : List X} {ys : List Y} → ((full : Full) → Complete full → Has full x → ⊥) → Shows Complete Has Is xs ys → Shows Complete Has Is (x ∷ xs) ys

-- the lines of an entry's texts
pub record IsText (long_name description assembly : List ℕ) (text : PartText) : Type 0 where
  pub long_lines : text.long_name ≡ lines_of long_name
  pub description_lines : text.description ≡ lines_of description
  pub assembly_lines : text.assembly ≡ lines_of assembly

-- a part's completion completes the configuration and has the entry
pub record HasCompletion {X : Type 0} (space : Space) (part : Partial) (Has : Full → X → Type 0) (x : X) (shown : Part) : Type 0 where
  pub completes : Completes space part shown.completion
  pub has : Has shown.completion x

-- an extension's versions, a line each
pub record IsExtensionPart (space : Space) (part : Partial) (x : ExtensionEntry) (shown : Part) : Type 0 where
  pub name : shown.name ≡ x.name
  pub text : IsText x.long_name x.description [] shown.text
  pub completion : HasCompletion space part (HasExtension space) x shown
  pub table : shown.shown ≡ s.Extension (map (λ l. version_text l.version) x.versions)

-- a parameter's values in the order of its domain
abbrev pub domain_lines : Domain → List (List ℕ)
domain_lines d.Flags = value_text (v.Flag false) ∷ value_text (v.Flag true) ∷ []
domain_lines (d.Numbers ns) = map (λ n. value_text (v.Number n)) ns
domain_lines (d.Range low high) = (decimal low ++ (32 ∷ 116 ∷ 111 ∷ 32 ∷ decimal high)) ∷ []
domain_lines (d.Words ws) = map (λ w. value_text (v.Word w)) ws

pub record IsParamPart (space : Space) (part : Partial) (x : ParamEntry) (shown : Part) : Type 0 where
  pub name : shown.name ≡ x.name
  pub text : IsText x.long_name x.description [] shown.text
  pub completion : HasCompletion space part (HasParam space) x shown
  pub table : shown.shown ≡ s.Parameter (domain_lines x.domain)

abbrev pub base_text : Base → List ℕ
base_text b.All = codes_all
base_text b.Rv32 = codes_rv32
base_text b.Rv64 = codes_rv64

-- a row `<base> | <match>`
abbrev pub match_row : Encoding → List ℕ
match_row e = base_text e.base ++ (32 ∷ 124 ∷ 32 ∷ e.digits)

abbrev pub bit_part_text : BitPart → List ℕ
bit_part_text p = if p.high == p.low then decimal p.high else decimal p.high ++ (45 ∷ decimal p.low)

abbrev pub location_text : List BitPart → List ℕ
location_text [] = []
location_text (p ∷ []) = bit_part_text p
location_text (p ∷ q ∷ ps) = bit_part_text p ++ (44 ∷ location_text (q ∷ ps))

-- a row `<base> | <variable> | <location> | <shift>`
abbrev pub variable_row : Variable → List ℕ
variable_row x = base_text x.base ++ (32 ∷ 124 ∷ 32 ∷ x.name ++ (32 ∷ 124 ∷ 32 ∷ location_text x.location ++ (32 ∷ 124 ∷ 32 ∷ decimal x.shift)))

-- a full configuration has a row where it has the instruction and its MXLEN fits the row's base
abbrev pub HasRow : Space → InstructionEntry → Base → Full → Type 0
HasRow space x base full = HasInstruction space full x × (is_for (mxlen space full) base ≡ true)

pub record IsInstructionPart (space : Space) (part : Partial) (x : InstructionEntry) (shown : Part) : Type 0 where
  pub name : shown.name ≡ x.name
  pub text : IsText x.long_name x.description x.assembly shown.text
  pub completion : HasCompletion space part (HasInstruction space) x shown
  pub matches : List (List ℕ)
  pub match_rows : Shows (Completes space part) (λ full e. HasRow space x e.base full) (λ e row. row ≡ match_row e) x.encodings matches
  pub variables : List (List ℕ)
  pub variable_rows : Shows (Completes space part) (λ full e. HasRow space x e.base full) (λ e row. row ≡ variable_row e) x.operation.variables variables
  pub body : Body
  pub statements_alone : body.variables ≡ []
  pub table : shown.shown ≡ s.Instruction matches variables body

-- the parts of each kind, in the order of kinds; CSRs and functions join when their text is defined
pub record ShowsEntries (space : Space) (part : Partial) (entries : Entries) (parts : List Part) : Type 0 where
  pub extensions : List Part
  pub shows_extensions : Shows (Completes space part) (HasExtension space) (IsExtensionPart space part) entries.extensions extensions
  pub params : List Part
  pub shows_params : Shows (Completes space part) (HasParam space) (IsParamPart space part) entries.params params
  pub instructions : List Part
  pub shows_instructions : Shows (Completes space part) (HasInstruction space) (IsInstructionPart space part) entries.instructions instructions
  pub in_order : parts ≡ extensions ++ (params ++ instructions)

-- the manual of the configuration of that name: its completion, and a part for each entry that some completion has
pub record Covers (entries : Entries) (config : List ℕ) (part : Partial) (manual : Manual) : Type 0 where
  pub name : manual.config ≡ config
  pub completion : Completes (space_of entries) part manual.completion
  pub parts : ShowsEntries (space_of entries) part entries manual.parts
