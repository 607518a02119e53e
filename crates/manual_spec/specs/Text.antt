-- The text of a manual, by lines. The text of CSRs and functions comes with their entries.
use Rattle.std.specs.Prelude.{◌++◌, ◌==◌, ℕ, List, [], ◌∷◌, map, length, codes, if◌then◌else◌}
use Rattle.std.specs.List.{flat_map}
use Rattle.std.specs.Fmt.{decimal}
use Rattle.udb_base.specs.declared.spaces.Space.{Space}
use Rattle.udb_base.specs.declared.spaces.Full.{Full}
use Rattle.idl_tree.specs.declared.programs.Body.{Body}
use Rattle.udb_base.specs.Lines.{text_of_lines}
use Rattle.idl_tree.specs.Print.{body_lines}
use Rattle.manual_spec.specs.declared.manuals.PartText.{PartText}
use Rattle.manual_spec.specs.declared.manuals.Shown.{Shown}
use Rattle.manual_spec.specs.declared.manuals.Shown.TheVariants as s
use Rattle.manual_spec.specs.declared.manuals.Part.{Part}
use Rattle.manual_spec.specs.declared.manuals.Manual.{Manual}
use Rattle.udb_spec.specs.ProofText.{full_lines}

abbrev pub codes_all : List ℕ
codes_all = codes "all"

abbrev pub codes_rv32 : List ℕ
codes_rv32 = codes "RV32"

abbrev pub codes_rv64 : List ℕ
codes_rv64 = codes "RV64"

-- a byte before the first of the lines
abbrev pub onto_first : ℕ → List (List ℕ) → List (List ℕ)
onto_first b [] = (b ∷ []) ∷ []
onto_first b (l ∷ ls) = (b ∷ l) ∷ ls

-- the lines of a text, split at line feeds; a last empty line is dropped
abbrev pub lines_of : List ℕ → List (List ℕ)
lines_of [] = []
lines_of (b ∷ bs) = if b == 10 then [] ∷ lines_of bs else onto_first b (lines_of bs)

-- `// completion <n>`, and the lines of the completion after `// `
abbrev pub completion_lines : Space → Full → List (List ℕ)
completion_lines space full =
    (codes "// completion " ++ decimal (length (full_lines space full))) ∷ map (λ l. codes "// " ++ l) (full_lines space full)

-- `// text <a> <b> <c>`: how many lines each text has
abbrev pub text_counts : PartText → List ℕ
text_counts text =
    codes "// text " ++ (decimal (length text.long_name)
    ++ (32 ∷ decimal (length text.description) ++ (32 ∷ decimal (length text.assembly))))

-- these numbers, then the lines
abbrev pub text_lines : PartText → List (List ℕ)
text_lines text = text_counts text ∷ text.long_name ++ (text.description ++ text.assembly)

abbrev pub table_line : List ℕ
table_line = codes "|==="

abbrev pub table_lines : List (List ℕ) → List (List ℕ)
table_lines rows = table_line ∷ map (λ row. codes "| " ++ row) rows ++ table_line ∷ []

-- `// body <k>` and a source block of k lines
abbrev pub source_lines : List (List ℕ) → List (List ℕ)
source_lines lines =
    (codes "// body " ++ decimal (length lines)) ∷ codes "[source,idl]" ∷ codes "----" ∷ lines ++ codes "----" ∷ []

-- the tables of an instruction and its body
abbrev pub encoding_lines : List (List ℕ) → List (List ℕ) → Body → List (List ℕ)
encoding_lines matches variables body = table_lines matches ++ (table_lines variables ++ source_lines (body_lines body))

abbrev pub shown_lines : Shown → List (List ℕ)
shown_lines (s.Extension versions) = table_lines versions
shown_lines (s.Parameter values) = table_lines values
shown_lines (s.Instruction matches variables body) = encoding_lines matches variables body
shown_lines (s.Csr register fields) = []
shown_lines (s.Functions functions) = []

abbrev pub shown_kind : Shown → List ℕ
shown_kind (s.Extension versions) = codes "extension"
shown_kind (s.Parameter values) = codes "parameter"
shown_kind (s.Instruction matches variables body) = codes "instruction"
shown_kind (s.Csr register fields) = codes "csr"
shown_kind (s.Functions functions) = codes "functions"

-- `== <kind> <name>`
abbrev pub part_heading : Part → List ℕ
part_heading part = codes "== " ++ (shown_kind part.shown ++ (32 ∷ part.name))

-- an empty line, the heading, a completion that has the entry, its texts, and what it shows
abbrev pub part_lines : Space → Part → List (List ℕ)
part_lines space part =
    [] ∷ part_heading part ∷ completion_lines space part.completion ++ (text_lines part.text ++ shown_lines part.shown)

abbrev pub parts_lines : Space → List Part → List (List ℕ)
parts_lines space = flat_map (part_lines space)

abbrev pub manual_lines : Space → Manual → List (List ℕ)
manual_lines space manual =
    (codes "= Manual of " ++ manual.config)
    ∷ completion_lines space manual.completion
    ++ ((codes "// shown " ++ decimal (length manual.parts)) ∷ parts_lines space manual.parts)

abbrev pub manual_text : Space → Manual → List ℕ
manual_text space manual = text_of_lines (manual_lines space manual)
