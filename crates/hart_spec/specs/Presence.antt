-- When entries are present, and which instructions a word can be.
use Rattle.std.specs.Prelude.{◌≡◌, ◌==◌, ◌+◌, ◌&&◌, ◌||◌, Bool, true, false, ℕ, List, [], ◌∷◌, filter, find, length, IsTrue, ◌↔◌, Contains, Option, None, Some, is_some}
use Rattle.std.specs.Int.{bit_at}
use Rattle.std.specs.List.{AllAdjacentBelow}
use Rattle.std.specs.Cmp.Lexicographic.{slice_cmp}
use Rattle.std.specs.Ordering.{nat_cmp, is_lt}
use Rattle.udb_base.specs.declared.names.Name.{Name}
use Rattle.udb_base.specs.declared.refutations.Partial.{Partial}
use Rattle.udb_base.specs.declared.spaces.Space.{Space}
use Rattle.udb_base.specs.declared.spaces.Full.{Full}
use Rattle.udb_spec.specs.Conditions.{holds, present_among}
use Rattle.udb_spec.specs.Spaces.{mxlen, Completes}
use Rattle.idl_tree.specs.declared.programs.FieldBodies.{FieldBodies}
use Rattle.entry_tree.specs.declared.ExtensionEntry.{ExtensionEntry}
use Rattle.entry_tree.specs.declared.ParamEntry.{ParamEntry}
use Rattle.entry_tree.specs.declared.Encoding.{Encoding}
use Rattle.entry_tree.specs.declared.InstructionEntry.{InstructionEntry}
use Rattle.entry_tree.specs.declared.CsrEntry.{CsrEntry}
use Rattle.idl_spec.specs.Fields.{is_for, place_for}

-- an extension is present where the configuration has a version of it
abbrev pub has_extension : Space → Full → ExtensionEntry → Bool
has_extension space full entry = present_among space.extensions full.extensions entry.name []

abbrev pub has_parameter : Space → Full → ParamEntry → Bool
has_parameter space full entry = holds space full entry.defined

abbrev pub has_csr : Space → Full → CsrEntry → Bool
has_csr space full entry = holds space full entry.defined

-- a field of a present CSR, with a place for the width of the registers
abbrev pub has_field : Space → Full → CsrEntry → FieldBodies → Bool
has_field space full entry field =
    has_csr space full entry
    && (holds space full field.present && is_some (place_for (mxlen space full) field.places))

-- the encoding that an instruction has for a width of the registers
abbrev pub encoding_for : ℕ → InstructionEntry → Option Encoding
encoding_for registers entry = find (λ one. is_for registers one.base) entry.encodings

abbrev pub suits_base : ℕ → Option ℕ → Bool
suits_base registers None = true
suits_base registers (Some base) = base == registers

unfoldable pub has_instruction : Space → Full → InstructionEntry → Bool
has_instruction space full entry =
    holds space full entry.defined && (suits_base (mxlen space full) entry.base && is_some (encoding_for (mxlen space full) entry))

-- ---- the word agrees with the fixed digits of an encoding, the highest bit first

-- `0` is 48, `1` is 49 and `-` is 45
abbrev pub digit_agrees : ℕ → ℕ → Bool
digit_agrees digit bit = (digit == 45) || (digit == 48 + bit)

abbrev pub digits_agree : List ℕ → ℕ → Bool
digits_agree [] word = true
digits_agree (digit ∷ digits) word =
    digit_agrees digit (bit_at word (length digits)) && digits_agree digits word

abbrev pub agrees : Option Encoding → ℕ → Bool
agrees None word = false
agrees (Some one) word = digits_agree one.digits word

unfoldable pub matches : Space → Full → InstructionEntry → ℕ → Bool
matches space full entry word = agrees (encoding_for (mxlen space full) entry) word

-- ---- what a word can be

abbrev pub is_picked : Space → Full → ℕ → InstructionEntry → Bool
is_picked space full word entry = has_instruction space full entry && matches space full entry word

-- the present instructions that match a word under one full configuration
unfoldable pub picked : Space → Full → List InstructionEntry → ℕ → List InstructionEntry
picked space full entries word = filter (is_picked space full word) entries

-- the instruction of a name is present under some completion that it matches
abbrev pub CanBe : Space → Partial → List InstructionEntry → ℕ → Name → Type 0
CanBe space part entries word name =
    (entry : InstructionEntry) × (full : Full) × Contains entries entry ×
    (entry.name ≡ name) × Completes space part full × IsTrue (is_picked space full word entry)

-- names are ordered by their bytes
abbrev pub name_lt : Name → Name → Bool
name_lt a b = is_lt (slice_cmp nat_cmp a b)

-- the names of all such instructions, each once, in their order
pub record Picks (space : Space) (part : Partial) (entries : List InstructionEntry) (word : ℕ)
    (names : List Name) : Type 0 where
  pub rising : AllAdjacentBelow (λ a b. IsTrue (name_lt a b)) names (length names)
  pub each : (name : Name) → Contains names name ↔ CanBe space part entries word name
