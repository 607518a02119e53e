-- What is shown means under the shown program what the entries mean under theirs, under every
-- completion and from every state.
use Rattle.std.specs.Prelude.{◌≡◌, ◌≢◌, ◌<◌, ◌^◌, IsTrue, ℕ, List, map, Option, None, All, is_some}
use Rattle.udb_base.specs.declared.spaces.Space.{Space}
use Rattle.udb_base.specs.declared.spaces.Full.{Full}
use Rattle.udb_base.specs.declared.refutations.Partial.{Partial}
use Rattle.udb_spec.specs.Spaces.{Completes, mxlen}
use Rattle.idl_tree.specs.declared.statements.Stmt.{Stmt}
use Rattle.idl_tree.specs.declared.programs.BitPart.{BitPart}
use Rattle.idl_tree.specs.declared.programs.CsrBody.{CsrBody}
use Rattle.idl_tree.specs.declared.programs.Program.{Program}
use Rattle.idl_spec.specs.Harts.{State, stuck}
use Rattle.idl_spec.specs.Fields.{layout, read_csr}
use Rattle.idl_spec.specs.Programs.{mean, as_operation, IsState, field_type, write_csr, reset_number}
use Rattle.entry_tree.specs.declared.InstructionEntry.{InstructionEntry}
use Rattle.manual_spec.specs.declared.manuals.Shown.{Shown}
use Rattle.manual_spec.specs.declared.manuals.Shown.TheVariants as s
use Rattle.manual_spec.specs.declared.manuals.Part.{Part}
use Rattle.manual_spec.specs.declared.manuals.Manual.{Manual}
use Rattle.manual_spec.specs.Entries.{Entries, space_of, program_of, csr_body, HasInstruction, HasCsr}
use Rattle.manual_spec.specs.ShownProgram.{csr_shown, shown_program}

-- the programs under which an entry's body and what is shown of it mean what they mean
pub record Programs : Type 0 where
  pub whole : Program
  pub shown : Program

-- ---- instructions

-- the same outcome, which is one: a shown body is never stuck
pub record SameMean (space : Space) (full : Full) (programs : Programs) (x : InstructionEntry)
    (shown : List Stmt) (state : State) : Type 0 where
  pub same :
      mean space full programs.shown as_operation (record x.operation { statements = shown }) state
      ≡ mean space full programs.whole as_operation x.operation state
  pub never_stuck : mean space full programs.shown as_operation (record x.operation { statements = shown }) state ≢ stuck

-- the shown statements mean what the entry's do, wherever a completion has the instruction
abbrev pub KeepsMean : Space → Partial → Programs → InstructionEntry → List Stmt → Type 0
KeepsMean space part programs x shown =
    (full : Full) → Completes space part full → HasInstruction space full x →
    (state : State) → IsState space full programs.whole state
    → SameMean space full programs x shown state

-- ---- CSRs

-- the present fields with their bits
abbrev pub field_places : Space → Full → CsrBody → List (List ℕ × BitPart)
field_places space full csr = map (λ p. (p.field.name, p.bits)) (layout space full csr)

-- the same state is left, and there is one
pub record SameWrite (space : Space) (full : Full) (programs : Programs) (x shown : CsrBody)
    (number : ℕ) (state : State) : Type 0 where
  pub same : write_csr space full programs.shown shown number state
      ≡ write_csr space full programs.whole x number state
  pub never_stuck : write_csr space full programs.shown shown number state ≢ None

-- the same values, and each is one
pub record SameValues {A : Type 0} (whole shown : List (Option A)) : Type 0 where
  pub same : shown ≡ whole
  pub each : All (λ o. IsTrue (is_some o)) shown

-- a CSR is laid out, read and written alike, and its fields have the same types and reset values
pub record KeepsCsr (space : Space) (full : Full) (programs : Programs)
    (x shown : CsrBody) : Type 0 where
  pub places : field_places space full shown ≡ field_places space full x
  pub reads : (s : State) → IsState space full programs.whole s
      → read_csr space full shown s ≡ read_csr space full x s
  pub writes : (s : State) → IsState space full programs.whole s
      → (n : ℕ) → n < 2 ^ mxlen space full → SameWrite space full programs x shown n s
  pub types : SameValues (map (field_type space full programs.whole) (layout space full x))
      (map (field_type space full programs.shown) (layout space full shown))
  pub resets : SameValues (map (reset_number space full programs.whole) (layout space full x))
      (map (reset_number space full programs.shown) (layout space full shown))

-- ---- manuals

abbrev pub programs_of : Entries → List Part → Programs
programs_of entries parts =
    record { whole = program_of entries; shown = shown_program entries parts }

abbrev pub FaithfulShown : Entries → Partial → List Part → List ℕ → Shown → Type 0
FaithfulShown entries part parts name (s.Instruction matches variables body) =
    All (λ x. x.name ≡ name → KeepsMean (space_of entries) part (programs_of entries parts) x body.statements) entries.instructions
FaithfulShown entries part parts name (s.Csr register fields) =
    All (λ x. x.name ≡ name → (full : Full) → Completes (space_of entries) part full → HasCsr (space_of entries) full x →
    KeepsCsr (space_of entries) full (programs_of entries parts) (csr_body x) (csr_shown parts (csr_body x)))
    entries.csrs
FaithfulShown entries part parts name _ = Unit {0}

abbrev pub Faithful : Entries → Partial → Manual → Type 0
Faithful entries part manual =
    All (λ p. FaithfulShown entries part manual.parts p.name p.shown) manual.parts
