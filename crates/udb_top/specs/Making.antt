-- The manual that is made of a bundle, from a completion and the statements that are shown.
use Rattle.std.specs.Prelude.{◌≡◌, ◌++◌, ℕ, List, [], ◌∷◌, map, codes}
use Rattle.udb_base.specs.declared.spaces.Domain.{Domain}
use Rattle.udb_base.specs.declared.spaces.Domain.TheVariants.{Flags}
use Rattle.udb_base.specs.declared.spaces.Full.{Full}
use Rattle.idl_tree.specs.declared.statements.Stmt.{Stmt}
use Rattle.entry_tree.specs.declared.ParamEntry.{ParamEntry}
use Rattle.entry_tree.specs.declared.Encoding.{Encoding}
use Rattle.entry_tree.specs.declared.InstructionEntry.{InstructionEntry}
use Rattle.first_spec.specs.declared.bundle.FirstBundle.{FirstBundle}
use Rattle.first_spec.specs.Bundle.{digits_among}
use Rattle.first_prune.specs.Known.{entries_of, partial_of}
use Rattle.manual_spec.specs.declared.manuals.PartText.{PartText}
use Rattle.manual_spec.specs.declared.manuals.Shown.{Shown}
use Rattle.manual_spec.specs.declared.manuals.Shown.TheVariants.{Parameter, Instruction}
use Rattle.manual_spec.specs.declared.manuals.Part.{Part}
use Rattle.manual_spec.specs.declared.manuals.Manual.{Manual}
use Rattle.manual_spec.specs.Entries.{space_of}
use Rattle.manual_spec.specs.Covers.{Covers}
use Rattle.manual_spec.specs.Faithful.{Faithful}
use Rattle.manual_spec.specs.Settled.{Settled}
use Rattle.manual_spec.specs.Text.{manual_text}

abbrev pub one_line_each : List ℕ → List ℕ → PartText
one_line_each long_name description = record { long_name = long_name ∷ []; description = description ∷ []; assembly = [] }

abbrev pub value_rows : Domain → List (List ℕ)
value_rows Flags = codes "false" ∷ codes "true" ∷ []
value_rows _ = codes "32" ∷ []

abbrev pub param_part : Full → ParamEntry → Part
param_part full x =
    record { name = x.name; completion = full; text = one_line_each x.long_name x.description; shown = Parameter (value_rows x.domain) }

abbrev pub encoding_rows : List Encoding → List (List ℕ)
encoding_rows encodings = (codes "all | " ++ digits_among encodings) ∷ []

abbrev pub shown_instruction : InstructionEntry → List Stmt → Shown
shown_instruction x shown = Instruction (encoding_rows x.encodings) [] (record { variables = []; statements = shown })

abbrev pub instruction_part : Full → InstructionEntry → List Stmt → Part
instruction_part full x shown =
    record {
      name = x.name;
      completion = full;
      text = one_line_each x.long_name x.description;
      shown = shown_instruction x shown;
    }

abbrev pub manual_with : FirstBundle → Full → List Stmt → Manual
manual_with x full shown =
    record {
      config = x.config.name;
      completion = full;
      parts = map (param_part full) x.params ++ instruction_part full x.instruction shown ∷ [];
    }

-- the manual of the bundle's configuration: it shows exactly what some completion has, with the full
-- outcomes, pruned as far as the configuration settles
pub record IsManual (x : FirstBundle) (manual : Manual) : Type 0 where
  pub covers : Covers (entries_of x) x.config.name (partial_of x.config) manual
  pub faithful : Faithful (entries_of x) (partial_of x.config) manual
  pub settled : Settled (entries_of x) (partial_of x.config) manual

-- the text of such a manual
pub record IsManualText (x : FirstBundle) (text : List ℕ) : Type 0 where
  pub manual : Manual
  pub is : IsManual x manual
  pub printed : text ≡ manual_text (space_of (entries_of x)) manual
