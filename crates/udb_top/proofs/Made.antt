-- The manual that is made of a completion and of statements that keep the meaning and are settled.
use Rattle.std.proofs.Common.{◌≡◌, ◌++◌, ℕ, List, [], ◌∷◌, map, Result, Ok, Err, IfOk, refl, subst, sym, ap, ◌∙◌}
use Rattle.std.specs.Prelude.{All, IsTrue}
use Rattle.std.proofs.lemmas.List.Elements.{All-nil, All-cons, All-append, All-map}
use Rattle.udb_base.specs.declared.spaces.Space.{Space}
use Rattle.udb_base.specs.declared.spaces.Full.{Full}
use Rattle.udb_base.specs.Lists.{is_among}
use Rattle.udb_spec.specs.Conditions.{same_bytes}
use Rattle.idl_tree.specs.declared.statements.Stmt.{Stmt}
use Rattle.idl_tree.specs.declared.programs.Function.{Function}
use Rattle.entry_tree.specs.declared.ParamEntry.{ParamEntry}
use Rattle.entry_tree.specs.declared.InstructionEntry.{InstructionEntry}
use Rattle.first_spec.specs.declared.bundle.FirstBundle.{FirstBundle}
use Rattle.first_spec.specs.Bundle.{IsFirst}
use Rattle.first_prune.specs.Known.{entries_of, partial_of, no_program}
use Rattle.first_prune.specs.Bundles.{CompletesFirst, KeepsFirst, SettlesFirst}
use Rattle.manual_spec.specs.declared.manuals.Part.{Part}
use Rattle.manual_spec.specs.declared.manuals.Manual.{Manual}
use Rattle.manual_spec.specs.Entries.{space_of}
use Rattle.manual_spec.specs.ShownProgram.{shown_functions}
use Rattle.manual_spec.specs.Faithful.{KeepsMean, programs_of, FaithfulShown, Faithful}
use Rattle.manual_spec.specs.Settled.{SettlesEntry, SettledShown, reached_functions, Settled}
use Rattle.manual_spec.specs.Text.{manual_text}
use Rattle.udb_top.specs.Making.{param_part, instruction_part, manual_with, IsManual, IsManualText}
use Rattle.udb_top.proofs.Shown.{made_covers}

-- neither parameters nor instructions show functions
no_functions : (full : Full) (ps : List ParamEntry) (x : InstructionEntry) (shown : List Stmt) → shown_functions (map (param_part full) ps ++ instruction_part full x shown ∷ []) ≡ []
no_functions full [] x shown = refl
no_functions full (p ∷ ps) x shown = no_functions full ps x shown

module _ (x : FirstBundle) (full : Full) (shown : List Stmt) where
  abbrev parts : List Part
  parts = map (param_part full) x.params ++ instruction_part full x.instruction shown ∷ []

  -- both programs are empty
  keeps_shown : KeepsFirst x shown → KeepsMean (space_of (entries_of x)) (partial_of x.config) (programs_of (entries_of x) parts) x.instruction shown
  keeps_shown keeps =
      subst (λ (fs : List Function). KeepsMean (space_of (entries_of x)) (partial_of x.config)
      (record { whole = no_program; shown = record { functions = fs; csrs = [] } }) x.instruction shown)
      (sym (no_functions full x.params x.instruction shown)) keeps

  made_faithful : KeepsFirst x shown → Faithful (entries_of x) (partial_of x.config) (manual_with x full shown)
  made_faithful keeps =
      let P : Part → Type 0 = λ p. FaithfulShown (entries_of x) (partial_of x.config) parts p.name p.shown in
      let Q : InstructionEntry → Type 0 = λ i. i.name ≡ x.instruction.name → KeepsMean (space_of (entries_of x)) (partial_of x.config) (programs_of (entries_of x) parts) i shown in
      All-append P (map (param_part full) x.params) (instruction_part full x.instruction shown ∷ [])
      (All-map P (param_part full) x.params (λ k d l. tt))
      (All-cons P (instruction_part full x.instruction shown) [] (All-cons Q x.instruction [] (λ _. keeps_shown keeps) (All-nil Q)) (All-nil P))

  bodies_settled : SettlesFirst x shown → All (λ p. SettledShown (entries_of x) (partial_of x.config) p.name p.shown) parts
  bodies_settled settled =
      let P : Part → Type 0 = λ p. SettledShown (entries_of x) (partial_of x.config) p.name p.shown in
      let Q : InstructionEntry → Type 0 = λ i. i.name ≡ x.instruction.name → SettlesEntry (entries_of x) (partial_of x.config) i shown in
      All-append P (map (param_part full) x.params) (instruction_part full x.instruction shown ∷ [])
      (All-map P (param_part full) x.params (λ k d l. tt))
      (All-cons P (instruction_part full x.instruction shown) [] (All-cons Q x.instruction [] (λ _. settled) (All-nil Q)) (All-nil P))

  made_settled : SettlesFirst x shown → Settled (entries_of x) (partial_of x.config) (manual_with x full shown)
  made_settled settled =
      let P : Function → Type 0 = λ f. IsTrue (is_among same_bytes f.name (map (λ g. g.name) (reached_functions parts))) in
      record {
        bodies = bodies_settled settled;
        reaches = subst (All P) (sym (no_functions full x.params x.instruction shown)) (All-nil P);
      }

  pub made : IsFirst x → CompletesFirst x full → KeepsFirst x shown → SettlesFirst x shown → IsManual x (manual_with x full shown)
  made first complete keeps settled = record { covers = made_covers x full shown first complete; faithful = made_faithful keeps; settled = made_settled settled }

-- ---- results

pub result_made : {E : Type 0} (x : FirstBundle) (full : Full) (shown : List Stmt) → (IsFirst x → CompletesFirst x full) → (IsFirst x → KeepsFirst x shown) → (IsFirst x → SettlesFirst x shown) → (r : Result Manual E) → IfOk r (λ manual. manual ≡ manual_with x full shown) → IfOk r (λ manual. IsFirst x → IsManual x manual)
result_made x full shown complete keeps settled (Ok manual) e = λ h. subst (IsManual x) (sym e) (made x full shown h (complete h) (keeps h) (settled h))
result_made x full shown complete keeps settled (Err f) e = tt

pub result_text : {E : Type 0} (x : FirstBundle) (space : Space) (manual : Manual) → space ≡ space_of (entries_of x) → (IsFirst x → IsManual x manual) → (r : Result (List ℕ) E) → IfOk r (λ text. text ≡ manual_text space manual) → IfOk r (λ text. IsFirst x → IsManualText x text)
result_text x space manual s is (Ok text) e = λ h. record { manual = manual; is = is h; printed = e ∙ ap (λ (y : Space). manual_text y manual) s }
result_text x space manual s is (Err f) e = tt
