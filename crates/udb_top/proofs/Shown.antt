-- The parts that are made show their entries.
use Rattle.std.proofs.Common.{◌≡◌, ℕ, Bool, true, false, not, nat_lt, List, [], ◌∷◌, map, refl, ap, sym, ◌∙◌, subst, cond}
use Rattle.std.specs.Prelude.{All, IsTrue, codes, ◌==◌, ◌&&◌}
use Rattle.manual_spec.specs.declared.manuals.Shown.TheVariants.{Parameter}
use Rattle.std.specs.Fmt.{decimal, digits}
use Rattle.std.proofs.lemmas.List.Elements.{All-head, All-tail}
use Rattle.udb_base.specs.declared.spaces.Domain.{Domain}
use Rattle.udb_base.specs.declared.spaces.Domain.TheVariants.{Flags, Numbers, Range, Words}
use Rattle.udb_base.specs.declared.spaces.Full.{Full}
use Rattle.udb_base.specs.declared.spaces.Space.{Space}
use Rattle.udb_spec.specs.Spaces.{Completes}
use Rattle.udb_base.specs.declared.refutations.Partial.{Partial}
use Rattle.idl_tree.specs.declared.programs.Base.TheVariants.{All as EachBase}
use Rattle.idl_tree.specs.declared.programs.Variable.{Variable}
use Rattle.idl_tree.specs.declared.statements.Stmt.{Stmt}
use Rattle.entry_tree.specs.declared.ParamEntry.{ParamEntry}
use Rattle.entry_tree.specs.declared.Encoding.{Encoding}
use Rattle.entry_tree.specs.declared.InstructionEntry.{InstructionEntry}
use Rattle.first_spec.specs.declared.bundle.FirstBundle.{FirstBundle}
use Rattle.first_spec.specs.Alphabets.{is_text}
use Rattle.first_spec.specs.Bundle.{IsSwitch, IsParam, IsInstruction, IsFirst}
use Rattle.manual_spec.specs.Text.{lines_of, onto_first}
use Rattle.manual_spec.specs.Entries.{space_of, HasParam, HasInstruction}
use Rattle.manual_spec.specs.Covers.{Shows, none, shown, IsText, IsParamPart, IsInstructionPart, Covers, HasRow, match_row, variable_row, domain_lines}
use Rattle.first_bundle.proofs.Clean.{is_clean, clean, left_so, right_so}
use Rattle.first_bundle.proofs.Names.{clean_text}
use Rattle.first_prune.specs.Known.{entries_of, partial_of}
use Rattle.first_prune.proofs.Worlds.{always_holds}
use Rattle.first_prune.proofs.Shown.{has_first}
use Rattle.udb_top.specs.Making.{one_line_each, value_rows, encoding_rows, param_part, instruction_part, manual_with}

no_feed : (b : ℕ) (t : Bool) → (b == 10) ≡ t → (nat_lt b 128 && not (b == 10)) ≡ true → (b == 10) ≡ false
no_feed b true e h = absurd (at_feed (nat_lt b 128) (b == 10) e h)
  where
    at_feed : (small feed : Bool) → feed ≡ true → (small && not feed) ≡ true → ⊥
    at_feed true true e h = cc
    at_feed false true e h = cc
    at_feed small false e h = cc
no_feed b false e h = e

line_byte : (b : ℕ) (bs : List ℕ) → (b == 10) ≡ false → lines_of (b ∷ bs) ≡ onto_first b (lines_of bs)
line_byte b bs e = ap (λ t. cond t ([] ∷ lines_of bs) (onto_first b (lines_of bs))) e

-- bytes without a line feed are one line
one_line : (b : ℕ) (bs : List ℕ) → clean (b ∷ bs) ≡ true → lines_of (b ∷ bs) ≡ (b ∷ bs) ∷ []
one_line b [] h = line_byte b [] (no_feed b (b == 10) refl (left_so (is_clean b) true h))
one_line b (c ∷ cs) h =
    line_byte b (c ∷ cs) (no_feed b (b == 10) refl (left_so (is_clean b) (clean (c ∷ cs)) h))
    ∙ ap (onto_first b) (one_line c cs (right_so (is_clean b) (clean (c ∷ cs)) h))

-- a text is one line
pub text_line : (t : List ℕ) → IsTrue (is_text t) → t ∷ [] ≡ lines_of t
text_line [] h = absurd (cc)
text_line (b ∷ bs) h = sym (one_line b bs (clean_text (b ∷ bs) h))

is_one_text : (long_name description : List ℕ) → IsTrue (is_text long_name) → IsTrue (is_text description) → IsText long_name description [] (one_line_each long_name description)
is_one_text long_name description h k = record { long_lines = text_line long_name h; description_lines = text_line description k; assembly_lines = refl }

decimal_32 : decimal 32 ≡ codes "32"
unfolding digits
decimal_32 = refl

rows_of : (name : List ℕ) (domain : Domain) → IsSwitch name domain → value_rows domain ≡ domain_lines domain
rows_of name Flags s = refl
rows_of name (Numbers ns) s = ap (λ (d : List ℕ). d ∷ []) (sym decimal_32) ∙ ap (λ (xs : List ℕ). map decimal xs) (sym s.1)
rows_of name (Range low high) s = absurd s
rows_of name (Words ws) s = absurd s

module _ (space : Space) (part : Partial) (full : Full) (complete : Completes space part full) where
  param_shown : (p : ParamEntry) → IsParam p → IsParamPart space part p (param_part full p)
  param_shown p h = record {
    name = refl;
    text = is_one_text p.long_name p.description h.long_name h.description;
    completion = record { completes = complete; has = always_holds space full p.defined h.defined };
    table = ap Parameter (rows_of p.name p.domain h.domain);
  }

  pub params_shown : (ps : List ParamEntry) → All IsParam ps → Shows (Completes space part) (HasParam space) (IsParamPart space part) ps (map (param_part full) ps)
  params_shown [] h = none
  params_shown (p ∷ ps) h =
      shown full complete (always_holds space full p.defined (All-head IsParam p ps h).defined)
      (param_shown p (All-head IsParam p ps h)) (params_shown ps (All-tail IsParam p ps h))

  row_shown : (x : InstructionEntry) → HasInstruction space full x → (es : List Encoding) (digits : List ℕ) → es ≡ record { base = EachBase; digits = digits } ∷ [] → Shows (Completes space part) (λ full e. HasRow space x e.base full) (λ e row. row ≡ match_row e) es (encoding_rows es)
  row_shown x has es digits e =
      subst (λ (es : List Encoding). Shows (Completes space part) (λ full e. HasRow space x e.base full) (λ e row. row ≡ match_row e) es (encoding_rows es)) (sym e)
      (shown full complete (has, refl) refl none)

  no_variables : (x : InstructionEntry) (vs : List Variable) → vs ≡ [] → Shows (Completes space part) (λ full e. HasRow space x e.base full) (λ e row. row ≡ variable_row e) vs []
  no_variables x vs e = subst (λ (vs : List Variable). Shows (Completes space part) (λ full e. HasRow space x e.base full) (λ e row. row ≡ variable_row e) vs []) (sym e) none

  pub instruction_shown : (ps : List ParamEntry) (x : InstructionEntry) (statements : List Stmt) → IsInstruction ps x → IsInstructionPart space part x (instruction_part full x statements)
  instruction_shown ps x statements h = record {
    name = refl;
    text = subst (λ (a : List ℕ). IsText x.long_name x.description a (one_line_each x.long_name x.description)) (sym h.assembly) (is_one_text x.long_name x.description h.long_name h.description);
    completion = record { completes = complete; has = has_first space full ps x h };
    matches = encoding_rows x.encodings;
    match_rows = row_shown x (has_first space full ps x h) x.encodings h.digits h.encodings;
    variables = [];
    variable_rows = no_variables x x.operation.variables h.variables;
    body = record { variables = []; statements = statements };
    statements_alone = refl;
    table = refl;
  }

-- the manual that is made shows exactly the entries that some completion has
pub made_covers : (x : FirstBundle) (full : Full) (statements : List Stmt) → IsFirst x → Completes (space_of (entries_of x)) (partial_of x.config) full → Covers (entries_of x) x.config.name (partial_of x.config) (manual_with x full statements)
made_covers x full statements h complete =
    let space : Space = space_of (entries_of x) in
    record {
      name = refl;
      completion = complete;
      parts = record {
        extensions = [];
        shows_extensions = none;
        params = map (param_part full) x.params;
        shows_params = params_shown space (partial_of x.config) full complete x.params h.params;
        instructions = instruction_part full x.instruction statements ∷ [];
        shows_instructions = shown full complete (has_first space full x.params x.instruction h.instruction) (instruction_shown space (partial_of x.config) full complete x.params x.instruction statements h.instruction) none;
        in_order = refl;
      };
    }
