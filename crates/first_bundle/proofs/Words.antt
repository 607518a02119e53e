-- The lines of a bundle are clean.
use Rattle.std.proofs.Common.{◌≡◌, ℕ, suc, ◌≤◌, ◌&&◌, Bool, true, List, [], ◌∷◌, ◌++◌, map, length, refl, ap, sym, ◌∙◌, subst, arith, decimal, codes, All, Option, None, Some, length-append}
use Rattle.std.specs.List.{list_all, flat_map}
use Rattle.udb_base.specs.declared.conditions.Value.{Value}
use Rattle.udb_base.specs.declared.conditions.Value.TheVariants.{Flag}
use Rattle.udb_base.specs.declared.spaces.Domain.{Domain}
use Rattle.udb_base.specs.declared.spaces.Domain.TheVariants.{Numbers}
use Rattle.idl_tree.specs.declared.expressions.Expr.{Expr}
use Rattle.idl_tree.specs.declared.expressions.Expr.TheVariants as e
use Rattle.idl_tree.specs.declared.statements.Target.TheVariants as t
use Rattle.idl_tree.specs.declared.statements.Stmt.{Stmt}
use Rattle.idl_tree.specs.declared.statements.Stmt.TheVariants as s
use Rattle.entry_tree.specs.declared.ParamEntry.{ParamEntry}
use Rattle.entry_tree.specs.declared.InstructionEntry.{InstructionEntry}
use Rattle.entry_tree.specs.declared.ConfigKind.{ConfigKind}
use Rattle.entry_tree.specs.declared.ConfigKind.TheVariants as kind
use Rattle.entry_tree.specs.declared.Given.{Given}
use Rattle.entry_tree.specs.declared.ConfigEntry.{ConfigEntry}
use Rattle.first_spec.specs.declared.bundle.FirstBundle.{FirstBundle}
use Rattle.idl_tree.specs.Each.{Each}
use Rattle.udb_base.specs.Lines.{Lines, text_of_lines}
use Rattle.idl_tree.specs.Print.{stmt_lines, expr_text, if_text, margined, indented}
use Rattle.first_spec.specs.Bundle.{bundle_part, schema_lines, param_lines, instruction_lines, value_word, given_line, kind_line, given_lines, config_lines, params_lines, bundle_lines, digits_among, Fits, IsParam, IsTest, IsStatement, AreStatements, IsInstruction, IsGiven, GivesParams, IsConfig, IsFirst}
use Rattle.first_bundle.proofs.Clean.{is_clean, clean, left_so, right_so, both_so, all_joined, clean-decimal}
use Rattle.first_bundle.proofs.Names.{each_of, clean_parameter, clean_instruction_name, clean_config_name, clean_match, clean_text, switch_parameter, clean_test}
use Rattle.first_bundle.proofs.Shapes.{block_lines, when_lines, either_lines}
use Rattle.first_bundle.proofs.Operands.{Assigns, assigned}
use Rattle.first_bundle.proofs.Written.{line_of, stmt_line, clean_line}

-- ---- lines

lines_short : (ls : List (List ℕ)) → length ls ≤ length (text_of_lines ls)
lines_short [] = omega arith
lines_short (l ∷ ls) = omega (arith, lines_short ls, length-append (l ++ 10 ∷ []) (text_of_lines ls), length-append l (10 ∷ []))

clean_part : (kind name : List ℕ) (lines : List (List ℕ)) → clean kind ≡ true → clean name ≡ true → Fits lines → list_all clean lines ≡ true → list_all clean (bundle_part kind name lines) ≡ true
clean_part kind name lines k n f h =
    let count : clean (decimal (length lines)) ≡ true = clean-decimal (length lines) (omega (arith, f, lines_short lines)) in
    both_so (clean (codes "=== " ++ (kind ++ (32 ∷ name ++ (32 ∷ decimal (length lines)))))) (list_all clean lines)
    (all_joined is_clean kind (32 ∷ name ++ (32 ∷ decimal (length lines))) k (all_joined is_clean name (32 ∷ decimal (length lines)) n count)) h

clean_schema : (d : Domain) → list_all clean (schema_lines d) ≡ true
clean_schema (Numbers ns) = refl
clean_schema d = refl

clean_param : (x : ParamEntry) → IsParam x → list_all clean (bundle_part (codes "parameter") x.name (param_lines x)) ≡ true
clean_param x h =
    let name = clean_parameter x.name h.name in
    clean_part (codes "parameter") x.name (param_lines x) refl name h.size (rw (name, clean_text x.long_name h.long_name, clean_text x.description h.description, clean_schema x.domain) refl)

clean_params : (ps : List ParamEntry) → Each IsParam ps → list_all clean (params_lines ps) ≡ true
clean_params [] h = refl
clean_params (p ∷ ps) h = all_joined clean (bundle_part (codes "parameter") p.name (param_lines p)) (params_lines ps) (clean_param p h.0) (clean_params ps h.1)

clean_assigned : (x : Stmt) → Assigns x → list_all clean (stmt_lines x) ≡ true
clean_assigned x a = subst (λ (ls : List (List ℕ)). list_all clean ls ≡ true) (sym (stmt_line a.assignment) ∙ ap stmt_lines a.tree) (both_so (clean (line_of a.assignment)) true (clean_line a.assignment a.fine) refl)

clean_margined : (ls : Lines) → list_all clean ls ≡ true → list_all clean (indented ls) ≡ true
unfolding margined
clean_margined [] h = refl
clean_margined (l ∷ ls) h = both_so (clean l) (list_all clean (indented ls)) (left_so (clean l) (list_all clean ls) h) (clean_margined ls (right_so (clean l) (list_all clean ls) h))

-- a block between its first line and what follows it
clean_enclosed : (first : List ℕ) (inner last : Lines) → clean first ≡ true → list_all clean inner ≡ true → list_all clean last ≡ true → list_all clean (first ∷ indented inner ++ last) ≡ true
clean_enclosed first inner last f i l = both_so (clean first) (list_all clean (indented inner ++ last)) f (all_joined clean (indented inner) last (clean_margined inner i) l)

module _ (ps : List ParamEntry) (fine : Each IsParam ps) where
  clean_if : (test : Expr) → IsTest ps test → clean (if_text test) ≡ true
  clean_if test t = all_joined is_clean (codes "if (" ++ expr_text test) (codes ") {") (clean_test ps fine test t) refl

  mutual
    clean_statement : (depth : ℕ) (x : Stmt) → IsStatement ps depth x → list_all clean (stmt_lines x) ≡ true
    clean_statement _ _ (IsStatement.assign d n x _ l v) = clean_assigned (s.Assign (t.Register (e.Number n)) x) (assigned n x l v)
    clean_statement _ _ (IsStatement.block d xs _ h) = rw (block_lines xs) (clean_enclosed (codes "{") (flat_map stmt_lines xs) (codes "}" ∷ []) refl (clean_statements (suc d) xs h) refl)
    clean_statement _ _ (IsStatement.when d test taken _ t h) = rw (when_lines test taken) (clean_enclosed (if_text test) (flat_map stmt_lines taken) (codes "}" ∷ []) (clean_if test t) (clean_statements (suc d) taken h) refl)
    clean_statement _ _ (IsStatement.either d test taken other _ t h k) = rw (either_lines test taken other) (clean_enclosed (if_text test) (flat_map stmt_lines taken) (codes "} else {" ∷ indented (flat_map stmt_lines other) ++ codes "}" ∷ []) (clean_if test t) (clean_statements (suc d) taken h) (clean_enclosed (codes "} else {") (flat_map stmt_lines other) (codes "}" ∷ []) refl (clean_statements (suc d) other k) refl))

    clean_statements : (depth : ℕ) (xs : List Stmt) → AreStatements ps depth xs → list_all clean (flat_map stmt_lines xs) ≡ true
    clean_statements _ _ (AreStatements.none d) = refl
    clean_statements _ _ (AreStatements.more d x xs h k) = all_joined clean (stmt_lines x) (flat_map stmt_lines xs) (clean_statement d x h) (clean_statements d xs k)

clean_indented : (ls : List (List ℕ)) → list_all clean ls ≡ true → list_all clean (map (λ l. codes "  " ++ l) ls) ≡ true
clean_indented [] h = refl
clean_indented (l ∷ ls) h = both_so (clean l) (list_all clean (map (λ l. codes "  " ++ l) ls)) (left_so (clean l) (list_all clean ls) h) (clean_indented ls (right_so (clean l) (list_all clean ls) h))

clean_instruction : (ps : List ParamEntry) → Each IsParam ps → (x : InstructionEntry) → IsInstruction ps x → list_all clean (bundle_part (codes "instruction") x.name (instruction_lines x)) ≡ true
clean_instruction ps fine x h =
    let name = clean_instruction_name x.name h.name in
    let digits : clean (digits_among x.encodings) ≡ true = rw (h.encodings) (clean_match h.digits h.matches) in
    let body = clean_indented (flat_map stmt_lines x.operation.statements) (clean_statements ps fine 0 x.operation.statements h.statements) in
    clean_part (codes "instruction") x.name (instruction_lines x) refl name h.size (rw (name, clean_text x.long_name h.long_name, clean_text x.description h.description, digits, body) refl)

clean_value : (v : Value) → clean (value_word v) ≡ true
clean_value (Flag true) = refl
clean_value v = refl

clean_given : (ps : List ParamEntry) → Each IsParam ps → (g : Given) → IsGiven ps g → clean (given_line g) ≡ true
clean_given ps fine g h = all_joined is_clean g.name (codes ": " ++ value_word g.value) (clean_parameter g.name (switch_parameter ps fine g.name h.name)) (clean_value g.value)

clean_givens : (ps : List ParamEntry) → Each IsParam ps → (gs : List Given) → Each (IsGiven ps) gs → list_all clean (map given_line gs) ≡ true
clean_givens ps fine [] h = refl
clean_givens ps fine (g ∷ gs) h = both_so (clean (given_line g)) (list_all clean (map given_line gs)) (clean_given ps fine g h.0) (clean_givens ps fine gs h.1)

clean_gives : (ps : List ParamEntry) → Each IsParam ps → (k : ConfigKind) (gs : List Given) → GivesParams ps k gs → list_all clean (given_lines k gs) ≡ true
clean_gives ps fine kind.Unconfigured gs h = refl
clean_gives ps fine kind.Partially gs h = clean_givens ps fine gs (each_of (IsGiven ps) gs h.1.0)
clean_gives ps fine kind.Fully gs h = absurd h

clean_kind : (k : ConfigKind) → clean (kind_line k) ≡ true
clean_kind kind.Unconfigured = refl
clean_kind kind.Partially = refl
clean_kind kind.Fully = refl

clean_config : (ps : List ParamEntry) → Each IsParam ps → (x : ConfigEntry) → IsConfig ps x → list_all clean (bundle_part (codes "config") x.name (config_lines x)) ≡ true
clean_config ps fine x h =
    let name = clean_config_name x.name h.name in
    clean_part (codes "config") x.name (config_lines x) refl name h.size (rw (name, clean_kind x.kind, clean_text x.description h.description, clean_gives ps fine x.kind x.params h.gives) refl)

pub clean_bundle : (x : FirstBundle) → IsFirst x → list_all clean (bundle_lines x) ≡ true
clean_bundle x h =
    let fine = each_of IsParam x.params h.params in
    all_joined clean (params_lines x.params) (bundle_part (codes "instruction") x.instruction.name (instruction_lines x.instruction) ++ bundle_part (codes "config") x.config.name (config_lines x.config))
    (clean_params x.params fine)
    (all_joined clean (bundle_part (codes "instruction") x.instruction.name (instruction_lines x.instruction)) (bundle_part (codes "config") x.config.name (config_lines x.config)) (clean_instruction x.params fine x.instruction h.instruction) (clean_config x.params fine x.config h.config))
