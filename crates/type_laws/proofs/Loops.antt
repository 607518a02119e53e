-- Loops: each turn is sound, for any number of turns.
use Rattle.std.proofs.Common.{◌≡◌, ◌+◌, ◌^◌, ℕ, true, false, List, [], ◌∷◌, ◌++◌, map, length, None, refl, sym, subst, arith}
use Rattle.idl_tree.specs.Each.{Each}
use Rattle.udb_base.specs.declared.names.Name.{Name}
use Rattle.udb_base.specs.declared.conditions.Cond.{Cond}
use Rattle.idl_tree.specs.declared.widths.Width.{Width}
use Rattle.idl_tree.specs.declared.expressions.Expr.{Expr}
use Rattle.idl_tree.specs.declared.statements.Stmt.{Stmt}
use Rattle.idl_tree.specs.declared.statements.Stmt.TheVariants as st
use Rattle.idl_spec.specs.Values.{bits}
use Rattle.idl_spec.specs.Harts.{State, and_then}
use Rattle.idl_spec.specs.Shapes.{parameter_named}
use Rattle.idl_spec.specs.Settings.{Setting, Scope, number_of_width}
use Rattle.idl_spec.specs.Mean.{mean_stmt}
use Rattle.idl_spec.specs.Deeds.{all_of, stmt_deeds}
use Rattle.idl_spec.specs.Demands.{Visible, width_issues, ranged}
use Rattle.idl_spec.specs.Checks.{is_fresh, variable_names, block_checks}
use Rattle.type_laws.specs.Kinds.{IsBits, Mode, StateOk, Matches, Round, view_in, Passes, AllPass}
use Rattle.type_laws.specs.Literals.{stmt_numbers}
use Rattle.type_laws.proofs.Outcomes.{each_front}
use Rattle.type_laws.proofs.Passing.{Here, front, back, unless, range}
use Rattle.type_laws.proofs.Widths.{InRange, width_good}
use Rattle.type_laws.proofs.Sound.{Stands, Sound}
use Rattle.type_laws.proofs.StatementFlows.{IsFlow, steps, block_in, CleanStmt, Flows, SoundStmt, each_statement, clean_rest, same_names}
use Rattle.std.proofs.Common.{zero, suc, ◌-◌, append_assoc}
use Rattle.idl_tree.specs.declared.widths.Width.TheVariants as wd
use Rattle.idl_spec.specs.Values.{plain}
use Rattle.idl_spec.specs.Mean.{turns, leaving, mean_stmts}
use Rattle.idl_spec.specs.MeanLaws.{runs-For}
use Rattle.idl_spec.specs.DeedLaws.{does-For}
use Rattle.idl_spec.specs.Checks.{counter, loop_issues}
use Rattle.idl_spec.specs.CheckLaws.{walks-For}
use Rattle.type_laws.specs.LiteralLaws.{counts-For}
use Rattle.type_laws.proofs.Widths.{number_is}
use Rattle.type_laws.proofs.StatementFlows.{onward_good, leaving_good, in_turn_sound, all_declared}
use Rattle.type_laws.proofs.StatementForms.{matches_more, fresh_clear, silent}

module _ (e : Setting) (mode : Mode) (round : Round) where
  -- a counter has 32 bits
  counted : (n : ℕ) → IsBits e (wd.Number 32) false (plain 32 n)
  counted n = record { number = number_is e 32 (omega arith); low = omega arith; high = omega arith; sign = refl }

  -- the scope of a turn
  abbrev inside : Scope → Name → ℕ → Scope
  inside scope name from = scope ++ (name, bits (plain 32 from)) ∷ []

  turn_stands : (name : Name) (inner : List Visible) (known : List Cond) (from : ℕ) (scope : Scope) (s : State) → parameter_named e.space.params name ≡ None
      → Matches e inner scope → StateOk e mode s → Here e known → Stands e mode round (inner ++ counter name ∷ []) known (inside scope name from) s
  turn_stands name inner known from scope s clear m ok here = record {
    matches = matches_more e inner scope (counter name) (name, bits (plain 32 from)) m (record { name = refl; kind = counted from; clear = clear });
    state = ok;
    here = here;
  }

  -- any number of turns
  turns_flow : (name : Name) (ss : List Stmt) → Each (SoundStmt e mode round) ss → (inner : List Visible) (known : List Cond) → parameter_named e.space.params name ≡ None
      → Each (CleanStmt e mode round) ss → AllPass e (block_in e mode round ss (inner ++ counter name ∷ []) known) → Here e known
      → (count from : ℕ) (scope : Scope) (s : State) → Matches e inner scope → StateOk e mode s → Flows e mode round inner (turns name (map (mean_stmt e) ss) count from scope s)
  turns_flow name ss hs inner known clear clean pass here zero from scope s m ok = (m, ok)
  turns_flow name ss hs inner known clear clean pass here (suc count) from scope s m ok =
      onward_good e mode round inner inner (and_then (mean_stmts e ss (inside scope name from) s) (leaving (length scope))) (turns name (map (mean_stmt e) ss) count (from + 1))
      (leaving_good e mode round inner (counter name ∷ all_declared ss) scope (mean_stmts e ss (inside scope name from) s) m
      (same_names e mode round ((inner ++ counter name ∷ []) ++ all_declared ss) (inner ++ counter name ∷ all_declared ss) (mean_stmts e ss (inside scope name from) s) (append_assoc inner (counter name ∷ []) (all_declared ss))
      (in_turn_sound e mode round ss hs (inner ++ counter name ∷ []) known clean pass (inside scope name from) s (turn_stands name inner known from scope s clear m ok here))))
      (λ to t mt ht. turns_flow name ss hs inner known clear clean pass here count (from + 1) to t mt ht)

module _ (e : Setting) (mode : Mode) (round : Round) (sound : (x : Expr) → Sound e mode round x) where
  pub sound-For : (name : Name) (from to : Width) (ss : List Stmt) → Each (SoundStmt e mode round) ss → SoundStmt e mode round (st.For name from to ss)
  sound-For name from to ss hs inner known clean pass scope s h =
      let view = view_in e mode round inner in
      let p = subst (AllPass e) (walks-For (view_in e mode round []) name from to ss (variable_names e.variables ++ inner) known) pass in
      let c = clean_rest e mode round (st.For name from to ss) [] (all_of (map stmt_deeds ss) ++ []) [] (all_of (map stmt_numbers ss) ++ []) (does-For name from to ss) (counts-For name from to ss) clean in
      let cs = each_statement e mode round ss (each_front _ (all_of (map stmt_deeds ss)) [] c.0) (each_front _ (all_of (map stmt_numbers ss)) [] c.1) in
      let fresh : is_fresh view name ≡ true = unless e known (is_fresh view name) (back e known (loop_issues view from to) _ p.0) in
      let widths = width_issues view from ++ width_issues view to in
      let bounds : Passes e known ((widths ++ ranged 0 (2 ^ 32 - 1) from) ++ ranged 0 (2 ^ 32 - 1) to) = front e known ((widths ++ ranged 0 (2 ^ 32 - 1) from) ++ ranged 0 (2 ^ 32 - 1) to) _ (front e known (loop_issues view from to) _ p.0) in
      let low : InRange 0 (2 ^ 32 - 1) (number_of_width e from) = range e known 0 (2 ^ 32 - 1) from h.here (back e known widths _ (front e known (widths ++ ranged 0 (2 ^ 32 - 1) from) _ bounds)) in
      let high : InRange 0 (2 ^ 32 - 1) (number_of_width e to) = range e known 0 (2 ^ 32 - 1) to h.here (back e known (widths ++ ranged 0 (2 ^ 32 - 1) from) _ bounds) in
      let body : AllPass e (block_in e mode round ss (inner ++ counter name ∷ []) known) =
      subst (λ (vs : List Visible). AllPass e (block_checks (steps e mode round ss) vs known)) (append_assoc (variable_names e.variables) inner (counter name ∷ [])) p.1 in
      silent e mode round sound (st.For name from to ss) inner _ refl
      (subst (Flows e mode round inner) (sym (runs-For e name from to ss scope s))
      (width_good e mode (IsFlow e round.returns inner) 0 (2 ^ 32 - 1) from _ low
      (width_good e mode (IsFlow e round.returns inner) 0 (2 ^ 32 - 1) to (λ n. turns name (map (mean_stmt e) ss) (n - low.n) low.n scope s) high
      (turns_flow e mode round name ss hs inner known (fresh_clear view name fresh) cs body h.here (high.n - low.n) low.n scope s h.matches h.state))))
