-- What soundness says of statements, and statements in turn and in blocks.
use Rattle.std.proofs.Common.{◌≡◌, ℕ, true, List, [], ◌∷◌, ◌++◌, map, take, length, Option, None, Some, refl, sym, ap, subst, append_assoc}
use Rattle.std.specs.Prelude.{flat_map}
use Rattle.idl_tree.specs.Each.{Each}
use Rattle.udb_base.specs.declared.conditions.Cond.{Cond}
use Rattle.idl_tree.specs.declared.expressions.Expr.{Expr}
use Rattle.idl_tree.specs.declared.statements.Stmt.{Stmt}
use Rattle.idl_spec.specs.Values.{Value}
use Rattle.idl_spec.specs.Harts.{State, Outcome, done, and_then}
use Rattle.idl_spec.specs.Shapes.{Kind}
use Rattle.idl_spec.specs.Settings.{Setting, Scope, Flow, goes_on, returns, Change}
use Rattle.idl_spec.specs.Mean.{onward, leaving, block, mean_stmt, mean_stmts}
use Rattle.idl_spec.specs.Deeds.{Deed, all_of, expr_deeds, stmt_deeds}
use Rattle.idl_spec.specs.Demands.{Check, Visible, suits}
use Rattle.idl_spec.specs.Checks.{Step, declares, block_checks, stmt_checks, variable_names}
use Rattle.type_laws.specs.Kinds.{HasKind, Mode, StateOk, Good, DeedOk, Matches, Round, view_in, AllPass}
use Rattle.type_laws.specs.Literals.{expr_numbers, stmt_numbers, AreSmall}
use Rattle.type_laws.proofs.Outcomes.{then_good, each_front, each_back}
use Rattle.type_laws.proofs.Sound.{Stands, Clean}

-- a value that can be brought to the kind that the body returns
pub record CanReturn (e : Setting) (kind : Kind) (v : Value) : Type 0 where
  pub from : Kind
  pub has : HasKind e from v
  pub fits : suits (Some kind) (Some from) ≡ true

abbrev pub IsReturn : Setting → Option Kind → Value → Type 0
IsReturn e None v = ⊥
IsReturn e (Some kind) v = CanReturn e kind v

-- a flow goes on with values of the names that are visible then, or returns what may be returned
abbrev pub IsFlow : Setting → Option Kind → List Visible → Flow → Type 0
IsFlow e result visible (goes_on scope) = Matches e visible scope
IsFlow e result visible (returns v) = IsReturn e result v

-- what statements declare in turn
abbrev pub all_declared : List Stmt → List Visible
all_declared [] = []
all_declared (x ∷ xs) = declares x ++ all_declared xs

pub append_none : {X : Type 0} (xs : List X) → xs ++ [] ≡ xs
append_none [] = refl
append_none (x ∷ xs) = ap (λ ys. x ∷ ys) (append_none xs)

module _ (e : Setting) (mode : Mode) (round : Round) where
  -- the checks of a statement under the names that are visible before
  abbrev pub walk_in : Stmt → List Visible → List Cond → List Check
  walk_in x inner known = stmt_checks (view_in e mode round []) x (variable_names e.variables ++ inner) known

  abbrev pub steps : List Stmt → List Step
  steps ss = map (λ p. (p, stmt_checks (view_in e mode round []) p)) ss

  abbrev pub block_in : List Stmt → List Visible → List Cond → List Check
  block_in ss inner known = block_checks (steps ss) (variable_names e.variables ++ inner) known

  -- what a statement does is allowed, and its numbers are small
  abbrev pub CleanStmt : Stmt → Type 0
  CleanStmt x = Each (DeedOk e mode round.before) (stmt_deeds x) × AreSmall (stmt_numbers x)

  abbrev pub Flows : List Visible → Outcome Flow → Type 0
  Flows visible o = Good e mode (IsFlow e round.returns visible) o

  abbrev pub SoundStmt : Stmt → Type 0
  SoundStmt x = (inner : List Visible) (known : List Cond) → CleanStmt x → AllPass e (walk_in x inner known)
      → (scope : Scope) (s : State) → Stands e mode round inner known scope s → Flows (inner ++ declares x) (mean_stmt e x scope s)

  -- ---- clean parts

  each_values : (es : List Expr) → Each (DeedOk e mode round.before) (flat_map expr_deeds es) → AreSmall (flat_map expr_numbers es) → Each (Clean e mode round) es
  each_values [] h k = tt
  each_values (x ∷ es) h k =
      let ds = flat_map expr_deeds es in
      let ns = flat_map expr_numbers es in (
        (each_front (DeedOk e mode round.before) (expr_deeds x) ds h, each_front _ (expr_numbers x) ns k),
        each_values es (each_back (DeedOk e mode round.before) (expr_deeds x) ds h) (each_back _ (expr_numbers x) ns k),
      )

  pub each_statement : (ss : List Stmt) → Each (DeedOk e mode round.before) (all_of (map stmt_deeds ss)) → AreSmall (all_of (map stmt_numbers ss)) → Each CleanStmt ss
  each_statement [] h k = tt
  each_statement (x ∷ xs) h k =
      let ds = all_of (map stmt_deeds xs) in
      let ns = all_of (map stmt_numbers xs) in (
        (each_front (DeedOk e mode round.before) (stmt_deeds x) ds h, each_front _ (stmt_numbers x) ns k),
        each_statement xs (each_back (DeedOk e mode round.before) (stmt_deeds x) ds h) (each_back _ (stmt_numbers x) ns k),
      )

  -- the expressions of a statement
  pub clean_values : (x : Stmt) (es : List Expr) (own more : List Deed) (rest : List ℕ) → stmt_deeds x ≡ own ++ (flat_map expr_deeds es ++ more) → stmt_numbers x ≡ flat_map expr_numbers es ++ rest → CleanStmt x → Each (Clean e mode round) es
  clean_values x es own more rest d n h =
      each_values es
      (each_front (DeedOk e mode round.before) (flat_map expr_deeds es) more (each_back (DeedOk e mode round.before) own _ (subst (Each (DeedOk e mode round.before)) d h.0)))
      (each_front _ (flat_map expr_numbers es) rest (subst AreSmall n h.1))

  -- what a statement does itself
  pub own_acts : (x : Stmt) (own more : List Deed) → stmt_deeds x ≡ own ++ more → CleanStmt x → Each (DeedOk e mode round.before) own
  own_acts x own more d h = each_front (DeedOk e mode round.before) own more (subst (Each (DeedOk e mode round.before)) d h.0)

  -- its blocks
  pub clean_rest : (x : Stmt) (front back : List Deed) (low high : List ℕ) → stmt_deeds x ≡ front ++ back → stmt_numbers x ≡ low ++ high → CleanStmt x → Each (DeedOk e mode round.before) back × AreSmall high
  clean_rest x front back low high d n h =
      (each_back (DeedOk e mode round.before) front back (subst (Each (DeedOk e mode round.before)) d h.0), each_back _ low high (subst AreSmall n h.1))

  -- ---- one after the other

  pub onward_good : (visible more : List Visible) (o : Outcome Flow) (next : Change) → Flows visible o
      → ((scope : Scope) (s : State) → Matches e visible scope → StateOk e mode s → Flows more (next scope s)) → Flows more (and_then o (onward next))
  onward_good visible more o next h k = then_good e mode (IsFlow e round.returns visible) (IsFlow e round.returns more) o (onward next) h at
    where
      at : (flow : Flow) (s : State) → IsFlow e round.returns visible flow → StateOk e mode s → Flows more (onward next flow s)
      at (goes_on scope) s hf hs = k scope s hf hs
      at (returns v) s hf hs = (hf, hs)

  take_matches : (names more : List Visible) (outer scope : Scope) → Matches e names outer → Matches e (names ++ more) scope → Matches e names (take (length outer) scope)
  take_matches [] more [] scope h k = tt
  take_matches [] more (p ∷ ps) scope h k = absurd h
  take_matches (v ∷ vs) more [] scope h k = absurd h
  take_matches (v ∷ vs) more (p ∷ ps) [] h k = absurd k
  take_matches (v ∷ vs) more (p ∷ ps) (q ∷ qs) h k = (k.0, take_matches vs more ps qs h.1 k.1)

  -- what was declared inside is gone outside
  pub leaving_good : (names more : List Visible) (outer : Scope) (o : Outcome Flow) → Matches e names outer → Flows (names ++ more) o → Flows names (and_then o (leaving (length outer)))
  leaving_good names more outer o m h = then_good e mode (IsFlow e round.returns (names ++ more)) (IsFlow e round.returns names) o (leaving (length outer)) h at
    where
      at : (flow : Flow) (s : State) → IsFlow e round.returns (names ++ more) flow → StateOk e mode s → Flows names (leaving (length outer) flow s)
      at (goes_on scope) s hf hs = (take_matches names more outer scope m hf, hs)
      at (returns v) s hf hs = (hf, hs)

  pub same_names : (names more : List Visible) (o : Outcome Flow) → names ≡ more → Flows names o → Flows more o
  same_names names more o is h = subst (λ (vs : List Visible). Flows vs o) is h

  -- statements in turn
  pub in_turn_sound : (ss : List Stmt) → Each SoundStmt ss → (inner : List Visible) (known : List Cond) → Each CleanStmt ss → AllPass e (block_in ss inner known)
      → (scope : Scope) (s : State) → Stands e mode round inner known scope s → Flows (inner ++ all_declared ss) (mean_stmts e ss scope s)
  in_turn_sound [] hs inner known clean pass scope s h = same_names inner (inner ++ []) (done (goes_on scope) s) (sym (append_none inner)) (h.matches, h.state)
  in_turn_sound (x ∷ xs) hs inner known clean pass scope s h =
      let tail : AllPass e (block_checks (steps xs) ((variable_names e.variables ++ inner) ++ declares x) known) = each_back _ (walk_in x inner known) _ pass in
      let rest : AllPass e (block_in xs (inner ++ declares x) known) =
      subst (λ (vs : List Visible). AllPass e (block_checks (steps xs) vs known)) (append_assoc (variable_names e.variables) inner (declares x)) tail in
      same_names ((inner ++ declares x) ++ all_declared xs) _ (mean_stmts e (x ∷ xs) scope s) (append_assoc inner (declares x) (all_declared xs))
      (onward_good (inner ++ declares x) ((inner ++ declares x) ++ all_declared xs) (mean_stmt e x scope s) (mean_stmts e xs)
      (hs.0 inner known clean.0 (each_front _ (walk_in x inner known) _ pass) scope s h)
      (λ to t m st. in_turn_sound xs hs.1 (inner ++ declares x) known clean.1 rest to t (record { matches = m; state = st; here = h.here })))

  -- a block
  pub block_flow : (ss : List Stmt) → Each SoundStmt ss → (inner : List Visible) (known : List Cond) → Each CleanStmt ss → AllPass e (block_in ss inner known)
      → (scope : Scope) (s : State) → Stands e mode round inner known scope s → Flows inner (block (map (mean_stmt e) ss) scope s)
  block_flow ss hs inner known clean pass scope s h =
      leaving_good inner (all_declared ss) scope (mean_stmts e ss scope s) h.matches (in_turn_sound ss hs inner known clean pass scope s h)
