-- What is read of the lines of a body is its statements, each with at most 8 blocks round it.
use Rattle.std.proofs.Common.{◌≡◌, ℕ, suc, ◌≤◌, ◌*◌, Bool, true, false, cond, List, [], ◌∷◌, ◌++◌, length, drop, refl, codes, Option, None, Some, option_and_then, nat_le, leb-true}
use Rattle.std.specs.Option.{option_map}
use Rattle.idl_tree.specs.declared.expressions.Unary.TheVariants.{Not}
use Rattle.idl_tree.specs.declared.expressions.Expr.{Expr}
use Rattle.idl_tree.specs.declared.expressions.Expr.TheVariants as e
use Rattle.idl_tree.specs.declared.statements.Stmt.{Stmt}
use Rattle.entry_tree.specs.declared.ParamEntry.{ParamEntry}
use Rattle.first_spec.specs.Bundle.{is_switch_name, IsTest, switch, not_switch, IsStatement, AreStatements}
use Rattle.first_bundle.specs.declared.statements.Assignment.{Assignment}
use Rattle.first_bundle.specs.declared.blocks.Opening.{Opening}
use Rattle.first_bundle.specs.declared.blocks.Opening.TheVariants.{Bare, Taken, Other}
use Rattle.first_bundle.specs.declared.blocks.Frame.{Frame}
use Rattle.first_bundle.specs.Lines.{plain, until}
use Rattle.first_bundle.specs.Statements.{begins_with, read_statement, assignment_tree}
use Rattle.first_bundle.specs.Blocks.{State, switch_or_none, read_switch, read_test, enter, close, closed, otherwise, turn, append_to, begin, end, step_within, step, finish, body_from, read_body}
use Rattle.first_bundle.proofs.Operands.{Fine, statement_fine, statement_of}

module _ (ps : List ParamEntry) where
  abbrev FineOpening : ℕ → Opening → Type 0
  FineOpening d Bare = Unit {0}
  FineOpening d (Taken test) = IsTest ps test
  FineOpening d (Other test taken) = IsTest ps test × AreStatements ps d taken

  -- the blocks that are open, each with fewer round it than it may have
  abbrev FineFrames : List Frame → Type 0
  FineFrames [] = Unit {0}
  FineFrames (f ∷ fs) = (length fs ≤ 8) × (AreStatements ps (length fs) f.before × (FineOpening (suc (length fs)) f.opening × FineFrames fs))

  abbrev FineState : State → Type 0
  FineState st = AreStatements ps (length st.0) st.1 × FineFrames st.0

  abbrev FineNext : Option State → Type 0
  FineNext None = Unit {0}
  FineNext (Some st) = FineState st

  abbrev pub FineBody : Option (List Stmt × List (List ℕ)) → Type 0
  FineBody None = Unit {0}
  FineBody (Some r) = AreStatements ps 0 r.0

  one_more : (d : ℕ) (xs : List Stmt) (x : Stmt) → AreStatements ps d xs → IsStatement ps d x → AreStatements ps d (xs ++ x ∷ [])
  one_more _ _ x (AreStatements.none d) h = AreStatements.more d x [] h (AreStatements.none d)
  one_more _ _ x (AreStatements.more d y ys k m) h = AreStatements.more d y (ys ++ x ∷ []) k (one_more d ys x m h)

  enter_fine : (o : Opening) (st : State) → length st.0 ≤ 8 → FineOpening (suc (length st.0)) o → FineState st → FineState (enter o st)
  enter_fine o st b h s = (AreStatements.none (suc (length st.0)), (b, (s.0, (h, s.1))))

  closed_fine : (d : ℕ) (o : Opening) (inner : List Stmt) → d ≤ 8 → FineOpening (suc d) o → AreStatements ps (suc d) inner → IsStatement ps d (closed o inner)
  closed_fine d Bare inner b h k = IsStatement.block d inner b k
  closed_fine d (Taken test) inner b h k = IsStatement.when d test inner b h k
  closed_fine d (Other test taken) inner b h k = IsStatement.either d test taken inner b h.0 h.1 k

  close_fine : (st : State) → FineState st → FineNext (close st)
  close_fine ([], inner) s = tt
  close_fine (f ∷ fs, inner) s = (one_more (length fs) f.before (closed f.opening inner) s.1.1.0 (closed_fine (length fs) f.opening inner s.1.0 s.1.1.1.0 s.0), s.1.1.1.1)

  turned_fine : (fs : List Frame) (before inner : List Stmt) (o : Opening) → length fs ≤ 8 → AreStatements ps (length fs) before → FineFrames fs → FineOpening (suc (length fs)) o → AreStatements ps (suc (length fs)) inner → FineNext (option_map (λ opening. enter opening (fs, before)) (otherwise o inner))
  turned_fine fs before inner Bare b h k i m = tt
  turned_fine fs before inner (Taken test) b h k i m = enter_fine (Other test inner) (fs, before) b (i, m) (h, k)
  turned_fine fs before inner (Other test taken) b h k i m = tt

  turn_fine : (st : State) → FineState st → FineNext (turn st)
  turn_fine ([], inner) s = tt
  turn_fine (f ∷ fs, inner) s = turned_fine fs f.before inner f.opening s.1.0 s.1.1.0 s.1.1.1.1 s.1.1.1.0 s.0

  -- ---- tests

  abbrev IsSwitchIfAny : Option (List ℕ) → Type 0
  IsSwitchIfAny None = Unit {0}
  IsSwitchIfAny (Some n) = is_switch_name ps n ≡ true

  switch_told : (t : Bool) (n : List ℕ) → is_switch_name ps n ≡ t → IsSwitchIfAny (cond t (Some n) None)
  switch_told true n h = h
  switch_told false n h = tt

  switch_fine : (text : List ℕ) → IsSwitchIfAny (read_switch ps text)
  switch_fine text = switch_told (is_switch_name ps (plain (until 41 text))) (plain (until 41 text)) refl

  abbrev IsTestIfAny : Option Expr → Type 0
  IsTestIfAny None = Unit {0}
  IsTestIfAny (Some test) = IsTest ps test

  word_fine : (o : Option (List ℕ)) → IsSwitchIfAny o → IsTestIfAny (option_map (λ name. e.Word name) o)
  word_fine None h = tt
  word_fine (Some n) h = switch n h

  not_fine : (o : Option (List ℕ)) → IsSwitchIfAny o → IsTestIfAny (option_map (λ name. e.Unary Not (e.Word name)) o)
  not_fine None h = tt
  not_fine (Some n) h = not_switch n h

  either_test : (t : Bool) (text : List ℕ) → IsTestIfAny (cond t (option_map (λ name. e.Unary Not (e.Word name)) (read_switch ps (drop 1 text))) (option_map (λ name. e.Word name) (read_switch ps text)))
  either_test true text = not_fine (read_switch ps (drop 1 text)) (switch_fine (drop 1 text))
  either_test false text = word_fine (read_switch ps text) (switch_fine text)

  test_fine : (text : List ℕ) → IsTestIfAny (read_test ps text)
  test_fine text = either_test (begins_with (codes "!") text) text

  -- ---- lines

  if_fine : (o : Option Expr) (st : State) → IsTestIfAny o → length st.0 ≤ 8 → FineState st → FineNext (option_map (λ test. enter (Taken test) st) o)
  if_fine None st h b s = tt
  if_fine (Some test) st h b s = enter_fine (Taken test) st b h s

  assign_fine : (o : Option Assignment) (st : State) → Fine o → length st.0 ≤ 8 → FineState st → FineNext (option_map (λ a. append_to st (assignment_tree a)) o)
  assign_fine None st h b s = tt
  assign_fine (Some a) st h b s = (one_more (length st.0) st.1 (assignment_tree a) s.0 (statement_of ps (length st.0) a b h), s.1)

  begun_fine : (p q : Bool) (st : State) (text : List ℕ) → length st.0 ≤ 8 → FineState st → FineNext (cond p (Some (enter Bare st)) (cond q (option_map (λ test. enter (Taken test) st) (read_test ps (drop 4 text))) (option_map (λ a. append_to st (assignment_tree a)) (read_statement text))))
  begun_fine true q st text b s = enter_fine Bare st b tt s
  begun_fine false true st text b s = if_fine (read_test ps (drop 4 text)) st (test_fine (drop 4 text)) b s
  begun_fine false false st text b s = assign_fine (read_statement text) st (statement_fine text) b s

  begin_fine : (st : State) (text : List ℕ) → length st.0 ≤ 8 → FineState st → FineNext (begin ps st text)
  begin_fine st text b s = begun_fine (begins_with (codes "{") text) (begins_with (codes "if (") text) st text b s

  ended_fine : (p : Bool) (st : State) → FineState st → FineNext (cond p (turn st) (close st))
  ended_fine true st s = turn_fine st s
  ended_fine false st s = close_fine st s

  within_fine : (p q : Bool) (st : State) (text : List ℕ) → nat_le (length st.0) 8 ≡ q → FineState st → FineNext (cond p (end st text) (cond q (begin ps st (drop 2 text)) None))
  within_fine true q st text e s = ended_fine (begins_with (codes "} else {") text) st s
  within_fine false true st text e s = begin_fine st (drop 2 text) (leb-true (length st.0) 8 e) s
  within_fine false false st text e s = tt

  step_fine : (st : State) (text : List ℕ) → FineState st → FineNext (step_within ps st text)
  step_fine st text s = within_fine (begins_with (codes "}") text) (nat_le (length st.0) 8) st text refl s

  finish_fine : (st : State) (rest : List (List ℕ)) → FineState st → FineBody (finish st rest)
  finish_fine ([], done) rest s = s.0
  finish_fine (f ∷ fs, done) rest s = tt

  next_fine : (o : Option State) (ls : List (List ℕ)) → FineNext o → ((st : State) → FineState st → FineBody (body_from ps st ls)) → FineBody (option_and_then (λ next. body_from ps next ls) o)
  next_fine None ls h more = tt
  next_fine (Some st) ls h more = more st h

  line_fine : (p : Bool) (o : Option State) (st : State) (l : List ℕ) (ls : List (List ℕ)) → FineNext o → FineState st → ((st : State) → FineState st → FineBody (body_from ps st ls)) → FineBody (cond p (option_and_then (λ next. body_from ps next ls) o) (finish st (l ∷ ls)))
  line_fine true o st l ls h s more = next_fine o ls h more
  line_fine false o st l ls h s more = finish_fine st (l ∷ ls) s

  lines_fine : (ls : List (List ℕ)) (st : State) → FineState st → FineBody (body_from ps st ls)
  lines_fine [] st s = finish_fine st [] s
  lines_fine (l ∷ ls) st s = line_fine (begins_with (codes "  ") l) (step ps st l) st l ls (step_fine st (drop (2 * length st.0) l) s) s (lines_fine ls)

  pub body_fine : (ls : List (List ℕ)) → FineBody (read_body ps ls)
  body_fine ls = lines_fine ls ([], []) (AreStatements.none 0, tt)
