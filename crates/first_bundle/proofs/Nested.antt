-- Statements with blocks are read back from their lines.
use Rattle.std.proofs.Common.{◌≡◌, ℕ, zero, suc, ◌≤◌, ◌*◌, Bool, true, false, cond, List, [], ◌∷◌, ◌++◌, map, length, drop, refl, ap, sym, ◌∙◌, arith, append_assoc, append-nil, codes, Option, None, Some, option_and_then, nat_le, le-leb}
use Rattle.std.specs.List.{flat_map}
use Rattle.std.specs.Option.{option_map}
use Rattle.std.proofs.lemmas.List.{map-append}
use Rattle.idl_tree.specs.declared.expressions.Expr.{Expr}
use Rattle.idl_tree.specs.declared.expressions.Expr.TheVariants as e
use Rattle.idl_tree.specs.declared.statements.Target.TheVariants as t
use Rattle.idl_tree.specs.declared.statements.Stmt.{Stmt}
use Rattle.idl_tree.specs.declared.statements.Stmt.TheVariants as s
use Rattle.idl_tree.specs.Each.{Each}
use Rattle.udb_base.specs.Lines.{Lines}
use Rattle.idl_tree.specs.Print.{stmt_lines, indented, margined, if_text, expr_text}
use Rattle.entry_tree.specs.declared.ParamEntry.{ParamEntry}
use Rattle.first_spec.specs.Bundle.{IsParam, IsTest, IsStatement, AreStatements}
use Rattle.first_bundle.specs.declared.statements.Assignment.{Assignment}
use Rattle.first_bundle.specs.declared.blocks.Opening.{Opening}
use Rattle.first_bundle.specs.declared.blocks.Opening.TheVariants.{Bare, Taken, Other}
use Rattle.first_bundle.specs.declared.blocks.Frame.{Frame}
use Rattle.first_bundle.specs.Statements.{begins_with, read_statement, assignment_tree}
use Rattle.first_bundle.specs.Blocks.{State, read_test, enter, close, closed, turn, append_to, begin, end, step_within, step, finish, body_from}
use Rattle.first_bundle.proofs.Names.{test_read}
use Rattle.first_bundle.proofs.Operands.{IsAssignment, Assigns, assigned}
use Rattle.first_bundle.proofs.Written.{line_of, stmt_line, line_read}
use Rattle.first_bundle.proofs.Shapes.{block_lines, when_lines, either_lines}

-- ---- margins of two spaces a level

abbrev pub margin_onto : ℕ → List ℕ → List ℕ
margin_onto zero l = l
margin_onto (suc k) l = 32 ∷ 32 ∷ margin_onto k l

deeper : (k : ℕ) (l : List ℕ) → margin_onto k (32 ∷ 32 ∷ l) ≡ margin_onto (suc k) l
deeper zero l = refl
deeper (suc k) l = ap (λ (x : List ℕ). 32 ∷ 32 ∷ x) (deeper k l)

twice : (k : ℕ) → 2 * suc k ≡ suc (suc (2 * k))
twice k = omega arith

past_margin : (k : ℕ) (l : List ℕ) → drop (2 * k) (margin_onto k l) ≡ l
past_margin zero l = refl
past_margin (suc k) l = ap (λ (n : ℕ). drop n (32 ∷ 32 ∷ margin_onto k l)) (twice k) ∙ past_margin k l

abbrev pub at_level : ℕ → Lines → Lines
at_level k ls = map (margin_onto k) ls

pub one_deeper : (k : ℕ) (ls : Lines) → at_level k (indented ls) ≡ at_level (suc k) ls
unfolding margined
one_deeper k [] = refl
one_deeper k (l ∷ ls) = let e = deeper k l in let f = one_deeper k ls in λ i. e i ∷ f i

-- ---- one line

module _ (ps : List ParamEntry) where
  line_begins : (fs : List Frame) (done : List Stmt) (d : ℕ) (l : List ℕ) → length fs ≡ d → d ≤ 8 → step ps (fs, done) (margin_onto (suc d) l) ≡ begin ps (fs, done) l
  line_begins fs done d l e b =
      ap (λ (n : ℕ). step_within ps (fs, done) (drop (2 * n) (margin_onto (suc d) l))) e
      ∙ (ap (λ (x : List ℕ). step_within ps (fs, done) (drop (2 * d) x)) (sym (deeper d l))
      ∙ (ap (step_within ps (fs, done)) (past_margin d (32 ∷ 32 ∷ l))
      ∙ ap (λ (t : Bool). cond t (begin ps (fs, done) l) None) (ap (λ (n : ℕ). nat_le n 8) e ∙ le-leb d 8 b)))

  line_ends : (f : Frame) (fs : List Frame) (inner : List Stmt) (d : ℕ) (l : List ℕ) → length fs ≡ d → step ps (f ∷ fs, inner) (margin_onto (suc d) (125 ∷ l)) ≡ end (f ∷ fs, inner) (125 ∷ l)
  line_ends f fs inner d l e =
      ap (λ (n : ℕ). step_within ps (f ∷ fs, inner) (drop (2 * suc n) (margin_onto (suc d) (125 ∷ l)))) e
      ∙ ap (step_within ps (f ∷ fs, inner)) (past_margin (suc d) (125 ∷ l))

  line_taken : (st next : State) (d : ℕ) (l : List ℕ) (ls : Lines) → step ps st (margin_onto (suc d) l) ≡ Some next → body_from ps st (margin_onto (suc d) l ∷ ls) ≡ body_from ps next ls
  line_taken st next d l ls e = ap (option_and_then (λ (n : State). body_from ps n ls)) e

  -- lines of a block, with what follows it
  inner_lines : (st : State) (d : ℕ) (ls last : Lines) (rest : Lines) → body_from ps st (at_level (suc d) (indented ls ++ last) ++ rest) ≡ body_from ps st (at_level (suc (suc d)) ls ++ (at_level (suc d) last ++ rest))
  inner_lines st d ls last rest =
      ap (λ (x : Lines). body_from ps st (x ++ rest)) (map-append (margin_onto (suc d)) (indented ls) last)
      ∙ (ap (body_from ps st) (append_assoc (at_level (suc d) (indented ls)) (at_level (suc d) last) rest)
      ∙ ap (λ (x : Lines). body_from ps st (x ++ (at_level (suc d) last ++ rest))) (one_deeper (suc d) ls))

  -- what reading some statements gives, at a level
  abbrev Reads : ℕ → List Stmt → Type 0
  Reads d xs = (fs : List Frame) (done : List Stmt) (rest : Lines) → length fs ≡ d → body_from ps (fs, done) (at_level (suc d) (flat_map stmt_lines xs) ++ rest) ≡ body_from ps (fs, done ++ xs) rest

  abbrev ReadsOne : ℕ → Stmt → Type 0
  ReadsOne d x = (fs : List Frame) (done : List Stmt) (rest : Lines) → length fs ≡ d → body_from ps (fs, done) (at_level (suc d) (stmt_lines x) ++ rest) ≡ body_from ps (fs, done ++ x ∷ []) rest

  -- a block that was entered is read up to its end
  block_inner : (d : ℕ) (xs : List Stmt) → Reads (suc d) xs → (o : Opening) (fs : List Frame) (done : List Stmt) (last rest : Lines) → length fs ≡ d → body_from ps (enter o (fs, done)) (at_level (suc d) (indented (flat_map stmt_lines xs) ++ last) ++ rest) ≡ body_from ps (record { before = done; opening = o } ∷ fs, xs) (at_level (suc d) last ++ rest)
  block_inner d xs h o fs done last rest e =
      inner_lines (enter o (fs, done)) d (flat_map stmt_lines xs) last rest
      ∙ h (record { before = done; opening = o } ∷ fs) [] (at_level (suc d) last ++ rest) (ap suc e)

  block_end : (o : Opening) (fs : List Frame) (done inner : List Stmt) (d : ℕ) (rest : Lines) → length fs ≡ d → body_from ps (record { before = done; opening = o } ∷ fs, inner) (at_level (suc d) (codes "}" ∷ []) ++ rest) ≡ body_from ps (fs, done ++ closed o inner ∷ []) rest
  block_end o fs done inner d rest e = line_taken (record { before = done; opening = o } ∷ fs, inner) (fs, done ++ closed o inner ∷ []) d (codes "}") rest (line_ends (record { before = done; opening = o }) fs inner d [] e)

  -- an `if` is entered
  if_begins : Each IsParam ps → (test : Expr) → IsTest ps test → (fs : List Frame) (done : List Stmt) → begin ps (fs, done) (if_text test) ≡ Some (enter (Taken test) (fs, done))
  if_begins fine test h fs done =
      ap (option_map (λ (y : Expr). enter (Taken y) (fs, done))) (test_read ps fine test (codes " {") h)

  assigns_read : (d : ℕ) (x : Stmt) → d ≤ 8 → Assigns x → ReadsOne d x
  assigns_read d x b a fs done rest e =
      ap (λ (ls : Lines). body_from ps (fs, done) (at_level (suc d) ls ++ rest)) (ap stmt_lines (sym a.tree) ∙ stmt_line a.assignment)
      ∙ (line_taken (fs, done) (append_to (fs, done) (assignment_tree a.assignment)) d (line_of a.assignment) rest
      (line_begins fs done d (line_of a.assignment) e b ∙ ap (option_map (λ (y : Assignment). append_to (fs, done) (assignment_tree y))) (line_read a.assignment a.fine))
      ∙ ap (λ (y : Stmt). body_from ps (fs, done ++ y ∷ []) rest) a.tree)

  block_read : (d : ℕ) (xs : List Stmt) → d ≤ 8 → Reads (suc d) xs → ReadsOne d (s.Block xs)
  block_read d xs b h fs done rest e =
      ap (λ (ls : Lines). body_from ps (fs, done) (at_level (suc d) ls ++ rest)) (block_lines xs)
      ∙ (line_taken (fs, done) (enter Bare (fs, done)) d (codes "{") (at_level (suc d) (indented (flat_map stmt_lines xs) ++ codes "}" ∷ []) ++ rest) (line_begins fs done d (codes "{") e b)
      ∙ (block_inner d xs h Bare fs done (codes "}" ∷ []) rest e
      ∙ block_end Bare fs done xs d rest e))

  when_read : Each IsParam ps → (d : ℕ) (test : Expr) (taken : List Stmt) → d ≤ 8 → IsTest ps test → Reads (suc d) taken → ReadsOne d (s.If test taken None)
  when_read fine d test taken b i h fs done rest e =
      ap (λ (ls : Lines). body_from ps (fs, done) (at_level (suc d) ls ++ rest)) (when_lines test taken)
      ∙ (line_taken (fs, done) (enter (Taken test) (fs, done)) d (if_text test) (at_level (suc d) (indented (flat_map stmt_lines taken) ++ codes "}" ∷ []) ++ rest) (line_begins fs done d (if_text test) e b ∙ if_begins fine test i fs done)
      ∙ (block_inner d taken h (Taken test) fs done (codes "}" ∷ []) rest e
      ∙ block_end (Taken test) fs done taken d rest e))

  either_read : Each IsParam ps → (d : ℕ) (test : Expr) (taken other : List Stmt) → d ≤ 8 → IsTest ps test → Reads (suc d) taken → Reads (suc d) other → ReadsOne d (s.If test taken (Some other))
  either_read fine d test taken other b i h k fs done rest e =
      let last : Lines = codes "} else {" ∷ (indented (flat_map stmt_lines other) ++ codes "}" ∷ []) in
      let opened : Frame = record { before = done; opening = Taken test } in
      ap (λ (ls : Lines). body_from ps (fs, done) (at_level (suc d) ls ++ rest)) (either_lines test taken other)
      ∙ (line_taken (fs, done) (enter (Taken test) (fs, done)) d (if_text test) (at_level (suc d) (indented (flat_map stmt_lines taken) ++ last) ++ rest) (line_begins fs done d (if_text test) e b ∙ if_begins fine test i fs done)
      ∙ (block_inner d taken h (Taken test) fs done last rest e
      ∙ (line_taken (opened ∷ fs, taken) (enter (Other test taken) (fs, done)) d (codes "} else {") (at_level (suc d) (indented (flat_map stmt_lines other) ++ codes "}" ∷ []) ++ rest) (line_ends opened fs taken d (codes " else {") e)
      ∙ (block_inner d other k (Other test taken) fs done (codes "}" ∷ []) rest e
      ∙ block_end (Other test taken) fs done other d rest e))))

  none_read : (d : ℕ) → Reads d []
  none_read d fs done rest e = ap (λ (x : List Stmt). body_from ps (fs, x) rest) (sym (append-nil done))

  more_read : (d : ℕ) (x : Stmt) (xs : List Stmt) → ReadsOne d x → Reads d xs → Reads d (x ∷ xs)
  more_read d x xs h k fs done rest e =
      ap (λ (ls : Lines). body_from ps (fs, done) (ls ++ rest)) (map-append (margin_onto (suc d)) (stmt_lines x) (flat_map stmt_lines xs))
      ∙ (ap (body_from ps (fs, done)) (append_assoc (at_level (suc d) (stmt_lines x)) (at_level (suc d) (flat_map stmt_lines xs)) rest)
      ∙ (h fs done (at_level (suc d) (flat_map stmt_lines xs) ++ rest) e
      ∙ (k fs (done ++ x ∷ []) rest e
      ∙ ap (λ (y : List Stmt). body_from ps (fs, y) rest) (append_assoc done (x ∷ []) xs))))

  mutual
    statement_read : Each IsParam ps → (d : ℕ) (x : Stmt) → IsStatement ps d x → ReadsOne d x
    statement_read fine _ _ (IsStatement.assign d n x b l v) = assigns_read d (s.Assign (t.Register (e.Number n)) x) b (assigned n x l v)
    statement_read fine _ _ (IsStatement.block d xs b h) = block_read d xs b (statements_read fine (suc d) xs h)
    statement_read fine _ _ (IsStatement.when d test taken b i h) = when_read fine d test taken b i (statements_read fine (suc d) taken h)
    statement_read fine _ _ (IsStatement.either d test taken other b i h k) = either_read fine d test taken other b i (statements_read fine (suc d) taken h) (statements_read fine (suc d) other k)

    pub statements_read : Each IsParam ps → (d : ℕ) (xs : List Stmt) → AreStatements ps d xs → Reads d xs
    statements_read fine _ _ (AreStatements.none d) = none_read d
    statements_read fine _ _ (AreStatements.more d x xs h k) = more_read d x xs (statement_read fine d x h) (statements_read fine d xs k)
