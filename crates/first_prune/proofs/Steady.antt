-- What a body of the first path means: it always goes on, and so does what is shown of it, to the
-- same state.
use Rattle.std.proofs.Common.{◌≡◌, ◌++◌, ◌%◌, ◌^◌, ℕ, suc, Bool, true, false, List, [], ◌∷◌, map, refl, ap, sym, ◌∙◌, subst, Option, None, Some}
use Rattle.std.specs.Prelude.{All, if◌then◌else◌}
use Rattle.std.specs.Option.{option_map}
use Rattle.udb_base.specs.declared.conditions.Value.TheVariants.{Flag}
use Rattle.udb_base.specs.declared.spaces.Space.{Space}
use Rattle.udb_base.specs.declared.spaces.Full.{Full}
use Rattle.udb_spec.specs.Conditions.{same_bytes, value_of}
use Rattle.udb_spec.specs.Spaces.{mxlen, Valid}
use Rattle.idl_tree.specs.declared.widths.Width.TheVariants as w
use Rattle.idl_tree.specs.declared.expressions.Binary.TheVariants.{Add}
use Rattle.idl_tree.specs.declared.expressions.Expr.{Expr}
use Rattle.idl_tree.specs.declared.expressions.Expr.TheVariants as e
use Rattle.idl_tree.specs.declared.statements.Target.TheVariants as t
use Rattle.idl_tree.specs.declared.statements.Stmt.{Stmt}
use Rattle.idl_tree.specs.declared.statements.Stmt.TheVariants as s
use Rattle.idl_bits.specs.BitVector.{BitVector}
use Rattle.idl_bits.specs.Number.{extension}
use Rattle.idl_bits.specs.Operators.{sum_of}
use Rattle.idl_width.specs.NumberLaws.{number-Number}
use Rattle.idl_spec.specs.Harts.{State, Outcome, done, raised, stuck, and_then, read_register, write_register}
use Rattle.idl_spec.specs.Values.{Value as Meant, bits, flag, plain}
use Rattle.idl_spec.specs.Settings.{Scope, Flow, goes_on, returns, Change, with_flag}
use Rattle.idl_spec.specs.Fields.{bits_scope}
use Rattle.idl_spec.specs.Mean.{mean_expr, mean_stmt, in_turn, onward, block, other_block, leaving}
use Rattle.idl_spec.specs.MeanLaws.{mean-Number, mean-Sized, mean-Binary, mean-Register, runs-Assign, runs-Block, runs-If}
use Rattle.entry_tree.specs.declared.ParamEntry.{ParamEntry}
use Rattle.first_spec.specs.Bundle.{IsValue, literal, register, plus_literal, plus_register, IsTest, IsParam, IsStatement, assign, block as braces, when, either, AreStatements, none, more, is_switch_name}
use Rattle.first_prune.specs.Known.{Known, look, no_program}
use Rattle.first_prune.specs.Pruning.{prunes, pruned, pruned_one, pruned_if, known_truth, known_after, pruned-Assign, pruned-Block, pruned-If}
use Rattle.first_prune.proofs.Worlds.{chosen_true, chosen_false, same_so, space_with, SwitchValue, switch_value, Agrees}
use Rattle.first_prune.proofs.Asking.{setting_with, turned, Asks, asks}

-- an expression that gives bits and leaves the state
pub record Gives (space : Space) (full : Full) (x : Expr) (scope : Scope) (state : State) : Type 0 where
  pub vector : BitVector
  pub gives : mean_expr (setting_with space full) x scope state ≡ done (bits vector) state

module _ (space : Space) (full : Full) (scope : Scope) (state : State) where
  literal_gives : (k : ℕ) → Gives space full (e.Sized (w.Number 32) false k) scope state
  literal_gives k = record {
    vector = plain 32 (k % 2 ^ 32);
    gives = rw (mean-Sized (setting_with space full) (w.Number 32) false k scope state, number-Number space full (bits_scope no_program []) 32) refl;
  }

  register_gives : (n : ℕ) → Gives space full (e.Register (e.Number n)) scope state
  register_gives n = record {
    vector = plain (mxlen space full) (read_register state.x n);
    gives = rw (mean-Register (setting_with space full) (e.Number n) scope state, mean-Number (setting_with space full) n scope state) refl;
  }

  sum_gives : (x y : Expr) → Gives space full x scope state → Gives space full y scope state → Gives space full (e.Binary Add x y) scope state
  sum_gives x y a b = record {
    vector = sum_of a.vector b.vector;
    gives = rw (mean-Binary (setting_with space full) Add x y scope state, a.gives, b.gives) refl;
  }

  value_gives : (x : Expr) → IsValue x → Gives space full x scope state
  value_gives _ (literal k l) = literal_gives k
  value_gives _ (register n l) = register_gives n
  value_gives _ (plus_literal n k l m) = sum_gives _ _ (register_gives n) (literal_gives k)
  value_gives _ (plus_register n m l k) = sum_gives _ _ (register_gives n) (register_gives m)

-- an assignment goes on with some state
assignment_goes_on : (space : Space) (full : Full) (n : ℕ) (x : Expr) → IsValue x → (state : State) → (next : State) × (mean_stmt (setting_with space full) (s.Assign (t.Register (e.Number n)) x) [] state ≡ done (goes_on []) next)
assignment_goes_on space full n x v state =
    let a : Gives space full x [] state = value_gives space full [] state x v in
    (record state { x = write_register state.x n (extension (mxlen space full) a.vector) }, rw (runs-Assign (setting_with space full) (t.Register (e.Number n)) x [] state, mean-Number (setting_with space full) n [] state, a.gives) refl)

-- ---- statements in turn

joined : (f : Stmt → Change) (a b : List Stmt) (scope : Scope) (state : State) → in_turn (map f (a ++ b)) scope state ≡ and_then (in_turn (map f a) scope state) (onward (in_turn (map f b)))
joined f [] b scope state = refl
joined f (x ∷ xs) b scope state = at (f x scope state) (joined f xs b)
  where
    at : (o : Outcome Flow) → ((scope : Scope) (state : State) → in_turn (map f (xs ++ b)) scope state ≡ and_then (in_turn (map f xs) scope state) (onward (in_turn (map f b)))) → and_then o (onward (in_turn (map f (xs ++ b)))) ≡ and_then (and_then o (onward (in_turn (map f xs)))) (onward (in_turn (map f b)))
    at (done (goes_on scope) state) ih = ih scope state
    at (done (returns v) state) ih = refl
    at (raised code tval state) ih = refl
    at stuck ih = refl

-- both go on, to the same state
pub record GoOn (space : Space) (full : Full) (whole shown : List Stmt) (state : State) : Type 0 where
  pub next : State
  pub whole_goes : in_turn (map (mean_stmt (setting_with space full)) whole) [] state ≡ done (goes_on []) next
  pub shown_goes : in_turn (map (mean_stmt (setting_with space full)) shown) [] state ≡ done (goes_on []) next

module _ (space : Space) (full : Full) where
  -- the meaning of one statement
  abbrev one : Stmt → Change
  one = mean_stmt (setting_with space full)

  both_go : (a b : List Stmt) (state middle next : State) → in_turn (map one a) [] state ≡ done (goes_on []) middle → in_turn (map one b) [] middle ≡ done (goes_on []) next → in_turn (map one (a ++ b)) [] state ≡ done (goes_on []) next
  both_go a b state middle next h k =
      joined one a b [] state
      ∙ (ap (λ (o : Outcome Flow). and_then o (onward (in_turn (map one b)))) h ∙ k)

  append_goes : (a b : List Stmt) (shown others : List Stmt) (state : State) (first : GoOn space full a shown state) → GoOn space full b others first.next → GoOn space full (a ++ b) (shown ++ others) state
  append_goes a b shown others state first second = record {
    next = second.next;
    whole_goes = both_go a b state first.next second.next first.whole_goes second.whole_goes;
    shown_goes = both_go shown others state first.next second.next first.shown_goes second.shown_goes;
  }

  one_goes : (x : Stmt) (state next : State) → one x [] state ≡ done (goes_on []) next → in_turn (map one (x ∷ [])) [] state ≡ done (goes_on []) next
  one_goes x state next h = ap (λ (o : Outcome Flow). and_then o (onward (in_turn []))) h

  block_goes : (xs : List Stmt) (state next : State) → in_turn (map one xs) [] state ≡ done (goes_on []) next → in_turn (map one (s.Block xs ∷ [])) [] state ≡ done (goes_on []) next
  block_goes xs state next h =
      one_goes (s.Block xs) state next
      (runs-Block (setting_with space full) xs [] state ∙ ap (λ (o : Outcome Flow). and_then o (leaving 0)) h)

  -- the block that a test chooses goes on
  abbrev Ran : Bool → List Stmt → Option (List Stmt) → State → State → Type 0
  Ran true taken other state next = in_turn (map one taken) [] state ≡ done (goes_on []) next
  Ran false taken None state next = state ≡ next
  Ran false taken (Some other) state next = in_turn (map one other) [] state ≡ done (goes_on []) next

  -- the block that a test takes
  abbrev Chosen : Bool → List Stmt → Option (List Stmt) → Change
  Chosen true taken other = block (map one taken)
  Chosen false taken other = other_block (option_map (map one) other)

  chosen_goes : (b : Bool) (taken : List Stmt) (other : Option (List Stmt)) (state next : State) → Ran b taken other state next → Chosen b taken other [] state ≡ done (goes_on []) next
  chosen_goes true taken other state next h = ap (λ (o : Outcome Flow). and_then o (leaving 0)) h
  chosen_goes false taken None state next h = ap (λ (r : State). done (goes_on []) r) h
  chosen_goes false taken (Some other) state next h = ap (λ (o : Outcome Flow). and_then o (leaving 0)) h

  branch : (b : Bool) (taken : List Stmt) (other : Option (List Stmt)) (state : State) → with_flag (done (flag b) state) (λ x r. if x then block (map one taken) [] r else other_block (option_map (map one) other) [] r) ≡ Chosen b taken other [] state
  branch true taken other state = refl
  branch false taken other state = refl

  if_goes : (test : Expr) (b : Bool) (taken : List Stmt) (other : Option (List Stmt)) (state next : State) → mean_expr (setting_with space full) test [] state ≡ done (flag b) state → Ran b taken other state next → in_turn (map one (s.If test taken other ∷ [])) [] state ≡ done (goes_on []) next
  if_goes test b taken other state next m h =
      one_goes (s.If test taken other) state next
      (runs-If (setting_with space full) test taken other [] state
      ∙ (ap (λ (o : Outcome Meant). with_flag o (λ x r. if x then block (map one taken) [] r else other_block (option_map (map one) other) [] r)) m
      ∙ (branch b taken other state ∙ chosen_goes b taken other state next h)))

-- ---- bodies and what is shown of them

abbrev GoesAll : List ParamEntry → Full → List Stmt → Type 0
GoesAll params full xs = (known : Known) → Agrees params full known → (state : State) → GoOn (space_with params) full xs (pruned known xs) state

abbrev GoesAny : List ParamEntry → Full → Option (List Stmt) → Type 0
GoesAny params full None = Unit {0}
GoesAny params full (Some xs) = GoesAll params full xs

agrees_more : (params : List ParamEntry) (full : Full) (known : Known) (name : List ℕ) (b : Bool) → Agrees params full known → value_of (space_with params) full name ≡ Some (Flag b) → Agrees params full ((name, b) ∷ known)
agrees_more params full known name b agree v = record { agrees = λ other x h e. at other x h e (same_bytes name other) refl }
  where
    at : (other : List ℕ) (x : Bool) → is_switch_name params other ≡ true → look ((name, b) ∷ known) other ≡ Some x → (same : Bool) → same_bytes name other ≡ same → value_of (space_with params) full other ≡ Some (Flag x)
    at other x h e true same =
        let f : Some b ≡ Some x = sym (chosen_true (Some b) (look known other) (same_bytes name other) same) ∙ e in
        ap (value_of (space_with params) full) (sym (same_so name other same)) ∙ (v ∙ flags f)
      where
        flags : Some b ≡ Some x → Some (Flag b) ≡ Some (Flag x)
        flags f = cc
    at other x h e false same = agree.agrees other x h (sym (chosen_false (Some b) (look known other) (same_bytes name other) same) ∙ e)

module _ (params : List ParamEntry) (is_params : All IsParam params) (full : Full) (valid : Valid (space_with params) full) where
  abbrev Shows : Stmt → List Stmt → State → Type 0
  Shows x shown state = GoOn (space_with params) full (x ∷ []) shown state

  -- the test is decided
  decided_goes : (test : Expr) (b : Bool) (taken : List Stmt) (other : Option (List Stmt)) (known : Known) (state : State) → mean_expr (setting_with (space_with params) full) test [] state ≡ done (flag b) state → Agrees params full known → GoesAll params full taken → GoesAny params full other → Shows (s.If test taken other) (pruned_if (Some b) known test (prunes taken) (option_map prunes other)) state
  decided_goes test true taken other known state m agree goes goes_other =
      let g : GoOn (space_with params) full taken (pruned known taken) state = goes known agree state in
      record {
        next = g.next;
        whole_goes = if_goes (space_with params) full test true taken other state g.next m g.whole_goes;
        shown_goes = block_goes (space_with params) full (pruned known taken) state g.next g.shown_goes;
      }
  decided_goes test false taken None known state m agree goes goes_other =
      record { next = state; whole_goes = if_goes (space_with params) full test false taken None state state m refl; shown_goes = refl }
  decided_goes test false taken (Some other) known state m agree goes goes_other =
      let g : GoOn (space_with params) full other (pruned known other) state = goes_other known agree state in
      record {
        next = g.next;
        whole_goes = if_goes (space_with params) full test false taken (Some other) state g.next m g.whole_goes;
        shown_goes = block_goes (space_with params) full (pruned known other) state g.next g.shown_goes;
      }

  -- the test is open
  open_goes : (test : Expr) (b : Bool) (taken : List Stmt) (other : Option (List Stmt)) (known : Known) (state : State) → mean_expr (setting_with (space_with params) full) test [] state ≡ done (flag b) state → Agrees params full (known_after known test b) → GoesAll params full taken → GoesAny params full other → Shows (s.If test taken other) (pruned_if None known test (prunes taken) (option_map prunes other)) state
  open_goes test true taken None known state m agree goes goes_other =
      let g : GoOn (space_with params) full taken (pruned (known_after known test true) taken) state = goes (known_after known test true) agree state in
      record {
        next = g.next;
        whole_goes = if_goes (space_with params) full test true taken None state g.next m g.whole_goes;
        shown_goes = if_goes (space_with params) full test true (pruned (known_after known test true) taken) None state g.next m g.shown_goes;
      }
  open_goes test true taken (Some other) known state m agree goes goes_other =
      let g : GoOn (space_with params) full taken (pruned (known_after known test true) taken) state = goes (known_after known test true) agree state in
      record {
        next = g.next;
        whole_goes = if_goes (space_with params) full test true taken (Some other) state g.next m g.whole_goes;
        shown_goes = if_goes (space_with params) full test true (pruned (known_after known test true) taken) (Some (pruned (known_after known test false) other)) state g.next m g.shown_goes;
      }
  open_goes test false taken None known state m agree goes goes_other =
      record {
        next = state;
        whole_goes = if_goes (space_with params) full test false taken None state state m refl;
        shown_goes = if_goes (space_with params) full test false (pruned (known_after known test true) taken) None state state m refl;
      }
  open_goes test false taken (Some other) known state m agree goes goes_other =
      let g : GoOn (space_with params) full other (pruned (known_after known test false) other) state = goes_other (known_after known test false) agree state in
      record {
        next = g.next;
        whole_goes = if_goes (space_with params) full test false taken (Some other) state g.next m g.whole_goes;
        shown_goes = if_goes (space_with params) full test false (pruned (known_after known test true) taken) (Some (pruned (known_after known test false) other)) state g.next m g.shown_goes;
      }

  same_truth : (b c : Bool) → Some (Flag b) ≡ Some (Flag c) → b ≡ c
  same_truth b c h = cc

  chosen_if : (test : Expr) (taken : List Stmt) (other : Option (List Stmt)) → IsTest params test → GoesAll params full taken → GoesAny params full other → (known : Known) → Agrees params full known → (state : State) → Shows (s.If test taken other) (pruned_one (s.If test taken other) known) state
  chosen_if test taken other is_test goes goes_other known agree state =
      subst (λ (shown : List Stmt). Shows (s.If test taken other) shown state) (sym (pruned-If test taken other known)) (at (look known a.name) refl)
    where
      a : Asks params test
      a = asks params is_params test is_test

      v : SwitchValue (space_with params).params full.params a.name
      v = switch_value (space_with params) full params full.params is_params valid.values a.name a.named

      m : mean_expr (setting_with (space_with params) full) test [] state ≡ done (flag (turned a.on v.truth)) state
      m = a.meaning full v.truth state v.value

      at : (o : Option Bool) → look known a.name ≡ o → Shows (s.If test taken other) (pruned_if (known_truth known test) known test (prunes taken) (option_map prunes other)) state
      at (Some b) l =
          let is : v.truth ≡ b = same_truth v.truth b (sym v.value ∙ agree.agrees a.name b a.named l) in
          subst (λ (o : Option Bool). Shows (s.If test taken other) (pruned_if o known test (prunes taken) (option_map prunes other)) state)
          (sym (a.truth known ∙ (ap (option_map (turned a.on)) l ∙ ap (λ (c : Bool). Some (turned a.on c)) (sym is))))
          (decided_goes test (turned a.on v.truth) taken other known state m agree goes goes_other)
      at None l =
          subst (λ (o : Option Bool). Shows (s.If test taken other) (pruned_if o known test (prunes taken) (option_map prunes other)) state)
          (sym (a.truth known ∙ ap (option_map (turned a.on)) l))
          (open_goes test (turned a.on v.truth) taken other known state m (subst (Agrees params full) (sym (a.after known v.truth)) (agrees_more params full known a.name v.truth agree v.value)) goes goes_other)

  bare_goes : (xs : List Stmt) → GoesAll params full xs → (known : Known) → Agrees params full known → (state : State) → Shows (s.Block xs) (pruned_one (s.Block xs) known) state
  bare_goes xs goes known agree state =
      let g : GoOn (space_with params) full xs (pruned known xs) state = goes known agree state in
      subst (λ (shown : List Stmt). Shows (s.Block xs) shown state) (sym (pruned-Block xs known)) (record {
        next = g.next;
        whole_goes = block_goes (space_with params) full xs state g.next g.whole_goes;
        shown_goes = block_goes (space_with params) full (pruned known xs) state g.next g.shown_goes;
      })

  assign_goes : (n : ℕ) (x : Expr) → IsValue x → (known : Known) (state : State) → Shows (s.Assign (t.Register (e.Number n)) x) (pruned_one (s.Assign (t.Register (e.Number n)) x) known) state
  assign_goes n x v known state =
      let g : (next : State) × (mean_stmt (setting_with (space_with params) full) (s.Assign (t.Register (e.Number n)) x) [] state ≡ done (goes_on []) next) = assignment_goes_on (space_with params) full n x v state in
      let one : in_turn (map (mean_stmt (setting_with (space_with params) full)) (s.Assign (t.Register (e.Number n)) x ∷ [])) [] state ≡ done (goes_on []) g.0 = one_goes (space_with params) full (s.Assign (t.Register (e.Number n)) x) state g.0 g.1 in
      subst (λ (shown : List Stmt). Shows (s.Assign (t.Register (e.Number n)) x) shown state) (sym (pruned-Assign (t.Register (e.Number n)) x known)) (record { next = g.0; whole_goes = one; shown_goes = one })

  more_go : (x : Stmt) (xs : List Stmt) (known : Known) (state : State) (first : Shows x (pruned_one x known) state) → GoesAll params full xs → Agrees params full known → GoOn (space_with params) full (x ∷ xs) (pruned known (x ∷ xs)) state
  more_go x xs known state first goes agree = append_goes (space_with params) full (x ∷ []) xs (pruned_one x known) (pruned known xs) state first (goes known agree first.next)

  mutual
    one_steady : (depth : ℕ) (x : Stmt) → IsStatement params depth x → (known : Known) → Agrees params full known → (state : State) → Shows x (pruned_one x known) state
    one_steady depth _ (assign _ n x l m v) known agree state = assign_goes n x v known state
    one_steady depth _ (braces _ xs l are) known agree state = bare_goes xs (all_steady (suc depth) xs are) known agree state
    one_steady depth _ (when _ test taken l is_test are) known agree state = chosen_if test taken None is_test (all_steady (suc depth) taken are) tt known agree state
    one_steady depth _ (either _ test taken other l is_test are others) known agree state = chosen_if test taken (Some other) is_test (all_steady (suc depth) taken are) (all_steady (suc depth) other others) known agree state

    pub all_steady : (depth : ℕ) (xs : List Stmt) → AreStatements params depth xs → (known : Known) → Agrees params full known → (state : State) → GoOn (space_with params) full xs (pruned known xs) state
    all_steady depth _ (none _) known agree state = record { next = state; whole_goes = refl; shown_goes = refl }
    all_steady depth _ (more _ x xs is are) known agree state = more_go x xs known state (one_steady depth x is known agree state) (all_steady depth xs are) agree
