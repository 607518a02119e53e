-- Statements that end in a return never go on.
use Rattle.std.proofs.Common.{◌≡◌, ℕ, Bool, true, false, List, [], ◌∷◌, map, Option, None, Some, length, sym, ◌∙◌, subst}
use Rattle.std.specs.Prelude.{IfSome, option_map, if◌then◌else◌}
use Rattle.idl_tree.specs.Each.{Each}
use Rattle.idl_tree.specs.declared.expressions.Expr.{Expr}
use Rattle.idl_tree.specs.declared.statements.Stmt.{Stmt}
use Rattle.idl_tree.specs.declared.statements.Stmt.TheVariants as st
use Rattle.idl_tree.specs.StmtLaws.{Cases-Stmt, induct-Stmt}
use Rattle.idl_spec.specs.Values.{Value, bits, flag, member, given_text, written_text}
use Rattle.idl_spec.specs.Harts.{State, Outcome, done, raised, stuck, and_then}
use Rattle.idl_spec.specs.Settings.{Setting, Scope, Flow, goes_on, returns, Change, with_flag}
use Rattle.idl_spec.specs.Mean.{onward, in_turn, leaving, block, other_block, mean_expr, mean_stmt, mean_stmts}
use Rattle.idl_spec.specs.MeanLaws.{runs-Block, runs-Return, runs-If}
use Rattle.idl_spec.specs.Deeds.{stmt_ends, ends_in_return}
use Rattle.idl_spec.specs.DeedLaws.{ends-Declare, ends-Assign, ends-Block, ends-If, ends-For, ends-Jump, ends-Raise, ends-WriteMemory, ends-SoftWrite, ends-Call}
use Rattle.type_laws.proofs.Outcomes.{both_true}

-- what runs doesn't go on to a next statement
abbrev pub IsOver : Outcome Flow → Type 0
IsOver (done (goes_on scope) s) = ⊥
IsOver _ = Unit {0}

over_onward : (o : Outcome Flow) (next : Change) → IsOver o → IsOver (and_then o (onward next))
over_onward (done (goes_on scope) s) next h = absurd h
over_onward (done (returns v) s) next h = tt
over_onward (raised code tval s) next h = tt
over_onward stuck next h = tt

then_over : (o : Outcome Flow) (next : Change) → ((scope : Scope) (s : State) → IsOver (next scope s)) → IsOver (and_then o (onward next))
then_over (done (goes_on scope) s) next h = h scope s
then_over (done (returns v) s) next h = tt
then_over (raised code tval s) next h = tt
then_over stuck next h = tt

over_leaving : (count : ℕ) (o : Outcome Flow) → IsOver o → IsOver (and_then o (leaving count))
over_leaving count (done (goes_on scope) s) h = absurd h
over_leaving count (done (returns v) s) h = tt
over_leaving count (raised code tval s) h = tt
over_leaving count stuck h = tt

returned_over : (o : Outcome Value) → IsOver (and_then o (λ v s. done (returns v) s))
returned_over (done v s) = tt
returned_over (raised code tval s) = tt
returned_over stuck = tt

flag_over : (o : Outcome Value) (next : Bool → State → Outcome Flow) → ((x : Bool) (s : State) → IsOver (next x s)) → IsOver (with_flag o next)
flag_over (done (flag x) s) next h = h x s
flag_over (done (bits v) s) next h = tt
flag_over (done (member k n) s) next h = tt
flag_over (done (given_text x) s) next h = tt
flag_over (done (written_text x) s) next h = tt
flag_over (raised code tval s) next h = tt
flag_over stuck next h = tt

module _ (e : Setting) where
  abbrev Ends : Stmt → Type 0
  Ends x = stmt_ends x ≡ true → (scope : Scope) (s : State) → IsOver (mean_stmt e x scope s)

  turns_over : (ss : List Stmt) → Each Ends ss → ends_in_return ss ≡ true → (scope : Scope) (s : State) → IsOver (mean_stmts e ss scope s)
  turns_over [] hs h scope s = absurd (cc)
  turns_over (x ∷ []) hs h scope s = over_onward (mean_stmt e x scope s) (in_turn []) (hs.0 h scope s)
  turns_over (x ∷ y ∷ ys) hs h scope s = then_over (mean_stmt e x scope s) (mean_stmts e (y ∷ ys)) (turns_over (y ∷ ys) hs.1 h)

  block_over : (ss : List Stmt) → Each Ends ss → ends_in_return ss ≡ true → (scope : Scope) (s : State) → IsOver (block (map (mean_stmt e) ss) scope s)
  block_over ss hs h scope s = over_leaving (length scope) (mean_stmts e ss scope s) (turns_over ss hs h scope s)

  over-Block : (ss : List Stmt) → Each Ends ss → Ends (st.Block ss)
  over-Block ss hs h scope s = subst IsOver (sym (runs-Block e ss scope s)) (block_over ss hs (sym (ends-Block ss) ∙ h) scope s)

  over-Return : (x : Expr) → Ends (st.Return x)
  over-Return x h scope s = subst IsOver (sym (runs-Return e x scope s)) (returned_over (mean_expr e x scope s))

  over-If : (test : Expr) (taken : List Stmt) (other : Option (List Stmt)) → Each Ends taken → IfSome other (Each Ends) → Ends (st.If test taken other)
  over-If test taken None hs ks h scope s = absurd (let b = sym (ends-If test taken None) ∙ h in cc)
  over-If test taken (Some other) hs ks h scope s =
      let b = both_true (ends_in_return taken) (ends_in_return other) (sym (ends-If test taken (Some other)) ∙ h) in
      subst IsOver (sym (runs-If e test taken (Some other) scope s)) (flag_over (mean_expr e test scope s) _ (side b.0 b.1))
    where
      side : ends_in_return taken ≡ true → ends_in_return other ≡ true → (x : Bool) (t : State) → IsOver (if x then block (map (mean_stmt e) taken) scope t else other_block (option_map (map (mean_stmt e)) (Some other)) scope t)
      side h k true t = block_over taken hs h scope t
      side h k false t = block_over other ks k scope t

  over : Cases-Stmt Ends
  over = record {
    declare = λ shape name x h. absurd (let b = sym (ends-Declare shape name x) ∙ h in cc);
    assign = λ target x h. absurd (let b = sym (ends-Assign target x) ∙ h in cc);
    block = over-Block;
    return = over-Return;
    if = over-If;
    for = λ name from to ss hs h. absurd (let b = sym (ends-For name from to ss) ∙ h in cc);
    jump = λ x h. absurd (let b = sym (ends-Jump x) ∙ h in cc);
    raise = λ code tval h. absurd (let b = sym (ends-Raise code tval) ∙ h in cc);
    write_memory = λ count at x h. absurd (let b = sym (ends-WriteMemory count at x) ∙ h in cc);
    soft_write = λ address x h. absurd (let b = sym (ends-SoftWrite address x) ∙ h in cc);
    call = λ name es h. absurd (let b = sym (ends-Call name es) ∙ h in cc);
  }

  each_ends : (ss : List Stmt) → Each Ends ss
  each_ends [] = tt
  each_ends (x ∷ xs) = (induct-Stmt Ends over x, each_ends xs)

  -- a body that ends in a return isn't done without one
  pub returns_over : (ss : List Stmt) → ends_in_return ss ≡ true → (scope : Scope) (s : State) → IsOver (mean_stmts e ss scope s)
  returns_over ss = turns_over ss (each_ends ss)
