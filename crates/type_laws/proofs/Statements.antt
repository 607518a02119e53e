-- Each statement is sound over sound expressions, and so are statements in turn.
use Rattle.std.proofs.Common.{List, [], ◌∷◌, ◌++◌}
use Rattle.idl_tree.specs.Each.{Each}
use Rattle.udb_base.specs.declared.names.Name.{Name}
use Rattle.udb_base.specs.declared.conditions.Cond.{Cond}
use Rattle.idl_tree.specs.declared.expressions.Expr.{Expr}
use Rattle.idl_tree.specs.declared.statements.Target.{Target}
use Rattle.idl_tree.specs.declared.statements.Target.TheVariants as t
use Rattle.idl_tree.specs.declared.statements.Stmt.{Stmt}
use Rattle.idl_tree.specs.declared.statements.Stmt.TheVariants as st
use Rattle.idl_tree.specs.StmtLaws.{Cases-Stmt, induct-Stmt}
use Rattle.idl_spec.specs.Harts.{State}
use Rattle.idl_spec.specs.Settings.{Setting, Scope}
use Rattle.idl_spec.specs.Mean.{mean_stmts}
use Rattle.idl_spec.specs.Demands.{Visible}
use Rattle.type_laws.specs.Kinds.{Mode, Round, AllPass}
use Rattle.type_laws.proofs.Sound.{Stands, Sound}
use Rattle.type_laws.proofs.StatementFlows.{CleanStmt, Flows, SoundStmt, all_declared, block_in, in_turn_sound}
use Rattle.type_laws.proofs.StatementForms.{Tells, sound-Declare, sound-Block, sound-Return, sound-If, sound-Jump, sound-Raise}
use Rattle.type_laws.proofs.Loops.{sound-For}
use Rattle.type_laws.proofs.StatementWrites.{sound-WriteMemory}
use Rattle.type_laws.proofs.StatementTargets.{sound-assigned-Word}
use Rattle.type_laws.proofs.StatementParts.{sound-assigned-Bit, sound-assigned-Slice}
use Rattle.type_laws.proofs.StatementRegisters.{sound-assigned-Register}

-- what statements stand on: sound expressions, tests that tell their claims, and the three forms that ask more of
-- the program than its checks at a node
pub record Grounds (e : Setting) (mode : Mode) (round : Round) : Type 0 where
  pub expressions : (x : Expr) → Sound e mode round x
  pub tests : (x : Expr) → Tells e mode round x
  pub fields : (csr field : Name) (x : Expr) → SoundStmt e mode round (st.Assign (t.Field csr field) x)
  pub soft_writes : (address x : Expr) → SoundStmt e mode round (st.SoftWrite address x)
  pub calls : (name : Name) (es : List Expr) → SoundStmt e mode round (st.Call name es)

module _ (e : Setting) (mode : Mode) (round : Round) (on : Grounds e mode round) where
  sound-Assign : (target : Target) (x : Expr) → SoundStmt e mode round (st.Assign target x)
  sound-Assign (t.Word name) x = sound-assigned-Word e mode round on.expressions name x
  sound-Assign (t.Bit name at) x = sound-assigned-Bit e mode round on.expressions name at x
  sound-Assign (t.Slice name high low) x = sound-assigned-Slice e mode round on.expressions name high low x
  sound-Assign (t.Register at) x = sound-assigned-Register e mode round on.expressions at x
  sound-Assign (t.Field csr field) x = on.fields csr field x

  cases : Cases-Stmt (SoundStmt e mode round)
  cases = record {
    declare = sound-Declare e mode round on.expressions;
    assign = sound-Assign;
    block = sound-Block e mode round on.expressions;
    return = sound-Return e mode round on.expressions;
    if = sound-If e mode round on.expressions on.tests;
    for = sound-For e mode round on.expressions;
    jump = sound-Jump e mode round on.expressions;
    raise = sound-Raise e mode round on.expressions;
    write_memory = sound-WriteMemory e mode round on.expressions;
    soft_write = on.soft_writes;
    call = on.calls;
  }

  -- each statement whose checks pass is sound
  pub statement_sound : (x : Stmt) → SoundStmt e mode round x
  statement_sound = induct-Stmt (SoundStmt e mode round) cases

  each_sound : (ss : List Stmt) → Each (SoundStmt e mode round) ss
  each_sound [] = tt
  each_sound (x ∷ xs) = (statement_sound x, each_sound xs)

  -- and so are statements in turn
  pub statements_sound : (ss : List Stmt) (inner : List Visible) (known : List Cond) → Each (CleanStmt e mode round) ss → AllPass e (block_in e mode round ss inner known)
      → (scope : Scope) (s : State) → Stands e mode round inner known scope s → Flows e mode round (inner ++ all_declared ss) (mean_stmts e ss scope s)
  statements_sound ss = in_turn_sound e mode round ss (each_sound ss)
