-- What statements stand on, from what stands round a body.
use Rattle.std.proofs.Common.{List, ◌++◌}
use Rattle.idl_tree.specs.Each.{Each}
use Rattle.udb_base.specs.declared.conditions.Cond.{Cond}
use Rattle.idl_tree.specs.declared.expressions.Expr.{Expr}
use Rattle.idl_tree.specs.declared.statements.Stmt.{Stmt}
use Rattle.idl_spec.specs.Harts.{State}
use Rattle.idl_spec.specs.Settings.{Setting, Scope}
use Rattle.idl_spec.specs.Mean.{mean_stmts}
use Rattle.idl_spec.specs.Demands.{Visible}
use Rattle.type_laws.specs.Kinds.{Mode, Round, AllPass}
use Rattle.type_laws.specs.Worlds.{World, Tested}
use Rattle.type_laws.specs.Callees.{Callable}
use Rattle.type_laws.specs.Software.{Software}
use Rattle.type_laws.proofs.Sound.{Stands}
use Rattle.type_laws.proofs.TestForms as test
use Rattle.type_laws.proofs.Expressions.{expressions_sound}
use Rattle.type_laws.proofs.StatementFlows.{CleanStmt, Flows, all_declared, block_in}
use Rattle.type_laws.proofs.StatementForms.{Tells}
use Rattle.type_laws.proofs.StatementCalls.{sound-called}
use Rattle.type_laws.proofs.SoftWrites.{sound-SoftWrite}
use Rattle.type_laws.proofs.StatementFields.{sound-assigned-Field}
use Rattle.type_laws.proofs.Statements as statements
use Rattle.type_laws.proofs.Statements.{Grounds}

module _ (e : Setting) (mode : Mode) (round : Round) (world : World e) (tested : Tested e) (good : Callable e mode round) (software : Software e mode) where
  tests_tell : (x : Expr) → Tells e mode round x
  tests_tell x inner known clean pass scope s h v t is =
      let told = test.tells e tested x inner scope s t v h.matches clean.1 is in
      record { yes = told.yes; no = told.no }

  pub grounds : Grounds e mode round
  grounds =
      let sound = expressions_sound e mode round world tested good software in
      record {
        expressions = sound;
        tests = tests_tell;
        fields = sound-assigned-Field e mode round sound world software;
        soft_writes = sound-SoftWrite e mode round sound software;
        calls = sound-called e mode round sound good;
      }

  -- statements in turn whose checks pass go on with the names that they declare, or return what fits
  pub body_sound : (ss : List Stmt) (inner : List Visible) (known : List Cond) → Each (CleanStmt e mode round) ss → AllPass e (block_in e mode round ss inner known)
      → (scope : Scope) (s : State) → Stands e mode round inner known scope s → Flows e mode round (inner ++ all_declared ss) (mean_stmts e ss scope s)
  body_sound = statements.statements_sound e mode round grounds
