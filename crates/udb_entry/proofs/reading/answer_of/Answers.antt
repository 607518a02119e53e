use Rattle.std.proofs.Common.{subst}
use Rattle.udb_entry.specs.Parts.{IsExamined}
use Rattle.udb_entry.proofs.AnswerLemmas.{kept_answer, examined_answer}
use Rattle.udb_entry.proofs.reading.answer_of.Goals as goal

pub returns-in-Ok : goal.returns-in-Ok
returns-in-Ok c s = kept_answer c.args.row.now c.args.tree.now c.entry_by_rules.result c.entry_by_rules.ensures (subst (IsExamined c.args.row.now.kind c.args.tree.now) c.in-Ok.is c.examine.ensures) s

pub returns-in-Err : goal.returns-in-Err
returns-in-Err c s = examined_answer c.args.row.now c.args.tree.now c.in-Err.fault (subst (IsExamined c.args.row.now.kind c.args.tree.now) c.in-Err.is c.examine.ensures) s
