use Rattle.udb_entry.proofs.AnswerLemmas.{spelled_at, unspelled_at}
use Rattle.udb_entry.proofs.reading.read.Goals as goal

pub returns-in-Ok : goal.returns-in-Ok
returns-in-Ok c = spelled_at c.args.row.now c.as_str.result.now c.in-Ok.tree c.answer_of.result c.as_str.ensures (c.read_tree.ensures.read c.in-Ok.tree c.in-Ok.is) c.answer_of.ensures

pub returns-in-Err : goal.returns-in-Err
returns-in-Err c = unspelled_at c.args.row.now c.as_str.result.now c.read_tree.result c.in-Err.fault c.spelling_fault.result c.as_str.ensures c.in-Err.is c.read_tree.ensures.bad c.read_tree.ensures.outside c.spelling_fault.ensures
