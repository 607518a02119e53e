use Rattle.udb_entry.specs.Bodies.{functions_of}
use Rattle.udb_entry.proofs.ReadLemmas.{functions_read, functions_unread}
use Rattle.udb_entry.proofs.bodies.functions_of.Goals as goal

pub returns-in-Ok : goal.returns-in-Ok
returns-in-Ok c = functions_read c.args.source.now c.functions_answer.result c.in-Ok.functions c.named_functions.result c.in-Ok.is c.functions_answer.ensures c.named_functions.ensures

pub returns-in-Err : goal.returns-in-Err
returns-in-Err c = functions_unread c.args.source.now c.functions_answer.result c.in-Err.fault c.unread.result (functions_of c.args.source.now) c.in-Err.is c.functions_answer.ensures c.unread.ensures
