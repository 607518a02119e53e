use Rattle.udb_entry.specs.Bodies.{body_of}
use Rattle.udb_entry.proofs.ReadLemmas.{body_read, body_unread}
use Rattle.udb_entry.proofs.bodies.body.Goals as goal

pub returns-in-Ok : goal.returns-in-Ok
returns-in-Ok c = body_read c.args.name.now c.args.source.now c.body_answer.result c.in-Ok.body c.in-Ok.is c.body_answer.ensures.bare c.body_answer.ensures.matches

pub returns-in-Err : goal.returns-in-Err
returns-in-Err c = body_unread c.args.name.now c.args.source.now c.body_answer.result c.in-Err.fault c.unread.result (body_of c.args.source.now) c.in-Err.is c.body_answer.ensures.matches c.unread.ensures
