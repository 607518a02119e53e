use Rattle.std.proofs.Common.{Ok, Err}
use Rattle.udb_db.specs.declared.accepting.AcceptFault.TheVariants as fault
use Rattle.udb_db.proofs.AcceptLemmas.{answer_is, sound_success, first_refusal}
use Rattle.udb_db.proofs.accepting.accept.Goals as goal

pub returns-clause-accepted : goal.returns-clause-accepted
returns-clause-accepted c rows e = answer_is c.args.tables c.answer.result (Ok rows) c.answer.ensures e

pub returns-clause-accepted_only : goal.returns-clause-accepted_only
returns-clause-accepted_only c sound = sound_success c.args.tables c.answer.result c.answer.ensures sound

pub returns-clause-broken : goal.returns-clause-broken
returns-clause-broken c b rows e = answer_is c.args.tables c.answer.result (Err (fault.Broken b rows)) c.answer.ensures e

pub returns-clause-broken_only : goal.returns-clause-broken_only
returns-clause-broken_only c b first = first_refusal c.args.tables c.answer.result b c.answer.ensures first

pub returns-clause-memory : goal.returns-clause-memory
returns-clause-memory c rows e = answer_is c.args.tables c.answer.result (Err (fault.Memory rows)) c.answer.ensures e
