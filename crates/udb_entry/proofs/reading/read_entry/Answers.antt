use Rattle.udb_entry.proofs.AnswerLemmas.{answer_given, answer_only, answer_broken, answer_broken_only}
use Rattle.udb_entry.proofs.reading.read_entry.Goals as goal

pub returns-clause-given : goal.returns-clause-given
returns-clause-given c e is = answer_given c.args.row.now c.read.result e c.read.ensures is

pub returns-clause-only : goal.returns-clause-only
returns-clause-only c e g = answer_only c.args.row.now c.read.result e c.read.ensures g

pub returns-clause-broken : goal.returns-clause-broken
returns-clause-broken c b is = answer_broken c.args.row.now c.read.result b c.read.ensures is

pub returns-clause-broken_only : goal.returns-clause-broken_only
returns-clause-broken_only c b f = answer_broken_only c.args.row.now c.read.result b c.read.ensures f
