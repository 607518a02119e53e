use Rattle.udb_search.proofs.Replied.{rejects}
use Rattle.udb_search.proofs.answers.verdict_on.Goals as goal

pub returns-in-Some : goal.returns-in-Some
returns-in-Some c = rejects c.args.space.now c.args.part.now c.args.cond.now c.args.proof.now c.as_slice.result.now (cc (c.in_ok-find_flaw.ensures.first, c.in-Some.is, c.as_slice.ensures)) c.rejected_text.result c.rejected_text.ensures
