use Rattle.udb_search.proofs.Replied.{reads, unread}
use Rattle.udb_search.proofs.answers.verdict_text.Goals as goal

pub returns-in-Ok : goal.returns-in-Ok
returns-in-Ok c = reads c.args.lines.now c.args.space.now c.args.part.now c.args.cond.now c.in-Ok.proof c.in-Ok.ensures.spelled c.verdict_on.result c.verdict_on.ensures

pub returns-in-Err-Line : goal.returns-in-Err-Line
returns-in-Err-Line c = unread c.args.lines.now c.args.space.now c.args.part.now c.args.cond.now c.in-Err-Line.number (c.read_proof.ensures.line c.in-Err-Line.number cc) c.bad_line_text.result (rw c.in-Err-Line.number-is c.bad_line_text.ensures)
