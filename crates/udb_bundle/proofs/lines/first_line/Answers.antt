use Rattle.std.proofs.Common.{sym}
use Rattle.udb_bundle.proofs.Cuts.{feed_some, feed_none, lines_cut, lines_last}
use Rattle.udb_bundle.proofs.lines.first_line.Goals as goal

pub returns-in-Some-clause-lines : goal.returns-in-Some-clause-lines
returns-in-Some-clause-lines c =
    rw (c.split_at.ensures.front, c.split_at-in-Some.ensures.back, c.split_at.ensures.back) (lines_cut c.args.bytes.now c.in-Some.at (feed_some c.args.bytes.now c.in-Some.at (sym c.in-Some.ensures)))

pub returns-in-None-clause-lines : goal.returns-in-None-clause-lines
returns-in-None-clause-lines c = lines_last c.args.bytes.now c.requires (feed_none c.args.bytes.now (sym c.in-None.ensures))
