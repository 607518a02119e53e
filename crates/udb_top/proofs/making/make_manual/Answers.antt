use Rattle.udb_top.proofs.Made.{result_made}
use Rattle.udb_top.proofs.making.make_manual.Goals as goal

pub returns : goal.returns
returns c = result_made c.args.bundle.now c.in_ok-full.full c.in_ok-statements.statements c.in_ok-full.ensures.completes c.in_ok-statements.ensures.keeps c.in_ok-statements.ensures.settles c.manual_with.result c.manual_with.ensures
