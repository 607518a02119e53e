use Rattle.udb_top.proofs.Made.{result_text}
use Rattle.udb_top.proofs.manual.printed_manual.Goals as goal

pub returns : goal.returns
returns c = result_text c.args.bundle.now c.in_ok-space.space c.in_ok-manual.manual c.in_ok-space.ensures c.in_ok-manual.ensures c.print_manual.result c.print_manual.ensures
