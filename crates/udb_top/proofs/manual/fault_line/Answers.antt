use Rattle.std.proofs.Common.{Err, ap}
use Rattle.udb_top.proofs.manual.fault_line.Goals as goal

pub returns-in-Err-Line : goal.returns-in-Err-Line
returns-in-Err-Line c = c.in-Err-Line.ensures.bad c.in-Err-Line.number (ap Err c.in-Err-Line.field-0-is)
