use Rattle.std.proofs.Common.{◌∙◌}
use Rattle.idl_fault.proofs.Ends.{functions_left}
use Rattle.idl_fault.proofs.stops.functions_stop.Goals as goal

pub returns : goal.returns
returns c = c.left.ensures ∙ functions_left c.args.tokens.now _ c.in_ok-run.ensures
