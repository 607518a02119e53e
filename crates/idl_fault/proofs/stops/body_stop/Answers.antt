use Rattle.std.proofs.Common.{◌∙◌}
use Rattle.idl_fault.proofs.Ends.{body_left}
use Rattle.idl_fault.proofs.stops.body_stop.Goals as goal

pub returns : goal.returns
returns c = c.left.ensures ∙ body_left c.args.tokens.now _ c.in_ok-run.ensures
