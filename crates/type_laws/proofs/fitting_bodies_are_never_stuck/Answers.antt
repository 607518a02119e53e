use Rattle.type_laws.proofs.Fitted.{never_stuck}
use Rattle.type_laws.proofs.fitting_bodies_are_never_stuck.Goals as goal

pub returns : goal.returns
returns c = never_stuck
