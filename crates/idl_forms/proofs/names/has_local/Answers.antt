use Rattle.std.proofs.Common.{ap}
use Rattle.std.specs.Prelude.{is_some}
use Rattle.idl_forms.specs.States.{as_scalar}
use Rattle.idl_forms.proofs.SceneKinds.{some-map}
use Rattle.idl_forms.proofs.names.has_local.Goals as goal

pub returns : goal.returns
returns c = cc (some-map as_scalar c.local.result, ap is_some c.local.ensures)
