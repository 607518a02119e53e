use Rattle.idl_types.proofs.TypedLaws.{typed-never-stuck}
use Rattle.idl_types.proofs.laws.typed_bodies_are_never_stuck.Goals as goal

pub returns : goal.returns
returns c = typed-never-stuck c.fitting_bodies_are_never_stuck.ensures
