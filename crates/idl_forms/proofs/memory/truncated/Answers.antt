use Rattle.idl_forms.proofs.Masks.{masked}
use Rattle.idl_forms.proofs.memory.truncated.Goals as goal

pub returns : goal.returns
returns c = masked 64 c.args.width c.args.number c.requires.limit
