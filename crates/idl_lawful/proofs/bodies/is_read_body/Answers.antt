use Rattle.std.proofs.Common.{sym, subst}
use Rattle.std.specs.Bool.{Decides}
use Rattle.type_laws.specs.Given.{IsReadBody}
use Rattle.idl_lawful.proofs.ReadingTests.{body-decides}
use Rattle.idl_lawful.proofs.bodies.is_read_body.Goals as goal

pub returns : goal.returns
returns c = subst (λ b. Decides b (IsReadBody c.args.space.now c.args.body.now)) (sym c.reads.ensures) (body-decides c.args.space.now c.args.body.now)
