use Rattle.idl_token.specs.Seen.{symbols}
use Rattle.idl_parse.proofs.StmtSteps.{shape_small}
use Rattle.idl_parse.proofs.types.shape.Goals as goal

pub returns-clause-small : goal.returns-clause-small
returns-clause-small c = shape_small c.args.depth (symbols c.args.tokens.now.rest.now) _ _ c.any_shape.ensures
