use Rattle.std.proofs.Common.{◌&&◌, sym, ap, ◌∙◌}
use Rattle.udb_cond.specs.Steps.{steps_of}
use Rattle.udb_check.specs.Nodes.{first_value_fails}
use Rattle.udb_check.proofs.NodeLaws.{no-first}
use Rattle.udb_check.proofs.nodes.first_fails.Goals as goal

pub returns-else-fails : goal.returns-else-fails
returns-else-fails c =
    let path = steps_of c.args.cells.now in
    let law = no-first c.args.space.now path c.args.place c.args.param.now c.requires.lawful c.requires.at in
    c.if-fails.false ∙ sym (law ∙ ap (λ b. b && first_value_fails path c.args.place c.args.param.now.domain) (sym c.fails.ensures ∙ c.if-fails.false))
