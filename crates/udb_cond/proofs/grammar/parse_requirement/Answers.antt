use Rattle.std.proofs.Common.{ap, ◌∙◌}
use Rattle.udb_cond.specs.Requirements.{requirement_of}
use Rattle.udb_cond.proofs.RequirementLemmas.{spelled, exact}
use Rattle.udb_cond.proofs.grammar.parse_requirement.Goals as goal

pub returns-clause-spelled : goal.returns-clause-spelled
returns-clause-spelled c = spelled c.args.text.now c.requirement.result _ c.ok_or.result c.ok_or.ensures.value (c.requirement.ensures ∙ ap requirement_of c.as_bytes.ensures.value)

pub returns-clause-exact : goal.returns-clause-exact
returns-clause-exact c = exact c.args.text.now c.requirement.result _ c.ok_or.result c.ok_or.ensures.value (c.requirement.ensures ∙ ap requirement_of c.as_bytes.ensures.value)
