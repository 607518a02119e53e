use Rattle.std.proofs.Common.{◌∙◌}
use Rattle.cond_tree.proofs.RequirementLaws.{exactly_read}
use Rattle.cond_tree.proofs.members.requirement_of.Goals as goal

pub returns-clause-value : goal.returns-clause-value
returns-clause-value c = c.ok.ensures.value ∙ exactly_read c.args.text.now c.parse_requirement.result c.parse_requirement.ensures.spelled c.parse_requirement.ensures.exact
