use Rattle.std.proofs.Common.{sym, ap, ◌∙◌}
use Rattle.std.specs.Result.{result_ok}
use Rattle.udb_cond.specs.Requirements.{requirement_of}
use Rattle.idl_forms.proofs.SceneKinds.{exactly-read}
use Rattle.type_kinds.proofs.formulas.requirement.Goals as goal

pub returns-in-Ok : goal.returns-in-Ok
returns-in-Ok c =
    sym (ap result_ok c.in-Ok.is) ∙ (exactly-read c.as_str.result.now c.parse_requirement.result c.parse_requirement.ensures.spelled c.parse_requirement.ensures.exact ∙ ap requirement_of c.as_str.ensures)

pub returns-in-Err : goal.returns-in-Err
returns-in-Err c =
    sym (ap result_ok c.in-Err.is) ∙ (exactly-read c.as_str.result.now c.parse_requirement.result c.parse_requirement.ensures.spelled c.parse_requirement.ensures.exact ∙ ap requirement_of c.as_str.ensures)
