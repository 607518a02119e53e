use Rattle.std.proofs.Common.{map, ap, ◌∙◌}
use Rattle.idl_spec.specs.Checks.{variable_names}
use Rattle.type_kinds.specs.Views.{visible_of}
use Rattle.type_issues.specs.Issues.{checks_of}
use Rattle.type_checks.proofs.BodyForms.{operation-is, if-ok}
use Rattle.type_checks.proofs.bodies.operation_checks.Goals as goal

pub returns : goal.returns
returns c =
    if-ok checks_of c.checks_in.result
    (operation-is c.args.space.now c.args.program.now c.args.presence.now c.args.body.now c.as_slice-2.result.now c.as_slice-3.result.now (map visible_of c.as_slice-4.result.now) c.as_slice-2.ensures c.as_slice-3.ensures
    (ap (map visible_of) c.as_slice-4.ensures ∙ c.in_ok-names.ensures ∙ ap variable_names c.as_slice.ensures))
    c.checks_in.ensures
