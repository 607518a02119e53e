use Rattle.std.proofs.Common.{◌≡◌, IfOk, map, subst, ap, ◌∙◌}
use Rattle.idl_spec.specs.Deeds.{repeated_for}
use Rattle.idl_reach.specs.Asked.{chosen}
use Rattle.idl_reach.proofs.FieldCalls.{reached-marked}
use Rattle.idl_reach.proofs.fields.reached_by_fields.Goals as goal

pub returns : goal.returns
returns c =
    let program = c.args.program.now in
    let fs = program.functions in
    subst (λ names. IfOk c.marked_names.result (λ ns. ns ≡ names))
    (ap (λ gs. map (λ f. f.name) (chosen gs c.as_slice.result.now)) c.as_slice-functions.ensures
    ∙ ap (λ ms. map (λ f. f.name) (chosen fs ms)) c.as_slice.ensures
    ∙ ap (map (λ f. f.name)) (subst (λ gs. chosen gs c.in_ok-marks.marks ≡ repeated_for gs gs (chosen gs c.in_ok-mark_called_by_fields.field-0)) c.as_slice-functions.ensures c.in_ok-marks.ensures
    ∙ ap (repeated_for fs fs) c.in_ok-mark_called_by_fields.ensures)
    ∙ reached-marked program)
    c.marked_names.ensures
