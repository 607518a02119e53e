use Rattle.std.proofs.Common.{[], ◌++◌, ap, ◌∙◌}
use Rattle.std.specs.Prelude.{filter_map, map}
use Rattle.idl_spec.specs.Fields.{layout}
use Rattle.idl_spec.specs.Programs.{reset_field}
use Rattle.idl_forms.specs.States.{field_of}
use Rattle.udb_csr.proofs.ResetLaws.{fields-at-reset, one-more}
use Rattle.udb_csr.proofs.reset.all_values.Goals as goal

pub loop-place-preserved : goal.loop-place-preserved
loop-place-preserved c =
    let space = c.args.evaluator.now.space in
    let full = c.args.full.now in
    let program = c.args.evaluator.now.program in
    one-more (λ d. filter_map (reset_field space full program d.name) (layout space full d)) c.args.csrs.now c.loop-place.place c.index-csrs-place.result []
    (map field_of c.loop-place.values) (map field_of c.push_fields.new.values) c.loop-place-test.true c.index-csrs-place.is c.loop-place.invariant
    (c.in_ok-push_fields.ensures ∙ ap (λ ys. map field_of c.loop-place.values ++ ys) (fields-at-reset space full program c.index-csrs-place.result))
