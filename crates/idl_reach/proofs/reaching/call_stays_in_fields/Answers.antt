use Rattle.std.proofs.Common.{sym, ap, ◌∙◌}
use Rattle.std.specs.Prelude.{not}
use Rattle.std.specs.List.{list_any}
use Rattle.idl_spec.specs.Deeds.{leaves_fields, repeated_for}
use Rattle.idl_reach.specs.Asked.{chosen, does}
use Rattle.idl_reach.proofs.MarkedFunctions.{stays-reached}
use Rattle.idl_reach.proofs.reaching.call_stays_in_fields.Goals as goal

pub returns : goal.returns
returns c =
    let fs = c.args.functions.now in
    ap not
    (c.any_marked.ensures ∙ ap (λ ms. list_any (does (leaves_fields c.args.reads)) (chosen fs ms)) c.as_slice.ensures
    ∙ ap (list_any (does (leaves_fields c.args.reads))) (c.in_ok-marks.ensures ∙ ap (repeated_for fs fs) c.in_ok-mark_named.ensures))
    ∙ sym (stays-reached c.args.reads c.args.name.now fs)
