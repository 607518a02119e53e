use Rattle.std.proofs.Common.{map, ap, ◌∙◌, length, arith}
use Rattle.std.proofs.lemmas.List.{take_all}
use Rattle.idl_reach.specs.Asked.{chosen, fields_call}
use Rattle.idl_reach.proofs.FieldCalls.{marked-by-fields}
use Rattle.idl_reach.proofs.fields.mark_called_by_fields.Goals as goal

pub returns : goal.returns
returns c =
    let program = c.args.program.now in
    ap (chosen program.functions) (c.loop-f.invariant ∙ ap (map (λ f. fields_call f.name program.csrs)) (take_all c.loop-f.f-index program.functions (omega (arith, ap length c.as_slice-f-items.ensures))))
    ∙ marked-by-fields program
