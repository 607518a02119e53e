use Rattle.std.proofs.Common.{◌+◌, take, sym, subst, arith}
use Rattle.udb_spec.specs.Cells.{ParamsWithin}
use Rattle.udb_cond.specs.Steps.{steps_of}
use Rattle.udb_refute.proofs.FirstLaws.{next-param}
use Rattle.udb_refute.proofs.completions.first_values.Goals as goal

pub loop-place-preserved : goal.loop-place-preserved
loop-place-preserved c =
    let path = steps_of c.args.cells.now in
    let ps = c.as_slice-params.result.now in
    subst (λ xs. ParamsWithin path 0 (take (c.loop-place.place + 1) ps) xs) (sym c.in_ok-push.ensures.ok)
    (next-param c.args.space.now path ps c.loop-place.values c.loop-place.place c.index-params-place.result c.in_ok-first_value.field-0 c.requires c.as_slice-params.ensures (omega arith) c.index-params-place.is c.in_ok-first_value.ensures c.loop-place.invariant)
