use Rattle.std.proofs.Common.{◌+◌, take, sym, subst, arith}
use Rattle.udb_spec.specs.Cells.{ExtsWithin}
use Rattle.udb_cond.specs.Steps.{steps_of}
use Rattle.udb_refute.proofs.FirstLaws.{next-ext}
use Rattle.udb_refute.proofs.completions.first_versions.Goals as goal

pub loop-place-preserved : goal.loop-place-preserved
loop-place-preserved c =
    let path = steps_of c.args.cells.now in
    let es = c.as_slice-extensions.result.now in
    subst (λ cs. ExtsWithin path 0 (take (c.loop-place.place + 1) es) cs) (sym c.in_ok-push.ensures.ok)
    (next-ext c.args.space.now path es c.loop-place.choices c.loop-place.place c.index-extensions-place.result c.first_version.result c.requires c.as_slice-extensions.ensures (omega arith) c.index-extensions-place.is c.first_version.ensures c.loop-place.invariant)
