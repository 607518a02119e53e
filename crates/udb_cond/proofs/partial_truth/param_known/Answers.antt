use Rattle.std.proofs.Common.{◌∙◌, ap, arith}
use Rattle.udb_spec.specs.Known.{param_known}
use Rattle.udb_cond.specs.Steps.{steps_of}
use Rattle.udb_cond.proofs.TallyLemmas.{param-found}
use Rattle.udb_cond.proofs.partial_truth.param_known.Goals as goal

pub returns-then-eq : goal.returns-then-eq
returns-then-eq c =
    let same = param-found (steps_of c.args.cells.now) c.as_slice-params.result.now c.args.name.now c.args.test c.args.given.now c.loop-place.place c.index-params-place.result c.values_known.result (omega arith) c.index-params-place.is (cc) c.values_known.ensures c.loop-place.invariant in
    same ∙ ap (λ ps. param_known (steps_of c.args.cells.now) 0 ps c.args.name.now c.args.test c.args.given.now) c.as_slice-params.ensures
