use Rattle.std.proofs.Common.{◌∙◌, ap, arith}
use Rattle.udb_spec.specs.Known.{ext_known}
use Rattle.udb_cond.specs.Steps.{steps_of}
use Rattle.udb_cond.proofs.TallyLemmas.{ext-found}
use Rattle.udb_cond.proofs.partial_truth.ext_known.Goals as goal

pub returns-then-eq : goal.returns-then-eq
returns-then-eq c =
    let same = ext-found (steps_of c.args.cells.now) c.as_slice-extensions.result.now c.args.name.now c.args.needs.now c.loop-place.place c.index-extensions-place.result c.choices_known.result (omega arith) c.index-extensions-place.is (cc) c.choices_known.ensures c.loop-place.invariant in
    same ∙ ap (λ es. ext_known (steps_of c.args.cells.now) 0 es c.args.name.now c.args.needs.now) c.as_slice-extensions.ensures
