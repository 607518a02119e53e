use Rattle.std.proofs.Common.{◌≡◌, ◌-◌, ◌/◌, Some, length, slice_get, false, refl, ap, subst, ◌∙◌, arith}
use Rattle.std.specs.Option.{option_map_or}
use Rattle.std.proofs.lemmas.Option.{slice_get_read}
use Rattle.udb_spec.specs.Known.{is_no, known}
use Rattle.udb_cond.specs.Steps.{steps_of}
use Rattle.udb_cond.proofs.ConstraintLemmas.{ext-numbered, param-numbered, own-numbered}
use Rattle.udb_check.proofs.nodes.is_leaf.Goals as goal

pub returns-then-index-extensions : goal.returns-then-index-extensions
returns-then-index-extensions c =
    c.ext_fails.ensures
    ∙ ap (λ o. option_map_or (λ x. is_no (known c.args.space.now (steps_of c.args.cells.now) x)) o false) (ext-numbered c.args.space.now c.args.part.now c.args.cond.now c.args.number (omega arith) c.as_slice-extensions.result.now c.index-extensions-index.result c.as_slice-extensions.ensures (omega arith) c.index-extensions-index.is)

pub param_fails-requires-clause-at : goal.param_fails-requires-clause-at
param_fails-requires-clause-at c =
    let ps = c.as_slice-params.result.now in
    let at = (c.args.number - 1 - length c.as_slice-extensions.result.now) / 2 in
    subst (λ xs. slice_get xs at ≡ Some c.index-params-index.result) c.as_slice-params.ensures (slice_get_read ps (length ps) at c.index-params-index.result refl c.if-index-params.true c.index-params-index.is)

pub returns-then-index-params : goal.returns-then-index-params
returns-then-index-params c =
    c.param_fails.ensures
    ∙ ap (λ o. option_map_or (λ x. is_no (known c.args.space.now (steps_of c.args.cells.now) x)) o false) (param-numbered c.args.space.now c.args.part.now c.args.cond.now c.args.number (omega arith) c.as_slice-extensions.result.now c.as_slice-params.result.now c.index-params-index.result c.as_slice-extensions.ensures c.as_slice-params.ensures (omega arith) (omega arith) c.index-params-index.is)

pub returns : goal.returns
returns c =
    c.own_fails.ensures
    ∙ ap (λ o. option_map_or (λ x. is_no (known c.args.space.now (steps_of c.args.cells.now) x)) o false) (own-numbered c.args.space.now c.args.part.now c.args.cond.now c.args.number (omega arith) c.as_slice-extensions.result.now c.as_slice-params.result.now c.as_slice-extensions.ensures c.as_slice-params.ensures (omega arith) (omega arith))
