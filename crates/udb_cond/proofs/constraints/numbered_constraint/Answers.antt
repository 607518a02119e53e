use Rattle.std.proofs.Common.{Some, ap, ◌∙◌, arith}
use Rattle.std.proofs.lemmas.Result.{IfOk-weaker}
use Rattle.udb_cond.proofs.ConstraintLemmas.{ext-numbered, param-numbered, own-numbered}
use Rattle.udb_cond.proofs.constraints.numbered_constraint.Goals as goal

pub returns-then-index-extensions : goal.returns-then-index-extensions
returns-then-index-extensions c =
    ap Some c.in_ok-ext_constraint.ensures ∙ ext-numbered c.args.space.now c.args.part.now c.args.cond.now c.args.number (omega arith) c.as_slice-extensions.result.now c.index-extensions-index.result c.as_slice-extensions.ensures (omega arith) c.index-extensions-index.is

pub returns-then-index-params : goal.returns-then-index-params
returns-then-index-params c =
    ap Some c.in_ok-param_constraint.ensures ∙ param-numbered c.args.space.now c.args.part.now c.args.cond.now c.args.number (omega arith) c.as_slice-extensions.result.now c.as_slice-params.result.now c.index-params-index.result c.as_slice-extensions.ensures c.as_slice-params.ensures (omega arith) (omega arith) c.index-params-index.is

pub returns : goal.returns
returns c =
    let own = own-numbered c.args.space.now c.args.part.now c.args.cond.now c.args.number (omega arith) c.as_slice-extensions.result.now c.as_slice-params.result.now c.as_slice-extensions.ensures c.as_slice-params.ensures (omega arith) (omega arith) in
    IfOk-weaker c.own_constraint.result _ _ (λ found is. is ∙ own) c.own_constraint.ensures
