use Rattle.std.proofs.Common.{ap, sym, ◌∙◌, arith}
use Rattle.udb_spec.specs.Known.{param_known}
use Rattle.udb_cond.specs.Steps.{steps_of}
use Rattle.udb_refute.proofs.ChoiceLaws.{no-known, param-next, param-none, param-atom, param-there, short-domain, divided-chosen}
use Rattle.udb_refute.proofs.choices.param_choice.Goals as goal

pub loop-place-preserved : goal.loop-place-preserved
loop-place-preserved c = param-next (steps_of c.args.cells.now) c.as_slice-params.result.now c.args.name.now c.args.test c.args.given.now c.loop-place.place c.index-params-place.result (omega arith) c.index-params-place.is (cc) ∙ c.loop-place.invariant

pub value_choice-requires-clause-short : goal.value_choice-requires-clause-short
value_choice-requires-clause-short c = short-domain c.args.space.now c.as_slice-params.result.now c.loop-place.place c.index-params-place.result c.requires.lists c.as_slice-params.ensures (omega arith) c.index-params-place.is

pub returns-then-eq : goal.returns-then-eq
returns-then-eq c = λ unknown.
    let ps = c.as_slice-params.result.now in
    let path = steps_of c.args.cells.now in
    let p = c.index-params-place.result in
    let there = param-there c.args.space.now ps c.loop-place.place p c.as_slice-params.ensures (omega arith) c.index-params-place.is in
    let short = short-domain c.args.space.now ps c.loop-place.place p c.requires.lists c.as_slice-params.ensures (omega arith) c.index-params-place.is in
    divided-chosen c.args.space.now path c.loop-place.place p c.value_choice.result there short
    (c.value_choice.ensures (c.requires.open.ranges c.loop-place.place p there) (param-atom path ps c.args.name.now c.args.test c.args.given.now c.loop-place.place p (omega arith) c.index-params-place.is (cc) (c.loop-place.invariant ∙ ap (λ xs. param_known path 0 xs c.args.name.now c.args.test c.args.given.now) c.as_slice-params.ensures ∙ unknown)))

pub returns : goal.returns
returns c = λ unknown.
    no-known (sym (param-none (steps_of c.args.cells.now) c.as_slice-params.result.now c.args.name.now c.args.test c.args.given.now c.loop-place.place (omega arith)) ∙ c.loop-place.invariant ∙ ap (λ xs. param_known (steps_of c.args.cells.now) 0 xs c.args.name.now c.args.test c.args.given.now) c.as_slice-params.ensures ∙ unknown)
