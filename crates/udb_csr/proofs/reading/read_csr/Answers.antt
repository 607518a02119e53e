use Rattle.std.proofs.Common.{sym, ◌∙◌, arith}
use Rattle.idl_forms.specs.States.{state_of}
use Rattle.idl_forms.proofs.PresentFields.{read-absent, read-present}
use Rattle.udb_csr.proofs.WidthLaws.{width-cases}
use Rattle.udb_csr.proofs.NumberLaws.{positive-width, small-width}
use Rattle.udb_csr.proofs.reading.read_csr.Goals as goal

pub returns-then-not-holds : goal.returns-then-not-holds
returns-then-not-holds c = sym (read-absent c.args.space.now c.args.full.now c.args.csr.now (state_of c.args.state.now) (sym c.holds.ensures ∙ c.if-not-holds.true))

pub overflow_cast-mxlen : goal.overflow_cast-mxlen
overflow_cast-mxlen c = let few = small-width c.mxlen.result _ c.mxlen.ensures (width-cases c.args.space.now c.args.full.now c.requires.lawful c.requires.valid) in omega (arith, few)

pub truncated-requires-clause-positive : goal.truncated-requires-clause-positive
truncated-requires-clause-positive c = positive-width c.mxlen.result _ c.mxlen.ensures (width-cases c.args.space.now c.args.full.now c.requires.lawful c.requires.valid)

pub truncated-requires-clause-limit : goal.truncated-requires-clause-limit
truncated-requires-clause-limit c = small-width c.mxlen.result _ c.mxlen.ensures (width-cases c.args.space.now c.args.full.now c.requires.lawful c.requires.valid)

pub returns : goal.returns
returns c =
    c.truncated.ensures
    ∙ read-present c.args.space.now c.args.full.now c.args.csr.now (state_of c.args.state.now) c.mxlen.result c.sum_of_fields.result
    (sym c.holds.ensures ∙ c.if-not-holds.false) (sym c.mxlen.ensures)
    (small-width c.mxlen.result _ c.mxlen.ensures (width-cases c.args.space.now c.args.full.now c.requires.lawful c.requires.valid)) c.sum_of_fields.ensures
