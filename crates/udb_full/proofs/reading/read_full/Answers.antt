use Rattle.std.proofs.Common.{subst, sym}
use Rattle.udb_spec.specs.ProofText.{SpellsFull}
use Rattle.udb_full.specs.Reading.{IsFullReading}
use Rattle.udb_full.proofs.PlaceLaws.{no-fault, read-spells, read-only}
use Rattle.udb_full.proofs.reading.read_full.Goals as goal

pub returns-in-Ok-Err-clause-every : goal.returns-in-Ok-Err-clause-every
returns-in-Ok-Err-clause-every c = λ full spelled.
    let space = c.args.space.now in
    let lines = c.as_slice.result.now in
    let bad = subst (IsFullReading space lines) c.in-Ok-Err.field-0-is c.in-Ok-Err.ensures in
    no-fault space lines c.in-Ok-Err.number full bad (subst (λ ls. SpellsFull space ls full) (sym c.as_slice.ensures) spelled)

pub returns-in-Ok-Ok-clause-spelled : goal.returns-in-Ok-Ok-clause-spelled
returns-in-Ok-Ok-clause-spelled c =
    let space = c.args.space.now in
    let lines = c.as_slice.result.now in
    let read = subst (IsFullReading space lines) c.in-Ok-Ok.field-0-is c.in-Ok-Ok.ensures in
    subst (λ ls. SpellsFull space ls c.in-Ok-Ok.full) c.as_slice.ensures (read-spells space lines c.in-Ok-Ok.full read.0 read.1)

pub returns-in-Ok-Ok-clause-every : goal.returns-in-Ok-Ok-clause-every
returns-in-Ok-Ok-clause-every c = λ full spelled.
    let space = c.args.space.now in
    let lines = c.as_slice.result.now in
    let read = subst (IsFullReading space lines) c.in-Ok-Ok.field-0-is c.in-Ok-Ok.ensures in
    read-only space lines c.in-Ok-Ok.full full read.0 read.1 (subst (λ ls. SpellsFull space ls full) (sym c.as_slice.ensures) spelled)
