use Rattle.std.proofs.Common.{subst, sym, ap, ◌∙◌}
use Rattle.udb_spec.specs.ProofText.{SpellsProof}
use Rattle.udb_check.specs.Heads.{grow}
use Rattle.udb_check.specs.Reading.{IsReading}
use Rattle.udb_check.proofs.Forest.{no-fault, whole-proof, only-proof}
use Rattle.udb_check.proofs.reading.read_proof.Goals as goal

pub returns-in-Ok-Err-clause-every : goal.returns-in-Ok-Err-clause-every
returns-in-Ok-Err-clause-every c = λ proof spelled.
    let reading = subst (IsReading c.args.space.now c.as_slice.result.now) c.in-Ok-Err.field-0-is c.in-Ok-Err.ensures in
    no-fault c.args.space.now c.as_slice.result.now c.in-Ok-Err.number proof reading (subst (λ ls. SpellsProof c.args.space.now ls proof) (sym c.as_slice.ensures) spelled)

pub returns-in-Ok-clause-spelled : goal.returns-in-Ok-clause-spelled
returns-in-Ok-clause-spelled c =
    let reading = subst (IsReading c.args.space.now c.as_slice.result.now) c.in-Ok-Ok.field-0-is c.in-Ok-Ok.ensures in
    let grown = sym (ap grow c.as_slice-in-Ok-Ok.ensures) ∙ c.in-Ok.ensures in
    subst (λ ls. SpellsProof c.args.space.now ls c.in-Ok.proof) c.as_slice.ensures (whole-proof c.args.space.now c.as_slice.result.now c.in-Ok-Ok.heads c.in-Ok.proof reading grown)

pub returns-in-Ok-clause-every : goal.returns-in-Ok-clause-every
returns-in-Ok-clause-every c = λ proof spelled.
    let reading = subst (IsReading c.args.space.now c.as_slice.result.now) c.in-Ok-Ok.field-0-is c.in-Ok-Ok.ensures in
    let grown = sym (ap grow c.as_slice-in-Ok-Ok.ensures) ∙ c.in-Ok.ensures in
    only-proof c.args.space.now c.as_slice.result.now c.in-Ok-Ok.heads c.in-Ok.proof proof c.requires.lawful reading grown (subst (λ ls. SpellsProof c.args.space.now ls proof) (sym c.as_slice.ensures) spelled)
