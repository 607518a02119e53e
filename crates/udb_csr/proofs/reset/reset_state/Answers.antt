use Rattle.std.proofs.Common.{◌≤◌, ◌<◌, map, length, All, subst}
use Rattle.idl_forms.specs.States.{field_of}
use Rattle.udb_csr.proofs.ResetLaws.{is-reset, is-state-at-reset}
use Rattle.udb_csr.proofs.reset.reset_state.Goals as goal

pub returns-clause-state : goal.returns-clause-state
returns-clause-state c =
    is-reset c.args.space.now c.args.full.now c.args.program.now c.new.result (map field_of c.in_ok-fields.fields) c.args.ram c.new.ensures c.in_ok-fields.ensures

pub returns-clause-kept : goal.returns-clause-kept
returns-clause-kept c numbers =
    is-state-at-reset c.args.space.now c.args.full.now c.args.program.now c.new.result (map field_of c.in_ok-fields.fields) c.args.ram c.new.ensures c.in_ok-fields.ensures
    (subst (λ r. length r ≤ 65536) c.as_slice.ensures.value c.as_slice.ensures.room) (subst (All (λ b. b < 256)) c.as_slice.ensures.value c.of_8_bits.ensures) numbers
