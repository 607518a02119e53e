use Rattle.std.proofs.Common.{◌%◌, ◌^◌, ℕ, Some, sym, ap, ◌∙◌, subst}
use Rattle.idl_spec.specs.Harts.{State}
use Rattle.idl_forms.specs.States.{state_of}
use Rattle.idl_forms.specs.Scenes.{placed_of}
use Rattle.idl_forms.specs.Ready.{IsSound}
use Rattle.idl_mean.proofs.FieldWrites.{blank-sound}
use Rattle.idl_mean.proofs.Operations.{plain-reset, computed-reset}
use Rattle.idl_mean.proofs.writes.reset_number.Goals as goal

pub field_result-requires-clause-sound : goal.field_result-requires-clause-sound
field_result-requires-clause-sound c =
    let scene = c.args.scene.now in
    subst (λ (s : State). IsSound scene.space.now scene.full.now scene.program.now s) (sym c.in_ok-blank-in-Computed.ensures) (blank-sound scene.space.now scene.full.now scene.program.now)

pub returns-in-Plain : goal.returns-in-Plain
returns-in-Plain c =
    let scene = c.args.scene.now in
    plain-reset scene.space.now scene.full.now scene.program.now (placed_of c.args.placed) c.in-Plain.number c.in-Plain.is
    ∙ ap Some (ap (λ (w : ℕ). c.in-Plain.number % 2 ^ w) (sym c.part_width.ensures.value) ∙ sym c.truncated.ensures)

pub returns-in_ok-returned-in-Computed : goal.returns-in_ok-returned-in-Computed
returns-in_ok-returned-in-Computed c =
    let scene = c.args.scene.now in
    computed-reset scene.space.now scene.full.now scene.program.now (placed_of c.args.placed) c.in-Computed.body (state_of c.in_ok-blank-in-Computed.blank) c.in_ok-returned-in-Computed.returned c.brought_to_field.result
    c.in-Computed.is c.in_ok-blank-in-Computed.ensures c.in_ok-returned-in-Computed.ensures c.brought_to_field.ensures.value
