use Rattle.std.proofs.Common.{ℕ, ◌<◌, ◌^◌, List, sym, subst}
use Rattle.idl_spec.specs.Harts.{FieldValue}
use Rattle.idl_spec.specs.Fields.{part_width}
use Rattle.idl_forms.specs.States.{state_of}
use Rattle.idl_forms.specs.Scenes.{placed_of}
use Rattle.idl_forms.specs.Ready.{Keeps}
use Rattle.idl_forms.proofs.KeptParts.{field-kept}
use Rattle.idl_forms.proofs.assignments.set_field.Goals as goal

pub returns-clause-kept : goal.returns-clause-kept
returns-clause-kept c =
    let scene = c.args.scene.now in
    let s = state_of c.args.state.now in
    let number = c.extension-number.result in
    let small : number < 2 ^ part_width c.args.placed.bits = subst (λ (w : ℕ). number < 2 ^ w) c.part_width.ensures.value c.extension-number.ensures.small in
    subst (λ (fields : List FieldValue). Keeps scene s (record s { fields = fields })) (sym c.set.ensures)
    (field-kept scene s c.args.csr.now c.args.field.now (placed_of c.args.placed) number c.requires.sound c.requires.present small)
