use Rattle.std.proofs.Common.{Some, sym, ap, ◌∙◌, arith}
use Rattle.std.specs.Option.{option_copied}
use Rattle.idl_width.specs.Numbers.{bits_among}
use Rattle.idl_spec.specs.Fields.{field_named}
use Rattle.idl_forms.proofs.SceneKinds.{scene-field, unsigned-is}
use Rattle.idl_forms.proofs.kinds.field_kind.Goals as goal

pub returns-clause-value : goal.returns-clause-value
returns-clause-value c = λ scope.
    unsigned-is c.unsigned.result c.from.result c.field_bits-bits.result c.unsigned.ensures.value c.from.ensures (omega arith)
    ∙ sym (scene-field c.args.scene.now c.requires.ready scope c.args.csr.now c.args.field.now c.in_ok-body.body.now c.in_ok-field_named.field-0.now c.field_bits-bits.result
    (sym c.csr_named.ensures.value ∙ ap option_copied c.in_ok-body.was)
    (ap (λ fs. field_named fs c.args.field.now) (sym c.as_slice.ensures) ∙ (sym c.field_named.ensures ∙ ap option_copied c.in_ok-field_named.was))
    (c.field_bits-bits.ensures ∙ ap (λ s. bits_among c.args.scene.now.registers s (Some c.args.csr.now) c.args.field.now) c.as_slice-2.ensures) (omega arith))
