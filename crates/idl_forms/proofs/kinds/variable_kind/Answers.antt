use Rattle.std.proofs.Common.{◌≡◌, false, None, Some, sym, ap, ◌∙◌, arith}
use Rattle.idl_width.specs.Numbers.{bits_among}
use Rattle.idl_forms.specs.declared.kinds.Kind.TheVariants as k
use Rattle.idl_forms.proofs.SceneKinds.{scene-number, unsigned-is}
use Rattle.idl_forms.proofs.kinds.variable_kind.Goals as goal

pub returns-clause-value : goal.returns-clause-value
returns-clause-value c =
    let is : c.bits_among-bits.result ≡ bits_among c.args.scene.now.registers c.args.scene.now.widths.now None c.args.name.now = cc in
    unsigned-is c.unsigned.result c.from.result c.bits_among-bits.result c.unsigned.ensures.value c.from.ensures (omega arith)
    ∙ ap (λ z. Some (k.Bits z false)) (sym (scene-number c.args.scene.now c.requires.ready None c.args.name.now c.bits_among-bits.result is (omega arith)))
