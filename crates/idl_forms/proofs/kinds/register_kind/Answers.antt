use Rattle.std.proofs.Common.{◌≡◌, false, None, Some, sym, ap, ◌∙◌}
use Rattle.std.specs.Prelude.{codes, pos}
use Rattle.udb_cond.specs.Places.{IsParamAt, param_place}
use Rattle.idl_width.specs.Numbers.{clip}
use Rattle.idl_forms.specs.declared.kinds.Kind.TheVariants as k
use Rattle.idl_forms.proofs.SceneKinds.{scene-register, scene-plain, parameter-there, clipped-twice}
use Rattle.idl_forms.proofs.kinds.register_kind.Goals as goal

pub returns-in-Some-clause-value : goal.returns-in-Some-clause-value
returns-in-Some-clause-value c =
    let at : IsParamAt c.args.scene.now.space.now c.in-Some.field-0 (codes "MXLEN") = c.in-Some.ensures.found in
    clipped-twice c.unsigned.result c.clip.result c.number_or.result c.unsigned.ensures.value c.clip.ensures.value
    ∙ ap (λ z. Some (k.Bits z false)) (ap (λ n. clip (pos n)) c.number_or.ensures ∙ sym (scene-register c.args.scene.now c.requires.ready (parameter-there c.args.scene.now c.in-Some.field-0 (codes "MXLEN") at)))

pub returns-in-None-clause-value : goal.returns-in-None-clause-value
returns-in-None-clause-value c =
    let place : param_place c.args.scene.now.space.now (codes "MXLEN") ≡ None = sym c.param_place.ensures.place ∙ c.in-None.is in
    c.unsigned-in-None.ensures.value ∙ ap (λ z. Some (k.Bits z false)) (sym (scene-plain c.args.scene.now c.requires.ready place))
