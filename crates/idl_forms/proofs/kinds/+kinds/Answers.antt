use Rattle.std.proofs.Common.{◌≡◌, ◌≤◌, ◌-◌, true, false, Some, length, get_or, take, drop, sym, ap, ◌∙◌, arith, to_z, of_z, w64}
use Rattle.std.specs.Prelude.{◌==◌, pos, map, ◌+ℤ◌, ◌-ℤ◌}
use Rattle.idl_width.specs.Numbers.{clip}
use Rattle.idl_spec.specs.Shapes.{shape, join_kind}
use Rattle.idl_spec.specs.Settings.{names_of, number_of_width}
use Rattle.idl_forms.specs.declared.kinds.Kind.TheVariants as k
use Rattle.idl_forms.specs.States.{scope_of}
use Rattle.idl_forms.specs.Scenes.{setting_of}
use Rattle.idl_forms.specs.Kinds.{numbered_if_any}
use Rattle.idl_forms.specs.NumberedKinds as by_number
use Rattle.idl_forms.proofs.KindForms.{in-form, join-start, register-forms, form-Number, form-Sized, form-Text, form-Flag, form-Word, form-Member, form-Unary, form-Binary, form-WideLeft, form-Choice, form-Join, form-Repeat, form-Index, form-Slice, form-Call, form-Signed, form-Resize, form-Encoding, form-Field, form-ReadMemory, form-NewField, form-Mode, form-Implemented, form-ImplementedVersion}
use Rattle.idl_forms.proofs.SceneKinds.{kept-whole, unsigned-is, few}
use Rattle.idl_forms.proofs.kinds.+kinds.Goals as goal

pub expression_kind-returns-in-Pc-clause-value : goal.expression_kind-returns-in-Pc-clause-value
expression_kind-returns-in-Pc-clause-value t c =
    let e = setting_of c.args.scene.now in
    let names = names_of e (scope_of c.args.scope.now) in
    c.register_kind.ensures.value
    ∙ sym (register-forms e names c.args.expr.now c.in-Pc.is)

pub expression_kind-returns-in-Slice-clause-value : goal.expression_kind-returns-in-Slice-clause-value
expression_kind-returns-in-Slice-clause-value t c =
    let e = setting_of c.args.scene.now in
    let names = names_of e (scope_of c.args.scope.now) in
    let high = kept-whole c.width_number-in-Slice.result c.width_number-in-Slice.ensures.small ∙ c.width_number-in-Slice.ensures.value in
    let low = kept-whole c.width_number-in-Slice-2.result c.width_number-in-Slice-2.ensures.small ∙ c.width_number-in-Slice-2.ensures.value in
    let run = c.difference-run.ensures.value ∙ ap (λ z. clip (z -ℤ to_z w64 (of_z w64 c.width_number-in-Slice-2.result))) high ∙ ap (λ z. clip (number_of_width e c.in-Slice.high -ℤ z)) low in
    let width = c.sum.ensures.value ∙ ap (λ z. clip (z +ℤ pos 1)) (kept-whole c.difference-run.result c.difference-run.ensures.small ∙ run) in
    c.unsigned-in-Slice.ensures.value
    ∙ ap (λ z. Some (k.Bits z false)) (kept-whole c.sum.result c.sum.ensures.small ∙ width)
    ∙ sym (in-form e names c.in-Slice.is (form-Slice e names c.in-Slice.of c.in-Slice.high c.in-Slice.low))

pub expression_kind-returns-in-Number-clause-value : goal.expression_kind-returns-in-Number-clause-value
expression_kind-returns-in-Number-clause-value t c =
    let e = setting_of c.args.scene.now in
    let names = names_of e (scope_of c.args.scope.now) in
    ap Some (c.kind_holding.ensures.value e) ∙ sym (in-form e names c.in-Number.is (form-Number e names c.in-Number.number))

pub expression_kind-returns-in-Sized-clause-value : goal.expression_kind-returns-in-Sized-clause-value
expression_kind-returns-in-Sized-clause-value t c =
    let e = setting_of c.args.scene.now in
    let names = names_of e (scope_of c.args.scope.now) in
    ap (λ z. Some (k.Bits z c.in-Sized.signed)) (kept-whole c.width_number.result c.width_number.ensures.small ∙ c.width_number.ensures.value)
    ∙ sym (in-form e names c.in-Sized.is (form-Sized e names c.in-Sized.width c.in-Sized.signed c.in-Sized.value))

pub expression_kind-returns-in-Text-clause-value : goal.expression_kind-returns-in-Text-clause-value
expression_kind-returns-in-Text-clause-value t c =
    let e = setting_of c.args.scene.now in
    let names = names_of e (scope_of c.args.scope.now) in
    sym (in-form e names c.in-Text.is (form-Text e names c.in-Text.field-0))

pub expression_kind-returns-in-Flag-clause-value : goal.expression_kind-returns-in-Flag-clause-value
expression_kind-returns-in-Flag-clause-value t c =
    let e = setting_of c.args.scene.now in
    let names = names_of e (scope_of c.args.scope.now) in
    sym (in-form e names c.in-Flag.is (form-Flag e names c.in-Flag.field-0))

pub expression_kind-returns-in-Word-clause-value : goal.expression_kind-returns-in-Word-clause-value
expression_kind-returns-in-Word-clause-value t c =
    let e = setting_of c.args.scene.now in
    let names = names_of e (scope_of c.args.scope.now) in
    c.word_kind.ensures.value ∙ sym (in-form e names c.in-Word.is (form-Word e names c.in-Word.name))

pub expression_kind-returns-in-Member-clause-value : goal.expression_kind-returns-in-Member-clause-value
expression_kind-returns-in-Member-clause-value t c =
    let e = setting_of c.args.scene.now in
    let names = names_of e (scope_of c.args.scope.now) in
    sym (in-form e names c.in-Member.is (form-Member e names c.in-Member.kind c.in-Member.name))

pub expression_kind-returns-in-Unary-clause-value : goal.expression_kind-returns-in-Unary-clause-value
expression_kind-returns-in-Unary-clause-value t c =
    let e = setting_of c.args.scene.now in
    let names = names_of e (scope_of c.args.scope.now) in
    let of = c.expression_kind.ensures.value ∙ ap (λ x. numbered_if_any e (shape names x)) c.get.ensures in
    c.unary_kind.ensures.value ∙ ap (by_number.unary_kind c.in-Unary.sign) of
    ∙ sym (in-form e names c.in-Unary.is (form-Unary e names c.in-Unary.sign c.in-Unary.of))

pub expression_kind-returns-in-Binary-clause-value : goal.expression_kind-returns-in-Binary-clause-value
expression_kind-returns-in-Binary-clause-value t c =
    let e = setting_of c.args.scene.now in
    let names = names_of e (scope_of c.args.scope.now) in
    let left = c.expression_kind-left.ensures.value ∙ ap (λ x. numbered_if_any e (shape names x)) c.get-in-Binary.ensures in
    let right = c.expression_kind-in-Binary.ensures.value ∙ ap (λ x. numbered_if_any e (shape names x)) c.get-in-Binary-2.ensures in
    c.binary_kind.ensures.value ∙ ap (λ x. by_number.binary_kind c.in-Binary.sign x c.expression_kind-in-Binary.result) left
    ∙ ap (by_number.binary_kind c.in-Binary.sign (numbered_if_any e (shape names c.in-Binary.left))) right
    ∙ sym (in-form e names c.in-Binary.is (form-Binary e names c.in-Binary.sign c.in-Binary.left c.in-Binary.right))

pub expression_kind-returns-in-WideLeft-clause-value : goal.expression_kind-returns-in-WideLeft-clause-value
expression_kind-returns-in-WideLeft-clause-value t c =
    let e = setting_of c.args.scene.now in
    let names = names_of e (scope_of c.args.scope.now) in
    let left = c.expression_kind-left-in-WideLeft.ensures.value ∙ ap (λ x. numbered_if_any e (shape names x)) c.get-in-WideLeft.ensures in
    let by = kept-whole c.width_number-in-WideLeft.result c.width_number-in-WideLeft.ensures.small ∙ c.width_number-in-WideLeft.ensures.value in
    c.wider.ensures.value ∙ ap (λ x. by_number.wider x (to_z w64 (of_z w64 c.width_number-in-WideLeft.result))) left
    ∙ ap (by_number.wider (numbered_if_any e (shape names c.in-WideLeft.left))) by
    ∙ sym (in-form e names c.in-WideLeft.is (form-WideLeft e names c.in-WideLeft.left c.in-WideLeft.by))

pub expression_kind-returns-in-Choice-clause-value : goal.expression_kind-returns-in-Choice-clause-value
expression_kind-returns-in-Choice-clause-value t c =
    let e = setting_of c.args.scene.now in
    let names = names_of e (scope_of c.args.scope.now) in
    let left = c.expression_kind-yes.ensures.value ∙ ap (λ x. numbered_if_any e (shape names x)) c.get-in-Choice.ensures in
    let right = c.expression_kind-in-Choice.ensures.value ∙ ap (λ x. numbered_if_any e (shape names x)) c.get-in-Choice-2.ensures in
    c.choice_kind.ensures.value ∙ ap (λ x. by_number.choice_kind x c.expression_kind-in-Choice.result) left
    ∙ ap (by_number.choice_kind (numbered_if_any e (shape names c.in-Choice.yes))) right
    ∙ sym (in-form e names c.in-Choice.is (form-Choice e names c.in-Choice.test c.in-Choice.yes c.in-Choice.no))

pub expression_kind-returns-in-Join-clause-value : goal.expression_kind-returns-in-Join-clause-value
expression_kind-returns-in-Join-clause-value t c =
    let e = setting_of c.args.scene.now in
    let names = names_of e (scope_of c.args.scope.now) in
    c.join_kind.ensures.value ∙ ap (λ ps. numbered_if_any e (join_kind (map (shape names) ps))) c.as_slice.ensures
    ∙ sym (in-form e names c.in-Join.is (form-Join e names c.in-Join.parts))

pub expression_kind-returns-in-Repeat-clause-value : goal.expression_kind-returns-in-Repeat-clause-value
expression_kind-returns-in-Repeat-clause-value t c =
    let e = setting_of c.args.scene.now in
    let names = names_of e (scope_of c.args.scope.now) in
    let of = c.expression_kind-of.ensures.value ∙ ap (λ x. numbered_if_any e (shape names x)) c.get-in-Repeat.ensures in
    let times = kept-whole c.width_number-in-Repeat.result c.width_number-in-Repeat.ensures.small ∙ c.width_number-in-Repeat.ensures.value in
    c.repeated.ensures.value ∙ ap (by_number.repeated (to_z w64 (of_z w64 c.width_number-in-Repeat.result))) of
    ∙ ap (λ z. by_number.repeated z (numbered_if_any e (shape names c.in-Repeat.of))) times
    ∙ sym (in-form e names c.in-Repeat.is (form-Repeat e names c.in-Repeat.times c.in-Repeat.of))

pub expression_kind-returns-in-Index-clause-value : goal.expression_kind-returns-in-Index-clause-value
expression_kind-returns-in-Index-clause-value t c =
    let e = setting_of c.args.scene.now in
    let names = names_of e (scope_of c.args.scope.now) in
    c.unsigned.ensures.value ∙ sym (in-form e names c.in-Index.is (form-Index e names c.in-Index.of c.in-Index.at))

pub expression_kind-returns-in-Call-clause-value : goal.expression_kind-returns-in-Call-clause-value
expression_kind-returns-in-Call-clause-value t c =
    let e = setting_of c.args.scene.now in
    let names = names_of e (scope_of c.args.scope.now) in
    c.call_kind.ensures.value (scope_of c.args.scope.now) ∙ sym (in-form e names c.in-Call.is (form-Call e names c.in-Call.name c.in-Call.args))

pub expression_kind-returns-in-Signed-clause-value : goal.expression_kind-returns-in-Signed-clause-value
expression_kind-returns-in-Signed-clause-value t c =
    let e = setting_of c.args.scene.now in
    let names = names_of e (scope_of c.args.scope.now) in
    let of = c.expression_kind-in-Signed.ensures.value ∙ ap (λ x. numbered_if_any e (shape names x)) c.get-in-Signed.ensures in
    c.with_sign.ensures.value ∙ ap (λ x. by_number.with_sign x true) of ∙ sym (in-form e names c.in-Signed.is (form-Signed e names c.in-Signed.of))

pub expression_kind-returns-in-Resize-clause-value : goal.expression_kind-returns-in-Resize-clause-value
expression_kind-returns-in-Resize-clause-value t c =
    let e = setting_of c.args.scene.now in
    let names = names_of e (scope_of c.args.scope.now) in
    let of = c.expression_kind-of-in-Resize.ensures.value ∙ ap (λ x. numbered_if_any e (shape names x)) c.get-in-Resize.ensures in
    let width = kept-whole c.width_number-in-Resize.result c.width_number-in-Resize.ensures.small ∙ c.width_number-in-Resize.ensures.value in
    c.with_width.ensures.value ∙ ap (λ x. by_number.with_width x (to_z w64 (of_z w64 c.width_number-in-Resize.result))) of
    ∙ ap (by_number.with_width (numbered_if_any e (shape names c.in-Resize.of))) width
    ∙ sym (in-form e names c.in-Resize.is (form-Resize e names c.in-Resize.width c.in-Resize.of))

pub expression_kind-returns-in-Encoding-clause-value : goal.expression_kind-returns-in-Encoding-clause-value
expression_kind-returns-in-Encoding-clause-value t c =
    let e = setting_of c.args.scene.now in
    let names = names_of e (scope_of c.args.scope.now) in
    c.unsigned-in-Encoding.ensures.value ∙ sym (in-form e names c.in-Encoding.is (form-Encoding e names))

pub expression_kind-returns-in-Field-clause-value : goal.expression_kind-returns-in-Field-clause-value
expression_kind-returns-in-Field-clause-value t c =
    let e = setting_of c.args.scene.now in
    let names = names_of e (scope_of c.args.scope.now) in
    c.field_kind.ensures.value (scope_of c.args.scope.now) ∙ sym (in-form e names c.in-Field.is (form-Field e names c.in-Field.csr c.in-Field.field))

pub expression_kind-returns-in-ReadMemory-clause-value : goal.expression_kind-returns-in-ReadMemory-clause-value
expression_kind-returns-in-ReadMemory-clause-value t c =
    let e = setting_of c.args.scene.now in
    let names = names_of e (scope_of c.args.scope.now) in
    let small : c.in-ReadMemory.bits ≤ 1000000 = omega arith in
    unsigned-is c.unsigned-in-ReadMemory.result c.from.result c.in-ReadMemory.bits c.unsigned-in-ReadMemory.ensures.value c.from.ensures small
    ∙ ap (λ z. Some (k.Bits z false)) (sym (few c.in-ReadMemory.bits small))
    ∙ sym (in-form e names c.in-ReadMemory.is (form-ReadMemory e names c.in-ReadMemory.bits c.in-ReadMemory.at))

pub expression_kind-returns-in-NewField-clause-value : goal.expression_kind-returns-in-NewField-clause-value
expression_kind-returns-in-NewField-clause-value t c =
    let e = setting_of c.args.scene.now in
    let names = names_of e (scope_of c.args.scope.now) in
    c.new_field_kind.ensures.value (scope_of c.args.scope.now) ∙ sym (in-form e names c.in-NewField.is (form-NewField e names c.in-NewField.field))

pub expression_kind-returns-in-Mode-clause-value : goal.expression_kind-returns-in-Mode-clause-value
expression_kind-returns-in-Mode-clause-value t c =
    let e = setting_of c.args.scene.now in
    let names = names_of e (scope_of c.args.scope.now) in
    sym (in-form e names c.in-Mode.is (form-Mode e names))

pub expression_kind-returns-in-Implemented-clause-value : goal.expression_kind-returns-in-Implemented-clause-value
expression_kind-returns-in-Implemented-clause-value t c =
    let e = setting_of c.args.scene.now in
    let names = names_of e (scope_of c.args.scope.now) in
    sym (in-form e names c.in-Implemented.is (form-Implemented e names c.in-Implemented.field-0))

pub expression_kind-returns-in-ImplementedVersion-clause-value : goal.expression_kind-returns-in-ImplementedVersion-clause-value
expression_kind-returns-in-ImplementedVersion-clause-value t c =
    let e = setting_of c.args.scene.now in
    let names = names_of e (scope_of c.args.scope.now) in
    sym (in-form e names c.in-ImplementedVersion.is (form-ImplementedVersion e names c.in-ImplementedVersion.extension c.in-ImplementedVersion.text))

pub join_kind-loop-part-init : goal.join_kind-loop-part-init
join_kind-loop-part-init t c =
    let e = setting_of c.args.scene.now in
    let names = names_of e (scope_of c.args.scope.now) in
    let parts = c.args.parts.now in
    let some : (length parts == 0) ≡ false = sym c.is_empty.ensures ∙ c.if-is_empty.false in
    let first : c.with_sign-kind.result ≡ by_number.with_sign (numbered_if_any e (shape names (get_or parts 0 c.index-parts-0.result))) false =
    c.with_sign-kind.ensures.value ∙ ap (λ x. by_number.with_sign x false) (c.expression_kind.ensures.value ∙ ap (λ x. numbered_if_any e (shape names x)) c.index-parts-0.is) in (
      ap (λ x. by_number.joined_kinds x (map (λ p. numbered_if_any e (shape names p)) (take (length parts - 1) (drop 1 parts)))) first
          ∙ sym (join-start e names parts c.index-parts-0.result some),
      c.with_sign-kind.ensures.small,
    )
