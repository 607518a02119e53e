use Rattle.std.proofs.Common.{◌≡◌, ◌<◌, List, map, drop, length, get_or, ap, sym, ◌∙◌, arith}
use Rattle.std.proofs.lemmas.Bool.{and_from, and_left, and_right}
use Rattle.std.proofs.lemmas.List.{get_or_default, take_at}
use Rattle.udb_spec.specs.Conditions.{same_bytes}
use Rattle.idl_spec.specs.Harts.{with_field}
use Rattle.idl_forms.specs.declared.harts.FieldValue.{FieldValue}
use Rattle.idl_forms.specs.States.{field_of}
use Rattle.idl_forms.proofs.FieldNumbers.{renumbered, fields-renumbered, renumbered-more, renumbered-past, renumbered-all}
use Rattle.idl_forms.proofs.harts.FieldValues.set.Goals as goal
use Rattle.idl_forms.proofs.harts.FieldValues.set.Goals.{then-eq+then-eq-2, else-eq, else-eq-via-then-eq+else-eq-2, else-eq-via-else-eq}

pub loop-value-preserved : goal.loop-value-preserved
loop-value-preserved c =
    let csr = c.args.csr.now in
    let field = c.args.field.now in
    let xs = c.deref_mut-value-items.result.now in
    let ys = c.loop-value.value-items in
    let at = c.loop-value.value-index in
    let x = get_or ys at c.value-item.result in
    let within : at < length xs = omega arith in
    let inside : at < length ys = omega arith in
    let read : x ≡ get_or ys at x = get_or_default ys at c.value-item.result x inside in
    elim c.if-eq.branch [
      | then-eq+then-eq-2 w ↦
          w.value-items-is ∙ renumbered-more csr field c.args.number xs ys at x within c.loop-value.invariant read
          (and_from (same_bytes x.csr csr) (same_bytes x.field field) (sym c.eq.ensures ∙ w.if-eq.true) (sym w.eq-then-eq.ensures ∙ w.if-eq-2.true))
      | else-eq w ↦ elim w.else-eq.branch [
        | else-eq-via-then-eq+else-eq-2 w' ↦
            w.value-items-is ∙ w'.value-items-is ∙ renumbered-past csr field c.args.number xs ys at x within c.loop-value.invariant read
            (and_right (same_bytes x.csr csr) (same_bytes x.field field) (sym w'.eq-then-eq.ensures ∙ w'.if-eq-2.false))
        | else-eq-via-else-eq w' ↦
            w.value-items-is ∙ w'.value-items-is ∙ renumbered-past csr field c.args.number xs ys at x within c.loop-value.invariant read
            (and_left (same_bytes x.csr csr) (same_bytes x.field field) (sym c.eq.ensures ∙ w'.if-eq.false))
      ]
    ]

pub returns : goal.returns
returns c =
    let csr = c.args.csr.now in
    let field = c.args.field.now in
    let xs = c.deref_mut-value-items.result.now in
    let ys = c.loop-value.value-items in
    let view : xs ≡ c.args.self.now = c.deref_mut-value-items.ensures.value ∙ c.self.view_is in
    let whole : ys ≡ map (renumbered csr field c.args.number) xs = renumbered-all csr field c.args.number xs ys c.loop-value.value-index c.loop-value-test.false c.loop-value.invariant in
    let count : length ys ≡ c.self.inside.values.len = c.loop-value.auto.value-items ∙ ap length c.deref_mut-value-items.ensures.value ∙ sym c.self.inside.values.ok.0 in
    ap (λ (zs : List FieldValue). map field_of zs) (take_at ys (drop (length ys) c.self.inside.values.items) c.self.inside.values.len count ∙ whole)
    ∙ fields-renumbered csr field c.args.number xs ∙ ap (λ (zs : List FieldValue). with_field (map field_of zs) csr field c.args.number) view
