use Rattle.std.proofs.Common.{◌≡◌, ◌++◌, ◌<◌, length, get_or, ap, subst, refl, ◌∙◌}
use Rattle.std.specs.Prelude.{map}
use Rattle.std.proofs.lemmas.Option.{slice_get_read}
use Rattle.idl_forms.specs.States.{field_of}
use Rattle.udb_csr.specs.Resets.{one_value, values_at}
use Rattle.udb_csr.proofs.ResetLaws.{at-places, one-more}
use Rattle.udb_csr.proofs.reset.push_fields.Goals as goal

pub loop-at-preserved : goal.loop-at-preserved
loop-at-preserved c =
    let space = c.args.evaluator.now.space in
    let full = c.args.full.now in
    let program = c.args.evaluator.now.program in
    let csr = c.args.csr.now in
    let f = c.field-item.result in
    let lt : c.loop-at.at < length csr.fields = subst (λ fs. c.loop-at.at < length fs) c.as_slice-field-items.ensures c.loop-at-test.true in
    let is : f ≡ get_or csr.fields c.loop-at.at f = c.field-item.is ∙ ap (λ fs. get_or fs c.loop-at.at f) c.as_slice-field-items.ensures in
    one-more (values_at space full program csr) csr.fields c.loop-at.at f (map field_of c.args.values.now)
    (map field_of c.loop-at.values) (map field_of c.push_value.new.values) lt is c.loop-at.invariant
    (c.in_ok-push_value.ensures ∙ ap (λ n. map field_of c.loop-at.values ++ one_value csr.name f.name n)
    (c.in_ok-number.ensures ∙ at-places space full program c.args.place c.loop-at.at csr f c.requires.csr (slice_get_read csr.fields (length csr.fields) c.loop-at.at f refl lt is)))
