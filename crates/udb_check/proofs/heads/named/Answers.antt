use Rattle.std.proofs.Common.{◌≡◌, ◌<◌, ◌≤◌, ◌∷◌, ◌++◌, None, sym, ap, subst, ◌∙◌, arith, ⊎_elim}
use Rattle.std.specs.Fmt.{decimal}
use Rattle.std.proofs.lemmas.Bool.{cases_lt}
use Rattle.udb_spec.specs.ProofText.{name_at}
use Rattle.udb_check.specs.Heads.{IsNumberAfter}
use Rattle.udb_check.proofs.HeadLaws.{has-place}
use Rattle.udb_check.proofs.heads.named.Goals as goal

pub loop-place-preserved : goal.loop-place-preserved
loop-place-preserved c = λ q n lt small is.
    ⊎_elim
    (λ (below : q < c.loop-place.place). c.loop-place.invariant q n below small is)
    (λ (from : c.loop-place.place ≤ q).
    let here : q ≡ c.loop-place.place = omega arith in
    let name = c.as_bytes-name.ensures.value ∙ c.name_at.ensures ∙ ap (name_at c.args.space.now c.args.param) (sym here) in
    let none : IsNumberAfter c.as_bytes-name.result.now c.args.text.now None = subst (IsNumberAfter c.as_bytes-name.result.now c.args.text.now) c.in_default.is c.in_ok-number.ensures in
    none n small (ap (λ x. x ++ (32 ∷ decimal n)) name ∙ is))
    (cases_lt q c.loop-place.place)

pub returns : goal.returns
returns c = λ place n there small is. c.loop-place.invariant place n (omega (arith, has-place c.args.space.now c.args.param place there)) small is
