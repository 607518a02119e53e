use Rattle.std.proofs.Common.{◌≡◌, ◌+◌, ◌++◌, ◌∷◌, [], Some, suc, take, sym, subst, arith}
use Rattle.udb_full.specs.Found.{IsChoiceOf, choice_line, IsChoiceFound}
use Rattle.udb_full.specs.Reading.{AreFound}
use Rattle.udb_full.proofs.PlaceLaws.{found-next}
use Rattle.udb_full.proofs.reading.read_choices.Goals as goal

pub loop-at-preserved : goal.loop-at-preserved
loop-at-preserved c =
    let places = c.args.exts.now in
    let lines = c.args.lines.now in
    let place = c.index-exts-at.result in
    let i = c.loop-at.at in
    let next : suc i ≡ i + 1 = omega arith in
    let read = subst (λ o. IsChoiceFound place c.as_bytes.result.now o) c.in-Some.is c.in_ok-choice.ensures in
    let found = subst (λ l. IsChoiceFound place l (Some c.in-Some.choice)) c.as_bytes.ensures read in
    let more = found-next IsChoiceOf choice_line places lines i c.loop-at.choices place c.index-lines-at.result c.in-Some.choice (omega arith) (omega arith) c.index-exts-at.is c.index-lines-at.is found c.loop-at.invariant.items in
    record {
      items = subst (λ xs. AreFound IsChoiceFound (take (i + 1) places) (take (i + 1) lines) xs) (sym c.in_ok-push.ensures.ok)
          (subst (λ n. AreFound IsChoiceFound (take n places) (take n lines) (c.loop-at.choices ++ c.in-Some.choice ∷ [])) next more);
      within = omega arith;
    }
