use Rattle.std.proofs.Common.{◌≡◌, ◌+◌, ◌++◌, ◌∷◌, [], Some, suc, take, sym, subst, arith}
use Rattle.udb_full.specs.Found.{IsValueOf, value_line, IsValueFound}
use Rattle.udb_full.specs.Reading.{AreFound}
use Rattle.udb_full.proofs.PlaceLaws.{found-next}
use Rattle.udb_full.proofs.reading.read_values.Goals as goal

pub loop-at-preserved : goal.loop-at-preserved
loop-at-preserved c =
    let places = c.args.params.now in
    let lines = c.args.lines.now in
    let place = c.index-params-at.result in
    let i = c.loop-at.at in
    let next : suc i ≡ i + 1 = omega arith in
    let read = subst (λ o. IsValueFound place c.as_bytes.result.now o) c.in-Some.is c.in_ok-value.ensures in
    let found = subst (λ l. IsValueFound place l (Some c.in-Some.value)) c.as_bytes.ensures read in
    let more = found-next IsValueOf value_line places lines i c.loop-at.values place c.index-lines-at.result c.in-Some.value (omega arith) (omega arith) c.index-params-at.is c.index-lines-at.is found c.loop-at.invariant.items in
    record {
      items = subst (λ xs. AreFound IsValueFound (take (i + 1) places) (take (i + 1) lines) xs) (sym c.in_ok-push.ensures.ok)
          (subst (λ n. AreFound IsValueFound (take n places) (take n lines) (c.loop-at.values ++ c.in-Some.value ∷ [])) next more);
      within = omega arith;
    }
