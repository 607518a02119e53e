use Rattle.std.proofs.Common.{◌≡◌, ◌+◌, ◌<◌, ◌≤◌, length, take, drop, ap, subst, ◌∙◌, arith}
use Rattle.udb_spec.specs.ProofText.{SpellFull, IsFirstBadLine}
use Rattle.udb_full.specs.Found.{IsChoiceFound, IsValueFound}
use Rattle.udb_full.specs.Reading.{AreFound, Stops, IsReading}
use Rattle.udb_full.proofs.PlaceLaws.{choices-stop, values-stop, lines-over, read-all, enough}
use Rattle.udb_full.proofs.reading.read_places.Goals as goal

pub returns-in-Err : goal.returns-in-Err
returns-in-Err c =
    let lines = c.args.lines.now in
    choices-stop c.args.space.now c.requires.lawful lines c.in-Err.at
    (subst (λ es. Stops IsChoiceFound es lines c.in-Err.at) c.as_slice.ensures (subst (IsReading IsChoiceFound c.as_slice.result.now lines) c.in-Err.is c.in_ok-choices.ensures))

pub split_at-requires : goal.split_at-requires
split_at-requires c =
    let lines = c.args.lines.now in
    let chosen = subst (λ es. AreFound IsChoiceFound es (take (length es) lines) c.in-Ok.choices) c.as_slice.ensures (subst (IsReading IsChoiceFound c.as_slice.result.now lines) c.in-Ok.is c.in_ok-choices.ensures) in
    omega (arith, c.len.ensures, enough c.args.space.now c.requires.lawful lines c.in-Ok.choices chosen)

pub returns-in-Err-2 : goal.returns-in-Err-2
returns-in-Err-2 c =
    let space = c.args.space.now in
    let lines = c.args.lines.now in
    let at = c.in-Err-2.at in
    let chosen = subst (λ es. AreFound IsChoiceFound es (take (length es) lines) c.in-Ok.choices) c.as_slice.ensures (subst (IsReading IsChoiceFound c.as_slice.result.now lines) c.in-Ok.is c.in_ok-choices.ensures) in
    let rest : c.split_at.result.1.now ≡ drop (length space.extensions) lines = c.split_at.ensures.back ∙ ap (λ k. drop k lines) c.len.ensures in
    let front : length space.extensions ≡ length c.split_at.result.0.now = omega (arith, c.len.ensures, c.split_at.ensures.front_len) in
    let stop = subst (λ ls. Stops IsValueFound space.params ls at) rest (subst (λ ps. Stops IsValueFound ps c.split_at.result.1.now at) c.as_slice-2.ensures (subst (IsReading IsValueFound c.as_slice-2.result.now c.split_at.result.1.now) c.in-Err-2.is c.in_ok-values.ensures)) in
    subst (λ n. IsFirstBadLine (SpellFull space) lines (n + at + 1)) front (values-stop space c.requires.lawful lines c.in-Ok.choices chosen at stop)

pub returns-then-len-rest : goal.returns-then-len-rest
returns-then-len-rest c =
    let space = c.args.space.now in
    let lines = c.args.lines.now in
    let chosen = subst (λ es. AreFound IsChoiceFound es (take (length es) lines) c.in-Ok.choices) c.as_slice.ensures (subst (IsReading IsChoiceFound c.as_slice.result.now lines) c.in-Ok.is c.in_ok-choices.ensures) in
    let rest : c.split_at.result.1.now ≡ drop (length space.extensions) lines = c.split_at.ensures.back ∙ ap (λ k. drop k lines) c.len.ensures in
    let valued = subst (λ ls. AreFound IsValueFound space.params (take (length space.params) ls) c.in-Ok-2.values) rest (subst (λ ps. AreFound IsValueFound ps (take (length ps) c.split_at.result.1.now) c.in-Ok-2.values) c.as_slice-2.ensures (subst (IsReading IsValueFound c.as_slice-2.result.now c.split_at.result.1.now) c.in-Ok-2.is c.in_ok-values.ensures)) in
    let over : length space.params < length (drop (length space.extensions) lines) = omega (arith, ap length rest) in
    let number : length space.extensions + length space.params + 1 ≡ length c.split_at.result.0.now + c.len-then-len-rest.result + 1 = omega (arith, c.len.ensures, c.split_at.ensures.front_len, c.len-then-len-rest.ensures) in
    subst (λ n. IsFirstBadLine (SpellFull space) lines n) number (lines-over space c.requires.lawful lines c.in-Ok.choices chosen c.in-Ok-2.values valued over)

pub returns : goal.returns
returns c =
    let space = c.args.space.now in
    let lines = c.args.lines.now in
    let chosen = subst (λ es. AreFound IsChoiceFound es (take (length es) lines) c.in-Ok.choices) c.as_slice.ensures (subst (IsReading IsChoiceFound c.as_slice.result.now lines) c.in-Ok.is c.in_ok-choices.ensures) in
    let rest : c.split_at.result.1.now ≡ drop (length space.extensions) lines = c.split_at.ensures.back ∙ ap (λ k. drop k lines) c.len.ensures in
    let valued = subst (λ ls. AreFound IsValueFound space.params (take (length space.params) ls) c.in-Ok-2.values) rest (subst (λ ps. AreFound IsValueFound ps (take (length ps) c.split_at.result.1.now) c.in-Ok-2.values) c.as_slice-2.ensures (subst (IsReading IsValueFound c.as_slice-2.result.now c.split_at.result.1.now) c.in-Ok-2.is c.in_ok-values.ensures)) in
    let within : length (drop (length space.extensions) lines) ≤ length space.params = omega (arith, ap length rest) in
    (chosen, read-all space c.requires.lawful lines c.in-Ok.choices chosen c.in-Ok-2.values valued within)
