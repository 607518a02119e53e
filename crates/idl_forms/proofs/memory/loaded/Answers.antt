use Rattle.std.proofs.Common.{◌≡◌, ℕ, ◌+◌, ◌-◌, ◌*◌, ◌<◌, ◌≤◌, ◌^◌, length, get_or, ap, sym, ◌∙◌, subst, arith}
use Rattle.std.proofs.lemmas.Nat.{pow_pos}
use Rattle.idl_spec.specs.Harts.{loaded}
use Rattle.idl_forms.proofs.Bytes.{loaded-none, loaded-more, shifted-in, byte-fits}
use Rattle.idl_forms.proofs.memory.loaded.Goals as goal

pub loop-place-init : goal.loop-place-init
loop-place-init c =
    let last = c.args.at + c.args.count in
    let none : last - last ≡ 0 = omega arith in
    (loaded-none c.args.ram.now last (last - last) none, pow_pos (8 * (last - last)), omega arith)

pub loop-place-preserved : goal.loop-place-preserved
loop-place-preserved c =
    let ram = c.args.ram.now in
    let last = c.args.at + c.args.count in
    let place = c.loop-place.place in
    let at = place - 1 in
    let some : c.args.at < place = omega arith in
    let next : place ≡ at + 1 = omega arith in
    let within : at < length ram = omega arith in
    let more : last - at ≡ (last - place) + 1 = omega arith in
    let few : 8 * (last - place) + 8 ≤ 64 = omega arith in
    let number : c.loop-place.number ≡ loaded ram (at + 1) (last - place) = c.loop-place.invariant.0 ∙ ap (λ (p : ℕ). loaded ram p (last - place)) next in
    let byte : c.from.result ≡ get_or ram at 0 = c.from.ensures in
    let small : c.from.result < 256 = omega (arith, byte, c.type_inv.ram at) in
    let shifted = shifted-in c.loop-place.number (last - place) c.from.result c.loop-place.invariant.1 few small in
    let first = loaded-more ram at (last - at) (last - place) c.from.result within more byte in (
      shifted ∙ ap (λ (n : ℕ). c.from.result + 256 * n) number ∙ sym first,
      subst (λ (n : ℕ). n < 2 ^ (8 * (last - at))) (sym shifted) (byte-fits c.loop-place.number (last - place) (last - at) c.from.result c.loop-place.invariant.1 more small),
      omega arith,
    )
