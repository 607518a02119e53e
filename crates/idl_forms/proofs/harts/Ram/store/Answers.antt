use Rattle.std.proofs.Common.{◌≡◌, ℕ, ◌+◌, ◌-◌, ◌%◌, ◌<◌, List, length, refl, sym, ap, ◌∙◌, arith}
use Rattle.std.proofs.lemmas.List.{length-set}
use Rattle.idl_spec.specs.Harts.{stored}
use Rattle.idl_forms.proofs.Bytes.{stored-none, stored-more}
use Rattle.idl_forms.proofs.harts.Ram.store.Goals as goal

pub loop-place-init : goal.loop-place-init
loop-place-init c =
    let all : c.args.at + c.args.count - c.args.at ≡ c.args.count = omega arith in
    (ap (λ (k : ℕ). stored c.self.inside.bytes.items c.args.at k c.args.number) all, refl)

pub loop-place-preserved : goal.loop-place-preserved
loop-place-preserved c =
    let bytes = c.loop-place.self-inside.bytes.items in
    let place = c.loop-place.place in
    let last = c.args.at + c.args.count in
    let view : length c.self.inside.bytes.items ≡ length c.args.self.now = omega (arith, ap length c.self.view_is) in
    let same : length bytes ≡ length c.self.inside.bytes.items = c.loop-place.invariant.1 in
    let within : place < length bytes = omega arith in
    let more : last - place ≡ (last - (place + 1)) + 1 = omega arith in (
      sym (stored-more bytes place (last - place) (last - (place + 1)) c.loop-place.rest within more) ∙ c.loop-place.invariant.0,
      length-set bytes place (c.loop-place.rest % 256) ∙ same,
    )

pub returns : goal.returns
returns c =
    let bytes = c.loop-place.self-inside.bytes.items in
    let place = c.loop-place.place in
    let last = c.args.at + c.args.count in
    let none : last - place ≡ 0 = omega arith in
    let view : c.self.inside.bytes.items ≡ c.args.self.now = cc (c.self.view_is) in
    sym (stored-none bytes place (last - place) c.loop-place.rest none) ∙ c.loop-place.invariant.0
    ∙ ap (λ (xs : List ℕ). stored xs c.args.at c.args.count c.args.number) view
