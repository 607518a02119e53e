use Rattle.std.proofs.Common.{◌≡◌, ◌+◌, ◌-◌, ◌<◌, ◌∷◌, [], drop, length, get_or, reverse, ap, sym, ◌∙◌, arith}
use Rattle.std.proofs.lemmas.List.{length-reverse, reverse-append}
use Rattle.udb_check.specs.declared.heads.Head.TheVariants.{Leaf}
use Rattle.udb_check.specs.Heads.{grow}
use Rattle.udb_check.proofs.HeadLaws.{get-other}
use Rattle.udb_check.proofs.Forest.{room-for, grown-none, grown-one}
use Rattle.udb_check.proofs.reading.grow.Goals as goal

pub plant-requires : goal.plant-requires
plant-requires c =
    let heads = c.args.heads.now in
    let at = length heads - 1 - c.loop-done.done in
    let head = get_or heads at (Leaf 0) in
    let lt : at < length heads = omega arith in
    let next : at + 1 ≡ length heads - c.loop-done.done = omega arith in
    omega (arith, room-for heads at head c.requires lt (get-other heads at head (Leaf 0) lt), ap length c.loop-done.invariant, length-reverse c.loop-done.stack, ap (λ k. length (grow (drop k heads))) next)

pub unreachable-requires : goal.unreachable-requires
unreachable-requires c =
    let none : length c.args.heads.now - c.loop-done.done ≡ 0 = omega arith in
    grown-none c.args.heads.now c.requires (sym (ap reverse c.in_default.ensures.0) ∙ c.loop-done.invariant ∙ ap (λ k. grow (drop k c.args.heads.now)) none)

pub returns : goal.returns
returns c =
    let none : length c.args.heads.now - c.loop-done.done ≡ 0 = omega arith in
    grown-one c.args.heads.now c.in-Some.proof (reverse c.pop.new.self) c.requires (sym (ap reverse c.in-Some.ensures ∙ reverse-append c.pop.new.self (c.in-Some.proof ∷ [])) ∙ c.loop-done.invariant ∙ ap (λ k. grow (drop k c.args.heads.now)) none)
