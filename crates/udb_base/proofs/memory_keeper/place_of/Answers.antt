use Rattle.std.proofs.Common.{◌≡◌, true, subst, refl, All, take, length, arith}
use Rattle.std.proofs.lemmas.List.Elements.{All-more}
use Rattle.udb_base.specs.Order.{key_lt}
use Rattle.udb_base.specs.declared.rows.Row.{Row}
use Rattle.udb_base.proofs.KeyLemmas.{stands, belongs, belongs_last, is_before}
use Rattle.udb_base.proofs.memory_keeper.place_of.Goals as goal

pub returns-in-Equal : goal.returns-in-Equal
returns-in-Equal c =
    stands c.args.rows.now c.requires c.loop-place.place c.index-rows-place.result c.loop-place-test.true c.index-rows-place.is c.args.kind c.args.name.now
    c.key_cmp.result c.key_cmp.ensures c.in-Equal.is

pub returns-in-Greater : goal.returns-in-Greater
returns-in-Greater c =
    belongs c.args.rows.now c.requires c.loop-place.place c.index-rows-place.result c.loop-place-test.true c.index-rows-place.is c.args.kind c.args.name.now
    c.key_cmp.result c.loop-place.invariant c.key_cmp.ensures c.in-Greater.is

pub loop-place-preserved : goal.loop-place-preserved
loop-place-preserved c =
    let P : Row → Type 0 = λ r. key_lt r.kind r.name c.args.kind c.args.name.now ≡ true in
    let row = c.index-rows-place.result in
    All-more P c.args.rows.now c.loop-place.place row c.loop-place-test.true c.loop-place.invariant
    (subst P c.index-rows-place.is (is_before row c.args.kind c.args.name.now c.key_cmp.result c.key_cmp.ensures c.in-Less.is))

pub returns : goal.returns
returns c =
    belongs_last c.args.rows.now (length c.args.rows.now) c.args.kind c.args.name.now (refl)
    (subst (λ n. All (λ r. key_lt r.kind r.name c.args.kind c.args.name.now ≡ true) (take n c.args.rows.now)) (omega arith) c.loop-place.invariant)
