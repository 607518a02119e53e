use Rattle.std.proofs.Common.{rules, ◌≡◌, ◌++◌, [], ◌∷◌, Err, get_or, ap, refl, arith}
use Rattle.udb_db.proofs.Steps.{read_fault, give_pushed}
use Rattle.udb_db.proofs.reading.read_rows.Goals as goal

pub returns-in-Err : goal.returns-in-Err
returns-in-Err c =
    let is : c.index-rows-place.result ≡ get_or c.args.rows.now c.loop-place.place c.index-rows-place.result = cc in
    read_fault c.args.rows.now c.loop-place.place c.index-rows-place.result c.loop-place.entries c.in-Err.fault c.row_fault.result (omega arith) is c.loop-place.invariant (λ b e. c.in-Err.ensures.broken b (ap Err e)) c.row_fault.ensures

pub loop-place-preserved : goal.loop-place-preserved
loop-place-preserved c =
    let is : c.index-rows-place.result ≡ get_or c.args.rows.now c.loop-place.place c.index-rows-place.result = cc in
    let now : c.push.new.self ≡ c.loop-place.entries ++ c.in-Ok.entry ∷ [] = search rules in
    give_pushed c.args.rows.now c.loop-place.place c.index-rows-place.result c.loop-place.entries c.push.new.self c.in-Ok.entry (omega arith) is c.loop-place.invariant (c.in-Ok.ensures.given c.in-Ok.entry refl) now
