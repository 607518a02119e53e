use Rattle.std.proofs.Common.{◌≤◌, refl, sym, subst}
use Rattle.udb_tables.specs.Order.{IsInOrder}
use Rattle.db_spec.specs.First.{HasReadKinds, IsFirst}
use Rattle.udb_db.proofs.AcceptLemmas.{draft_of, opened_whole}
use Rattle.udb_db.proofs.accepting.open_tables.Goals as goal

pub examine-requires-clause-order : goal.examine-requires-clause-order
examine-requires-clause-order c = subst IsInOrder (sym c.rows.ensures.value) c.rows.ensures.order

pub examine-requires-clause-kinds : goal.examine-requires-clause-kinds
examine-requires-clause-kinds c = subst HasReadKinds (sym c.rows.ensures.value) c.requires

pub invariant_of-result : goal.invariant_of-result
invariant_of-result c = draft_of c.args.tables c.rows.result.now c.in-Ok.examined c.rows.ensures.value c.requires c.in-Ok.ensures

pub returns-in-Ok : goal.returns-in-Ok
returns-in-Ok c = (refl, opened_whole c.args.tables c.rows.result.now c.in-Ok.examined c.rows.ensures.value c.in-Ok.ensures)

pub returns-in-Err-Broken : goal.returns-in-Err-Broken
returns-in-Err-Broken c =
    let early : IsFirst c.rows.result.now c.in-Err-Broken.first × (c.in-Err-Broken.first.rule ≤ 12) = rw c.in-Err-Broken.field-0-is at c.in-Err-Broken.ensures in
    (subst (λ r. IsFirst r c.in-Err-Broken.first) c.rows.ensures.value early.0, early.1, refl)
