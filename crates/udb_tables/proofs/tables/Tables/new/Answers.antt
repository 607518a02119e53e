use Rattle.std.proofs.Common.{rules}
use Rattle.std.proofs.lemmas.List.Sorted.{answers_always}
use Rattle.udb_tables.proofs.OrderLemmas.{in_order, row_weak}
use Rattle.udb_tables.proofs.tables.Tables.new.Goals as goal

pub invariant_of-result : goal.invariant_of-result
invariant_of-result c =
    in_order c.in_ok-rows.rows.items _ (rw c.in_ok-rows.ensures c.requires) c.in_ok-sort_by.ensures.permutation
    (c.in_ok-sort_by.ensures.sorted _ row_weak (answers_always _ _ _ (λ f a r f' k. search rules)))

pub returns-clause-order : goal.returns-clause-order
returns-clause-order c = invariant_of-result c
