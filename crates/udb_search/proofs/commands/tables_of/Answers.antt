use Rattle.std.proofs.Common.{IsTrue, subst}
use Rattle.std.proofs.lemmas.List.Sorted.{All-permutation}
use Rattle.std.specs.List.Sorted.{IsPermutation}
use Rattle.udb_base.specs.declared.rows.Row.{Row}
use Rattle.db_spec.specs.Kinds.{is_read_kind}
use Rattle.db_spec.specs.First.{HasReadKinds}
use Rattle.udb_bundle.proofs.Keys.{distinct_pairs}
use Rattle.udb_search.proofs.commands.tables_of.Goals as goal

pub new-requires : goal.new-requires
new-requires c = distinct_pairs c.as_slice-2.result.now (rw c.as_slice-2.ensures c.requires)

pub returns : goal.returns
returns c =
    let kinds : HasReadKinds c.args.bundle.now.rows = subst HasReadKinds c.as_slice.ensures (c.if-not-are_read.ensures.all cc) in
    let moved : IsPermutation c.args.bundle.now.rows c.in_ok-tables.tables = subst (λ rows. IsPermutation rows c.in_ok-tables.tables) c.as_slice-2.ensures c.in_ok-tables.ensures.rows in
    (record { kinds = kinds; unshipped = cc }, record { same = moved; order = c.in_ok-tables.ensures.order }, All-permutation (λ r. IsTrue (is_read_kind r.kind)) c.args.bundle.now.rows c.in_ok-tables.tables moved kinds)
