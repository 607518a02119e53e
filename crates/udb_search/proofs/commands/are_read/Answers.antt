use Rattle.std.proofs.Common.{◌≡◌, IsTrue, get_or, arith, subst}
use Rattle.std.proofs.lemmas.List.Elements.{All-more}
use Rattle.db_spec.specs.Kinds.{is_read_kind}
use Rattle.udb_lawful.proofs.Lists.{all-of}
use Rattle.udb_search.proofs.commands.are_read.Goals as goal

pub loop-row-preserved : goal.loop-row-preserved
loop-row-preserved c =
    let here : IsTrue (is_read_kind c.row-item.result.kind) = cc in
    let is : c.row-item.result ≡ get_or c.args.rows.now c.loop-row.row-index c.row-item.result = cc in
    All-more (λ r. IsTrue (is_read_kind r.kind)) c.args.rows.now c.loop-row.row-index c.row-item.result (omega arith) c.loop-row.invariant (subst (λ r. IsTrue (is_read_kind r.kind)) is here)

pub returns-clause-all : goal.returns-clause-all
returns-clause-all c = λ _. all-of (λ r. IsTrue (is_read_kind r.kind)) c.args.rows.now c.loop-row.row-index (omega arith) c.loop-row.invariant
