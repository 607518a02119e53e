use Rattle.udb_bundle.proofs.Keys.{distinct_pairs}
use Rattle.db_cases.proofs.rows_answer.Goals as goal

pub new-requires : goal.new-requires
new-requires c = distinct_pairs c.args.rows.now c.requires
