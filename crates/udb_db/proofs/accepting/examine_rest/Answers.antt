use Rattle.udb_db.proofs.Examined.{names_kept}
use Rattle.udb_db.proofs.accepting.examine_rest.Goals as goal

pub examine_full-requires-clause-names : goal.examine_full-requires-clause-names
examine_full-requires-clause-names c = names_kept c.args.rows.now c.args.entries.now c.args.space.now c.requires.draft

pub examine_configs-requires-clause-names : goal.examine_configs-requires-clause-names
examine_configs-requires-clause-names c = names_kept c.args.rows.now c.args.entries.now c.args.space.now c.requires.draft
