use Rattle.std.proofs.Common.{Ok, Err}
use Rattle.udb_db.specs.declared.accepting.AcceptFault.TheVariants as fault
use Rattle.udb_db.proofs.AcceptLemmas.{opened_is, kept_success, early_refusal}
use Rattle.udb_db.proofs.accepting.open.Goals as goal

pub returns-clause-named : goal.returns-clause-named
returns-clause-named c rows e = opened_is c.args.tables c.open_tables.result (Ok rows) c.open_tables.ensures e

pub returns-clause-named_only : goal.returns-clause-named_only
returns-clause-named_only c kept = kept_success c.args.tables c.open_tables.result c.open_tables.ensures kept

pub returns-clause-broken : goal.returns-clause-broken
returns-clause-broken c b rows e = opened_is c.args.tables c.open_tables.result (Err (fault.Broken b rows)) c.open_tables.ensures e

pub returns-clause-broken_only : goal.returns-clause-broken_only
returns-clause-broken_only c b first le = early_refusal c.args.tables c.open_tables.result b c.open_tables.ensures first le

pub returns-clause-memory : goal.returns-clause-memory
returns-clause-memory c rows e = opened_is c.args.tables c.open_tables.result (Err (fault.Memory rows)) c.open_tables.ensures e
