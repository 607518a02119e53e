use Rattle.udb_entry.specs.Entries.{entry_of}
use Rattle.udb_entry.proofs.ReadLemmas.{gained, failed}
use Rattle.udb_entry.proofs.reading.entry_by_rules.Goals as goal

pub returns-in-Ok : goal.returns-in-Ok
returns-in-Ok c = gained (λ v. v.1.1) _ _ c.in-Ok.parts _ (c.both_read.ensures _ _ _ _ (c.examined-name.ensures _ c.name_rule.ensures) (c.both_read-rest.ensures _ _ _ _ (c.examined-alphabet.ensures _ c.alphabet_rule.ensures) c.entry_of.ensures)) c.in-Ok.is

pub returns-in-Err : goal.returns-in-Err
returns-in-Err c = failed _ _ (entry_of c.args.row.now.kind c.args.tree.now) _ c.in-Err.fault (c.both_read.ensures _ _ _ _ (c.examined-name.ensures _ c.name_rule.ensures) (c.both_read-rest.ensures _ _ _ _ (c.examined-alphabet.ensures _ c.alphabet_rule.ensures) c.entry_of.ensures)) c.in-Err.is
