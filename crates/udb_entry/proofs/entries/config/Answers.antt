use Rattle.std.proofs.Common.{ap, ◌∙◌, true, codes}
use Rattle.udb_entry.specs.Keys.{flag_at}
use Rattle.udb_base.specs.declared.kinds.Kind.TheVariants as kind
use Rattle.udb_entry.specs.Entries as spec
use Rattle.udb_entry.specs.declared.answers.Entry.TheVariants as entry
use Rattle.udb_entry.proofs.ReadLemmas.{gained, failed}
use Rattle.udb_entry.proofs.entries.config.Goals as goal

pub returns-in-Ok : goal.returns-in-Ok
returns-in-Ok c =
    let made = gained (λ v. entry.Config (spec.config_with (spec.config_kind c.args.tree.now) (flag_at c.args.tree.now (codes "additional_extensions") true) v)) _ _ c.in-Ok.parts _ (c.both_read.ensures _ _ _ _ c.members-mandatory.ensures (c.both_read-inner.ensures _ _ _ _ c.members-prohibited.ensures (c.both_read-tail.ensures _ _ _ _ c.implemented-implemented.ensures (c.both_read-texts.ensures _ _ _ _ c.titles.ensures c.givens.ensures)))) c.in-Ok.is in
    (made.0, ap entry.Config c.config_with.ensures ∙ made.1)

pub returns-in-Err : goal.returns-in-Err
returns-in-Err c = failed _ _ (spec.entry_of kind.Config c.args.tree.now) _ c.in-Err.fault (c.both_read.ensures _ _ _ _ c.members-mandatory.ensures (c.both_read-inner.ensures _ _ _ _ c.members-prohibited.ensures (c.both_read-tail.ensures _ _ _ _ c.implemented-implemented.ensures (c.both_read-texts.ensures _ _ _ _ c.titles.ensures c.givens.ensures)))) c.in-Err.is
