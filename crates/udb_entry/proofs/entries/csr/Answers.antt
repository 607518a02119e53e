use Rattle.std.proofs.Common.{ap, ◌∙◌}
use Rattle.udb_base.specs.declared.kinds.Kind.TheVariants as kind
use Rattle.udb_entry.specs.Entries as spec
use Rattle.udb_entry.specs.declared.answers.Entry.TheVariants as entry
use Rattle.udb_entry.proofs.ReadLemmas.{gained, failed}
use Rattle.udb_entry.proofs.entries.csr.Goals as goal

pub returns-in-Ok : goal.returns-in-Ok
returns-in-Ok c =
    let made = gained (λ v. entry.Csr (spec.csr_with (spec.address_of c.args.tree.now) (spec.length_of c.args.tree.now) v)) _ _ c.in-Ok.parts _ (c.either_read.ensures _ _ _ _ (c.both_read-own.ensures _ _ _ _ c.condition-defined.ensures c.titles.ensures) c.fields.ensures) c.in-Ok.is in
    (made.0, ap entry.Csr c.csr_with.ensures ∙ made.1)

pub returns-in-Err : goal.returns-in-Err
returns-in-Err c = failed _ _ (spec.entry_of kind.Csr c.args.tree.now) _ c.in-Err.fault (c.either_read.ensures _ _ _ _ (c.both_read-own.ensures _ _ _ _ c.condition-defined.ensures c.titles.ensures) c.fields.ensures) c.in-Err.is
