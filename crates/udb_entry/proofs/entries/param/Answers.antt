use Rattle.std.proofs.Common.{ap, ◌∙◌}
use Rattle.udb_base.specs.declared.kinds.Kind.TheVariants as kind
use Rattle.udb_entry.specs.Entries as spec
use Rattle.udb_entry.specs.declared.answers.Entry.TheVariants as entry
use Rattle.udb_entry.proofs.ReadLemmas.{gained, failed}
use Rattle.udb_entry.proofs.entries.param.Goals as goal

pub returns-in-Ok : goal.returns-in-Ok
returns-in-Ok c =
    let made = gained (λ v. entry.Param (spec.param_with v)) _ _ c.in-Ok.parts _ (c.both_read.ensures _ _ _ _ c.param_domain.ensures (c.both_read-conditions.ensures _ _ _ _ c.condition-defined.ensures (c.both_read-inner.ensures _ _ _ _ c.condition-needs.ensures c.titles.ensures))) c.in-Ok.is in
    (made.0, ap entry.Param c.param_with.ensures ∙ made.1)

pub returns-in-Err : goal.returns-in-Err
returns-in-Err c = failed _ _ (spec.entry_of kind.Parameter c.args.tree.now) _ c.in-Err.fault (c.both_read.ensures _ _ _ _ c.param_domain.ensures (c.both_read-conditions.ensures _ _ _ _ c.condition-defined.ensures (c.both_read-inner.ensures _ _ _ _ c.condition-needs.ensures c.titles.ensures))) c.in-Err.is
