use Rattle.std.proofs.Common.{ap, ◌∙◌}
use Rattle.udb_base.specs.declared.kinds.Kind.TheVariants as kind
use Rattle.udb_entry.specs.Entries as spec
use Rattle.udb_entry.specs.declared.answers.Entry.TheVariants as entry
use Rattle.udb_entry.proofs.ReadLemmas.{gained, failed}
use Rattle.udb_entry.proofs.entries.instruction.Goals as goal

pub returns-in-Ok : goal.returns-in-Ok
returns-in-Ok c =
    let made = gained (λ v. entry.Instruction (spec.instruction_with (spec.own_base c.args.tree.now) v.1)) _ _ c.in-Ok.parts _ (c.both_read.ensures _ _ _ _ (c.examined-names.ensures _ c.variables_rule.ensures) (c.both_read-rest.ensures _ _ _ _ c.forms.ensures (c.both_read-inner.ensures _ _ _ _ c.condition-defined.ensures (c.both_read-tail.ensures _ _ _ _ c.operation.ensures (c.both_read-texts.ensures _ _ _ _ c.titles.ensures c.assembly.ensures))))) c.in-Ok.is in
    (made.0, ap entry.Instruction c.instruction_with.ensures ∙ made.1)

pub returns-in-Err : goal.returns-in-Err
returns-in-Err c = failed _ _ (spec.entry_of kind.Instruction c.args.tree.now) _ c.in-Err.fault (c.both_read.ensures _ _ _ _ (c.examined-names.ensures _ c.variables_rule.ensures) (c.both_read-rest.ensures _ _ _ _ c.forms.ensures (c.both_read-inner.ensures _ _ _ _ c.condition-defined.ensures (c.both_read-tail.ensures _ _ _ _ c.operation.ensures (c.both_read-texts.ensures _ _ _ _ c.titles.ensures c.assembly.ensures))))) c.in-Err.is
