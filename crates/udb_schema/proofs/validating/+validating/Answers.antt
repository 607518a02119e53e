use Rattle.std.proofs.Common.{◌≡◌, ap, sym, ◌∙◌, Err}
use Rattle.udb_schema.specs.Faults.{for_items}
use Rattle.udb_schema.specs.Validating.{behind}
use Rattle.udb_schema.proofs.MeetLemmas.{root_fault, leaf_answer, list_answer, map_answer, list_fault, map_fault, fault_of, item_at, entry_at}
use Rattle.yaml_spec.proofs.TreeLaws.{no_items, no_entries}
use Rattle.udb_schema.specs.declared.validating.SchemaFault.TheVariants.{At}
use Rattle.udb_schema.proofs.validating.+validating.Goals as goal

pub first_fault-returns-in-Some-clause-fault : goal.first_fault-returns-in-Some-clause-fault
first_fault-returns-in-Some-clause-fault t c path word e = root_fault (behind c.args.schemas.now) c.args.tree.now c.new.result path c.in-Some.word word (sym c.first_failing.ensures ∙ c.in-Some.is) c.new.ensures (let h : At c.new.result c.in-Some.word ≡ At path word = cc in h)

pub first_fault-returns-in-List-clause-met : goal.first_fault-returns-in-List-clause-met
first_fault-returns-in-List-clause-met t c ok = list_answer c.first_failing.result (behind c.args.schemas.now) c.args.tree.now c.in-List.items c.as_slice.result.now c.first_failing.ensures c.in_default.not-Some c.in-List.is c.as_slice.ensures (c.first_in_items.ensures.met ok)

pub first_fault-returns-in-List-clause-fault : goal.first_fault-returns-in-List-clause-fault
first_fault-returns-in-List-clause-fault t c path word e = list_fault c.first_failing.result (behind c.args.schemas.now) c.args.tree.now c.in-List.items c.as_slice.result.now path word c.first_failing.ensures c.in_default.not-Some c.in-List.is c.as_slice.ensures (c.first_in_items.ensures.fault path word e)

pub first_fault-returns-in-Map-clause-met : goal.first_fault-returns-in-Map-clause-met
first_fault-returns-in-Map-clause-met t c ok = map_answer c.first_failing.result (behind c.args.schemas.now) c.args.tree.now c.in-Map.entries c.as_slice-in-Map.result.now c.first_failing.ensures c.in_default.not-Some c.in-Map.is c.as_slice-in-Map.ensures (c.first_in_entries.ensures.met ok)

pub first_fault-returns-in-Map-clause-fault : goal.first_fault-returns-in-Map-clause-fault
first_fault-returns-in-Map-clause-fault t c path word e = map_fault c.first_failing.result (behind c.args.schemas.now) c.args.tree.now c.in-Map.entries c.as_slice-in-Map.result.now path word c.first_failing.ensures c.in_default.not-Some c.in-Map.is c.as_slice-in-Map.ensures (c.first_in_entries.ensures.fault path word e)

pub first_fault-returns-in_default-tree : goal.first_fault-returns-in_default-tree
first_fault-returns-in_default-tree t c = record {
  met = λ ok. leaf_answer c.first_failing.result (behind c.args.schemas.now) c.args.tree.now c.first_failing.ensures c.in_default.not-Some (no_items c.args.tree.now c.in_default-tree.not-List) (no_entries c.args.tree.now c.in_default-tree.not-Map);
  fault = λ path word e. absurd (cc);
}

pub first_in_entries-returns-in-Err-clause-fault : goal.first_in_entries-returns-in-Err-clause-fault
first_in_entries-returns-in-Err-clause-fault t c path word e =
    let h = c.first_in_entry.ensures.fault path word (c.in-Err.is ∙ e) in
    entry_at (behind c.args.schemas.now) c.args.entries.now c.loop-entry.entry-index c.entry-item.result h.0 path word c.loop-entry-test.true c.entry-item.is c.loop-entry.invariant h.1 h.2

pub first_in_items-returns-in-Err-clause-fault : goal.first_in_items-returns-in-Err-clause-fault
first_in_items-returns-in-Err-clause-fault t c path word e =
    let h = c.fault_at.ensures path word (cc) in
    item_at (behind c.args.schemas.now) c.args.items.now c.loop-place.place c.index-items-place.result h.0 path word c.loop-place-test.true c.index-items-place.is c.loop-place.invariant
    (fault_of (for_items (behind c.args.schemas.now)) (ap behind c.as_slice.ensures.value ∙ c.in_ok-under.ensures) (c.first_fault.ensures.fault h.0 word (c.in-Err.is ∙ ap Err h.1))) h.2
