use Rattle.udb_schema.proofs.MeetLemmas.{one_refutes, one_met}
use Rattle.udb_schema.proofs.FirstFaults.{met_is_ok, fault_is_named}
use Rattle.udb_schema.proofs.words.Schema.validate.Goals as goal

pub returns-clause-fault : goal.returns-clause-fault
returns-clause-fault c path word e = let f = c.first_fault.ensures.fault path word e in (one_refutes f, f)

pub returns-clause-taken : goal.returns-clause-taken
returns-clause-taken c met kept = met_is_ok c.args.self.now c.args.tree.now c.first_fault.result (λ p u e. one_refutes (c.first_fault.ensures.fault p u e)) met kept

pub returns-clause-named : goal.returns-clause-named
returns-clause-named c path word f kept = fault_is_named c.args.self.now c.args.tree.now c.first_fault.result (λ ok. one_met c.args.self.now c.args.tree.now (c.first_fault.ensures.met ok)) c.first_fault.ensures.fault path word f kept
