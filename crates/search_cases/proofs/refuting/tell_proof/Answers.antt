use Rattle.search_cases.proofs.Named.{refuted_named}
use Rattle.search_cases.proofs.refuting.tell_proof.Goals as goal

pub print_proof-requires : goal.print_proof-requires
print_proof-requires c = refuted_named c.args.space.now c.args.part.now c.args.asked.now c.args.proof.now c.requires.refuted
