use Rattle.udb_search.proofs.Replied.{found_named}
use Rattle.udb_search.proofs.answers.found_text.Goals as goal

pub proof_text-requires : goal.proof_text-requires
proof_text-requires c = found_named c.args.space.now c.args.part.now c.args.cond.now c.in_ok-full.field-0 c.in-Refuted.proof c.in_ok-full.ensures c.in-Refuted.is
