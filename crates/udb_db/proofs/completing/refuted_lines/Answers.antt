use Rattle.udb_base.specs.declared.conditions.Cond.TheVariants.{Always}
use Rattle.udb_db.proofs.NamedProofs.{refuted_named}
use Rattle.udb_db.proofs.completing.refuted_lines.Goals as goal

pub print_proof-requires : goal.print_proof-requires
print_proof-requires c = refuted_named c.args.space.now c.args._part.now Always c.args.proof.now c.requires
