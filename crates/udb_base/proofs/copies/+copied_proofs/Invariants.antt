use Rattle.std.proofs.Common.{◌≡◌, take}
use Rattle.udb_base.proofs.copies.+copied_proofs.Given as goal

abbrev pub invariant-copy_proofs-loop-proof : goal.invariant-copy_proofs-loop-proof
invariant-copy_proofs-loop-proof l = l.copies ≡ take l.proof-index l.proofs
