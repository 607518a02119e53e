-- Proofs form by form, for the checker's walk.
use Rattle.udb_spec.specs.RefutesLaws.{refutes-Leaf, refutes-Split, refutes-Cut, wrong-Leaf, wrong-Split, wrong-Cut}

pub ruleset check_laws = (refutes-Leaf, refutes-Split, refutes-Cut)

pub ruleset flaw_laws = (wrong-Leaf, wrong-Split, wrong-Cut)
