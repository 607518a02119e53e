use Rattle.udb_full.proofs.TextLaws.{IsScan}
use Rattle.udb_full.proofs.values.version_of_text.Given as goal

abbrev pub invariant-loop-listed : goal.invariant-loop-listed
invariant-loop-listed l = IsScan l.versions l.text l.listed-index l.found
