use Rattle.std.proofs.Common.{All, take}
use Rattle.udb_db.specs.Databases.{HasKey}
use Rattle.udb_db.proofs.drafts.find_entry.Given as goal

abbrev pub invariant-loop-entry : goal.invariant-loop-entry
invariant-loop-entry l = All (λ e. HasKey l.kind l.name e → ⊥) (take l.entry-index l.entries)
