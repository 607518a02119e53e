use Rattle.std.proofs.Common.{All, take}
use Rattle.db_spec.specs.Entries.{IsWidths}
use Rattle.udb_db.proofs.names.has_widths.Given as goal

abbrev pub invariant-loop-param : goal.invariant-loop-param
invariant-loop-param l = All (λ p. IsWidths p → ⊥) (take l.param-index l.space.params)
