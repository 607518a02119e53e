use Rattle.std.proofs.Common.{◌∙◌, sym, subst}
use Rattle.udb_base.specs.Tables.{IsTextOf}
use Rattle.udb_base.proofs.memory_keeper.MemoryKeeperKeeper.row.Goals as goal
use Rattle.udb_base.proofs.memory_keeper.MemoryKeeperKeeper.row.Goals.{in-Ok, in-Err}

pub returns-clause-text : goal.returns-clause-text
returns-clause-text c = elim c.match-text.branch [
  | in-Ok w ↦ rw w.result-is (λ rows e. subst (λ l. IsTextOf l c.args.kind c.args.name.now w.in-Ok.text) (c.deref-2.ensures.value ∙ sym e) w.in-Ok.ensures)
  | in-Err w ↦ rw w.result-is tt
]
