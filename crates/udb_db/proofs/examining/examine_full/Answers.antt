use Rattle.std.proofs.Common.{subst}
use Rattle.udb_base.specs.declared.refutations.Partial.{Partial}
use Rattle.db_spec.specs.Breaks.{HasNoCompletion}
use Rattle.udb_db.proofs.Examined.{halt_full}
use Rattle.udb_db.proofs.examining.examine_full.Goals as goal

pub returns-in-Ok-Some : goal.returns-in-Ok-Some
returns-in-Ok-Some c =
    halt_full c.args.rows.now c.args.entries.now c.args.space.now c.requires.kinds c.requires.give c.requires.space c.requires.names c.in-Ok-Some.shows
    (subst (λ xs. let part : Partial = record { constraints = xs } in HasNoCompletion c.args.space.now part c.in-Ok-Some.shows) c.new-constraints.ensures (rw c.in-Ok-Some.field-0-is at c.in-Ok-Some.ensures))
