use Rattle.std.proofs.Common.{rules}
use Rattle.db_spec.specs.First.{KeepsUpTo}
use Rattle.udb_db.proofs.LawfulSpaces.{lawful_kept}
use Rattle.udb_db.proofs.accepting.settle.Goals as goal

pub returns : goal.returns
returns c =
    let kept : KeepsUpTo 12 c.args.rows.now = search rules in
    (kept, lawful_kept c.args.rows.now c.args.entries.now c.args.space.now c.requires.order c.requires.kinds c.requires.give c.requires.space kept)
