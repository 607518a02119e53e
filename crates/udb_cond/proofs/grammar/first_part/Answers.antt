use Rattle.std.proofs.Common.{sym}
use Rattle.udb_cond.proofs.GrammarLemmas.{dot-found, no-dot, split-first, split-whole}
use Rattle.udb_cond.proofs.grammar.first_part.Goals as goal

pub returns-in-Some : goal.returns-in-Some
returns-in-Some c =
    let found = dot-found c.args.text.now c.in-Some.at (sym c.in-Some.ensures) in
    rw (c.split_at.ensures.front, c.split_at-in-Some.ensures.back, c.split_at.ensures.back) (split-first c.args.text.now c.in-Some.at found.0 found.1)

pub returns-in-None : goal.returns-in-None
returns-in-None c = split-whole c.args.text.now (no-dot c.args.text.now (sym c.in-None.ensures))
