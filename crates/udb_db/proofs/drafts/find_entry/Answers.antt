use Rattle.std.proofs.Common.{◌≡◌, true, get_or, arith, sym, subst}
use Rattle.std.proofs.lemmas.List.Elements.{All-more}
use Rattle.udb_lawful.proofs.Lists.{all-of}
use Rattle.udb_db.specs.Databases.{HasKey}
use Rattle.udb_db.proofs.drafts.find_entry.Goals as goal

pub returns-then-has_key : goal.returns-then-has_key
returns-then-has_key c =
    let is : c.entry-item.result ≡ get_or c.args.entries.now c.loop-entry.entry-index c.entry-item.result = cc in
    ((c.loop-entry.entry-index, omega arith, sym is), c.has_key.ensures.0 (cc))

pub loop-entry-preserved : goal.loop-entry-preserved
loop-entry-preserved c =
    let none : HasKey c.args.kind c.args.name.now c.entry-item.result → ⊥ = λ w. (let t : c.has_key.result ≡ true = c.has_key.ensures.1 w in cc) in
    let is : c.entry-item.result ≡ get_or c.args.entries.now c.loop-entry.entry-index c.entry-item.result = cc in
    All-more (λ e. HasKey c.args.kind c.args.name.now e → ⊥) c.args.entries.now c.loop-entry.entry-index c.entry-item.result (omega arith) c.loop-entry.invariant (subst (λ e. HasKey c.args.kind c.args.name.now e → ⊥) is none)

pub returns : goal.returns
returns c = all-of (λ e. HasKey c.args.kind c.args.name.now e → ⊥) c.args.entries.now c.loop-entry.entry-index (omega arith) c.loop-entry.invariant
