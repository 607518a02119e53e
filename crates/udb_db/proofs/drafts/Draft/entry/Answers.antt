use Rattle.std.proofs.Common.{◌≡◌, subst}
use Rattle.std.specs.Option.{option_copied}
use Rattle.udb_db.specs.Databases.{IsFound, FindsEntry}
use Rattle.udb_db.proofs.Examined.{finds_entry}
use Rattle.udb_db.proofs.drafts.Draft.entry.Goals as goal

pub returns : goal.returns
returns c =
    let list : c.as_slice.result.now ≡ c.self.inside.entries = cc in
    let found : IsFound c.args.kind c.args.name.now c.self.inside.entries (option_copied c.find_entry.result) = subst (λ es. IsFound c.args.kind c.args.name.now es (option_copied c.find_entry.result)) list c.find_entry.ensures in
    subst (λ rows. FindsEntry rows c.args.kind c.args.name.now (option_copied c.find_entry.result)) c.self.view_is
    (finds_entry c.self.inside.tables c.self.inside.entries c.self.inside.space c.args.kind c.args.name.now (option_copied c.find_entry.result) c.self.invariant found)
