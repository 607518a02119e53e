use Rattle.std.proofs.Common.{◌≡◌, subst}
use Rattle.std.specs.Option.{option_copied}
use Rattle.udb_base.specs.declared.kinds.Kind.TheVariants as kind
use Rattle.udb_db.specs.Databases.{IsFound, FindsConfig}
use Rattle.udb_db.proofs.Examined.{finds_config}
use Rattle.udb_db.proofs.drafts.Draft.config.Goals as goal

pub returns : goal.returns
returns c =
    let list : c.as_slice.result.now ≡ c.self.inside.entries = cc in
    let found : IsFound kind.Config c.args.name.now c.self.inside.entries (option_copied c.find_entry-found.result) = subst (λ es. IsFound kind.Config c.args.name.now es (option_copied c.find_entry-found.result)) list c.find_entry-found.ensures in
    subst (λ rows. FindsConfig rows c.args.name.now c.in_ok-part.part) c.self.view_is
    (finds_config c.self.inside.tables c.self.inside.entries c.self.inside.space c.args.name.now (option_copied c.find_entry-found.result) c.in_ok-part.part c.self.invariant found c.in_ok-part.ensures)
