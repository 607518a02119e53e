use Rattle.std.proofs.Common.{◌≡◌}
use Rattle.db_spec.specs.Entries.{kind_of}
use Rattle.udb_db.proofs.drafts.has_key.Goals as goal

pub returns-then-is_of_kind : goal.returns-then-is_of_kind
returns-then-is_of_kind c =
    let kind : kind_of c.args.entry.now ≡ c.args.kind = c.is_of_kind.ensures.0 (cc) in
    (λ t. (kind, c.is_named.ensures.0 t), λ x. c.is_named.ensures.1 x.1)

pub returns-else-is_of_kind : goal.returns-else-is_of_kind
returns-else-is_of_kind c = (λ t. absurd (cc), λ x. let t = c.is_of_kind.ensures.1 x.0 in absurd (cc))
