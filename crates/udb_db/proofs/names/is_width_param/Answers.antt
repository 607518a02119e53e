use Rattle.std.proofs.Common.{◌≡◌}
use Rattle.db_spec.specs.Entries.{width_name}
use Rattle.udb_db.proofs.names.is_width_param.Goals as goal

pub returns-then-is_width_name : goal.returns-then-is_width_name
returns-then-is_width_name c =
    let name : c.args.param.now.name ≡ width_name = c.is_width_name.ensures.0 (cc) in
    (λ t. (name, c.lists_widths.ensures.0 t), λ x. c.lists_widths.ensures.1 x.1)

pub returns-else-is_width_name : goal.returns-else-is_width_name
returns-else-is_width_name c = (λ t. absurd (cc), λ x. let t = c.is_width_name.ensures.1 x.0 in absurd (cc))
