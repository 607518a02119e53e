use Rattle.std.proofs.Common.{ap, ◌∙◌}
use Rattle.udb_entry.specs.Entries as spec
use Rattle.udb_entry.proofs.entries.config_with.Goals as goal

pub returns : goal.returns
returns c =
    ap (λ kind. spec.config_with kind c.flag_at.result c.args.parts) c.config_kind.ensures
    ∙ ap (λ others. spec.config_with (spec.config_kind c.args.tree.now) others c.args.parts) c.flag_at.ensures
