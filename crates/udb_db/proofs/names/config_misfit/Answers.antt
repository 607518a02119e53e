use Rattle.std.proofs.Common.{◌≡◌, map, subst}
use Rattle.std.specs.Option.{option_copied}
use Rattle.udb_entry.specs.Config.{present}
use Rattle.db_spec.specs.Entries.{given}
use Rattle.udb_db.specs.Phases.{first_unfit, or_name}
use Rattle.udb_db.proofs.NameSteps.{four_by}
use Rattle.udb_db.proofs.names.config_misfit.Goals as goal

pub returns : goal.returns
returns c =
    let params : c.as_slice.result.now ≡ c.args.entry.now.params = cc in
    let mandatory : c.as_slice-2.result.now ≡ c.args.entry.now.mandatory = cc in
    let prohibited : c.as_slice-3.result.now ≡ c.args.entry.now.prohibited = cc in
    let implemented : c.as_slice-4.result.now ≡ c.args.entry.now.implemented = cc in
    four_by c.args.space.now (map given c.args.entry.now.params) (map present c.args.entry.now.mandatory) (map present c.args.entry.now.prohibited) (map present c.args.entry.now.implemented)
    (option_copied c.in_ok-first.first) (option_copied c.in_ok-second.second) (option_copied c.in_ok-third.third) (option_copied c.in_ok-last.last)
    (subst (λ xs. option_copied c.in_ok-first.first ≡ first_unfit c.args.space.now (map given xs)) params c.in_ok-first.ensures)
    (subst (λ xs. option_copied c.in_ok-second.second ≡ or_name (option_copied c.in_ok-first.first) (first_unfit c.args.space.now (map present xs))) mandatory c.in_ok-second.ensures)
    (subst (λ xs. option_copied c.in_ok-third.third ≡ or_name (option_copied c.in_ok-second.second) (first_unfit c.args.space.now (map present xs))) prohibited c.in_ok-third.ensures)
    (subst (λ xs. option_copied c.in_ok-last.last ≡ or_name (option_copied c.in_ok-third.third) (first_unfit c.args.space.now (map present xs))) implemented c.in_ok-last.ensures)
