use Rattle.std.proofs.Common.{◌≡◌, ap, sym, ◌∙◌}
use Rattle.udb_spec.specs.Lawful.{fits}
use Rattle.udb_lawful.specs.Misfit.{unless}
use Rattle.udb_entry.specs.Config.{present}
use Rattle.udb_db.proofs.NameSteps.{present_unless}
use Rattle.udb_db.proofs.names.member_fits.Goals as goal

pub returns : goal.returns
returns c =
    let e : c.fits.result ≡ fits c.args.space.now (present c.args.member.now) = c.fits.ensures ∙ ap (fits c.args.space.now) c.in_ok-cond.ensures in
    present_unless c.args.space.now c.args.member.now ∙ ap (λ b. unless b c.args.member.now.name) (sym e)
