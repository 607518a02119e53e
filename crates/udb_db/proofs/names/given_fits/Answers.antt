use Rattle.std.proofs.Common.{◌≡◌, ap, sym, ◌∙◌}
use Rattle.udb_spec.specs.Lawful.{fits}
use Rattle.udb_lawful.specs.Misfit.{unless}
use Rattle.db_spec.specs.Entries.{given}
use Rattle.udb_db.proofs.NameSteps.{given_unless}
use Rattle.udb_db.proofs.names.given_fits.Goals as goal

pub returns : goal.returns
returns c =
    let e : c.fits.result ≡ fits c.args.space.now (given c.args.given.now) = c.fits.ensures ∙ ap (fits c.args.space.now) c.in_ok-cond.ensures in
    given_unless c.args.space.now c.args.given.now ∙ ap (λ b. unless b c.args.given.now.name) (sym e)
