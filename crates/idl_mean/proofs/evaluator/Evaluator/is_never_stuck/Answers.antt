use Rattle.std.proofs.Common.{◌≡◌, ◌<◌, true, length, sym, subst}
use Rattle.udb_spec.specs.Spaces.{Valid}
use Rattle.idl_spec.specs.ProgramFits.{program_fits}
use Rattle.idl_mean.specs.declared.prepared.Prepared.{Prepared}
use Rattle.idl_mean.specs.Evaluators.{IsRead, FitsAt, NeverStuck}
use Rattle.idl_mean.proofs.Typing.{runs}
use Rattle.idl_mean.proofs.evaluator.Evaluator.is_never_stuck.Goals as goal

pub returns : goal.returns
returns c =
    let full = c.args.full.now in
    let back = sym c.self.view_is in
    subst (λ (p : Prepared). NeverStuck p c.args.body full) c.self.view_is
    (runs c.self.inside.prepared c.self.inside.widths c.self.inside.bare_widths c.self.invariant full
    (subst (λ (p : Prepared). Valid p.space full) back c.requires.valid)
    (subst IsRead back c.requires.read)
    (subst (λ (p : Prepared). program_fits p.space full p.program ≡ true) back c.requires.program)
    c.fitting_bodies_are_never_stuck.ensures
    c.args.body
    (subst (λ (p : Prepared). FitsAt p c.args.body full) back c.requires.fits)
    (subst (λ (p : Prepared). c.args.body < length p.bodies) back c.requires.place))
