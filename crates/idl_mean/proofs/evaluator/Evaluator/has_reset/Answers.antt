use Rattle.std.proofs.Common.{◌≡◌, true, sym, subst}
use Rattle.udb_spec.specs.Spaces.{Valid}
use Rattle.idl_spec.specs.ProgramFits.{program_fits}
use Rattle.idl_mean.specs.declared.prepared.Prepared.{Prepared}
use Rattle.idl_mean.specs.Evaluators.{IsRead, HasReset}
use Rattle.idl_mean.proofs.Typing.{has_reset}
use Rattle.idl_mean.proofs.evaluator.Evaluator.has_reset.Goals as goal

pub returns : goal.returns
returns c =
    let full = c.args.full.now in
    let back = sym c.self.view_is in
    subst (λ (p : Prepared). HasReset p c.args.csr c.args.field full) c.self.view_is
    (has_reset c.self.inside.prepared c.self.inside.widths c.self.inside.bare_widths c.self.invariant full
    (subst (λ (p : Prepared). Valid p.space full) back c.requires.valid)
    (subst IsRead back c.requires.read)
    (subst (λ (p : Prepared). program_fits p.space full p.program ≡ true) back c.requires.program)
    c.fitting_bodies_are_never_stuck.ensures c.args.csr c.args.field)
