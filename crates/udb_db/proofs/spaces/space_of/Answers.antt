use Rattle.std.proofs.Common.{◌≡◌, IfOk, subst}
use Rattle.std.specs.List.{flat_map}
use Rattle.udb_base.specs.declared.spaces.Space.{Space}
use Rattle.udb_db.specs.Phases.{ext_spaces_in, param_spaces_in}
use Rattle.udb_db.proofs.Steps.{space_is}
use Rattle.udb_db.proofs.spaces.space_of.Goals as goal

pub returns : goal.returns
returns c =
    let space : Space = record { extensions = c.in_ok-extensions.extensions; params = c.in_ok-extensions.params } in
    space_is c.args.entries.now space
    (subst (λ r. IfOk r (λ all. all ≡ flat_map ext_spaces_in c.args.entries.now)) c.in_ok-extensions.ensures.0 c.ext_spaces.ensures)
    (subst (λ r. IfOk r (λ all. all ≡ flat_map param_spaces_in c.args.entries.now)) c.in_ok-extensions.ensures.1 c.param_spaces.ensures)
