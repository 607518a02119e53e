use Rattle.std.proofs.Common.{◌∙◌, ap, sym, subst}
use Rattle.std.specs.Bool.{Decides}
use Rattle.std.specs.List.{list_all}
use Rattle.type_laws.specs.Given.{IsReadSpace}
use Rattle.idl_lawful.specs.Readings.{has_read_domain}
use Rattle.idl_lawful.proofs.ReadingTests.{space-decides}
use Rattle.idl_lawful.proofs.spaces.is_read_space.Goals as goal

pub returns : goal.returns
returns c =
    subst (λ b. Decides b (IsReadSpace c.args.space.now))
    (sym (c.have_read_domains.ensures ∙ ap (list_all has_read_domain) c.as_slice.ensures))
    (space-decides c.args.space.now)
