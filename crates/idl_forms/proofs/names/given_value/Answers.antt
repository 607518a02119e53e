use Rattle.std.proofs.Common.{◌≡◌, ◌<◌, ◌≤◌, ◌^◌, subst, ◌∙◌, arith}
use Rattle.udb_base.specs.declared.conditions.Value.TheVariants as v
use Rattle.udb_spec.specs.Spaces.{InDomain}
use Rattle.idl_spec.specs.Shapes.{greatest}
use Rattle.idl_forms.proofs.ChoicePlaces.{number-below}
use Rattle.idl_forms.proofs.names.given_value.Goals as goal

pub new-requires-clause-in_width : goal.new-requires-clause-in_width
new-requires-clause-in_width c =
    let inside : InDomain c.args.domain.now (v.Number c.in-Number.number) = subst (InDomain c.args.domain.now) c.in-Number.is c.requires in
    let below : c.in-Number.number ≤ greatest c.args.domain.now = number-below c.args.domain.now c.in-Number.number inside in
    let fits : c.from.result < 2 ^ c.least_width-width.result = c.least_width-width.ensures.fits in
    let most : c.from.result ≡ greatest c.args.domain.now = c.from.ensures ∙ c.greatest.ensures in
    let same : c.from-in-Number.result ≡ c.in-Number.number = c.from-in-Number.ensures in
    omega arith
