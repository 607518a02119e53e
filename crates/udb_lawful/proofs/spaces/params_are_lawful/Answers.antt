use Rattle.std.proofs.Common.{◌≡◌, length, get_or, arith, subst, refl, ap}
use Rattle.std.proofs.lemmas.List.Elements.{All-more}
use Rattle.udb_spec.specs.Lawful.{IsLawfulParam}
use Rattle.udb_lawful.proofs.Lists.{all-of}
use Rattle.udb_lawful.proofs.spaces.params_are_lawful.Goals as goal

pub loop-param-preserved : goal.loop-param-preserved
loop-param-preserved c =
    let list : c.as_slice-param-items.result.now ≡ c.args.space.now.params = cc in
    let lawful : IsLawfulParam c.args.space.now c.param-item.result = c.is_lawful_param.ensures.0 (cc) in
    let is : c.param-item.result ≡ get_or c.args.space.now.params c.loop-param.param-index c.param-item.result = cc in
    All-more (IsLawfulParam c.args.space.now) c.args.space.now.params c.loop-param.param-index c.param-item.result (omega (arith, ap length list)) c.loop-param.invariant (subst (IsLawfulParam c.args.space.now) is lawful)

pub returns : goal.returns
returns c =
    let list : c.as_slice-param-items.result.now ≡ c.args.space.now.params = cc in
    (λ _. all-of (IsLawfulParam c.args.space.now) c.args.space.now.params c.loop-param.param-index (omega (arith, ap length list)) c.loop-param.invariant, λ _. refl)
