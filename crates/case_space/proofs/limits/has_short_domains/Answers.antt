use Rattle.std.proofs.Common.{◌≡◌, length, get_or, arith, subst, ap}
use Rattle.std.proofs.lemmas.List.Elements.{All-more}
use Rattle.udb_base.specs.declared.spaces.ParamSpace.{ParamSpace}
use Rattle.udb_refute.specs.Search.{IsShortDomain}
use Rattle.udb_lawful.proofs.Lists.{all-of}
use Rattle.case_space.proofs.limits.has_short_domains.Goals as goal

abbrev IsShortParam : ParamSpace → Type 0
IsShortParam p = IsShortDomain p.domain

pub loop-param-preserved : goal.loop-param-preserved
loop-param-preserved c =
    let list : c.as_slice-param-items.result.now ≡ c.args.space.now.params = cc in
    let short : IsShortParam c.param-item.result = c.is_short_domain.ensures (cc) in
    let is : c.param-item.result ≡ get_or c.args.space.now.params c.loop-param.param-index c.param-item.result = cc in
    All-more IsShortParam c.args.space.now.params c.loop-param.param-index c.param-item.result (omega (arith, ap length list)) c.loop-param.invariant (subst IsShortParam is short)

pub returns : goal.returns
returns c =
    let list : c.as_slice-param-items.result.now ≡ c.args.space.now.params = cc in
    λ _. all-of IsShortParam c.args.space.now.params c.loop-param.param-index (omega (arith, ap length list)) c.loop-param.invariant
