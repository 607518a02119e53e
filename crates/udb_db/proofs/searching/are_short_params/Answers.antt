use Rattle.std.proofs.Common.{◌≡◌, get_or, arith, subst}
use Rattle.std.proofs.lemmas.List.Elements.{All-more}
use Rattle.udb_refute.specs.Search.{IsShortDomain}
use Rattle.udb_lawful.proofs.Lists.{all-of}
use Rattle.udb_db.proofs.searching.are_short_params.Goals as goal

pub loop-param-preserved : goal.loop-param-preserved
loop-param-preserved c =
    let here : IsShortDomain c.param-item.result.domain = c.is_short_domain.ensures (cc) in
    let is : c.param-item.result ≡ get_or c.args.params.now c.loop-param.param-index c.param-item.result = cc in
    All-more (λ p. IsShortDomain p.domain) c.args.params.now c.loop-param.param-index c.param-item.result (omega arith) c.loop-param.invariant (subst (λ p. IsShortDomain p.domain) is here)

pub returns : goal.returns
returns c = λ _. all-of (λ p. IsShortDomain p.domain) c.args.params.now c.loop-param.param-index (omega arith) c.loop-param.invariant
