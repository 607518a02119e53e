use Rattle.std.proofs.Common.{◌≡◌, length, get_or, arith, subst, refl, ap}
use Rattle.std.proofs.lemmas.List.Elements.{All-more}
use Rattle.udb_spec.specs.Lawful.{IsLawfulExt}
use Rattle.udb_lawful.proofs.Lists.{all-of}
use Rattle.udb_lawful.proofs.spaces.extensions_are_lawful.Goals as goal

pub loop-extension-preserved : goal.loop-extension-preserved
loop-extension-preserved c =
    let list : c.as_slice-extension-items.result.now ≡ c.args.space.now.extensions = cc in
    let lawful : IsLawfulExt c.args.space.now c.extension-item.result = c.is_lawful_ext.ensures.0 (cc) in
    let is : c.extension-item.result ≡ get_or c.args.space.now.extensions c.loop-extension.extension-index c.extension-item.result = cc in
    All-more (IsLawfulExt c.args.space.now) c.args.space.now.extensions c.loop-extension.extension-index c.extension-item.result (omega (arith, ap length list)) c.loop-extension.invariant (subst (IsLawfulExt c.args.space.now) is lawful)

pub returns : goal.returns
returns c =
    let list : c.as_slice-extension-items.result.now ≡ c.args.space.now.extensions = cc in
    (λ _. all-of (IsLawfulExt c.args.space.now) c.args.space.now.extensions c.loop-extension.extension-index (omega (arith, ap length list)) c.loop-extension.invariant, λ _. refl)
