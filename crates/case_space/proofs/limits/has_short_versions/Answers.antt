use Rattle.std.proofs.Common.{◌≡◌, ◌<◌, ◌-◌, ◌^◌, length, get_or, arith, subst, ap}
use Rattle.std.proofs.lemmas.List.Elements.{All-more}
use Rattle.udb_base.specs.declared.spaces.ExtSpace.{ExtSpace}
use Rattle.udb_lawful.proofs.Lists.{all-of}
use Rattle.case_space.proofs.limits.has_short_versions.Goals as goal

abbrev IsShortList : ExtSpace → Type 0
IsShortList e = length e.versions < 2 ^ 32 - 1

pub loop-extension-preserved : goal.loop-extension-preserved
loop-extension-preserved c =
    let list : c.as_slice-extension-items.result.now ≡ c.args.space.now.extensions = cc in
    let short : IsShortList c.extension-item.result = omega arith in
    let is : c.extension-item.result ≡ get_or c.args.space.now.extensions c.loop-extension.extension-index c.extension-item.result = cc in
    All-more IsShortList c.args.space.now.extensions c.loop-extension.extension-index c.extension-item.result (omega (arith, ap length list)) c.loop-extension.invariant (subst IsShortList is short)

pub returns : goal.returns
returns c =
    let list : c.as_slice-extension-items.result.now ≡ c.args.space.now.extensions = cc in
    λ _. all-of IsShortList c.args.space.now.extensions c.loop-extension.extension-index (omega (arith, ap length list)) c.loop-extension.invariant
