use Rattle.std.proofs.Common.{◌≡◌, ◌<◌, ◌-◌, ◌^◌, length, get_or, arith, subst}
use Rattle.std.proofs.lemmas.List.Elements.{All-more}
use Rattle.udb_lawful.proofs.Lists.{all-of}
use Rattle.udb_db.proofs.searching.are_short_extensions.Goals as goal

pub loop-extension-preserved : goal.loop-extension-preserved
loop-extension-preserved c =
    let here : length c.extension-item.result.versions < 2 ^ 32 - 1 = c.has_short_versions.ensures (cc) in
    let is : c.extension-item.result ≡ get_or c.args.extensions.now c.loop-extension.extension-index c.extension-item.result = cc in
    All-more (λ e. length e.versions < 2 ^ 32 - 1) c.args.extensions.now c.loop-extension.extension-index c.extension-item.result (omega arith) c.loop-extension.invariant (subst (λ e. length e.versions < 2 ^ 32 - 1) is here)

pub returns : goal.returns
returns c = λ _. all-of (λ e. length e.versions < 2 ^ 32 - 1) c.args.extensions.now c.loop-extension.extension-index (omega arith) c.loop-extension.invariant
