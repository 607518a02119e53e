use Rattle.std.proofs.Common.{◌≡◌, true, false, arith}
use Rattle.std.proofs.lemmas.Bool.{false≢true}
use Rattle.udb_spec.specs.Lawful.{name_lt}
use Rattle.udb_lawful.proofs.Rising.{names-more, names-stop}
use Rattle.udb_lawful.proofs.spaces.extension_names_rise.Goals as goal

pub returns-then-not-are_extensions_rising : goal.returns-then-not-are_extensions_rising
returns-then-not-are_extensions_rising c =
    let x = c.index-list-at.result in
    let y = c.index-list-at-in-loop-at.result in
    let above : name_lt x.name y.name ≡ false = cc in (
      λ e. absurd (false≢true e),
      λ h. absurd (names-stop (λ e. e.name) c.args.list.now c.loop-at.at x y (omega arith) c.index-list-at.is c.index-list-at-in-loop-at.is c.loop-at.invariant above h),
    )

pub loop-at-preserved : goal.loop-at-preserved
loop-at-preserved c =
    let x = c.index-list-at.result in
    let y = c.index-list-at-in-loop-at.result in
    let below : name_lt x.name y.name ≡ true = cc in
    names-more (λ e. e.name) c.args.list.now c.loop-at.at x y (omega arith) c.index-list-at.is c.index-list-at-in-loop-at.is c.loop-at.invariant below
