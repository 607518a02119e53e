use Rattle.std.proofs.Common.{◌+◌, ap, sym, ◌∙◌, arith}
use Rattle.udb_spec.specs.Known.{ext_known}
use Rattle.udb_refute.proofs.ChoiceLaws.{no-known, ext-next, ext-none, ext-chosen, short-at}
use Rattle.udb_refute.proofs.choices.ext_choice.Goals as goal

pub loop-place-preserved : goal.loop-place-preserved
loop-place-preserved c = λ path needs.
    ext-next path c.as_slice-extensions.result.now c.args.name.now needs c.loop-place.place c.index-extensions-place.result (omega arith) c.index-extensions-place.is (cc) ∙ c.loop-place.invariant path needs

pub returns-then-eq : goal.returns-then-eq
returns-then-eq c = λ path needs unknown.
    let es = c.as_slice-extensions.result.now in
    let short = short-at c.args.space.now es c.loop-place.place c.index-extensions-place.result c.requires.lists c.as_slice-extensions.ensures (omega arith) c.index-extensions-place.is in
    ext-chosen c.args.space.now path es c.args.name.now needs c.loop-place.place _ c.index-extensions-place.result c.as_slice-extensions.ensures (omega arith) c.index-extensions-place.is (cc) (ap (λ n. n + 1) c.len.ensures) (omega (arith, short, c.len.ensures))
    (c.loop-place.invariant path needs ∙ ap (λ xs. ext_known path 0 xs c.args.name.now needs) c.as_slice-extensions.ensures ∙ unknown)

pub returns : goal.returns
returns c = λ path needs unknown.
    no-known (sym (ext-none path c.as_slice-extensions.result.now c.args.name.now needs c.loop-place.place (omega arith)) ∙ c.loop-place.invariant path needs ∙ ap (λ xs. ext_known path 0 xs c.args.name.now needs) c.as_slice-extensions.ensures ∙ unknown)
