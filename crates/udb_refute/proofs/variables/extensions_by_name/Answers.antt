use Rattle.std.proofs.Common.{◌≡◌, ◌+◌, ◌-◌, drop, length, ap, sym, ◌∙◌, subst, arith}
use Rattle.std.specs.HashMap.{get_by_text}
use Rattle.udb_refute.specs.Variables.{extension_among}
use Rattle.udb_refute.proofs.VariableLaws.{extension-next}
use Rattle.udb_refute.proofs.variables.extensions_by_name.Goals as goal

pub loop-done-preserved : goal.loop-done-preserved
loop-done-preserved c = λ name.
    let all = c.args.extensions.now in
    let place = length all - 1 - c.loop-done.done in
    let at : length all - (c.loop-done.done + 1) ≡ place = omega arith in
    let next : length all - c.loop-done.done ≡ place + 1 = omega arith in
    subst (λ n. get_by_text c.insert.new.all name ≡ extension_among (drop n all) name n) (sym at)
    (extension-next all place c.index-extensions-place.result name c.in_ok-alone.alone (get_by_text c.loop-done.all name) (get_by_text c.insert.new.all name) (omega arith) c.index-extensions-place.is (c.loop-done.invariant name ∙ ap (λ n. extension_among (drop n all) name n) next) c.in_ok-alone.ensures (c.in_ok-insert.ensures name))
