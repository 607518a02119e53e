use Rattle.std.proofs.Common.{◌+◌, ◌<◌, ◌≤◌, map, drop, length, Vec, Global, Err, sym, ap, ◌∙◌, arith}
use Rattle.std.proofs.lemmas.Result.{err_from_is_err_and}
use Rattle.idl_spec.specs.Settings.{Scope}
use Rattle.idl_spec.specs.Programs as bodies
use Rattle.idl_forms.specs.declared.values.Local.{Local}
use Rattle.idl_forms.specs.States.{as_value, scope_of}
use Rattle.idl_forms.specs.Scenes.{setting_of}
use Rattle.idl_forms.proofs.Endings.{ends-same}
use Rattle.idl_forms.proofs.ArgumentParts.{argument-text, argument-apart, argument-more, too-many}
use Rattle.idl_forms.proofs.results.arguments.Goals as goal

pub returns-in_err-value : goal.returns-in_err-value
returns-in_err-value c = λ s.
    let e = setting_of c.args.scene.now in
    let declared = c.args.declared.now in
    let values = c.args.values.now in
    let at = c.loop-place.place in
    let v = c.index-values-place.result in
    let scope = scope_of c.loop-place.scope.items in
    let within : at < length values = omega arith in
    let inside : at < length declared = omega arith in
    let p = err_from_is_err_and c.from_residual.result c.from_residual.ensures.1 in
    ends-same _ _ (bodies.arguments e (drop at declared) (map as_value (drop at values)) scope s) _ _ s (c.loop-place.invariant s) (p.1 ∙ ap Err p.2)
    (argument-text (λ (locals : Vec Local Global). scope_of locals.items) e declared values at c.index-declared-place.result v scope _ s inside within c.index-declared-place.is c.index-values-place.is (c.in_err-value.ensures s))

pub returns-in_err-value-2 : goal.returns-in_err-value-2
returns-in_err-value-2 c = λ s.
    let e = setting_of c.args.scene.now in
    let declared = c.args.declared.now in
    let values = c.args.values.now in
    let at = c.loop-place.place in
    let v = c.index-values-place.result in
    let scope = scope_of c.loop-place.scope.items in
    let within : at < length values = omega arith in
    let inside : at < length declared = omega arith in
    let p = err_from_is_err_and c.from_residual-in_err-value-2.result c.from_residual-in_err-value-2.ensures.1 in
    ends-same _ _ (bodies.arguments e (drop at declared) (map as_value (drop at values)) scope s) _ _ s (c.loop-place.invariant s) (p.1 ∙ ap Err p.2)
    (argument-apart (λ (locals : Vec Local Global). scope_of locals.items) e declared values at c.index-declared-place.result v c.in_ok-value.value scope _ s inside within c.index-declared-place.is c.index-values-place.is
    (c.in_ok-value.ensures s) (c.in_err-value-2.ensures s))

pub loop-place-preserved : goal.loop-place-preserved
loop-place-preserved c = λ s.
    let e = setting_of c.args.scene.now in
    let declared = c.args.declared.now in
    let values = c.args.values.now in
    let at = c.loop-place.place in
    let v = c.index-values-place.result in
    let scope = scope_of c.loop-place.scope.items in
    let within : at < length values = omega arith in
    let inside : at < length declared = omega arith in
    c.loop-place.invariant s
    ∙ argument-more e declared values at c.index-declared-place.result v c.in_ok-value.value c.in_ok-value-2.value scope s inside within c.index-declared-place.is c.index-values-place.is
    (c.in_ok-value.ensures s) (c.in_ok-value-2.ensures s)
    ∙ ap (λ (after : Scope). bodies.arguments e (drop (at + 1) declared) (map as_value (drop (at + 1) values)) after s) (sym c.in_ok-declare.ensures)

pub returns-then-declared-values : goal.returns-then-declared-values
returns-then-declared-values c = λ s.
    let declared = c.args.declared.now in
    let values = c.args.values.now in
    let at = c.loop-place.place in
    let all : length declared ≤ at = omega arith in
    let more : at < length values = omega arith in
    c.loop-place.invariant s ∙ too-many (setting_of c.args.scene.now) declared values at (scope_of c.loop-place.scope.items) s all more
