use Rattle.std.proofs.Common.{◌≡◌, Option, Some, Err, sym, ap, ◌∙◌}
use Rattle.std.specs.Prelude.{option_map}
use Rattle.std.proofs.lemmas.Result.{err_from_is_err_and}
use Rattle.idl_spec.specs.Values as meant
use Rattle.idl_spec.specs.Harts.{done, or_stuck}
use Rattle.idl_spec.specs.Shapes.{innermost}
use Rattle.idl_spec.specs.Settings.{Scope, goes_on}
use Rattle.idl_spec.specs.Mean.{in_shape_of, set_local}
use Rattle.idl_forms.specs.declared.values.Scalar.{Scalar}
use Rattle.idl_forms.specs.States.{as_scalar, scope_of, going_on}
use Rattle.idl_forms.proofs.Endings.{ends-same}
use Rattle.idl_forms.proofs.Widths.{some-of}
use Rattle.idl_forms.proofs.ShapeParts.{word-known, required-early, required-some}
use Rattle.idl_forms.proofs.assignments.set_word.Goals as goal

pub returns-in_err-new : goal.returns-in_err-new
returns-in_err-new c = λ s o h.
    let scope = scope_of c.args.scope.now in
    let name = c.args.name.now in
    let value = as_scalar c.in_ok-value.value in
    let old = as_scalar c.in_ok-old.old in
    let inner : innermost scope name ≡ Some old = sym c.local.ensures ∙ ap (λ (x : Option Scalar). option_map as_scalar x) (some-of c.local.result c.in_ok-old.old c.in_ok-old.ensures) in
    let p = err_from_is_err_and c.from_residual-in_err-new.result c.from_residual-in_err-new.ensures.1 in
    ends-same (going_on {A = Unit {0}} c.args.scope.now) _ (or_stuck (in_shape_of old value) (λ new. set_local scope name new s)) _ _ s
    (word-known scope name o value old s (c.in_ok-value.ensures s o h) inner) (p.1 ∙ ap Err p.2)
    (required-early as_scalar (going_on {A = Unit {0}} c.args.scope.now) (in_shape_of old value) (λ new. set_local scope name new s) _ s (c.in_err-new.ensures s))

pub returns : goal.returns
returns c = λ s o h.
    let scope = scope_of c.args.scope.now in
    let name = c.args.name.now in
    let value = as_scalar c.in_ok-value.value in
    let old = as_scalar c.in_ok-old.old in
    let inner : innermost scope name ≡ Some old = sym c.local.ensures ∙ ap (λ (x : Option Scalar). option_map as_scalar x) (some-of c.local.result c.in_ok-old.old c.in_ok-old.ensures) in
    word-known scope name o value old s (c.in_ok-value.ensures s o h) inner
    ∙ ap (λ (x : Option meant.Value). or_stuck x (λ new. set_local scope name new s)) (required-some (in_shape_of old value) (as_scalar c.in_ok-new.new) s (c.in_ok-new.ensures s))
    ∙ ap (λ (after : Scope). done (goes_on after) s) (sym c.assign_local.ensures)
