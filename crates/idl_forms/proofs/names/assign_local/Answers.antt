use Rattle.std.proofs.Common.{◌≡◌, ◌<◌, ◌+◌, ◌-◌, true, false, None, length, get_or, drop, sym, ap, subst, ◌∙◌, arith}
use Rattle.udb_spec.specs.Conditions.{same_bytes}
use Rattle.idl_spec.specs.Shapes.{innermost}
use Rattle.idl_spec.specs.Mean.{assigned}
use Rattle.idl_forms.specs.States.{as_scalar, scope_of}
use Rattle.idl_forms.proofs.VariableBits.{local-assigned, assigned-nowhere, locals-back, default-free}
use Rattle.idl_forms.proofs.names.assign_local.Goals as goal

pub returns-then-eq : goal.returns-then-eq
returns-then-eq c =
    let inside : c.loop-at.at - 1 < length c.loop-at.scope = omega (arith, c.loop-at.invariant.1) in
    let test : same_bytes c.index-scope-at.result.name c.args.name.now ≡ true = cc in
    let next : c.loop-at.at ≡ c.loop-at.at - 1 + 1 = omega arith in
    let past : innermost (scope_of (drop (c.loop-at.at - 1 + 1) c.loop-at.scope)) c.args.name.now ≡ None = subst (λ n. innermost (scope_of (drop n c.loop-at.scope)) c.args.name.now ≡ None) next c.loop-at.invariant.2 in
    local-assigned c.loop-at.scope (c.loop-at.at - 1) c.args.name.now
    (record { name = (get_or c.loop-at.scope (c.loop-at.at - 1) c.index-scope-at-then-eq.result).name; value = c.args.value }) c.index-scope-at.result inside c.index-scope-at.is
    (ap (λ l. l.name) (default-free c.loop-at.scope (c.loop-at.at - 1) c.index-scope-at-then-eq.result c.index-scope-at.result inside ∙ sym c.index-scope-at.is)) test past
    ∙ ap (λ ls. assigned (scope_of ls) c.args.name.now (as_scalar c.args.value)) c.loop-at.invariant.0

pub returns : goal.returns
returns c =
    let start : c.loop-at.at ≡ 0 = omega arith in
    let none : innermost (scope_of c.loop-at.scope) c.args.name.now ≡ None = subst (λ n. innermost (scope_of (drop n c.loop-at.scope)) c.args.name.now ≡ None) start c.loop-at.invariant.2 in
    sym (assigned-nowhere (scope_of c.loop-at.scope) c.args.name.now (as_scalar c.args.value) none) ∙ ap (λ ls. assigned (scope_of ls) c.args.name.now (as_scalar c.args.value)) c.loop-at.invariant.0

pub loop-at-preserved : goal.loop-at-preserved
loop-at-preserved c =
    let inside : c.loop-at.at - 1 < length c.loop-at.scope = omega (arith, c.loop-at.invariant.1) in
    let test : same_bytes c.index-scope-at.result.name c.args.name.now ≡ false = cc in
    let next : c.loop-at.at ≡ c.loop-at.at - 1 + 1 = omega arith in
    let past : innermost (scope_of (drop (c.loop-at.at - 1 + 1) c.loop-at.scope)) c.args.name.now ≡ None = subst (λ n. innermost (scope_of (drop n c.loop-at.scope)) c.args.name.now ≡ None) next c.loop-at.invariant.2 in
    (c.loop-at.invariant.0, omega arith, locals-back c.loop-at.scope (c.loop-at.at - 1) c.index-scope-at.result c.args.name.now inside c.index-scope-at.is test past)
