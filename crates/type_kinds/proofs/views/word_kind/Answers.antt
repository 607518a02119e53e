use Rattle.std.proofs.Common.{◌≡◌, IfOk, None, Some, sym, ap, ◌∙◌, subst}
use Rattle.std.specs.Prelude.{option_map}
use Rattle.std.specs.Option.{option_copied}
use Rattle.idl_spec.specs.Demands.{visible_named}
use Rattle.type_kinds.specs.Kinds.{kind_of, kind_if_any}
use Rattle.type_kinds.specs.Views.{visible_of, view_of}
use Rattle.type_kinds.proofs.VisibleNames.{word-found, word-none}
use Rattle.type_kinds.proofs.views.word_kind.Goals as goal

pub returns-in_ok-copy-in-Some : goal.returns-in_ok-copy-in-Some
returns-in_ok-copy-in-Some c =
    let found : visible_named (view_of c.args.view.now) c.args.name.now ≡ Some (visible_of c.in-Some.one.now) = sym c.visible_named.ensures ∙ ap (λ o. option_map visible_of (option_copied o)) c.in-Some.is in
    ap (λ k. Some (kind_of k)) c.in_ok-copy-in-Some.ensures ∙ sym (word-found (view_of c.args.view.now) c.args.name.now (visible_of c.in-Some.one.now) found)

pub returns-in-None : goal.returns-in-None
returns-in-None c =
    let none : visible_named (view_of c.args.view.now) c.args.name.now ≡ None = sym c.visible_named.ensures ∙ ap (λ o. option_map visible_of (option_copied o)) c.in-None.is in
    subst (λ o. IfOk c.parameter_kind.result (λ k. kind_if_any k ≡ o)) (sym (word-none (view_of c.args.view.now) c.args.name.now none)) c.parameter_kind.ensures
