use Rattle.std.proofs.Common.{◌++◌, ◌∷◌, [], ◌∙◌, ap, List, ℕ}
use Rattle.yaml_spec.specs.Print.{shown}
use Rattle.udb_yaml.specs.Printing.{group_text}
use Rattle.udb_yaml.proofs.PrintLemmas.{whole_group, whole_line}
use Rattle.udb_yaml.proofs.print.text_of_tree.Goals.{then-is_group+in_ok-push_group, else-is_group+in_ok-push_line+in_ok-push_str}
use Rattle.udb_yaml.proofs.print.text_of_tree.Goals as goal

pub returns : goal.returns
returns c = elim c.if-is_group.branch [
  | then-is_group+in_ok-push_group w ↦ w.out-is ∙ (w.in_ok-push_group.ensures ∙ (ap (λ (z : List ℕ). z ++ group_text 0 c.args.tree.now) c.new-out.ensures ∙ whole_group c.args.tree.now c.is_group.result c.is_group.ensures w.if-is_group.true))
  | else-is_group+in_ok-push_line+in_ok-push_str w ↦ w.out-is ∙ (w.in_ok-push_str.ensures ∙ (ap (λ (z : List ℕ). z ++ 10 ∷ []) (w.in_ok-push_line.ensures ∙ ap (λ (z : List ℕ). z ++ (shown c.args.tree.now).1) c.new-out.ensures) ∙ whole_line c.args.tree.now c.is_group.result c.is_group.ensures w.if-is_group.false))
]
