use Rattle.std.proofs.Common.{◌≡◌, ◌++◌, map, take}
use Rattle.idl_tree.specs.Print.{commas, expr_text}
use Rattle.idl_print.proofs.expression_text.+expression_text.Given as goal

abbrev pub invariant-push_commas-loop-place : goal.invariant-push_commas-loop-place
invariant-push_commas-loop-place l = l.out ≡ l.fn.out ++ commas (map expr_text (take l.place l.all))
