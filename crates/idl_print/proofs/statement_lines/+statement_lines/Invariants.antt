use Rattle.std.proofs.Common.{◌≡◌, ◌++◌, take}
use Rattle.std.specs.List.{flat_map}
use Rattle.idl_tree.specs.Print.{margined, stmt_lines}
use Rattle.idl_print.proofs.statement_lines.+statement_lines.Given as goal

abbrev pub invariant-push_statements-loop-next : goal.invariant-push_statements-loop-next
invariant-push_statements-loop-next l = l.out ≡ l.fn.out ++ margined l.margin (flat_map stmt_lines (take l.next-index l.all))
