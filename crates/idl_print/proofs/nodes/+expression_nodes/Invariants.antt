use Rattle.std.proofs.Common.{◌≡◌, take}
use Rattle.std.specs.List.{flat_map}
use Rattle.idl_tree.specs.Nodes.{expr_nodes}
use Rattle.idl_print.specs.Searches.{after_nodes}
use Rattle.idl_print.proofs.nodes.+expression_nodes.Given as goal

abbrev pub invariant-seek_expressions-loop-next : goal.invariant-seek_expressions-loop-next
invariant-seek_expressions-loop-next l = l.search ≡ after_nodes (flat_map expr_nodes (take l.next-index l.all)) l.fn.search
