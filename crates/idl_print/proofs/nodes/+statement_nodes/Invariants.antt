use Rattle.std.proofs.Common.{◌≡◌, take}
use Rattle.std.specs.List.{flat_map}
use Rattle.idl_tree.specs.Nodes.{stmt_nodes}
use Rattle.idl_print.specs.Searches.{after_nodes}
use Rattle.idl_print.proofs.nodes.+statement_nodes.Given as goal

abbrev pub invariant-seek_statements-loop-next : goal.invariant-seek_statements-loop-next
invariant-seek_statements-loop-next l = l.search ≡ after_nodes (flat_map stmt_nodes (take l.next-index l.all)) l.fn.search
