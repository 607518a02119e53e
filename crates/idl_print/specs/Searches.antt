-- A walk over nodes that counts down to the one that it looks for.
use Rattle.std.specs.Prelude.{ℕ, ◌==◌, ◌-◌, List, [], ◌∷◌, Some, if◌then◌else◌}
use Rattle.idl_print.specs.declared.nodes.Search.{Search}
use Rattle.udb_base.specs.Lines.{Lines}

-- after one node
unfoldable pub after_node : Lines → Search → Search
after_node lines s = record { left = s.left - 1; found = if s.left == 1 then Some lines else s.found }

-- after all of these
unfoldable pub after_nodes : List Lines → Search → Search
after_nodes [] s = s
after_nodes (x ∷ xs) s = after_nodes xs (after_node x s)
