use Rattle.std.proofs.Common.{◌≡◌, take}
use Rattle.std.specs.List.{flat_map}
use Rattle.idl_tree.specs.PrintFunctions.{function_lines}
use Rattle.idl_print.proofs.function_lines.all_lines.Given as goal

abbrev pub invariant-loop-next : goal.invariant-loop-next
invariant-loop-next l = l.lines ≡ flat_map function_lines (take l.next-index l.all)
