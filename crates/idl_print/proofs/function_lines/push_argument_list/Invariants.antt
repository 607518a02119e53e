use Rattle.std.proofs.Common.{◌≡◌, ◌++◌, take}
use Rattle.idl_tree.specs.PrintFunctions.{arguments_text}
use Rattle.idl_print.proofs.function_lines.push_argument_list.Given as goal

abbrev pub invariant-loop-place : goal.invariant-loop-place
invariant-loop-place l = l.out ≡ l.fn.out ++ arguments_text (take l.place l.all)
