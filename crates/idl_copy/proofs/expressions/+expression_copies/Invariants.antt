use Rattle.std.proofs.Common.{◌≡◌, take}
use Rattle.idl_copy.proofs.expressions.+expression_copies.Given as goal

abbrev pub invariant-copy_expressions-loop-one : goal.invariant-copy_expressions-loop-one
invariant-copy_expressions-loop-one l = l.copies ≡ take l.one-index l.all
