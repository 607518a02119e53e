use Rattle.std.proofs.Common.{◌≡◌, take}
use Rattle.idl_copy.proofs.statements.+statement_copies.Given as goal

abbrev pub invariant-copy_statements-loop-one : goal.invariant-copy_statements-loop-one
invariant-copy_statements-loop-one l = l.copies ≡ take l.one-index l.all
