use Rattle.std.proofs.Common.{◌≡◌, ◌+◌, ◌*◌, length}
use Rattle.idl_grammar.specs.Outcome as o
use Rattle.idl_grammar.specs.StmtReader as spec
use Rattle.idl_token.specs.Seen.{symbols}
use Rattle.idl_exprs.specs.Lists.{joined}
use Rattle.idl_parse.specs.Statements.{any_stmt}
use Rattle.idl_parse.proofs.stmts.+stmts.Given as goal

abbrev pub decreases-stmts : goal.decreases-stmts
decreases-stmts l = 20 * l.depth + 2

abbrev pub decreases-one : goal.decreases-one
decreases-one l = 20 * l.depth + 1

abbrev pub decreases-block : goal.decreases-block
decreases-block l = 20 * l.below + 3

abbrev pub decreases-block_stmt : goal.decreases-block_stmt
decreases-block_stmt l = 20 * l.below + 4

abbrev pub decreases-else_block : goal.decreases-else_block
decreases-else_block l = 20 * l.below + 4

abbrev pub decreases-else_if : goal.decreases-else_if
decreases-else_if l = 20 * l.below + 4

abbrev pub decreases-otherwise : goal.decreases-otherwise
decreases-otherwise l = 20 * l.below + 5

abbrev pub decreases-if_stmt : goal.decreases-if_stmt
decreases-if_stmt l = 20 * l.below + 7

abbrev pub decreases-for_stmt : goal.decreases-for_stmt
decreases-for_stmt l = 20 * l.below + 6

abbrev pub decreases-for_to : goal.decreases-for_to
decreases-for_to l = 20 * l.below + 5

abbrev pub decreases-for_block : goal.decreases-for_block
decreases-for_block l = 20 * l.below + 4

abbrev pub decreases-stmt : goal.decreases-stmt
decreases-stmt l = 20 * l.below + 8

abbrev pub invariant-stmts-rows : goal.invariant-stmts-rows
invariant-stmts-rows l = joined l.found l.nesting (o.rows spec.begins (any_stmt l.depth) (symbols l.tokens.rest.now)) ≡ o.rows spec.begins (any_stmt l.depth) (symbols l.fn.tokens.rest.now)

abbrev pub decreases-stmts-rows : goal.decreases-stmts-rows
decreases-stmts-rows l = length (symbols l.tokens.rest.now)
