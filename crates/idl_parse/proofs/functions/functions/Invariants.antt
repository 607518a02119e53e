use Rattle.std.proofs.Common.{◌≡◌, length}
use Rattle.idl_token.specs.declared.kinds.Reserved.TheVariants as r
use Rattle.idl_grammar.specs.Outcome as o
use Rattle.idl_grammar.specs.StmtReader as spec
use Rattle.idl_token.specs.Seen.{symbols}
use Rattle.idl_exprs.specs.Lists.{joined}
use Rattle.idl_parse.proofs.functions.functions.Given as goal

abbrev pub invariant-rows : goal.invariant-rows
invariant-rows l = joined l.found l.nesting (o.rows (o.is_reserved r.Function) (spec.function l.depth) (symbols l.tokens.rest.now)) ≡ o.rows (o.is_reserved r.Function) (spec.function l.depth) (symbols l.fn.tokens.rest.now)

abbrev pub decreases-rows : goal.decreases-rows
decreases-rows l = length (symbols l.tokens.rest.now)
