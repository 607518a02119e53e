use Rattle.std.proofs.Common.{◌≡◌, length}
use Rattle.idl_grammar.specs.Outcome as o
use Rattle.idl_grammar.specs.StmtReader as spec
use Rattle.idl_token.specs.Seen.{symbols}
use Rattle.idl_exprs.specs.Lists.{more_parts}
use Rattle.idl_parse.proofs.functions.argument_list.Given as goal

abbrev pub invariant-rows : goal.invariant-rows
invariant-rows l = more_parts (spec.argument l.depth) l.found l.nesting (symbols l.tokens.rest.now) ≡ o.commas (spec.argument l.depth) (symbols l.fn.tokens.rest.now)

abbrev pub decreases-rows : goal.decreases-rows
decreases-rows l = length (symbols l.tokens.rest.now)
