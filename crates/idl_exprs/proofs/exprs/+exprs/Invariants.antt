use Rattle.std.proofs.Common.{◌≡◌, ◌≤◌, ◌+◌, ◌-◌, ◌*◌, length}
use Rattle.idl_grammar.specs.Outcome as o
use Rattle.idl_grammar.specs.ExprReader as er
use Rattle.idl_token.specs.Seen.{symbols}
use Rattle.idl_exprs.specs.Exprs.{part_of}
use Rattle.idl_exprs.specs.Steps.{awaits, StepFits, reach}
use Rattle.idl_exprs.specs.Lists.{more_parts}
use Rattle.idl_exprs.proofs.exprs.+exprs.Given as goal

abbrev pub decreases-expr_part : goal.decreases-expr_part
decreases-expr_part l = 5 * l.depth

abbrev pub decreases-args : goal.decreases-args
decreases-args l = 5 * l.depth + 1

abbrev pub decreases-single : goal.decreases-single
decreases-single l = 5 * l.depth + 1

abbrev pub decreases-in_brackets : goal.decreases-in_brackets
decreases-in_brackets l = 5 * l.depth + 2

abbrev pub decreases-join : goal.decreases-join
decreases-join l = 5 * l.depth + 2

abbrev pub decreases-repeat : goal.decreases-repeat
decreases-repeat l = 5 * l.depth + 1

abbrev pub decreases-braced : goal.decreases-braced
decreases-braced l = 5 * l.depth + 3

abbrev pub invariant-args-loop-alloc : goal.invariant-args-loop-alloc
invariant-args-loop-alloc l = (more_parts (er.expr l.depth) l.found l.nesting (symbols l.tokens.rest.now) ≡ o.commas (er.expr l.depth) (symbols l.fn.tokens.rest.now)) × (l.nesting ≤ l.depth)

abbrev pub decreases-args-loop-alloc : goal.decreases-args-loop-alloc
decreases-args-loop-alloc l = length (symbols l.tokens.rest.now)

abbrev pub invariant-expr_part-loop-step : goal.invariant-expr_part-loop-step
invariant-expr_part-loop-step l = (er.expr_part l.depth (part_of l.what) (symbols l.fn.tokens.rest.now) ≡ awaits l.below (part_of l.what) l.step (symbols l.tokens.rest.now)) × StepFits l.below l.step

abbrev pub decreases-expr_part-loop-step : goal.decreases-expr_part-loop-step
decreases-expr_part-loop-step l = 4 * l.below + 9 - reach l.below l.step
