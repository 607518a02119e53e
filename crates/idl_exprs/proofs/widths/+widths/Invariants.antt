use Rattle.std.proofs.Common.{◌≡◌, ◌+◌, ◌*◌, length}
use Rattle.idl_grammar.specs.WidthReader as spec
use Rattle.idl_token.specs.Seen.{symbols}
use Rattle.idl_exprs.specs.Gives.{widths_below}
use Rattle.idl_exprs.proofs.widths.+widths.Given as goal

abbrev pub decreases-width_part : goal.decreases-width_part
decreases-width_part l = 20 * l.depth + 8

abbrev pub decreases-below : goal.decreases-below
decreases-below l = 20 * l.depth

abbrev pub decreases-sums : goal.decreases-sums
decreases-sums l = 20 * l.depth + 1

abbrev pub decreases-parens : goal.decreases-parens
decreases-parens l = 20 * l.depth + 2

abbrev pub decreases-factor_parens : goal.decreases-factor_parens
decreases-factor_parens l = 20 * l.depth + 2

abbrev pub decreases-greatest : goal.decreases-greatest
decreases-greatest l = 20 * l.depth + 2

abbrev pub decreases-after_number : goal.decreases-after_number
decreases-after_number l = 20 * l.depth + 2

abbrev pub decreases-atoms : goal.decreases-atoms
decreases-atoms l = 20 * l.depth + 3

abbrev pub decreases-terms : goal.decreases-terms
decreases-terms l = 20 * l.depth + 5

abbrev pub invariant-sums-loop-sign : goal.invariant-sums-loop-sign
invariant-sums-loop-sign l = spec.sums l.depth (widths_below l.depth) l.depth (l.left, l.may, l.nesting) (symbols l.tokens.rest.now) ≡ spec.sums l.depth (widths_below l.depth) l.depth (l.fn.first, l.fn.first_may, l.fn.high) (symbols l.fn.tokens.rest.now)

abbrev pub decreases-sums-loop-sign : goal.decreases-sums-loop-sign
decreases-sums-loop-sign l = length (symbols l.tokens.rest.now)
