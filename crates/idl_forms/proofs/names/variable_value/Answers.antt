use Rattle.std.proofs.Common.{◌<◌, ◌≤◌, ◌+◌, ◌*◌, ◌%◌, ◌^◌, sym, subst, arith}
use Rattle.std.specs.Prelude.{sum_by}
use Rattle.std.proofs.lemmas.Nat.{shl_below}
use Rattle.std.proofs.Math.Nat.{mod-le}
use Rattle.idl_spec.specs.Fields.{part_width}
use Rattle.idl_forms.proofs.names.variable_value.Goals as goal

pub new-requires-clause-in_width : goal.new-requires-clause-in_width
new-requires-clause-in_width c =
    let small : c.from-pattern.result < 2 ^ sum_by part_width c.args.variable.now.location =
    subst (λ n. n < 2 ^ sum_by part_width c.args.variable.now.location) (sym c.from-pattern.ensures)
    (subst (λ ps. c.gathered.result < 2 ^ sum_by part_width ps) c.as_slice.ensures c.gathered.ensures.small) in
    let shifted : c.from-pattern.result * 2 ^ c.args.variable.now.shift < 2 ^ (sum_by part_width c.args.variable.now.location + c.args.variable.now.shift) =
    shl_below c.from-pattern.result (sum_by part_width c.args.variable.now.location) c.args.variable.now.shift small in
    let below : c.from-pattern.result * 2 ^ c.args.variable.now.shift % 2 ^ 128 ≤ c.from-pattern.result * 2 ^ c.args.variable.now.shift = mod-le (c.from-pattern.result * 2 ^ c.args.variable.now.shift) (2 ^ 128) in
    subst (λ w. c.from-pattern.result * 2 ^ c.args.variable.now.shift % 2 ^ 128 < 2 ^ w) (sym c.variable_width-width.ensures.value) (omega arith)
