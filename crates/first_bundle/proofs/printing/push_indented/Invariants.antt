use Rattle.std.proofs.Common.{◌≡◌, ◌++◌, take, map}
use Rattle.std.specs.Prelude.{codes}
use Rattle.first_bundle.proofs.printing.push_indented.Given as goal

abbrev pub invariant-loop-text : goal.invariant-loop-text
invariant-loop-text l = l.lines ≡ l.fn.lines ++ map (λ line. codes "  " ++ line) (take l.text-index l.body)
