use Rattle.std.proofs.Common.{◌≡◌, ◌++◌, take, map}
use Rattle.udb_manual.proofs.printing.push_all.Given as goal

abbrev pub invariant-loop-line : goal.invariant-loop-line
invariant-loop-line l = l.out ≡ l.fn.out ++ map (λ line. l.label ++ line) (take l.line-index l.lines)
