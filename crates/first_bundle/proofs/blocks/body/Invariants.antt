use Rattle.std.proofs.Common.{◌≡◌, [], drop}
use Rattle.first_bundle.specs.Blocks.{body_from, read_body}
use Rattle.first_bundle.proofs.blocks.body.Given as goal

abbrev pub invariant-loop-at : goal.invariant-loop-at
invariant-loop-at l = body_from l.params (l.frames.items, l.done) (drop l.at l.lines) ≡ read_body l.params l.lines
