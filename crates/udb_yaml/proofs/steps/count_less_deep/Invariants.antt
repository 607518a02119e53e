use Rattle.std.proofs.Common.{◌≡◌, ◌+◌, drop}
use Rattle.udb_yaml.specs.Steps.{kept_count}
use Rattle.udb_yaml.proofs.steps.count_less_deep.Given as goal

abbrev pub invariant-frames : goal.invariant-frames
invariant-frames l = (l.count + kept_count l.level_here (drop l.frame-index l.frames) ≡ kept_count l.level_here l.fn.frames) × (l.count ≡ l.frame-index)
