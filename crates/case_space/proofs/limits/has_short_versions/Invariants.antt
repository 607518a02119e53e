use Rattle.std.proofs.Common.{◌<◌, ◌-◌, ◌^◌, All, take, length}
use Rattle.case_space.proofs.limits.has_short_versions.Given as goal

abbrev pub invariant-loop-extension : goal.invariant-loop-extension
invariant-loop-extension l = All (λ e. length e.versions < 2 ^ 32 - 1) (take l.extension-index l.space.extensions)
