use Rattle.std.proofs.Common.{◌≡◌, ◌++◌, drop, map}
use Rattle.entry_form.specs.Forms as spec
use Rattle.entry_form.proofs.configs.push_without.Given as goal

abbrev pub invariant-loop-key : goal.invariant-loop-key
invariant-loop-key l = l.to ++ map (λ k. spec.property k spec.no_value) (drop l.key-index l.keys) ≡ l.initial.to ++ map (λ k. spec.property k spec.no_value) l.keys
