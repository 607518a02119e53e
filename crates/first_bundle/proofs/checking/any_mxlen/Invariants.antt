use Rattle.std.proofs.Common.{◌≡◌, drop}
use Rattle.std.specs.List.{list_any}
use Rattle.first_bundle.specs.Checks.{is_mxlen}
use Rattle.first_bundle.proofs.checking.any_mxlen.Given as goal

abbrev pub invariant-loop-param : goal.invariant-loop-param
invariant-loop-param l = list_any (λ p. is_mxlen p.name) (drop l.param-index l.params) ≡ list_any (λ p. is_mxlen p.name) l.params
