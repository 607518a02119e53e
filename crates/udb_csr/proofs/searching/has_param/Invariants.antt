use Rattle.std.proofs.Common.{◌≡◌, drop}
use Rattle.std.specs.List.{list_any}
use Rattle.udb_spec.specs.Conditions.{same_bytes}
use Rattle.udb_csr.proofs.searching.has_param.Given as goal

abbrev pub invariant-loop-param : goal.invariant-loop-param
invariant-loop-param l = list_any (λ p. same_bytes p.name l.name) (drop l.param-index l.params) ≡ list_any (λ p. same_bytes p.name l.name) l.params
