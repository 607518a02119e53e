use Rattle.std.proofs.Common.{◌≡◌, ◌+◌, drop, map}
use Rattle.std.specs.List.{list_all, list_any, count_by}
use Rattle.udb_spec.specs.Conditions.{holds}
use Rattle.udb_cond.proofs.truth.+truth.Given as goal

abbrev pub invariant-all_hold-loop-cond : goal.invariant-all_hold-loop-cond
invariant-all_hold-loop-cond l = list_all (λ b. b) (map (holds l.space l.full) (drop l.cond-index l.conds)) ≡ list_all (λ b. b) (map (holds l.space l.full) l.conds)

abbrev pub invariant-any_holds-loop-cond : goal.invariant-any_holds-loop-cond
invariant-any_holds-loop-cond l = list_any (λ b. b) (map (holds l.space l.full) (drop l.cond-index l.conds)) ≡ list_any (λ b. b) (map (holds l.space l.full) l.conds)

abbrev pub invariant-how_many_hold-loop-cond : goal.invariant-how_many_hold-loop-cond
invariant-how_many_hold-loop-cond l = l.count + count_by (λ b. b) (map (holds l.space l.full) (drop l.cond-index l.conds)) ≡ count_by (λ b. b) (map (holds l.space l.full) l.conds)
