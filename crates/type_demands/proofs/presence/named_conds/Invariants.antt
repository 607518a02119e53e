use Rattle.std.proofs.Common.{◌≡◌, map, take}
use Rattle.std.specs.Prelude.{filter}
use Rattle.udb_spec.specs.Conditions.{same_bytes}
use Rattle.type_demands.specs.Presence.{field_cond}
use Rattle.type_demands.proofs.presence.named_conds.Given as goal

abbrev pub invariant-loop-field : goal.invariant-loop-field
invariant-loop-field l = l.conds ≡ map field_cond (filter (λ f. same_bytes f.name l.name) (take l.field-index l.fields))
