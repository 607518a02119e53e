use Rattle.std.proofs.Common.{◌≡◌, take, true}
use Rattle.std.specs.List.{list_all}
use Rattle.udb_schema.specs.Faults as spec
use Rattle.udb_schema.specs.Validating as view
use Rattle.udb_schema.proofs.validating.+validating.Given as goal

abbrev pub invariant-first_in_items-loop-place : goal.invariant-first_in_items-loop-place
invariant-first_in_items-loop-place l = list_all (spec.all_meet (spec.for_items (view.behind l.schemas))) (take l.place l.items) ≡ true

abbrev pub invariant-first_in_entries-loop-entry : goal.invariant-first_in_entries-loop-entry
invariant-first_in_entries-loop-entry l = list_all (λ q. spec.all_meet (spec.for_key q.key (view.behind l.schemas)) q.value) (take l.entry-index l.entries) ≡ true
