-- What a refusal tells, and the checks that a pass reads.
use Rattle.std.proofs.Common.{◌≡◌, ◌∙◌, ℕ, ◌<◌, ◌≤◌, true, false, List, Option, None, Some, option_map, IfSome, length, get_or, arith, refl, sym, ap}
use Rattle.std.specs.Prelude.{slice_get}
use Rattle.std.specs.List.{list_any}
use Rattle.std.proofs.lemmas.Bool.{false≢true}
use Rattle.std.proofs.lemmas.List.{length-map}
use Rattle.std.proofs.lemmas.Option.{slice_get-map, slice_get_read}
use Rattle.udb_base.specs.declared.names.Name.{Name}
use Rattle.udb_base.specs.declared.spaces.Full.{Full}
use Rattle.udb_base.specs.declared.spaces.Space.{Space}
use Rattle.idl_tree.specs.declared.programs.Variable.{Variable}
use Rattle.idl_tree.specs.declared.programs.Program.{Program}
use Rattle.type_issues.specs.declared.issues.Issue.{Issue}
use Rattle.type_issues.specs.declared.issues.Check.{Check}
use Rattle.type_issues.specs.Issues.{issue_of, issues_of, check_of, checks_of}
use Rattle.idl_spec.specs.Demands as meant
use Rattle.idl_spec.specs.Faults.{Fault, unknown_at, mismatch_at, order_at, first_unknown, first_later, node_number}
use Rattle.idl_types.specs.declared.faults.TypeFault.{TypeFault}
use Rattle.idl_types.specs.declared.demands.Sort.{Sort}
use Rattle.idl_types.specs.declared.demands.Sort.TheVariants as sorts
use Rattle.idl_types.specs.Refusals.{fault_of, IsTold}
use Rattle.idl_types.specs.Passes.{is_mismatch, IsUnknown, IsMismatch, IsLate, shown_at, BreaksCheck, IsBroken}

-- what is told has each property that the told one's implies
pub told-so : (P Q : Fault → Type 0) → ((f : Fault) → P f → Q f) → (r : TypeFault) → IsTold P r → IsTold Q r
told-so P Q each r told = by (fault_of r) told where
  by : (o : Option Fault) → IfSome o P → IfSome o Q
  by None h = h
  by (Some f) h = each f h

-- ---- the check of a node, and an issue of a check

pub check-at : (checks : List Check) (node : ℕ) (one : Check) → node < length checks → one ≡ get_or checks node one → slice_get (checks_of checks) node ≡ Some (check_of one)
check-at checks node one lt at =
    slice_get-map check_of checks node ∙ ap (option_map check_of) (slice_get_read checks (length checks) node one refl lt at)

pub issue-at : (issues : List Issue) (k : ℕ) (one : Issue) → k < length issues → one ≡ get_or issues k one → slice_get (issues_of issues) k ≡ Some (issue_of one)
issue-at issues k one lt at =
    slice_get-map issue_of issues k ∙ ap (option_map issue_of) (slice_get_read issues (length issues) k one refl lt at)

pub all-checks : (checks : List Check) (node : ℕ) → length checks ≤ node → length (checks_of checks) ≤ node
all-checks checks node long = omega (arith, long, length-map checks check_of)

pub all-issues : (issues : List Issue) (k : ℕ) → length issues ≤ k → length (issues_of issues) ≤ k
all-issues issues k long = omega (arith, long, length-map issues issue_of)

-- ---- what a check shows

pub unknown-shown : (node : ℕ) (name : Name) (one : meant.Check) (f : Fault) → first_unknown one.issues ≡ Some name → f ≡ unknown_at node name → IsUnknown f one
unknown-shown node name one f named is = record {
  name = name;
  is = is ∙ ap (λ n. unknown_at n name) (sym (ap node_number is));
  named = named;
}

pub late-shown : (node : ℕ) (name : Name) (one : meant.Check) (f : Fault) → first_later one.issues ≡ Some name → f ≡ order_at node name → IsLate f one
late-shown node name one f named is = record {
  name = name;
  is = is ∙ ap (λ n. order_at n name) (sym (ap node_number is));
  named = named;
}

pub mismatch-shown : (node : ℕ) (one : meant.Check) (f : Fault) → list_any is_mismatch one.issues ≡ true → f ≡ mismatch_at node → IsMismatch f one
mismatch-shown node one f has is = record {
  is = is ∙ ap mismatch_at (sym (ap node_number is));
  has = has;
}

node-shown : (sort : Sort) (node : ℕ) (full : Full) → node_number (shown_at sort node full) ≡ node
node-shown sorts.Width node full = refl
node-shown sorts.Slice node full = refl
node-shown sorts.Absence node full = refl

pub node-of-shown : (sort : Sort) (node : ℕ) (full : Full) (f : Fault) → f ≡ shown_at sort node full → node_number f ≡ node
node-of-shown sort node full f is = ap node_number is ∙ node-shown sort node full

module _ (space : Space) (program : Program) (variables : List Variable) (sort : Sort) where
  pub broken-shown : (node : ℕ) (full : Full) (one : meant.Check) (f : Fault) → BreaksCheck space program variables sort one full → f ≡ shown_at sort node full → IsBroken space program variables sort f one
  broken-shown node full one f breaks is = record {
    full = full;
    is = is ∙ ap (λ n. shown_at sort n full) (sym (node-of-shown sort node full f is));
    breaks = breaks;
  }

  -- a check that no full configuration breaks shows nothing
  pub not-broken : (one : meant.Check) → ((full : Full) → BreaksCheck space program variables sort one full → ⊥) → (f : Fault) → IsBroken space program variables sort f one → ⊥
  not-broken one none f b = none b.full b.breaks

-- ---- checks that show nothing

none-of : {X : Type 0} (o : Option X) (x : X) → o ≡ None → o ≡ Some x → ⊥
none-of o x e d = cc

pub not-unknown : (one : meant.Check) → first_unknown one.issues ≡ None → (f : Fault) → IsUnknown f one → ⊥
not-unknown one none f u = none-of (first_unknown one.issues) u.name none u.named

pub not-late : (one : meant.Check) → first_later one.issues ≡ None → (f : Fault) → IsLate f one → ⊥
not-late one none f l = none-of (first_later one.issues) l.name none l.named

pub not-mismatch : (one : meant.Check) → list_any is_mismatch one.issues ≡ false → (f : Fault) → IsMismatch f one → ⊥
not-mismatch one none f m = false≢true (sym none ∙ m.has)

-- an option without a value
pub nothing-in : {X Y : Type 0} (v : X → Y) (o : Option X) → ((x : X) → o ≡ Some x → ⊥) → option_map v o ≡ None
nothing-in v None none = refl
nothing-in v (Some x) none = absurd (none x refl)
