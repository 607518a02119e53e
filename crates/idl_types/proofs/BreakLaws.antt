-- Full configurations that break an issue of a node.
use Rattle.std.proofs.Common.{◌≡◌, ◌⊎◌, ◌∙◌, inl, inr, ℕ, ◌+◌, ◌<◌, ◌≤◌, List, Some, length, arith, refl, sym, ap, subst}
use Rattle.std.specs.Prelude.{slice_get}
use Rattle.std.proofs.lemmas.Option.{slice_get_within}
use Rattle.udb_base.specs.declared.conditions.Cond.{Cond}
use Rattle.udb_base.specs.declared.spaces.Space.{Space}
use Rattle.udb_base.specs.declared.spaces.Full.{Full}
use Rattle.idl_tree.specs.declared.programs.Variable.{Variable}
use Rattle.idl_tree.specs.declared.programs.Program.{Program}
use Rattle.idl_spec.specs.Demands.{Issue, demand, Check}
use Rattle.idl_types.specs.declared.demands.Sort.{Sort}
use Rattle.idl_types.specs.Passes.{BreaksIssue, BreaksCheck}
use Rattle.idl_types.proofs.ListLaws.{at-contains, contains-at}
use Rattle.idl_types.proofs.PassLaws.{last-or-before, some-same}

module _ (space : Space) (program : Program) (variables : List Variable) (sort : Sort) where
  module _ (conditions : List Cond) (issues : List Issue) where
    -- none of the first issues is broken
    pub record NoIssueBroken (count : ℕ) : Type 0 where
      pub none : (k : ℕ) (issue : Issue) (full : Full) → k < count → slice_get issues k ≡ Some issue → BreaksIssue space program variables sort conditions issue full → ⊥

    pub no-issue-yet : NoIssueBroken 0
    no-issue-yet = record { none = λ k issue full lt. absurd (omega (arith, lt)) }

    pub one-issue-more : (k : ℕ) (issue : Issue) → slice_get issues k ≡ Some issue → ((full : Full) → BreaksIssue space program variables sort conditions issue full → ⊥) → NoIssueBroken k → NoIssueBroken (k + 1)
    one-issue-more k issue at not before = record {
      none = λ i other full lt is breaks. by i other full is breaks (last-or-before i k lt);
    } where
      by : (i : ℕ) (other : Issue) (full : Full) → slice_get issues i ≡ Some other → BreaksIssue space program variables sort conditions other full → (i < k) ⊎ (i ≡ k) → ⊥
      by i other full is breaks (inl lt) = before.none i other full lt is breaks
      by i other full is breaks (inr same) =
          not full (subst (λ x. BreaksIssue space program variables sort conditions x full) (some-same other issue (sym is ∙ (ap (slice_get issues) same ∙ at))) breaks)

  module _ (one : Check) where
    pub issue-breaks-check : (k : ℕ) (issue : Issue) (full : Full) → slice_get one.issues k ≡ Some issue → BreaksIssue space program variables sort one.context issue full → BreaksCheck space program variables sort one full
    issue-breaks-check k issue full at b = record {
      broken = b.broken;
      asked = at-contains one.issues k (demand b.broken) (at ∙ ap Some b.is);
      breaks = b.breaks;
    }

    pub no-issue-left : (count : ℕ) → length one.issues ≤ count → NoIssueBroken one.context one.issues count → (full : Full) → BreaksCheck space program variables sort one full → ⊥
    no-issue-left count long before full b = by (contains-at one.issues (demand b.broken) b.asked) where
      by : (k : ℕ) × (slice_get one.issues k ≡ Some (demand b.broken)) → ⊥
      by (k, at) =
          let lt : k < length one.issues = slice_get_within one.issues k (demand b.broken) at in
          before.none k (demand b.broken) full (omega (arith, lt, long)) at (record { broken = b.broken; is = refl; breaks = b.breaks })
