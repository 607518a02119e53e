-- Turns of the code's machine as steps of the machine.
use Rattle.std.proofs.Common.{◌≡◌, Bool, true, false, cond, List, [], ◌∷◌, Option, Some, None, Ok, Err, Bor, refl, ap, subst, ◌∙◌}
use Rattle.std.specs.Prelude.{option_map}
use Rattle.idl_token.specs.Symbol.{Symbol}
use Rattle.idl_token.specs.declared.views.Seen.{Seen}
use Rattle.idl_token.specs.Seen.{symbols}
use Rattle.idl_fault.specs.Machine as m
use Rattle.idl_fault.proofs.Steps.{Leads, runs_by}
use Rattle.idl_fault.specs.declared.parts.State.{State}
use Rattle.idl_fault.specs.declared.parts.Turn.TheVariants as turn
use Rattle.idl_fault.specs.Views.{state_of, after_state, turn_of, verdict_by}

leads : (f b : Bool) (k : List m.Frame) (ts : List Symbol) (n : m.Next) (v : m.Verdict) → n ≡ cond f (m.fault k ts) (m.next k b ts) → Leads n v → Leads (cond f (m.fault k ts) (m.goes k b ts)) v
leads true b k ts n v is l = subst (λ (z : m.Next). Leads z v) is l
leads false b k ts n v is l = runs_by k b ts v (subst (λ (z : m.Next). Leads z v) is l)

-- what a turn leads to, the state before it leads to
pub turn_leads : (x : State) (n : m.Next) (v : m.Verdict) → n ≡ after_state x → Leads n v → Leads (state_of x) v
turn_leads x n v is l = leads x.falls x.may _ _ n v is l

pub halts_leads : (x : State) (end : Option (Bor (List Seen))) → turn_of (turn.Halts end) ≡ after_state x → Leads (state_of x) (verdict_by (option_map (λ (t : Bor (List Seen)). t.now) end))
halts_leads x None is = turn_leads x (m.halts (Ok tt)) (Ok tt) is refl
halts_leads x (Some ts) is = turn_leads x (m.halts (Err (symbols ts.now))) (Err (symbols ts.now)) is refl

pub starts : (k : List m.Frame) (x : m.Frame) (under : List m.Frame) (ts : List Symbol) (v : m.Verdict) → k ≡ x ∷ under → under ≡ [] → m.Runs k false ts v → m.Runs (x ∷ []) false ts v
starts k x under ts v is none r = subst (λ (z : List m.Frame). m.Runs z false ts v) (is ∙ ap (λ (z : List m.Frame). x ∷ z) none) r
