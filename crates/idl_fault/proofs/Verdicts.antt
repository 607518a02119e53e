-- The machine comes to one verdict, and to that of the outcome that its stack follows.
use Rattle.std.proofs.Common.{◌≡◌, Bool, List, [], ◌∷◌, Ok, Err, refl, sym, ap, subst}
use Rattle.idl_token.specs.Symbol.{Symbol}
use Rattle.idl_grammar.specs.Outcome as o
use Rattle.idl_grammar.specs.Outcome.{Outcome}
use Rattle.idl_fault.specs.Machine as m
use Rattle.idl_fault.specs.Machine.{Item, Frame, frames, Next, halts, Verdict, fault, Runs, halted, went}
use Rattle.idl_fault.specs.Verdict.{verdict}
use Rattle.idl_fault.proofs.Steps.{Leads, Known, After, Follows}

leads_of : {k : List Frame} {b : Bool} {ts : List Symbol} {v : Verdict} → Runs k b ts v → Leads (m.next k b ts) v
leads_of {k} {b} {ts} {v} (halted e) = subst (λ (n : Next). Leads n v) (sym e) refl
leads_of {k} {b} {ts} {v} (went e q) = subst (λ (n : Next). Leads n v) (sym e) q

same_verdict : {k : List Frame} {b : Bool} {ts : List Symbol} {v : Verdict} (w : Verdict) → Runs k b ts v → Runs k b ts w → v ≡ w
same_verdict w (halted e) q = subst (λ (n : Next). Leads n w) e (leads_of q)
same_verdict w (went e p) q = same_verdict w p (subst (λ (n : Next). Leads n w) e (leads_of q))

pub runs_one : (k : List Frame) (b : Bool) (ts : List Symbol) (v w : Verdict) → Runs k b ts v → Runs k b ts w → v ≡ w
runs_one k b ts v w p q = same_verdict w p q

ended_is : {A : Type 0} (x : A) (us : List Symbol) → o.ended tt us ≡ verdict (o.ended x us)
ended_is x [] = refl
ended_is x (c ∷ us) = refl

pub follows_all : {A : Type 0} {on : Known A} {a : Item} {q : Outcome A} {b : Bool} {ts : List Symbol} → Follows on (a ∷ []) q b ts → Runs (frames (a ∷ [])) b ts (verdict (o.all_of q))
unfolding fault
follows_all {A} {on} {a} {q} {b} {ts} follows = follows.runs [] (verdict (o.all_of q)) (go q)
  where
    go : (q : Outcome A) → After on q [] (verdict (o.all_of q))
    go (Ok p) = λ c h. halted (ap (λ (v : Verdict). halts v) (ended_is p.0 p.1))
    go (Err us) = refl
