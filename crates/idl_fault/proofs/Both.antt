-- Of two readings the machine goes on with the one that the readers go on with.
use Rattle.std.proofs.Common.{◌≡◌, Bool, true, false, cond, List, [], ◌∷◌, length, Ok, Err, refl, ap, subst}
use Rattle.std.specs.Prelude.{nat_le}
use Rattle.idl_token.specs.Symbol.{Symbol}
use Rattle.idl_grammar.specs.Outcome as o
use Rattle.idl_grammar.specs.Outcome.{Outcome}
use Rattle.idl_fault.specs.Machine as m
use Rattle.idl_fault.specs.Machine.{Item, Plan, plan, Frame, second, compare, Reading, settle, Verdict, fault, act, went}
use Rattle.idl_fault.proofs.Steps.{Leads, runs_by, Known, After, Follows}

-- without the value
abbrev erased : {A : Type 0} → Outcome A → Reading
erased (Ok p) = Ok (tt, p.1)
erased (Err us) = Err us

erased_if : {A : Type 0} (test : Bool) (p q : Outcome A) → erased (cond test p q) ≡ cond test (erased p) (erased q)
erased_if true p q = refl
erased_if false p q = refl

erased_farther : {A : Type 0} (p q : Outcome A) → erased (o.farther p q) ≡ o.farther (erased p) (erased q)
erased_farther (Ok p) (Ok q) = erased_if (nat_le (length p.1) (length q.1)) (Ok p) (Ok q)
erased_farther (Ok p) (Err us) = erased_if (nat_le (length p.1) (length us)) (Ok p) (Err us)
erased_farther (Err ts) (Ok q) = erased_if (nat_le (length q.1) (length ts)) (Ok q) (Err ts)
erased_farther (Err ts) (Err us) = erased_if (nat_le (length us) (length ts)) (Err us) (Err ts)

-- what is known of the value, with the flag that the machine goes on with
abbrev Sure : {A : Type 0} → Known A → Outcome A → Type 0
Sure on (Ok p) = on p.0 false p.1
Sure on (Err us) = Unit {0}

sure_if : {A : Type 0} (on : Known A) (test : Bool) (p q : Outcome A) → Sure on p → Sure on q → Sure on (cond test p q)
sure_if on true p q h k = h
sure_if on false p q h k = k

sure_farther : {A : Type 0} (on : Known A) (p q : Outcome A) → Sure on p → Sure on q → Sure on (o.farther p q)
sure_farther on (Ok p) q h k = sure_if on (nat_le (length p.1) (o.left_of q)) (Ok p) q h k
sure_farther on (Err ts) q h k = sure_if on (nat_le (o.left_of q) (length ts)) q (Err ts) k h

settles : {A : Type 0} (on : Known A) (q : Outcome A) (k : List Frame) (v : Verdict) → Sure on q → After on q k v → Leads (settle (erased q) k) v
settles on (Ok p) k v h after = after false h
settles on (Err us) k v h after = after

-- what is known doesn't turn on the flag
abbrev pub Steady : {A : Type 0} → Known A → Type 0
Steady {A} on = (x : A) (c d : Bool) (us : List Symbol) → on x c us → on x d us

module _ {A : Type 0} (on : Known A) (steady : Steady on) where
  compared : (p q : Outcome A) (k : List Frame) (v : Verdict) → Sure on p → After on (o.farther p q) k v → After on q (compare (erased p) ∷ k) v
  unfolding fault
  compared p (Ok q) k v h after = λ c i. runs_by (compare (erased p) ∷ k) c q.1 v (subst (λ (z : Reading). Leads (settle z k) v) (erased_farther p (Ok q))
      (settles on (o.farther p (Ok q)) k v (sure_farther on p (Ok q) h (steady q.0 c false q.1 i)) after))
  compared p (Err us) k v h after = subst (λ (z : Reading). Leads (settle z k) v) (erased_farther p (Err us)) (settles on (o.farther p (Err us)) k v (sure_farther on p (Err us) h tt) after)

  seconded : (ys : List Item) (ts : List Symbol) (p q : Outcome A) (k : List Frame) (v : Verdict) → Follows on ys q false ts → After on (o.farther p q) k v → After on p (second ys ts ∷ k) v
  unfolding fault
  seconded ys ts (Ok p) q k v other after = λ c h. went refl (other.runs (compare (erased (Ok p)) ∷ k) v (compared (Ok p) q k v (steady p.0 c false p.1 h) after))
  seconded ys ts (Err us) q k v other after = other.runs (compare (Err us) ∷ k) v (compared (Err us) q k v tt after)

  pub both_on : {a : Item} {xs ys : List Item} {p q : Outcome A} {b : Bool} {ts : List Symbol} → plan b a (o.head ts) ≡ m.both xs ys → Follows on xs p b ts → Follows on ys q false ts → Follows on (a ∷ []) (o.farther p q) b ts
  both_on {a} {xs} {ys} {p} {q} {b} {ts} e one other = record { runs = λ k v after. went (ap (λ (p : Plan). act p k b ts) e) (one.runs (second ys ts ∷ k) v (seconded ys ts p q k v other after)) }
