-- What an outcome of a reader leads the machine to, and the steps of readers put together.
use Rattle.std.proofs.Common.{◌≡◌, ℕ, zero, suc, ◌<◌, ◌≤◌, Bool, true, false, cond, List, [], ◌∷◌, ◌++◌, length, Option, Some, None, Ok, Err, refl, sym, ap, subst, ◌∙◌, arith}
use Rattle.idl_token.specs.declared.kinds.Reserved.{Reserved}
use Rattle.idl_token.specs.declared.kinds.Sign.{Sign}
use Rattle.idl_token.specs.Symbol.{Symbol}
use Rattle.idl_token.specs.Symbol as t
use Rattle.idl_grammar.specs.Outcome as o
use Rattle.idl_grammar.specs.Outcome.{Outcome, Reader, take, stop, pass}
use Rattle.idl_fault.specs.Machine as m
use Rattle.idl_fault.specs.Machine.{Item, Plan, takes, passes, refuses, sets, plan, accept, Frame, reads, frames, Verdict, Next, halts, goes, fault, act, Runs, halted, went}

-- ---- what a step leads to

abbrev pub Leads : Next → Verdict → Type 0
Leads (halts w) v = w ≡ v
Leads (goes k b ts) v = Runs k b ts v

pub runs_by : (k : List Frame) (b : Bool) (ts : List Symbol) (v : Verdict) → Leads (m.next k b ts) v → Runs k b ts v
runs_by k b ts v leads = go (m.next k b ts) refl leads
  where
    go : (n : Next) → m.next k b ts ≡ n → Leads n v → Runs k b ts v
    go (halts w) e l = halted (e ∙ ap (λ (x : Verdict). halts x) l)
    go (goes k' b' ts') e l = went e l

-- what is known of a value, the machine's flag and the tokens after it
abbrev pub Known : Type 0 → Type 1
Known A = A → Bool → List Symbol → Type 0

abbrev pub After : {A : Type 0} → Known A → Outcome A → List Frame → Verdict → Type 0
After on (Ok p) k v = (b : Bool) → on p.0 b p.1 → Runs k b p.1 v
After on (Err us) k v = Leads (fault k us) v

-- from these tokens the items come to what the outcome comes to
pub record Follows {A : Type 0} (on : Known A) (xs : List Item) (q : Outcome A) (b : Bool) (ts : List Symbol) : Type 0 where
  pub runs : (k : List Frame) (v : Verdict) → After on q k v → Runs (frames xs ++ k) b ts v

-- ---- one after the other

fault_frames : (ys : List Item) (k : List Frame) (us : List Symbol) → fault (frames ys ++ k) us ≡ fault k us
unfolding fault
fault_frames [] k us = refl
fault_frames (y ∷ ys) k us = fault_frames ys k us

frames_append : (xs ys : List Item) (k : List Frame) → frames (xs ++ ys) ++ k ≡ frames xs ++ (frames ys ++ k)
frames_append [] ys k = refl
frames_append (x ∷ xs) ys k = ap (λ (z : List Frame). reads x ∷ z) (frames_append xs ys k)

pub ends : {A : Type 0} {on : Known A} {x : A} {b : Bool} {ts : List Symbol} → on x b ts → Follows on [] (Ok (x, ts)) b ts
ends {A} {on} {x} {b} {ts} h = record { runs = λ k v after. after b h }

pub follows_map : {A : Type 0} {on on' : Known A} {xs : List Item} {q : Outcome A} {b : Bool} {ts : List Symbol} → ((x : A) (c : Bool) (us : List Symbol) → on x c us → on' x c us) → Follows on xs q b ts → Follows on' xs q b ts
follows_map {A} {on} {on'} {xs} {q} {b} {ts} f first = record { runs = λ k v after. first.runs k v (go q k v after) }
  where
    go : (q : Outcome A) (k : List Frame) (v : Verdict) → After on' q k v → After on q k v
    go (Ok p) k v after = λ c h. after c (f p.0 c p.1 h)
    go (Err us) k v after = after

after_frames : {A B : Type 0} {on : Known A} {on' : Known B} {ys : List Item} {f : A → Reader B} → ((x : A) (us : List Symbol) (c : Bool) → on x c us → Follows on' ys (f x us) c us)
    → (q : Outcome A) (k : List Frame) (v : Verdict) → After on' (o.and_then q f) k v → After on q (frames ys ++ k) v
after_frames {A} {B} {on} {on'} {ys} {f} then (Ok p) k v after = λ c h. (then p.0 p.1 c h).runs k v after
after_frames {A} {B} {on} {on'} {ys} {f} then (Err us) k v after = subst (λ (n : Next). Leads n v) (sym (fault_frames ys k us)) after

-- one item, and then the others
pub binds : {A B : Type 0} {on : Known A} {on' : Known B} {a : Item} {ys : List Item} {q : Outcome A} {f : A → Reader B} {b : Bool} {ts : List Symbol}
    → Follows on (a ∷ []) q b ts → ((x : A) (us : List Symbol) (c : Bool) → on x c us → Follows on' ys (f x us) c us) → Follows on' (a ∷ ys) (o.and_then q f) b ts
binds {A} {B} {on} {on'} {a} {ys} {q} {f} {b} {ts} first then = record { runs = λ k v after. first.runs (frames ys ++ k) v (after_frames then q k v after) }

-- several items, and then the others
pub binds_all : {A B : Type 0} {on : Known A} {on' : Known B} (xs : List Item) {ys : List Item} {q : Outcome A} {f : A → Reader B} {b : Bool} {ts : List Symbol}
    → Follows on xs q b ts → ((x : A) (us : List Symbol) (c : Bool) → on x c us → Follows on' ys (f x us) c us) → Follows on' (xs ++ ys) (o.and_then q f) b ts
binds_all {A} {B} {on} {on'} xs {ys} {q} {f} {b} {ts} first then = record {
  runs = λ k v after.
      subst (λ (z : List Frame). Runs z b ts v) (sym (frames_append xs ys k)) (first.runs (frames ys ++ k) v (after_frames then q k v after));
}

-- ---- by what the item's plan is

pub takes_on : {A : Type 0} {on : Known A} {a : Item} {xs : List Item} {q : Outcome A} {b : Bool} {ts : List Symbol} → plan b a (o.head ts) ≡ takes xs → Follows on xs q b (o.after ts) → Follows on (a ∷ []) q b ts
takes_on {A} {on} {a} {xs} {q} {b} {ts} e first = record { runs = λ k v after. went (ap (λ (p : Plan). act p k b ts) e) (first.runs k v after) }

pub passes_on : {A : Type 0} {on : Known A} {a : Item} {xs : List Item} {q : Outcome A} {b : Bool} {ts : List Symbol} → plan b a (o.head ts) ≡ passes xs → Follows on xs q b ts → Follows on (a ∷ []) q b ts
passes_on {A} {on} {a} {xs} {q} {b} {ts} e first = record { runs = λ k v after. went (ap (λ (p : Plan). act p k b ts) e) (first.runs k v after) }

pub refuses_on : {A : Type 0} {on : Known A} {a : Item} {b : Bool} {ts : List Symbol} → plan b a (o.head ts) ≡ refuses → Follows on (a ∷ []) (Err ts) b ts
refuses_on {A} {on} {a} {b} {ts} e = record { runs = λ k v after. runs_by (reads a ∷ k) b ts v (subst (λ (p : Plan). Leads (act p k b ts) v) (sym e) after) }

pub sets_on : {A : Type 0} {on : Known A} {c : Bool} {ys : List Item} {q : Outcome A} {b : Bool} {ts : List Symbol} → Follows on ys q c ts → Follows on (m.may c ∷ ys) q b ts
sets_on {A} {on} {c} {ys} {q} {b} {ts} first = record { runs = λ k v after. went refl (first.runs k v after) }

-- where a test of the token is the machine's too
pub takes_if : {A : Type 0} {on : Known A} {a : Item} {xs : List Item} {b : Bool} {ts : List Symbol} (p other : Reader A) (test : Bool) → plan b a (o.head ts) ≡ cond test (takes xs) refuses
    → (test ≡ true → Follows on xs (p (o.after ts)) b (o.after ts)) → Follows on (a ∷ []) (o.moved (cond test (take p) stop) other ts) b ts
takes_if p other true e first = takes_on e (first refl)
takes_if p other false e first = refuses_on e

-- where there is room below
pub takes_open : {A : Type 0} {on : Known A} {a : Item} {xs : List Item} {b : Bool} {ts : List Symbol} (p other : Reader A) (test : Bool) → test ≡ true → plan b a (o.head ts) ≡ takes xs
    → Follows on xs (p (o.after ts)) b (o.after ts) → Follows on (a ∷ []) (o.moved (cond test (take p) stop) other ts) b ts
takes_open p other true is e first = takes_on e first
takes_open p other false is e first = absurd cc

pub takes_deeper : {A : Type 0} {on : Known A} {a : Item} {xs : List Item} {b : Bool} {ts : List Symbol} (p other : Reader A) (n : ℕ) → 1 ≤ n → plan b a (o.head ts) ≡ takes xs
    → Follows on xs (p (o.after ts)) b (o.after ts) → Follows on (a ∷ []) (o.moved (o.deeper n p) other ts) b ts
takes_deeper p other zero low e first = absurd (omega arith)
takes_deeper p other (suc n) low e first = takes_on e first

pub only_on : {A : Type 0} {on : Known A} {xs : List Item} {b : Bool} {ts : List Symbol} (p : Reader A) (n : ℕ) → 1 ≤ n → Follows on xs (p ts) b ts → Follows on xs (o.only n p ts) b ts
only_on p zero low first = absurd (omega arith)
only_on p (suc n) low first = first

-- by a test of the next token
pub test_on : {A : Type 0} {on : Known A} {a : Item} {xs ys : List Item} {b : Bool} {ts : List Symbol} (p q : Reader A) (test : Symbol → Bool) → plan b a (o.head ts) ≡ cond (o.sees test ts) (takes xs) (passes ys)
    → ((us : List Symbol) → length us < length ts → Follows on xs (p us) b us) → Follows on ys (q ts) b ts → Follows on (a ∷ []) (cond (o.sees test ts) (p (o.after ts)) (q ts)) b ts
test_on {A} {on} {a} {xs} {ys} {b} {ts} p q test e one two = at ts e one two
  where
    here : (c : Symbol) (ts : List Symbol) (f : Bool) → plan b a (Some c) ≡ cond f (takes xs) (passes ys) → ((us : List Symbol) → length us < length (c ∷ ts) → Follows on xs (p us) b us) → Follows on ys (q (c ∷ ts)) b (c ∷ ts) → Follows on (a ∷ []) (cond f (p ts) (q (c ∷ ts))) b (c ∷ ts)
    here c ts true e one two = takes_on e (one ts (omega arith))
    here c ts false e one two = passes_on e two

    at : (ts : List Symbol) → plan b a (o.head ts) ≡ cond (o.sees test ts) (takes xs) (passes ys) → ((us : List Symbol) → length us < length ts → Follows on xs (p us) b us) → Follows on ys (q ts) b ts → Follows on (a ∷ []) (cond (o.sees test ts) (p (o.after ts)) (q ts)) b ts
    at [] e one two = passes_on e two
    at (c ∷ ts) e one two = here c ts (test c) e one two

pub next_on : {A : Type 0} {on : Known A} {a : Item} {xs ys : List Item} {b : Bool} {ts : List Symbol} (x : Sign) (p q : Reader A) → plan b a (o.head ts) ≡ cond (o.sees (o.is_sign x) ts) (takes xs) (passes ys)
    → ((us : List Symbol) → length us < length ts → Follows on xs (p us) b us) → Follows on ys (q ts) b ts → Follows on (a ∷ []) (o.if_next x p q ts) b ts
next_on x p q e one two = test_on p q (o.is_sign x) e one two

pub reserved_next_on : {A : Type 0} {on : Known A} {a : Item} {xs ys : List Item} {b : Bool} {ts : List Symbol} (x : Reserved) (p q : Reader A) → plan b a (o.head ts) ≡ cond (o.sees (o.is_reserved x) ts) (takes xs) (passes ys)
    → ((us : List Symbol) → length us < length ts → Follows on xs (p us) b us) → Follows on ys (q ts) b ts → Follows on (a ∷ []) (o.if_reserved x p q ts) b ts
reserved_next_on x p q e one two = test_on p q (o.is_reserved x) e one two

-- ---- single tokens

-- what the machine keeps and how many tokens are left behind one
pub record Past {A : Type 0} (b : Bool) (l : ℕ) (x : A) (c : Bool) (us : List Symbol) : Type 0 where
  pub flag : c ≡ b
  pub less : length us < l

want_on : (test : Symbol → Bool) (a : Item) (b : Bool) → ((c : Option Symbol) → plan b a c ≡ accept test c) → (ts : List Symbol) → Follows (Past b (length ts)) (a ∷ []) (o.want test ts) b ts
unfolding o.want
want_on test a b is [] = refuses_on (is None)
want_on test a b is (c ∷ ts) = go (test c) (is (Some c))
  where
    go : (f : Bool) → plan b a (Some c) ≡ cond f (takes []) refuses → Follows (Past b (suc (length ts))) (a ∷ []) (cond f (Ok (tt {0}, ts)) (Err (c ∷ ts))) b (c ∷ ts)
    go true e = takes_on e (ends (record { flag = refl; less = omega arith }))
    go false e = refuses_on e

pub name_on : (b : Bool) (ts : List Symbol) → Follows (Past b (length ts)) (m.word ∷ []) (o.name ts) b ts
unfolding o.name
name_on b [] = refuses_on refl
name_on b (t.word x ∷ ts) = takes_on refl (ends (record { flag = refl; less = omega arith }))
name_on b (c ∷ ts) = refuses_on refl

past : {A B : Type 0} {on : Known B} {b : Bool} {l : ℕ} {ys : List Item} (f : A → Reader B) → ((x : A) (us : List Symbol) → length us < l → Follows on ys (f x us) b us)
    → (x : A) (us : List Symbol) (c : Bool) → Past b l x c us → Follows on ys (f x us) c us
past {A} {B} {on} {b} {l} {ys} f then x us c h = subst (λ (d : Bool). Follows on ys (f x us) d us) (sym h.flag) (then x us h.less)

pub expects : {A : Type 0} {on : Known A} {ys : List Item} {b : Bool} {ts : List Symbol} (x : Sign) (f : Unit {0} → Reader A) → ((us : List Symbol) → length us < length ts → Follows on ys (f tt us) b us)
    → Follows on (m.sign x ∷ ys) (o.and_then (o.expect x ts) f) b ts
expects {A} {on} {ys} {b} {ts} x f then = binds (want_on (o.is_sign x) (m.sign x) b (λ c. refl) ts) (past f (λ u us lt. then us lt))

pub reserves : {A : Type 0} {on : Known A} {ys : List Item} {b : Bool} {ts : List Symbol} (x : Reserved) (f : Unit {0} → Reader A) → ((us : List Symbol) → length us < length ts → Follows on ys (f tt us) b us)
    → Follows on (m.reserved x ∷ ys) (o.and_then (o.want (o.is_reserved x) ts) f) b ts
reserves {A} {on} {ys} {b} {ts} x f then = binds (want_on (o.is_reserved x) (m.reserved x) b (λ c. refl) ts) (past f (λ u us lt. then us lt))

pub words : {A : Type 0} {on : Known A} {ys : List Item} {b : Bool} {ts : List Symbol} (x : List ℕ) (f : Unit {0} → Reader A) → ((us : List Symbol) → length us < length ts → Follows on ys (f tt us) b us)
    → Follows on (m.same x ∷ ys) (o.and_then (o.want (o.is_word x) ts) f) b ts
words {A} {on} {ys} {b} {ts} x f then = binds (want_on (o.is_word x) (m.same x) b (λ c. refl) ts) (past f (λ u us lt. then us lt))

pub names : {A : Type 0} {on : Known A} {ys : List Item} {f : List ℕ → Reader A} {b : Bool} {ts : List Symbol} → ((x : List ℕ) (us : List Symbol) → length us < length ts → Follows on ys (f x us) b us)
    → Follows on (m.word ∷ ys) (o.and_then (o.name ts) f) b ts
names {A} {on} {ys} {f} {b} {ts} then = binds (name_on b ts) (past f then)
