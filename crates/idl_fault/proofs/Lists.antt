-- The machine reads lists as the readers do.
use Rattle.std.proofs.Common.{◌≡◌, ℕ, zero, suc, ◌<◌, ◌≤◌, Bool, true, false, cond, List, [], ◌∷◌, ◌++◌, length, Option, Ok, arith}
use Rattle.std.specs.Prelude.{max}
use Rattle.idl_token.specs.declared.kinds.Sign.TheVariants as s
use Rattle.idl_token.specs.Symbol.{Symbol}
use Rattle.idl_grammar.specs.Outcome as o
use Rattle.idl_grammar.specs.Outcome.{Outcome, Reader, ◌>>=◌}
use Rattle.idl_fault.specs.Machine.{Item, takes, passes, plan}
use Rattle.idl_fault.proofs.Steps.{Follows, ends, follows_map, binds, binds_all, passes_on, next_on}
use Rattle.idl_fault.proofs.WidthRuns.{In}

pub in_lower : {A : Type 0} {base l : ℕ} {xs : List Item} {q : Outcome (A × ℕ)} {b : Bool} {ts : List Symbol} → Follows (In base l) xs q b ts → Follows (In 0 l) xs q b ts
in_lower first = follows_map (λ x c us h. record { low = omega arith; less = h.less; high = h.high }) first

-- fewer tokens are left than l
pub record Fewer {A : Type 0} (l : ℕ) (x : A) (c : Bool) (us : List Symbol) : Type 0 where
  pub less : length us < l

pub fewer : {A : Type 0} {base l : ℕ} {xs : List Item} {q : Outcome (A × ℕ)} {b : Bool} {ts : List Symbol} → Follows (In base l) xs q b ts → Follows (Fewer l) xs q b ts
fewer first = follows_map (λ x c us h. record { less = h.less }) first

pub fewer_more : {A : Type 0} {l n : ℕ} {xs : List Item} {q : Outcome A} {b : Bool} {ts : List Symbol} → l ≤ n → Follows (Fewer l) xs q b ts → Follows (Fewer n) xs q b ts
fewer_more le first = follows_map (λ x c us h. record { less = let lt = h.less in omega arith }) first

-- ---- parts with commas between them

-- a part is read by the items, then more of them
module _ {A : Type 0} (n : ℕ) (one : Reader (A × ℕ)) (parts : List Item) (list more : Item)
    (list_is : (b : Bool) (c : Option Symbol) → plan b list c ≡ passes (parts ++ more ∷ []))
    (more_is : (b : Bool) (ts : List Symbol) → plan b more (o.head ts) ≡ cond (o.sees (o.is_sign s.Comma) ts) (takes (list ∷ [])) (passes []))
    (one_on : (ts : List Symbol) (b : Bool) → length ts < n → Follows (In 0 (length ts)) parts (one ts) b ts) where
  abbrev last_part : A × ℕ → Reader (List A × ℕ)
  last_part x = o.pure (x.0 ∷ [], x.1)

  abbrev next_parts : ℕ → A × ℕ → Reader (List A × ℕ)
  next_parts f x = o.separated one f >>= (λ xs. o.pure (x.0 ∷ xs.0, max x.1 xs.1))

  separated_on : (f : ℕ) (ts : List Symbol) (b : Bool) → length ts < n → length ts < f → Follows (In 0 (length ts)) (list ∷ []) (o.separated one f ts) b ts
  unfolding o.separated
  separated_on zero ts b lt fuel = absurd (omega arith)
  separated_on (suc f) ts b lt fuel = passes_on (list_is b (o.head ts)) (binds_all parts (one_on ts b lt) (λ x us c h. let less = h.less in let high = h.high in
      next_on s.Comma (next_parts f x) (last_part x) (more_is c us) (λ vs d. binds (separated_on f vs c (omega arith) (omega arith)) (λ xs ws e k. let fall = k.less in let rise = k.high in
      ends (record { low = omega arith; less = omega arith; high = omega arith }))) (ends (record { low = omega arith; less = less; high = high }))))

  pub commas_on : (ts : List Symbol) (b : Bool) → length ts < n → Follows (In 0 (length ts)) (list ∷ []) (o.commas one ts) b ts
  unfolding o.commas
  commas_on ts b lt = separated_on (suc (length ts)) ts b lt (omega arith)

-- ---- parts for as long as one begins

module _ {A : Type 0} (n : ℕ) (begins : Symbol → Bool) (one : Reader (A × ℕ)) (part list : Item)
    (list_is : (b : Bool) (ts : List Symbol) → plan b list (o.head ts) ≡ cond (o.sees begins ts) (passes (part ∷ list ∷ [])) (passes []))
    (one_on : (ts : List Symbol) (b : Bool) → length ts < n → Follows (Fewer (length ts)) (part ∷ []) (one ts) b ts) where
  abbrev first_row : ℕ → Reader (List A × ℕ)
  first_row f = one >>= (λ x. o.repeated begins one f >>= (λ xs. o.pure (x.0 ∷ xs.0, max x.1 xs.1)))

  row_on : (f : ℕ) (ts : List Symbol) (b : Bool) → length ts < n → ((us : List Symbol) (c : Bool) → length us < length ts → Follows (Fewer (suc (length us))) (list ∷ []) (o.repeated begins one f us) c us)
      → (test : Bool) → plan b list (o.head ts) ≡ cond test (passes (part ∷ list ∷ [])) (passes []) → Follows (Fewer (suc (length ts))) (list ∷ []) (cond test (first_row f ts) (Ok (([], 0), ts))) b ts
  row_on f ts b lt rest true e = passes_on e (binds (one_on ts b lt) (λ x us c h. let less = h.less in binds (rest us c less) (λ xs vs d k. let fall = k.less in ends (record { less = omega arith }))))
  row_on f ts b lt rest false e = passes_on e (ends (record { less = omega arith }))

  repeated_on : (f : ℕ) (ts : List Symbol) (b : Bool) → length ts < n → length ts < f → Follows (Fewer (suc (length ts))) (list ∷ []) (o.repeated begins one f ts) b ts
  unfolding o.repeated
  repeated_on zero ts b lt fuel = absurd (omega arith)
  repeated_on (suc f) ts b lt fuel = row_on f ts b lt (λ us c le. repeated_on f us c (omega arith) (omega arith)) (o.sees begins ts) (list_is b ts)

  pub rows_on : (ts : List Symbol) (b : Bool) → length ts < n → Follows (Fewer (suc (length ts))) (list ∷ []) (o.rows begins one ts) b ts
  unfolding o.rows
  rows_on ts b lt = repeated_on (suc (length ts)) ts b lt (omega arith)
