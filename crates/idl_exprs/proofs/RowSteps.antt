-- Loops that read rows of parts, and parts with commas between them: what was read so far, with what
-- reading gives from here, is what reading gives from the start.
use Rattle.std.proofs.Common.{◌≡◌, ℕ, zero, suc, ◌<◌, ◌≤◌, Bool, true, false, cond, List, [], ◌∷◌, ◌++◌, length, Ok, Err, refl, sym, ap, subst, ◌∙◌, append_assoc, arith}
use Rattle.std.specs.Prelude.{max}
use Rattle.std.proofs.lemmas.List.{append-nil}
use Rattle.idl_token.specs.declared.kinds.Sign.TheVariants as s
use Rattle.idl_token.specs.Symbol.{Symbol}
use Rattle.idl_grammar.specs.Outcome as o
use Rattle.idl_grammar.specs.Outcome.{Outcome, Reader}
use Rattle.idl_grammar.proofs.ListLaw.{Takes, separated_enough, repeated_enough}
use Rattle.idl_exprs.specs.Lists.{joined, more_parts}

max_none : (n : ℕ) → max 0 n ≡ n
max_none n = omega arith

max_last : (n : ℕ) → max n 0 ≡ n
max_last n = omega arith

pub max_after : (h i j : ℕ) → max (max h i) j ≡ max h (max i j)
max_after h i j = omega arith

pub joined_none : {A : Type 0} (q : Outcome (List A × ℕ)) → joined [] 0 q ≡ q
joined_none (Ok ((ys, i), us)) = ap (λ (m : ℕ). Ok ((ys, m), us)) (max_none i)
joined_none (Err us) = refl

-- one part more
pub joined_more : {A : Type 0} (xs : List A) (h : ℕ) (x : A) (i : ℕ) (q : Outcome (List A × ℕ)) → joined (xs ++ x ∷ []) (max h i) q ≡ joined xs h (joined (x ∷ []) i q)
joined_more {A} xs h x i (Ok p) =
    ap (λ (ys : List A). Ok ((ys, max (max h i) p.0.1), p.1)) (append_assoc xs (x ∷ []) p.0.0)
    ∙ ap (λ (m : ℕ). Ok ((xs ++ x ∷ p.0.0, m), p.1)) (max_after h i p.0.1)
joined_more xs h x i (Err us) = refl

joined_end : {A : Type 0} (xs : List A) (h : ℕ) (ts : List Symbol) → joined xs h (Ok (([], 0), ts)) ≡ Ok ((xs, h), ts)
joined_end {A} xs h ts = ap (λ (ys : List A). Ok ((ys, max h 0), ts)) (append-nil xs) ∙ ap (λ (m : ℕ). Ok ((xs, m), ts)) (max_last h)

first_joined : {A : Type 0} (x : A × ℕ) (q : Outcome (List A × ℕ)) → o.and_then q (λ xs. o.pure (x.0 ∷ xs.0, max x.1 xs.1)) ≡ joined (x.0 ∷ []) x.1 q
first_joined x (Ok p) = refl
first_joined x (Err us) = refl

pub shortens : {A : Type 0} (one : Reader (A × ℕ)) → ((ts : List Symbol) → Takes (length ts) (one ts)) → (ts us : List Symbol) (x : A × ℕ) → one ts ≡ Ok (x, us) → length us < length ts
shortens {A} one takes ts us x e = subst (λ (q : Outcome (A × ℕ)). Takes (length ts) q) e (takes ts)

pub after_less : (ts : List Symbol) → length (o.after ts) ≤ length ts
after_less [] = omega arith
after_less (c ∷ ts) = omega arith

-- ---- parts for as long as one begins

module _ {A : Type 0} (begins : Symbol → Bool) (one : Reader (A × ℕ)) where
  pub rows_stop : (xs : List A) (h : ℕ) (ts : List Symbol) → o.sees begins ts ≡ false → joined xs h (o.rows begins one ts) ≡ Ok ((xs, h), ts)
  unfolding o.rows o.repeated
  rows_stop xs h ts none = rw none (joined_end xs h ts)

  pub rows_fails : (xs : List A) (h : ℕ) (ts us : List Symbol) → o.sees begins ts ≡ true → one ts ≡ Err us → joined xs h (o.rows begins one ts) ≡ Err us
  unfolding o.rows o.repeated
  rows_fails xs h ts us some e = rw (some, e) refl

  rows_first : ((ts : List Symbol) → Takes (length ts) (one ts)) → (x : A × ℕ) (ts us : List Symbol) → o.sees begins ts ≡ true → one ts ≡ Ok (x, us) → o.rows begins one ts ≡ joined (x.0 ∷ []) x.1 (o.rows begins one us)
  unfolding o.rows o.repeated
  rows_first takes x ts us some e =
      let lt = shortens one takes ts us x e in
      let enough = repeated_enough begins one takes (length ts) (suc (length us)) us lt (omega arith) in
      rw (some, e) (first_joined x (o.repeated begins one (length ts) us) ∙ ap (joined (x.0 ∷ []) x.1) enough)

  pub rows_turned : ((ts : List Symbol) → Takes (length ts) (one ts)) → (xs ys : List A) (x : A) (h i j : ℕ) (ts us : List Symbol) → o.sees begins ts ≡ true → one ts ≡ Ok ((x, i), us) → ys ≡ xs ++ x ∷ [] → j ≡ max h i
      → joined ys j (o.rows begins one us) ≡ joined xs h (o.rows begins one ts)
  rows_turned takes xs ys x h i j ts us some e ys-is j-is =
      ap (λ (zs : List A). joined zs j (o.rows begins one us)) ys-is
      ∙ ap (λ (m : ℕ). joined (xs ++ x ∷ []) m (o.rows begins one us)) j-is
      ∙ joined_more xs h x i (o.rows begins one us)
      ∙ ap (joined xs h) (sym (rows_first takes (x, i) ts us some e))

-- ---- parts with commas between them

module _ {A : Type 0} (one : Reader (A × ℕ)) where
  pub commas_fails : (ts us : List Symbol) → one ts ≡ Err us → o.commas one ts ≡ Err us
  unfolding o.commas o.separated
  commas_fails ts us e = rw e refl

  pub commas_first : ((ts : List Symbol) → Takes (length ts) (one ts)) → (x : A × ℕ) (ts us : List Symbol) → one ts ≡ Ok (x, us) → o.commas one ts ≡ more_parts one (x.0 ∷ []) x.1 us
  unfolding o.commas o.separated
  commas_first takes x ts us e =
      let lt = shortens one takes ts us x e in let le = after_less us in
      let enough : o.separated one (length ts) (o.after us) ≡ o.separated one (suc (length (o.after us))) (o.after us) = separated_enough one takes (length ts) (suc (length (o.after us))) (o.after us) (omega arith) (omega arith) in
      rw e (by _ _ (Ok ((x.0 ∷ [], x.1), us)) (o.sees (o.is_sign s.Comma) us) (first_joined x (o.separated one (length ts) (o.after us)) ∙ ap (joined (x.0 ∷ []) x.1) enough))
    where
      by : (q q' p : Outcome (List A × ℕ)) (b : Bool) → q ≡ q' → cond b q p ≡ cond b q' p
      by q q' p true same = same
      by q q' p false same = refl

  pub more_stop : (xs : List A) (h : ℕ) (ts : List Symbol) → o.sees (o.is_sign s.Comma) ts ≡ false → more_parts one xs h ts ≡ Ok ((xs, h), ts)
  more_stop xs h ts none = rw none refl

  pub more_fails : (xs : List A) (h : ℕ) (ts us : List Symbol) → o.sees (o.is_sign s.Comma) ts ≡ true → one (o.after ts) ≡ Err us → more_parts one xs h ts ≡ Err us
  more_fails xs h ts us some e = let none = commas_fails (o.after ts) us e in rw (some, none) refl

  more_joined : (xs : List A) (h : ℕ) (x : A) (i : ℕ) (us : List Symbol) → more_parts one (xs ++ x ∷ []) (max h i) us ≡ joined xs h (more_parts one (x ∷ []) i us)
  more_joined xs h x i us = go (o.sees (o.is_sign s.Comma) us)
    where
      go : (b : Bool) → cond b (joined (xs ++ x ∷ []) (max h i) (o.commas one (o.after us))) (Ok ((xs ++ x ∷ [], max h i), us)) ≡ joined xs h (cond b (joined (x ∷ []) i (o.commas one (o.after us))) (Ok ((x ∷ [], i), us)))
      go true = joined_more xs h x i (o.commas one (o.after us))
      go false = refl

  pub more_turned : ((ts : List Symbol) → Takes (length ts) (one ts)) → (xs ys : List A) (x : A) (h i j : ℕ) (ts us : List Symbol) → o.sees (o.is_sign s.Comma) ts ≡ true → one (o.after ts) ≡ Ok ((x, i), us) → ys ≡ xs ++ x ∷ [] → j ≡ max h i
      → more_parts one ys j us ≡ more_parts one xs h ts
  more_turned takes xs ys x h i j ts us some e ys-is j-is =
      ap (λ (zs : List A). more_parts one zs j us) ys-is
      ∙ ap (λ (m : ℕ). more_parts one (xs ++ x ∷ []) m us) j-is
      ∙ more_joined xs h x i us
      ∙ (let first = commas_first takes (x, i) (o.after ts) us e in rw (some, first) refl)
