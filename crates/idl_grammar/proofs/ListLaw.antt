-- The readers of lists, and of one of two, keep the law.
use Rattle.std.proofs.Common.{◌≡◌, ℕ, zero, suc, ◌+◌, ◌<◌, ◌≤◌, Bool, true, false, cond, List, [], ◌∷◌, ◌++◌, length, Ok, Err, refl, sym, ap, subst, ◌∙◌, length-append, arith, inl, inr}
use Rattle.std.specs.Prelude.{max, nat_le}
use Rattle.std.proofs.lemmas.Bool.{leb-true, le-leb}
use Rattle.std.proofs.lemmas.Bool.Decides.{leb_tells}
use Rattle.idl_token.specs.declared.kinds.Sign.TheVariants as s
use Rattle.idl_token.specs.Symbol.{Symbol}
use Rattle.idl_token.specs.Symbol as t
use Rattle.idl_grammar.specs.Outcome as o
use Rattle.idl_grammar.specs.Outcome.{Outcome, Reader, left_of, ◌>>=◌}
use Rattle.idl_grammar.proofs.Law.{Reads, Law, Tells, Alike, both_read, both_refused, beyond, law_sample, law_pure, law_refuse, law_bind, law_if_next, law_look}

-- ---- enough turns

-- a reader that keeps the law for each bound on its turns, and for which enough turns are enough
pub law_turns : {A : Type 0} {Q : Reads A} (p : ℕ → Reader A) → ((f : ℕ) → Law Q (p f)) → ((f f' : ℕ) (ts : List Symbol) → length ts < f → length ts < f' → p f ts ≡ p f' ts) → Law Q (λ ts. p (suc (length ts)) ts)
law_turns {A} {Q} p law enough = record {
  tells = λ ts. (law (suc (length ts))).tells ts;
  alike = λ c w w' front.
      let u = front ++ c ∷ w in let v = front ++ c ∷ w' in let f = suc (length u + length v) in
      let left : p f u ≡ p (suc (length u)) u = enough f (suc (length u)) u (omega arith) (omega arith) in
      let right : p f v ≡ p (suc (length v)) v = enough f (suc (length v)) v (omega arith) (omega arith) in
      subst (λ (q : Outcome A). Alike (c ∷ w) (c ∷ w') (p (suc (length u)) u) q) right
      (subst (λ (q : Outcome A). Alike (c ∷ w) (c ∷ w') q (p f v)) left ((law f).alike c w w' front));
}

-- what is read takes at least a token
abbrev pub Takes : {A : Type 0} → ℕ → Outcome A → Type 0
Takes n (Ok p) = length p.1 < n
Takes n (Err ts) = Unit {0}

abbrev pub Shortens : {A : Type 0} → Reads A → Type 0
Shortens {A} Q = (ts us : List Symbol) (x : A) → Q ts us x → length us < length ts

takes_of : {A : Type 0} (Q : Reads A) → Shortens Q → (ts : List Symbol) (q : Outcome A) → Tells Q ts q → Takes (length ts) q
takes_of Q short ts (Ok p) k = let lt = short (k.text ++ p.1) p.1 p.0 (k.reads p.1) in rw k.parts lt
takes_of Q short ts (Err us) k = tt

pub law_takes : {A : Type 0} (Q : Reads A) (p : Reader A) → Shortens Q → Law Q p → (ts : List Symbol) → Takes (length ts) (p ts)
law_takes Q p short law ts = takes_of Q short ts (p ts) (law.tells ts)

pub after_same : {A B : Type 0} (n : ℕ) (q : Outcome A) (f f' : A → Reader B) → Takes n q → ((x : A) (us : List Symbol) → length us < n → f x us ≡ f' x us) → o.and_then q f ≡ o.and_then q f'
after_same n (Ok p) f f' takes same = same p.0 p.1 takes
after_same n (Err us) f f' takes same = refl

-- ---- parts with commas between them

module _ {A : Type 0} (one : Reader (A × ℕ)) where
  abbrev last_part : A × ℕ → Reader (List A × ℕ)
  last_part x = o.pure (x.0 ∷ [], x.1)

  abbrev next_parts : ℕ → A × ℕ → Reader (List A × ℕ)
  next_parts f x = o.separated one f >>= (λ xs. o.pure (x.0 ∷ xs.0, max x.1 xs.1))

  comma_turn : (f f' : ℕ) (x : A × ℕ) (us : List Symbol) → ((vs : List Symbol) → length vs < length us → o.separated one f vs ≡ o.separated one f' vs) → o.if_next s.Comma (next_parts f x) (last_part x) us ≡ o.if_next s.Comma (next_parts f' x) (last_part x) us
  comma_turn f f' x [] same = refl
  comma_turn f f' x (c ∷ us) same = go (o.is_sign s.Comma c)
    where
      go : (b : Bool) → cond b (next_parts f x us) (last_part x (c ∷ us)) ≡ cond b (next_parts f' x us) (last_part x (c ∷ us))
      go true = ap (λ (q : Outcome (List A × ℕ)). o.and_then q (λ xs. o.pure (x.0 ∷ xs.0, max x.1 xs.1))) (same us (omega arith))
      go false = refl

  pub separated_enough : ((ts : List Symbol) → Takes (length ts) (one ts)) → (f f' : ℕ) (ts : List Symbol) → length ts < f → length ts < f' → o.separated one f ts ≡ o.separated one f' ts
  unfolding o.separated
  separated_enough takes zero f' ts l l' = absurd (omega arith)
  separated_enough takes (suc f) zero ts l l' = absurd (omega arith)
  separated_enough takes (suc f) (suc f') ts l l' = after_same (length ts) (one ts) _ _ (takes ts) (λ x us lt. comma_turn f f' x us (λ vs m. separated_enough takes f f' vs (omega arith) (omega arith)))

  module _ (Q : Reads (A × ℕ)) (Qs : Reads (List A × ℕ)) (single : (ts us : List Symbol) (x : A × ℕ) → Q ts us x → Qs ts us (x.0 ∷ [], x.1))
      (several : (ts us vs : List Symbol) (x : A × ℕ) (xs : List A × ℕ) → Q ts (t.sign s.Comma ∷ us) x → Qs us vs xs → Qs ts vs (x.0 ∷ xs.0, max x.1 xs.1)) (law : Law Q one) where
    separated_law : (f : ℕ) → Law Qs (o.separated one f)
    unfolding o.separated
    separated_law zero = let k = law_sample Q one law in law_refuse Qs (record { more = k.more; value = (k.value.0 ∷ [], k.value.1); reads = λ us. single (k.more ++ us) us k.value (k.reads us) })
    separated_law (suc f) = law_bind one _ law (λ x a q. law_if_next s.Comma _ _
        (law_bind (o.separated one f) _ (separated_law f) (λ xs b v. law_pure _ _ (λ us. several (a ++ (t.sign s.Comma ∷ (b ++ us))) (b ++ us) us x xs (q (t.sign s.Comma ∷ (b ++ us))) (v us))))
        (law_pure _ _ (λ us. single (a ++ us) us x (q us))))

    pub commas_law : Shortens Q → Law Qs (o.commas one)
    unfolding o.commas
    commas_law short = law_turns (o.separated one) separated_law (separated_enough (law_takes Q one short law))

-- ---- parts for as long as one begins

module _ {A : Type 0} (begins : Symbol → Bool) (one : Reader (A × ℕ)) where
  abbrev turn : ℕ → A × ℕ → Reader (List A × ℕ)
  turn f x = o.repeated begins one f >>= (λ xs. o.pure (x.0 ∷ xs.0, max x.1 xs.1))

  pub repeated_enough : ((ts : List Symbol) → Takes (length ts) (one ts)) → (f f' : ℕ) (ts : List Symbol) → length ts < f → length ts < f' → o.repeated begins one f ts ≡ o.repeated begins one f' ts
  unfolding o.repeated
  repeated_enough takes zero f' ts l l' = absurd (omega arith)
  repeated_enough takes (suc f) zero ts l l' = absurd (omega arith)
  repeated_enough takes (suc f) (suc f') ts l l' = go (o.sees begins ts) (after_same (length ts) (one ts) (turn f) (turn f') (takes ts)
      (λ x us lt. ap (λ (q : Outcome (List A × ℕ)). o.and_then q (λ xs. o.pure (x.0 ∷ xs.0, max x.1 xs.1))) (repeated_enough takes f f' us (omega arith) (omega arith))))
    where
      go : (b : Bool) → o.and_then (one ts) (turn f) ≡ o.and_then (one ts) (turn f') → cond b (o.and_then (one ts) (turn f)) (Ok (([], 0), ts)) ≡ cond b (o.and_then (one ts) (turn f')) (Ok (([], 0), ts))
      go true same = same
      go false same = refl

  module _ (Q : Reads (A × ℕ)) (Qs : Reads (List A × ℕ)) (none : (us : List Symbol) → Qs us us ([], 0))
      (then : (ts us vs : List Symbol) (x : A × ℕ) (xs : List A × ℕ) → Q ts us x → Qs us vs xs → Qs ts vs (x.0 ∷ xs.0, max x.1 xs.1)) (law : Law Q one) where
    repeated_law : (f : ℕ) → Law Qs (o.repeated begins one f)
    unfolding o.repeated
    repeated_law zero = law_refuse Qs (record { more = []; value = ([], 0); reads = none })
    repeated_law (suc f) = law_look begins _ _ (law_bind one (turn f) law (λ x a q. law_bind (o.repeated begins one f) _ (repeated_law f) (λ xs b v. law_pure _ _ (λ us. then (a ++ (b ++ us)) (b ++ us) us x xs (q (b ++ us)) (v us))))) (law_pure _ _ none)

    pub rows_law : Shortens Q → Law Qs (o.rows begins one)
    unfolding o.rows
    rows_law short = law_turns (o.repeated begins one) repeated_law (repeated_enough (law_takes Q one short law))

-- where no part may stand
module _ {A : Type 0} (begins : Symbol → Bool) (Qs : Reads (List A × ℕ)) (none : (us : List Symbol) → Qs us us ([], 0)) where
  nothing_law : (f : ℕ) → Law Qs (o.repeated begins (o.refuse {A = A × ℕ}) f)
  unfolding o.repeated
  nothing_law zero = law_refuse Qs (record { more = []; value = ([], 0); reads = none })
  nothing_law (suc f) = law_look begins _ _ (law_refuse Qs (record { more = []; value = ([], 0); reads = none })) (law_pure _ _ none)

  pub no_rows_law : Law Qs (o.rows begins (o.refuse {A = A × ℕ}))
  unfolding o.rows
  no_rows_law = law_turns (o.repeated begins (o.refuse {A = A × ℕ})) nothing_law (repeated_enough begins (o.refuse {A = A × ℕ}) (λ ts. tt))

-- ---- one of two

farther_one : {A : Type 0} (q q' : Outcome A) → left_of (o.farther q q') ≤ left_of q
farther_one (Ok p) q' = go (nat_le (length p.1) (left_of q')) refl
  where
    go : (b : Bool) → nat_le (length p.1) (left_of q') ≡ b → left_of (cond b (Ok p) q') ≤ length p.1
    go true e = omega arith
    go false e = elim (leb_tells (length p.1) (left_of q')) [ inl k ↦ absurd (let w = k.0 in cc) | inr k ↦ let w = k.1 in omega arith ]
farther_one (Err ts) q' = go (nat_le (left_of q') (length ts)) refl
  where
    go : (b : Bool) → nat_le (left_of q') (length ts) ≡ b → left_of (cond b q' (Err ts)) ≤ length ts
    go true e = leb-true _ _ e
    go false e = omega arith

farther_two : {A : Type 0} (q q' : Outcome A) → left_of (o.farther q q') ≤ left_of q'
farther_two (Ok p) q' = go (nat_le (length p.1) (left_of q')) refl
  where
    go : (b : Bool) → nat_le (length p.1) (left_of q') ≡ b → left_of (cond b (Ok p) q') ≤ left_of q'
    go true e = leb-true _ _ e
    go false e = omega arith
farther_two (Err ts) q' = go (nat_le (left_of q') (length ts)) refl
  where
    go : (b : Bool) → nat_le (left_of q') (length ts) ≡ b → left_of (cond b q' (Err ts)) ≤ left_of q'
    go true e = omega arith
    go false e = elim (leb_tells (left_of q') (length ts)) [ inl k ↦ absurd (let w = k.0 in cc) | inr k ↦ let w = k.1 in omega arith ]

le_same : (m n m' n' : ℕ) → (m ≤ n → m' ≤ n') → (n < m → n' < m') → nat_le m n ≡ nat_le m' n'
le_same m n m' n' one two = elim (leb_tells m n) [
  | inl p ↦ p.0 ∙ sym (le-leb m' n' (one p.1))
  | inr p ↦ p.0 ∙ (elim (leb_tells m' n') [ inl k ↦ absurd (let lt = two p.1 in let le = k.1 in omega arith) | inr k ↦ sym k.0 ])
]

same_side : (u v a b : List Symbol) → nat_le (length (a ++ u)) (length (b ++ u)) ≡ nat_le (length (a ++ v)) (length (b ++ v))
same_side u v a b = le_same _ _ _ _ (λ le. simp length-append (let l = simp length-append at le in omega arith)) (λ lt. simp length-append (let l = simp length-append at lt in omega arith))

pick : {A : Type 0} {u v : List Symbol} {q q' p p' : Outcome A} (b b' : Bool) → b ≡ b' → Alike u v q q' → Alike u v p p' → Alike u v (cond b q p) (cond b' q' p')
pick true true e one two = one
pick false false e one two = two
pick true false e one two = absurd cc
pick false true e one two = absurd cc

farther_alike : {A : Type 0} {u v : List Symbol} {q q' p p' : Outcome A} → Alike u v q q' → Alike u v p p' → Alike u v (o.farther q p) (o.farther q' p')
farther_alike {A} {u} {v} (both_read x a) (both_read y b) = pick _ _ (same_side u v a b) (both_read x a) (both_read y b)
farther_alike {A} {u} {v} (both_read x a) (both_refused b) = pick _ _ (same_side u v a b) (both_read x a) (both_refused b)
farther_alike {A} {u} {v} (both_refused a) (both_read y b) = pick _ _ (same_side u v b a) (both_read y b) (both_refused a)
farther_alike {A} {u} {v} (both_refused a) (both_refused b) = pick _ _ (same_side u v b a) (both_refused b) (both_refused a)
farther_alike {A} {u} (beyond {q} lt) (both_read y b) = beyond (let le = farther_one q (Ok (y, b ++ u)) in omega arith)
farther_alike {A} {u} (beyond {q} lt) (both_refused b) = beyond (let le = farther_one q (Err (b ++ u)) in omega arith)
farther_alike {A} {u} (both_read x a) (beyond {q} lt) = beyond (let le = farther_two (Ok (x, a ++ u)) q in omega arith)
farther_alike {A} {u} (both_refused a) (beyond {q} lt) = beyond (let le = farther_two (Err (a ++ u)) q in omega arith)
farther_alike (beyond {q} lt) (beyond {q = p} lt') = beyond (let le = farther_two q p in omega arith)

farther_tells : {A : Type 0} (Q : Reads A) (ts : List Symbol) (q p : Outcome A) → Tells Q ts q → Tells Q ts p → Tells Q ts (o.farther q p)
farther_tells Q ts (Ok x) p one two = go (nat_le (length x.1) (left_of p))
  where
    go : (b : Bool) → Tells Q ts (cond b (Ok x) p)
    go true = one
    go false = two
farther_tells Q ts (Err us) p one two = go (nat_le (left_of p) (length us))
  where
    go : (b : Bool) → Tells Q ts (cond b p (Err us))
    go true = two
    go false = one

pub law_either : {A : Type 0} {Q : Reads A} (p q : Reader A) → Law Q p → Law Q q → Law Q (o.either p q)
law_either {A} {Q} p q one two = record {
  tells = λ ts. farther_tells Q ts (p ts) (q ts) (one.tells ts) (two.tells ts);
  alike = λ c w w' front. farther_alike (one.alike c w w' front) (two.alike c w w' front);
}
