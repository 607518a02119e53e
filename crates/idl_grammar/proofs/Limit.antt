-- With a higher limit a reader answers the same, or it was refused at a token for its limit: then it
-- had taken nearly as many tokens as the limit is high.
use Rattle.std.proofs.Common.{◌≡◌, ℕ, zero, suc, ◌+◌, ◌<◌, ◌≤◌, Bool, true, false, cond, List, [], ◌∷◌, length, Ok, Err, refl, sym, ap, subst, arith, inl, inr}
use Rattle.std.specs.Prelude.{nat_le, max}
use Rattle.std.proofs.lemmas.Bool.{le-leb}
use Rattle.std.proofs.lemmas.Bool.Decides.{leb_tells}
use Rattle.std.proofs.lemmas.List.{nil_from_length}
use Rattle.idl_token.specs.declared.kinds.Sign.TheVariants as s
use Rattle.idl_token.specs.Symbol.{Symbol}
use Rattle.idl_grammar.specs.Outcome as o
use Rattle.idl_grammar.specs.Outcome.{Outcome, Reader, Move, take, stop, pass, left_of}
use Rattle.idl_grammar.proofs.Law.{Reads, Law, Broke, Tells, tells_left}
use Rattle.idl_grammar.proofs.ListLaw.{Shortens}
use Rattle.idl_grammar.proofs.Apart.{Apart, apart_back, beyond_apart, farther_one, farther_other, law_reads}

-- of a text of length l
pub data Deeper {A : Type 0} (n l : ℕ) (q q' : Outcome A) : Type 0 where
  same : q ≡ q' → Deeper n l q q'
  stops : (c : Symbol) (w : List Symbol) → q ≡ Err (c ∷ w) → n + length (c ∷ w) ≤ l + 2 → Deeper n l q q'

pub weaken : {A : Type 0} (n l n' l' : ℕ) (q q' : Outcome A) → n' + l ≤ n + l' → Deeper n l q q' → Deeper n' l' q q'
weaken n l n' l' q q' le (same e) = same e
weaken n l n' l' q q' le (stops c w e b) = stops c w e (omega arith)

pub deeper_bind : {A B : Type 0} {n l : ℕ} {f f' : A → Reader B} (q q' : Outcome A) → Deeper n l q q' → ((x : A) (us : List Symbol) → q ≡ Ok (x, us) → Deeper n l (f x us) (f' x us)) → Deeper n l (o.and_then q f) (o.and_then q' f')
deeper_bind {A} {B} {n} {l} {f} {f'} q q' (same e) next = subst (λ (p : Outcome A). Deeper n l (o.and_then q f) (o.and_then p f')) e (go q next)
  where
    go : (q : Outcome A) → ((x : A) (us : List Symbol) → q ≡ Ok (x, us) → Deeper n l (f x us) (f' x us)) → Deeper n l (o.and_then q f) (o.and_then q f')
    go (Ok p) next = next p.0 p.1 refl
    go (Err us) next = same refl
deeper_bind {A} {B} {n} {l} {f} {f'} q q' (stops c w e b) next = stops c w (ap (λ (p : Outcome A). o.and_then p f) e) b

-- ---- how many tokens are left

pub want_left : (test : Symbol → Bool) (ts us : List Symbol) (x : Unit {0}) → o.want test ts ≡ Ok (x, us) → length us < length ts
unfolding o.want
want_left test [] us x e = absurd cc
want_left test (c ∷ ts) us x e = go (test c) e
  where
    go : (b : Bool) → ◌≡◌ {A = Outcome (Unit {0})} (cond b (Ok (tt {0}, ts)) (Err (c ∷ ts))) (Ok (x, us)) → length us < suc (length ts)
    go true e = let pair : ◌≡◌ {A = Unit {0} × List Symbol} (tt {0}, ts) (x, us) = cc in let rest : ts ≡ us = ap (λ (p : Unit {0} × List Symbol). p.1) pair in omega (arith, ap length rest)
    go false e = absurd cc

pub law_left : {A : Type 0} (P : Reads A) (p : Reader A) → Law P p → (ts us : List Symbol) (x : A) → p ts ≡ Ok (x, us) → length us ≤ length ts
law_left {A} P p law ts us x e = subst (λ (q : Outcome A). left_of q ≤ length ts) e (tells_left P ts (p ts) (law.tells ts))

-- where what is read takes a token, nothing reads
pub law_nothing : {A : Type 0} (P : Reads A) (p : Reader A) → Shortens P → Law P p → p [] ≡ Err []
law_nothing {A} P p short law = go (p []) refl
  where
    go : (q : Outcome A) → p [] ≡ q → q ≡ Err []
    go (Ok x) e = absurd (let lt = short [] x.1 x.0 (law_reads P p law [] x.1 x.0 e) in omega arith)
    go (Err us) e = let le : length us ≤ 0 = subst (λ (q : Outcome A). left_of q ≤ 0) e (tells_left P [] (p []) (law.tells [])) in let none : us ≡ [] = nil_from_length us (omega arith) in ap (λ (v : List Symbol). Err v) none

pub deeper_want : {B : Type 0} {n l : ℕ} (test : Symbol → Bool) (f f' : Unit {0} → Reader B) (ts : List Symbol) → ((us : List Symbol) → length us < length ts → Deeper n l (f tt us) (f' tt us)) → Deeper n l (o.and_then (o.want test ts) f) (o.and_then (o.want test ts) f')
deeper_want test f f' ts next = deeper_bind (o.want test ts) (o.want test ts) (same refl) (λ x us e. next us (want_left test ts us x e))

-- a reader that is the same with both limits
pub deeper_after : {A B : Type 0} {n l : ℕ} (P : Reads A) (p : Reader A) → Law P p → (f f' : A → Reader B) (ts : List Symbol) → ((x : A) (us : List Symbol) → length us ≤ length ts → Deeper n l (f x us) (f' x us)) → Deeper n l (o.and_then (p ts) f) (o.and_then (p ts) f')
deeper_after P p law f f' ts next = deeper_bind (p ts) (p ts) (same refl) (λ x us e. next x us (law_left P p law ts us x e))

-- ---- guards

pub guard_grows : {A : Type 0} {m l : ℕ} (n n' : ℕ) (p p' other other' : Reader A) (c : Symbol) (ts : List Symbol) → n ≤ n' → (n ≡ 0 → m + length (c ∷ ts) ≤ l + 2) → (1 ≤ n → Deeper m l (p ts) (p' ts))
    → Deeper m l (o.moved (o.deeper n p) other (c ∷ ts)) (o.moved (o.deeper n' p') other' (c ∷ ts))
guard_grows zero zero p p' other other' c ts le low next = same refl
guard_grows zero (suc n') p p' other other' c ts le low next = stops c ts refl (low refl)
guard_grows (suc n) zero p p' other other' c ts le low next = absurd (omega arith)
guard_grows (suc n) (suc n') p p' other other' c ts le low next = next (omega arith)

pub test_grows : {A : Type 0} {m l : ℕ} (b b' : Bool) (p p' other other' : Reader A) (c : Symbol) (ts : List Symbol) → (b ≡ true → b' ≡ true) → (b ≡ false → m + length (c ∷ ts) ≤ l + 2) → (b ≡ true → Deeper m l (p ts) (p' ts))
    → Deeper m l (o.moved (cond b (take p) stop) other (c ∷ ts)) (o.moved (cond b' (take p') stop) other' (c ∷ ts))
test_grows true true p p' other other' c ts up low next = next refl
test_grows true false p p' other other' c ts up low next = absurd (let e = up refl in cc)
test_grows false true p p' other other' c ts up low next = stops c ts refl (low refl)
test_grows false false p p' other other' c ts up low next = same refl

pub only_grows : {A : Type 0} {m l : ℕ} (n n' : ℕ) (p p' : Reader A) (ts : List Symbol) → n ≤ n' → (n ≡ 0 → m + length ts ≤ l + 2) → (n ≡ 0 → 1 ≤ n' → p' [] ≡ Err []) → (1 ≤ n → Deeper m l (p ts) (p' ts)) → Deeper m l (o.only n p ts) (o.only n' p' ts)
only_grows zero zero p p' ts le low none next = same refl
only_grows zero (suc n') p p' [] le low none next = same (sym (none refl (omega arith)))
only_grows zero (suc n') p p' (c ∷ ts) le low none next = stops c ts refl (low refl)
only_grows (suc n) zero p p' ts le low none next = absurd (omega arith)
only_grows (suc n) (suc n') p p' ts le low none next = next (omega arith)

-- a test of the next token
pub if_grows : {B : Type 0} {n l : ℕ} (test : Symbol → Bool) (p p' q q' : Reader B) (ts : List Symbol) → ((us : List Symbol) → length us < length ts → Deeper n l (p us) (p' us)) → Deeper n l (q ts) (q' ts)
    → Deeper n l (cond (o.sees test ts) (p (o.after ts)) (q ts)) (cond (o.sees test ts) (p' (o.after ts)) (q' ts))
if_grows test p p' q q' [] one two = two
if_grows {B} {n} {l} test p p' q q' (c ∷ ts) one two = go (test c)
  where
    go : (b : Bool) → Deeper n l (cond b (p ts) (q (c ∷ ts))) (cond b (p' ts) (q' (c ∷ ts)))
    go true = one ts (omega arith)
    go false = two

-- ---- one of two

stopped : {A : Type 0} {n l : ℕ} (us : List Symbol) (q' : Outcome A) → n + length us ≤ l + 2 → (us ≡ [] → Err us ≡ q') → Deeper n l (Err us) q'
stopped [] q' b none = same (none refl)
stopped (c ∷ us) q' b none = stops c us refl b

suc_above : (k : ℕ) → nat_le (suc k) 0 ≡ false
suc_above k = elim (leb_tells (suc k) 0) [ inl p ↦ absurd (let le = p.1 in omega arith) | inr p ↦ p.0 ]

zero_below : (k : ℕ) → nat_le 0 k ≡ true
zero_below k = le-leb 0 k (omega arith)

module _ {A : Type 0} (P Q : Reads A) (apart : Apart P Q) (ts : List Symbol) where
  -- the other has gone to the end of the text
  end_one : (q' : Outcome A) → Tells P ts q' → Broke Q ts [] → Err [] ≡ o.farther q' (Err [])
  end_one (Ok (x, [])) k m = absurd (beyond_apart P Q apart ts [] [] x k m (omega arith))
  end_one (Ok (x, c ∷ us)) k m = let e = suc_above (length us) in rw e refl
  end_one (Err us) k m = let e = zero_below (length us) in rw e refl

  end_two : (q' : Outcome A) → Tells Q ts q' → Broke P ts [] → Err [] ≡ o.farther (Err []) q'
  end_two (Ok (x, [])) k m = absurd (beyond_apart Q P (apart_back P Q apart) ts [] [] x k m (omega arith))
  end_two (Ok (x, c ∷ us)) k m = let e = suc_above (length us) in rw e refl
  end_two (Err []) k m = refl
  end_two (Err (c ∷ us)) k m = let e = suc_above (length us) in rw e refl

  module _ (n l : ℕ) where
    first_stops : (c : Symbol) (w : List Symbol) (q q' : Outcome A) → n + length (c ∷ w) ≤ l + 2 → Tells P ts q' → Tells Q ts q → Deeper n l (o.farther (Err (c ∷ w)) q) (o.farther q' q)
    first_stops c w (Ok (y, us)) q' b k m = elim (leb_tells (length us) (length (c ∷ w))) [
      | inl e ↦ (let is = e.0 in rw is (same (sym (farther_other Q P (apart_back P Q apart) ts us y q' m k))))
      | inr e ↦ (let is = e.0 in rw is (stops c w refl b))
    ]
    first_stops c w (Err us) q' b k m = elim (leb_tells (length us) (length (c ∷ w))) [
      | inl e ↦ (let is = e.0 in let le = e.1 in rw is (stopped us (o.farther q' (Err us)) (omega arith) (λ none. ends us none m)))
      | inr e ↦ (let is = e.0 in rw is (stops c w refl b))
    ]
      where
        ends : (us : List Symbol) → us ≡ [] → Broke Q ts us → Err us ≡ o.farther q' (Err us)
        ends [] none m = end_one q' k m
        ends (d ∷ us) none m = absurd cc

    second_stops : (c : Symbol) (w : List Symbol) (q q' : Outcome A) → n + length (c ∷ w) ≤ l + 2 → Tells Q ts q' → Tells P ts q → Deeper n l (o.farther q (Err (c ∷ w))) (o.farther q q')
    second_stops c w (Ok (y, us)) q' b k m = elim (leb_tells (length us) (length (c ∷ w))) [
      | inl e ↦ (let is = e.0 in rw is (same (sym (farther_one P Q apart ts us y q' m k))))
      | inr e ↦ (let is = e.0 in rw is (stops c w refl b))
    ]
    second_stops c w (Err us) q' b k m = elim (leb_tells (length (c ∷ w)) (length us)) [
      | inl e ↦ (let is = e.0 in rw is (stops c w refl b))
      | inr e ↦ (let is = e.0 in let lt = e.1 in rw is (stopped us (o.farther (Err us) q') (omega arith) (λ none. ends us none m)))
    ]
      where
        ends : (us : List Symbol) → us ≡ [] → Broke P ts us → Err us ≡ o.farther (Err us) q'
        ends [] none m = end_two q' k m
        ends (d ∷ us) none m = absurd cc

    both_stop : (c d : Symbol) (w v : List Symbol) (q' : Outcome A) → n + length (c ∷ w) ≤ l + 2 → n + length (d ∷ v) ≤ l + 2 → Deeper n l (o.farther (Err (c ∷ w)) (Err (d ∷ v))) q'
    both_stop c d w v q' b b' = elim (leb_tells (length (d ∷ v)) (length (c ∷ w))) [
      | inl e ↦ (let is = e.0 in rw is (stops d v refl b'))
      | inr e ↦ (let is = e.0 in rw is (stops c w refl b))
    ]

    pub either_grows : (q p q' p' : Outcome A) → Deeper n l q q' → Deeper n l p p' → Tells P ts q' → Tells Q ts p' → Deeper n l (o.farther q p) (o.farther q' p')
    either_grows q p q' p' (same e) (same e') k m = same (rw (e, e') refl)
    either_grows q p q' p' (stops c w e b) (same e') k m = rw (e, e') (first_stops c w p' q' b k m)
    either_grows q p q' p' (same e) (stops c w e' b) k m = rw (e, e') (second_stops c w q' p' b m k)
    either_grows q p q' p' (stops c w e b) (stops d v e' b') k m = rw (e, e') (both_stop c d w v (o.farther q' p') b b')

-- ---- lists

abbrev parts_after : {A : Type 0} → Reader (A × ℕ) → ℕ → A × ℕ → Reader (List A × ℕ)
parts_after one f x = λ ts. o.and_then (o.separated one f ts) (λ xs. o.pure (x.0 ∷ xs.0, max x.1 xs.1))

module _ {A : Type 0} (n l : ℕ) (one one' : Reader (A × ℕ)) where
  pub next_grows : {B : Type 0} (test : Symbol → Bool) (p p' q q' : Reader B) (ts : List Symbol) → ((us : List Symbol) → length us < length ts → Deeper n l (p us) (p' us)) → Deeper n l (q ts) (q' ts)
      → Deeper n l (cond (o.sees test ts) (p (o.after ts)) (q ts)) (cond (o.sees test ts) (p' (o.after ts)) (q' ts))
  next_grows test p p' q q' [] one two = two
  next_grows test p p' q q' (c ∷ ts) one two = go (test c)
    where
      go : (b : Bool) → Deeper n l (cond b (p ts) (q (c ∷ ts))) (cond b (p' ts) (q' (c ∷ ts)))
      go true = one ts (omega arith)
      go false = two

  pub separated_grows : ((us : List Symbol) → length us < l → Deeper n l (one us) (one' us)) → ((us vs : List Symbol) (x : A × ℕ) → one us ≡ Ok (x, vs) → length vs ≤ length us) → (f : ℕ) (ts : List Symbol) → length ts < l → Deeper n l (o.separated one f ts) (o.separated one' f ts)
  unfolding o.separated
  separated_grows grow left zero ts lt = same refl
  separated_grows grow left (suc f) ts lt = deeper_bind (one ts) (one' ts) (grow ts lt) (λ x us e. let le = left ts us x e in
      next_grows (o.is_sign s.Comma) (parts_after one f x) (parts_after one' f x) (o.pure (x.0 ∷ [], x.1)) (o.pure (x.0 ∷ [], x.1)) us (λ vs m. deeper_bind (o.separated one f vs) (o.separated one' f vs) (separated_grows grow left f vs (omega arith)) (λ xs ws e'. same refl)) (same refl))

  pub commas_grows : ((us : List Symbol) → length us < l → Deeper n l (one us) (one' us)) → ((us vs : List Symbol) (x : A × ℕ) → one us ≡ Ok (x, vs) → length vs ≤ length us) → (ts : List Symbol) → length ts < l → Deeper n l (o.commas one ts) (o.commas one' ts)
  unfolding o.commas
  commas_grows grow left ts lt = separated_grows grow left (suc (length ts)) ts lt

  pub repeated_grows : (begins : Symbol → Bool) → ((us : List Symbol) → length us ≤ l → o.sees begins us ≡ true → Deeper n l (one us) (one' us)) → ((us vs : List Symbol) (x : A × ℕ) → one us ≡ Ok (x, vs) → length vs ≤ length us) → (f : ℕ) (ts : List Symbol) → length ts ≤ l
      → Deeper n l (o.repeated begins one f ts) (o.repeated begins one' f ts)
  unfolding o.repeated
  repeated_grows begins grow left zero ts le = same refl
  repeated_grows begins grow left (suc f) ts le = go _ _ _ (o.sees begins ts) refl (λ is. deeper_bind (one ts) (one' ts) (grow ts le is) (λ x us e. let m = left ts us x e in
      deeper_bind (o.repeated begins one f us) (o.repeated begins one' f us) (repeated_grows begins grow left f us (omega arith)) (λ xs vs e'. same refl)))
    where
      go : (q q' p : Outcome (List A × ℕ)) (b : Bool) → o.sees begins ts ≡ b → (o.sees begins ts ≡ true → Deeper n l q q') → Deeper n l (cond b q p) (cond b q' p)
      go q q' p true is next = next is
      go q q' p false is next = same refl

  pub rows_grows : (begins : Symbol → Bool) → ((us : List Symbol) → length us ≤ l → o.sees begins us ≡ true → Deeper n l (one us) (one' us)) → ((us vs : List Symbol) (x : A × ℕ) → one us ≡ Ok (x, vs) → length vs ≤ length us) → (ts : List Symbol) → length ts ≤ l
      → Deeper n l (o.rows begins one ts) (o.rows begins one' ts)
  unfolding o.rows
  rows_grows begins grow left ts le = repeated_grows begins grow left (suc (length ts)) ts le
