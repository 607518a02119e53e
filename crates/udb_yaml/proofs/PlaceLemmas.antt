-- Places in a text.
use Rattle.std.proofs.Common.{◌≡◌, ℕ, suc, ◌+◌, ◌-◌, ◌<◌, ◌≤◌, Bool, true, false, cond, ◌&&◌, ◌||◌, eqb, ltb, List, [], ◌∷◌, ◌++◌, length, take, drop, get_or, Some, None, inl, inr, refl, sym, ap, ◌∙◌, append_assoc, append-nil, arith, ne_eqb, lt-ltb, le-ltb}
use Rattle.std.proofs.lemmas.List.{at_drop_more, at_drop_all, take_more, take-take, length-take, length-take-le}
use Rattle.std.proofs.lemmas.Bool.{and_left, and_right, eqb-true, eq-eqb, cases_lt, cases_eq}
use Rattle.yaml_spec.specs.Line.{begins, has_pair, ends_in, is_flow, parts_here}
use Rattle.yaml_spec.specs.Reading as r
use Rattle.yaml_spec.specs.Reading.{Taken}
use Rattle.udb_yaml.specs.Places.{pair_place}

-- what is taken behind a front
abbrev pub fronted : List ℕ → Taken → Taken
fronted w None = None
fronted w (Some p) = Some (w ++ p.0, p.1)

-- ---- tails

-- a tail is told by the spaces in front
abbrev told : ℕ → ℕ → List ℕ → Bool
told n long s = eqb n long || (ltb 0 n && eqb (get_or s n 0) 35)

told_more : (n k : ℕ) (s : List ℕ) → eqb (suc n) (suc k) ≡ eqb n k
told_more n k s = elim (cases_eq n k) [ inl same ↦ eq-eqb (suc n) (suc k) (ap suc same) ∙ sym (eq-eqb n k same) | inr other ↦ ne_eqb (suc n) (suc k) (λ e. other (omega arith)) ∙ sym (ne_eqb n k other) ]

no_front : (s : List ℕ) → begins 32 s ≡ false → r.front s ≡ 0
no_front [] e = refl
no_front (c ∷ s) e = rw e refl

pub tail_by_front : (s : List ℕ) → r.is_tail s ≡ told (r.front s) (length s) s
tail_by_front [] = refl
tail_by_front (c ∷ s) = go (eqb c 32) refl (tail_by_front s)
  where
    space : r.is_tail s ≡ told (r.front s) (length s) s → (r.is_tail s || begins 35 s) ≡ told (suc (r.front s)) (suc (length s)) (c ∷ s)
    space again = rw (told_more (r.front s) (length s) s, lt-ltb 0 (suc (r.front s)) (omega arith)) (rw again (hash s))
      where
        hash : (s : List ℕ) → (told (r.front s) (length s) s || begins 35 s) ≡ (eqb (r.front s) (length s) || eqb (get_or s (r.front s) 0) 35)
        hash [] = refl
        hash (d ∷ s) = at (eqb d 32) refl
          where
            or_same : (a b : Bool) → ((a || b) || false) ≡ (a || b)
            or_same true b = refl
            or_same false true = refl
            or_same false false = refl

            or_last : (a : Bool) → ((false || (false && a)) || a) ≡ (false || a)
            or_last a = refl

            at : (b : Bool) → eqb d 32 ≡ b → (told (r.front (d ∷ s)) (length (d ∷ s)) (d ∷ s) || begins 35 (d ∷ s)) ≡ (eqb (r.front (d ∷ s)) (length (d ∷ s)) || eqb (get_or (d ∷ s) (r.front (d ∷ s)) 0) 35)
            at true is =
                let no_hash : eqb d 35 ≡ false = ne_eqb d 35 (λ e. let e' = eqb-true d 32 is in absurd (omega arith)) in
                rw (is, no_hash, lt-ltb 0 (suc (r.front s)) (omega arith)) (or_same (eqb (suc (r.front s)) (suc (length s))) (eqb (get_or s (r.front s) 0) 35))
            at false is = rw (is, le-ltb 0 0 (omega arith), ne_eqb 0 (suc (length s)) (λ e. absurd (omega arith))) refl

    go : (b : Bool) → eqb c 32 ≡ b → r.is_tail s ≡ told (r.front s) (length s) s → (b && (r.is_tail s || begins 35 s)) ≡ told (cond b (suc (r.front s)) 0) (suc (length s)) (c ∷ s)
    go true is again = space again
    go false is again = rw (ne_eqb 0 (suc (length s)) (λ e. absurd (omega arith)), le-ltb 0 0 (omega arith)) refl

pub tail_told : (s : List ℕ) (n : ℕ) → n ≡ r.front s → r.is_tail s ≡ (eqb n (length s) || (ltb 0 n && eqb (get_or s n 0) 35))
tail_told s n e = tail_by_front s ∙ ap (λ (z : ℕ). told z (length s) s) (sym e)

pub past_by_front : (s : List ℕ) → r.past s ≡ drop (r.front s) s
past_by_front [] = refl
past_by_front (c ∷ s) = go (eqb c 32) (past_by_front s)
  where
    go : (b : Bool) → r.past s ≡ drop (r.front s) s → cond b (r.past s) (c ∷ s) ≡ drop (cond b (suc (r.front s)) 0) (c ∷ s)
    go true again = again
    go false again = refl

-- ---- pairs

pub has_pair_place : (a b : ℕ) (s : List ℕ) → has_pair a b s ≡ ltb (pair_place a b s) (length s)
has_pair_place a b [] = refl
has_pair_place a b (c ∷ s) = go (eqb c a && begins b s) (has_pair_place a b s)
  where
    go : (t : Bool) → has_pair a b s ≡ ltb (pair_place a b s) (length s) → (t || has_pair a b s) ≡ ltb (cond t 0 (suc (pair_place a b s))) (suc (length s))
    go true again = sym (lt-ltb 0 (suc (length s)) (omega arith))
    go false again = again ∙ shift (pair_place a b s) (length s)
      where
        shift : (m n : ℕ) → ltb m n ≡ ltb (suc m) (suc n)
        shift m n = elim (cases_lt m n) [ inl lt ↦ lt-ltb m n lt ∙ sym (lt-ltb (suc m) (suc n) (omega arith)) | inr le ↦ le-ltb m n le ∙ sym (le-ltb (suc m) (suc n) (omega arith)) ]

-- ---- trimming

trim_push : (s : List ℕ) → r.trim (s ++ 32 ∷ []) ≡ r.trim s
trim_push s = (go s).1
  where
    go : (s : List ℕ) → (r.all_spaces (s ++ 32 ∷ []) ≡ r.all_spaces s) × (r.trim (s ++ 32 ∷ []) ≡ r.trim s)
    go [] = (refl, refl)
    go (c ∷ s) = let inner = go s in (ap (λ (z : Bool). eqb c 32 && z) inner.0, rw inner.0 (ap (λ (z : List ℕ). cond (eqb c 32 && r.all_spaces s) [] (c ∷ z)) inner.1))

not_spaces : (c : ℕ) (s : List ℕ) → ends_in 32 (c ∷ s) ≡ false → r.all_spaces (c ∷ s) ≡ false
not_spaces c [] e = and_left (eqb c 32) true e
not_spaces c (d ∷ s) e = and_right (eqb c 32) _ (not_spaces d s e)

-- a text that doesn't end in a space is trimmed
trim_solid : (s : List ℕ) → ends_in 32 s ≡ false → r.trim s ≡ s
trim_solid [] e = refl
trim_solid (c ∷ []) e = rw (not_spaces c [] e) refl
trim_solid (c ∷ d ∷ s) e = rw (not_spaces c (d ∷ s) e) (ap (λ (z : List ℕ). c ∷ z) (trim_solid (d ∷ s) e))

ends_push : (s : List ℕ) (a c : ℕ) → ends_in a (s ++ c ∷ []) ≡ eqb c a
ends_push [] a c = refl
ends_push (x ∷ []) a c = refl
ends_push (x ∷ y ∷ s) a c = ends_push (y ∷ s) a c

take_one : (s : List ℕ) (n : ℕ) → 0 < n → n ≤ length s → take n s ≡ take (n - 1) s ++ get_or s (n - 1) 0 ∷ []
take_one s n some within = let count : n - 1 + 1 ≡ n = omega arith in ap (λ (z : ℕ). take z s) (sym count) ∙ take_more s (n - 1) 0 (omega arith)

-- a space at the end is trimmed
pub trim_step : (s : List ℕ) (n : ℕ) → 0 < n → n ≤ length s → get_or s (n - 1) 0 ≡ 32 → r.trim (take (n - 1) s) ≡ r.trim (take n s)
trim_step s n some within is = sym (ap r.trim (take_one s n some within) ∙ (ap (λ (c : ℕ). r.trim (take (n - 1) s ++ c ∷ [])) is ∙ trim_push (take (n - 1) s)))

pub trim_stop : (s : List ℕ) (n : ℕ) → 0 < n → n ≤ length s → (get_or s (n - 1) 0 ≡ 32 → ⊥) → r.trim (take n s) ≡ take n s
trim_stop s n some within other = trim_solid (take n s) (ap (ends_in 32) (take_one s n some within) ∙ (ends_push (take (n - 1) s) 32 (get_or s (n - 1) 0) ∙ ne_eqb (get_or s (n - 1) 0) 32 other))

-- ---- a line without its tail

-- the tail of a line is what is trimmed, and a comment
tail_trim : (s : List ℕ) → r.is_tail s ≡ r.all_spaces (take (pair_place 32 35 s) s)
tail_trim [] = refl
tail_trim (c ∷ s) = go (eqb c 32) (begins 35 s) refl refl (tail_trim s)
  where
    go : (a b : Bool) → eqb c 32 ≡ a → begins 35 s ≡ b → r.is_tail s ≡ r.all_spaces (take (pair_place 32 35 s) s) → (a && (r.is_tail s || b)) ≡ r.all_spaces (take (cond (a && b) 0 (suc (pair_place 32 35 s))) (c ∷ s))
    go true true is hash again = or_true (r.is_tail s)
      where
        or_true : (b : Bool) → (b || true) ≡ true
        or_true true = refl
        or_true false = refl
    go true false is hash again = rw is (or_false (r.is_tail s) ∙ again)
      where
        or_false : (b : Bool) → (b || false) ≡ b
        or_false true = refl
        or_false false = refl
    go false true is hash again = rw is refl
    go false false is hash again = rw is refl

pub lean_by_place : (s : List ℕ) → r.lean s ≡ r.trim (take (pair_place 32 35 s) s)
lean_by_place [] = refl
lean_by_place (c ∷ s) = go (eqb c 32 && begins 35 s) refl (tail_trim (c ∷ s)) (lean_by_place s)
  where
    go : (a : Bool) → (eqb c 32 && begins 35 s) ≡ a → r.is_tail (c ∷ s) ≡ r.all_spaces (take (cond a 0 (suc (pair_place 32 35 s))) (c ∷ s)) → r.lean s ≡ r.trim (take (pair_place 32 35 s) s) → cond (r.is_tail (c ∷ s)) [] (c ∷ r.lean s) ≡ r.trim (take (cond a 0 (suc (pair_place 32 35 s))) (c ∷ s))
    go true is tail again = rw tail refl
    go false is tail again = rw (tail, again) refl

lean_long : (s : List ℕ) → r.tail s ≡ drop (length (r.lean s)) s
lean_long [] = refl
lean_long (c ∷ s) = go (r.is_tail (c ∷ s)) (lean_long s)
  where
    go : (b : Bool) → r.tail s ≡ drop (length (r.lean s)) s → cond b (c ∷ s) (r.tail s) ≡ drop (length (cond b [] (c ∷ r.lean s))) (c ∷ s)
    go true again = refl
    go false again = again

-- a line's content and tail, by the place where the comment begins and how much is left of it
pub lean_cut : (s : List ℕ) (m n : ℕ) → m ≡ pair_place 32 35 s → r.trim (take m s) ≡ take n (take m s) → n ≤ length (take m s) → n ≤ length s → (r.lean s ≡ take n s) × (r.tail s ≡ drop n s)
lean_cut s m n place trims within inside =
    let short : n ≤ m = omega (arith, within, length-take m s) in
    let is : r.lean s ≡ take n s = lean_by_place s ∙ (ap (λ (z : ℕ). r.trim (take z s)) (sym place) ∙ (trims ∙ take-take n m s short)) in
    (is, lean_long s ∙ ap (λ (z : ℕ). drop z s) (ap length is ∙ length-take-le n s inside))

-- ---- flow signs

pub signless_place : (s : List ℕ) → (r.signless s ≡ take (length (r.signless s)) s) × (length (r.signless s) ≤ length s)
signless_place [] = (refl, omega arith)
signless_place (c ∷ s) = go (is_flow c) (signless_place s)
  where
    go : (b : Bool) → (r.signless s ≡ take (length (r.signless s)) s) × (length (r.signless s) ≤ length s) → (cond b [] (c ∷ r.signless s) ≡ take (length (cond b [] (c ∷ r.signless s))) (c ∷ s)) × (length (cond b [] (c ∷ r.signless s)) ≤ suc (length s))
    go true again = (refl, omega arith)
    go false again = (ap (λ (z : List ℕ). c ∷ z) again.0, omega arith)

pub signless_at : (s : List ℕ) (n : ℕ) → n ≡ length (r.signless s) → r.signless s ≡ take n s
signless_at s n e = (signless_place s).0 ∙ ap (λ (z : ℕ). take z s) (sym e)

-- ---- colons

colon_step : (w : List ℕ) (c : ℕ) (s : List ℕ) → (eqb c 58 && parts_here s) ≡ false → fronted (w ++ c ∷ []) (r.to_colon s) ≡ fronted w (r.to_colon (c ∷ s))
colon_step w c s e = rw e (go (r.to_colon s))
  where
    go : (o : Taken) → fronted (w ++ c ∷ []) o ≡ fronted w (r.with_byte c o)
    go None = refl
    go (Some p) = ap (λ (z : List ℕ). Some (z, p.1)) (append_assoc w (c ∷ []) p.0)

pub colon_more : (s : List ℕ) (n : ℕ) → n < length s → (eqb (get_or s n 0) 58 && parts_here (drop (n + 1) s)) ≡ false → fronted (take (n + 1) s) (r.to_colon (drop (n + 1) s)) ≡ fronted (take n s) (r.to_colon (drop n s))
colon_more s n lt e =
    ap (λ (z : List ℕ). fronted z (r.to_colon (drop (n + 1) s))) (take_more s n 0 lt) ∙ (colon_step (take n s) (get_or s n 0) (drop (n + 1) s) e ∙ sym (at_drop_more (λ (z : List ℕ). fronted (take n s) (r.to_colon z)) s n 0 lt))

pub colon_found : (s : List ℕ) (n : ℕ) → n < length s → get_or s n 0 ≡ 58 → parts_here (drop (n + 1) s) ≡ true → fronted (take n s) (r.to_colon (drop n s)) ≡ Some (take n s, drop (n + 1) s)
colon_found s n lt is here =
    at_drop_more (λ (z : List ℕ). fronted (take n s) (r.to_colon z)) s n 0 lt ∙ (rw (is, here) (ap (λ (z : List ℕ). Some (z, drop (n + 1) s)) (append-nil (take n s))))

pub signless_stop : (s : List ℕ) (n m : ℕ) → n < length s → is_flow (get_or s n 0) ≡ true → n + length (r.signless (drop n s)) ≡ m → n ≡ m
signless_stop s n m lt is e = let none : length (r.signless (drop n s)) ≡ 0 = at_drop_more (λ (z : List ℕ). length (r.signless z)) s n 0 lt ∙ rw is refl in omega arith

pub signless_end : (s : List ℕ) (n m : ℕ) → length s ≤ n → n + length (r.signless (drop n s)) ≡ m → n ≡ m
signless_end s n m le e = let none : length (r.signless (drop n s)) ≡ 0 = at_drop_all (λ (z : List ℕ). length (r.signless z)) s n le in omega arith
