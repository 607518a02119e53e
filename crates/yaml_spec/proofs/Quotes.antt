-- Tails of lines, and what stands between quotes.
use Rattle.std.proofs.Common.{◌≡◌, ℕ, zero, suc, ◌+◌, ◌-◌, ◌*◌, ◌<◌, ◌≤◌, max, Bool, true, false, cond, ◌&&◌, ◌||◌, eqb, leb, ltb, List, [], ◌∷◌, ◌++◌, length, drop, Option, Some, None, option_and_then, ◌⊎◌, inl, inr, refl, sym, ap, subst, ◌∙◌, append_assoc, arith, lt-ltb, encode_utf8}
use Rattle.std.proofs.lemmas.Bool.{eqb-true, and_parts, and_cases, or_cases, or_parts, and_left, and_right, or_from, or_left, or_right, leb-true, leb-false, lt-leb}
use Rattle.yaml_spec.specs.declared.sights.Inner.{Inner}
use Rattle.yaml_spec.specs.declared.sights.Inner.TheVariants as inner
use Rattle.yaml_spec.specs.declared.sights.Turn.TheVariants as turn
use Rattle.yaml_spec.specs.Line.{begins, has_pair, ends_in, hex_digit, digits, escape_code, escape_digits, is_surrogate, IsTail, Escape, InDouble, InSingle, Quoted}
use Rattle.yaml_spec.specs.Line as l
use Rattle.yaml_spec.specs.Reading as r
use Rattle.yaml_spec.specs.Reading.{Taken}
use Rattle.yaml_spec.proofs.Cases.{if_some, chosen, some_pair}

-- ---- tails

pub tail_true : {t : List ℕ} → IsTail t → r.is_tail t ≡ true
tail_true l.nothing = refl
tail_true (l.space q) = or_left _ _ (tail_true q)
tail_true (l.comment {t}) = or_right (r.is_tail (35 ∷ t)) _ refl

pub begins_is : (a : ℕ) (s : List ℕ) → begins a s ≡ true → (w : List ℕ) × (s ≡ a ∷ w)
begins_is a [] e = absurd cc
begins_is a (c ∷ s) e = (s, ap (λ (z : ℕ). z ∷ s) (eqb-true c a e))

pub tail_sound : (t : List ℕ) → r.is_tail t ≡ true → IsTail t
tail_sound [] e = l.nothing
tail_sound (c ∷ s) e =
    let both = and_parts (eqb c 32) (r.is_tail s || begins 35 s) e in
    subst (λ (z : ℕ). IsTail (z ∷ s)) (sym (eqb-true c 32 both.0)) (elim (or_cases (r.is_tail s) (begins 35 s) both.1) [
      | inl p ↦ l.space (tail_sound s p)
      | inr p ↦ (let w = begins_is 35 s p in subst (λ (z : List ℕ). IsTail (32 ∷ z)) (sym w.1) l.comment)
    ])

pub lean_tail : (s : List ℕ) → (s ≡ r.lean s ++ r.tail s) × IsTail (r.tail s)
lean_tail [] = (refl, l.nothing)
lean_tail (c ∷ s) = go (r.is_tail (c ∷ s)) refl (lean_tail s)
  where
    go : (b : Bool) → r.is_tail (c ∷ s) ≡ b → (s ≡ r.lean s ++ r.tail s) × IsTail (r.tail s) → (c ∷ s ≡ cond b [] (c ∷ r.lean s) ++ cond b (c ∷ s) (r.tail s)) × IsTail (cond b (c ∷ s) (r.tail s))
    go true is inner = (refl, tail_sound (c ∷ s) is)
    go false is inner = (ap (λ (z : List ℕ). c ∷ z) inner.0, inner.1)

not_tail : (c : ℕ) (p t : List ℕ) → has_pair 32 35 (c ∷ p) ≡ false → ends_in 32 (c ∷ p) ≡ false → r.is_tail (c ∷ p ++ t) ≡ false
not_tail c [] t pairs ends = and_left _ _ ends
not_tail c (d ∷ p) t pairs ends =
    let parts = or_parts (eqb c 32 && eqb d 35) (has_pair 32 35 (d ∷ p)) pairs in
    elim (and_cases (eqb c 32) (eqb d 35) parts.0) [
      | inl none ↦ and_left _ _ none
      | inr none ↦ and_right (eqb c 32) _ (or_from _ _ (not_tail d p t parts.1 ends) none)
    ]

-- what stands before a tail
module _ (t : List ℕ) (q : IsTail t) where
  lean_none : r.lean t ≡ []
  lean_none = go t (tail_true q)
    where
      go : (s : List ℕ) → r.is_tail s ≡ true → r.lean s ≡ []
      go [] is = refl
      go (c ∷ s) is = rw is refl

  tail_all : r.tail t ≡ t
  tail_all = go t (tail_true q)
    where
      go : (s : List ℕ) → r.is_tail s ≡ true → r.tail s ≡ s
      go [] is = refl
      go (c ∷ s) is = rw is refl

  pub lean_again : (p : List ℕ) → has_pair 32 35 p ≡ false → ends_in 32 p ≡ false → (r.lean (p ++ t) ≡ p) × (r.tail (p ++ t) ≡ t)
  lean_again [] pairs ends = (lean_none, tail_all)
  lean_again (c ∷ []) pairs ends = let none = not_tail c [] t pairs ends in (rw (none, lean_none) refl, rw none tail_all)
  lean_again (c ∷ d ∷ p) pairs ends =
      let none = not_tail c (d ∷ p) t pairs ends in
      let inner = lean_again (d ∷ p) (or_parts (eqb c 32 && eqb d 35) _ pairs).1 ends in
      (rw none (ap (λ (z : List ℕ). c ∷ z) inner.0), rw none inner.1)

-- ---- escapes

pub escape_digits_is : (c n : ℕ) → escape_digits c ≡ Some n → ((c ≡ 120) × (n ≡ 2)) ⊎ ((c ≡ 117) × (n ≡ 4))
escape_digits_is c n e = elim (chosen (eqb c 120) _ _ e) [
  | inl p ↦ inl (eqb-true c 120 p.0, (let e' = p.1 in cc))
  | inr p ↦ (let there = if_some (eqb c 117) (Some 4) p.1 in inr (eqb-true c 117 there.0, (let e' = there.1 in cc)))
]

pub hex_below : (c d : ℕ) → hex_digit c ≡ Some d → d < 16
hex_below c d e = elim (chosen (leb 48 c && leb c 57) _ _ e) [
  | inl p ↦ (let both = and_parts (leb 48 c) (leb c 57) p.0 in let same : c - 48 ≡ d = (let e' = p.1 in cc) in omega (arith, leb-true _ _ both.1, same))
  | inr p ↦ elim (chosen (leb 65 c && leb c 70) _ _ p.1) [
    | inl q ↦ (let both = and_parts (leb 65 c) (leb c 70) q.0 in let same : c - 55 ≡ d = (let e' = q.1 in cc) in omega (arith, leb-true _ _ both.1, leb-true _ _ both.0, same))
    | inr q ↦ (let there = if_some (leb 97 c && leb c 102) _ q.1 in let both = and_parts (leb 97 c) (leb c 102) there.0 in let same : c - 87 ≡ d = (let e' = there.1 in cc) in omega (arith, leb-true _ _ both.1, leb-true _ _ both.0, same))
  ]
]

pub then_some : {A B : Type 0} (f : A → Option B) (o : Option A) (y : B) → option_and_then f o ≡ Some y → (x : A) × (o ≡ Some x) × (f x ≡ Some y)
then_some f None y e = absurd cc
then_some f (Some x) y e = (x, refl, e)

-- ---- what is read is spelled so

pub prefixed_some : (w : List ℕ) (o : Taken) (x u : List ℕ) → r.prefixed w o ≡ Some (x, u) → (y : List ℕ) × (o ≡ Some (y, u)) × (w ++ y ≡ x)
prefixed_some w None x u e = absurd cc
prefixed_some w (Some p) x u e =
    let both : (w ++ p.0 ≡ x) × (p.1 ≡ u) = some_pair e in
    (p.0, ap (λ (z : List ℕ). Some (p.0, z)) both.1, both.0)

-- so many more digits, behind digits of the value n, and the text behind them
pub record Hex (left n : ℕ) (i x : List ℕ) : Type 0 where
  pub digits_here : List ℕ
  pub value : ℕ
  pub rest : List ℕ
  pub text : List ℕ
  pub parts : i ≡ digits_here ++ rest
  pub count : length digits_here ≡ max left 1
  pub writes : digits hex_digit 16 n digits_here ≡ Some value
  pub proper : is_surrogate value ≡ false
  pub behind : InDouble rest text
  pub gives : encode_utf8 value ++ text ≡ x

-- from a place between quotes, up to the closing one
abbrev pub Sound : Inner → List ℕ → List ℕ → List ℕ → Type 0
Sound inner.Double s x u = (i : List ℕ) × (s ≡ i ++ 34 ∷ u) × InDouble i x
Sound inner.Escaped s x u = (i : List ℕ) × (s ≡ i ++ 34 ∷ u) × InDouble (92 ∷ i) x
Sound (inner.Digits left n) s x u = (i : List ℕ) × (s ≡ i ++ 34 ∷ u) × Hex left n i x
Sound inner.Single s x u = (i : List ℕ) × (s ≡ i ++ 39 ∷ u) × InSingle i x
Sound inner.Quote s x u = (i : List ℕ) × (39 ∷ s ≡ i ++ 39 ∷ u) × InSingle i x

abbrev Rest : List ℕ → Type 0
Rest s = (at : Inner) (x u : List ℕ) → r.quoted at s ≡ Some (x, u) → Sound at s x u

double_turn : (c : ℕ) (s x u : List ℕ) → Rest s → r.turned (r.turn_at inner.Double c) c s (λ next. r.quoted next s) ≡ Some (x, u) → Sound inner.Double (c ∷ s) x u
double_turn c s x u again e = go (eqb c 34) (eqb c 92) refl refl e
  where
    go : (a b : Bool) → eqb c 34 ≡ a → eqb c 92 ≡ b → r.turned (cond a turn.Last (cond b (turn.Goes inner.Escaped) (turn.Byte inner.Double))) c s (λ next. r.quoted next s) ≡ Some (x, u) → Sound inner.Double (c ∷ s) x u
    go true b is other e =
        let equal : ([] ≡ x) × (s ≡ u) = some_pair e in
        ([], ap (λ (z : ℕ). z ∷ s) (eqb-true c 34 is) ∙ ap (λ (z : List ℕ). 34 ∷ z) equal.1, subst (λ (z : List ℕ). InDouble [] z) equal.0 l.none)
    go false true is other e =
        let inside = again inner.Escaped x u e in
        (92 ∷ inside.0, ap (λ (z : ℕ). z ∷ s) (eqb-true c 92 other) ∙ ap (λ (z : List ℕ). 92 ∷ z) inside.1, inside.2)
    go false false is other e =
        let first = prefixed_some (c ∷ []) (r.quoted inner.Double s) x u e in
        let inside = again inner.Double first.0 u first.1 in
        (c ∷ inside.0, ap (λ (z : List ℕ). c ∷ z) inside.1, subst (λ (z : List ℕ). InDouble (c ∷ inside.0) z) first.2 (l.itself is other inside.2))

escaped_turn : (c : ℕ) (s x u : List ℕ) → Rest s → r.turned (r.turn_at inner.Escaped c) c s (λ next. r.quoted next s) ≡ Some (x, u) → Sound inner.Escaped (c ∷ s) x u
escaped_turn c s x u again e = go (escape_code c) (escape_digits c) refl refl e
  where
    go : (a b : Option ℕ) → escape_code c ≡ a → escape_digits c ≡ b → r.turned (r.escaped c a b) c s (λ next. r.quoted next s) ≡ Some (x, u) → Sound inner.Escaped (c ∷ s) x u
    go None None is other e = absurd cc
    go (Some v) b is other e =
        let first = prefixed_some (encode_utf8 v) (r.quoted inner.Double s) x u e in
        let inside = again inner.Double first.0 u first.1 in
        (c ∷ inside.0, ap (λ (z : List ℕ). c ∷ z) inside.1, subst (λ (z : List ℕ). InDouble (92 ∷ c ∷ inside.0) z) first.2 (l.escape (l.sign is) inside.2))
    go None (Some n) is other e =
        let inside = again (inner.Digits n 0) x u e in
        let hex = inside.2 in
        let count : length hex.digits_here ≡ n = elim (escape_digits_is c n other) [ inl p ↦ omega (arith, hex.count, p.1) | inr p ↦ omega (arith, hex.count, p.1) ] in
        let text : 92 ∷ ((c ∷ hex.digits_here) ++ hex.rest) ≡ 92 ∷ c ∷ inside.0 = ap (λ (z : List ℕ). 92 ∷ c ∷ z) (sym hex.parts) in
        (c ∷ inside.0, ap (λ (z : List ℕ). c ∷ z) inside.1, subst (λ (z : List ℕ). InDouble z x) text (subst (λ (z : List ℕ). InDouble (92 ∷ ((c ∷ hex.digits_here) ++ hex.rest)) z) hex.gives (l.escape (l.hex other count hex.writes hex.proper) hex.behind)))

digits_turn : (left n c : ℕ) (s x u : List ℕ) → Rest s → r.turned (r.turn_at (inner.Digits left n) c) c s (λ next. r.quoted next s) ≡ Some (x, u) → Sound (inner.Digits left n) (c ∷ s) x u
digits_turn left n c s x u again e = go (hex_digit c) refl e
  where
    last : (d v : ℕ) → hex_digit c ≡ Some d → v ≡ n * 16 + d → left ≤ 1 → r.turned (r.last_digit v) c s (λ next. r.quoted next s) ≡ Some (x, u) → Sound (inner.Digits left n) (c ∷ s) x u
    last d v is value small e = more (is_surrogate v) refl e
      where
        more : (b : Bool) → is_surrogate v ≡ b → r.turned (cond b turn.Fault (turn.Gives v)) c s (λ next. r.quoted next s) ≡ Some (x, u) → Sound (inner.Digits left n) (c ∷ s) x u
        more true proper e = absurd cc
        more false proper e =
            let first = prefixed_some (encode_utf8 v) (r.quoted inner.Double s) x u e in
            let inside = again inner.Double first.0 u first.1 in (
              c ∷ inside.0,
              ap (λ (z : List ℕ). c ∷ z) inside.1,
              record {
                digits_here = c ∷ [];
                value = v;
                rest = inside.0;
                text = first.0;
                parts = refl;
                count = omega arith;
                writes = rw is (ap (λ (z : ℕ). Some z) (sym value));
                proper = proper;
                behind = inside.2;
                gives = first.2;
              },
            )

    deeper : (d : ℕ) → hex_digit c ≡ Some d → 1 < left → r.quoted (inner.Digits (left - 1) (n * 16 + d)) s ≡ Some (x, u) → Sound (inner.Digits left n) (c ∷ s) x u
    deeper d is large e =
        let inside = again (inner.Digits (left - 1) (n * 16 + d)) x u e in
        let hex = inside.2 in (
          c ∷ inside.0,
          ap (λ (z : List ℕ). c ∷ z) inside.1,
          record {
            digits_here = c ∷ hex.digits_here;
            value = hex.value;
            rest = hex.rest;
            text = hex.text;
            parts = ap (λ (z : List ℕ). c ∷ z) hex.parts;
            count = omega (arith, hex.count);
            writes = rw is hex.writes;
            proper = hex.proper;
            behind = hex.behind;
            gives = hex.gives;
          },
        )

    some : (d : ℕ) → hex_digit c ≡ Some d → (a b : Bool) → leb left 1 ≡ b → r.turned (cond a (cond b (r.last_digit (n * 16 + d)) (turn.Goes (inner.Digits (left - 1) (n * 16 + d)))) turn.Fault) c s (λ next. r.quoted next s) ≡ Some (x, u) → Sound (inner.Digits left n) (c ∷ s) x u
    some d is false b small e = absurd cc
    some d is true true small e = last d (n * 16 + d) is refl (leb-true left 1 small) e
    some d is true false small e = deeper d is (leb-false left 1 small) e

    go : (o : Option ℕ) → hex_digit c ≡ o → r.turned (r.digit_turn left n o) c s (λ next. r.quoted next s) ≡ Some (x, u) → Sound (inner.Digits left n) (c ∷ s) x u
    go None is e = absurd cc
    go (Some d) is e = some d is (ltb n 4096) (leb left 1) refl e

single_turn : (c : ℕ) (s x u : List ℕ) → Rest s → r.turned (r.turn_at inner.Single c) c s (λ next. r.quoted next s) ≡ Some (x, u) → Sound inner.Single (c ∷ s) x u
single_turn c s x u again e = go (eqb c 39) refl e
  where
    go : (a : Bool) → eqb c 39 ≡ a → r.turned (cond a (turn.Goes inner.Quote) (turn.Byte inner.Single)) c s (λ next. r.quoted next s) ≡ Some (x, u) → Sound inner.Single (c ∷ s) x u
    go true is e =
        let inside = again inner.Quote x u e in
        (inside.0, ap (λ (z : ℕ). z ∷ s) (eqb-true c 39 is) ∙ inside.1, inside.2)
    go false is e =
        let first = prefixed_some (c ∷ []) (r.quoted inner.Single s) x u e in
        let inside = again inner.Single first.0 u first.1 in
        (c ∷ inside.0, ap (λ (z : List ℕ). c ∷ z) inside.1, subst (λ (z : List ℕ). InSingle (c ∷ inside.0) z) first.2 (l.itself is inside.2))

quote_turn : (c : ℕ) (s x u : List ℕ) → Rest s → r.turned (r.turn_at inner.Quote c) c s (λ next. r.quoted next s) ≡ Some (x, u) → Sound inner.Quote (c ∷ s) x u
quote_turn c s x u again e = go (eqb c 39) refl e
  where
    go : (a : Bool) → eqb c 39 ≡ a → r.turned (cond a (turn.Byte inner.Single) turn.Past) c s (λ next. r.quoted next s) ≡ Some (x, u) → Sound inner.Quote (c ∷ s) x u
    go true is e =
        let first = prefixed_some (c ∷ []) (r.quoted inner.Single s) x u e in
        let inside = again inner.Single first.0 u first.1 in
        let same = eqb-true c 39 is in
        (39 ∷ 39 ∷ inside.0, ap (λ (z : ℕ). 39 ∷ z ∷ s) same ∙ ap (λ (z : List ℕ). 39 ∷ 39 ∷ z) inside.1, subst (λ (z : List ℕ). InSingle (39 ∷ 39 ∷ inside.0) z) (ap (λ (z : ℕ). z ∷ first.0) (sym same) ∙ first.2) (l.quote inside.2))
    go false is e =
        let equal : ([] ≡ x) × (c ∷ s ≡ u) = some_pair e in
        ([], ap (λ (z : List ℕ). 39 ∷ z) equal.1, subst (λ (z : List ℕ). InSingle [] z) equal.0 l.none)

stops_sound : (at : Inner) (x u : List ℕ) → r.stops at ≡ Some (x, u) → Sound at [] x u
stops_sound inner.Double x u e = absurd cc
stops_sound inner.Escaped x u e = absurd cc
stops_sound (inner.Digits left n) x u e = absurd cc
stops_sound inner.Single x u e = absurd cc
stops_sound inner.Quote x u e =
    let equal : ([] ≡ x) × ([] ≡ u) = some_pair e in
    ([], ap (λ (z : List ℕ). 39 ∷ z) equal.1, subst (λ (z : List ℕ). InSingle [] z) equal.0 l.none)

pub quoted_sound : (s : List ℕ) → Rest s
quoted_sound [] at x u e = stops_sound at x u e
quoted_sound (c ∷ s) inner.Double x u e = double_turn c s x u (quoted_sound s) e
quoted_sound (c ∷ s) inner.Escaped x u e = escaped_turn c s x u (quoted_sound s) e
quoted_sound (c ∷ s) (inner.Digits left n) x u e = digits_turn left n c s x u (quoted_sound s) e
quoted_sound (c ∷ s) inner.Single x u e = single_turn c s x u (quoted_sound s) e
quoted_sound (c ∷ s) inner.Quote x u e = quote_turn c s x u (quoted_sound s) e

-- ---- what is spelled is read so

-- what the value so far is below, before so many more digits
abbrev cap : ℕ → ℕ
cap zero = 65536
cap (suc zero) = 4096
cap (suc (suc zero)) = 256
cap (suc (suc (suc zero))) = 16
cap (suc (suc (suc (suc zero)))) = 1
cap (suc (suc (suc (suc (suc k))))) = 0

cap_step : (k n d : ℕ) → n < cap (suc k) → d < 16 → n * 16 + d < cap k
cap_step zero n d lt small = omega arith
cap_step (suc zero) n d lt small = omega arith
cap_step (suc (suc zero)) n d lt small = omega arith
cap_step (suc (suc (suc zero))) n d lt small = omega arith
cap_step (suc (suc (suc (suc k)))) n d lt small = absurd (omega arith)

cap_small : (k n : ℕ) → n < cap (suc k) → n < 4096
cap_small zero n lt = lt
cap_small (suc zero) n lt = omega arith
cap_small (suc (suc zero)) n lt = omega arith
cap_small (suc (suc (suc zero))) n lt = omega arith
cap_small (suc (suc (suc (suc k)))) n lt = absurd (omega arith)

digits_again : (c : ℕ) (w : List ℕ) (n v : ℕ) (u : List ℕ) → n < cap (suc (length w)) → digits hex_digit 16 n (c ∷ w) ≡ Some v → is_surrogate v ≡ false → r.quoted (inner.Digits (suc (length w)) n) ((c ∷ w) ++ u) ≡ r.prefixed (encode_utf8 v) (r.quoted inner.Double u)
digits_again c [] n v u lt writes proper =
    let first = then_some (λ (d : ℕ). digits hex_digit 16 (n * 16 + d) []) (hex_digit c) v writes in
    let same : n * 16 + first.0 ≡ v = (let e = first.2 in cc) in
    rw (first.1, lt-ltb n 4096 (cap_small 0 n lt), same, proper) refl
digits_again c (d ∷ w) n v u lt writes proper =
    let first = then_some (λ (x : ℕ). digits hex_digit 16 (n * 16 + x) (d ∷ w)) (hex_digit c) v writes in
    let one : suc (suc (length w)) - 1 ≡ suc (length w) = omega arith in
    rw (first.1, lt-ltb n 4096 (cap_small (suc (length w)) n lt), lt-leb (suc (suc (length w))) 1 (omega arith), one)
    (digits_again d w (n * 16 + first.0) v u (cap_step (suc (length w)) n first.0 lt (hex_below c first.0 first.1)) first.2 proper)

hex_again : (c n v : ℕ) (w u : List ℕ) → escape_digits c ≡ Some n → length w ≡ n → digits hex_digit 16 0 w ≡ Some v → is_surrogate v ≡ false → r.quoted inner.Escaped (c ∷ (w ++ u)) ≡ r.prefixed (encode_utf8 v) (r.quoted inner.Double u)
hex_again c n v w u is count writes proper = elim (escape_digits_is c n is) [
  | inl p ↦ subst (λ (z : ℕ). r.quoted inner.Escaped (z ∷ (w ++ u)) ≡ r.prefixed (encode_utf8 v) (r.quoted inner.Double u)) (sym p.0) (go w 2 (omega arith) (omega arith) (omega arith) writes)
  | inr p ↦ subst (λ (z : ℕ). r.quoted inner.Escaped (z ∷ (w ++ u)) ≡ r.prefixed (encode_utf8 v) (r.quoted inner.Double u)) (sym p.0) (go w 4 (omega arith) (omega arith) (omega arith) writes)
]
  where
    go : (w : List ℕ) (k : ℕ) → length w ≡ k → 0 < k → k < 5 → digits hex_digit 16 0 w ≡ Some v → r.quoted (inner.Digits k 0) (w ++ u) ≡ r.prefixed (encode_utf8 v) (r.quoted inner.Double u)
    go [] k count some few writes = absurd (omega arith)
    go (c ∷ w) k count some few writes = subst (λ (z : ℕ). r.quoted (inner.Digits z 0) ((c ∷ w) ++ u) ≡ r.prefixed (encode_utf8 v) (r.quoted inner.Double u)) count (digits_again c w 0 v u (room (length w) (omega arith)) writes proper)
      where
        room : (k : ℕ) → k < 4 → 0 < cap (suc k)
        room zero lt = omega arith
        room (suc zero) lt = omega arith
        room (suc (suc zero)) lt = omega arith
        room (suc (suc (suc zero))) lt = omega arith
        room (suc (suc (suc (suc k)))) lt = absurd (omega arith)

pub double_again : {i x : List ℕ} → InDouble i x → (u : List ℕ) → r.quoted inner.Double (i ++ 34 ∷ u) ≡ Some (x, u)
double_again l.none u = refl
double_again (l.itself {c} is other q) u = rw (is, other) (ap (r.prefixed (c ∷ [])) (double_again q u))
double_again (l.escape {s = s} (l.sign {c} {x} is) q) u = rw is (ap (r.prefixed (encode_utf8 x)) (double_again q u))
double_again (l.escape {s = t} (l.hex {c} {n} {x} {s} is count writes proper) q) u =
    ap (λ (z : List ℕ). r.quoted inner.Escaped (c ∷ z)) (append_assoc s t (34 ∷ u)) ∙ (hex_again c n x s (t ++ 34 ∷ u) is count writes proper ∙ ap (r.prefixed (encode_utf8 x)) (double_again q u))

pub single_again : {i x : List ℕ} → InSingle i x → (u : List ℕ) → begins 39 u ≡ false → r.quoted inner.Single (i ++ 39 ∷ u) ≡ Some (x, u)
single_again l.none [] out = refl
single_again l.none (c ∷ u) out = rw out refl
single_again (l.quote q) u out = ap (r.prefixed (39 ∷ [])) (single_again q u out)
single_again (l.itself {c} is q) u out = rw is (ap (r.prefixed (c ∷ [])) (single_again q u out))

-- ---- a quoted text at the front

-- a text begins with a quoted one or with no quote
pub data Front (s : List ℕ) : Option Inner → Type 0 where
  text : {at : Inner} → ((x u : List ℕ) → r.quoted at (drop 1 s) ≡ Some (x, u) → (p : List ℕ) × (s ≡ p ++ u) × Quoted p x) → Front s (Some at)
  other : begins 34 s ≡ false → begins 39 s ≡ false → Front s None

pub regroup : (k u : List ℕ) (c : ℕ) → k ++ c ∷ u ≡ (k ++ c ∷ []) ++ u
regroup k u c = sym (append_assoc k (c ∷ []) u)

pub front_of : (s : List ℕ) → Front s (r.quote_of s)
front_of [] = other refl refl
front_of (c ∷ s) = go (eqb c 34) (eqb c 39) refl refl
  where
    go : (a b : Bool) → eqb c 34 ≡ a → eqb c 39 ≡ b → Front (c ∷ s) (cond a (Some inner.Double) (cond b (Some inner.Single) None))
    go true b is next = text (λ x u e. let inside = quoted_sound s inner.Double x u e in (34 ∷ inside.0 ++ 34 ∷ [], ap (λ (z : ℕ). z ∷ s) (eqb-true c 34 is) ∙ ap (λ (z : List ℕ). 34 ∷ z) (inside.1 ∙ regroup inside.0 u 34), l.double inside.2))
    go false true is next = text (λ x u e. let inside = quoted_sound s inner.Single x u e in (39 ∷ inside.0 ++ 39 ∷ [], ap (λ (z : ℕ). z ∷ s) (eqb-true c 39 next) ∙ ap (λ (z : List ℕ). 39 ∷ z) (inside.1 ∙ regroup inside.0 u 39), l.single inside.2))
    go false false is next = other is next

double_regroup : (s u : List ℕ) (q : ℕ) → (q ∷ s ++ q ∷ []) ++ u ≡ q ∷ (s ++ q ∷ u)
double_regroup s u q = simp append_assoc

pub quoted_or_again : {A : Type 0} (f : Taken → A) (g : List ℕ → A) {p x : List ℕ} → Quoted p x → (u : List ℕ) → begins 39 u ≡ false → r.quoted_or f g (p ++ u) ≡ f (Some (x, u))
quoted_or_again f g (l.double {s} q) u out = ap (r.quoted_or f g) (double_regroup s u 34) ∙ ap f (double_again q u)
quoted_or_again f g (l.single {s} q) u out = ap (r.quoted_or f g) (double_regroup s u 39) ∙ ap f (single_again q u out)

pub quoted_or_other : {A : Type 0} (f : Taken → A) (g : List ℕ → A) (c : ℕ) (s : List ℕ) → eqb c 34 ≡ false → eqb c 39 ≡ false → r.quoted_or f g (c ∷ s) ≡ g (c ∷ s)
quoted_or_other f g c s no_double no_single = rw (no_double, no_single) refl
