-- Keys and marks, by their places.
use Rattle.std.proofs.Common.{◌≡◌, ℕ, zero, suc, ◌+◌, ◌-◌, ◌*◌, ◌<◌, ◌≤◌, Bool, true, false, cond, eqb, List, [], ◌∷◌, length, take, drop, get_or, Option, Some, None, option_and_then, refl, sym, ap, subst, ◌∙◌, arith, mul-suc, IsUtf8}
use Rattle.std.proofs.lemmas.List.{at_drop_more, length-drop}
use Rattle.std.proofs.lemmas.Bool.{eqb-true, lt-leb, and_parts, false≢true}
use Rattle.std.proofs.lemmas.Str.{IsCharBoundary-start, IsCharBoundary-after_ascii, IsCharBoundary-from_rest, IsUtf8-drop}
use Rattle.std.specs.Str.{IsCharBoundary}
use Rattle.yaml_spec.specs.declared.state.Group.{Group}
use Rattle.yaml_spec.specs.declared.state.Group.TheVariants.{Listed, Mapped}
use Rattle.yaml_spec.specs.declared.sights.Sight.{Sight}
use Rattle.yaml_spec.specs.declared.sights.Sight.TheVariants as sight
use Rattle.yaml_spec.specs.Line.{ends_in, parts_here, at_most, digits}
use Rattle.yaml_spec.specs.Reading as r
use Rattle.yaml_spec.specs.Reading.{Taken}
use Rattle.udb_yaml.specs.Places.{ColonAt, is_dash, digit_in, base_of, key_in, plain_key_in, is_plain_key, CanCut, Shows}

pub ends_last : (a : ℕ) (s : List ℕ) → 0 < length s → ends_in a s ≡ eqb (get_or s (length s - 1) 0) a
ends_last a [] lt = absurd (omega arith)
ends_last a (c ∷ []) lt = refl
ends_last a (c ∷ d ∷ s) lt = ends_last a (d ∷ s) (omega arith) ∙ ap (λ (n : ℕ). eqb (get_or (c ∷ d ∷ s) n 0) a) (place (length s))
  where
    place : (n : ℕ) → suc (suc n - 1) ≡ suc (suc n) - 1
    place n = omega arith

-- ---- numbers past a limit

pub over : (one : ℕ → Option ℕ) (base limit n : ℕ) (s : List ℕ) → 0 < base → limit < n → at_most limit (digits one base n s) ≡ None
over one base limit n [] some lt = rw (lt-leb n limit lt) refl
over one base limit n (c ∷ s) some lt = go (one c) (λ d. over one base limit (n * base + d) s some (more base some d))
  where
    more : (base : ℕ) → 0 < base → (d : ℕ) → limit < n * base + d
    more zero some d = absurd (omega arith)
    more (suc b) some d = let one : n * suc b ≡ n * b + n = mul-suc n b in omega arith

    go : (o : Option ℕ) → ((d : ℕ) → at_most limit (digits one base (n * base + d) s) ≡ None) → at_most limit (option_and_then (λ d. digits one base (n * base + d) s) o) ≡ None
    go None again = refl
    go (Some d) again = again d

base_some : (hex : Bool) → 0 < base_of hex
base_some true = omega arith
base_some false = omega arith

-- the loop over digits stops past the limit
pub digits_over : (hex : Bool) (limit v d at : ℕ) (text : List ℕ) → at < length text → Some d ≡ digit_in hex (get_or text at 0) → limit < v * base_of hex + d → at_most limit (digits (digit_in hex) (base_of hex) v (drop at text)) ≡ at_most limit (digits (digit_in hex) (base_of hex) 0 text) → None ≡ at_most limit (digits (digit_in hex) (base_of hex) 0 text)
digits_over hex limit v d at text lt is past so_far =
    let step : at_most limit (digits (digit_in hex) (base_of hex) v (drop at text)) ≡ at_most limit (digits (digit_in hex) (base_of hex) (v * base_of hex + d) (drop (at + 1) text)) =
    at_drop_more (λ (z : List ℕ). at_most limit (digits (digit_in hex) (base_of hex) v z)) text at 0 lt ∙ ap (λ (o : Option ℕ). at_most limit (option_and_then (λ d. digits (digit_in hex) (base_of hex) (v * base_of hex + d) (drop (at + 1) text)) o)) (sym is) in
    sym (over (digit_in hex) (base_of hex) limit (v * base_of hex + d) (drop (at + 1) text) (base_some hex) past) ∙ (sym step ∙ so_far)

-- ---- where a text may be cut

pub front_space : (s : List ℕ) (m : ℕ) → r.front s ≡ suc m → (m < length s) × (get_or s m 0 ≡ 32)
front_space [] m e = absurd (omega arith)
front_space (c ∷ s) m e = go (eqb c 32) refl e (λ k e. front_space s k e) m
  where
    go : (b : Bool) → eqb c 32 ≡ b → cond b (suc (r.front s)) 0 ≡ suc m → ((k : ℕ) → r.front s ≡ suc k → (k < length s) × (get_or s k 0 ≡ 32)) → (n : ℕ) → (m < suc (length s)) × (get_or (c ∷ s) m 0 ≡ 32)
    go false is e again n = absurd (omega arith)
    go true is e again n = more m (omega arith)
      where
        more : (m : ℕ) → r.front s ≡ m → (m < suc (length s)) × (get_or (c ∷ s) m 0 ≡ 32)
        more zero e = (omega arith, eqb-true c 32 is)
        more (suc k) e = let inner = again k e in (omega (arith, inner.0), inner.1)

pub front_within : (s : List ℕ) → r.front s ≤ length s
front_within [] = omega arith
front_within (c ∷ s) = go (eqb c 32) (front_within s)
  where
    go : (b : Bool) → r.front s ≤ length s → cond b (suc (r.front s)) 0 ≤ suc (length s)
    go true le = omega arith
    go false le = omega arith

-- behind the spaces in front
pub front_cut : (s : List ℕ) → IsUtf8 s → IsCharBoundary s (r.front s)
front_cut s utf8 = go (r.front s) refl
  where
    go : (n : ℕ) → r.front s ≡ n → IsCharBoundary s n
    go zero e = IsCharBoundary-start s utf8
    go (suc m) e =
        let there = front_space s m e in
        let one : m + 1 ≡ suc m = omega arith in
        subst (IsCharBoundary s) one (IsCharBoundary-after_ascii s m utf8 there.0 (let is = there.1 in omega arith))

pub rest_cut : (s : List ℕ) (n : ℕ) → IsUtf8 s → n ≤ length s → IsCharBoundary s n → (n + r.front (drop n s) ≤ length s) × IsCharBoundary s (n + r.front (drop n s))
rest_cut s n utf8 le cut =
    let rest = IsUtf8-drop s n utf8 cut in
    let within = front_within (drop n s) in
    (omega (arith, length-drop n s), IsCharBoundary-from_rest s n (r.front (drop n s)) le (front_cut (drop n s) rest))

pub behind_cut : (s : List ℕ) (k : Group) (key : List ℕ) (n : ℕ) → IsUtf8 s → n ≤ length s → IsCharBoundary s n → CanCut s (r.behind k key n (drop n s))
behind_cut s k key n utf8 le cut = go (r.is_tail (drop n s))
  where
    go : (b : Bool) → CanCut s (cond b (sight.Bare k key) (sight.Before k key (n + r.front (drop n s))))
    go true = tt
    go false = rest_cut s n utf8 le cut

-- ---- what a line shows

sees_dash : (s : List ℕ) → is_dash s ≡ true → r.behind Listed [] 1 (drop 1 s) ≡ r.sees s
unfolding r.sees
sees_dash [] is = absurd (false≢true is)
sees_dash (c ∷ s) is = rw is refl

no_key : r.key_of [] ≡ None
unfolding r.key_of
no_key = refl

sees_other : (s : List ℕ) → is_dash s ≡ false → r.sees_key (length s) (r.key_of s) ≡ r.sees s
unfolding r.sees
sees_other [] is = rw no_key refl
sees_other (c ∷ s) is = rw is refl

key_in_line : (s : List ℕ) → r.key_of s ≡ key_in false s
unfolding r.key_of
key_in_line s = refl

dash_first : (s : List ℕ) → is_dash s ≡ true → (0 < length s) × (get_or s 0 0 ≡ 45)
dash_first [] is = absurd (false≢true is)
dash_first (c ∷ s) is = (omega arith, eqb-true c 45 (and_parts (eqb c 45) (parts_here s) is).0)

pub shows_dash : (s b : List ℕ) (x : Sight) (key : List ℕ) → b ≡ s → IsUtf8 s → is_dash b ≡ true → key ≡ [] → x ≡ r.behind Listed key 1 (drop 1 b) → Shows s (r.sees s) x
shows_dash s b x key bytes utf8 is none e =
    let is' : is_dash s ≡ true = ap is_dash (sym bytes) ∙ is in
    let first = dash_first s is' in
    let same : x ≡ r.behind Listed [] 1 (drop 1 s) = e ∙ (ap (λ (z : List ℕ). r.behind Listed z 1 (drop 1 b)) none ∙ ap (λ (z : List ℕ). r.behind Listed [] 1 (drop 1 z)) bytes) in
    let cut : IsCharBoundary s 1 = IsCharBoundary-after_ascii s 0 utf8 first.0 (let at = first.1 in omega arith) in
    (same ∙ sees_dash s is', subst (CanCut s) (sym same) (behind_cut s Listed [] 1 utf8 first.0 cut))

pub shows_other : (s b : List ℕ) → b ≡ s → is_dash b ≡ false → key_in false s ≡ None → Shows s (r.sees s) sight.Other
shows_other s b bytes is none = (sym (ap (r.sees_key (length s)) (key_in_line s ∙ none)) ∙ sees_other s (ap is_dash (sym bytes) ∙ is), tt)

pub shows_key : (s b : List ℕ) (x : Sight) (key : List ℕ) (n : ℕ) → b ≡ s → IsUtf8 s → is_dash b ≡ false → key_in false s ≡ Some (key, drop n s) → n ≤ length s → IsCharBoundary s n → x ≡ r.behind Mapped key n (drop n b) → Shows s (r.sees s) x
shows_key s b x key n bytes utf8 is found le cut e =
    let count : length s - length (drop n s) ≡ n = omega (arith, length-drop n s) in
    let e' : x ≡ r.behind Mapped key n (drop n s) = e ∙ ap (λ (z : List ℕ). r.behind Mapped key n (drop n z)) bytes in
    let same : r.sees_key (length s) (r.key_of s) ≡ x = ap (r.sees_key (length s)) (key_in_line s ∙ found) ∙ (ap (λ (z : ℕ). r.behind Mapped key z (drop n s)) count ∙ sym e') in
    (sym same ∙ sees_other s (ap is_dash (sym bytes) ∙ is), subst (CanCut s) (sym e') (behind_cut s Mapped key n utf8 le cut))

-- a key before a colon
pub plain_found : (flow : Bool) (s key : List ℕ) (n : ℕ) → r.to_colon s ≡ Some (take n s, drop (n + 1) s) → is_plain_key flow (take n s) ≡ true → key ≡ take n s → plain_key_in flow s ≡ Some (key, drop (n + 1) s)
plain_found true s key n colon is same = ap r.plain_flow_key colon ∙ rw is (ap (λ (z : List ℕ). Some (z, drop (n + 1) s)) (sym same))
plain_found false s key n colon is same = ap r.plain_key colon ∙ rw is (ap (λ (z : List ℕ). Some (z, drop (n + 1) s)) (sym same))

pub plain_refused : (flow : Bool) (s : List ℕ) (n : ℕ) → r.to_colon s ≡ Some (take n s, drop (n + 1) s) → is_plain_key flow (take n s) ≡ false → plain_key_in flow s ≡ None
plain_refused true s n colon is = ap r.plain_flow_key colon ∙ rw is refl
plain_refused false s n colon is = ap r.plain_key colon ∙ rw is refl

pub colon_text : (s b : List ℕ) (n : ℕ) → b ≡ s → ColonAt b (r.to_colon b) (Some n) → ColonAt s (r.to_colon s) (Some n)
colon_text s b n e q = subst (λ (z : List ℕ). ColonAt z (r.to_colon z) (Some n)) e q
