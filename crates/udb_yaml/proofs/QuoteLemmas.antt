-- Quoted texts are UTF-8, and the turns of the loop over one.
use Rattle.std.proofs.Common.{◌≡◌, ℕ, suc, ◌+◌, ◌*◌, ◌<◌, ◌≤◌, Bool, true, false, cond, ◌&&◌, eqb, ltb, leb, List, [], ◌∷◌, ◌++◌, length, drop, get_or, Option, Some, None, inl, inr, refl, sym, ap, subst, ◌∙◌, append_assoc, append-nil, arith, ne_eqb, lt-ltb, encode_utf8, IsUtf8}
use Rattle.std.proofs.lemmas.List.{at_drop_more, at_drop_all}
use Rattle.std.proofs.lemmas.Bool.{and_left, and_right, and_from, and_cases, le-leb, ltb-false, and_parts, leb-false, ltb-true, cases_lt, lt-leb}
use Rattle.std.proofs.lemmas.Str.{IsUtf8-append, IsUtf8-nil, IsUtf8-encode, encode_ascii, inside_one, IsCharBoundary-from_drop}
use Rattle.std.specs.Char.{IsScalar}
use lib.Utf8.{scalars, encodes, encode, scalar}
use Rattle.yaml_spec.specs.declared.sights.Inner.{Inner}
use Rattle.yaml_spec.specs.declared.sights.Inner.TheVariants as inner
use Rattle.yaml_spec.specs.declared.sights.Turn.{Turn}
use Rattle.yaml_spec.specs.declared.sights.Turn.TheVariants as turn
use Rattle.yaml_spec.specs.Line.{hex_digit, escape_code, escape_digits, is_surrogate}
use Rattle.yaml_spec.specs.Reading as r
use Rattle.yaml_spec.specs.Reading.{Taken}
use Rattle.yaml_spec.proofs.Cases.{if_some, chosen, some_pair}
use Rattle.yaml_spec.proofs.Quotes.{prefixed_some, hex_below}
use Rattle.udb_yaml.specs.Places.{Takes}

-- ---- what an escape gives is a character

small_scalar : (v : ℕ) → v < 65536 → is_surrogate v ≡ false → IsScalar v
small_scalar v lt out = go (ltb v 55296) refl
  where
    go : (b : Bool) → ltb v 55296 ≡ b → cond b true (leb 57344 v && ltb v 1114112) ≡ true
    go true is = refl
    go false is = elim (and_cases (leb 55296 v) (leb v 57343) out) [
      | inl low ↦ absurd (let one = leb-false 55296 v low in let two = ltb-false v 55296 is in omega arith)
      | inr high ↦ (let above = leb-false v 57343 high in and_from (leb 57344 v) (ltb v 1114112) (le-leb 57344 v (omega arith)) (lt-ltb v 1114112 (omega arith)))
    ]

sign_small : (c v : ℕ) → escape_code c ≡ Some v → v < 128
sign_small c v e = elim (chosen (eqb c 34) _ _ e) [
  | inl p ↦ (let same : 34 ≡ v = (let e' = p.1 in cc) in omega arith)
  | inr p ↦ elim (chosen (eqb c 92) _ _ p.1) [
    | inl p ↦ (let same : 92 ≡ v = (let e' = p.1 in cc) in omega arith)
    | inr p ↦ elim (chosen (eqb c 47) _ _ p.1) [
      | inl p ↦ (let same : 47 ≡ v = (let e' = p.1 in cc) in omega arith)
      | inr p ↦ elim (chosen (eqb c 110) _ _ p.1) [
        | inl p ↦ (let same : 10 ≡ v = (let e' = p.1 in cc) in omega arith)
        | inr p ↦ elim (chosen (eqb c 116) _ _ p.1) [
          | inl p ↦ (let same : 9 ≡ v = (let e' = p.1 in cc) in omega arith)
          | inr p ↦ elim (chosen (eqb c 114) _ _ p.1) [
            | inl p ↦ (let same : 13 ≡ v = (let e' = p.1 in cc) in omega arith)
            | inr p ↦ (let there = if_some (eqb c 48) (Some 0) p.1 in let same : 0 ≡ v = (let e' = there.1 in cc) in omega arith)
          ]
        ]
      ]
    ]
  ]
]

escaped_gives : (c v : ℕ) (o n : Option ℕ) → escape_code c ≡ o → r.escaped c o n ≡ turn.Gives v → IsScalar v
escaped_gives c v (Some x) n is e =
    let same : x ≡ v = cc in let small = sign_small c x is in
    small_scalar v (omega arith) (and_left (leb 55296 v) (leb v 57343) (lt-leb 55296 v (omega arith)))
escaped_gives c v None (Some n) is e = absurd cc
escaped_gives c v None None is e = absurd cc

digit_gives : (left n v : ℕ) (o : Option ℕ) → ((d : ℕ) → o ≡ Some d → d < 16) → r.digit_turn left n o ≡ turn.Gives v → IsScalar v
digit_gives left n v None small e = absurd cc
digit_gives left n v (Some d) small e = elim (chosen (ltb n 4096) _ _ e) [
  | inr p ↦ absurd (let e' = p.1 in cc)
  | inl p ↦ elim (chosen (leb left 1) _ _ p.1) [
    | inr q ↦ absurd (let e' = q.1 in cc)
    | inl q ↦ elim (chosen (is_surrogate (n * 16 + d)) _ _ q.1) [
      | inl w ↦ absurd (let e' = w.1 in cc)
      | inr w ↦ (let same : n * 16 + d ≡ v = (let e' = w.1 in cc) in let low = ltb-true n 4096 p.0 in let digit = small d refl in
          small_scalar v (omega arith) (ap is_surrogate (sym same) ∙ w.0))
    ]
  ]
]

gives_scalar : (at : Inner) (c v : ℕ) → r.turn_at at c ≡ turn.Gives v → IsScalar v
gives_scalar inner.Double c v e = elim (chosen (eqb c 34) _ _ e) [ inl p ↦ absurd (let e' = p.1 in cc) | inr p ↦ elim (chosen (eqb c 92) _ _ p.1) [ inl q ↦ absurd (let e' = q.1 in cc) | inr q ↦ absurd (let e' = q.1 in cc) ] ]
gives_scalar inner.Escaped c v e = escaped_gives c v (escape_code c) (escape_digits c) refl e
gives_scalar (inner.Digits left n) c v e = digit_gives left n v (hex_digit c) (λ d is. hex_below c d is) e
gives_scalar inner.Single c v e = elim (chosen (eqb c 39) _ _ e) [ inl p ↦ absurd (let e' = p.1 in cc) | inr p ↦ absurd (let e' = p.1 in cc) ]
gives_scalar inner.Quote c v e = elim (chosen (eqb c 39) _ _ e) [ inl p ↦ absurd (let e' = p.1 in cc) | inr p ↦ absurd (let e' = p.1 in cc) ]

-- ---- quoted texts are UTF-8

-- bytes that are no ASCII
abbrev AreHigh : List ℕ → Type 0
AreHigh [] = Unit {0}
AreHigh (c ∷ s) = (128 ≤ c) × AreHigh s

encode_high : (c : ℕ) → 128 ≤ c → AreHigh (encode c)
encode_high c le = go (encode c) (λ k lt. high k lt)
  where
    high : (k : ℕ) → k < length (encode c) → 128 ≤ get_or (encode c) k 0
    high k lt = elim (cases_lt (get_or (encode c) k 0) 128) [
      | inl low ↦ (let same = inside_one c [] (encode c) k (sym (append-nil (encode c))) lt low in absurd (omega arith))
      | inr fine ↦ fine
    ]

    go : (s : List ℕ) → ((k : ℕ) → k < length s → 128 ≤ get_or s k 0) → AreHigh s
    go [] h = tt
    go (c ∷ s) h = (h 0 (omega arith), go s (λ k lt. h (suc k) (omega arith)))

double_high : (s t : List ℕ) → AreHigh s → r.quoted inner.Double (s ++ t) ≡ r.prefixed s (r.quoted inner.Double t)
double_high [] t h = go (r.quoted inner.Double t)
  where
    go : (o : Taken) → o ≡ r.prefixed [] o
    go None = refl
    go (Some p) = refl
double_high (c ∷ s) t h = let high = h.0 in rw (ne_eqb c 34 (λ e. omega arith), ne_eqb c 92 (λ e. omega arith)) (ap (r.prefixed (c ∷ [])) (double_high s t h.1) ∙ go (r.quoted inner.Double t))
  where
    go : (o : Taken) → r.prefixed (c ∷ []) (r.prefixed s o) ≡ r.prefixed (c ∷ s) o
    go None = refl
    go (Some p) = refl

single_high : (s t : List ℕ) → AreHigh s → r.quoted inner.Single (s ++ t) ≡ r.prefixed s (r.quoted inner.Single t)
single_high [] t h = go (r.quoted inner.Single t)
  where
    go : (o : Taken) → o ≡ r.prefixed [] o
    go None = refl
    go (Some p) = refl
single_high (c ∷ s) t h = let high = h.0 in rw (ne_eqb c 39 (λ e. omega arith)) (ap (r.prefixed (c ∷ [])) (single_high s t h.1) ∙ go (r.quoted inner.Single t))
  where
    go : (o : Taken) → r.prefixed (c ∷ []) (r.prefixed s o) ≡ r.prefixed (c ∷ s) o
    go None = refl
    go (Some p) = refl

no_code : (c : ℕ) → 128 ≤ c → (escape_code c ≡ None) × (escape_digits c ≡ None)
no_code c high = (
  rw (ne_eqb c 34 (λ e. omega arith), ne_eqb c 92 (λ e. omega arith), ne_eqb c 47 (λ e. omega arith), ne_eqb c 110 (λ e. omega arith), ne_eqb c 116 (λ e. omega arith), ne_eqb c 114 (λ e. omega arith), ne_eqb c 48 (λ e. omega arith)) refl,
  rw (ne_eqb c 120 (λ e. omega arith), ne_eqb c 117 (λ e. omega arith)) refl,
)

no_digit : (c : ℕ) → 128 ≤ c → hex_digit c ≡ None
no_digit c high = rw (and_right (leb 48 c) (leb c 57) (lt-leb c 57 (omega arith)), and_right (leb 65 c) (leb c 70) (lt-leb c 70 (omega arith)), and_right (leb 97 c) (leb c 102) (lt-leb c 102 (omega arith))) refl

abbrev AreUtf8 : List ℕ → Type 0
AreUtf8 s = (at : Inner) (x u : List ℕ) → r.quoted at s ≡ Some (x, u) → IsUtf8 x × IsUtf8 u

high_utf8 : (c : ℕ) (t : List ℕ) → IsScalar c → 128 ≤ c → IsUtf8 t → AreUtf8 t → (b : List ℕ) → AreHigh b → b ≡ encode c → (at : Inner) (x u : List ℕ) → r.quoted at (b ++ t) ≡ Some (x, u) → IsUtf8 x × IsUtf8 u
high_utf8 c t is le utf8 again b h same inner.Double x u e =
    let first = prefixed_some b (r.quoted inner.Double t) x u (sym (double_high b t h) ∙ e) in
    let rest = again inner.Double first.0 u first.1 in
    (subst IsUtf8 first.2 (IsUtf8-append b first.0 (subst IsUtf8 (sym same) (IsUtf8-encode c is)) rest.0), rest.1)
high_utf8 c t is le utf8 again b h same inner.Single x u e =
    let first = prefixed_some b (r.quoted inner.Single t) x u (sym (single_high b t h) ∙ e) in
    let rest = again inner.Single first.0 u first.1 in
    (subst IsUtf8 first.2 (IsUtf8-append b first.0 (subst IsUtf8 (sym same) (IsUtf8-encode c is)) rest.0), rest.1)
high_utf8 c t is le utf8 again [] h same inner.Escaped x u e = again inner.Escaped x u e
high_utf8 c t is le utf8 again (d ∷ b) h same inner.Escaped x u e = let none = no_code d h.0 in absurd (fault (r.escaped d (escape_code d) (escape_digits d)) (ap (λ (o : Option ℕ). r.escaped d o (escape_digits d)) none.0 ∙ ap (r.escaped d None) none.1) e)
  where
    fault : (z : Turn) → z ≡ turn.Fault → r.turned z d (b ++ t) (λ next. r.quoted next (b ++ t)) ≡ Some (x, u) → ⊥
    fault turn.Fault is e = cc
    fault turn.Last is e = cc
    fault turn.Past is e = cc
    fault (turn.Goes next) is e = cc
    fault (turn.Byte next) is e = cc
    fault (turn.Gives v) is e = cc
high_utf8 c t is le utf8 again [] h same (inner.Digits left n) x u e = again (inner.Digits left n) x u e
high_utf8 c t is le utf8 again (d ∷ b) h same (inner.Digits left n) x u e = absurd (go (hex_digit d) (no_digit d h.0) e)
  where
    go : (o : Option ℕ) → o ≡ None → r.turned (r.digit_turn left n o) d (b ++ t) (λ next. r.quoted next (b ++ t)) ≡ Some (x, u) → ⊥
    go None is e = cc
    go (Some v) is e = cc
high_utf8 c t is le utf8 again [] h same inner.Quote x u e = again inner.Quote x u e
high_utf8 c t is le utf8 again (d ∷ b) h same inner.Quote x u e = go (eqb d 39) (ne_eqb d 39 (λ e. let high = h.0 in omega arith)) e
  where
    go : (z : Bool) → z ≡ false → r.turned (cond z (turn.Byte inner.Single) turn.Past) d (b ++ t) (λ next. r.quoted next (b ++ t)) ≡ Some (x, u) → IsUtf8 x × IsUtf8 u
    go true clear e = absurd cc
    go false clear e =
        let equal : ([] ≡ x) × (d ∷ b ++ t ≡ u) = some_pair e in
        (subst IsUtf8 equal.0 IsUtf8-nil, subst IsUtf8 equal.1 (IsUtf8-append (d ∷ b) t (subst IsUtf8 (sym same) (IsUtf8-encode c is)) utf8))

low_utf8 : (c : ℕ) (t : List ℕ) → c < 128 → IsScalar c → IsUtf8 t → AreUtf8 t → (z : Turn) → ((v : ℕ) → z ≡ turn.Gives v → IsScalar v) → (x u : List ℕ) → r.turned z c t (λ next. r.quoted next t) ≡ Some (x, u) → IsUtf8 x × IsUtf8 u
low_utf8 c t lt is utf8 again turn.Fault scalar x u e = absurd cc
low_utf8 c t lt is utf8 again turn.Last scalar x u e = let equal : ([] ≡ x) × (t ≡ u) = some_pair e in (subst IsUtf8 equal.0 IsUtf8-nil, subst IsUtf8 equal.1 utf8)
low_utf8 c t lt is utf8 again turn.Past scalar x u e = let equal : ([] ≡ x) × (c ∷ t ≡ u) = some_pair e in (subst IsUtf8 equal.0 IsUtf8-nil, subst IsUtf8 equal.1 (subst IsUtf8 (ap (λ (z : List ℕ). z ++ t) (encode_ascii c lt)) (IsUtf8-append (encode c) t (IsUtf8-encode c is) utf8)))
low_utf8 c t lt is utf8 again (turn.Goes next) scalar x u e = again next x u e
low_utf8 c t lt is utf8 again (turn.Byte next) scalar x u e =
    let first = prefixed_some (c ∷ []) (r.quoted next t) x u e in
    let rest = again next first.0 u first.1 in
    (subst IsUtf8 first.2 (subst IsUtf8 (ap (λ (z : List ℕ). z ++ first.0) (encode_ascii c lt)) (IsUtf8-append (encode c) first.0 (IsUtf8-encode c is) rest.0)), rest.1)
low_utf8 c t lt is utf8 again (turn.Gives v) scalar x u e =
    let first = prefixed_some (encode_utf8 v) (r.quoted inner.Double t) x u e in
    let rest = again inner.Double first.0 u first.1 in
    (subst IsUtf8 first.2 (IsUtf8-append (encode_utf8 v) first.0 (IsUtf8-encode v (scalar v refl)) rest.0), rest.1)

chars_utf8 : (cs : List ℕ) → scalars cs ≡ true → AreUtf8 (encodes cs)
chars_utf8 [] is inner.Quote x u e = let equal : ([] ≡ x) × ([] ≡ u) = some_pair e in (subst IsUtf8 equal.0 IsUtf8-nil, subst IsUtf8 equal.1 IsUtf8-nil)
chars_utf8 [] is inner.Double x u e = absurd cc
chars_utf8 [] is inner.Escaped x u e = absurd cc
chars_utf8 [] is (inner.Digits left n) x u e = absurd cc
chars_utf8 [] is inner.Single x u e = absurd cc
chars_utf8 (c ∷ cs) is at x u e =
    let both = and_parts (scalar c) (scalars cs) is in
    let rest : IsUtf8 (encodes cs) = (cs, (both.1, refl)) in
    elim (cases_lt c 128) [
      | inl low ↦ low_utf8 c (encodes cs) low both.0 rest (chars_utf8 cs both.1) (r.turn_at at c) (λ v g. gives_scalar at c v g) x u (subst (λ (z : List ℕ). r.quoted at (z ++ encodes cs) ≡ Some (x, u)) (encode_ascii c low) e)
      | inr high ↦ high_utf8 c (encodes cs) both.0 high rest (chars_utf8 cs both.1) (encode c) (encode_high c high) refl at x u e
    ]

-- what stands between quotes, and what follows them, is UTF-8
pub quoted_utf8 : (s : List ℕ) → IsUtf8 s → (at : Inner) (x u : List ℕ) → r.quoted at s ≡ Some (x, u) → IsUtf8 x × IsUtf8 u
quoted_utf8 s utf8 at x u e = chars_utf8 utf8.0 utf8.1.0 at x u (ap (r.quoted at) utf8.1.1 ∙ e)

-- ---- the turns

prefixed_nil : (x u : List ℕ) (o : Taken) → o ≡ Some ([], u) → r.prefixed x o ≡ Some (x, u)
prefixed_nil x u o e = ap (r.prefixed x) e ∙ ap (λ (z : List ℕ). Some (z, u)) (append-nil x)

-- the loop ends with this text at this place
pub record EndsAt (first : Inner) (text bytes : List ℕ) (n : ℕ) : Type 0 where
  pub utf8 : IsUtf8 bytes
  pub takes : Takes text (r.quoted first text) (Some (bytes, n))

ends_at : (first place : Inner) (text bytes : List ℕ) (at n : ℕ) → IsUtf8 text → r.prefixed bytes (r.quoted place (drop at text)) ≡ r.quoted first text → r.quoted place (drop at text) ≡ Some ([], drop n text) → n ≤ length text → EndsAt first text bytes n
ends_at first place text bytes at n utf8 so_far ends le =
    let all : r.quoted first text ≡ Some (bytes, drop n text) = sym so_far ∙ prefixed_nil bytes (drop n text) (r.quoted place (drop at text)) ends in
    let both = quoted_utf8 text utf8 first bytes (drop n text) all in
    record { utf8 = both.0; takes = (all, le, IsCharBoundary-from_drop text n le both.1) }

turn_here : (place : Inner) (text items : List ℕ) → items ≡ text → (at : ℕ) (z : Turn) → at < length items → z ≡ r.turn_at place (get_or items at 0) → r.quoted place (drop at text) ≡ r.turned z (get_or items at 0) (drop (at + 1) text) (λ next. r.quoted next (drop (at + 1) text))
turn_here place text items same at z lt is =
    let lt' : at < length text = subst (λ (s : List ℕ). at < length s) same lt in
    at_drop_more (r.quoted place) text at 0 lt' ∙ (ap (λ (s : List ℕ). r.turned (r.turn_at place (get_or s at 0)) (get_or s at 0) (drop (at + 1) text) (λ next. r.quoted next (drop (at + 1) text))) (sym same) ∙ ap (λ (y : Turn). r.turned y (get_or items at 0) (drop (at + 1) text) (λ next. r.quoted next (drop (at + 1) text))) (sym is))

inside : (text items : List ℕ) (at : ℕ) → items ≡ text → at < length items → at < length text
inside text items at same lt = subst (λ (s : List ℕ). at < length s) same lt

pub ends_last : (first place : Inner) (text items bytes : List ℕ) (at : ℕ) → IsUtf8 text → items ≡ text → r.prefixed bytes (r.quoted place (drop at text)) ≡ r.quoted first text → at < length items → turn.Last ≡ r.turn_at place (get_or items at 0) → EndsAt first text bytes (at + 1)
ends_last first place text items bytes at utf8 same so_far lt is = let lt' = inside text items at same lt in ends_at first place text bytes at (at + 1) utf8 so_far (turn_here place text items same at turn.Last lt is) (omega arith)

pub ends_past : (first place : Inner) (text items bytes : List ℕ) (at : ℕ) → IsUtf8 text → items ≡ text → r.prefixed bytes (r.quoted place (drop at text)) ≡ r.quoted first text → at < length items → turn.Past ≡ r.turn_at place (get_or items at 0) → EndsAt first text bytes at
ends_past first place text items bytes at utf8 same so_far lt is =
    let lt' = inside text items at same lt in
    let rest : get_or items at 0 ∷ drop (at + 1) text ≡ drop at text = ap (λ (s : List ℕ). get_or s at 0 ∷ drop (at + 1) text) same ∙ sym (at_drop_more (λ (z : List ℕ). z) text at 0 lt') in
    ends_at first place text bytes at at utf8 so_far (turn_here place text items same at turn.Past lt is ∙ ap (λ (z : List ℕ). Some ([], z)) rest) (omega arith)

pub ends_quote : (first : Inner) (text items bytes : List ℕ) (at : ℕ) → IsUtf8 text → items ≡ text → r.prefixed bytes (r.quoted inner.Quote (drop at text)) ≡ r.quoted first text → length items ≤ at → EndsAt first text bytes (length text)
ends_quote first text items bytes at utf8 same so_far le =
    let le' : length text ≤ at = subst (λ (s : List ℕ). length s ≤ at) same le in
    ends_at first inner.Quote text bytes at (length text) utf8 so_far (at_drop_all (r.quoted inner.Quote) text at le' ∙ ap (λ (z : List ℕ). Some ([], z)) (sym (at_drop_all (λ (z : List ℕ). z) text (length text) (omega arith)))) (omega arith)

then_prefixed : (x y : List ℕ) (o : Taken) → r.prefixed (x ++ y) o ≡ r.prefixed x (r.prefixed y o)
then_prefixed x y None = refl
then_prefixed x y (Some p) = ap (λ (z : List ℕ). Some (z, p.1)) (append_assoc x y p.0)

pub turn_goes : (place next : Inner) (text items bytes : List ℕ) (at : ℕ) → items ≡ text → at < length items → turn.Goes next ≡ r.turn_at place (get_or items at 0) → r.prefixed bytes (r.quoted next (drop (at + 1) text)) ≡ r.prefixed bytes (r.quoted place (drop at text))
turn_goes place next text items bytes at same lt is = ap (r.prefixed bytes) (sym (turn_here place text items same at (turn.Goes next) lt is))

pub turn_byte : (place next : Inner) (text items bytes : List ℕ) (at : ℕ) → items ≡ text → at < length items → turn.Byte next ≡ r.turn_at place (get_or items at 0) → r.prefixed (bytes ++ get_or items at 0 ∷ []) (r.quoted next (drop (at + 1) text)) ≡ r.prefixed bytes (r.quoted place (drop at text))
turn_byte place next text items bytes at same lt is = then_prefixed bytes (get_or items at 0 ∷ []) (r.quoted next (drop (at + 1) text)) ∙ ap (r.prefixed bytes) (sym (turn_here place text items same at (turn.Byte next) lt is))

pub turn_gives : (place : Inner) (v : ℕ) (text items bytes : List ℕ) (at : ℕ) → items ≡ text → at < length items → turn.Gives v ≡ r.turn_at place (get_or items at 0) → r.prefixed (bytes ++ encode_utf8 v) (r.quoted inner.Double (drop (at + 1) text)) ≡ r.prefixed bytes (r.quoted place (drop at text))
turn_gives place v text items bytes at same lt is = then_prefixed bytes (encode_utf8 v) (r.quoted inner.Double (drop (at + 1) text)) ∙ ap (r.prefixed bytes) (sym (turn_here place text items same at (turn.Gives v) lt is))
