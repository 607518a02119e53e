-- Inline values are read exactly.
use Rattle.std.proofs.Common.{◌≡◌, ℕ, Bool, true, false, ◌&&◌, ◌||◌, eqb, IsTrue, List, [], ◌∷◌, ◌++◌, drop, Option, Some, None, ◌⊎◌, inl, inr, refl, sym, ap, subst, ◌∙◌}
use Rattle.std.proofs.lemmas.Bool.{eqb-true, and_parts, or_parts, or_cases, and_left, or_right, false≢true}
use Rattle.yaml_spec.specs.declared.sights.Sight.TheVariants as sight
use Rattle.yaml_spec.specs.declared.sights.Got.{Got}
use Rattle.yaml_spec.specs.declared.sights.Got.TheVariants as got
use Rattle.yaml_spec.specs.declared.sights.Inner.{Inner}
use Rattle.yaml_spec.specs.declared.tree.Tree.{Tree}
use Rattle.yaml_spec.specs.declared.tree.Tree.TheVariants as tree
use Rattle.yaml_spec.specs.Line.{spaces, begins, has_pair, ends_in, parts_here, is_sign, is_plain, meaning, means_text, IsTail, Quoted, Flow, Value, BlockHead}
use Rattle.yaml_spec.specs.Line as l
use Rattle.yaml_spec.specs.Reading as r
use Rattle.yaml_spec.specs.Reading.{Taken, Read}
use Rattle.yaml_spec.proofs.Cases.{if_some, chosen, some_pair}
use Rattle.yaml_spec.proofs.Quotes.{tail_true, tail_sound, begins_is, lean_tail, lean_again, Front, text, front_of, quoted_or_again, quoted_or_other}
use Rattle.yaml_spec.proofs.Heads.{Plain, plain_parts, first_parts, not_sign, byte_some, is_solid, plain_solid, quoted_solid}
use Rattle.yaml_spec.proofs.Flow.{flow_sound, flow_again, flow_starts}

abbrev pub IsGot : ℕ → List ℕ → Got → Type 0
IsGot n s (got.Value x) = (p : List ℕ) × (t : List ℕ) × (s ≡ p ++ t) × Value n p t x × IsTail t
IsGot n s (got.Head folds keeps) = (p : List ℕ) × (t : List ℕ) × (s ≡ p ++ t) × BlockHead p folds keeps × IsTail t

-- ---- what is read is spelled so

ends_some : (o : Read) (g : Got) → r.ends_line o ≡ Some g → (x : Tree) × (t : List ℕ) × (o ≡ Some (x, t)) × (r.is_tail t ≡ true) × (got.Value x ≡ g)
ends_some None g e = absurd cc
ends_some (Some p) g e = let there = if_some (r.is_tail p.1) (Some (got.Value p.0)) e in (p.0, p.1, refl, there.0, (let e' = there.1 in cc))

taken_some : (o : Taken) (x : Tree) (t : List ℕ) → r.as_text o ≡ Some (x, t) → (y : List ℕ) × (o ≡ Some (y, t)) × (tree.Text y ≡ x)
taken_some None x t e = absurd cc
taken_some (Some p) x t e = let both : (tree.Text p.0 ≡ x) × (p.1 ≡ t) = some_pair e in (p.0, ap (λ (z : List ℕ). Some (p.0, z)) both.1, both.0)

head_parts : (folds : Bool) (s : List ℕ) (g : Got) → r.head_value folds s ≡ Some g → ((g ≡ got.Head folds true) × IsTail s) ⊎ ((g ≡ got.Head folds false) × (t : List ℕ) × (s ≡ 45 ∷ t) × IsTail t)
head_parts folds [] g e = inl ((let same : got.Head folds true ≡ g = cc in sym same), l.nothing)
head_parts folds (c ∷ s) g e = elim (chosen (r.is_tail (c ∷ s)) _ _ e) [
  | inl p ↦ inl ((let same : got.Head folds true ≡ g = (let e' = p.1 in cc) in sym same), tail_sound (c ∷ s) p.0)
  | inr p ↦ (let there = if_some (eqb c 45 && r.is_tail s) (Some (got.Head folds false)) p.1 in
      let both = and_parts (eqb c 45) (r.is_tail s) there.0 in
      let same : got.Head folds false ≡ g = (let e' = there.1 in cc) in
      inr (sym same, s, ap (λ (z : ℕ). z ∷ s) (eqb-true c 45 both.0), tail_sound s both.1))
]

head_sound : (n : ℕ) (folds : Bool) (a : ℕ) → BlockHead (a ∷ []) folds true → BlockHead (a ∷ 45 ∷ []) folds false → (c : ℕ) (s : List ℕ) (g : Got) → c ≡ a → r.head_value folds s ≡ Some g → IsGot n (c ∷ s) g
head_sound n folds a whole strips c s g is e = elim (head_parts folds s g e) [
  | inl p ↦ subst (IsGot n (c ∷ s)) (sym p.0) (a ∷ [], s, ap (λ (z : ℕ). z ∷ s) is, whole, p.1)
  | inr p ↦ subst (IsGot n (c ∷ s)) (sym p.0) (a ∷ 45 ∷ [], p.1, ap (λ (z : ℕ). z ∷ s) is ∙ ap (λ (z : List ℕ). a ∷ z) p.2, strips, p.3)
]

no_empty : {n : ℕ} {q u : List ℕ} {x : Tree} → Flow n q u x → q ≡ [] → ⊥
no_empty f e = let starts = flow_starts f in let is = starts.2 in absurd cc

flow_got : (n c : ℕ) (s : List ℕ) (g : Got) → (eqb c 91 || eqb c 123) ≡ true → r.ends_line (r.flow n (c ∷ s)) ≡ Some g → IsGot n (c ∷ s) g
flow_got n c s g is e =
    let there = ends_some (r.flow n (c ∷ s)) g e in
    let inner = flow_sound n (c ∷ s) there.0 there.1 there.2 in
    subst (IsGot n (c ∷ s)) there.4 (inner.0, there.1, inner.1, l.flow (bracket inner.0 there.1 inner.1 inner.2) inner.2, tail_sound there.1 there.3)
  where
    bracket : (q u : List ℕ) {x : Tree} → c ∷ s ≡ q ++ u → Flow n q u x → IsTrue (begins 91 q || begins 123 q)
    bracket [] u e f = absurd (no_empty f refl)
    bracket (d ∷ q) u e f = let same : d ≡ c = cc in rw same is

plain_got : (n : ℕ) (s : List ℕ) (g : Got) → r.plain_value (r.lean s) (r.tail s) ≡ Some g → IsGot n s g
plain_got n s g e =
    let there = if_some (is_plain (r.lean s) (r.tail s)) (Some (got.Value (meaning (r.lean s)))) e in
    let same : got.Value (meaning (r.lean s)) ≡ g = (let e' = there.1 in cc) in
    let cut = lean_tail s in
    subst (IsGot n s) same (r.lean s, r.tail s, cut.0, l.plain there.0, cut.1)

other_sound : (n : ℕ) (s : List ℕ) (g : Got) → r.other_value n s ≡ Some g → IsGot n s g
other_sound n [] g e = absurd cc
other_sound n (c ∷ s) g e = elim (chosen (eqb c 124) _ _ e) [
  | inl p ↦ head_sound n false 124 l.bar l.bar_strips c s g (eqb-true c 124 p.0) p.1
  | inr p ↦ elim (chosen (eqb c 62) _ _ p.1) [
    | inl q ↦ head_sound n true 62 l.angle l.angle_strips c s g (eqb-true c 62 q.0) q.1
    | inr q ↦ elim (chosen (eqb c 91 || eqb c 123) _ _ q.1) [
      | inl w ↦ flow_got n c s g w.0 w.1
      | inr w ↦ plain_got n (c ∷ s) g w.1
    ]
  ]
]

pub inline_sound : (n : ℕ) (s : List ℕ) (g : Got) → r.inline n s ≡ Some g → IsGot n s g
unfolding r.inline
inline_sound n s g e = go (r.quote_of s) (front_of s) e
  where
    go : (o : Option Inner) → Front s o → r.quoted_by o r.quoted_value (r.other_value n) s ≡ Some g → IsGot n s g
    go None front e = other_sound n s g e
    go (Some place) (text reads) e =
        let there = ends_some (r.as_text (r.quoted place (drop 1 s))) g e in
        let some = taken_some (r.quoted place (drop 1 s)) there.0 there.1 there.2 in
        let inner = reads some.0 there.1 some.1 in
        subst (IsGot n s) (ap (λ (z : Tree). got.Value z) some.2 ∙ there.4) (inner.0, there.1, inner.1, l.quoted inner.2, tail_sound there.1 there.3)

-- ---- what is spelled is read so

colon_in_tail : {t : List ℕ} → IsTail t → (k u : List ℕ) → r.to_colon t ≡ Some (k, u) → has_pair 32 35 k ≡ true
colon_in_tail l.nothing k u e = absurd cc
colon_in_tail (l.space {t} q) k u e =
    let first = byte_some 32 (r.to_colon t) k u e in
    subst (λ (z : List ℕ). has_pair 32 35 z ≡ true) first.2 (or_right _ _ (colon_in_tail q first.0 u first.1))
colon_in_tail (l.comment {t}) k u e =
    let first = byte_some 32 (r.to_colon (35 ∷ t)) k u e in
    let second = byte_some 35 (r.to_colon t) first.0 u first.1 in
    subst (λ (z : List ℕ). has_pair 32 35 z ≡ true) first.2 (subst (λ (z : List ℕ). has_pair 32 35 (32 ∷ z) ≡ true) second.2 refl)

-- no colon stands before a space in a plain scalar: what is found goes on into a comment
colon_past : (p t k u : List ℕ) → IsTail t → has_pair 58 32 p ≡ false → ends_in 58 p ≡ false → r.to_colon (p ++ t) ≡ Some (k, u) → has_pair 32 35 k ≡ true
colon_past [] t k u q pairs ends e = colon_in_tail q k u e
colon_past (c ∷ []) t k u q pairs ends e =
    let first = byte_some c (r.to_colon t) k u (rw (and_left (eqb c 58) (parts_here t) ends) at e) in
    subst (λ (z : List ℕ). has_pair 32 35 z ≡ true) first.2 (or_right _ _ (colon_in_tail q first.0 u first.1))
colon_past (c ∷ d ∷ p) t k u q pairs ends e =
    let parts = or_parts (eqb c 58 && eqb d 32) (has_pair 58 32 (d ∷ p)) pairs in
    let first = byte_some c (r.to_colon (d ∷ p ++ t)) k u (rw parts.0 at e) in
    subst (λ (z : List ℕ). has_pair 32 35 z ≡ true) first.2 (or_right _ _ (colon_past (d ∷ p) t first.0 u q parts.1 ends first.1))

comment_not_plain : (k after : List ℕ) → has_pair 32 35 k ≡ true → is_plain k after ≡ false
comment_not_plain k after e = go (is_plain k after) refl
  where
    go : (b : Bool) → is_plain k after ≡ b → b ≡ false
    go false is = refl
    go true is = let parts = plain_parts k after is in absurd (false≢true (sym parts.comments ∙ e))

no_plain_key : (o : Taken) → ((k u : List ℕ) → o ≡ Some (k, u) → is_plain k (58 ∷ []) ≡ false) → r.plain_key o ≡ None
no_plain_key None not_plain = refl
no_plain_key (Some p) not_plain = rw (not_plain p.0 p.1 refl) refl

-- a line with no mark
pub no_head : (c : ℕ) (s : List ℕ) → (eqb c 45 && parts_here s) ≡ false → r.key_of (c ∷ s) ≡ None → r.sees (c ∷ s) ≡ sight.Other
unfolding r.sees
no_head c s item key = rw (item, key) refl

pub plain_no_key : (c : ℕ) (p t : List ℕ) → Plain (c ∷ p) t → IsTail t → r.key_of (c ∷ p ++ t) ≡ None
unfolding r.key_of
plain_no_key c p t q tail =
    let first = first_parts c p t q.begins_well in
    quoted_or_other r.past_colon r.colon_key c (p ++ t) (not_sign first 34 refl) (not_sign first 39 refl)
    ∙ no_plain_key (r.to_colon (c ∷ p ++ t)) (λ k u e. comment_not_plain k (58 ∷ []) (colon_past (c ∷ p) t k u tail q.colons q.ends_colon e))

plain_other : (p t : List ℕ) → Plain p t → IsTail t → r.sees (p ++ t) ≡ sight.Other
plain_other [] t q tail = absurd (false≢true q.begins_well)
plain_other (c ∷ p) t q tail = no_head c (p ++ t) (first_parts c p t q.begins_well).no_item (plain_no_key c p t q tail)

tail_no_colon : {t : List ℕ} (x : List ℕ) → IsTail t → r.past_colon (Some (x, t)) ≡ None
tail_no_colon x l.nothing = refl
tail_no_colon x (l.space q) = refl
tail_no_colon x l.comment = refl

pub tail_unquoted : {t : List ℕ} → IsTail t → begins 39 t ≡ false
tail_unquoted l.nothing = refl
tail_unquoted (l.space q) = refl
tail_unquoted l.comment = refl

quoted_no_key : {p x : List ℕ} → Quoted p x → (t : List ℕ) → IsTail t → r.key_of (p ++ t) ≡ None
unfolding r.key_of
quoted_no_key {x = x} q t tail = quoted_or_again r.past_colon r.colon_key q t (tail_unquoted tail) ∙ tail_no_colon x tail

quoted_other : {p x : List ℕ} → Quoted p x → (t : List ℕ) → IsTail t → r.sees (p ++ t) ≡ sight.Other
quoted_other (l.double {s} q) t tail = no_head 34 ((s ++ 34 ∷ []) ++ t) refl (quoted_no_key (l.double q) t tail)
quoted_other (l.single {s} q) t tail = no_head 39 ((s ++ 39 ∷ []) ++ t) refl (quoted_no_key (l.single q) t tail)

-- a sign of its own begins no key
pub sign_no_key : (c : ℕ) (s : List ℕ) → eqb c 34 ≡ false → eqb c 39 ≡ false → eqb c 58 ≡ false → is_sign c ≡ true → r.key_of (c ∷ s) ≡ None
unfolding r.key_of
sign_no_key c s no_double no_single no_colon is =
    quoted_or_other r.past_colon r.colon_key c s no_double no_single ∙ no_plain_key (r.to_colon (c ∷ s)) (λ k u e.
    let first = byte_some c (r.to_colon s) k u (rw no_colon at e) in
    subst (λ (z : List ℕ). is_plain z (58 ∷ []) ≡ false) first.2 (go first.0))
  where
    go : (y : List ℕ) → is_plain (c ∷ y) (58 ∷ []) ≡ false
    go [] = rw is refl
    go (d ∷ y) = rw is refl

sign_other : (c : ℕ) (s : List ℕ) → eqb c 45 ≡ false → eqb c 34 ≡ false → eqb c 39 ≡ false → eqb c 58 ≡ false → is_sign c ≡ true → r.sees (c ∷ s) ≡ sight.Other
sign_other c s no_dash no_double no_single no_colon is = no_head c s (and_left (eqb c 45) (parts_here s) no_dash) (sign_no_key c s no_double no_single no_colon is)

pub value_other : {n : ℕ} {p t : List ℕ} {x : Tree} → Value n p t x → IsTail t → (r.sees (p ++ t) ≡ sight.Other) × IsTrue (is_solid (p ++ t))
value_other (l.plain {s = p} {t} is) tail = let parts = plain_parts p t is in (plain_other p t parts tail, plain_solid p t t parts)
value_other (l.quoted {s = p} {t = t} q) tail = (quoted_other q t tail, quoted_solid q t)
value_other (l.flow {s = p} {t} is q) tail = elim (or_cases (begins 91 p) (begins 123 p) is) [
  | inl list ↦ (let w = begins_is 91 p list in (ap (λ (z : List ℕ). r.sees (z ++ t)) w.1 ∙ sign_other 91 (w.0 ++ t) refl refl refl refl refl, subst (λ (z : List ℕ). IsTrue (is_solid (z ++ t))) (sym w.1) refl))
  | inr map ↦ (let w = begins_is 123 p map in (ap (λ (z : List ℕ). r.sees (z ++ t)) w.1 ∙ sign_other 123 (w.0 ++ t) refl refl refl refl refl, subst (λ (z : List ℕ). IsTrue (is_solid (z ++ t))) (sym w.1) refl))
]

plain_again : (n : ℕ) (p t : List ℕ) → Plain p t → is_plain p t ≡ true → IsTail t → r.inline n (p ++ t) ≡ Some (got.Value (meaning p))
unfolding r.inline
plain_again n [] t q is tail = absurd (false≢true q.begins_well)
plain_again n (c ∷ p) t q is tail =
    let first = first_parts c p t q.begins_well in
    let cut = lean_again t tail (c ∷ p) q.comments q.ends in
    quoted_or_other r.quoted_value (r.other_value n) c (p ++ t) (not_sign first 34 refl) (not_sign first 39 refl)
    ∙ rw (not_sign first 124 refl, not_sign first 62 refl, not_sign first 91 refl, not_sign first 123 refl) (ap (λ (z : List ℕ). r.plain_value z (r.tail (c ∷ p ++ t))) cut.0 ∙ ap (λ (z : List ℕ). r.plain_value (c ∷ p) z) cut.1 ∙ rw is refl)

quoted_again : (n : ℕ) {p x : List ℕ} → Quoted p x → (t : List ℕ) → IsTail t → r.inline n (p ++ t) ≡ Some (got.Value (tree.Text x))
unfolding r.inline
quoted_again n q t tail = quoted_or_again r.quoted_value (r.other_value n) q t (tail_unquoted tail) ∙ rw (tail_true tail) refl

list_inline : (n : ℕ) (w t : List ℕ) (x : Tree) → r.flow n (91 ∷ (w ++ t)) ≡ Some (x, t) → IsTail t → r.inline n (91 ∷ (w ++ t)) ≡ Some (got.Value x)
unfolding r.inline
list_inline n w t x e tail = ap r.ends_line e ∙ rw (tail_true tail) refl

map_inline : (n : ℕ) (w t : List ℕ) (x : Tree) → r.flow n (123 ∷ (w ++ t)) ≡ Some (x, t) → IsTail t → r.inline n (123 ∷ (w ++ t)) ≡ Some (got.Value x)
unfolding r.inline
map_inline n w t x e tail = ap r.ends_line e ∙ rw (tail_true tail) refl

pub value_again : {n : ℕ} {p t : List ℕ} {x : Tree} → Value n p t x → IsTail t → r.inline n (p ++ t) ≡ Some (got.Value x)
value_again {n} (l.plain {s = p} {t} is) tail = plain_again n p t (plain_parts p t is) is tail
value_again {n} (l.quoted {t = t} q) tail = quoted_again n q t tail
value_again {n} (l.flow {s = p} {t} {x} is q) tail =
    let read = flow_again q (inl (is, tail_unquoted tail)) in
    elim (or_cases (begins 91 p) (begins 123 p) is) [
      | inl list ↦ (let w = begins_is 91 p list in ap (λ (z : List ℕ). r.inline n (z ++ t)) w.1 ∙ list_inline n w.0 t x (ap (λ (z : List ℕ). r.flow n (z ++ t)) (sym w.1) ∙ read) tail)
      | inr map ↦ (let w = begins_is 123 p map in ap (λ (z : List ℕ). r.inline n (z ++ t)) w.1 ∙ map_inline n w.0 t x (ap (λ (z : List ℕ). r.flow n (z ++ t)) (sym w.1) ∙ read) tail)
    ]

pub head_other : {p t : List ℕ} {folds keeps : Bool} → BlockHead p folds keeps → IsTail t → (r.sees (p ++ t) ≡ sight.Other) × IsTrue (is_solid (p ++ t))
head_other {t = t} l.bar tail = (sign_other 124 t refl refl refl refl refl, refl)
head_other {t = t} l.bar_strips tail = (sign_other 124 (45 ∷ t) refl refl refl refl refl, refl)
head_other {t = t} l.angle tail = (sign_other 62 t refl refl refl refl refl, refl)
head_other {t = t} l.angle_strips tail = (sign_other 62 (45 ∷ t) refl refl refl refl refl, refl)

pub head_again : {p t : List ℕ} {folds keeps : Bool} (n : ℕ) → BlockHead p folds keeps → IsTail t → r.inline n (p ++ t) ≡ Some (got.Head folds keeps)
unfolding r.inline
head_again {t = []} n l.bar tail = refl
head_again {t = c ∷ t} n l.bar tail = rw (tail_true tail) refl
head_again n l.bar_strips tail = rw (tail_true tail) refl
head_again {t = []} n l.angle tail = refl
head_again {t = c ∷ t} n l.angle tail = rw (tail_true tail) refl
head_again n l.angle_strips tail = rw (tail_true tail) refl
