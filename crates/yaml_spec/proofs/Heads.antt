-- Keys and marks of lines.
use Rattle.std.proofs.Common.{◌≡◌, ℕ, zero, suc, ◌+◌, ◌-◌, Bool, true, false, cond, not, ◌&&◌, ◌||◌, eqb, IsTrue, List, [], ◌∷◌, ◌++◌, length, drop, Option, Some, None, inl, inr, refl, sym, ap, subst, ◌∙◌, append_assoc, length-append, arith, drop_at}
use Rattle.std.proofs.lemmas.List.{length-replicate}
use Rattle.std.proofs.lemmas.Bool.{eqb-true, and_parts, and_cases, or_parts, not-true, and_left, and_right, or_from, and_from, false≢true}
use Rattle.yaml_spec.specs.declared.state.Group.{Group}
use Rattle.yaml_spec.specs.declared.state.Group.TheVariants.{Listed, Mapped}
use Rattle.yaml_spec.specs.declared.sights.Sight.{Sight}
use Rattle.yaml_spec.specs.declared.sights.Sight.TheVariants as sight
use Rattle.yaml_spec.specs.declared.sights.Inner.{Inner}
use Rattle.yaml_spec.specs.Line.{spaces, begins, has, has_pair, ends_in, parts_here, is_sign, is_mark, may_begin, is_plain, means_text, has_flow, IsTail, Quoted, Head}
use Rattle.yaml_spec.specs.Line as l
use Rattle.yaml_spec.specs.Reading as r
use Rattle.yaml_spec.specs.Reading.{Taken}
use Rattle.yaml_spec.proofs.Cases.{if_some, chosen, some_pair}
use Rattle.yaml_spec.proofs.Quotes.{tail_true, tail_sound, Front, text, front_of, regroup, quoted_or_again, quoted_or_other}

-- ---- plain scalars

pub record Plain (s after : List ℕ) : Type 0 where
  pub begins_well : may_begin s after ≡ true
  pub colons : has_pair 58 32 s ≡ false
  pub comments : has_pair 32 35 s ≡ false
  pub ends : ends_in 32 s ≡ false
  pub ends_colon : ends_in 58 s ≡ false

pub plain_parts : (s after : List ℕ) → IsTrue (is_plain s after) → Plain s after
plain_parts s after is =
    let a = and_parts (may_begin s after) _ is in
    let b = and_parts (not (has 9 s)) _ a.1 in
    let c = and_parts (not (has_pair 58 32 s)) _ b.1 in
    let d = and_parts (not (has_pair 32 35 s)) _ c.1 in
    let e = and_parts (not (ends_in 32 s)) _ d.1 in
    record { begins_well = a.0; colons = not-true _ c.0; comments = not-true _ d.0; ends = not-true _ e.0; ends_colon = not-true _ e.1 }

-- how a plain scalar begins
pub record First (c : ℕ) (s after : List ℕ) : Type 0 where
  pub no_sign : is_sign c ≡ false
  pub no_space : eqb c 32 ≡ false
  pub no_item : (eqb c 45 && parts_here (s ++ after)) ≡ false

mark_item : (c : ℕ) (b : Bool) → (is_mark c && b) ≡ false → (eqb c 45 && b) ≡ false
mark_item c b e = elim (and_cases (is_mark c) b e) [ inl p ↦ and_left (eqb c 45) b (or_parts (eqb c 45) (eqb c 63 || (eqb c 58 || false)) p).0 | inr p ↦ and_right (eqb c 45) b p ]

first_of_parts : (c : ℕ) (s after : List ℕ) (b : Bool) → (not (is_sign c) && (not (eqb c 32) && not (is_mark c && b))) ≡ true → b ≡ parts_here (s ++ after) → First c s after
first_of_parts c s after b e is =
    let a = and_parts (not (is_sign c)) _ e in
    let d = and_parts (not (eqb c 32)) _ a.1 in
    record { no_sign = not-true _ a.0; no_space = not-true _ d.0; no_item = ap (λ (z : Bool). eqb c 45 && z) (sym is) ∙ mark_item c b (not-true _ d.1) }

pub first_parts : (c : ℕ) (s after : List ℕ) → may_begin (c ∷ s) after ≡ true → First c s after
first_parts c [] after e = first_of_parts c [] after (parts_here after) e refl
first_parts c (d ∷ s) after e = first_of_parts c (d ∷ s) after (eqb d 32) e refl

-- a byte that is a sign or isn't
pub is_one_not : (signs : List ℕ) (c a : ℕ) → l.is_one signs c ≡ false → l.is_one signs a ≡ true → eqb c a ≡ false
is_one_not signs c a no_sign sign = go (eqb c a) refl
  where
    go : (b : Bool) → eqb c a ≡ b → b ≡ false
    go false e = refl
    go true e = absurd (false≢true (sym no_sign ∙ (ap (l.is_one signs) (eqb-true c a e) ∙ sign)))

pub not_sign : {c : ℕ} {s after : List ℕ} → First c s after → (a : ℕ) → is_sign a ≡ true → eqb c a ≡ false
not_sign {c} first a is = is_one_not (44 ∷ 91 ∷ 93 ∷ 123 ∷ 125 ∷ 35 ∷ 38 ∷ 42 ∷ 33 ∷ 124 ∷ 62 ∷ 39 ∷ 34 ∷ 37 ∷ 64 ∷ 96 ∷ []) c a first.no_sign is

-- ---- keys

pub byte_some : (c : ℕ) (o : Taken) (x u : List ℕ) → r.with_byte c o ≡ Some (x, u) → (y : List ℕ) × (o ≡ Some (y, u)) × (c ∷ y ≡ x)
byte_some c None x u e = absurd cc
byte_some c (Some p) x u e =
    let both : (c ∷ p.0 ≡ x) × (p.1 ≡ u) = some_pair e in
    (p.0, ap (λ (z : List ℕ). Some (p.0, z)) both.1, both.0)

pub colon_sound : (s k u : List ℕ) → r.to_colon s ≡ Some (k, u) → (s ≡ k ++ 58 ∷ u) × (parts_here u ≡ true)
colon_sound [] k u e = absurd cc
colon_sound (c ∷ s) k u e = elim (chosen (eqb c 58 && parts_here s) _ _ e) [
  | inl p ↦ (let equal : ([] ≡ k) × (s ≡ u) = some_pair p.1 in let none = equal.0 in let rest = equal.1 in let both = and_parts (eqb c 58) (parts_here s) p.0 in
      (ap (λ (z : ℕ). z ∷ s) (eqb-true c 58 both.0) ∙ ap (λ (z : List ℕ). 58 ∷ z) rest ∙ ap (λ (z : List ℕ). z ++ 58 ∷ u) none, subst (λ (z : List ℕ). parts_here z ≡ true) rest both.1))
  | inr p ↦ (let first = byte_some c (r.to_colon s) k u p.1 in let inner = colon_sound s first.0 u first.1 in
      (ap (λ (z : List ℕ). c ∷ z) inner.0 ∙ ap (λ (z : List ℕ). z ++ 58 ∷ u) first.2, inner.1))
]

pub colon_again : (k u : List ℕ) → has_pair 58 32 k ≡ false → parts_here u ≡ true → r.to_colon (k ++ 58 ∷ u) ≡ Some (k, u)
colon_again [] u pairs here = rw here refl
colon_again (c ∷ []) u pairs here = rw (and_right (eqb c 58) false refl) (ap (r.with_byte c) (colon_again [] u refl here))
colon_again (c ∷ d ∷ k) u pairs here =
    let parts = or_parts (eqb c 58 && eqb d 32) (has_pair 58 32 (d ∷ k)) pairs in
    rw parts.0 (ap (r.with_byte c) (colon_again (d ∷ k) u parts.1 here))

pub past_sound : (o : Taken) (k u : List ℕ) → r.past_colon o ≡ Some (k, u) → (o ≡ Some (k, 58 ∷ u)) × (parts_here u ≡ true)
past_sound None k u e = absurd cc
past_sound (Some (x, [])) k u e = absurd cc
past_sound (Some (x, c ∷ s)) k u e =
    let there = if_some (eqb c 58 && parts_here s) (Some (x, s)) e in
    let both = and_parts (eqb c 58) (parts_here s) there.0 in
    let equal : (x ≡ k) × (s ≡ u) = some_pair there.1 in
    let is = eqb-true c 58 both.0 in
    (ap₃ equal.0 is equal.1, subst (λ (z : List ℕ). parts_here z ≡ true) equal.1 both.1)
  where
    ap₃ : {x k s u : List ℕ} {c d : ℕ} → x ≡ k → c ≡ d → s ≡ u → ◌≡◌ {A = Option (List ℕ × List ℕ)} (Some (x, c ∷ s)) (Some (k, d ∷ u))
    ap₃ a b c = rw (a, b, c) refl

plain_sound : (o : Taken) (k u : List ℕ) → r.plain_key o ≡ Some (k, u) → (o ≡ Some (k, u)) × IsTrue (is_plain k (58 ∷ []) && means_text k)
plain_sound None k u e = absurd cc
plain_sound (Some (x, s)) k u e =
    let there = if_some (is_plain x (58 ∷ []) && means_text x) (Some (x, s)) e in
    let equal : (x ≡ k) × (s ≡ u) = some_pair there.1 in
    (there.1, subst (λ (z : List ℕ). IsTrue (is_plain z (58 ∷ []) && means_text z)) equal.0 there.0)

abbrev pub HeadSound : List ℕ → List ℕ → List ℕ → Type 0
HeadSound s k u = (m : List ℕ) × (s ≡ m ++ u) × Head Mapped m k × (parts_here u ≡ true)

pub key_sound : (s k u : List ℕ) → r.key_of s ≡ Some (k, u) → HeadSound s k u
unfolding r.key_of
key_sound s k u e = go (r.quote_of s) (front_of s) e
  where
    go : (o : Option Inner) → Front s o → r.quoted_by o r.past_colon r.colon_key s ≡ Some (k, u) → HeadSound s k u
    go None front e =
        let plain = plain_sound (r.to_colon s) k u e in let inner = colon_sound s k u plain.0 in
        (k ++ 58 ∷ [], inner.0 ∙ regroup k u 58, l.plain plain.1, inner.1)
    go (Some place) (text reads) e =
        let past = past_sound (r.quoted place (drop 1 s)) k u e in let inner = reads k (58 ∷ u) past.0 in
        (inner.0 ++ 58 ∷ [], inner.1 ∙ regroup inner.0 u 58, l.quoted inner.2, past.1)

-- ---- spaces

pub spaces_sound : (s : List ℕ) → s ≡ spaces (r.front s) ++ r.past s
spaces_sound [] = refl
spaces_sound (c ∷ s) = go (eqb c 32) refl (spaces_sound s)
  where
    go : (b : Bool) → eqb c 32 ≡ b → s ≡ spaces (r.front s) ++ r.past s → c ∷ s ≡ spaces (cond b (suc (r.front s)) 0) ++ cond b (r.past s) (c ∷ s)
    go true is inner = ap (λ (z : ℕ). z ∷ s) (eqb-true c 32 is) ∙ ap (λ (z : List ℕ). 32 ∷ z) inner
    go false is inner = refl

pub front_some : (s : List ℕ) → parts_here s ≡ true → r.is_tail s ≡ false → r.front s ≡ suc (r.front s - 1)
front_some [] here tail = absurd cc
front_some (c ∷ s) here tail = rw here (omega arith)

-- ---- what a line shows

abbrev pub IsSeen : List ℕ → Sight → Type 0
IsSeen s (sight.Bare k key) = (m : List ℕ) × (t : List ℕ) × (s ≡ m ++ t) × Head k m key × IsTail t
IsSeen s (sight.Before k key n) = (m : List ℕ) × (i : ℕ) × (v : List ℕ) × (s ≡ m ++ (spaces (suc i) ++ v)) × Head k m key × (n ≡ length m + suc i) × (drop n s ≡ v)
IsSeen s sight.Other = Unit {0}

drop_before : (m v w : List ℕ) (i n : ℕ) → w ≡ m ++ (spaces i ++ v) → n ≡ length m + i → drop n w ≡ v
drop_before m v w i n is count =
    ap (drop n) (is ∙ sym (append_assoc m (spaces i) v)) ∙ drop_at (m ++ spaces i) v n (length-append m (spaces i) ∙ ap (λ (z : ℕ). length m + z) (length-replicate i 32) ∙ sym count)

behind_sound : (k : Group) (key m s w : List ℕ) (n : ℕ) → Head k m key → w ≡ m ++ s → n ≡ length m → parts_here s ≡ true → IsSeen w (r.behind k key n s)
behind_sound k key m s w n head is count here = go (r.is_tail s) refl
  where
    go : (b : Bool) → r.is_tail s ≡ b → IsSeen w (cond b (sight.Bare k key) (sight.Before k key (n + r.front s)))
    go true tail = (m, s, is, head, tail_sound s tail)
    go false tail =
        let some = front_some s here tail in
        let text : w ≡ m ++ (spaces (suc (r.front s - 1)) ++ r.past s) = is ∙ ap (λ (z : List ℕ). m ++ z) (spaces_sound s ∙ ap (λ (z : ℕ). spaces z ++ r.past s) some) in
        let long : n + r.front s ≡ length m + suc (r.front s - 1) = omega (arith, count, some) in
        (m, r.front s - 1, r.past s, text, head, long, drop_before m (r.past s) w (suc (r.front s - 1)) (n + r.front s) text long)

seen_key : (s : List ℕ) (o : Taken) → r.key_of s ≡ o → IsSeen s (r.sees_key (length s) o)
seen_key s None e = tt
seen_key s (Some p) e =
    let key = key_sound s p.0 p.1 e in
    behind_sound Mapped p.0 key.0 p.1 s (length s - length p.1) key.2 key.1 (omega (arith, ap length key.1, length-append key.0 p.1)) key.3

pub sees_sound : (s : List ℕ) → IsSeen s (r.sees s)
unfolding r.sees
sees_sound [] = tt
sees_sound (c ∷ s) = go (eqb c 45 && parts_here s) refl
  where
    go : (b : Bool) → (eqb c 45 && parts_here s) ≡ b → IsSeen (c ∷ s) (cond b (r.behind Listed [] 1 s) (r.sees_key (length (c ∷ s)) (r.key_of (c ∷ s))))
    go true is = let both = and_parts (eqb c 45) (parts_here s) is in behind_sound Listed [] (45 ∷ []) s (c ∷ s) 1 l.dash (ap (λ (z : ℕ). z ∷ s) (eqb-true c 45 both.0)) refl both.1
    go false is = seen_key (c ∷ s) (r.key_of (c ∷ s)) refl

-- ---- and back

-- something that is no space and no comment
abbrev pub is_solid : List ℕ → Bool
is_solid [] = false
is_solid (c ∷ s) = not (eqb c 32) && not (eqb c 35)

solid_first : (c : ℕ) (w s after : List ℕ) → First c s after → IsTrue (is_solid (c ∷ w))
solid_first c w s after f = and_from (not (eqb c 32)) (not (eqb c 35)) (rw f.no_space refl) (rw (not_sign f 35 refl) refl)

pub plain_solid : (s after u : List ℕ) → Plain s after → IsTrue (is_solid (s ++ u))
plain_solid [] after u q = absurd (false≢true q.begins_well)
plain_solid (c ∷ s) after u q = solid_first c (s ++ u) s after (first_parts c s after q.begins_well)

head_plain : (s : List ℕ) → IsTrue (is_plain s (58 ∷ []) && means_text s) → Plain s (58 ∷ [])
head_plain s is = plain_parts s (58 ∷ []) (and_parts (is_plain s (58 ∷ [])) _ is).0

pub quoted_solid : {p x : List ℕ} → Quoted p x → (u : List ℕ) → IsTrue (is_solid (p ++ u))
quoted_solid (l.double q) u = refl
quoted_solid (l.single q) u = refl

pub head_solid : {k : Group} {m key : List ℕ} → Head k m key → (u : List ℕ) → IsTrue (is_solid (m ++ u))
head_solid l.dash u = refl
head_solid (l.plain {s} is) u = subst (λ (z : List ℕ). IsTrue (is_solid z)) (sym (append_assoc s (58 ∷ []) u)) (plain_solid s (58 ∷ []) (58 ∷ u) (head_plain s is))
head_solid (l.quoted {s} q) u = subst (λ (z : List ℕ). IsTrue (is_solid z)) (sym (append_assoc s (58 ∷ []) u)) (quoted_solid q (58 ∷ u))

pub key_again : {m key : List ℕ} → Head Mapped m key → (u : List ℕ) → parts_here u ≡ true → r.key_of (m ++ u) ≡ Some (key, u)
unfolding r.key_of
key_again (l.plain {s} is) u here = ap r.key_of (append_assoc s (58 ∷ []) u) ∙ go s (head_plain s is) is
  where
    go : (s : List ℕ) → Plain s (58 ∷ []) → IsTrue (is_plain s (58 ∷ []) && means_text s) → r.quoted_or r.past_colon r.colon_key (s ++ 58 ∷ u) ≡ Some (s, u)
    go [] q is = absurd (false≢true q.begins_well)
    go (c ∷ s) q is =
        let first = first_parts c s (58 ∷ []) q.begins_well in
        quoted_or_other r.past_colon r.colon_key c (s ++ 58 ∷ u) (not_sign first 34 refl) (not_sign first 39 refl) ∙ (ap r.plain_key (colon_again (c ∷ s) u q.colons here) ∙ rw is refl)
key_again (l.quoted {s} {k} q) u here =
    ap r.key_of (append_assoc s (58 ∷ []) u) ∙ (quoted_or_again r.past_colon r.colon_key q (58 ∷ u) refl ∙ rw here refl)

-- a key is no item
pub no_item_key : {m key : List ℕ} → Head Mapped m key → (u : List ℕ) → (c : ℕ) (w : List ℕ) → m ++ u ≡ c ∷ w → (eqb c 45 && parts_here w) ≡ false
no_item_key (l.plain {s} is) u c w e = go s (head_plain s is) (sym (append_assoc s (58 ∷ []) u) ∙ e)
  where
    here_append : (s u : List ℕ) → parts_here (s ++ 58 ∷ u) ≡ parts_here (s ++ 58 ∷ [])
    here_append [] u = refl
    here_append (d ∷ s) u = refl

    go : (s : List ℕ) → Plain s (58 ∷ []) → s ++ 58 ∷ u ≡ c ∷ w → (eqb c 45 && parts_here w) ≡ false
    go [] q e = absurd (false≢true q.begins_well)
    go (d ∷ s) q e =
        let first = first_parts d s (58 ∷ []) q.begins_well in
        let same : d ≡ c = cc in let rest : s ++ 58 ∷ u ≡ w = cc in
        subst (λ (z : ℕ). (eqb z 45 && parts_here w) ≡ false) same (subst (λ (z : List ℕ). (eqb d 45 && parts_here z) ≡ false) rest (ap (λ (z : Bool). eqb d 45 && z) (here_append s u) ∙ first.no_item))
no_item_key (l.quoted (l.double q)) u c w e = let same : 34 ≡ c = cc in subst (λ (z : ℕ). (eqb z 45 && parts_here w) ≡ false) same refl
no_item_key (l.quoted (l.single q)) u c w e = let same : 39 ≡ c = cc in subst (λ (z : ℕ). (eqb z 45 && parts_here w) ≡ false) same refl

no_key : (key u : List ℕ) → r.key_of [] ≡ Some (key, u) → ⊥
unfolding r.key_of
no_key key u e = cc

pub sees_head : {k : Group} {m key : List ℕ} → Head k m key → (u : List ℕ) → parts_here u ≡ true → r.sees (m ++ u) ≡ r.behind k key (length m) u
unfolding r.sees
sees_head l.dash u here = rw here refl
sees_head {k = Mapped} {m} {key} head u here = go (m ++ u) refl (key_again head u here)
  where
    go : (w : List ℕ) → m ++ u ≡ w → r.key_of w ≡ Some (key, u) → r.sees w ≡ r.behind Mapped key (length m) u
    go [] e is = absurd (no_key key u is)
    go (c ∷ w) e is =
        let long : length (c ∷ w) - length u ≡ length m = omega (arith, ap length e, length-append m u) in
        rw (no_item_key head u c w e) (ap (r.sees_key (length (c ∷ w))) is ∙ ap (λ (n : ℕ). r.behind Mapped key n u) long)

tail_here : {t : List ℕ} → IsTail t → parts_here t ≡ true
tail_here l.nothing = refl
tail_here (l.space q) = refl
tail_here l.comment = refl

pub sees_bare : {k : Group} {m t key : List ℕ} → Head k m key → IsTail t → r.sees (m ++ t) ≡ sight.Bare k key
sees_bare {t = t} head tail = sees_head head t (tail_here tail) ∙ rw (tail_true tail) refl

pub solid_spaces : (i : ℕ) (v : List ℕ) → IsTrue (is_solid v) → (r.is_tail (spaces i ++ v) ≡ false) × (r.front (spaces i ++ v) ≡ i) × (r.past (spaces i ++ v) ≡ v)
solid_spaces zero [] is = absurd (false≢true is)
solid_spaces zero (c ∷ v) is = let both = and_parts (not (eqb c 32)) _ is in let clear = not-true _ both.0 in (and_left _ _ clear, rw clear refl, rw clear refl)
solid_spaces (suc i) v is = let inner = solid_spaces i v is in (or_from _ _ inner.0 (no_hash i v is), ap suc inner.1, inner.2)
  where
    no_hash : (i : ℕ) (v : List ℕ) → IsTrue (is_solid v) → begins 35 (spaces i ++ v) ≡ false
    no_hash zero [] is = refl
    no_hash zero (c ∷ v) is = not-true _ (and_parts (not (eqb c 32)) _ is).1
    no_hash (suc i) v is = refl

pub sees_before : {k : Group} {m key : List ℕ} → Head k m key → (i : ℕ) (v : List ℕ) → IsTrue (is_solid v) → r.sees (m ++ (spaces (suc i) ++ v)) ≡ sight.Before k key (length m + suc i)
sees_before {k} {m} {key} head i v solid =
    let inner = solid_spaces (suc i) v solid in
    sees_head head (spaces (suc i) ++ v) refl ∙ rw inner.0 (ap (λ (n : ℕ). sight.Before k key (length m + n)) inner.1)

-- what follows the spaces
pub drop_spaces : (m : List ℕ) (i : ℕ) (v : List ℕ) → drop (length m + i) (m ++ (spaces i ++ v)) ≡ v
drop_spaces m i v = drop_before m v (m ++ (spaces i ++ v)) i (length m + i) refl refl
