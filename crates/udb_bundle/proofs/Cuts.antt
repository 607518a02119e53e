-- Where bytes are cut: at the first line feed, and at the first space.
use Rattle.std.proofs.Common.{◌≡◌, ◌≢◌, ◌⊎◌, inl, inr, ℕ, suc, ◌+◌, ◌<◌, ◌≤◌, ◌==◌, nat_lt, Bool, true, false, cond, List, [], ◌∷◌, ◌++◌, length, get_or, take, drop, Option, Some, None, position, refl, sym, ap, ◌∙◌, subst, arith, MatchOption, Bor, lit<}
use Rattle.std.proofs.lemmas.Str.Pattern.{IsSplitOnceResult, split_parts}
use Rattle.std.specs.List.{position_or_len}
use Rattle.std.proofs.lemmas.Bool.{cases_lt, lt-ltb, le-ltb, ne_eqb}
use Rattle.std.proofs.lemmas.Option.{same_Some, none-some}
use Rattle.udb_bundle.specs.Bundles.{lines_of, with_first}
use Rattle.udb_bundle.specs.Reading.{is_feed, cut, with_byte}

-- ---- lines

feed_some_by : (p n at : ℕ) → (p < n) ⊎ (n ≤ p) → cond (nat_lt p n) (Some p) None ≡ Some at → (at ≡ p) × (at < n)
feed_some_by p n at (inl l) e = let f : Some p ≡ Some at = rw (lt-ltb p n l) at e in (cc, subst (λ k. k < n) (same_Some p at f) l)
feed_some_by p n at (inr l) e = let f : None ≡ Some at = rw (le-ltb p n l) at e in absurd (none-some at f)

feed_none_by : (p n : ℕ) → (p < n) ⊎ (n ≤ p) → cond (nat_lt p n) (Some p) None ≡ None → n ≤ p
feed_none_by p n (inl l) e = let f : Some p ≡ None = rw (lt-ltb p n l) at e in absurd (none-some p (sym f))
feed_none_by p n (inr l) e = l

pub feed_some : (bs : List ℕ) (at : ℕ) → position is_feed bs ≡ Some at → (at ≡ position_or_len is_feed bs) × (at < length bs)
feed_some bs at e = feed_some_by (position_or_len is_feed bs) (length bs) at (cases_lt (position_or_len is_feed bs) (length bs)) e

pub feed_none : (bs : List ℕ) → position is_feed bs ≡ None → length bs ≤ position_or_len is_feed bs
feed_none bs e = feed_none_by (position_or_len is_feed bs) (length bs) (cases_lt (position_or_len is_feed bs) (length bs)) e

-- the first line ends at the first line feed
abbrev IsCut : List ℕ → Type 0
IsCut bs = position_or_len is_feed bs < length bs → lines_of bs ≡ take (position_or_len is_feed bs) bs ∷ lines_of (drop 1 (drop (position_or_len is_feed bs) bs))

lines_cut_byte : (t : Bool) (b : ℕ) (bs : List ℕ) → (b == 10) ≡ t → IsCut bs → IsCut (b ∷ bs)
lines_cut_byte true b bs e h l = rw e refl
lines_cut_byte false b bs e h l = let m : 1 + position_or_len is_feed bs < length (b ∷ bs) = rw e at l in
    let one : 1 + position_or_len is_feed bs ≡ suc (position_or_len is_feed bs) = omega arith in
    rw (e, one) (ap (with_first b) (h (omega arith)))

lines_cut_at : (bs : List ℕ) → IsCut bs
lines_cut_at [] h = absurd (omega arith)
lines_cut_at (b ∷ bs) h = lines_cut_byte (b == 10) b bs refl (lines_cut_at bs) h

pub lines_cut : (bs : List ℕ) (at : ℕ) → (at ≡ position_or_len is_feed bs) × (at < length bs) → lines_of bs ≡ take at bs ∷ lines_of (drop 1 (drop at bs))
lines_cut bs at h = rw h.0 (lines_cut_at bs (subst (λ k. k < length bs) h.0 h.1))

abbrev IsLast : List ℕ → Type 0
IsLast bs = length bs ≤ position_or_len is_feed bs → lines_of bs ≡ bs ∷ []

last_byte : (t : Bool) (b c : ℕ) (bs : List ℕ) → (b == 10) ≡ t → IsLast (c ∷ bs) → IsLast (b ∷ c ∷ bs)
last_byte true b c bs e h m = let f : length (b ∷ c ∷ bs) ≤ 0 = rw e at m in absurd (omega arith)
last_byte false b c bs e h m = let f : length (b ∷ c ∷ bs) ≤ 1 + position_or_len is_feed (c ∷ bs) = rw e at m in rw e (ap (with_first b) (h (omega arith)))

last_alone : (t : Bool) (b : ℕ) → (b == 10) ≡ t → IsLast (b ∷ [])
last_alone true b e m = let f : 1 ≤ 0 = rw e at m in absurd (omega arith)
last_alone false b e m = rw e refl

-- without a line feed there is one line
pub lines_last : (bs : List ℕ) → 0 < length bs → IsLast bs
lines_last [] l h = absurd (omega arith)
lines_last (b ∷ []) l h = last_alone (b == 10) b refl h
lines_last (b ∷ c ∷ bs) l h = last_byte (b == 10) b c bs refl (lines_last (c ∷ bs) (omega arith)) h

-- ---- words

no_space_here : (b : ℕ) (bs : List ℕ) → ((i : ℕ) → i < length (b ∷ bs) → get_or (b ∷ bs) i 0 ≢ 32) → (b == 32) ≡ false
no_space_here b bs h = ne_eqb b 32 (h 0 (omega arith))

-- without a space there is no cut
pub cut_none : (bs : List ℕ) → ((i : ℕ) → i < length bs → get_or bs i 0 ≢ 32) → cut bs ≡ None
cut_none [] h = refl
cut_none (b ∷ bs) h = rw (no_space_here b bs h) (ap (with_byte b) (cut_none bs (λ i l. h (suc i) (omega arith))))

-- a cut stands at the first space
pub cut_some : (a rest : List ℕ) → ((i : ℕ) → i < length a → get_or a i 0 ≢ 32) → cut (a ++ 32 ∷ rest) ≡ Some (a, rest)
cut_some [] rest h = refl
cut_some (b ∷ bs) rest h = rw (no_space_here b bs h) (ap (with_byte b) (cut_some bs rest (λ i l. h (suc i) (omega arith))))

-- what `split_once` gives at a space
pub cut_answer : (bs : List ℕ) (r : Option (Bor (List ℕ) × Bor (List ℕ))) → IsSplitOnceResult 32 bs r → MatchOption r (cut bs ≡ None) (λ p. cut bs ≡ Some (p.0.now, p.1.now))
cut_answer bs r h = by_parts bs r (split_parts 32 bs r h (lit< tt))
  where
    by_parts : (bs : List ℕ) (r : Option (Bor (List ℕ) × Bor (List ℕ))) → MatchOption r ((i : ℕ) → i < length bs → get_or bs i 0 ≢ 32) (λ x. (bs ≡ x.0.now ++ (32 ∷ x.1.now)) × ((i : ℕ) → i < length x.0.now → get_or x.0.now i 0 ≢ 32)) → MatchOption r (cut bs ≡ None) (λ p. cut bs ≡ Some (p.0.now, p.1.now))
    by_parts bs None p = cut_none bs p
    by_parts bs (Some x) p = ap cut p.0 ∙ cut_some x.0.now x.1.now p.1
