-- A line is the text of one head.
use Rattle.std.proofs.Common.{◌≡◌, ℕ, zero, suc, ◌<◌, ◌≤◌, ◌^◌, nat_lt, Bool, true, false, not, ◌&&◌, List, [], ◌∷◌, ◌++◌, length, drop, get_or, slice_get, Option, None, Some, IsTrue, AllPairs, codes, refl, sym, ap, ◌∙◌, subst, arith, ⊎_elim}
use Rattle.std.specs.Option.{option_map_or, is_some}
use Rattle.std.specs.Fmt.{decimal}
use Rattle.std.specs.Str.{all_ascii_digits}
use Rattle.std.specs.Char.{is_ascii_digit}
use Rattle.std.proofs.lemmas.Bool.{cases_lt, ltb-true, lt-ltb, false≢true}
use Rattle.std.proofs.lemmas.List.{append_cancel_left}
use Rattle.std.proofs.lemmas.Option.{none-some, same_Some}
use Rattle.std.proofs.lemmas.Fmt.{decimal_injective, digits_decimal}
use Rattle.std.proofs.lemmas.Str.Parse.{numerals_by_value, tells_all_ascii_digits}
use Rattle.udb_base.specs.declared.spaces.Space.{Space}
use Rattle.udb_spec.specs.Lawful.{name_lt, Lawful}
use Rattle.udb_spec.specs.ProofText.{leaf_text, split_text, cut_text, kind_text, name_at, has_place, HasShortPlaces}
use Rattle.udb_check.specs.declared.heads.Head.{Head}
use Rattle.udb_check.specs.declared.heads.Head.TheVariants.{Leaf, Split, Cut}
use Rattle.udb_base.specs.Fronts.{after, IsNumberOf}
use Rattle.udb_base.proofs.FrontLemmas.{after-is, not-after}
use Rattle.udb_check.specs.Heads.{head_text, is_head, IsHeadOf, IsNumberAfter, places, named_text, IsNamedBy, IsLeafAfter, IsSplitAfter, IsCutAfter}
use Rattle.udb_check.proofs.NodeLaws.{irreflexive}

both-right : (a b : Bool) → (a && b) ≡ true → b ≡ true
both-right true b e = e
both-right false b e = absurd (false≢true e)

both-left : (a b : Bool) → (a && b) ≡ true → a ≡ true
both-left true b e = refl
both-left false b e = absurd (false≢true e)

both-true : (a b : Bool) → a ≡ true → b ≡ true → (a && b) ≡ true
both-true true b e f = f
both-true false b e f = absurd (false≢true e)

-- what an item is doesn't depend on what stands past the end
pub get-other : {X : Type 0} (xs : List X) (i : ℕ) (d e : X) → i < length xs → get_or xs i e ≡ get_or xs i d
get-other [] i d e lt = absurd (omega arith)
get-other (x ∷ xs) zero d e lt = refl
get-other (x ∷ xs) (suc i) d e lt = get-other xs i d e (omega arith)

-- ---- numbers

pub number-after : (name text rest digits : List ℕ) (o : Option ℕ) → Some rest ≡ after name text → Some digits ≡ after (32 ∷ []) rest → IsNumberOf digits o → IsNumberAfter name text o
number-after name text rest digits (Some n) first second h =
    (ap (λ d. name ++ (32 ∷ d)) h.0 ∙ ap (λ r. name ++ r) (after-is (32 ∷ []) rest digits (sym second)) ∙ after-is name text rest (sym first), h.1)
number-after name text rest digits None first second h =
    λ n small is.
    let whole : name ++ (32 ∷ decimal n) ≡ name ++ rest = is ∙ sym (after-is name text rest (sym first)) in
    let tails : 32 ∷ decimal n ≡ 32 ∷ digits = append_cancel_left name (32 ∷ decimal n) rest whole ∙ sym (after-is (32 ∷ []) rest digits (sym second)) in
    h n small (ap (drop 1) tails)

pub no-name : (name text : List ℕ) → None ≡ after name text → IsNumberAfter name text None
no-name name text none = λ n small is. not-after name text (32 ∷ decimal n) none is

pub no-space : (name text rest : List ℕ) → Some rest ≡ after name text → None ≡ after (32 ∷ []) rest → IsNumberAfter name text None
no-space name text rest first none =
    λ n small is. not-after (32 ∷ []) rest (decimal n) none (append_cancel_left name (32 ∷ decimal n) rest (is ∙ sym (after-is name text rest (sym first))))

-- ---- places

slice-has : {X : Type 0} (xs : List X) (i : ℕ) → is_some (slice_get xs i) ≡ true → i < length xs
slice-has [] i e = absurd (false≢true e)
slice-has (x ∷ xs) zero e = omega arith
slice-has (x ∷ xs) (suc i) e = omega (arith, slice-has xs i e)

has-slice : {X : Type 0} (xs : List X) (i : ℕ) → i < length xs → is_some (slice_get xs i) ≡ true
has-slice [] i lt = absurd (omega arith)
has-slice (x ∷ xs) zero lt = refl
has-slice (x ∷ xs) (suc i) lt = has-slice xs i (omega arith)

pub has-place : (space : Space) (param : Bool) (place : ℕ) → IsTrue (has_place space param place) → place < places space param
has-place space true place h = slice-has space.params place h
has-place space false place h = slice-has space.extensions place h

pub place-has : (space : Space) (param : Bool) (place : ℕ) → place < places space param → IsTrue (has_place space param place)
place-has space true place lt = has-slice space.params place lt
place-has space false place lt = has-slice space.extensions place lt

pub places-short : (space : Space) (param : Bool) → HasShortPlaces space → places space param < 2 ^ 32
places-short space true h = h.params
places-short space false h = h.extensions

pub ruleset place_laws = (place-has, places-short)

-- ---- a name and a number after a space are told apart

digits-split : (xs es : List ℕ) → all_ascii_digits (xs ++ (32 ∷ es)) ≡ true → ⊥
digits-split [] es e = false≢true e
digits-split (x ∷ xs) es e = digits-split xs es (both-right (is_ascii_digit x) (all_ascii_digits (xs ++ (32 ∷ es))) e)

parted : (a b ds es : List ℕ) → all_ascii_digits ds ≡ true → all_ascii_digits es ≡ true → a ++ (32 ∷ ds) ≡ b ++ (32 ∷ es) → (a ≡ b) × (ds ≡ es)
parted [] [] ds es hd he e = (refl, ap (drop 1) e)
parted [] (y ∷ b) ds es hd he e = absurd (digits-split b es (sym (ap all_ascii_digits (ap (drop 1) e)) ∙ hd))
parted (x ∷ a) [] ds es hd he e = absurd (digits-split a ds (ap all_ascii_digits (ap (drop 1) e) ∙ he))
parted (x ∷ a) (y ∷ b) ds es hd he e =
    let rest = parted a b ds es hd he (ap (drop 1) e) in
    let first : x ≡ y = ap (λ xs. get_or xs 0 0) e in
    (ap (λ z. z ∷ a) first ∙ ap (λ zs. y ∷ zs) rest.0, rest.1)

digits-of : (n : ℕ) → n < 2 ^ 64 → all_ascii_digits (decimal n) ≡ true
digits-of n small = digits_decimal (numerals_by_value (λ ds. all_ascii_digits ds ≡ true) tells_all_ascii_digits) n small

name-number : (a b : List ℕ) (m n : ℕ) → m < 2 ^ 64 → n < 2 ^ 64 → a ++ (32 ∷ decimal m) ≡ b ++ (32 ∷ decimal n) → (a ≡ b) × (m ≡ n)
name-number a b m n sm sn e = let parts = parted a b (decimal m) (decimal n) (digits-of m sm) (digits-of n sn) e in (parts.0, decimal_injective m n sm sn parts.1)

-- ---- the head of a line, after the words of its kind

pub leaf-after : (text : List ℕ) (n : ℕ) → decimal n ≡ text → n < 2 ^ 64 → 2 ^ 32 ≤ n → IsLeafAfter text None
leaf-after text n is small big = λ m short e. let same : m ≡ n = decimal_injective m n (omega arith) small (e ∙ sym is) in omega arith

pub no-leaf : (text : List ℕ) → IsNumberOf text None → IsLeafAfter text None
no-leaf text none = λ n short is. none n (omega arith) is

pub split-after : (space : Space) (param : Bool) (text : List ℕ) (place n : ℕ) → named_text space param place n ≡ text → n < 2 ^ 64 → 2 ^ 32 ≤ n → IsSplitAfter space param text None
split-after space param text place n is small big = λ q m there short e. let same : m ≡ n = (name-number (name_at space param q) (name_at space param place) m n (omega arith) small (e ∙ sym is)).1 in omega arith

pub no-split : (space : Space) (param : Bool) (text : List ℕ) → IsNamedBy space param text None → IsSplitAfter space param text None
no-split space param text none = λ place n there short is. none place n there (omega arith) is

pub leaf-head : (space : Space) (line text : List ℕ) (o : Option Head) → Some text ≡ after (codes "leaf ") line → IsLeafAfter text o → IsHeadOf space line o
leaf-head space line text (Some head) e h =
    subst (λ x. (head_text space x ≡ line) × IsTrue (is_head space x)) (sym h.1)
    (ap (λ d. codes "leaf " ++ d) h.3 ∙ after-is (codes "leaf ") line text (sym e), lt-ltb h.0 (2 ^ 32) h.2)
leaf-head space line text None e h = λ head fits is. by_head head fits (e ∙ ap (after (codes "leaf ")) (sym is)) where
  by_head : (head : Head) → IsTrue (is_head space head) → Some text ≡ after (codes "leaf ") (head_text space head) → ⊥
  by_head (Leaf n) fits k = h n (ltb-true n (2 ^ 32) fits) (sym (same_Some text (decimal n) k))
  by_head (Split param place n) fits k = none-some text (sym k)
  by_head (Cut place n) fits k = none-some text (sym k)

split-own : (space : Space) (param : Bool) (place n : ℕ) → Some (named_text space param place n) ≡ after (codes "split " ++ kind_text param) (split_text space param place n)
split-own space true place n = refl
split-own space false place n = refl

split-other : (space : Space) (param : Bool) (place n : ℕ) → None ≡ after (codes "split " ++ kind_text (not param)) (split_text space param place n)
split-other space true place n = refl
split-other space false place n = refl

split-line : (space : Space) (param : Bool) (place n : ℕ) → split_text space param place n ≡ (codes "split " ++ kind_text param) ++ named_text space param place n
split-line space true place n = refl
split-line space false place n = refl

pub split-head : (space : Space) (param : Bool) (line text : List ℕ) (o : Option Head) → Some text ≡ after (codes "split " ++ kind_text param) line → IsSplitAfter space param text o → IsHeadOf space line o
split-head space param line text (Some head) e h =
    subst (λ x. (head_text space x ≡ line) × IsTrue (is_head space x)) (sym h.2)
    (split-line space param h.0 h.1 ∙ ap (λ d. (codes "split " ++ kind_text param) ++ d) h.5 ∙ after-is (codes "split " ++ kind_text param) line text (sym e), both-true (has_place space param h.0) (nat_lt h.1 (2 ^ 32)) h.3 (lt-ltb h.1 (2 ^ 32) h.4))
split-head space param line text None e h = λ head fits is. by_head head fits (e ∙ ap (after (codes "split " ++ kind_text param)) (sym is)) where
  apart : (q : Bool) → q ≡ param → (place n : ℕ) → IsTrue (has_place space q place && nat_lt n (2 ^ 32)) → Some text ≡ after (codes "split " ++ kind_text param) (split_text space q place n) → ⊥
  apart q same place n fits k =
      h place n (both-left (has_place space param place) (nat_lt n (2 ^ 32)) (subst (λ b. IsTrue (has_place space b place && nat_lt n (2 ^ 32))) same fits)) (ltb-true n (2 ^ 32) (both-right (has_place space q place) (nat_lt n (2 ^ 32)) fits))
      (sym (same_Some text (named_text space param place n) (k ∙ ap (λ b. after (codes "split " ++ kind_text param) (split_text space b place n)) same ∙ sym (split-own space param place n))))

  by_kind : (q r : Bool) → r ≡ param → (place n : ℕ) → IsTrue (has_place space q place && nat_lt n (2 ^ 32)) → Some text ≡ after (codes "split " ++ kind_text r) (split_text space q place n) → ⊥
  by_kind true true same place n fits k = apart true same place n fits (k ∙ ap (λ b. after (codes "split " ++ kind_text b) (split_text space true place n)) same)
  by_kind false false same place n fits k = apart false same place n fits (k ∙ ap (λ b. after (codes "split " ++ kind_text b) (split_text space false place n)) same)
  by_kind true false same place n fits k = none-some text (split-other space true place n ∙ sym k)
  by_kind false true same place n fits k = none-some text (split-other space false place n ∙ sym k)

  not-leaf : (r : Bool) (n : ℕ) → Some text ≡ after (codes "split " ++ kind_text r) (leaf_text n) → ⊥
  not-leaf true n k = none-some text (sym k)
  not-leaf false n k = none-some text (sym k)

  not-cut : (r : Bool) (place n : ℕ) → Some text ≡ after (codes "split " ++ kind_text r) (cut_text space place n) → ⊥
  not-cut true place n k = none-some text (sym k)
  not-cut false place n k = none-some text (sym k)

  by_head : (head : Head) → IsTrue (is_head space head) → Some text ≡ after (codes "split " ++ kind_text param) (head_text space head) → ⊥
  by_head (Leaf n) fits k = not-leaf param n k
  by_head (Split q place n) fits k = by_kind q param refl place n fits k
  by_head (Cut place n) fits k = not-cut param place n k

pub cut-head : (space : Space) (line text : List ℕ) (o : Option Head) → Some text ≡ after (codes "cut parameter ") line → IsCutAfter space text o → IsHeadOf space line o
cut-head space line text (Some head) e h =
    subst (λ x. (head_text space x ≡ line) × IsTrue (is_head space x)) (sym h.2)
    (ap (λ d. codes "cut parameter " ++ d) h.5 ∙ after-is (codes "cut parameter ") line text (sym e), both-true (has_place space true h.0) (nat_lt h.1 (2 ^ 64)) h.3 (lt-ltb h.1 (2 ^ 64) h.4))
cut-head space line text None e h = λ head fits is. by_head head fits (e ∙ ap (after (codes "cut parameter ")) (sym is)) where
  by_head : (head : Head) → IsTrue (is_head space head) → Some text ≡ after (codes "cut parameter ") (head_text space head) → ⊥
  by_head (Leaf n) fits k = none-some text (sym k)
  by_head (Split param place n) fits k = none-some text (sym k)
  by_head (Cut place n) fits k = h place n (both-left (has_place space true place) (nat_lt n (2 ^ 64)) fits) (ltb-true n (2 ^ 64) (both-right (has_place space true place) (nat_lt n (2 ^ 64)) fits)) (sym (same_Some text (named_text space true place n) k))

pub no-head : (space : Space) (line : List ℕ) → None ≡ after (codes "leaf ") line → None ≡ after (codes "split extension ") line → None ≡ after (codes "split parameter ") line → None ≡ after (codes "cut parameter ") line → IsHeadOf space line None
no-head space line l e p k = λ head fits is. by_head head is where
  by_head : (head : Head) → head_text space head ≡ line → ⊥
  by_head (Leaf n) is = not-after (codes "leaf ") line (decimal n) l is
  by_head (Split true place n) is = not-after (codes "split parameter ") line (named_text space true place n) p is
  by_head (Split false place n) is = not-after (codes "split extension ") line (named_text space false place n) e is
  by_head (Cut place n) is = not-after (codes "cut parameter ") line (named_text space true place n) k is

-- ---- a text is of one head

name-apart : (a b : List ℕ) → IsTrue (name_lt a b) → a ≡ b → ⊥
name-apart a b lt is = false≢true (sym (irreflexive b) ∙ subst (λ x. name_lt x b ≡ true) is lt)

slice-name : {X : Type 0} (f : X → List ℕ) (xs : List X) (i : ℕ) → is_some (slice_get xs i) ≡ true → (x : X) × (slice_get xs i ≡ Some x) × (get_or xs i x ≡ x) × (i < length xs)
slice-name f [] i e = absurd (false≢true e)
slice-name f (x ∷ xs) zero e = (x, refl, refl, omega arith)
slice-name f (x ∷ xs) (suc i) e = let rest = slice-name f xs i e in (rest.0, rest.1, rest.2, omega (arith, rest.3))

module _ {X : Type 0} (f : X → List ℕ) (xs : List X) (rising : AllPairs (λ a b. IsTrue (name_lt (f a) (f b))) xs) where
  abbrev N : ℕ → List ℕ
  N i = option_map_or f (slice_get xs i) []

  below-apart : (i j : ℕ) → is_some (slice_get xs i) ≡ true → is_some (slice_get xs j) ≡ true → i < j → N i ≡ N j → ⊥
  below-apart i j hi hj lt is =
      let a = slice-name f xs i hi in
      let b = slice-name f xs j hj in
      let at : get_or xs i b.0 ≡ a.0 = get-other xs i a.0 b.0 a.3 ∙ a.2 in
      let names : f a.0 ≡ f b.0 = ap (λ o. option_map_or f o []) (sym a.1) ∙ is ∙ ap (λ o. option_map_or f o []) b.1 in
      name-apart (f a.0) (f b.0) (subst (λ x. IsTrue (name_lt x (f b.0))) (ap f at) (subst (λ x. IsTrue (name_lt (f (get_or xs i b.0)) (f x))) b.2 (rising i j b.0 lt b.3))) names

  place-unique : (i j : ℕ) → is_some (slice_get xs i) ≡ true → is_some (slice_get xs j) ≡ true → N i ≡ N j → i ≡ j
  place-unique i j hi hj is =
      ⊎_elim (λ (lt : i < j). absurd (below-apart i j hi hj lt is)) (λ (ge : j ≤ i).
      ⊎_elim (λ (lt : j < i). absurd (below-apart j i hj hi lt (sym is))) (λ (le : i ≤ j). omega arith) (cases_lt j i)) (cases_lt i j)

named-unique : (space : Space) → Lawful space → (param : Bool) (i j : ℕ) → IsTrue (has_place space param i) → IsTrue (has_place space param j) → name_at space param i ≡ name_at space param j → i ≡ j
named-unique space lawful true i j hi hj is = place-unique (λ p. p.name) space.params lawful.param_names i j hi hj is
named-unique space lawful false i j hi hj is = place-unique (λ e. e.name) space.extensions lawful.extension_names i j hi hj is

first-byte : (xs ys : List ℕ) → xs ≡ ys → get_or xs 0 0 ≡ get_or ys 0 0
first-byte xs ys e = ap (λ zs. get_or zs 0 0) e

-- the head that a text is, is the only one
pub head-unique : (space : Space) → Lawful space → (a b : Head) → IsTrue (is_head space a) → IsTrue (is_head space b) → head_text space a ≡ head_text space b → a ≡ b
head-unique space lawful (Leaf m) (Leaf n) ha hb is = ap Leaf (decimal_injective m n (omega (arith, ltb-true m (2 ^ 32) ha)) (omega (arith, ltb-true n (2 ^ 32) hb)) (append_cancel_left (codes "leaf ") (decimal m) (decimal n) is))
head-unique space lawful (Leaf m) (Split q j n) ha hb is = let e : 108 ≡ 115 = first-byte (leaf_text m) (split_text space q j n) is in absurd (omega (arith, e))
head-unique space lawful (Leaf m) (Cut j n) ha hb is = let e : 108 ≡ 99 = first-byte (leaf_text m) (cut_text space j n) is in absurd (omega (arith, e))
head-unique space lawful (Split p i m) (Leaf n) ha hb is = let e : 115 ≡ 108 = first-byte (split_text space p i m) (leaf_text n) is in absurd (omega (arith, e))
head-unique space lawful (Split p i m) (Cut j n) ha hb is = let e : 115 ≡ 99 = first-byte (split_text space p i m) (cut_text space j n) is in absurd (omega (arith, e))
head-unique space lawful (Cut i m) (Leaf n) ha hb is = let e : 99 ≡ 108 = first-byte (cut_text space i m) (leaf_text n) is in absurd (omega (arith, e))
head-unique space lawful (Cut i m) (Split q j n) ha hb is = let e : 99 ≡ 115 = first-byte (cut_text space i m) (split_text space q j n) is in absurd (omega (arith, e))
head-unique space lawful (Cut i m) (Cut j n) ha hb is =
    let lm : m < 2 ^ 64 = ltb-true m (2 ^ 64) (both-right (has_place space true i) (nat_lt m (2 ^ 64)) ha) in
    let ln : n < 2 ^ 64 = ltb-true n (2 ^ 64) (both-right (has_place space true j) (nat_lt n (2 ^ 64)) hb) in
    let parts = name-number (name_at space true i) (name_at space true j) m n lm ln (append_cancel_left (codes "cut parameter ") (named_text space true i m) (named_text space true j n) is) in
    let place : i ≡ j = named-unique space lawful true i j (both-left (has_place space true i) (nat_lt m (2 ^ 64)) ha) (both-left (has_place space true j) (nat_lt n (2 ^ 64)) hb) parts.0 in
    ap (λ x. Cut x m) place ∙ ap (Cut j) parts.1
head-unique space lawful (Split p i m) (Split q j n) ha hb is = by_kind p q refl ha hb is where
  same_kind : (r : Bool) → IsTrue (has_place space r i && nat_lt m (2 ^ 32)) → IsTrue (has_place space r j && nat_lt n (2 ^ 32)) → (codes "split " ++ kind_text r) ++ named_text space r i m ≡ (codes "split " ++ kind_text r) ++ named_text space r j n → Split r i m ≡ Split r j n
  same_kind r ga gb e =
      let lm : m < 2 ^ 32 = ltb-true m (2 ^ 32) (both-right (has_place space r i) (nat_lt m (2 ^ 32)) ga) in
      let ln : n < 2 ^ 32 = ltb-true n (2 ^ 32) (both-right (has_place space r j) (nat_lt n (2 ^ 32)) gb) in
      let parts = name-number (name_at space r i) (name_at space r j) m n (omega arith) (omega arith) (append_cancel_left (codes "split " ++ kind_text r) (named_text space r i m) (named_text space r j n) e) in
      let place : i ≡ j = named-unique space lawful r i j (both-left (has_place space r i) (nat_lt m (2 ^ 32)) ga) (both-left (has_place space r j) (nat_lt n (2 ^ 32)) gb) parts.0 in
      ap (λ x. Split r x m) place ∙ ap (Split r j) parts.1

  by_kind : (r s : Bool) → r ≡ p → IsTrue (has_place space r i && nat_lt m (2 ^ 32)) → IsTrue (has_place space s j && nat_lt n (2 ^ 32)) → split_text space r i m ≡ split_text space s j n → Split r i m ≡ Split s j n
  by_kind true true e ga gb h = same_kind true ga gb h
  by_kind false false e ga gb h = same_kind false ga gb h
  by_kind true false e ga gb h = let k : 112 ≡ 101 = ap (λ zs. get_or zs 6 0) h in absurd (omega (arith, k))
  by_kind false true e ga gb h = let k : 101 ≡ 112 = ap (λ zs. get_or zs 6 0) h in absurd (omega (arith, k))
