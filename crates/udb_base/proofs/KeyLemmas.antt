-- Rows in order are those before a key, perhaps the one with it, and those after it.
use Rattle.std.proofs.Common.{◌≡◌, ℕ, suc, ◌+◌, ◌<◌, ◌≤◌, Bool, true, false, cond, List, [], ◌∷◌, ◌++◌, length, take, drop, get_or, refl, ap, sym, ◌∙◌, subst, arith, append-nil, take-append-drop, get_or-take, get_or-drop, length-take, length-drop}
use Rattle.std.specs.Prelude.{All, AllPairs}
use Rattle.std.specs.List.{filter, insert, remove, slice_set}
use Rattle.std.specs.Ordering.{is_lt, ordering_reverse}
use Rattle.std.specs.declared.cmp.Ordering.{Ordering}
use Rattle.std.specs.declared.cmp.Ordering.TheVariants.{Less, Equal, Greater}
use Rattle.std.proofs.lemmas.List.{drop_more, get_or_default, drop_all, set_split}
use Rattle.std.proofs.lemmas.List.Elements.{All-append, All-cons, All-tail, All-nil, All-filter, All-contains, All-weaker, filter-append, filter_passes}
use Rattle.std.proofs.lemmas.List.Kept.{AllPairs-cons, AllPairs-filter}
use Rattle.udb_base.specs.declared.kinds.Kind.{Kind}
use Rattle.udb_base.specs.declared.rows.Row.{Row}
use Rattle.udb_base.specs.Order.{key_lt, key_cmp, row_lt, IsInOrder}
use Rattle.udb_base.specs.Tables.{IsRow, IsTables, IsRowOf, StandsAt, BelongsAt, Turns, rows_before, rows_after, with_row, without_row}
use Rattle.udb_base.proofs.OrderLemmas.{row_total, row_lt-cmp, tie_is, one_way}

less : (o : Ordering) → is_lt o ≡ true → o ≡ Less
less Less h = refl
less Equal h = absurd (cc)
less Greater h = absurd (cc)

pub row_trans : (a b c : Row) → row_lt a b ≡ true → row_lt b c ≡ true → row_lt a c ≡ true
row_trans a b c h g = sym (row_lt-cmp a c) ∙ ap is_lt (row_total.trans a b c (less _ (row_lt-cmp a b ∙ h)) (less _ (row_lt-cmp b c ∙ g)))

unless_true : (t : Bool) → (t ≡ true → ⊥) → t ≡ false
unless_true true h = absurd (h refl)
unless_true false h = refl

pub not_back : (a b : Row) → row_lt a b ≡ true → row_lt b a ≡ false
not_back a b h = unless_true (row_lt b a) (one_way a b h)

pub not_itself : (a : Row) → row_lt a a ≡ false
not_itself a = unless_true (row_lt a a) (λ h. one_way a a h h)

-- ---- filters that pass all, or none

filter_whole : (p : Row → Bool) (l : List Row) → All (λ r. p r ≡ true) l → filter p l ≡ l
filter_whole p [] h = refl
filter_whole p (x ∷ l) h = ap (λ t. cond t (x ∷ filter p l) (filter p l)) (h 0 x (omega arith)) ∙ ap (λ rest. x ∷ rest) (filter_whole p l (All-tail (λ r. p r ≡ true) x l h))

filter_nothing : (p : Row → Bool) (l : List Row) → All (λ r. p r ≡ false) l → filter p l ≡ []
filter_nothing p [] h = refl
filter_nothing p (x ∷ l) h = ap (λ t. cond t (x ∷ filter p l) (filter p l)) (h 0 x (omega arith)) ∙ filter_nothing p l (All-tail (λ r. p r ≡ false) x l h)

-- ---- rows in parts: those before a row, those of its key, those after it

pub filter_front : (d : Row) (front mid back : List Row) → All (λ r. row_lt r d ≡ true) front → All (λ r. row_lt r d ≡ false) mid → All (λ r. row_lt d r ≡ true) back → filter (λ r. row_lt r d) (front ++ (mid ++ back)) ≡ front
filter_front d front mid back f m b =
    let p : Row → Bool = λ r. row_lt r d in
    let none = All-append (λ r. row_lt r d ≡ false) mid back m (All-weaker (λ r. row_lt d r ≡ true) (λ r. row_lt r d ≡ false) (λ r h. not_back d r h) back b) in
    filter-append p front (mid ++ back) ∙ ap (λ l. l ++ filter p (mid ++ back)) (filter_whole p front f) ∙ ap (λ l. front ++ l) (filter_nothing p (mid ++ back) none) ∙ append-nil front

pub filter_back : (d : Row) (front mid back : List Row) → All (λ r. row_lt r d ≡ true) front → All (λ r. row_lt d r ≡ false) mid → All (λ r. row_lt d r ≡ true) back → filter (λ r. row_lt d r) (front ++ (mid ++ back)) ≡ back
filter_back d front mid back f m b =
    let p : Row → Bool = λ r. row_lt d r in
    let fails = All-weaker (λ r. row_lt r d ≡ true) (λ r. row_lt d r ≡ false) (λ r h. not_back r d h) front f in
    filter-append p front (mid ++ back) ∙ ap (λ l. l ++ filter p (mid ++ back)) (filter_nothing p front fails) ∙ filter-append p mid back ∙ ap (λ l. l ++ filter p back) (filter_nothing p mid m) ∙ filter_whole p back b

-- the rows before a place, and those behind it
front_lt : (l : List Row) → IsInOrder l → (n : ℕ) (x : Row) → n < length l → x ≡ get_or l n x → All (λ r. row_lt r x ≡ true) (take n l)
front_lt l o n x h e k d lt =
    let k' : k < n = omega (arith, length-take n l) in
    rw (get_or-take n l k d k') (subst (λ y. row_lt (get_or l k d) y ≡ true) (get_or_default l n d x h ∙ sym e) (o k n d k' h))

back_lt : (l : List Row) → IsInOrder l → (n : ℕ) (x : Row) → n < length l → x ≡ get_or l n x → All (λ r. row_lt x r ≡ true) (drop (n + 1) l)
back_lt l o n x h e k d lt =
    let k' : n + 1 + k < length l = omega (arith, length-drop (n + 1) l) in
    rw (get_or-drop (n + 1) l k d) (subst (λ y. row_lt y (get_or l (n + 1 + k) d) ≡ true) (get_or_default l n d x h ∙ sym e) (o n (n + 1 + k) d (omega arith) k'))

parts : (l : List Row) (n : ℕ) (x : Row) → n < length l → x ≡ get_or l n x → take n l ++ (x ∷ [] ++ drop (n + 1) l) ≡ l
parts l n x h e = ap (λ rest. take n l ++ rest) (ap (λ y. y ∷ drop (n + 1) l) e ∙ sym (drop_more l n x h)) ∙ take-append-drop n l

one_false : (x : Row) → All (λ r. row_lt r x ≡ false) (x ∷ [])
one_false x = All-cons (λ r. row_lt r x ≡ false) x [] (not_itself x) (All-nil (λ r. row_lt r x ≡ false))

one_false_back : (x : Row) → All (λ r. row_lt x r ≡ false) (x ∷ [])
one_false_back x = All-cons (λ r. row_lt x r ≡ false) x [] (not_itself x) (All-nil (λ r. row_lt x r ≡ false))

-- the place of a row that stands among rows in order
pub before_place : (l : List Row) → IsInOrder l → (n : ℕ) (x : Row) → n < length l → x ≡ get_or l n x → rows_before x.kind x.name l ≡ take n l
before_place l o n x h e = subst (λ l'. filter (λ r. row_lt r x) l' ≡ take n l) (parts l n x h e) (filter_front x (take n l) (x ∷ []) (drop (n + 1) l) (front_lt l o n x h e) (one_false x) (back_lt l o n x h e))

pub after_place : (l : List Row) → IsInOrder l → (n : ℕ) (x : Row) → n < length l → x ≡ get_or l n x → rows_after x.kind x.name l ≡ drop (n + 1) l
after_place l o n x h e = subst (λ l'. filter (λ r. row_lt x r) l' ≡ drop (n + 1) l) (parts l n x h e) (filter_back x (take n l) (x ∷ []) (drop (n + 1) l) (front_lt l o n x h e) (one_false_back x) (back_lt l o n x h e))

-- the place between rows before a row and rows after it
pub before_gap : (l : List Row) (n : ℕ) (d : Row) → All (λ r. row_lt r d ≡ true) (take n l) → All (λ r. row_lt d r ≡ true) (drop n l) → rows_before d.kind d.name l ≡ take n l
before_gap l n d f b = subst (λ l'. filter (λ r. row_lt r d) l' ≡ take n l) (take-append-drop n l) (filter_front d (take n l) [] (drop n l) f (All-nil (λ r. row_lt r d ≡ false)) b)

pub after_gap : (l : List Row) (n : ℕ) (d : Row) → All (λ r. row_lt r d ≡ true) (take n l) → All (λ r. row_lt d r ≡ true) (drop n l) → rows_after d.kind d.name l ≡ drop n l
after_gap l n d f b = subst (λ l'. filter (λ r. row_lt d r) l' ≡ drop n l) (take-append-drop n l) (filter_back d (take n l) [] (drop n l) f (All-nil (λ r. row_lt d r ≡ false)) b)

-- all rows from a place on stand after a row that the one at this place stands after
pub gap_lt : (l : List Row) → IsInOrder l → (n : ℕ) (x d : Row) → n < length l → x ≡ get_or l n x → row_lt d x ≡ true → All (λ r. row_lt d r ≡ true) (drop n l)
gap_lt l o n x d h e lt =
    subst (λ l'. All (λ r. row_lt d r ≡ true) l') (ap (λ y. y ∷ drop (n + 1) l) e ∙ sym (drop_more l n x h))
    (All-cons (λ r. row_lt d r ≡ true) x (drop (n + 1) l) lt (All-weaker (λ r. row_lt x r ≡ true) (λ r. row_lt d r ≡ true) (λ r. row_trans d x r lt) (drop (n + 1) l) (back_lt l o n x h e)))

-- ---- what an edit gives is in order

tail_pairs : (R : Row → Row → Type 0) (x : Row) (l : List Row) → AllPairs R (x ∷ l) → AllPairs R l
tail_pairs R x l h i j d lt within = h (suc i) (suc j) d (omega arith) (omega arith)

head_pairs : (R : Row → Row → Type 0) (x : Row) (l : List Row) → AllPairs R (x ∷ l) → All (R x) l
head_pairs R x l h k d within = h 0 (suc k) d (omega arith) (omega arith)

pub pairs-append : (R : Row → Row → Type 0) (xs ys : List Row) → AllPairs R xs → AllPairs R ys → All (λ x. All (R x) ys) xs → AllPairs R (xs ++ ys)
pairs-append R [] ys h g all = g
pairs-append R (x ∷ xs) ys h g all =
    AllPairs-cons R x (xs ++ ys) (All-append (R x) xs ys (head_pairs R x xs h) (all 0 x (omega arith)))
    (pairs-append R xs ys (tail_pairs R x xs h) g (All-tail (λ y. All (R y) ys) x xs all))

Lt : Row → Row → Type 0
Lt a b = row_lt a b ≡ true

cross : (d : Row) (xs ys : List Row) → All (λ r. row_lt r d ≡ true) xs → All (λ r. row_lt d r ≡ true) ys → All (λ x. All (λ y. row_lt x y ≡ true) ys) xs
cross d xs ys f b k e h j e' h' = row_trans (get_or xs k e) d (get_or ys j e') (f k e h) (b j e' h')

pub with_in_order : (row : Row) (l : List Row) → IsInOrder l → IsInOrder (with_row row l)
with_in_order row l o =
    let R : Row → Row → Type 0 = λ a b. row_lt a b ≡ true in
    let front = filter_passes (λ r. row_lt r row) l in
    let back = filter_passes (λ r. row_lt row r) l in
    pairs-append R (rows_before row.kind row.name l) (row ∷ rows_after row.kind row.name l)
    (AllPairs-filter R (λ r. row_lt r row) l o)
    (AllPairs-cons R row (rows_after row.kind row.name l) back (AllPairs-filter R (λ r. row_lt row r) l o))
    (λ k e h. All-cons (λ y. row_lt (get_or (rows_before row.kind row.name l) k e) y ≡ true) row (rows_after row.kind row.name l) (front k e h) (cross row (rows_before row.kind row.name l) (rows_after row.kind row.name l) front back k e h))

abbrev pub keyed : Kind → List ℕ → Row
keyed kind name = record { kind = kind; name = name; text = [] }

pub without_in_order : (kind : Kind) (name : List ℕ) (l : List Row) → IsInOrder l → IsInOrder (without_row kind name l)
without_in_order kind name l o =
    let R : Row → Row → Type 0 = λ a b. row_lt a b ≡ true in
    let d = keyed kind name in
    pairs-append R (rows_before kind name l) (rows_after kind name l)
    (AllPairs-filter R (λ r. row_lt r d) l o) (AllPairs-filter R (λ r. row_lt d r) l o)
    (cross d (rows_before kind name l) (rows_after kind name l) (filter_passes (λ r. row_lt r d) l) (filter_passes (λ r. row_lt d r) l))

pub with_tables : (row : Row) (l : List Row) → IsRow row → IsTables l → IsTables (with_row row l)
with_tables row l h t =
    record {
      order = with_in_order row l t.order;
      each =
          All-append IsRow (rows_before row.kind row.name l) (row ∷ rows_after row.kind row.name l) (All-filter (λ r. row_lt r row) IsRow l t.each)
          (All-cons IsRow row (rows_after row.kind row.name l) h (All-filter (λ r. row_lt row r) IsRow l t.each));
    }

pub without_tables : (kind : Kind) (name : List ℕ) (l : List Row) → IsTables l → IsTables (without_row kind name l)
without_tables kind name l t =
    record {
      order = without_in_order kind name l t.order;
      each =
          All-append IsRow (rows_before kind name l) (rows_after kind name l) (All-filter (λ r. key_lt r.kind r.name kind name) IsRow l t.each)
          (All-filter (λ r. key_lt kind name r.kind r.name) IsRow l t.each);
    }

-- ---- no row has a key between rows

same_key : (a b : Row) → a.kind ≡ b.kind → a.name ≡ b.name → row_lt a b ≡ false
same_key a b k n = ap (λ m. key_lt a.kind a.name m b.name) (sym k) ∙ ap (λ m. key_lt a.kind a.name a.kind m) (sym n) ∙ not_itself a

pub no_row_between : (l : List Row) (n : ℕ) (d : Row) → All (λ r. row_lt r d ≡ true) (take n l) → All (λ r. row_lt d r ≡ true) (drop n l) → (row : Row) → IsRowOf l d.kind d.name row → ⊥
no_row_between l n d f b row is =
    let P : Row → Type 0 = λ r. r.kind ≡ d.kind → r.name ≡ d.name → ⊥ in
    let front = All-weaker (λ r. row_lt r d ≡ true) P (λ r h k m. differ (h) (same_key r d k m)) (take n l) f in
    let back = All-weaker (λ r. row_lt d r ≡ true) P (λ r h k m. differ (h) (same_key d r (sym k) (sym m))) (drop n l) b in
    All-contains P l row (subst (λ l'. All P l') (take-append-drop n l) (All-append P (take n l) (drop n l) front back)) is.among is.kind is.name
  where
    differ : {t : Bool} → t ≡ true → t ≡ false → ⊥
    differ h g = absurd (cc)

-- ---- places that a comparison finds

pub is_before : (x : Row) (kind : Kind) (name : List ℕ) (o : Ordering) → o ≡ key_cmp x.kind x.name kind name → o ≡ Less → key_lt x.kind x.name kind name ≡ true
is_before x kind name o e is = sym (row_lt-cmp x (keyed kind name)) ∙ ap is_lt (sym e ∙ is)

is_after : (x : Row) (kind : Kind) (name : List ℕ) (o : Ordering) → o ≡ key_cmp x.kind x.name kind name → o ≡ Greater → row_lt (keyed kind name) x ≡ true
is_after x kind name o e is =
    sym (row_lt-cmp (keyed kind name) x) ∙ ap is_lt (row_total.antisymm (keyed kind name) x ∙ ap ordering_reverse (sym e ∙ is))

pub stands : (l : List Row) → IsInOrder l → (n : ℕ) (x : Row) → n < length l → x ≡ get_or l n x → (kind : Kind) (name : List ℕ) (o : Ordering) → o ≡ key_cmp x.kind x.name kind name → o ≡ Equal → StandsAt l kind name n
stands l o n x h at kind name c e is =
    let tie = tie_is x (keyed kind name) (sym e ∙ is) in
    let here : (d : Row) → get_or l n d ≡ x = λ d. get_or_default l n d x h ∙ sym at in
    record {
      within = h;
      row = λ d. record { among = (n, h, get_or_default l n (get_or l n d) d h); kind = ap (λ r. r.kind) (here d) ∙ tie.0; name = ap (λ r. r.name) (here d) ∙ tie.1 };
      before = subst (λ k. rows_before k name l ≡ take n l) tie.0 (subst (λ m. rows_before x.kind m l ≡ take n l) tie.1 (before_place l o n x h at));
      after = subst (λ k. rows_after k name l ≡ drop (n + 1) l) tie.0 (subst (λ m. rows_after x.kind m l ≡ drop (n + 1) l) tie.1 (after_place l o n x h at));
    }

belongs_between : (l : List Row) (n : ℕ) (kind : Kind) (name : List ℕ) → n ≤ length l → All (λ r. key_lt r.kind r.name kind name ≡ true) (take n l) → All (λ r. key_lt kind name r.kind r.name ≡ true) (drop n l) → BelongsAt l kind name n
belongs_between l n kind name h f b =
    record {
      within = h;
      absent = no_row_between l n (keyed kind name) f b;
      before = before_gap l n (keyed kind name) f b;
      after = after_gap l n (keyed kind name) f b;
    }

pub belongs : (l : List Row) → IsInOrder l → (n : ℕ) (x : Row) → n < length l → x ≡ get_or l n x → (kind : Kind) (name : List ℕ) (o : Ordering) → All (λ r. key_lt r.kind r.name kind name ≡ true) (take n l) → o ≡ key_cmp x.kind x.name kind name → o ≡ Greater → BelongsAt l kind name n
belongs l o n x h at kind name c f e is =
    belongs_between l n kind name (omega arith) f (gap_lt l o n x (keyed kind name) h at (is_after x kind name c e is))

pub belongs_last : (l : List Row) (n : ℕ) (kind : Kind) (name : List ℕ) → n ≡ length l → All (λ r. key_lt r.kind r.name kind name ≡ true) (take n l) → BelongsAt l kind name n
belongs_last l n kind name e f =
    belongs_between l n kind name (omega arith) f
    (subst (λ l'. All (λ r. key_lt kind name r.kind r.name ≡ true) l') (sym (drop_all n l (omega arith))) (All-nil (λ r. key_lt kind name r.kind r.name ≡ true)))

-- ---- what the calls of a keeper in memory say

behind : (l : List Row) (kind : Kind) (name : List ℕ) (n : ℕ) → StandsAt l kind name n → drop (suc n) l ≡ rows_after kind name l
behind l kind name n at = let e : suc n ≡ n + 1 = omega arith in ap (λ m. drop m l) e ∙ sym at.after

pub set_at : (l : List Row) (row : Row) (n : ℕ) → StandsAt l row.kind row.name n → slice_set l n row ≡ with_row row l
set_at l row n at = set_split l n row at.within ∙ ap (λ front. front ++ row ∷ drop (suc n) l) (sym at.before) ∙ ap (λ back. rows_before row.kind row.name l ++ row ∷ back) (behind l row.kind row.name n at)

pub inserted_at : (l : List Row) (row : Row) (n : ℕ) → BelongsAt l row.kind row.name n → insert l n row ≡ with_row row l
inserted_at l row n at = ap (λ front. front ++ row ∷ drop n l) (sym at.before) ∙ ap (λ back. rows_before row.kind row.name l ++ row ∷ back) (sym at.after)

pub removed_at : (l : List Row) (kind : Kind) (name : List ℕ) (n : ℕ) → StandsAt l kind name n → remove l n ≡ without_row kind name l
removed_at l kind name n at = ap (λ front. front ++ drop (suc n) l) (sym at.before) ∙ ap (λ back. rows_before kind name l ++ back) (behind l kind name n at)

pub absent_at : (l : List Row) (kind : Kind) (name : List ℕ) (n : ℕ) → BelongsAt l kind name n → l ≡ without_row kind name l
absent_at l kind name n at = sym (take-append-drop n l) ∙ ap (λ front. front ++ drop n l) (sym at.before) ∙ ap (λ back. rows_before kind name l ++ back) (sym at.after)

pub turned : (before now : List Row) (turn : List Row → List Row) → now ≡ turn before → IsTables now → Turns (λ rows. rows ≡ before) (λ rows. rows ≡ now) turn
turned before now turn e t =
    record {
      told = λ rows h. (before, refl);
      turned = λ old rows p q. q ∙ e ∙ ap turn (sym p);
      tables = λ rows h. subst IsTables (sym h) t;
    }
