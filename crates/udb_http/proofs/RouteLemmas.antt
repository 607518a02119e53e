-- A path with a route is found by the router at that route's row.
use Rattle.std.proofs.Common.{◌≡◌, ◌≢◌, ℕ, suc, ◌+◌, ◌<◌, ◌≤◌, List, [], ◌∷◌, ◌++◌, length, Option, Some, None, false, refl, sym, ap, ◌∙◌, arith, ◌==◌, codes, Fits, w8, slice_index_or, All, get_or, subst}
use Rattle.std.specs.Borrow.{Bor}
use Rattle.std.specs.Prelude.{MatchOption}
use Rattle.std.proofs.Math.Seq.{get_or-append_seam}
use Rattle.std.proofs.lemmas.List.{length-append}
use Rattle.std.proofs.lemmas.Bool.Decides.{nat_tests}
use Rattle.std.proofs.lemmas.List.Elements.{recursion_from_All, All-from_get_or}
use Rattle.std.specs.List.{AllByRecursion}
use Rattle.udb_base.specs.Kinds.{kind_word}
use Rattle.udb_base.specs.Names.{IsName}
use Rattle.udb_base.specs.declared.kinds.Kind.{Kind}
use Rattle.udb_base.specs.declared.kinds.Kind.TheVariants as kind
use Rattle.matchit.specs.Seek.{seek, first, has_slash}
use Rattle.udb_http.specs.declared.paths.Route.{Route}
use Rattle.udb_http.specs.declared.paths.Route.TheVariants.{Entries, Entry, Manual, Decode, Run, Proof}
use Rattle.udb_http.specs.declared.paths.Place.{Place}
use Rattle.udb_http.specs.declared.paths.Place.TheVariants as row
use Rattle.udb_http.specs.Routes.{HasRoute, IsRouteAt, IsSegment, place_of}
use Rattle.udb_http.specs.Table.{table_rows, row_of}
use Rattle.udb_http.proofs.SeekLemmas.{Low, seek-word, seek-segment, seek-last}

pub low_bytes : (p : List ℕ) → ((i : ℕ) → Fits w8 (slice_index_or p i 0)) → Low p
low_bytes [] h = tt
low_bytes (b ∷ p) h = ((h 0).fits, low_bytes p (λ i. h (suc i)))

low_after : (a b : List ℕ) → Low (a ++ b) → Low b
low_after [] b h = h
low_after (x ∷ a) b h = low_after a b h.1

-- ---- segments

bare : (p : List ℕ) → AllByRecursion (λ b. b ≢ 47) p → has_slash p ≡ false
bare [] h = refl
bare (b ∷ p) h = let away : (b == 47) ≡ false = grind (arith, nat_tests, h.0) in rw away (bare p h.1)

bare_all : (p : List ℕ) → All (λ b. b ≢ 47) p → has_slash p ≡ false
bare_all p h = bare p (recursion_from_All (λ b. b ≢ 47) p h)

bare_name : (p : List ℕ) → IsName p → has_slash p ≡ false
bare_name p h = bare_all p (λ k d low. (h.alphabet k d low).2)

bare_kind : (k : Kind) → has_slash (kind_word k) ≡ false
bare_kind kind.Extension = refl
bare_kind kind.Parameter = refl
bare_kind kind.Instruction = refl
bare_kind kind.Csr = refl
bare_kind kind.Functions = refl
bare_kind kind.Config = refl

some_kind : (k : Kind) → 1 ≤ length (kind_word k)
some_kind kind.Extension = omega arith
some_kind kind.Parameter = omega arith
some_kind kind.Instruction = omega arith
some_kind kind.Csr = omega arith
some_kind kind.Functions = omega arith
some_kind kind.Config = omega arith

-- ---- a path cut at its first slash

pub cut_once : (a b c d : List ℕ) → AllByRecursion (λ x. x ≢ 47) a → AllByRecursion (λ x. x ≢ 47) c → a ++ 47 ∷ b ≡ c ++ 47 ∷ d → (a ≡ c) × (b ≡ d)
cut_once [] b [] d ha hc e = (refl, cc)
cut_once [] b (y ∷ c) d ha hc e = absurd (hc.0 cc)
cut_once (x ∷ a) b [] d ha hc e = absurd (ha.0 cc)
cut_once (x ∷ a) b (y ∷ c) d ha hc e =
    let s : x ≡ y = cc in
    let t : a ++ 47 ∷ b ≡ c ++ 47 ∷ d = cc in
    let u = cut_once a b c d ha.1 hc.1 t in
    (cc, u.1)

pub cut_alone : (a b c d : List ℕ) → All (λ x. x ≢ 47) a → All (λ x. x ≢ 47) c → a ++ 47 ∷ b ≡ c ++ 47 ∷ d → (a ≡ c) × (b ≡ d)
cut_alone a b c d ha hc e =
    cut_once a b c d (recursion_from_All (λ x. x ≢ 47) a ha) (recursion_from_All (λ x. x ≢ 47) c hc) e

pub same_rest : (front a b : List ℕ) → front ++ a ≡ front ++ b → a ≡ b
same_rest [] a b e = e
same_rest (x ∷ front) a b e = let t : front ++ a ≡ front ++ b = cc in same_rest front a b t

-- ---- what the parts of a path say, one after the other

-- what is told of a path that is cut at its first slash
pub cut_answer : (bs : List ℕ) (r : Option (Bor (List ℕ) × Bor (List ℕ)))
    → MatchOption r ((i : ℕ) → i < length bs → get_or bs i 0 ≢ 47)
    (λ x. (bs ≡ x.0.now ++ 47 ∷ x.1.now) × ((i : ℕ) → i < length x.0.now → get_or x.0.now i 0 ≢ 47))
    → MatchOption r ((a b : List ℕ) → bs ≢ a ++ 47 ∷ b) (λ x. (bs ≡ x.0.now ++ 47 ∷ x.1.now) × All (λ b. b ≢ 47) x.0.now)
cut_answer bs None h = λ a b e.
    let len : length bs ≡ length a + suc (length b) = ap length e ∙ length-append a (47 ∷ b) in
    h (length a) (omega (arith, len)) (ap (λ l. get_or l (length a) 0) e ∙ get_or-append_seam a 47 b 0)
cut_answer bs (Some x) h = (h.0, All-from_get_or (λ b. b ≢ 47) x.0.now 0 h.1)

whole_kind : (k : Kind) → AllByRecursion (λ b. b ≢ 47) (kind_word k)
whole_kind kind.Extension = grind arith
whole_kind kind.Parameter = grind arith
whole_kind kind.Instruction = grind arith
whole_kind kind.Csr = grind arith
whole_kind kind.Functions = grind arith
whole_kind kind.Config = grind arith

cut_kind : (w s : List ℕ) (k : Kind) (n : List ℕ) → All (λ b. b ≢ 47) w → w ++ 47 ∷ s ≡ kind_word k ++ 47 ∷ n → (w ≡ kind_word k) × (s ≡ n)
cut_kind w s k n h e = cut_once w s (kind_word k) n (recursion_from_All (λ b. b ≢ 47) w h) (whole_kind k) e

pub other_kind : (path w s : List ℕ) → path ≡ w ++ 47 ∷ s → All (λ b. b ≢ 47) w → ((k : Kind) → w ≢ kind_word k)
    → (k : Kind) (n : List ℕ) → IsName n → path ≢ kind_word k ++ 47 ∷ n
other_kind path w s e h unknown k n name f = unknown k (cut_kind w s k n h (sym e ∙ f)).0

pub other_name : (path w s : List ℕ) → path ≡ w ++ 47 ∷ s → All (λ b. b ≢ 47) w → ¬ (IsName s)
    → (k : Kind) (n : List ℕ) → IsName n → path ≢ kind_word k ++ 47 ∷ n
other_name path w s e h refused k n name f = refused (subst IsName (sym (cut_kind w s k n h (sym e ∙ f)).1) name)

whole_name : (n : List ℕ) → IsName n → All (λ b. b ≢ 47) n
whole_name n h k d low = (h.alphabet k d low).2

pub other_first : (path w s : List ℕ) → path ≡ w ++ 47 ∷ s → All (λ b. b ≢ 47) w → ¬ (IsName w)
    → (n rest : List ℕ) → IsName n → path ≢ n ++ 47 ∷ rest
other_first path w s e h refused n rest name f =
    refused (subst IsName (sym (cut_alone w s n rest h (whole_name n name) (sym e ∙ f)).0) name)

pub other_segment : (path front rest a s : List ℕ) → path ≡ front ++ rest → rest ≡ a ++ 47 ∷ s → IsName a → ¬ (IsSegment s)
    → (n w : List ℕ) → IsName n → IsSegment w → path ≢ front ++ (n ++ 47 ∷ w)
other_segment path front rest a s e f name refused n w other segment g =
    let same = same_rest front rest (n ++ 47 ∷ w) (sym e ∙ g) in
    let cut = cut_alone a s n w (whole_name a name) (whole_name n other) (sym f ∙ same) in
    refused (subst IsSegment (sym cut.1) segment)

pub other_proof : (path rest a s : List ℕ) → path ≡ codes "/proofs/" ++ rest → rest ≡ a ++ 47 ∷ s → IsName a
    → ((k : Kind) (n : List ℕ) → IsName n → s ≢ kind_word k ++ 47 ∷ n)
    → IsRouteAt path row.Proof None
other_proof path rest a s e f name none Entries place h = absurd cc
other_proof path rest a s e f name none (Entry k n) place h = absurd cc
other_proof path rest a s e f name none (Manual n) place h = absurd cc
other_proof path rest a s e f name none (Decode n word) place h = absurd cc
other_proof path rest a s e f name none (Run n steps) place h = absurd cc
other_proof path rest a s e f name none (Proof n k m) place h =
    let more = kind_word k ++ 47 ∷ m in
    let same = same_rest (codes "/proofs/") rest (n ++ 47 ∷ more) (sym e ∙ h.0) in
    let cut = cut_alone a s n more (whole_name a name) (whole_name n h.1) (sym f ∙ same) in
    none k m h.2 cut.1

-- ---- routes

low_rest : (a b : List ℕ) → Low (a ++ 47 ∷ b) → Low b
low_rest a b h = (low_after a (47 ∷ b) h).1

two : (place : Place) (a b : List ℕ) → Low (a ++ 47 ∷ b) → has_slash a ≡ false → 1 ≤ length a → has_slash b ≡ false → 1 ≤ length b
    → seek 0 ((256 ∷ 47 ∷ 256 ∷ [], row_of place) ∷ []) (a ++ 47 ∷ b) ≡ Some (row_of place)
two place a b low ha na hb nb =
    seek-segment (256 ∷ []) (row_of place) a b ha na low ∙ seek-last (row_of place) b hb nb (low_rest a b low)

found : (path front rest : List ℕ) (place : Place) → path ≡ front ++ rest → Low path → (Low rest → first table_rows (front ++ rest) ≡ Some (row_of place)) → first table_rows path ≡ Some (row_of place)
found path front rest place e low h =
    subst (λ p. first table_rows p ≡ Some (row_of place)) (sym e) (h (low_after front rest (subst Low e low)))

pub has_row : (path : List ℕ) (r : Route) → Low path → HasRoute path r → first table_rows path ≡ Some (row_of (place_of r))
unfolding seek
has_row path Entries low h =
    found path (codes "/entries") [] row.Entries h low (λ l. seek-word (codes "/entries") table_rows [] refl)
has_row path (Entry k n) low h =
    let rest = kind_word k ++ 47 ∷ n in
    found path (codes "/entries/") rest row.Entry h.0 low
    (λ l. seek-word (codes "/entries/") table_rows rest refl
    ∙ two row.Entry (kind_word k) n l (bare_kind k) (some_kind k) (bare_name n h.1) h.1.some)
has_row path (Manual n) low h =
    found path (codes "/manuals/") n row.Manual h.0 low
    (λ l. seek-word (codes "/manuals/") table_rows n refl ∙ seek-last (row_of row.Manual) n (bare_name n h.1) h.1.some l)
has_row path (Decode n word) low h =
    let rest = n ++ 47 ∷ word in
    found path (codes "/decode/") rest row.Decode h.0 low
    (λ l. seek-word (codes "/decode/") table_rows rest refl
    ∙ two row.Decode n word l (bare_name n h.1) h.1.some (bare_all word h.2.whole) h.2.some)
has_row path (Run n steps) low h =
    let rest = n ++ 47 ∷ steps in
    found path (codes "/runs/") rest row.Run h.0 low
    (λ l. seek-word (codes "/runs/") table_rows rest refl
    ∙ two row.Run n steps l (bare_name n h.1) h.1.some (bare_all steps h.2.whole) h.2.some)
has_row path (Proof n k m) low h =
    let more = kind_word k ++ 47 ∷ m in
    let rest = n ++ 47 ∷ more in
    found path (codes "/proofs/") rest row.Proof h.0 low
    (λ l. seek-word (codes "/proofs/") table_rows rest refl
    ∙ seek-segment (256 ∷ 47 ∷ 256 ∷ []) (row_of row.Proof) n more (bare_name n h.1) h.1.some l
    ∙ two row.Proof (kind_word k) m (low_rest n more l) (bare_kind k) (some_kind k) (bare_name m h.2) h.2.some)
