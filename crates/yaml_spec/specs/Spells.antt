-- Statement: what lines spell. Sources: YAML 1.2.2, sections 6 (comments, blank lines), 8.1 (block scalars) and 8.2 (block
-- sequences and mappings), cut to the profile.
use Rattle.std.specs.Prelude.{ℕ, zero, suc, ◌+◌, ◌-◌, ◌<◌, Bool, true, false, not, ◌&&◌, ◌||◌, if◌then◌else◌, leb, IsTrue, ◌⊎◌, List, [], ◌∷◌, ◌++◌, replicate}
use Rattle.yaml_spec.specs.declared.state.Group.{Group}
use Rattle.yaml_spec.specs.declared.state.Group.TheVariants.{Listed, Mapped}
use Rattle.yaml_spec.specs.declared.tree.Tree.{Tree}
use Rattle.yaml_spec.specs.declared.tree.Pair.{Pair}
use Rattle.yaml_spec.specs.declared.tree.Tree.TheVariants as tree
use Rattle.yaml_spec.specs.Line.{spaces, begins, IsTail, Head, Value, BlockHead, is_new, pair, whole}

-- a line: how many spaces stand in front, and what follows them
pub data Line : Type 0 where
  at : ℕ → List ℕ → Line

abbrev pub column : Line → ℕ
column (at c s) = c

abbrev pub content : Line → List ℕ
content (at c s) = s

abbrev pub is_empty : List ℕ → Bool
is_empty [] = true
is_empty (c ∷ s) = false

abbrev pub is_blank : Line → Bool
is_blank (at c s) = is_empty s

-- blank, or a comment
abbrev pub is_skipped : Line → Bool
is_skipped (at c s) = is_empty s || begins 35 s

pub data Skips : List Line → Type 0 where
  none : Skips []
  more : {ls : List Line} (l : Line) → Skips ls → IsTrue (is_skipped l) → Skips (ls ++ l ∷ [])

-- ---- block scalars

-- blank, or at column m or past it
abbrev pub is_inside : ℕ → Line → Bool
is_inside m l = is_blank l || leb m (column l)

-- the indentation: that of the first line that isn't blank
abbrev pub indentation : List Line → ℕ
indentation [] = 0
indentation (l ∷ ls) = if is_blank l then indentation ls else column l

-- the lines of a block scalar whose parent stands left of column m
pub data BlockLines : ℕ → List Line → Type 0 where
  none : {m : ℕ} → BlockLines m []
  more : {m : ℕ} {ls : List Line} (l : Line) → BlockLines m ls → IsTrue (is_inside m l) → IsTrue (is_blank l || leb (indentation ls) (column l)) → BlockLines m (ls ++ l ∷ [])

-- what follows a block scalar doesn't begin inside it
pub data Ends : ℕ → List Line → Type 0 where
  none : {m : ℕ} → Ends m []
  next : {m : ℕ} {l : Line} {ls : List Line} → IsTrue (not (is_inside m l)) → Ends m (l ∷ ls)

-- a line without its indentation m
abbrev pub row : ℕ → Line → List ℕ
row m (at c []) = []
row m (at c (x ∷ s)) = spaces (c - m) ++ x ∷ s

abbrev pub all_blank : List Line → Bool
all_blank [] = true
all_blank (l ∷ ls) = is_blank l && all_blank ls

-- the rows, without the blank ones at the end
abbrev pub rows_from : ℕ → List Line → List (List ℕ)
rows_from m [] = []
rows_from m (l ∷ ls) = if all_blank (l ∷ ls) then [] else row m l ∷ rows_from m ls

-- `|`: each row but the last ends in a line feed
abbrev pub kept : List (List ℕ) → List ℕ
kept [] = []
kept (r ∷ []) = r
kept (r ∷ q ∷ rs) = r ++ 10 ∷ kept (q ∷ rs)

-- `>`: what joins two rows with k blank ones between them, of which one begins with a space or none does
abbrev pub joint : Bool → ℕ → List ℕ
joint false zero = 32 ∷ []
joint false (suc k) = replicate (suc k) 10
joint true k = replicate (suc k) 10

-- behind a row, which begins with a space or doesn't, and k blank ones
abbrev pub folded_after : Bool → ℕ → List (List ℕ) → List ℕ
folded_after deeper k [] = []
folded_after deeper k (r ∷ rs) = if is_empty r then folded_after deeper (suc k) rs else joint (deeper || begins 32 r) k ++ (r ++ folded_after (begins 32 r) 0 rs)

-- blank rows in front each give a line feed
abbrev pub folded : List (List ℕ) → List ℕ
folded [] = []
folded (r ∷ rs) = if is_empty r then 10 ∷ folded rs else r ++ folded_after (begins 32 r) 0 rs

-- content that isn't empty ends in one line feed where that is kept
abbrev pub ended : Bool → List ℕ → List ℕ
ended keeps [] = []
ended keeps (c ∷ s) = c ∷ s ++ (if keeps then 10 ∷ [] else [])

abbrev pub block_text : Bool → Bool → List Line → List ℕ
block_text folds keeps ls = ended keeps (if folds then folded (rows_from (indentation ls) ls) else kept (rows_from (indentation ls) ls))

-- ---- nodes

-- An inline value on what is left of its line, with the lines behind it. r lists and maps may still stand in one another, and the parent stands left of column m.
pub data Inline : ℕ → ℕ → List ℕ → List Line → Tree → Type 0 where
  value : {r m : ℕ} {s t : List ℕ} {ls : List Line} {x : Tree} → Value r s t x → IsTail t → Skips ls → Inline r m (s ++ t) ls x
  block : {r m : ℕ} {s t : List ℕ} {b ls : List Line} {folds keeps : Bool} → BlockHead s folds keeps → IsTail t → BlockLines m b → Skips ls → Ends m ls → Inline r m (s ++ t) (b ++ ls) (tree.Text (block_text folds keeps b))

mutual
  -- a node at column c
  pub data Node : ℕ → ℕ → ℕ → List Line → Tree → Type 0 where
    inline : {r m c : ℕ} {s : List ℕ} {ls : List Line} {x : Tree} → Inline r m s ls x → Node r m c (at c s ∷ ls) x
    group : {r m c : ℕ} {k : Group} {ls : List Line} {ps : List Pair} → Parts r k c ls ps → Node (suc r) m c ls (whole k ps)

  -- the items of a block sequence, or the entries of a block mapping, at column c
  pub data Parts : ℕ → Group → ℕ → List Line → List Pair → Type 0 where
    one : {r c : ℕ} {k : Group} {a : List Line} {p : Pair} → Part r k c a p → Parts r k c a (p ∷ [])
    more : {r c : ℕ} {k : Group} {a b : List Line} {ps : List Pair} {p : Pair} → Parts r k c a ps → Part r k c b p → IsTrue (is_new k p.key ps) → Parts r k c (a ++ b) (ps ++ p ∷ [])

  pub data Part : ℕ → Group → ℕ → List Line → Pair → Type 0 where
    -- a space, and an inline value
    here : {r c : ℕ} (i : ℕ) {k : Group} {s v key : List ℕ} {ls : List Line} {x : Tree} → Head k s key → Inline r (suc c) v ls x → Part r k c (at c (s ++ (spaces (suc i) ++ v)) ∷ ls) (pair key x)
    -- a map or list that begins on the item's line, at its own column
    within : {r c : ℕ} (i : ℕ) {j : Group} {v : List ℕ} {ls : List Line} {ps : List Pair} → Parts r j (c + i + 2) (at (c + i + 2) v ∷ ls) ps → Part (suc r) Listed c (at c (45 ∷ spaces (suc i) ++ v) ∷ ls) (pair [] (whole j ps))
    -- nothing on that line, and a node at a greater column
    below : {r c d : ℕ} {k : Group} {s t key : List ℕ} {a b : List Line} {x : Tree} → Head k s key → IsTail t → Skips a → c < d → Node r (suc c) d b x → Part r k c (at c (s ++ t) ∷ a ++ b) (pair key x)
    -- or a list at the key's column
    level : {r c : ℕ} {s t key : List ℕ} {a b : List Line} {ps : List Pair} → Head Mapped s key → IsTail t → Skips a → Parts r Listed c b ps → Part (suc r) Mapped c (at c (s ++ t) ∷ a ++ b) (pair key (whole Listed ps))
    -- or nothing
    null : {r c : ℕ} {k : Group} {s t key : List ℕ} {ls : List Line} → Head k s key → IsTail t → Skips ls → Part r k c (at c (s ++ t) ∷ ls) (pair key tree.Null)

-- three times the byte a, `-` or `.`, alone on a line at column 0
pub data IsDocument : ℕ → Line → Type 0 where
  document : {a : ℕ} {t : List ℕ} → IsTail t → IsDocument a (at 0 (a ∷ a ∷ a ∷ t))

-- `---` or `...`
abbrev pub BeginsDocument : List Line → Type 0
BeginsDocument [] = ⊥
BeginsDocument (l ∷ ls) = IsDocument 45 l ⊎ IsDocument 46 l

-- one node at column 0, or nothing; `---` and `...` are no nodes here
pub data Root : List Line → Tree → Type 0 where
  node : {a b : List Line} {x : Tree} → Skips a → Node 32 0 0 b x → (BeginsDocument b → ⊥) → Root (a ++ b) x
  nothing : {a : List Line} → Skips a → Root a tree.Null

-- behind a first line `---`, or without it
pub data Spells : List Line → Tree → Type 0 where
  start : {a b : List Line} {l : Line} {x : Tree} → Skips a → IsDocument 45 l → Root b x → Spells (a ++ l ∷ b) x
  no_start : {a : List Line} {x : Tree} → Root a x → Spells a x
