-- Machinery, no part of what a text means: reading line by line. A state is the open maps and lists, the outermost first, and what stands at the innermost place; every state has a tree.
use Rattle.std.specs.Prelude.{ℕ, zero, suc, ◌+◌, ◌-◌, ◌*◌, Bool, true, false, ◌&&◌, ◌||◌, if◌then◌else◌, eqb, leb, ltb, List, [], ◌∷◌, ◌++◌, drop, replicate, Option, Some, None}
use Rattle.yaml_spec.specs.declared.state.Group.{Group}
use Rattle.yaml_spec.specs.declared.state.Group.TheVariants.{Listed, Mapped}
use Rattle.yaml_spec.specs.declared.state.Frame.{Frame}
use Rattle.yaml_spec.specs.declared.state.Block.{Block}
use Rattle.yaml_spec.specs.declared.state.Leaf.{Leaf}
use Rattle.yaml_spec.specs.declared.state.Leaf.TheVariants as leaf
use Rattle.yaml_spec.specs.declared.sights.Sight.{Sight}
use Rattle.yaml_spec.specs.declared.sights.Sight.TheVariants as sight
use Rattle.yaml_spec.specs.declared.sights.Got.{Got}
use Rattle.yaml_spec.specs.declared.sights.Got.TheVariants as got
use Rattle.yaml_spec.specs.declared.tree.Tree.{Tree}
use Rattle.yaml_spec.specs.declared.tree.Pair.{Pair}
use Rattle.yaml_spec.specs.declared.tree.Tree.TheVariants as tree
use Rattle.yaml_spec.specs.Line.{spaces, begins, is_new, pair, whole}
use Rattle.yaml_spec.specs.Spells.{Line, at, is_skipped, is_inside, joint, ended}
use Rattle.yaml_spec.specs.Reading.{is_tail, sees, inline}

-- ---- block scalars

abbrev pub open_block : ℕ → Bool → Bool → Block
open_block m folds keeps = record { least = m; folds = folds; keeps = keeps; indentation = None; text = []; blanks = 0; deeper = false }

abbrev pub glue : Bool → Bool → ℕ → List ℕ
glue folds deeper k = if folds then joint deeper k else replicate (suc k) 10

abbrev pub first_row : Block → ℕ → List ℕ → Block
first_row b c s = record { least = b.least; folds = b.folds; keeps = b.keeps; indentation = Some c; text = b.text ++ (replicate b.blanks 10 ++ s); blanks = 0; deeper = begins 32 s }

abbrev pub next_row : Block → ℕ → List ℕ → Block
next_row b m s = record { least = b.least; folds = b.folds; keeps = b.keeps; indentation = Some m; text = b.text ++ (glue b.folds (b.deeper || begins 32 s) b.blanks ++ s); blanks = 0; deeper = begins 32 s }

abbrev pub with_row : Option ℕ → Block → ℕ → List ℕ → Option Block
with_row None b c s = Some (first_row b c s)
with_row (Some m) b c s = if leb m c then Some (next_row b m (spaces (c - m) ++ s)) else None

abbrev pub blank_row : Block → Block
blank_row b = record { least = b.least; folds = b.folds; keeps = b.keeps; indentation = b.indentation; text = b.text; blanks = suc b.blanks; deeper = b.deeper }

-- a line inside the block
abbrev pub grown : Block → Line → Option Block
grown b (at c []) = Some (blank_row b)
grown b (at c (x ∷ s)) = with_row b.indentation b c (x ∷ s)

abbrev pub with_next : Option Block → (Block → Option Block) → Option Block
with_next None f = None
with_next (Some b) f = f b

abbrev pub block_tree : Block → Tree
block_tree b = tree.Text (ended b.keeps b.text)

-- ---- the state

abbrev pub State : Type 0
State = List Frame × Leaf

abbrev pub frame : Group → ℕ → List Pair → List ℕ → Frame
frame k c ps key = record { group = k; column = c; parts = ps; key = key }

abbrev pub leaf_tree : Leaf → Tree
leaf_tree leaf.Hole = tree.Null
leaf_tree (leaf.Done x) = x
leaf_tree (leaf.Block b) = block_tree b

-- the tree of a state
abbrev pub close : List Frame → Leaf → Tree
close [] l = leaf_tree l
close (f ∷ fs) l = whole f.group (f.parts ++ pair f.key (close fs l) ∷ [])

-- an item stands deeper than an entry at its column
abbrev pub level : Group → ℕ → ℕ
level Mapped c = 2 * c
level Listed c = 2 * c + 1

abbrev pub group_of : Sight → Group
group_of (sight.Bare k key) = k
group_of (sight.Before k key n) = k
group_of sight.Other = Mapped

abbrev pub line_level : ℕ → List ℕ → ℕ
line_level c s = level (group_of (sees s)) c

abbrev pub leaf_of : ℕ → Got → Leaf
leaf_of m (got.Value x) = leaf.Done x
leaf_of m (got.Head folds keeps) = leaf.Block (open_block m folds keeps)

abbrev pub inlined : ℕ → Option Got → Option State
inlined m None = None
inlined m (Some g) = Some ([], leaf_of m g)

abbrev pub below : Frame → Option State → Option State
below f None = None
below f (Some st) = Some (f ∷ st.0, st.1)

-- what stands behind a mark on its line
abbrev pub inside : ℕ → (ℕ → ℕ → List ℕ → Option State) → ℕ → List ℕ → Sight → Option State
inside r again c s (sight.Bare k key) = Some ([], leaf.Hole)
inside r again c s (sight.Before Mapped key n) = inlined (suc c) (inline r (drop n s))
inside r again c s (sight.Before Listed key n) = again (suc c) (c + n) (drop n s)
inside r again c s sight.Other = None

-- a part behind ps in a map or list at column c
abbrev pub opens : (Sight → Option State) → Group → List ℕ → ℕ → List Pair → Sight → Option State
opens within k key c ps seen = if is_new k key ps then below (frame k c ps key) (within seen) else None

abbrev pub starts : (Sight → Option State) → Option State → ℕ → Sight → Option State
starts within value c (sight.Bare k key) = opens within k key c [] (sight.Bare k key)
starts within value c (sight.Before k key n) = opens within k key c [] (sight.Before k key n)
starts within value c sight.Other = value

-- a node at column c that begins so; its parent stands left of column m
unfoldable pub begin : ℕ → ℕ → ℕ → List ℕ → Option State
begin zero m c s = starts (λ _. None) (inlined m (inline 0 s)) c (sees s)
begin (suc r) m c s = starts (inside r (begin r) c s) (inlined m (inline (suc r) s)) c (sees s)

abbrev pub next : (Sight → Option State) → Frame → Tree → Sight → Option State
next within f x (sight.Bare k key) = opens within k key f.column (f.parts ++ pair f.key x ∷ []) (sight.Bare k key)
next within f x (sight.Before k key n) = opens within k key f.column (f.parts ++ pair f.key x ∷ []) (sight.Before k key n)
next within f x sight.Other = None

-- a line that isn't skipped and stands in no block scalar
unfoldable pub add : ℕ → ℕ → ℕ → List Frame → Leaf → ℕ → List ℕ → Option State
add r m low [] leaf.Hole c s = if leb low (line_level c s) then begin r m c s else None
add r m low [] (leaf.Done x) c s = None
add r m low [] (leaf.Block b) c s = None
add zero m low (f ∷ fs) l c s = None
add (suc r) m low (f ∷ fs) l c s =
    if ltb (level f.group f.column) (line_level c s) then below f (add r (suc f.column) (suc (level f.group f.column)) fs l c s) else
    if eqb (level f.group f.column) (line_level c s) then next (inside r (begin r) f.column s) f (close fs l) (sees s) else None

abbrev pub unless_skipped : ℕ → ℕ → ℕ → List Frame → Leaf → Line → Option State
unless_skipped r m low fs l (at c s) = if is_skipped (at c s) then Some (fs, l) else add r m low fs l c s

abbrev pub with_block : List Frame → Option Block → Option State
with_block fs None = None
with_block fs (Some b) = Some (fs, leaf.Block b)

-- one more line
unfoldable pub advance : ℕ → ℕ → ℕ → List Frame → Leaf → Line → Option State
advance r m low fs (leaf.Block b) l = if is_inside b.least l then with_block fs (grown b l) else unless_skipped r m low fs (leaf.Done (block_tree b)) l
advance r m low fs leaf.Hole l = unless_skipped r m low fs leaf.Hole l
advance r m low fs (leaf.Done x) l = unless_skipped r m low fs (leaf.Done x) l

-- whether a line `---` stood, and a state
abbrev pub Reader : Type 0
Reader = Bool × State

abbrev pub is_document : ℕ → Line → Bool
is_document a (at c (b ∷ d ∷ e ∷ t)) = eqb c 0 && (eqb b a && (eqb d a && (eqb e a && is_tail t)))
is_document a (at c []) = false
is_document a (at c (b ∷ [])) = false
is_document a (at c (b ∷ d ∷ [])) = false

abbrev pub with_start : Bool → Option State → Option Reader
with_start started None = None
with_start started (Some st) = Some (started, st)

-- before anything stands
abbrev pub first_line : Bool → Line → Option Reader
first_line started (at c s) =
    if is_skipped (at c s) then Some (started, ([], leaf.Hole)) else
    if is_document 45 (at c s) then (if started then None else Some (true, ([], leaf.Hole))) else
    if is_document 46 (at c s) then None else
    if eqb c 0 then with_start started (begin 32 0 c s) else None

unfoldable pub step : Bool → List Frame → Leaf → Line → Option Reader
step started [] leaf.Hole l = first_line started l
step started [] (leaf.Done x) l = with_start started (advance 32 0 0 [] (leaf.Done x) l)
step started [] (leaf.Block b) l = with_start started (advance 32 0 0 [] (leaf.Block b) l)
step started (f ∷ fs) leaf l = with_start started (advance 32 0 0 (f ∷ fs) leaf l)

-- all lines, one behind the other
abbrev pub then_reads : {A : Type 0} → Option A → (A → Option A) → Option A
then_reads None f = None
then_reads (Some st) f = f st

abbrev pub reads : Reader → List Line → Option Reader
reads st [] = Some st
reads st (l ∷ ls) = then_reads (step st.0 st.1.0 st.1.1 l) (λ next. reads next ls)

-- lines below a node, from a state of that node on
abbrev pub runs : ℕ → ℕ → ℕ → State → List Line → Option State
runs r m low st [] = Some st
runs r m low st (l ∷ ls) = then_reads (advance r m low st.0 st.1 l) (λ next. runs r m low next ls)

abbrev pub start : Reader
start = (false, ([], leaf.Hole))
