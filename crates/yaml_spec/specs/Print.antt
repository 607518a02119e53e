-- Statement: the text that is written of a tree, and which trees may be written.
use Rattle.std.specs.Prelude.{ℕ, suc, ◌+◌, ◌/◌, ◌%◌, ◌^◌, ◌<◌, Bool, true, false, if◌then◌else◌, eqb, ltb, IsTrue, List, [], ◌∷◌, ◌++◌, map, pos, negsuc}
use Rattle.std.specs.Fmt.{signed_decimal}
use Rattle.yaml_spec.specs.declared.state.Group.TheVariants.{Mapped}
use Rattle.yaml_spec.specs.declared.tree.Tree.{Tree}
use Rattle.yaml_spec.specs.declared.tree.Tree.TheOpen.{Tree-F, Pair-F}
use Rattle.yaml_spec.specs.declared.tree.Tree.TheFolds.{fold-Tree, fold-Pair}
use Rattle.yaml_spec.specs.declared.tree.Pair.{Pair}
use Rattle.yaml_spec.specs.declared.tree.Tree.TheVariants as tree
use Rattle.yaml_spec.specs.Line.{spaces, is_new, pair}
use Rattle.yaml_spec.specs.Spells.{Line, at}

-- Whether the tree is a list or map that isn't empty, what stands on one line of it otherwise, and its lines at column 0.
abbrev pub Shown : Type 0
Shown = Bool × List ℕ × List Line

-- lower-case hexadecimal digits
abbrev pub glyph : ℕ → ℕ
glyph n = if ltb n 10 then 48 + n else 87 + n

-- one byte between double quotes
abbrev pub escape_byte : ℕ → List ℕ
escape_byte c =
    if eqb c 34 then 92 ∷ 34 ∷ [] else if eqb c 92 then 92 ∷ 92 ∷ [] else if eqb c 10 then 92 ∷ 110 ∷ [] else if eqb c 9 then 92 ∷ 116 ∷ [] else if eqb c 13 then 92 ∷ 114 ∷ [] else
    if ltb c 32 then 92 ∷ 120 ∷ glyph (c / 16) ∷ glyph (c % 16) ∷ [] else c ∷ []

abbrev pub escape : List ℕ → List ℕ
escape [] = []
escape (c ∷ s) = escape_byte c ++ escape s

abbrev pub quote : List ℕ → List ℕ
quote s = 34 ∷ escape s ++ 34 ∷ []

-- lines n columns to the right
abbrev pub moved : ℕ → List Line → List Line
moved n [] = []
moved n (at c s ∷ ls) = at (c + n) s ∷ moved n ls

-- a mark with its value: below it, or behind it on its line
abbrev pub part : List ℕ → Shown → List Line
part m x = if x.0 then at 0 m ∷ moved 2 x.2 else at 0 (m ++ 32 ∷ x.1) ∷ []

abbrev pub parts : List (List ℕ × Shown) → List Line
parts [] = []
parts (p ∷ ps) = part p.0 p.1 ++ parts ps

abbrev pub item : Shown → List ℕ × Shown
item x = (45 ∷ [], x)

abbrev pub empty_or : List ℕ → List (List ℕ × Shown) → Shown
empty_or s [] = (false, s, [])
empty_or s (p ∷ ps) = (true, s, parts (p ∷ ps))

abbrev pub flag_text : Bool → List ℕ
flag_text true = 116 ∷ 114 ∷ 117 ∷ 101 ∷ []
flag_text false = 102 ∷ 97 ∷ 108 ∷ 115 ∷ 101 ∷ []

abbrev pub tree_step : Tree-F Shown (List ℕ × Shown) → Shown
tree_step Tree-F.Null = (false, 110 ∷ 117 ∷ 108 ∷ 108 ∷ [], [])
tree_step (Tree-F.Flag b) = (false, flag_text b, [])
tree_step (Tree-F.Int n) = (false, signed_decimal n, [])
tree_step (Tree-F.Text s) = (false, quote s, [])
tree_step (Tree-F.List xs) = empty_or (91 ∷ 93 ∷ []) (map item xs)
tree_step (Tree-F.Map ps) = empty_or (123 ∷ 125 ∷ []) ps

abbrev pub pair_step : Pair-F Shown (List ℕ × Shown) → List ℕ × Shown
pair_step p = (quote p.key ++ 58 ∷ [], p.value)

unfoldable pub shown : Tree → Shown
shown = fold-Tree Shown (List ℕ × Shown) tree_step pair_step

unfoldable pub entry : Pair → List ℕ × Shown
entry = fold-Pair Shown (List ℕ × Shown) tree_step pair_step

abbrev pub lines_of_shown : Shown → List Line
lines_of_shown x = if x.0 then x.2 else at 0 x.1 ∷ []

-- each line ended by a line feed
abbrev pub text_of_lines : List Line → List ℕ
text_of_lines [] = []
text_of_lines (at c s ∷ ls) = spaces c ++ (s ++ 10 ∷ text_of_lines ls)

-- the text that is written of a tree
abbrev pub tree_text : Tree → List ℕ
tree_text x = text_of_lines (lines_of_shown (shown x))

-- What can be written: numbers from -2^63 to 2^64-1 and maps with distinct keys; n lists and maps may still stand in one another.
mutual
  pub data IsWritable : ℕ → Tree → Type 0 where
    null : {n : ℕ} → IsWritable n tree.Null
    flag : {n : ℕ} (b : Bool) → IsWritable n (tree.Flag b)
    natural : {n : ℕ} (k : ℕ) → k < 2 ^ 64 → IsWritable n (tree.Int (pos k))
    negative : {n : ℕ} (k : ℕ) → k < 2 ^ 63 → IsWritable n (tree.Int (negsuc k))
    text : {n : ℕ} (s : List ℕ) → IsWritable n (tree.Text s)
    list : {n : ℕ} {xs : List Tree} → AreItems n xs → IsWritable (suc n) (tree.List xs)
    mapping : {n : ℕ} {ps : List Pair} → AreEntries n ps → IsWritable (suc n) (tree.Map ps)

  pub data AreItems : ℕ → List Tree → Type 0 where
    no_items : {n : ℕ} → AreItems n []
    one_item : {n : ℕ} {x : Tree} {xs : List Tree} → AreItems n xs → IsWritable n x → AreItems n (xs ++ x ∷ [])

  pub data AreEntries : ℕ → List Pair → Type 0 where
    no_entries : {n : ℕ} → AreEntries n []
    one_entry : {n : ℕ} (key : List ℕ) {x : Tree} {ps : List Pair} → AreEntries n ps → IsWritable n x → IsTrue (is_new Mapped key ps) → AreEntries n (ps ++ pair key x ∷ [])
