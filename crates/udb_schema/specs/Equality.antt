-- Statement: when two trees are equal as JSON values (JSON Schema 2020-12, core 4.2.2).
use Rattle.std.specs.Prelude.{ℕ, ◌&&◌, ◌==◌, Bool, true, false, not, List, [], ◌∷◌, length, Option, None, Some, if◌then◌else◌}
use Rattle.std.specs.Ordering.{int_eq}
use Rattle.std.specs.Str.{bytes_eq}
use Rattle.std.specs.List.{list_all}
use Rattle.yaml_spec.specs.declared.tree.Tree.{Tree}
use Rattle.yaml_spec.specs.declared.tree.Tree.TheOpen.{Tree-F, Pair-F}
use Rattle.yaml_spec.specs.declared.tree.Tree.TheFolds.{fold-Tree}
use Rattle.yaml_spec.specs.declared.tree.Pair.{Pair}
use Rattle.yaml_spec.specs.Trees.{is_null, flag_of, int_of, text_of, items_of, entries_of, value_under}

abbrev pub Test : Type 0
Test = Tree → Bool

-- there is a value, and it passes
abbrev pub holds_of : {X : Type 0} → Option X → (X → Bool) → Bool
holds_of None test = false
holds_of (Some x) test = test x

abbrev pub same_flags : Bool → Bool → Bool
same_flags a b = if a then b else not b

-- item by item, as far as the tests go
abbrev pub agree : List Test → List Tree → Bool
agree [] xs = true
agree (t ∷ ts) [] = false
agree (t ∷ ts) (x ∷ xs) = t x && agree ts xs

-- as many items, and equal ones in the same places
abbrev pub same_items : List Test → List Tree → Bool
same_items ts xs = (length ts == length xs) && agree ts xs

-- the entries have the key, with an equal value
abbrev pub has_entry : List Pair → List ℕ × Test → Bool
has_entry qs p = holds_of (value_under qs p.0) p.1

-- as many entries, and under each key of the one an equal value in the other: the order says nothing
abbrev pub same_entries : List (List ℕ × Test) → List Pair → Bool
same_entries ps qs = (length ps == length qs) && list_all (has_entry qs) ps

abbrev pub is_list : List Test → Test
is_list ts u = holds_of (items_of u) (same_items ts)

abbrev pub is_map : List (List ℕ × Test) → Test
is_map ps u = holds_of (entries_of u) (same_entries ps)

abbrev pub same_step : Tree-F Test (List ℕ × Test) → Test
same_step Tree-F.Null u = is_null u
same_step (Tree-F.Flag a) u = holds_of (flag_of u) (same_flags a)
same_step (Tree-F.Int a) u = holds_of (int_of u) (int_eq a)
same_step (Tree-F.Text a) u = holds_of (text_of u) (bytes_eq a)
same_step (Tree-F.List ts) u = is_list ts u
same_step (Tree-F.Map ps) u = is_map ps u

abbrev pub pair_step : Pair-F Test (List ℕ × Test) → List ℕ × Test
pair_step p = (p.key, p.value)

-- the two trees are equal as JSON values
unfoldable pub same : Tree → Tree → Bool
same = fold-Tree Test (List ℕ × Test) same_step pair_step

-- an entry's key, and whether a tree equals its value
abbrev pub entry : Pair → List ℕ × Test
entry p = (p.key, same p.value)
