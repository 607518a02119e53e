-- Statement: what a tree is at its root, where it is of that kind, and what stands under a key of a map's entries.
use Rattle.std.specs.Prelude.{ℕ, ℤ, Bool, true, false, List, [], ◌∷◌, Option, None, Some, if◌then◌else◌}
use Rattle.std.specs.Str.{bytes_eq}
use Rattle.yaml_spec.specs.declared.tree.Tree.{Tree, out-Tree}
use Rattle.yaml_spec.specs.declared.tree.Tree.TheOpen.{Tree-F}
use Rattle.yaml_spec.specs.declared.tree.Pair.{Pair}

-- a tree, opened at its root
abbrev pub Layer : Type 0
Layer = Tree-F Tree Pair

abbrev pub is_null_layer : Layer → Bool
is_null_layer Tree-F.Null = true
is_null_layer _ = false

abbrev pub flag_layer : Layer → Option Bool
flag_layer (Tree-F.Flag b) = Some b
flag_layer _ = None

abbrev pub int_layer : Layer → Option ℤ
int_layer (Tree-F.Int z) = Some z
int_layer _ = None

abbrev pub text_layer : Layer → Option (List ℕ)
text_layer (Tree-F.Text s) = Some s
text_layer _ = None

abbrev pub items_layer : Layer → Option (List Tree)
items_layer (Tree-F.List xs) = Some xs
items_layer _ = None

abbrev pub entries_layer : Layer → Option (List Pair)
entries_layer (Tree-F.Map ps) = Some ps
entries_layer _ = None

unfoldable pub is_null : Tree → Bool
is_null t = is_null_layer (out-Tree t)

unfoldable pub flag_of : Tree → Option Bool
flag_of t = flag_layer (out-Tree t)

unfoldable pub int_of : Tree → Option ℤ
int_of t = int_layer (out-Tree t)

unfoldable pub text_of : Tree → Option (List ℕ)
text_of t = text_layer (out-Tree t)

unfoldable pub items_of : Tree → Option (List Tree)
items_of t = items_layer (out-Tree t)

unfoldable pub entries_of : Tree → Option (List Pair)
entries_of t = entries_layer (out-Tree t)

-- the value of the first entry with the key
abbrev pub value_under : List Pair → List ℕ → Option Tree
value_under [] key = None
value_under (p ∷ ps) key = if bytes_eq p.key key then Some p.value else value_under ps key
