-- What trees give parameters, and the parts of maps and lists by which conditions and members are told apart.
use Rattle.std.specs.Prelude.{ℕ, ℤ, pos, negsuc, ◌^◌, ◌&&◌, Bool, nat_lt, nat_le, List, [], ◌∷◌, length, codes, Option, None, Some, option_map, option_and_then, if◌then◌else◌}
use Rattle.std.specs.Str.{bytes_eq}
use Rattle.udb_base.specs.declared.conditions.Value.{Value}
use Rattle.udb_base.specs.declared.conditions.Value.TheVariants as v
use Rattle.udb_base.specs.Lists.{one, each}
use Rattle.yaml_spec.specs.declared.tree.Tree.{Tree, out-Tree}
use Rattle.yaml_spec.specs.declared.tree.Tree.TheOpen.{Tree-F}
use Rattle.yaml_spec.specs.declared.tree.Pair.{Pair}
use Rattle.yaml_spec.specs.Trees.{Layer, items_of, entries_of}

-- a whole number from 0 to 2^64-1
abbrev pub number_of : ℤ → Option ℕ
number_of (pos n) = if nat_lt n (2 ^ 64) then Some n else None
number_of (negsuc n) = None

-- a value: a truth value, such a number or a text
abbrev pub value_layer : Layer → Option Value
value_layer (Tree-F.Flag b) = Some (v.Flag b)
value_layer (Tree-F.Int z) = option_map v.Number (number_of z)
value_layer (Tree-F.Text s) = Some (v.Word s)
value_layer _ = None

unfoldable pub value_of : Tree → Option Value
value_of t = value_layer (out-Tree t)

-- ---- lists

abbrev pub one_or_each : {A : Type 0} → (Tree → Option A) → Tree → Option (List Tree) → Option (List A)
one_or_each f t None = one (f t)
one_or_each f t (Some ts) = each f ts

-- a list of parts; what is no list counts as a list of one
abbrev pub one_or_list : {A : Type 0} → (Tree → Option A) → Tree → Option (List A)
one_or_list f t = one_or_each f t (items_of t)

-- one to 64 parts
abbrev pub few : List Tree → Option (List Tree)
few ts = if nat_le 1 (length ts) && nat_le (length ts) 64 then Some ts else None

abbrev pub few_items : Tree → Option (List Tree)
few_items t = option_and_then few (items_of t)

-- ---- maps

abbrev pub is_key : List ℕ → Pair → Bool
is_key key p = bytes_eq p.key key

-- the entry of a map that has one
abbrev pub only : List Pair → Option Pair
only (p ∷ []) = Some p
only _ = None

abbrev pub only_entry : Tree → Option Pair
only_entry t = option_and_then only (entries_of t)

-- of two entries the value under `name`, and the other entry
abbrev pub beside : Pair → Pair → Option (Tree × Pair)
beside p q = if is_key (codes "name") p then Some (p.value, q) else (if is_key (codes "name") q then Some (q.value, p) else None)

-- the same of a map with two entries
abbrev pub beside_name : List Pair → Option (Tree × Pair)
beside_name (p ∷ q ∷ []) = beside p q
beside_name _ = None
