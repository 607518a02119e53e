-- What a tree has under its keys: nothing where it is no map or hasn't the key, and the empty text, list or map
-- where the value is of another type.
use Rattle.std.specs.Prelude.{ℕ, ℤ, Bool, List, [], Option}
use Rattle.std.specs.Option.{unwrap_or, option_map_or}
use Rattle.yaml_spec.specs.declared.tree.Tree.{Tree}
use Rattle.yaml_spec.specs.declared.tree.Pair.{Pair}
use Rattle.yaml_spec.specs.Trees.{flag_of, int_of, text_of, items_of, entries_of, value_under}
use Rattle.cond_tree.specs.Values.{number_of}

abbrev pub pairs_in : Tree → List Pair
pairs_in t = unwrap_or (entries_of t) []

abbrev pub items_in : Tree → List Tree
items_in t = unwrap_or (items_of t) []

abbrev pub text_in : Tree → List ℕ
text_in t = unwrap_or (text_of t) []

-- a number of 64 bits, and 0 where it is none
abbrev pub natural : ℤ → ℕ
natural z = unwrap_or (number_of z) 0

abbrev pub number_in : Tree → ℕ
number_in t = option_map_or natural (int_of t) 0

abbrev pub value_at : Tree → List ℕ → Option Tree
value_at t key = value_under (pairs_in t) key

abbrev pub pairs_at : Tree → List ℕ → List Pair
pairs_at t key = option_map_or pairs_in (value_at t key) []

abbrev pub items_at : Tree → List ℕ → List Tree
items_at t key = option_map_or items_in (value_at t key) []

abbrev pub text_at : Tree → List ℕ → List ℕ
text_at t key = option_map_or text_in (value_at t key) []

abbrev pub number_at : Tree → List ℕ → ℕ
number_at t key = option_map_or number_in (value_at t key) 0

-- a Flag, and where it is none this one
abbrev pub flag_in : Tree → Bool → Bool
flag_in t missing = unwrap_or (flag_of t) missing

abbrev pub flag_at : Tree → List ℕ → Bool → Bool
flag_at t key missing = option_map_or (λ v. flag_in v missing) (value_at t key) missing
