-- A set of the keys of parts.
use Rattle.std.specs.Prelude.{◌≡◌, ℕ, List}
use Rattle.std.specs.BTreeSet.{BTreeSet, contains_text}
use Rattle.std.specs.declared.string.String.{String}
use Rattle.yaml_spec.specs.declared.tree.Pair.{Pair}
use Rattle.yaml_spec.specs.Line.{has_key}

-- the set has the keys of the parts, and no others
abbrev pub HasKeysOf : {Y : Type 0} → List Pair → BTreeSet (String Y) → Type 0
HasKeysOf ps s = (k : List ℕ) → contains_text s k ≡ has_key k ps
