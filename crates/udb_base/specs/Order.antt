-- The order of kinds and names, by which tables are kept.
use Rattle.std.specs.Prelude.{◌≡◌, IsTrue, ℕ, List, AllPairs, ◌&&◌, ◌||◌, ◌==◌, Bool, nat_lt}
use Rattle.std.specs.declared.cmp.Ordering.{Ordering}
use Rattle.std.specs.Ordering.{nat_cmp, ordering_then}
use Rattle.std.specs.Cmp.Lexicographic.{slice_cmp}
use Rattle.udb_base.specs.declared.kinds.Kind.{Kind}
use Rattle.udb_base.specs.declared.kinds.Kind.TheVariants.{Extension, Parameter, Instruction, Csr, Functions, Config}
use Rattle.udb_base.specs.declared.rows.Row.{Row}
use Rattle.udb_base.specs.Names.{name_lt}

-- the place of a kind in the order of kinds, from 0
abbrev pub kind_place : Kind → ℕ
kind_place Extension = 0
kind_place Parameter = 1
kind_place Instruction = 2
kind_place Csr = 3
kind_place Functions = 4
kind_place Config = 5

-- by kind, and within a kind by the bytes of the name
abbrev pub key_lt : Kind → List ℕ → Kind → List ℕ → Bool
key_lt kind name other others = nat_lt (kind_place kind) (kind_place other) || ((kind_place kind == kind_place other) && name_lt name others)

abbrev pub row_lt : Row → Row → Bool
row_lt a b = key_lt a.kind a.name b.kind b.name

-- the same as an answer of three
abbrev pub key_cmp : Kind → List ℕ → Kind → List ℕ → Ordering
key_cmp kind name other others = ordering_then (nat_cmp (kind_place kind) (kind_place other)) (slice_cmp nat_cmp name others)

abbrev pub row_cmp : Row → Row → Ordering
row_cmp a b = key_cmp a.kind a.name b.kind b.name

-- rows rise strictly, so no two have one kind and name
abbrev pub IsInOrder : List Row → Type 0
IsInOrder rows = AllPairs (λ a b. IsTrue (row_lt a b)) rows

-- another kind or another name
abbrev pub HasOtherKey : Row → Row → Type 0
HasOtherKey a b = b.kind ≡ a.kind → b.name ≡ a.name → ⊥

-- no two rows have the same kind and name
abbrev pub HasDistinctKeys : List Row → Type 0
HasDistinctKeys rows = AllPairs HasOtherKey rows
