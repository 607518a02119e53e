-- Lines in a text, and what is answered for it.
use Rattle.std.specs.Prelude.{◌≡◌, ℕ, suc, Bool, false, ◌&&◌, ◌||◌, if◌then◌else◌, eqb, ◌⊎◌, List, [], ◌∷◌, Option, Some, None, Result, Ok, Err}
use Rattle.yaml_spec.specs.declared.tree.Tree.{Tree}
use Rattle.yaml_spec.specs.declared.tree.Mark.{Mark}
use Rattle.yaml_spec.specs.declared.tree.YamlFault.{YamlFault}
use Rattle.yaml_spec.specs.declared.tree.YamlFault.TheVariants as fault
use Rattle.yaml_spec.specs.Line.{begins}
use Rattle.yaml_spec.specs.Spells.{Line, Spells}
pub use Rattle.yaml_spec.specs.Faults.{HasMark}
use Rattle.yaml_spec.specs.Faults.{IsLeast}

-- whether a `- ` mark, or a space behind one, stands in front
abbrev pub is_dashed : Bool → List ℕ → Bool
is_dashed spaced [] = false
is_dashed spaced (c ∷ s) = (spaced && eqb c 32) || (eqb c 45 && begins 32 s)

-- the place of the first line feed, or the end
abbrev pub feed_place : List ℕ → ℕ
feed_place [] = 0
feed_place (c ∷ s) = if eqb c 10 then 0 else suc (feed_place s)

-- the tree is answered, or there was no memory
abbrev pub IsReadAs : Tree → Result Tree YamlFault → Type 0
IsReadAs x r = (r ≡ Ok x) ⊎ (r ≡ Err fault.Memory)

-- a fault at line n, whose mark is this
abbrev pub IsFault : ℕ → Option Mark → YamlFault → Type 0
IsFault n o fault.Memory = Unit {0}
IsFault n o (fault.Bad k) = (k ≡ n) × (o ≡ None)
IsFault n o (fault.Outside k w) = (k ≡ n) × (o ≡ Some w)

abbrev pub IsWhole : Tree → Result Tree YamlFault → Type 0
IsWhole x (Ok y) = y ≡ x
IsWhole x (Err e) = e ≡ fault.Memory

-- what is answered for a text's lines
abbrev pub IsAnswer : List Line → Result Tree YamlFault → Type 0
IsAnswer ls (Ok x) = Spells ls x
IsAnswer ls (Err fault.Memory) = Unit {0}
IsAnswer ls (Err (fault.Bad n)) = IsLeast ls n × HasMark ls n None
IsAnswer ls (Err (fault.Outside n w)) = IsLeast ls n × HasMark ls n (Some w)

-- what a fault at a line names, where there is one
abbrev pub OnBad : Result Tree YamlFault → (ℕ → Type 0) → Type 0
OnBad r P = (n : ℕ) → r ≡ Err (fault.Bad n) → P n

abbrev pub OnOutside : Result Tree YamlFault → (ℕ → Mark → Type 0) → Type 0
OnOutside r P = (n : ℕ) (w : Mark) → r ≡ Err (fault.Outside n w) → P n w
