-- What holds of the texts of bundles, whatever is read.
use Rattle.std.specs.Prelude.{◌≡◌, ℕ, List}
use Rattle.first_spec.specs.declared.bundle.FirstBundle.{FirstBundle}
use Rattle.first_spec.specs.Bundle.{SpellsFirst}

-- bytes spell at most one bundle
abbrev pub OneBundle : Type 0
OneBundle = (bytes : List ℕ) (x y : FirstBundle) → SpellsFirst bytes x → SpellsFirst bytes y → x ≡ y

abbrev pub SpellsNone : List ℕ → Type 0
SpellsNone bytes = (x : FirstBundle) → SpellsFirst bytes x → ⊥
