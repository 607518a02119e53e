-- Cells counted one after another.
use Rattle.std.specs.Prelude.{◌||◌, ◌&&◌, ◌==◌, Bool, true, false, not, ℕ, nat_le, List, [], ◌∷◌, if◌then◌else◌}
use Rattle.udb_base.specs.declared.refutations.Known.{Known}
use Rattle.udb_base.specs.declared.refutations.Known.TheVariants.{Yes, No, Unknown}

-- what is known where some cell holds, and some fails
abbrev pub verdict : Bool → Bool → Known
verdict holds fails = if fails then (if holds then Unknown else No) else Yes

-- the same with further cells
abbrev pub tally : Bool → Bool → List Bool → Known
tally holds fails [] = verdict holds fails
tally holds fails (b ∷ bs) = tally (holds || b) (fails || not b) bs

abbrev pub is_unknown : Known → Bool
is_unknown Unknown = true
is_unknown _ = false

-- what is known of One by how many parts are Yes and whether one is Unknown
abbrev pub one_by : ℕ → Bool → Known
one_by holding undecided = if nat_le 2 holding then No else (if (holding == 0) && not undecided then No else (if undecided then Unknown else Yes))
