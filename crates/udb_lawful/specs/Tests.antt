-- Tests that the code makes.
use Rattle.std.specs.Prelude.{◌==◌, ◌||◌, Bool, ℕ}

-- a width of registers
abbrev pub is_width : ℕ → Bool
is_width n = (n == 32) || (n == 64)
