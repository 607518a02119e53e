-- Costs as far as the bound of 1,048,576: whatever passes it counts one more.
use Rattle.std.specs.Prelude.{ℕ, min}

unfoldable pub capped : ℕ → ℕ
capped n = min 1048577 n
