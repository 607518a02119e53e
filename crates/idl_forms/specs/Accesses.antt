-- The bytes of an access, and its place in the memory.
use Rattle.std.specs.Prelude.{◌==◌, ◌+◌, ◌/◌, ◌%◌, not, ℕ, nat_lt, List, length, Option, None, Some, Result, Ok, Err, if◌then◌else◌}
use Rattle.idl_spec.specs.Forms.{is_access}
use Rattle.idl_forms.specs.declared.values.Stop.{Stop}
use Rattle.idl_forms.specs.declared.values.Stop.TheVariants.{Raised}

-- how many bytes an access of so many bits has
abbrev pub byte_count : ℕ → Option ℕ
byte_count bits = if is_access bits then Some (bits / 8) else None

-- the place of so many bytes from an address; one that isn't aligned raises the code, one outside the
-- memory the next code
abbrev pub place_of : ℕ → ℕ → ℕ → List ℕ → Result ℕ Stop
place_of code at count ram =
    if not (at % count == 0) then Err (Raised code at)
    else (if nat_lt (length ram) (at + count) then Err (Raised (code + 1) at) else Ok at)
