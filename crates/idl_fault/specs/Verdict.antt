-- Statement: where a reader of all of the tokens stops. (`verdict` is how the recogniser tells it.)
use Rattle.std.specs.Prelude.{ℕ, List, length, Option, Some, None, Result, Ok, Err}
use Rattle.idl_token.specs.Symbol.{Symbol}
use Rattle.idl_fault.specs.Machine.{Verdict}

-- what was read is forgotten
abbrev pub verdict : {A : Type 0} → Result A (List Symbol) → Verdict
verdict (Ok x) = Ok tt
verdict (Err rest) = Err rest

-- how many tokens are left from the fault on
abbrev pub left_at : {A : Type 0} → Result A (List Symbol) → Option ℕ
left_at (Ok x) = None
left_at (Err rest) = Some (length rest)
