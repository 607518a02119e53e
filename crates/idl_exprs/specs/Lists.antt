-- Lists as loops read them.
use Rattle.std.specs.Prelude.{ℕ, max, List, ◌++◌, Ok, Err}
use Rattle.idl_token.specs.declared.kinds.Sign.TheVariants as s
use Rattle.idl_grammar.specs.Outcome.{Outcome, Reader, pure, if_next, commas}

-- what reading gives where these parts and their nesting were read before
abbrev pub joined : {A : Type 0} → List A → ℕ → Outcome (List A × ℕ) → Outcome (List A × ℕ)
joined xs h (Ok p) = Ok ((xs ++ p.0.0, max h p.0.1), p.1)
joined xs h (Err ts) = Err ts

-- the parts behind those, a comma in front of each
abbrev pub more_parts : {A : Type 0} → Reader (A × ℕ) → List A → ℕ → Reader (List A × ℕ)
more_parts one xs h = if_next s.Comma (λ ts. joined xs h (commas one ts)) (pure (xs, h))
