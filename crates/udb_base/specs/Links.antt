-- The sessions that a link takes, one after the other.
use Rattle.std.specs.Prelude.{◌≡◌, ℕ, Bool, true, false, List, [], ◌∷◌, Option, Some, Result, MatchResult, IfSome}

-- the bytes of each session
abbrev pub Sessions : Type 0
Sessions = List (List ℕ)

-- where one is taken it is the first of the later ones, and its bytes are left to be read
abbrev pub Moves : Bool → Sessions → Option Sessions → Option (List ℕ) → Type 0
Moves true before after left = (session : List ℕ) × (rest : Sessions) × (before ≡ session ∷ rest) × (after ≡ Some rest) × (left ≡ Some session)
Moves false before after left = (before ≡ []) × (after ≡ Some [])

-- the sessions before a call that takes the next one and after it, and the bytes left to be read
abbrev pub Takes : {E : Type 0} → Sessions → Option Sessions → Option (List ℕ) → Result Bool E → Type 0
Takes before after left result = MatchResult result (λ taken. Moves taken before after left) (λ _. after ≡ Some before)

-- the same where the link tells its later sessions
abbrev pub NextSession : {E : Type 0} → Option Sessions → Option Sessions → Option (List ℕ) → Result Bool E → Type 0
NextSession before after left result = IfSome before (λ later. Takes later after left result)
