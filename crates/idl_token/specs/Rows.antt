-- Statement: the token relation, which sources are which rows of tokens, and the error position.
use Rattle.std.specs.Prelude.{◌≡◌, ℕ, ◌+◌, ◌<◌, ◌≤◌, List, [], ◌∷◌, length, take, drop, Result, Ok, Err}
use Rattle.idl_token.specs.declared.kinds.TokenKind.{TokenKind}
use Rattle.idl_token.specs.declared.before.Before.{Before}
use Rattle.idl_token.specs.declared.front.Front.TheVariants.{Gap, Token, Nothing}
use Rattle.idl_token.specs.declared.tokens.LexFault.{LexFault}
use Rattle.idl_token.specs.declared.tokens.LexFault.TheVariants as fault
use Rattle.idl_token.specs.Lexeme.{Lexeme, lexeme}
use Rattle.idl_token.specs.Front.{start, after, front_at}

-- From a place on, with what stands before it, the bytes are these tokens with separators, and then a rest with its place and what stands before it.
pub data Reads : Before → ℕ → List ℕ → List Lexeme → Before → ℕ → List ℕ → Type 0 where
  done : {b : Before} {n : ℕ} {s : List ℕ} → Reads b n s [] b n s
  gap : {b c : Before} {n m i : ℕ} {s t : List ℕ} {ts : List Lexeme} → front_at b s ≡ Gap i → Reads b (n + i) (drop i s) ts c m t → Reads b n s ts c m t
  token : {b c : Before} {n m i : ℕ} {s t : List ℕ} {ts : List Lexeme} {x : TokenKind} → front_at b s ≡ Token x i → Reads (after b x) (n + i) (drop i s) ts c m t
      → Reads b n s (lexeme x (take i s) n ∷ ts) c m t

-- the source is these tokens with separators
abbrev pub IsRow : List ℕ → List Lexeme → Type 0
IsRow source ts = (b : Before) × (m : ℕ) × Reads start 0 source ts b m []

-- Up to the place the source is tokens with separators, and there, before its end, begins neither.
abbrev pub IsBadAt : List ℕ → ℕ → Type 0
IsBadAt source at = (ts : List Lexeme) × (b : Before) × (rest : List ℕ) × Reads start 0 source ts b at rest × (0 < length rest) × (front_at b rest ≡ Nothing)

-- the token's text is the part of the source at its place, and isn't empty
pub record IsSlice (source : List ℕ) (t : Lexeme) : Type 0 where
  pub within : t.at + length t.text ≤ length source
  pub some : 0 < length t.text
  pub slice : t.text ≡ take (length t.text) (drop t.at source)

-- no token begins before the end of the one before it, nor before n
abbrev pub PlacesRise : ℕ → List Lexeme → Type 0
PlacesRise n [] = Unit {0}
PlacesRise n (t ∷ ts) = (n ≤ t.at) × PlacesRise (t.at + length t.text) ts

-- the answer is these tokens, unless memory ran out
abbrev pub Answers : {T : Type 0} → (T → List Lexeme) → Result T LexFault → List Lexeme → Type 0
Answers view (Ok us) ts = view us ≡ ts
Answers view (Err fault.Memory) ts = Unit {0}
Answers view (Err (fault.BadToken at)) ts = ⊥

-- the answer is this place, unless memory ran out
abbrev pub Faults : {T : Type 0} → Result T LexFault → ℕ → Type 0
Faults (Ok us) at = ⊥
Faults (Err fault.Memory) at = Unit {0}
Faults (Err (fault.BadToken n)) at = n ≡ at
