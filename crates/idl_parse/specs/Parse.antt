-- What the answers of the calls on sources say. All of it is for a way of reading that tells the
-- nesting, the tokens and the tree.
use Rattle.std.specs.Prelude.{◌≡◌, ℕ, zero, suc, ◌-◌, ◌<◌, List, [], ◌∷◌, length, Option, None, Some, Result, Ok, Err}
use Rattle.idl_token.specs.declared.tokens.LexFault.{LexFault}
use Rattle.idl_token.specs.declared.tokens.LexFault.TheVariants as lexing
use Rattle.idl_token.specs.Lexeme.{Lexeme}
use Rattle.idl_token.specs.Rows.{IsRow, IsBadAt}
use Rattle.idl_token.specs.Symbol.{Symbol, symbols}
use Rattle.idl_grammar.specs.Outcome.{Outcome, all_of}
use Rattle.idl_grammar.specs.Faults.{Grammar, ReadsAs, ReadsWithin, GoesOn, GoesOnWithin, IsFirstFault}
use Rattle.idl_exprs.specs.Gives.{Gives, pair}
use Rattle.idl_exprs.specs.declared.stop.Stop.{Stop}
use Rattle.idl_parse.specs.declared.faults.ParseFault.{ParseFault}
use Rattle.idl_parse.specs.declared.faults.ParseFault.TheVariants as fault
use Rattle.idl_parse.specs.declared.faults.Halt.{Halt}
use Rattle.idl_parse.specs.declared.faults.Halt.TheVariants as halt

-- the source is a row of tokens that reads so, with a nesting of at most n
abbrev pub Spells : {A : Type 0} → Grammar A → ℕ → List ℕ → A → Type 0
Spells R n source x = (ts : List Lexeme) × IsRow source ts × ReadsWithin R n (symbols ts) x

-- the byte at which the token of that number begins; past the tokens the source's length
abbrev pub place_of : List ℕ → List Lexeme → ℕ → ℕ
place_of source [] k = length source
place_of source (t ∷ ts) zero = t.at
place_of source (t ∷ ts) (suc k) = place_of source ts k

-- The source is a row of tokens that reads as nothing, with whatever nesting. The place is that of
-- the first token, or the end, at which nothing goes on.
pub record IsUnexpectedAt {A : Type 0} (R : Grammar A) (source : List ℕ) (at : ℕ) : Type 0 where
  pub tokens : List Lexeme
  pub row : IsRow source tokens
  pub none : (x : A) → ReadsAs R (symbols tokens) x → ⊥
  pub index : ℕ
  pub first : IsFirstFault (GoesOn R) (symbols tokens) index
  pub place : at ≡ place_of source tokens index

-- The source is a row of tokens that reads, but not with a nesting of at most n. The place is that
-- of the first token at which nothing of that nesting goes on.
pub record IsTooDeepAt {A : Type 0} (R : Grammar A) (n : ℕ) (source : List ℕ) (at : ℕ) : Type 0 where
  pub tokens : List Lexeme
  pub row : IsRow source tokens
  pub tree : A
  pub reads : ReadsAs R (symbols tokens) tree
  pub none : (x : A) → ReadsWithin R n (symbols tokens) x → ⊥
  pub index : ℕ
  pub token : index < length tokens
  pub first : IsFirstFault (GoesOnWithin R n) (symbols tokens) index
  pub place : at ≡ place_of source tokens index

-- the one answer for a source, where memory suffices
abbrev pub IsAnswer : {A : Type 0} → Grammar A → ℕ → List ℕ → Result A ParseFault → Type 0
IsAnswer R n source (Ok x) = Spells R n source x
IsAnswer R n source (Err fault.Memory) = ⊥
IsAnswer R n source (Err (fault.BadToken at)) = IsBadAt source at
IsAnswer R n source (Err (fault.Unexpected at)) = IsUnexpectedAt R source at
IsAnswer R n source (Err (fault.TooDeep at)) = IsTooDeepAt R n source at

-- the answer is this, unless memory ran out
abbrev pub Answers : {T A : Type 0} → (T → A) → Result T ParseFault → A → Type 0
Answers view (Ok x) y = view x ≡ y
Answers view (Err fault.Memory) y = Unit {0}
Answers view (Err e) y = ⊥

-- the answer is this fault, unless memory ran out
abbrev pub Faults : {T : Type 0} → Result T ParseFault → ParseFault → Type 0
Faults (Ok x) f = ⊥
Faults (Err fault.Memory) f = Unit {0}
Faults (Err e) f = e ≡ f

-- a fault, if any, that tokens alone may have
abbrev pub IsOfTokens : {T : Type 0} → Result T ParseFault → Type 0
IsOfTokens (Ok x) = Unit {0}
IsOfTokens (Err fault.Memory) = Unit {0}
IsOfTokens (Err (fault.BadToken at)) = Unit {0}
IsOfTokens (Err e) = ⊥

-- ---- clauses of the calls on sources, for a view of what they answer

-- whatever the source spells is the answer
abbrev pub ReadsOnly : {T A : Type 0} → (T → A) → Grammar A → ℕ → List ℕ → Result T ParseFault → Type 0
ReadsOnly {A = A} view R n source result = (x : A) → Spells R n source x → Answers view result x

-- whatever row of tokens the source is, it is the answer
abbrev pub LexesOnly : {T : Type 0} → (T → List Lexeme) → List ℕ → Result T ParseFault → Type 0
LexesOnly view source result = (ts : List Lexeme) → IsRow source ts → Answers view result ts

abbrev pub BadOnly : {T : Type 0} → List ℕ → Result T ParseFault → Type 0
BadOnly source result = (at : ℕ) → IsBadAt source at → Faults result (fault.BadToken at)

abbrev pub Unexpected : {T A : Type 0} → Grammar A → List ℕ → Result T ParseFault → Type 0
Unexpected R source result = (at : ℕ) → result ≡ Err (fault.Unexpected at) → IsUnexpectedAt R source at

abbrev pub UnexpectedOnly : {T A : Type 0} → Grammar A → List ℕ → Result T ParseFault → Type 0
UnexpectedOnly R source result = (at : ℕ) → IsUnexpectedAt R source at → Faults result (fault.Unexpected at)

abbrev pub TooDeep : {T A : Type 0} → Grammar A → ℕ → List ℕ → Result T ParseFault → Type 0
TooDeep R n source result = (at : ℕ) → result ≡ Err (fault.TooDeep at) → IsTooDeepAt R n source at

abbrev pub TooDeepOnly : {T A : Type 0} → Grammar A → ℕ → List ℕ → Result T ParseFault → Type 0
TooDeepOnly R n source result = (at : ℕ) → IsTooDeepAt R n source at → Faults result (fault.TooDeep at)

-- ---- laws of a grammar

-- a source spells at most one tree, whatever the limits
abbrev pub SpellsOne : {A : Type 0} → Grammar A → Type 0
SpellsOne {A} R = (n m : ℕ) (source : List ℕ) (x y : A) → Spells R n source x → Spells R m source y → x ≡ y

-- a source has at most one answer, and at least one
abbrev pub AnswersOne : {A : Type 0} → Grammar A → Type 0
AnswersOne {A} R = (n : ℕ) (source : List ℕ) (r q : Result A ParseFault) → IsAnswer R n source r → IsAnswer R n source q → r ≡ q

abbrev pub AnswersSome : {A : Type 0} → Grammar A → Type 0
AnswersSome {A} R = (n : ℕ) (source : List ℕ) → (r : Result A ParseFault) × IsAnswer R n source r

-- the text of what a source spells is a source that spells it too
abbrev pub ReadsBack : {A : Type 0} → Grammar A → (A → List ℕ) → Type 0
ReadsBack {A} R text = (n : ℕ) (source : List ℕ) (x : A) → Spells R n source x → Spells R n (text x) x

-- ---- for private functions

-- what an answer says of the source, with nothing of want of memory
abbrev pub Tells : {T A : Type 0} → (T → A) → Grammar A → ℕ → List ℕ → Result T ParseFault → Type 0
Tells view R n source (Ok x) = Spells R n source (view x)
Tells view R n source (Err fault.Memory) = Unit {0}
Tells view R n source (Err (fault.BadToken at)) = IsBadAt source at
Tells view R n source (Err (fault.Unexpected at)) = IsUnexpectedAt R source at
Tells view R n source (Err (fault.TooDeep at)) = IsTooDeepAt R n source at

-- a fault of the lexer
abbrev pub of_lexer : LexFault → ParseFault
of_lexer lexing.Memory = fault.Memory
of_lexer (lexing.BadToken at) = fault.BadToken at

-- what reading all of the tokens came to, unless memory ran out
abbrev pub Comes : {A : Type 0} → Result (A × ℕ) (List Symbol) → Result A Halt → Type 0
Comes read (Ok x) = (h : ℕ) × (read ≡ Ok (x, h))
Comes read (Err halt.Memory) = Unit {0}
Comes read (Err (halt.Left k)) = (rest : List Symbol) × (read ≡ Err rest) × (k ≡ length rest)

-- the same of a reader that left so many tokens
abbrev pub Completes : {A : Type 0} → Result (A × ℕ) Stop → List Symbol → Result A Halt → Type 0
Completes {A} read rest result = (q : Outcome (A × ℕ)) → Gives pair q read rest → Comes (all_of q) result

-- the place of the token with which so many are left
abbrev pub place_before : List ℕ → List Lexeme → ℕ → ℕ
place_before source ts left = place_of source ts (length ts - left)

-- what the two readings say: where the one without a limit stops, if it does, and the one with it
abbrev pub fault_by : List ℕ → List Lexeme → Option ℕ → ℕ → ParseFault
fault_by source ts None left = fault.TooDeep (place_before source ts left)
fault_by source ts (Some free) left = fault.Unexpected (place_before source ts free)
