-- Statement: what rows of tokens read as, where they stop being the front of such a row, and what
-- a reader of rows has to answer. All is said for a grammar: a relation between a nesting, tokens
-- and a tree.
use Rattle.std.specs.Prelude.{◌≡◌, ℕ, ◌+◌, ◌-◌, ◌<◌, ◌≤◌, List, [], ◌++◌, length, take, Result, Ok, Err}
use Rattle.idl_tree.specs.declared.statements.Stmt.{Stmt}
use Rattle.idl_tree.specs.declared.programs.Function.{Function}
use Rattle.idl_token.specs.Symbol.{Symbol}
use Rattle.idl_grammar.specs.StmtGrammar.{ReadsStmts, ReadsFunctions}

abbrev pub Grammar : Type 0 → Type 1
Grammar A = ℕ → List Symbol → A → Type 0

-- all of the tokens, as the statements of a body or as functions
abbrev pub OfBody : Grammar (List Stmt)
OfBody h ts xs = ReadsStmts h ts [] xs

abbrev pub OfFunctions : Grammar (List Function)
OfFunctions h ts xs = ReadsFunctions h ts [] xs

abbrev pub ReadsAs : {A : Type 0} → Grammar A → List Symbol → A → Type 0
ReadsAs R ts x = (h : ℕ) × R h ts x

-- with a nesting of at most n
abbrev pub ReadsWithin : {A : Type 0} → Grammar A → ℕ → List Symbol → A → Type 0
ReadsWithin R n ts x = (h : ℕ) × (h ≤ n) × R h ts x

-- some row of tokens that reads begins so
abbrev pub GoesOn : {A : Type 0} → Grammar A → List Symbol → Type 0
GoesOn {A} R front = (more : List Symbol) × (x : A) × ReadsAs R (front ++ more) x

abbrev pub GoesOnWithin : {A : Type 0} → Grammar A → ℕ → List Symbol → Type 0
GoesOnWithin {A} R n front = (more : List Symbol) × (x : A) × ReadsWithin R n (front ++ more) x

-- The tokens before the place go on, and with the token there they don't.
pub record IsFirstFault (Goes : List Symbol → Type 0) (ts : List Symbol) (at : ℕ) : Type 0 where
  pub within : at ≤ length ts
  pub before : Goes (take at ts)
  pub stops : at < length ts → Goes (take (at + 1) ts) → ⊥

-- ---- laws

-- a row of tokens reads as at most one tree
abbrev pub IsUnambiguous : {A : Type 0} → Grammar A → Type 0
IsUnambiguous {A} R = (h i : ℕ) (ts : List Symbol) (x y : A) → R h ts x → R i ts y → x ≡ y

-- a reader of all of the tokens within a limit of nesting: the tree with its nesting, or the tokens
-- from the fault on
abbrev pub Whole : Type 0 → Type 0
Whole A = ℕ → List Symbol → Result (A × ℕ) (List Symbol)

-- what it gives is read so
abbrev pub IsSound : {A : Type 0} → Grammar A → Whole A → Type 0
IsSound {A} R read = (n : ℕ) (ts : List Symbol) (x : A) (h : ℕ)
    → read n ts ≡ Ok (x, h) → ReadsWithin R n ts x

-- what reads so within the limit is given
abbrev pub IsComplete : {A : Type 0} → Grammar A → Whole A → Type 0
IsComplete {A} R read = (n h : ℕ) (ts : List Symbol) (x : A)
    → R h ts x → h ≤ n → read n ts ≡ Ok (x, h)

-- a fault is the first token, or the end, at which nothing within the limit goes on
abbrev pub FaultsWithin : {A : Type 0} → Grammar A → Whole A → Type 0
FaultsWithin {A} R read = (n : ℕ) (ts rest : List Symbol) → read n ts ≡ Err rest
    → IsFirstFault (GoesOnWithin R n) ts (length ts - length rest)
    × ((x : A) → ReadsWithin R n ts x → ⊥)

-- with a limit of the number of tokens and two, the first at which nothing goes on at all
abbrev pub FaultsFree : {A : Type 0} → Grammar A → Whole A → Type 0
FaultsFree {A} R read = (ts rest : List Symbol) → read (length ts + 2) ts ≡ Err rest
    → IsFirstFault (GoesOn R) ts (length ts - length rest) × ((x : A) → ReadsAs R ts x → ⊥)

-- where the tokens read with a higher nesting, a fault is at a token
abbrev pub FaultsAtToken : {A : Type 0} → Whole A → Type 0
FaultsAtToken {A} read = (n : ℕ) (ts rest : List Symbol) (x : A × ℕ)
    → read (length ts + 2) ts ≡ Ok x → read n ts ≡ Err rest → 0 < length rest
