-- Machinery: readers of lists of tokens, from left to right. An outcome is what was read and the
-- tokens after it, or the tokens from the fault on.
use Rattle.std.specs.Prelude.{ℕ, zero, suc, Bool, false, if◌then◌else◌, nat_le, List, [], ◌∷◌, length, max, Option, Some, None, Result, Ok, Err}
use Rattle.std.specs.Cmp.Lexicographic.{pointwise}
use Rattle.std.specs.Prelude.{nat_eq}
use denote.Enum.Bare.{sameb}
use Rattle.idl_token.specs.contracts.kinds.Sign as sign_type
use Rattle.idl_token.specs.contracts.kinds.Reserved as reserved_type
use Rattle.idl_token.specs.declared.kinds.Reserved.{Reserved}
use Rattle.idl_token.specs.declared.kinds.Sign.{Sign}
use Rattle.idl_token.specs.declared.kinds.Sign.TheVariants as s
use Rattle.idl_token.specs.Symbol.{Symbol}
use Rattle.idl_token.specs.Symbol as t

abbrev pub Outcome : Type 0 → Type 0
Outcome A = Result (A × List Symbol) (List Symbol)

abbrev pub Reader : Type 0 → Type 0
Reader A = List Symbol → Outcome A

abbrev pub and_then : {A B : Type 0} → Outcome A → (A → Reader B) → Outcome B
and_then (Ok p) f = f p.0 p.1
and_then (Err ts) f = Err ts

infixl 10 ◌>>=◌
abbrev pub ◌>>=◌ : {A B : Type 0} → Reader A → (A → Reader B) → Reader B
p >>= f = λ ts. and_then (p ts) f

infixl 10 ◌>>◌
abbrev pub ◌>>◌ : {A B : Type 0} → Reader A → Reader B → Reader B
p >> q = p >>= (λ _. q)

abbrev pub pure : {A : Type 0} → A → Reader A
pure a = λ ts. Ok (a, ts)

abbrev pub refuse : {A : Type 0} → Reader A
refuse = λ ts. Err ts

-- ---- tokens

abbrev pub head : List Symbol → Option Symbol
head [] = None
head (c ∷ ts) = Some c

abbrev pub after : List Symbol → List Symbol
after [] = []
after (c ∷ ts) = ts

-- what a token has a reader do: read on behind the token, refuse the token, or look elsewhere
pub data Move (B : Type 0) : Type 0 where
  take : (List Symbol → Result (B × List Symbol) (List Symbol)) → Move B
  stop : Move B
  pass : Move B

abbrev pub moved : {B : Type 0} → Move B → Reader B → Reader B
moved (take p) other = λ ts. p (after ts)
moved stop other = refuse
moved pass other = other

abbrev pub move_at : {B : Type 0} → (Symbol → Move B) → Option Symbol → Move B
move_at f None = pass
move_at f (Some c) = f c

-- goes on by the next token, or else by the other reader
abbrev pub choose : {B : Type 0} → (Symbol → Move B) → Reader B → Reader B
choose f other = λ ts. moved (move_at f (head ts)) other ts

-- by the next token alone
abbrev pub among : {B : Type 0} → (Symbol → Move B) → Reader B
among f = choose f refuse

abbrev pub is_sign : Sign → Symbol → Bool
is_sign x (t.sign y) = sameb sign_type.the_type y x
is_sign x _ = false

abbrev pub is_reserved : Reserved → Symbol → Bool
is_reserved x (t.reserved y) = sameb reserved_type.the_type y x
is_reserved x _ = false

abbrev pub same_text : List ℕ → List ℕ → Bool
same_text = pointwise nat_eq

abbrev pub is_word : List ℕ → Symbol → Bool
is_word x (t.word y) = same_text y x
is_word x _ = false

-- a test of the next token
abbrev pub sees : (Symbol → Bool) → List Symbol → Bool
sees test [] = false
sees test (c ∷ ts) = test c

-- takes a token that the test accepts
unfoldable pub want : (Symbol → Bool) → Reader (Unit {0})
want test = λ ts. if sees test ts then Ok (tt, after ts) else Err ts

abbrev pub expect : Sign → Reader (Unit {0})
expect x = want (is_sign x)

-- takes the sign and goes on with the first reader, or else with the second
abbrev pub if_next : {B : Type 0} → Sign → Reader B → Reader B → Reader B
if_next x p q = λ ts. if sees (is_sign x) ts then p (after ts) else q ts

-- the same for a word of the language
abbrev pub if_reserved : {B : Type 0} → Reserved → Reader B → Reader B → Reader B
if_reserved x p q = λ ts. if sees (is_reserved x) ts then p (after ts) else q ts

abbrev pub name_by : Symbol → Move (List ℕ)
name_by (t.word x) = take (pure x)
name_by _ = stop

-- a word, whatever it is
unfoldable pub name : Reader (List ℕ)
name = among name_by

-- ---- the nesting that is left

-- only where something may nest below
abbrev pub deeper : {B : Type 0} → ℕ → Reader B → Move B
deeper zero p = stop
deeper (suc n) p = take p

-- only where what was read, with that nesting, may become a part of something
abbrev pub allowed : {B : Type 0} → ℕ → ℕ → Reader B → Move B
allowed h n p = if nat_le h n then take p else stop

-- before a token is known
abbrev pub only : {B : Type 0} → ℕ → Reader B → Reader B
only zero p = refuse
only (suc n) p = p

-- ---- two readings of one text: the one that comes farther, and of equals one that has a value

abbrev pub left_of : {A : Type 0} → Outcome A → ℕ
left_of (Ok p) = length p.1
left_of (Err ts) = length ts

abbrev pub farther : {A : Type 0} → Outcome A → Outcome A → Outcome A
farther (Ok p) q = if nat_le (length p.1) (left_of q) then Ok p else q
farther (Err ts) q = if nat_le (left_of q) (length ts) then q else Err ts

abbrev pub either : {A : Type 0} → Reader A → Reader A → Reader A
either p q = λ ts. farther (p ts) (q ts)

-- ---- lists

-- parts with commas between them, with the greatest nesting
unfoldable pub separated : {A : Type 0} → Reader (A × ℕ) → ℕ → Reader (List A × ℕ)
separated one zero = refuse
separated one (suc f) = do
  x ← one
  if_next s.Comma (do xs ← separated one f; pure (x.0 ∷ xs.0, max x.1 xs.1)) (pure (x.0 ∷ [], x.1))

-- parts for as long as one begins
unfoldable pub repeated : {A : Type 0} → (Symbol → Bool) → Reader (A × ℕ) → ℕ → Reader (List A × ℕ)
repeated begins one zero = refuse
repeated begins one (suc f) = λ ts. if sees begins ts then (do
  x ← one
  xs ← repeated begins one f
  pure (x.0 ∷ xs.0, max x.1 xs.1)) ts else Ok (([], 0), ts)

-- a list has no more parts than tokens
unfoldable pub commas : {A : Type 0} → Reader (A × ℕ) → Reader (List A × ℕ)
commas one = λ ts. separated one (suc (length ts)) ts

unfoldable pub rows : {A : Type 0} → (Symbol → Bool) → Reader (A × ℕ) → Reader (List A × ℕ)
rows begins one = λ ts. repeated begins one (suc (length ts)) ts

-- nothing after what was read
abbrev pub ended : {A : Type 0} → A → List Symbol → Result A (List Symbol)
ended x [] = Ok x
ended x (c ∷ ts) = Err (c ∷ ts)

abbrev pub all_of : {A : Type 0} → Outcome A → Result A (List Symbol)
all_of (Ok p) = ended p.0 p.1
all_of (Err ts) = Err ts
