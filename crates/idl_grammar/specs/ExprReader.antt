-- Machinery: readers of expressions, from left to right, one for each production. A reader answers
-- a value and its nesting, which is at most the limit.
use Rattle.std.specs.Prelude.{ℕ, zero, suc, max, Bool, true, false, if◌then◌else◌, nat_eq, List, [], Option, Some, None}
use Rattle.idl_token.specs.declared.kinds.Reserved.{Reserved}
use Rattle.idl_token.specs.declared.kinds.Reserved.TheVariants as r
use Rattle.idl_token.specs.declared.kinds.Special.TheVariants as p
use Rattle.idl_token.specs.declared.kinds.Sign.TheVariants as s
use Rattle.idl_tree.specs.declared.widths.Width.{Width}
use Rattle.idl_tree.specs.declared.widths.EnumKind.{EnumKind}
use Rattle.idl_tree.specs.declared.expressions.Unary.{Unary}
use Rattle.idl_tree.specs.declared.expressions.Expr.{Expr}
use Rattle.idl_tree.specs.declared.expressions.Expr.TheVariants as e
use Rattle.idl_token.specs.Symbol.{Symbol}
use Rattle.idl_token.specs.Symbol as t
use Rattle.idl_grammar.specs.Tables.{Infix, plain, wide, binding, loosest, unary_of, enum_of, is_access, sized_width, mxlen, sw_read}
use Rattle.idl_grammar.specs.ExprGrammar.{Inside, place, slice, part_of}
use Rattle.idl_grammar.specs.WidthReader as wr
use Rattle.idl_grammar.specs.WidthReader.{width_part, width}
use Rattle.idl_grammar.specs.Outcome.{Reader, ◌>>=◌, ◌>>◌, pure, refuse, Move, take, stop, pass, choose, among, want, expect, is_reserved, is_word, same_text, if_next, name, deeper, allowed, only, either, commas}

-- an expression and its nesting
abbrev pub Found : Type 0
Found = Expr × ℕ

-- what is read: an expression that binds as tightly as a level, any expression, or the rest of one
-- that begins with the word, which has been read
pub data Part : Type 0 where
  tight : ℕ → Part
  any : Part
  behind : List ℕ → Part

abbrev pub access_by : Symbol → Move ℕ
access_by (t.number k) = if is_access k then take (pure k) else stop
access_by _ = stop

-- "<" 8, 16, 32 or 64 ">"
unfoldable pub access : Reader ℕ
access = do
  expect s.Less
  k ← among access_by
  expect s.Greater
  pure k

-- what follows an opening bracket, one within a nesting of n
module _ (n : ℕ) (one : Reader Found) where
  -- expression "]"
  unfoldable pub single : Reader (Inside × ℕ)
  single = do
    x ← one
    expect s.CloseBracket
    pure (place x.0, x.1)

  -- width ":" width "]"
  unfoldable pub range : Reader (Inside × ℕ)
  range = do
    a ← width n
    expect s.Colon
    b ← width n
    expect s.CloseBracket
    pure (slice a.0 b.0, max a.1 b.1)

  -- behind `[`: the farther of both
  unfoldable pub inside : Reader (Inside × ℕ)
  inside = either single range

-- Within a nesting of suc n; inner reads within n.
module _ (n : ℕ) (inner : Part → Reader Found) where
  -- ---- what stands in parentheses, braces and brackets

  -- behind `word(`: ")" | expression { "," expression } ")"
  unfoldable pub called : List ℕ → Reader Found
  called x = if_next s.CloseParen (pure (e.Call x [], 1)) (only n (do
    xs ← commas (inner any)
    expect s.CloseParen
    pure (e.Call x xs.0, suc xs.1)))

  -- behind a word: [ "(" called ]
  unfoldable pub named : List ℕ → Reader Found
  named x = if_next s.OpenParen (called x) (pure (e.Word x, 1))

  -- behind `{`: expression { "," expression } "}"
  unfoldable pub joined : Reader Found
  joined = do
    xs ← commas (inner any)
    expect s.CloseBrace
    pure (e.Join xs.0, xs.1)

  -- behind `{`: width "{" expression "}" "}"
  unfoldable pub repeated : Reader Found
  repeated = do
    a ← width n
    expect s.OpenBrace
    x ← inner any
    expect s.CloseBrace
    expect s.CloseBrace
    pure (e.Repeat a.0 x.0, max a.1 x.1)

  -- behind `{`: the farther of both
  unfoldable pub braced : Reader Found
  braced = do
    x ← either joined repeated
    pure (x.0, suc x.1)

  -- behind `$signed`: "(" expression ")"
  unfoldable pub as_signed : Reader Found
  as_signed = do
    expect s.OpenParen
    x ← inner any
    expect s.CloseParen
    pure (e.Signed x.0, suc x.1)

  -- behind `$resize`: "<" width ">" "(" expression ")"
  unfoldable pub resized : Reader Found
  resized = do
    expect s.Less
    a ← width n
    expect s.Greater
    expect s.OpenParen
    x ← inner any
    expect s.CloseParen
    pure (e.Resize a.0 x.0, suc (max a.1 x.1))

  -- behind `X`: "[" expression "]"
  unfoldable pub register : Reader Found
  register = do
    expect s.OpenBracket
    x ← inner any
    expect s.CloseBracket
    pure (e.Register x.0, suc x.1)

  -- behind `read_memory`: "<" bits ">" "(" expression ")"
  unfoldable pub memory : Reader Found
  memory = do
    k ← access
    expect s.OpenParen
    x ← inner any
    expect s.CloseParen
    pure (e.ReadMemory k x.0, suc x.1)

  -- behind the type of an enumeration: "::" word
  unfoldable pub member : EnumKind → Reader Found
  member kind = do
    expect s.Path
    x ← name
    pure (e.Member kind x, 1)

  -- behind `csr_value`: "." word
  unfoldable pub new_field : Reader Found
  new_field = do
    expect s.Dot
    x ← name
    pure (e.NewField x, 1)

  -- behind `xlen` and `mode`: "(" ")"
  unfoldable pub empty_call : Expr → Reader Found
  empty_call x = do
    expect s.OpenParen
    expect s.CloseParen
    pure (x, 1)

  -- behind `implemented?`: "(" "ExtensionName" "::" word
  unfoldable pub extension : Reader (List ℕ)
  extension = do
    expect s.OpenParen
    want (is_reserved r.ExtensionName)
    expect s.Path
    name

  -- .. ")"
  unfoldable pub implemented : Reader Found
  implemented = do
    x ← extension
    expect s.CloseParen
    pure (e.Implemented x, 1)

  abbrev pub text_by : Symbol → Move (List ℕ)
  text_by (t.quoted y) = take (pure y)
  text_by _ = stop

  -- .. "," text ")"
  unfoldable pub implemented_version : Reader Found
  implemented_version = do
    x ← extension
    expect s.Comma
    y ← among text_by
    expect s.CloseParen
    pure (e.ImplementedVersion x y, 1)

  -- ---- CSRs

  -- behind an address and its bracket: "." "sw_read" "(" ")"
  unfoldable pub soft_read : Found → Reader Found
  soft_read x = do
    expect s.Dot
    want (is_word sw_read)
    expect s.OpenParen
    expect s.CloseParen
    pure (e.SoftRead x.0, suc x.1)

  -- after `CSR[x].sw_read`
  abbrev pub read_by : List ℕ → Symbol → Move Found
  read_by x (t.sign s.OpenParen) = deeper n (do expect s.CloseParen; pure (e.SoftRead (e.Word x), 2))
  read_by x _ = pass

  -- after `CSR[x].y`
  unfoldable pub field_or_read : List ℕ → List ℕ → Reader Found
  field_or_read x y = if same_text y sw_read then choose (read_by x) (pure (e.Field x y, 1)) else pure (e.Field x y, 1)

  -- behind `CSR[x]`: "." word, where `sw_read` may have "(" ")" behind it
  unfoldable pub field : List ℕ → Reader Found
  field x = do
    expect s.Dot
    y ← name
    field_or_read x y

  -- an expression, or the rest of one, "]" soft_read
  unfoldable pub address : Part → Reader Found
  address q = do
    x ← inner q
    expect s.CloseBracket
    soft_read x

  -- behind `CSR[` and a word: "]" field | address
  unfoldable pub csr_word : List ℕ → Reader Found
  csr_word x = if_next s.CloseBracket (field x) (only n (address (behind x)))

  abbrev pub csr_by : Symbol → Move Found
  csr_by (t.word x) = take (csr_word x)
  csr_by _ = pass

  -- behind `CSR`: "[" ( word csr_word | address )
  unfoldable pub csr : Reader Found
  csr = do
    expect s.OpenBracket
    choose csr_by (only n (address any))

  -- ---- what follows an operand

  abbrev pub part_by : (Found → Reader Found) → Found → Symbol → Move Found
  part_by again x (t.sign s.OpenBracket) = allowed x.1 n (do j ← inside n (inner any); again (part_of x.0 j.0, suc (max x.1 j.1)))
  part_by again x _ = pass

  -- { "[" inside }
  unfoldable pub parts : ℕ → Found → Reader Found
  parts zero x = choose (part_by (λ _. refuse) x) (pure x)
  parts (suc f) x = choose (part_by (parts f) x) (pure x)

  abbrev pub right_of : ℕ → Infix → Found → Reader Found
  right_of k (plain op) x = do y ← inner (tight k); pure (e.Binary op x.0 y.0, suc (max x.1 y.1))
  right_of k wide x = do a ← width_part n wr.atom; pure (e.WideLeft x.0 a.0, suc (max x.1 a.2))

  abbrev pub operator_by : (Found → Reader Found) → ℕ → Found → Option (ℕ × Infix) → Move Found
  operator_by again k x None = pass
  operator_by again k x (Some (j, op)) = if nat_eq j k then allowed x.1 n (do y ← right_of k op x; again y) else pass

  abbrev pub more_by : (Found → Reader Found) → ℕ → Found → Symbol → Move Found
  more_by again k x (t.sign c) = operator_by again k x (binding c)
  more_by again k x _ = pass

  -- { a sign of the level, operand of the level }; each adds to the nesting
  unfoldable pub more : ℕ → ℕ → Found → Reader Found
  more zero k x = choose (more_by (λ _. refuse) k x) (pure x)
  more (suc f) k x = choose (more_by (more f k) k x) (pure x)

  -- operators of the levels below k
  unfoldable pub onward : ℕ → Found → Reader Found
  onward zero x = pure x
  onward (suc k) x = do y ← onward k x; more (suc n) k y

  abbrev pub choice_by : Found → Symbol → Move Found
  choice_by x (t.sign s.Question) = allowed x.1 n (do
    y ← inner any
    expect s.Colon
    z ← inner any
    pure (e.Choice x.0 y.0 z.0, suc (max x.1 (max y.1 z.1))))
  choice_by x _ = pass

  -- [ "?" expression ":" expression ]
  unfoldable pub choice : Found → Reader Found
  choice x = choose (choice_by x) (pure x)

  -- all that may follow an operand
  unfoldable pub rest_of : Found → Reader Found
  rest_of x = do y ← onward loosest x; choice y

  -- ---- operands

  -- behind `(`: operand rest_of ")"; an operand alone nests one level deeper than one before a sign
  unfoldable pub parens : Reader Found
  parens = do
    x ← inner (tight 0)
    y ← rest_of x
    expect s.CloseParen
    pure (y.0, max (suc x.1) y.1)

  abbrev pub sized_by : Option Width → Bool → ℕ → Move Found
  sized_by None f k = stop
  sized_by (Some a) f k = take (pure (e.Sized a f k, 1))

  abbrev pub member_by : Option EnumKind → Move Found
  member_by None = stop
  member_by (Some kind) = take (member kind)

  abbrev pub reserved_by : Reserved → Move Found
  reserved_by r.True = take (pure (e.Flag true, 1))
  reserved_by r.False = take (pure (e.Flag false, 1))
  reserved_by r.X = deeper n register
  reserved_by r.Csr = take csr
  reserved_by r.ReadMemory = deeper n memory
  reserved_by r.CsrValue = take new_field
  reserved_by r.Xlen = take (empty_call (e.Word mxlen))
  reserved_by r.Mode = take (empty_call e.Mode)
  reserved_by c = member_by (enum_of c)

  abbrev pub atom_by : Symbol → Move Found
  atom_by (t.number k) = take (pure (e.Number k, 1))
  atom_by (t.sized v f k) = sized_by (sized_width v) f k
  atom_by (t.quoted x) = take (pure (e.Text x, 1))
  atom_by (t.word x) = take (named x)
  atom_by (t.reserved c) = reserved_by c
  atom_by (t.special p.AsSigned) = deeper n as_signed
  atom_by (t.special p.Resize) = deeper n resized
  atom_by (t.special p.Pc) = take (pure (e.Pc, 1))
  atom_by (t.special p.Encoding) = take (pure (e.Encoding, 1))
  atom_by (t.special p.Implemented) = take implemented
  atom_by (t.special p.ImplementedVersion) = take implemented_version
  atom_by (t.sign s.OpenParen) = deeper n parens
  atom_by (t.sign s.OpenBrace) = deeper n braced
  atom_by _ = stop

  -- atom parts
  unfoldable pub post : Reader Found
  post = do x ← among atom_by; parts (suc n) x

  abbrev pub signed_by : Option Unary → Move Found
  signed_by None = pass
  signed_by (Some op) = deeper n (do x ← inner (tight 0); pure (e.Unary op x.0, suc x.1))

  abbrev pub unary_by : Symbol → Move Found
  unary_by (t.sign c) = signed_by (unary_of c)
  unary_by _ = pass

  -- ( "!" | "~" | "-" ) operand | post
  unfoldable pub operand : Reader Found
  operand = choose unary_by post

  unfoldable pub level : Part → Reader Found
  level (tight k) = do x ← operand; onward k x
  level any = do x ← operand; rest_of x
  level (behind w) = do x ← named w; y ← parts (suc n) x; rest_of y

-- a part of an expression, of nesting at most the number
unfoldable pub expr_part : ℕ → Part → Reader Found
expr_part zero = λ _. refuse
expr_part (suc n) = level n (expr_part n)

-- an expression of nesting at most the number
abbrev pub expr : ℕ → Reader Found
expr n = expr_part n any
