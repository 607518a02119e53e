-- Machinery: readers of types, statements and functions, from left to right, one for each
-- production. A reader answers a value and its nesting, which is at most the limit.
use Rattle.std.specs.Prelude.{ℕ, zero, suc, ◌-◌, max, Bool, true, false, if◌then◌else◌, List, [], ◌∷◌, Option, Some, None, Result}
use Rattle.idl_token.specs.declared.kinds.Reserved.{Reserved}
use Rattle.idl_token.specs.declared.kinds.Reserved.TheVariants as r
use Rattle.idl_token.specs.declared.kinds.Sign.TheVariants as s
use Rattle.idl_tree.specs.declared.widths.Shape.{Shape}
use Rattle.idl_tree.specs.declared.widths.Shape.TheVariants as sh
use Rattle.idl_tree.specs.declared.expressions.Expr.TheVariants as e
use Rattle.idl_tree.specs.declared.statements.Target.{Target}
use Rattle.idl_tree.specs.declared.statements.Target.TheVariants as target
use Rattle.idl_tree.specs.declared.statements.Stmt.{Stmt}
use Rattle.idl_tree.specs.declared.statements.Stmt.TheVariants as st
use Rattle.idl_tree.specs.declared.programs.Argument.{Argument}
use Rattle.idl_tree.specs.declared.programs.Function.{Function}
use Rattle.idl_token.specs.Symbol.{Symbol}
use Rattle.idl_token.specs.Symbol as t
use Rattle.idl_grammar.specs.Tables.{sw_write}
use Rattle.idl_grammar.specs.StmtGrammar.{short_shape, part_of_word}
use Rattle.idl_grammar.specs.WidthReader.{width}
use Rattle.idl_grammar.specs.ExprReader as er
use Rattle.idl_grammar.specs.ExprReader.{Found, Part, expr_part, expr, inside, access}
use Rattle.idl_grammar.specs.Outcome.{Reader, ◌>>=◌, ◌>>◌, pure, refuse, Move, take, stop, pass, choose, among, want, expect, is_reserved, is_word, same_text, if_next, if_reserved, name, deeper, only, commas, rows, all_of}

-- ---- types

abbrev pub Typed : Type 0
Typed = Shape × ℕ

-- behind `Bits`: "<" width ">"
unfoldable pub bits : ℕ → Bool → Reader Typed
bits n f = do
  expect s.Less
  a ← width n
  expect s.Greater
  pure (sh.Bits f a.0, a.1)

-- behind `signed`: "Bits" "<" width ">"
unfoldable pub signed_bits : ℕ → Reader Typed
signed_bits n = do
  want (is_reserved r.Bits)
  bits n true

abbrev pub short_by : Option Shape → Move Typed
short_by None = stop
short_by (Some x) = take (pure (x, 0))

abbrev pub shape_by : ℕ → Symbol → Move Typed
shape_by n (t.reserved r.Bits) = take (bits n false)
shape_by n (t.reserved r.Signed) = take (signed_bits n)
shape_by n (t.reserved c) = short_by (short_shape c)
shape_by n _ = stop

-- type = "Bits" .. | "signed" "Bits" .. | a word for a type alone
unfoldable pub shape : ℕ → Reader Typed
shape n = among (shape_by n)

-- ---- statements

abbrev pub Rows : Type 0
Rows = List Stmt × ℕ

abbrev pub One : Type 0
One = Stmt × ℕ

abbrev pub Rest : Type 0
Rest = Option (List Stmt) × ℕ

-- a statement of nesting at most suc n; inner reads statements of nesting at most n, and later, after
-- an `if`, one of nesting at most n
module _ (n : ℕ) (inner : Reader Rows) (later : Reader One) where
  -- behind a target, of nesting h, and its sign: expression ";"
  unfoldable pub assigned : Target → ℕ → Reader One
  assigned x h = do
    y ← expr n
    expect s.Semicolon
    pure (st.Assign x y.0, suc (max h y.1))

  -- behind `word(`: ")" ";" | expression { "," expression } ")" ";"
  unfoldable pub called : List ℕ → Reader One
  called x = if_next s.CloseParen (do expect s.Semicolon; pure (st.Call x [], 1)) (only n (do
    ys ← commas (expr n)
    expect s.CloseParen
    expect s.Semicolon
    pure (st.Call x ys.0, suc ys.1)))

  -- behind `word[`: inside "=" expression ";"
  unfoldable pub part : List ℕ → Reader One
  part x = do
    j ← inside (n - 1) (expr (n - 1))
    expect s.Assign
    assigned (part_of_word x j.0) (suc j.1)

  abbrev pub word_by : List ℕ → Symbol → Move One
  word_by x (t.sign s.OpenParen) = take (called x)
  word_by x (t.sign s.Assign) = deeper n (assigned (target.Word x) 1)
  word_by x (t.sign s.OpenBracket) = deeper n (part x)
  word_by x _ = stop

  -- behind a word: "(" called | "=" assigned | "[" part
  unfoldable pub worded : List ℕ → Reader One
  worded x = among (word_by x)

  -- behind `X`: "[" expression "]" "=" expression ";"
  unfoldable pub register : Reader One
  register = do
    expect s.OpenBracket
    x ← expr (n - 1)
    expect s.CloseBracket
    expect s.Assign
    assigned (target.Register x.0) (suc x.1)

  -- ---- CSRs

  -- behind an address and `.sw_write(`: expression ")" ";"
  unfoldable pub written : Found → Reader One
  written x = do
    y ← expr n
    expect s.CloseParen
    expect s.Semicolon
    pure (st.SoftWrite x.0 y.0, suc (max x.1 y.1))

  -- behind an address and its bracket: "." "sw_write" "(" written
  unfoldable pub soft_write : Found → Reader One
  soft_write x = do
    expect s.Dot
    want (is_word sw_write)
    expect s.OpenParen
    written x

  -- an expression, or the rest of one, "]" soft_write
  unfoldable pub address : Part → Reader One
  address q = do
    x ← expr_part n q
    expect s.CloseBracket
    soft_write x

  -- behind `CSR[x].y`: "=" expression ";"
  unfoldable pub field_set : List ℕ → List ℕ → Reader One
  field_set x y = do
    expect s.Assign
    assigned (target.Field x y) 1

  abbrev pub write_by : List ℕ → Symbol → Move One
  write_by x (t.sign s.OpenParen) = take (written (e.Word x, 1))
  write_by x _ = pass

  -- behind `CSR[x].y`: field_set, and where y is `sw_write` also "(" written
  unfoldable pub field_or_write : List ℕ → List ℕ → Reader One
  field_or_write x y = if same_text y sw_write then choose (write_by x) (field_set x y) else field_set x y

  -- behind `CSR[x]`: "." word field_or_write
  unfoldable pub field : List ℕ → Reader One
  field x = do
    expect s.Dot
    y ← name
    field_or_write x y

  -- behind `CSR[` and a word: "]" field | address
  unfoldable pub csr_word : List ℕ → Reader One
  csr_word x = if_next s.CloseBracket (field x) (address (er.behind x))

  abbrev pub csr_by : Symbol → Move One
  csr_by (t.word x) = take (csr_word x)
  csr_by _ = pass

  -- behind `CSR`: "[" ( word csr_word | address )
  unfoldable pub csr : Reader One
  csr = do
    expect s.OpenBracket
    choose csr_by (address er.any)

  -- ---- blocks

  -- behind `{`: { statement } "}"
  unfoldable pub braced : Reader Rows
  braced = do
    xs ← inner
    expect s.CloseBrace
    pure xs

  -- a block as a statement
  unfoldable pub blocked : Reader One
  blocked = do
    xs ← braced
    pure (st.Block xs.0, suc xs.1)

  abbrev pub else_by : Symbol → Move Rest
  else_by (t.sign s.OpenBrace) = take (do xs ← braced; pure (Some xs.0, xs.1))
  else_by (t.reserved r.If) = deeper (n - 1) (do x ← later; pure (Some (x.0 ∷ []), x.1))
  else_by _ = stop

  -- [ "else" ( block | "if" when ) ]
  unfoldable pub otherwise : Reader Rest
  otherwise = if_reserved r.Else (among else_by) (pure (None, 0))

  -- behind `if`: "(" expression ")" block otherwise
  unfoldable pub when : Reader One
  when = do
    expect s.OpenParen
    x ← expr n
    expect s.CloseParen
    expect s.OpenBrace
    ys ← braced
    zs ← otherwise
    pure (st.If x.0 ys.0 zs.0, suc (max x.1 (max ys.1 zs.1)))

  -- behind `for`: "(" "U32" word "=" width ";" word "<" width ";" word "++" ")" block, one word
  unfoldable pub count : Reader One
  count = do
    expect s.OpenParen
    want (is_reserved r.U32)
    x ← name
    expect s.Assign
    a ← width n
    expect s.Semicolon
    want (is_word x)
    expect s.Less
    b ← width n
    expect s.Semicolon
    want (is_word x)
    expect s.Increment
    expect s.CloseParen
    expect s.OpenBrace
    ys ← braced
    pure (st.For x a.0 b.0 ys.0, suc (max a.1 (max b.1 ys.1)))

  -- ---- other statements

  -- behind `return`: expression ";"
  unfoldable pub give : Reader One
  give = do
    x ← expr n
    expect s.Semicolon
    pure (st.Return x.0, suc x.1)

  -- behind `jump`: "(" expression ")" ";"
  unfoldable pub jump : Reader One
  jump = do
    expect s.OpenParen
    x ← expr n
    expect s.CloseParen
    expect s.Semicolon
    pure (st.Jump x.0, suc x.1)

  -- behind `raise`: "(" expression "," "mode" "(" ")" "," expression ")" ";"
  unfoldable pub trap : Reader One
  trap = do
    expect s.OpenParen
    x ← expr n
    expect s.Comma
    want (is_reserved r.Mode)
    expect s.OpenParen
    expect s.CloseParen
    expect s.Comma
    y ← expr n
    expect s.CloseParen
    expect s.Semicolon
    pure (st.Raise x.0 y.0, suc (max x.1 y.1))

  -- behind `write_memory`: "<" bits ">" "(" expression "," expression ")" ";"
  unfoldable pub memory : Reader One
  memory = do
    k ← access
    expect s.OpenParen
    x ← expr n
    expect s.Comma
    y ← expr n
    expect s.CloseParen
    expect s.Semicolon
    pure (st.WriteMemory k x.0 y.0, suc (max x.1 y.1))

  -- type word "=" expression ";"
  unfoldable pub declared : Reader One
  declared = do
    x ← shape n
    y ← name
    expect s.Assign
    z ← expr n
    expect s.Semicolon
    pure (st.Declare x.0 y z.0, suc (max x.1 z.1))

  abbrev pub reserved_by : Reserved → Move One
  reserved_by r.X = deeper (n - 1) register
  reserved_by r.Csr = deeper n csr
  reserved_by r.Return = deeper n give
  reserved_by r.If = deeper n when
  reserved_by r.For = take count
  reserved_by r.Jump = deeper n jump
  reserved_by r.Raise = deeper n trap
  reserved_by r.WriteMemory = deeper n memory
  reserved_by _ = pass

  abbrev pub stmt_by : Symbol → Move One
  stmt_by (t.word x) = take (worded x)
  stmt_by (t.sign s.OpenBrace) = take blocked
  stmt_by (t.reserved c) = reserved_by c
  stmt_by _ = pass

  -- statement = word worded | block | one that begins with a word of the language | declared
  unfoldable pub stmt : Reader One
  stmt = choose stmt_by (only n declared)

abbrev pub begins_reserved : Reserved → Bool
begins_reserved r.Bits = true
begins_reserved r.Boolean = true
begins_reserved r.XReg = true
begins_reserved r.U32 = true
begins_reserved r.U64 = true
begins_reserved r.Signed = true
begins_reserved r.If = true
begins_reserved r.For = true
begins_reserved r.Return = true
begins_reserved r.X = true
begins_reserved r.Csr = true
begins_reserved r.Jump = true
begins_reserved r.Raise = true
begins_reserved r.WriteMemory = true
begins_reserved r.PrivilegeMode = true
begins_reserved r.ExceptionCode = true
begins_reserved r.CsrFieldType = true
begins_reserved _ = false

-- the tokens that statements begin with
abbrev pub begins : Symbol → Bool
begins (t.word x) = true
begins (t.sign s.OpenBrace) = true
begins (t.reserved c) = begins_reserved c
begins _ = false

-- statements of nesting at most the number; and, after `if`, one
unfoldable mutual
  pub stmts : ℕ → Reader Rows
  stmts zero = rows begins refuse
  stmts (suc n) = rows begins (stmt n (stmts n) (after_if n))

  pub after_if : ℕ → Reader One
  after_if zero = refuse
  after_if (suc n) = when n (stmts n) (after_if n)

-- ---- functions

-- [ "returns" type ]
unfoldable pub result : ℕ → Reader (Option Shape × ℕ)
result n = if_reserved r.Returns (do x ← shape n; pure (Some x.0, x.1)) (pure (None, 0))

-- type word
unfoldable pub argument : ℕ → Reader (Argument × ℕ)
argument n = do
  x ← shape n
  y ← name
  pure (record { shape = x.0; name = y }, x.1)

-- [ "arguments" argument { "," argument } ]
unfoldable pub taken : ℕ → Reader (List Argument × ℕ)
taken n = if_reserved r.Arguments (commas (argument n)) (pure ([], 0))

abbrev pub about_by : Symbol → Move (Unit {0})
about_by t.described = take (do expect s.CloseBrace; pure tt)
about_by _ = pass

-- [ "description" "{" [ text ] "}" ]
unfoldable pub about : Reader (Unit {0})
about = if_reserved r.Description (do expect s.OpenBrace; choose about_by (do expect s.CloseBrace; pure tt)) (pure tt)

-- "function" word "{" result taken about "body" block "}"
unfoldable pub function : ℕ → Reader (Function × ℕ)
function n = do
  want (is_reserved r.Function)
  x ← name
  expect s.OpenBrace
  y ← result n
  xs ← taken n
  about
  want (is_reserved r.Body)
  expect s.OpenBrace
  ys ← stmts n
  expect s.CloseBrace
  expect s.CloseBrace
  pure (record { name = x; result = y.0; arguments = xs.0; body = record { variables = []; statements = ys.0 } }, max y.1 (max xs.1 ys.1))

-- { function }
unfoldable pub functions : ℕ → Reader (List Function × ℕ)
functions n = rows (is_reserved r.Function) (function n)

-- ---- all of the tokens, or the tokens from the first fault on

unfoldable pub whole_body : ℕ → List Symbol → Result Rows (List Symbol)
whole_body n ts = all_of (stmts n ts)

unfoldable pub whole_functions : ℕ → List Symbol → Result (List Function × ℕ) (List Symbol)
whole_functions n ts = all_of (functions n ts)
