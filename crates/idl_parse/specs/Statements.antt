-- The grammar's readers of one statement over those of the statements in it, and the ends of the longer ones.
use Rattle.std.specs.Prelude.{ℕ, zero, suc, max, Bool, false, List, [], ◌∷◌, Option, Some, None}
use Rattle.idl_token.specs.declared.kinds.Reserved.TheVariants as r
use Rattle.idl_token.specs.declared.kinds.Sign.TheVariants as s
use Rattle.idl_tree.specs.declared.widths.Width.{Width}
use Rattle.idl_tree.specs.declared.widths.Shape.{Shape}
use Rattle.idl_tree.specs.declared.statements.Stmt.TheVariants as st
use Rattle.idl_tree.specs.declared.programs.Argument.{Argument}
use Rattle.idl_tree.specs.declared.programs.Function.{Function}
use Rattle.idl_token.specs.Symbol.{Symbol}
use Rattle.idl_grammar.specs.Outcome.{Reader, ◌>>=◌, ◌>>◌, pure, refuse, choose, want, expect, is_reserved, is_word, commas}
use Rattle.idl_grammar.specs.WidthReader.{width}
use Rattle.idl_grammar.specs.ExprReader.{Found, expr}
use Rattle.idl_grammar.specs.StmtReader as sr
use Rattle.idl_grammar.specs.StmtReader.{One, Rows, Rest}

-- a reader of one statement, whose parts nest at most so deep
abbrev pub at : {A : Type 0} → (ℕ → Reader Rows → Reader One → A) → ℕ → A
at p n = p n (sr.stmts n) (sr.after_if n)

-- a statement of nesting at most the number, of which there is none within 0
unfoldable pub any_stmt : ℕ → Reader One
any_stmt zero = refuse
any_stmt (suc n) = at sr.stmt n

-- whether a statement begins with the token
abbrev pub begins_at : Option Symbol → Bool
begins_at None = false
begins_at (Some c) = sr.begins c

-- ---- the ends of calls, after the opening parenthesis

abbrev pub call_alone : List ℕ → Reader One
call_alone x = do expect s.Semicolon; pure (st.Call x [], 1)

abbrev pub call_with : ℕ → List ℕ → Reader One
call_with n x = do
  ys ← commas (expr n)
  expect s.CloseParen
  expect s.Semicolon
  pure (st.Call x ys.0, suc ys.1)

-- ---- the ends of exceptions and of writes of memory, after the first value

abbrev pub raised : ℕ → Found → Reader One
raised n x = do
  want (is_reserved r.Mode)
  expect s.OpenParen
  expect s.CloseParen
  expect s.Comma
  y ← expr n
  expect s.CloseParen
  expect s.Semicolon
  pure (st.Raise x.0 y.0, suc (max x.1 y.1))

abbrev pub stored : ℕ → ℕ → Found → Reader One
stored n k x = do
  y ← expr n
  expect s.CloseParen
  expect s.Semicolon
  pure (st.WriteMemory k x.0 y.0, suc (max x.1 y.1))

-- ---- after `else`

abbrev pub else_block : ℕ → Reader Rest
else_block n = do xs ← at sr.braced n; pure (Some xs.0, xs.1)

abbrev pub else_if : ℕ → Reader Rest
else_if n = do x ← sr.after_if n; pure (Some (x.0 ∷ []), x.1)

-- ---- the ends of a `for`, after its first bound and after its second one

abbrev pub for_block : ℕ → List ℕ → (Width × ℕ) → (Width × ℕ) → Reader One
for_block n x a b = do
  expect s.Semicolon
  want (is_word x)
  expect s.Increment
  expect s.CloseParen
  expect s.OpenBrace
  ys ← at sr.braced n
  pure (st.For x a.0 b.0 ys.0, suc (max a.1 (max b.1 ys.1)))

abbrev pub for_to : ℕ → List ℕ → (Width × ℕ) → Reader One
for_to n x a = do
  expect s.Semicolon
  want (is_word x)
  expect s.Less
  b ← width n
  for_block n x a b

-- ---- the end of a function, after its description

abbrev pub function_of : List ℕ → Option Shape → List Argument → Rows → Function
function_of x y xs ys = record { name = x; result = y; arguments = xs; body = record { variables = []; statements = ys.0 } }

abbrev pub function_body : ℕ → List ℕ → (Option Shape × ℕ) → (List Argument × ℕ) → Reader (Function × ℕ)
function_body n x y xs = do
  want (is_reserved r.Body)
  expect s.OpenBrace
  ys ← sr.stmts n
  expect s.CloseBrace
  expect s.CloseBrace
  pure (function_of x y.0 xs.0 ys, max y.1 (max xs.1 ys.1))

abbrev pub close : Reader (Unit {0})
close = do expect s.CloseBrace; pure tt

abbrev pub about_text : Reader (Unit {0})
about_text = choose sr.about_by close
