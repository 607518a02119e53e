-- Statement: the grammar of types, statements and functions, one constructor for each production:
-- the tokens before the second list read as the tree. The number is the nesting: each statement
-- and each target counts one level; `else if` counts as the `if` in the block behind `else` that
-- it is.
use Rattle.std.specs.Prelude.{◌≡◌, ℕ, suc, max, true, false, List, [], ◌∷◌, Option, None, Some}
use Rattle.idl_token.specs.declared.kinds.Reserved.{Reserved}
use Rattle.idl_token.specs.declared.kinds.Reserved.TheVariants as r
use Rattle.idl_token.specs.declared.kinds.Sign.TheVariants as s
use Rattle.idl_tree.specs.declared.widths.Width.{Width}
use Rattle.idl_tree.specs.declared.widths.Width.TheVariants as w
use Rattle.idl_tree.specs.declared.widths.EnumKind.TheVariants as kind
use Rattle.idl_tree.specs.declared.widths.Shape.{Shape}
use Rattle.idl_tree.specs.declared.widths.Shape.TheVariants as shape
use Rattle.idl_tree.specs.declared.expressions.Expr.{Expr}
use Rattle.idl_tree.specs.declared.statements.Target.{Target}
use Rattle.idl_tree.specs.declared.statements.Target.TheVariants as target
use Rattle.idl_tree.specs.declared.statements.Stmt.{Stmt}
use Rattle.idl_tree.specs.declared.statements.Stmt.TheVariants as st
use Rattle.idl_tree.specs.declared.programs.Argument.{Argument}
use Rattle.idl_tree.specs.declared.programs.Function.{Function}
use Rattle.idl_token.specs.Symbol.{Symbol}
use Rattle.idl_token.specs.Symbol as t
use Rattle.idl_grammar.specs.Tables.{is_access, mxlen, sw_write}
use Rattle.idl_grammar.specs.WidthGrammar.{ReadsWidth}
use Rattle.idl_grammar.specs.ExprGrammar.{Inside, place, slice, ReadsExpr, ReadsArgs, ReadsInside}

-- the words that stand for a type alone
abbrev pub short_shape : Reserved → Option Shape
short_shape r.XReg = Some (shape.Bits false (w.Word mxlen))
short_shape r.U32 = Some (shape.Bits false (w.Number 32))
short_shape r.U64 = Some (shape.Bits false (w.Number 64))
short_shape r.Boolean = Some shape.Boolean
short_shape r.PrivilegeMode = Some (shape.Enum kind.PrivilegeMode)
short_shape r.ExceptionCode = Some (shape.Enum kind.ExceptionCode)
short_shape r.CsrFieldType = Some (shape.Enum kind.CsrFieldType)
short_shape _ = None

pub data ReadsShape : ℕ → List Symbol → List Symbol → Shape → Type 0 where
  bits : {h : ℕ} {ts us : List Symbol} {a : Width} → ReadsWidth h ts (t.sign s.Greater ∷ us) a → ReadsShape h (t.reserved r.Bits ∷ t.sign s.Less ∷ ts) us (shape.Bits false a)
  signed_bits : {h : ℕ} {ts us : List Symbol} {a : Width} → ReadsWidth h ts (t.sign s.Greater ∷ us) a → ReadsShape h (t.reserved r.Signed ∷ t.reserved r.Bits ∷ t.sign s.Less ∷ ts) us (shape.Bits true a)
  short : {c : Reserved} {x : Shape} {us : List Symbol} → short_shape c ≡ Some x → ReadsShape 0 (t.reserved c ∷ us) us x

abbrev pub part_of_word : List ℕ → Inside → Target
part_of_word x (place i) = target.Bit x i
part_of_word x (slice high low) = target.Slice x high low

pub data ReadsTarget : ℕ → List Symbol → List Symbol → Target → Type 0 where
  word : {x : List ℕ} {us : List Symbol} → ReadsTarget 1 (t.word x ∷ us) us (target.Word x)
  part : {x : List ℕ} {h : ℕ} {ts us : List Symbol} {j : Inside} → ReadsInside h ts us j → ReadsTarget (suc h) (t.word x ∷ t.sign s.OpenBracket ∷ ts) us (part_of_word x j)
  register : {h : ℕ} {ts us : List Symbol} {x : Expr} → ReadsExpr h ts (t.sign s.CloseBracket ∷ us) x → ReadsTarget (suc h) (t.reserved r.X ∷ t.sign s.OpenBracket ∷ ts) us (target.Register x)
  field : {x y : List ℕ} {us : List Symbol} → ReadsTarget 1 (t.reserved r.Csr ∷ t.sign s.OpenBracket ∷ t.word x ∷ t.sign s.CloseBracket ∷ t.sign s.Dot ∷ t.word y ∷ us) us (target.Field x y)

mutual
  pub data ReadsStmt : ℕ → List Symbol → List Symbol → Stmt → Type 0 where
    declare : {h i : ℕ} {ts us vs : List Symbol} {shape : Shape} {x : List ℕ} {y : Expr} → ReadsShape h ts (t.word x ∷ t.sign s.Assign ∷ us) shape → ReadsExpr i us (t.sign s.Semicolon ∷ vs) y
        → ReadsStmt (suc (max h i)) ts vs (st.Declare shape x y)
    assign : {h i : ℕ} {ts us vs : List Symbol} {x : Target} {y : Expr} → ReadsTarget h ts (t.sign s.Assign ∷ us) x → ReadsExpr i us (t.sign s.Semicolon ∷ vs) y → ReadsStmt (suc (max h i)) ts vs (st.Assign x y)
    block : {h : ℕ} {ts us : List Symbol} {xs : List Stmt} → ReadsStmts h ts (t.sign s.CloseBrace ∷ us) xs → ReadsStmt (suc h) (t.sign s.OpenBrace ∷ ts) us (st.Block xs)
    give : {h : ℕ} {ts us : List Symbol} {x : Expr} → ReadsExpr h ts (t.sign s.Semicolon ∷ us) x → ReadsStmt (suc h) (t.reserved r.Return ∷ ts) us (st.Return x)
    when : {h i j : ℕ} {ts us vs ws : List Symbol} {x : Expr} {ys : List Stmt} {zs : Option (List Stmt)} → ReadsExpr h ts (t.sign s.CloseParen ∷ t.sign s.OpenBrace ∷ us) x → ReadsStmts i us (t.sign s.CloseBrace ∷ vs) ys → ReadsElse j vs ws zs
        → ReadsStmt (suc (max h (max i j))) (t.reserved r.If ∷ t.sign s.OpenParen ∷ ts) ws (st.If x ys zs)
    count : {h i j : ℕ} {ts us vs ws : List Symbol} {x : List ℕ} {a b : Width} {ys : List Stmt} → ReadsWidth h ts (t.sign s.Semicolon ∷ t.word x ∷ t.sign s.Less ∷ us) a
        → ReadsWidth i us (t.sign s.Semicolon ∷ t.word x ∷ t.sign s.Increment ∷ t.sign s.CloseParen ∷ t.sign s.OpenBrace ∷ vs) b → ReadsStmts j vs (t.sign s.CloseBrace ∷ ws) ys
        → ReadsStmt (suc (max h (max i j))) (t.reserved r.For ∷ t.sign s.OpenParen ∷ t.reserved r.U32 ∷ t.word x ∷ t.sign s.Assign ∷ ts) ws (st.For x a b ys)
    jump : {h : ℕ} {ts us : List Symbol} {x : Expr} → ReadsExpr h ts (t.sign s.CloseParen ∷ t.sign s.Semicolon ∷ us) x → ReadsStmt (suc h) (t.reserved r.Jump ∷ t.sign s.OpenParen ∷ ts) us (st.Jump x)
    trap : {h i : ℕ} {ts us vs : List Symbol} {x y : Expr} → ReadsExpr h ts (t.sign s.Comma ∷ t.reserved r.Mode ∷ t.sign s.OpenParen ∷ t.sign s.CloseParen ∷ t.sign s.Comma ∷ us) x
        → ReadsExpr i us (t.sign s.CloseParen ∷ t.sign s.Semicolon ∷ vs) y → ReadsStmt (suc (max h i)) (t.reserved r.Raise ∷ t.sign s.OpenParen ∷ ts) vs (st.Raise x y)
    write_memory : {k h i : ℕ} {ts us vs : List Symbol} {x y : Expr} → is_access k ≡ true → ReadsExpr h ts (t.sign s.Comma ∷ us) x → ReadsExpr i us (t.sign s.CloseParen ∷ t.sign s.Semicolon ∷ vs) y
        → ReadsStmt (suc (max h i)) (t.reserved r.WriteMemory ∷ t.sign s.Less ∷ t.number k ∷ t.sign s.Greater ∷ t.sign s.OpenParen ∷ ts) vs (st.WriteMemory k x y)
    soft_write : {h i : ℕ} {ts us vs : List Symbol} {x y : Expr} → ReadsExpr h ts (t.sign s.CloseBracket ∷ t.sign s.Dot ∷ t.word sw_write ∷ t.sign s.OpenParen ∷ us) x → ReadsExpr i us (t.sign s.CloseParen ∷ t.sign s.Semicolon ∷ vs) y
        → ReadsStmt (suc (max h i)) (t.reserved r.Csr ∷ t.sign s.OpenBracket ∷ ts) vs (st.SoftWrite x y)
    call_none : {x : List ℕ} {us : List Symbol} → ReadsStmt 1 (t.word x ∷ t.sign s.OpenParen ∷ t.sign s.CloseParen ∷ t.sign s.Semicolon ∷ us) us (st.Call x [])
    call : {x : List ℕ} {h : ℕ} {ts us : List Symbol} {ys : List Expr} → ReadsArgs h ts (t.sign s.CloseParen ∷ t.sign s.Semicolon ∷ us) ys → ReadsStmt (suc h) (t.word x ∷ t.sign s.OpenParen ∷ ts) us (st.Call x ys)

  -- what follows the first block of an `if`
  pub data ReadsElse : ℕ → List Symbol → List Symbol → Option (List Stmt) → Type 0 where
    no_else : {us : List Symbol} → ReadsElse 0 us us None
    otherwise : {h : ℕ} {ts us : List Symbol} {xs : List Stmt} → ReadsStmts h ts (t.sign s.CloseBrace ∷ us) xs → ReadsElse h (t.reserved r.Else ∷ t.sign s.OpenBrace ∷ ts) us (Some xs)
    else_if : {h : ℕ} {ts us : List Symbol} {x : Stmt} → ReadsStmt h (t.reserved r.If ∷ ts) us x → ReadsElse h (t.reserved r.Else ∷ t.reserved r.If ∷ ts) us (Some (x ∷ []))

  pub data ReadsStmts : ℕ → List Symbol → List Symbol → List Stmt → Type 0 where
    none : {us : List Symbol} → ReadsStmts 0 us us []
    then : {h i : ℕ} {ts us vs : List Symbol} {x : Stmt} {xs : List Stmt} → ReadsStmt h ts us x → ReadsStmts i us vs xs → ReadsStmts (max h i) ts vs (x ∷ xs)

-- ---- functions

pub data ReadsResult : ℕ → List Symbol → List Symbol → Option Shape → Type 0 where
  no_result : {us : List Symbol} → ReadsResult 0 us us None
  result : {h : ℕ} {ts us : List Symbol} {x : Shape} → ReadsShape h ts us x → ReadsResult h (t.reserved r.Returns ∷ ts) us (Some x)

pub data ReadsArgument : ℕ → List Symbol → List Symbol → Argument → Type 0 where
  argument : {h : ℕ} {ts us : List Symbol} {x : Shape} {y : List ℕ} → ReadsShape h ts (t.word y ∷ us) x → ReadsArgument h ts us (record { shape = x; name = y })

-- arguments with commas between them
pub data ReadsArguments : ℕ → List Symbol → List Symbol → List Argument → Type 0 where
  one : {h : ℕ} {ts us : List Symbol} {x : Argument} → ReadsArgument h ts us x → ReadsArguments h ts us (x ∷ [])
  several : {h i : ℕ} {ts us vs : List Symbol} {x : Argument} {xs : List Argument} → ReadsArgument h ts (t.sign s.Comma ∷ us) x → ReadsArguments i us vs xs → ReadsArguments (max h i) ts vs (x ∷ xs)

pub data ReadsTaken : ℕ → List Symbol → List Symbol → List Argument → Type 0 where
  no_arguments : {us : List Symbol} → ReadsTaken 0 us us []
  arguments : {h : ℕ} {ts us : List Symbol} {xs : List Argument} → ReadsArguments h ts us xs → ReadsTaken h (t.reserved r.Arguments ∷ ts) us xs

-- a description, which leaves nothing in the tree
pub data ReadsAbout : List Symbol → List Symbol → Type 0 where
  no_description : {us : List Symbol} → ReadsAbout us us
  empty : {us : List Symbol} → ReadsAbout (t.reserved r.Description ∷ t.sign s.OpenBrace ∷ t.sign s.CloseBrace ∷ us) us
  described : {us : List Symbol} → ReadsAbout (t.reserved r.Description ∷ t.sign s.OpenBrace ∷ t.described ∷ t.sign s.CloseBrace ∷ us) us

pub data ReadsFunction : ℕ → List Symbol → List Symbol → Function → Type 0 where
  function : {h i j : ℕ} {x : List ℕ} {ts us vs ws zs : List Symbol} {y : Option Shape} {xs : List Argument} {ys : List Stmt}
      → ReadsResult h ts us y → ReadsTaken i us vs xs → ReadsAbout vs (t.reserved r.Body ∷ t.sign s.OpenBrace ∷ ws) → ReadsStmts j ws (t.sign s.CloseBrace ∷ t.sign s.CloseBrace ∷ zs) ys
      → ReadsFunction (max h (max i j)) (t.reserved r.Function ∷ t.word x ∷ t.sign s.OpenBrace ∷ ts) zs (record { name = x; result = y; arguments = xs; body = record { variables = []; statements = ys } })

pub data ReadsFunctions : ℕ → List Symbol → List Symbol → List Function → Type 0 where
  none : {us : List Symbol} → ReadsFunctions 0 us us []
  then : {h i : ℕ} {ts us vs : List Symbol} {x : Function} {xs : List Function} → ReadsFunction h ts us x → ReadsFunctions i us vs xs → ReadsFunctions (max h i) ts vs (x ∷ xs)
