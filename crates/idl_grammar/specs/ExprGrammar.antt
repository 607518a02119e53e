-- Statement: the grammar of expressions, one constructor for each production: the tokens before
-- the second list read as the expression. The first number is the nesting: each expression counts
-- one level, and so does a pair of parentheses that isn't directly round a binary or a ternary
-- form. A second number says how loosely the expression binds: 0 for an operand, `loosest` for
-- what a ternary form tests.
use Rattle.std.specs.Prelude.{◌≡◌, ℕ, suc, max, Bool, true, false, List, [], ◌∷◌, Some}
use Rattle.idl_token.specs.declared.kinds.Reserved.{Reserved}
use Rattle.idl_token.specs.declared.kinds.Reserved.TheVariants as r
use Rattle.idl_token.specs.declared.kinds.Special.TheVariants as p
use Rattle.idl_token.specs.declared.kinds.Sign.{Sign}
use Rattle.idl_token.specs.declared.kinds.Sign.TheVariants as s
use Rattle.idl_token.specs.Numbers.{SizedWidth}
use Rattle.idl_tree.specs.declared.widths.Width.{Width}
use Rattle.idl_tree.specs.declared.widths.EnumKind.{EnumKind}
use Rattle.idl_tree.specs.declared.expressions.Unary.{Unary}
use Rattle.idl_tree.specs.declared.expressions.Binary.{Binary}
use Rattle.idl_tree.specs.declared.expressions.Expr.{Expr}
use Rattle.idl_tree.specs.declared.expressions.Expr.TheVariants as e
use Rattle.idl_token.specs.Symbol.{Symbol}
use Rattle.idl_token.specs.Symbol as t
use Rattle.idl_grammar.specs.Tables.{plain, wide, binding, loosest, unary_of, enum_of, is_access, sized_width, mxlen, sw_read}
use Rattle.idl_grammar.specs.WidthGrammar.{ReadsWatom, ReadsWidth}

-- what stands in brackets behind an operand: one place, or a slice
pub data Inside : Type 0 where
  place : Expr → Inside
  slice : Width → Width → Inside

abbrev pub part_of : Expr → Inside → Expr
part_of x (place i) = e.Index x i
part_of x (slice high low) = e.Slice x high low

mutual
  -- atoms, and what stands in brackets behind them
  pub data ReadsPost : ℕ → List Symbol → List Symbol → Expr → Type 0 where
    number : {k : ℕ} {us : List Symbol} → ReadsPost 1 (t.number k ∷ us) us (e.Number k)
    sized : {v : SizedWidth} {a : Width} {f : Bool} {k : ℕ} {us : List Symbol} → sized_width v ≡ Some a → ReadsPost 1 (t.sized v f k ∷ us) us (e.Sized a f k)
    quoted : {x : List ℕ} {us : List Symbol} → ReadsPost 1 (t.quoted x ∷ us) us (e.Text x)
    yes_flag : {us : List Symbol} → ReadsPost 1 (t.reserved r.True ∷ us) us (e.Flag true)
    no_flag : {us : List Symbol} → ReadsPost 1 (t.reserved r.False ∷ us) us (e.Flag false)
    word : {x : List ℕ} {us : List Symbol} → ReadsPost 1 (t.word x ∷ us) us (e.Word x)
    member : {c : Reserved} {kind : EnumKind} {x : List ℕ} {us : List Symbol} → enum_of c ≡ Some kind → ReadsPost 1 (t.reserved c ∷ t.sign s.Path ∷ t.word x ∷ us) us (e.Member kind x)
    parens : {h : ℕ} {ts us : List Symbol} {x : Expr} → ReadsLevel h 0 ts (t.sign s.CloseParen ∷ us) x → ReadsPost (suc h) (t.sign s.OpenParen ∷ ts) us x
    parens_binary : {h k : ℕ} {ts us : List Symbol} {x : Expr} → ReadsBinary h k ts (t.sign s.CloseParen ∷ us) x → ReadsPost h (t.sign s.OpenParen ∷ ts) us x
    parens_choice : {h : ℕ} {ts us : List Symbol} {x : Expr} → ReadsChoice h ts (t.sign s.CloseParen ∷ us) x → ReadsPost h (t.sign s.OpenParen ∷ ts) us x
    braces : {h : ℕ} {ts us : List Symbol} {x : Expr} → ReadsBraced h ts us x → ReadsPost (suc h) (t.sign s.OpenBrace ∷ ts) us x
    call_none : {x : List ℕ} {us : List Symbol} → ReadsPost 1 (t.word x ∷ t.sign s.OpenParen ∷ t.sign s.CloseParen ∷ us) us (e.Call x [])
    call : {x : List ℕ} {h : ℕ} {ts us : List Symbol} {xs : List Expr} → ReadsArgs h ts (t.sign s.CloseParen ∷ us) xs → ReadsPost (suc h) (t.word x ∷ t.sign s.OpenParen ∷ ts) us (e.Call x xs)
    as_signed : {h : ℕ} {ts us : List Symbol} {x : Expr} → ReadsExpr h ts (t.sign s.CloseParen ∷ us) x → ReadsPost (suc h) (t.special p.AsSigned ∷ t.sign s.OpenParen ∷ ts) us (e.Signed x)
    resize : {h i : ℕ} {ts us vs : List Symbol} {a : Width} {x : Expr} → ReadsWidth h ts (t.sign s.Greater ∷ t.sign s.OpenParen ∷ us) a → ReadsExpr i us (t.sign s.CloseParen ∷ vs) x
        → ReadsPost (suc (max h i)) (t.special p.Resize ∷ t.sign s.Less ∷ ts) vs (e.Resize a x)
    pc : {us : List Symbol} → ReadsPost 1 (t.special p.Pc ∷ us) us e.Pc
    encoding : {us : List Symbol} → ReadsPost 1 (t.special p.Encoding ∷ us) us e.Encoding
    register : {h : ℕ} {ts us : List Symbol} {x : Expr} → ReadsExpr h ts (t.sign s.CloseBracket ∷ us) x → ReadsPost (suc h) (t.reserved r.X ∷ t.sign s.OpenBracket ∷ ts) us (e.Register x)
    field : {x y : List ℕ} {us : List Symbol} → ReadsPost 1 (t.reserved r.Csr ∷ t.sign s.OpenBracket ∷ t.word x ∷ t.sign s.CloseBracket ∷ t.sign s.Dot ∷ t.word y ∷ us) us (e.Field x y)
    soft_read : {h : ℕ} {ts us : List Symbol} {x : Expr} → ReadsExpr h ts (t.sign s.CloseBracket ∷ t.sign s.Dot ∷ t.word sw_read ∷ t.sign s.OpenParen ∷ t.sign s.CloseParen ∷ us) x
        → ReadsPost (suc h) (t.reserved r.Csr ∷ t.sign s.OpenBracket ∷ ts) us (e.SoftRead x)
    read_memory : {k h : ℕ} {ts us : List Symbol} {x : Expr} → is_access k ≡ true → ReadsExpr h ts (t.sign s.CloseParen ∷ us) x
        → ReadsPost (suc h) (t.reserved r.ReadMemory ∷ t.sign s.Less ∷ t.number k ∷ t.sign s.Greater ∷ t.sign s.OpenParen ∷ ts) us (e.ReadMemory k x)
    new_field : {x : List ℕ} {us : List Symbol} → ReadsPost 1 (t.reserved r.CsrValue ∷ t.sign s.Dot ∷ t.word x ∷ us) us (e.NewField x)
    xlen : {us : List Symbol} → ReadsPost 1 (t.reserved r.Xlen ∷ t.sign s.OpenParen ∷ t.sign s.CloseParen ∷ us) us (e.Word mxlen)
    mode : {us : List Symbol} → ReadsPost 1 (t.reserved r.Mode ∷ t.sign s.OpenParen ∷ t.sign s.CloseParen ∷ us) us e.Mode
    implemented : {x : List ℕ} {us : List Symbol}
        → ReadsPost 1 (t.special p.Implemented ∷ t.sign s.OpenParen ∷ t.reserved r.ExtensionName ∷ t.sign s.Path ∷ t.word x ∷ t.sign s.CloseParen ∷ us) us (e.Implemented x)
    implemented_version : {x y : List ℕ} {us : List Symbol}
        → ReadsPost 1 (t.special p.ImplementedVersion ∷ t.sign s.OpenParen ∷ t.reserved r.ExtensionName ∷ t.sign s.Path ∷ t.word x ∷ t.sign s.Comma ∷ t.quoted y ∷ t.sign s.CloseParen ∷ us) us (e.ImplementedVersion x y)
    part : {h i : ℕ} {ts us vs : List Symbol} {x : Expr} {j : Inside} → ReadsPost h ts (t.sign s.OpenBracket ∷ us) x → ReadsInside i us vs j → ReadsPost (suc (max h i)) ts vs (part_of x j)

  pub data ReadsLevel : ℕ → ℕ → List Symbol → List Symbol → Expr → Type 0 where
    post : {h : ℕ} {ts us : List Symbol} {x : Expr} → ReadsPost h ts us x → ReadsLevel h 0 ts us x
    unary : {h : ℕ} {ts us : List Symbol} {x : Expr} {c : Sign} {op : Unary} → unary_of c ≡ Some op → ReadsLevel h 0 ts us x → ReadsLevel (suc h) 0 (t.sign c ∷ ts) us (e.Unary op x)
    binary : {h k : ℕ} {ts us : List Symbol} {x : Expr} → ReadsBinary h k ts us x → ReadsLevel h (suc k) ts us x
    looser : {h k : ℕ} {ts us : List Symbol} {x : Expr} → ReadsLevel h k ts us x → ReadsLevel h (suc k) ts us x

  pub data ReadsBinary : ℕ → ℕ → List Symbol → List Symbol → Expr → Type 0 where
    between : {h i k : ℕ} {ts us vs : List Symbol} {x y : Expr} {c : Sign} {op : Binary} → ReadsLevel h (suc k) ts (t.sign c ∷ us) x → binding c ≡ Some (k, plain op) → ReadsLevel i k us vs y
        → ReadsBinary (suc (max h i)) k ts vs (e.Binary op x y)
    widened : {h i k : ℕ} {f : Bool} {ts us vs : List Symbol} {x : Expr} {a : Width} {c : Sign} → ReadsLevel h (suc k) ts (t.sign c ∷ us) x → binding c ≡ Some (k, wide) → ReadsWatom f i us vs a
        → ReadsBinary (suc (max h i)) k ts vs (e.WideLeft x a)

  pub data ReadsChoice : ℕ → List Symbol → List Symbol → Expr → Type 0 where
    choice : {h i j : ℕ} {ts us vs ws : List Symbol} {x y z : Expr} → ReadsLevel h loosest ts (t.sign s.Question ∷ us) x → ReadsExpr i us (t.sign s.Colon ∷ vs) y → ReadsExpr j vs ws z
        → ReadsChoice (suc (max h (max i j))) ts ws (e.Choice x y z)

  pub data ReadsExpr : ℕ → List Symbol → List Symbol → Expr → Type 0 where
    level : {h : ℕ} {ts us : List Symbol} {x : Expr} → ReadsLevel h loosest ts us x → ReadsExpr h ts us x
    chosen : {h : ℕ} {ts us : List Symbol} {x : Expr} → ReadsChoice h ts us x → ReadsExpr h ts us x

  -- expressions with commas between them
  pub data ReadsArgs : ℕ → List Symbol → List Symbol → List Expr → Type 0 where
    one : {h : ℕ} {ts us : List Symbol} {x : Expr} → ReadsExpr h ts us x → ReadsArgs h ts us (x ∷ [])
    several : {h i : ℕ} {ts us vs : List Symbol} {x : Expr} {xs : List Expr} → ReadsExpr h ts (t.sign s.Comma ∷ us) x → ReadsArgs i us vs xs → ReadsArgs (max h i) ts vs (x ∷ xs)

  -- what follows an opening bracket, with its closing one
  pub data ReadsInside : ℕ → List Symbol → List Symbol → Inside → Type 0 where
    at : {h : ℕ} {ts us : List Symbol} {x : Expr} → ReadsExpr h ts (t.sign s.CloseBracket ∷ us) x → ReadsInside h ts us (place x)
    from_to : {h i : ℕ} {ts us vs : List Symbol} {a b : Width} → ReadsWidth h ts (t.sign s.Colon ∷ us) a → ReadsWidth i us (t.sign s.CloseBracket ∷ vs) b → ReadsInside (max h i) ts vs (slice a b)

  -- what follows an opening brace, with its closing one
  pub data ReadsBraced : ℕ → List Symbol → List Symbol → Expr → Type 0 where
    join : {h : ℕ} {ts us : List Symbol} {xs : List Expr} → ReadsArgs h ts (t.sign s.CloseBrace ∷ us) xs → ReadsBraced h ts us (e.Join xs)
    repeat : {h i : ℕ} {ts us vs : List Symbol} {a : Width} {x : Expr} → ReadsWidth h ts (t.sign s.OpenBrace ∷ us) a → ReadsExpr i us (t.sign s.CloseBrace ∷ t.sign s.CloseBrace ∷ vs) x
        → ReadsBraced (max h i) ts vs (e.Repeat a x)
