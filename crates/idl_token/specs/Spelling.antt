-- Statement: the spelling of the words and signs of the language.
use Rattle.std.specs.Prelude.{ℕ, List, [], ◌∷◌, codes}
use Rattle.idl_token.specs.declared.kinds.Reserved.{Reserved}
use Rattle.idl_token.specs.declared.kinds.Reserved.TheVariants as r
use Rattle.idl_token.specs.declared.kinds.Special.{Special}
use Rattle.idl_token.specs.declared.kinds.Special.TheVariants as p
use Rattle.idl_token.specs.declared.kinds.Sign.{Sign}
use Rattle.idl_token.specs.declared.kinds.Sign.TheVariants as s

abbrev pub reserved_text : Reserved → List ℕ
reserved_text r.Bits = codes "Bits"
reserved_text r.Boolean = codes "Boolean"
reserved_text r.XReg = codes "XReg"
reserved_text r.U32 = codes "U32"
reserved_text r.U64 = codes "U64"
reserved_text r.Signed = codes "signed"
reserved_text r.True = codes "true"
reserved_text r.False = codes "false"
reserved_text r.If = codes "if"
reserved_text r.Else = codes "else"
reserved_text r.For = codes "for"
reserved_text r.Return = codes "return"
reserved_text r.Function = codes "function"
reserved_text r.Returns = codes "returns"
reserved_text r.Arguments = codes "arguments"
reserved_text r.Description = codes "description"
reserved_text r.Body = codes "body"
reserved_text r.X = codes "X"
reserved_text r.Csr = codes "CSR"
reserved_text r.Max = codes "max"
reserved_text r.Mode = codes "mode"
reserved_text r.Xlen = codes "xlen"
reserved_text r.Jump = codes "jump"
reserved_text r.Raise = codes "raise"
reserved_text r.ReadMemory = codes "read_memory"
reserved_text r.WriteMemory = codes "write_memory"
reserved_text r.PrivilegeMode = codes "PrivilegeMode"
reserved_text r.ExceptionCode = codes "ExceptionCode"
reserved_text r.CsrFieldType = codes "CsrFieldType"
reserved_text r.ExtensionName = codes "ExtensionName"
reserved_text r.CsrValue = codes "csr_value"

abbrev pub special_text : Special → List ℕ
special_text p.Implemented = codes "implemented?"
special_text p.ImplementedVersion = codes "implemented_version?"
special_text p.AsSigned = codes "$signed"
special_text p.Resize = codes "$resize"
special_text p.WidthOf = codes "$bits"
special_text p.Pc = codes "$pc"
special_text p.Encoding = codes "$encoding"

abbrev pub sign_text : Sign → List ℕ
sign_text s.OpenParen = codes "("
sign_text s.CloseParen = codes ")"
sign_text s.OpenBracket = codes "["
sign_text s.CloseBracket = codes "]"
sign_text s.OpenBrace = codes "{"
sign_text s.CloseBrace = codes "}"
sign_text s.Less = codes "<"
sign_text s.Greater = codes ">"
sign_text s.Comma = codes ","
sign_text s.Semicolon = codes ";"
sign_text s.Colon = codes ":"
sign_text s.Dot = codes "."
sign_text s.Path = codes "::"
sign_text s.Question = codes "?"
sign_text s.Assign = codes "="
sign_text s.Equal = codes "=="
sign_text s.NotEqual = codes "!="
sign_text s.AtMost = codes "<="
sign_text s.AtLeast = codes ">="
sign_text s.Left = codes "<<"
sign_text s.Right = codes ">>"
sign_text s.RightSigned = codes ">>>"
sign_text s.WideLeft = codes "`<<"
sign_text s.WidePlus = codes "`+"
sign_text s.WideMinus = codes "`-"
sign_text s.WideTimes = codes "`*"
sign_text s.Plus = codes "+"
sign_text s.Minus = codes "-"
sign_text s.Times = codes "*"
sign_text s.Divide = codes "/"
sign_text s.Remainder = codes "%"
sign_text s.Ampersand = codes "&"
sign_text s.Bar = codes "|"
sign_text s.Caret = codes "^"
sign_text s.Tilde = codes "~"
sign_text s.Not = codes "!"
sign_text s.And = codes "&&"
sign_text s.Or = codes "||"
sign_text s.Increment = codes "++"

-- ---- all of them

unfoldable pub reserved_words : List Reserved
reserved_words =
    r.Bits ∷ r.Boolean ∷ r.XReg ∷ r.U32 ∷ r.U64 ∷ r.Signed ∷ r.True ∷ r.False ∷ r.If ∷ r.Else ∷ r.For ∷ r.Return ∷ r.Function ∷ r.Returns
    ∷ r.Arguments ∷ r.Description ∷ r.Body ∷ r.X ∷ r.Csr ∷ r.Max ∷ r.Mode ∷ r.Xlen ∷ r.Jump ∷ r.Raise ∷ r.ReadMemory ∷ r.WriteMemory
    ∷ r.PrivilegeMode ∷ r.ExceptionCode ∷ r.CsrFieldType ∷ r.ExtensionName ∷ r.CsrValue ∷ []

-- none of them begins another
unfoldable pub special_words : List Special
special_words = p.Implemented ∷ p.ImplementedVersion ∷ p.AsSigned ∷ p.Resize ∷ p.WidthOf ∷ p.Pc ∷ p.Encoding ∷ []

-- by falling length
unfoldable pub signs : List Sign
signs =
    s.RightSigned ∷ s.WideLeft ∷ s.Path ∷ s.Equal ∷ s.NotEqual ∷ s.AtMost ∷ s.AtLeast ∷ s.Left ∷ s.Right ∷ s.WidePlus ∷ s.WideMinus
    ∷ s.WideTimes ∷ s.And ∷ s.Or ∷ s.Increment ∷ s.OpenParen ∷ s.CloseParen ∷ s.OpenBracket ∷ s.CloseBracket ∷ s.OpenBrace ∷ s.CloseBrace
    ∷ s.Less ∷ s.Greater ∷ s.Comma ∷ s.Semicolon ∷ s.Colon ∷ s.Dot ∷ s.Question ∷ s.Assign ∷ s.Plus ∷ s.Minus ∷ s.Times ∷ s.Divide
    ∷ s.Remainder ∷ s.Ampersand ∷ s.Bar ∷ s.Caret ∷ s.Tilde ∷ s.Not ∷ []
