-- What tests say, form by form.
use Rattle.std.specs.Prelude.{◌≡◌, Bool, ℕ, List, map}
use Rattle.udb_base.specs.declared.names.Name.{Name}
use Rattle.udb_base.specs.declared.characters.Chars.{Chars}
use Rattle.idl_tree.specs.declared.widths.Width.{Width}
use Rattle.idl_tree.specs.declared.widths.EnumKind.{EnumKind}
use Rattle.idl_tree.specs.declared.expressions.Unary.{Unary}
use Rattle.idl_tree.specs.declared.expressions.Binary.{Binary}
use Rattle.idl_tree.specs.declared.expressions.Expr.{Expr}
use Rattle.idl_tree.specs.declared.expressions.Expr.TheVariants as ex
use Rattle.idl_tree.specs.declared.expressions.Expr.TheOpen.{Expr-F}
use Rattle.idl_tree.specs.ExprLaws.{para-Expr-Number, para-Expr-Sized, para-Expr-Text, para-Expr-Flag, para-Expr-Word, para-Expr-Member, para-Expr-Unary, para-Expr-Binary, para-Expr-WideLeft, para-Expr-Choice, para-Expr-Join, para-Expr-Repeat, para-Expr-Index, para-Expr-Slice, para-Expr-Call, para-Expr-Signed, para-Expr-Resize, para-Expr-Pc, para-Expr-Encoding, para-Expr-Register, para-Expr-Field, para-Expr-SoftRead, para-Expr-ReadMemory, para-Expr-NewField, para-Expr-Mode, para-Expr-Implemented, para-Expr-ImplementedVersion}
use Rattle.udb_base.specs.declared.spaces.Space.{Space}
use Rattle.idl_spec.specs.Formulas.{Claims, claims, claims_step}

pub claims-Number : (space : Space) (n : ℕ)
    → claims space (ex.Number n) ≡ claims_step space (Expr-F.Number n)
unfolding claims
claims-Number space n = para-Expr-Number Claims (claims_step space) n

pub claims-Sized : (space : Space) (width : Width) (signed : Bool) (n : ℕ)
    → claims space (ex.Sized width signed n) ≡ claims_step space (Expr-F.Sized width signed n)
unfolding claims
claims-Sized space width signed n = para-Expr-Sized Claims (claims_step space) width signed n

pub claims-Text : (space : Space) (x : Chars)
    → claims space (ex.Text x) ≡ claims_step space (Expr-F.Text x)
unfolding claims
claims-Text space x = para-Expr-Text Claims (claims_step space) x

pub claims-Flag : (space : Space) (x : Bool)
    → claims space (ex.Flag x) ≡ claims_step space (Expr-F.Flag x)
unfolding claims
claims-Flag space x = para-Expr-Flag Claims (claims_step space) x

pub claims-Word : (space : Space) (name : Name)
    → claims space (ex.Word name) ≡ claims_step space (Expr-F.Word name)
unfolding claims
claims-Word space name = para-Expr-Word Claims (claims_step space) name

pub claims-Member : (space : Space) (kind : EnumKind) (name : Name)
    → claims space (ex.Member kind name) ≡ claims_step space (Expr-F.Member kind name)
unfolding claims
claims-Member space kind name = para-Expr-Member Claims (claims_step space) kind name

pub claims-Unary : (space : Space) (sign : Unary) (a : Expr)
    → claims space (ex.Unary sign a) ≡ claims_step space (Expr-F.Unary sign (a, claims space a))
unfolding claims
claims-Unary space sign a = para-Expr-Unary Claims (claims_step space) sign a

pub claims-Binary : (space : Space) (sign : Binary) (a c : Expr)
    → claims space (ex.Binary sign a c)
    ≡ claims_step space (Expr-F.Binary sign (a, claims space a) (c, claims space c))
unfolding claims
claims-Binary space sign a c = para-Expr-Binary Claims (claims_step space) sign a c

pub claims-WideLeft : (space : Space) (a : Expr) (by : Width)
    → claims space (ex.WideLeft a by) ≡ claims_step space (Expr-F.WideLeft (a, claims space a) by)
unfolding claims
claims-WideLeft space a by = para-Expr-WideLeft Claims (claims_step space) a by

pub claims-Choice : (space : Space) (test taken other : Expr)
    → claims space (ex.Choice test taken other)
    ≡ claims_step space (Expr-F.Choice (test, claims space test) (taken, claims space taken) (other, claims space other))
unfolding claims
claims-Choice space test taken other = para-Expr-Choice Claims (claims_step space) test taken other

pub claims-Join : (space : Space) (es : List Expr)
    → claims space (ex.Join es)
    ≡ claims_step space (Expr-F.Join (map (λ p. (p, claims space p)) es))
unfolding claims
claims-Join space es = para-Expr-Join Claims (claims_step space) es

pub claims-Repeat : (space : Space) (times : Width) (a : Expr)
    → claims space (ex.Repeat times a) ≡ claims_step space (Expr-F.Repeat times (a, claims space a))
unfolding claims
claims-Repeat space times a = para-Expr-Repeat Claims (claims_step space) times a

pub claims-Index : (space : Space) (a at : Expr)
    → claims space (ex.Index a at)
    ≡ claims_step space (Expr-F.Index (a, claims space a) (at, claims space at))
unfolding claims
claims-Index space a at = para-Expr-Index Claims (claims_step space) a at

pub claims-Slice : (space : Space) (a : Expr) (high low : Width)
    → claims space (ex.Slice a high low)
    ≡ claims_step space (Expr-F.Slice (a, claims space a) high low)
unfolding claims
claims-Slice space a high low = para-Expr-Slice Claims (claims_step space) a high low

pub claims-Call : (space : Space) (name : Name) (es : List Expr)
    → claims space (ex.Call name es)
    ≡ claims_step space (Expr-F.Call name (map (λ p. (p, claims space p)) es))
unfolding claims
claims-Call space name es = para-Expr-Call Claims (claims_step space) name es

pub claims-Signed : (space : Space) (a : Expr)
    → claims space (ex.Signed a) ≡ claims_step space (Expr-F.Signed (a, claims space a))
unfolding claims
claims-Signed space a = para-Expr-Signed Claims (claims_step space) a

pub claims-Resize : (space : Space) (width : Width) (a : Expr)
    → claims space (ex.Resize width a) ≡ claims_step space (Expr-F.Resize width (a, claims space a))
unfolding claims
claims-Resize space width a = para-Expr-Resize Claims (claims_step space) width a

pub claims-Pc : (space : Space) → claims space ex.Pc ≡ claims_step space Expr-F.Pc
unfolding claims
claims-Pc space = para-Expr-Pc Claims (claims_step space)

pub claims-Encoding : (space : Space) → claims space ex.Encoding ≡ claims_step space Expr-F.Encoding
unfolding claims
claims-Encoding space = para-Expr-Encoding Claims (claims_step space)

pub claims-Register : (space : Space) (a : Expr)
    → claims space (ex.Register a) ≡ claims_step space (Expr-F.Register (a, claims space a))
unfolding claims
claims-Register space a = para-Expr-Register Claims (claims_step space) a

pub claims-Field : (space : Space) (csr field : Name)
    → claims space (ex.Field csr field) ≡ claims_step space (Expr-F.Field csr field)
unfolding claims
claims-Field space csr field = para-Expr-Field Claims (claims_step space) csr field

pub claims-SoftRead : (space : Space) (a : Expr)
    → claims space (ex.SoftRead a) ≡ claims_step space (Expr-F.SoftRead (a, claims space a))
unfolding claims
claims-SoftRead space a = para-Expr-SoftRead Claims (claims_step space) a

pub claims-ReadMemory : (space : Space) (count : ℕ) (at : Expr)
    → claims space (ex.ReadMemory count at)
    ≡ claims_step space (Expr-F.ReadMemory count (at, claims space at))
unfolding claims
claims-ReadMemory space count at = para-Expr-ReadMemory Claims (claims_step space) count at

pub claims-NewField : (space : Space) (name : Name)
    → claims space (ex.NewField name) ≡ claims_step space (Expr-F.NewField name)
unfolding claims
claims-NewField space name = para-Expr-NewField Claims (claims_step space) name

pub claims-Mode : (space : Space) → claims space ex.Mode ≡ claims_step space Expr-F.Mode
unfolding claims
claims-Mode space = para-Expr-Mode Claims (claims_step space)

pub claims-Implemented : (space : Space) (name : Name)
    → claims space (ex.Implemented name) ≡ claims_step space (Expr-F.Implemented name)
unfolding claims
claims-Implemented space name = para-Expr-Implemented Claims (claims_step space) name

pub claims-ImplementedVersion : (space : Space) (extension : Name) (x : Chars)
    → claims space (ex.ImplementedVersion extension x)
    ≡ claims_step space (Expr-F.ImplementedVersion extension x)
unfolding claims
claims-ImplementedVersion space extension x =
    para-Expr-ImplementedVersion Claims (claims_step space) extension x

pub ruleset all_claims = (claims-Number, claims-Sized, claims-Text, claims-Flag, claims-Word, claims-Member, claims-Unary, claims-Binary, claims-WideLeft, claims-Choice, claims-Join, claims-Repeat, claims-Index, claims-Slice, claims-Call, claims-Signed, claims-Resize, claims-Pc, claims-Encoding, claims-Register, claims-Field, claims-SoftRead, claims-ReadMemory, claims-NewField, claims-Mode, claims-Implemented, claims-ImplementedVersion)
