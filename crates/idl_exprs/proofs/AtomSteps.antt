-- Atoms by the word that begins them.
use Rattle.std.proofs.Common.{◌≡◌, ℕ, List, Some, Ok, Err, ap, ◌∙◌}
use Rattle.std.specs.Prelude.{Result}
use Rattle.idl_token.specs.declared.kinds.Reserved.{Reserved}
use Rattle.idl_token.specs.declared.kinds.Reserved.TheVariants as r
use Rattle.idl_tree.specs.declared.widths.EnumKind.{EnumKind}
use Rattle.idl_tree.specs.declared.widths.EnumKind.TheVariants as k
use Rattle.idl_token.specs.Symbol.{Symbol}
use Rattle.idl_grammar.specs.Tables.{enum_of}
use Rattle.idl_grammar.specs.Outcome as o
use Rattle.idl_grammar.specs.Outcome.{Reader}
use Rattle.idl_grammar.specs.ExprReader as er
use Rattle.idl_grammar.specs.ExprReader.{Found, Part}
use Rattle.idl_exprs.specs.declared.cursor.Cursor.{Cursor}
use Rattle.idl_exprs.specs.declared.progress.Opening.{Opening}
use Rattle.idl_exprs.specs.declared.stop.Stop.{Stop}
use Rattle.idl_exprs.specs.declared.stop.Stop.TheVariants as stop
use Rattle.idl_exprs.specs.Gives.{ahead}
use Rattle.idl_exprs.specs.Steps.{Opens}

-- what one reader gives from one place, and another from another
pub opens_as : (n : ℕ) (p q : Reader Found) (old mid new : Cursor) (x : Result Opening Stop) → p (ahead old) ≡ q (ahead mid) → Opens n q mid x new → Opens n p old x new
opens_as n p q old mid new (Ok x) same leads = same ∙ leads
opens_as n p q old mid new (Err stop.Memory) same leads = tt
opens_as n p q old mid new (Err stop.Fault) same leads = same ∙ leads

pub reserved_member : (n : ℕ) (inner : Part → Reader Found) (w : Reserved) (kind : EnumKind) (ts : List Symbol) → enum_of w ≡ Some kind → o.moved (er.reserved_by n inner w) o.refuse ts ≡ er.member n inner kind (o.after ts)
reserved_member n inner r.PrivilegeMode kind ts is = let same : k.PrivilegeMode ≡ kind = cc in ap (λ (x : EnumKind). er.member n inner x (o.after ts)) same
reserved_member n inner r.ExceptionCode kind ts is = let same : k.ExceptionCode ≡ kind = cc in ap (λ (x : EnumKind). er.member n inner x (o.after ts)) same
reserved_member n inner r.CsrFieldType kind ts is = let same : k.CsrFieldType ≡ kind = cc in ap (λ (x : EnumKind). er.member n inner x (o.after ts)) same
reserved_member n inner w kind ts is = absurd cc
