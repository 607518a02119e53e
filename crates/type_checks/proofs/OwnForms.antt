-- What expressions ask themselves, form by form.
use Rattle.std.proofs.Common.{◌≡◌, ℕ, suc, Bool, true, false, List, [], ◌∷◌, ◌++◌, Option, None, Some, map, refl, sym, ap, ◌∙◌, append_assoc}
use Rattle.std.proofs.lemmas.List.{append-nil}
use Rattle.std.specs.Prelude.{nat_lt, length}
use Rattle.udb_base.specs.declared.names.Name.{Name}
use Rattle.udb_base.specs.declared.characters.Chars.{Chars}
use Rattle.idl_tree.specs.declared.widths.Width.{Width}
use Rattle.idl_tree.specs.declared.widths.EnumKind.{EnumKind}
use Rattle.idl_tree.specs.declared.expressions.Unary.{Unary}
use Rattle.idl_tree.specs.declared.expressions.Binary.{Binary}
use Rattle.idl_tree.specs.declared.expressions.Expr.{Expr}
use Rattle.idl_tree.specs.declared.expressions.Expr.TheVariants as ex
use Rattle.idl_tree.specs.declared.expressions.Expr.TheOpen.{Expr-F}
use Rattle.idl_spec.specs.Shapes.{Kind}
use Rattle.idl_spec.specs.Demands.{View, Issue, own_issues, kind_at, call_issues, result_issues, mismatch_unless, wants_all, bits_kind}
use Rattle.idl_tree.specs.ExprLaws as para
use Rattle.type_checks.specs.Nodes.{with_kind, own_step, own_at}

module _ (view : View) where
  pub over : {A : Type 0} (f : Expr → A) (es : List Expr) → map (λ (p : Expr × A). with_kind view p.0) (map (λ x. (x, f x)) es) ≡ map (λ x. with_kind view x) es
  over f [] = refl
  over f (e ∷ es) = ap (λ ps. with_kind view e ∷ ps) (over f es)

  pub own-Number : (n : ℕ) → own_at view (ex.Number n) ≡ own_issues view (Expr-F.Number n)
  unfolding own_at
  own-Number n = para.para-Expr-Number (List Issue) (own_step view) n

  pub own-Sized : (width : Width) (signed : Bool) (n : ℕ) → own_at view (ex.Sized width signed n) ≡ own_issues view (Expr-F.Sized width signed n)
  unfolding own_at
  own-Sized width signed n = para.para-Expr-Sized (List Issue) (own_step view) width signed n

  pub own-Text : (x : Chars) → own_at view (ex.Text x) ≡ own_issues view (Expr-F.Text x)
  unfolding own_at
  own-Text x = para.para-Expr-Text (List Issue) (own_step view) x

  pub own-Flag : (x : Bool) → own_at view (ex.Flag x) ≡ own_issues view (Expr-F.Flag x)
  unfolding own_at
  own-Flag x = para.para-Expr-Flag (List Issue) (own_step view) x

  pub own-Word : (name : Name) → own_at view (ex.Word name) ≡ own_issues view (Expr-F.Word name)
  unfolding own_at
  own-Word name = para.para-Expr-Word (List Issue) (own_step view) name

  pub own-Member : (kind : EnumKind) (name : Name) → own_at view (ex.Member kind name) ≡ own_issues view (Expr-F.Member kind name)
  unfolding own_at
  own-Member kind name = para.para-Expr-Member (List Issue) (own_step view) kind name

  pub own-Unary : (sign : Unary) (a : Expr) → own_at view (ex.Unary sign a) ≡ own_issues view (Expr-F.Unary sign (a, kind_at view a))
  unfolding own_at
  own-Unary sign a = para.para-Expr-Unary (List Issue) (own_step view) sign a

  pub own-Binary : (sign : Binary) (a c : Expr) → own_at view (ex.Binary sign a c) ≡ own_issues view (Expr-F.Binary sign (a, kind_at view a) (c, kind_at view c))
  unfolding own_at
  own-Binary sign a c = para.para-Expr-Binary (List Issue) (own_step view) sign a c

  pub own-WideLeft : (a : Expr) (by : Width) → own_at view (ex.WideLeft a by) ≡ own_issues view (Expr-F.WideLeft (a, kind_at view a) by)
  unfolding own_at
  own-WideLeft a by = para.para-Expr-WideLeft (List Issue) (own_step view) a by

  pub own-Choice : (a c d : Expr) → own_at view (ex.Choice a c d) ≡ own_issues view (Expr-F.Choice (a, kind_at view a) (c, kind_at view c) (d, kind_at view d))
  unfolding own_at
  own-Choice a c d = para.para-Expr-Choice (List Issue) (own_step view) a c d

  pub own-Join : (es : List Expr) → own_at view (ex.Join es) ≡ own_issues view (Expr-F.Join (map (λ x. (x, kind_at view x)) es))
  unfolding own_at
  own-Join es = para.para-Expr-Join (List Issue) (own_step view) es ∙ ap (λ ps. own_issues view (Expr-F.Join ps)) (over (own_at view) es)

  pub own-Repeat : (times : Width) (a : Expr) → own_at view (ex.Repeat times a) ≡ own_issues view (Expr-F.Repeat times (a, kind_at view a))
  unfolding own_at
  own-Repeat times a = para.para-Expr-Repeat (List Issue) (own_step view) times a

  pub own-Index : (a c : Expr) → own_at view (ex.Index a c) ≡ own_issues view (Expr-F.Index (a, kind_at view a) (c, kind_at view c))
  unfolding own_at
  own-Index a c = para.para-Expr-Index (List Issue) (own_step view) a c

  pub own-Slice : (a : Expr) (high low : Width) → own_at view (ex.Slice a high low) ≡ own_issues view (Expr-F.Slice (a, kind_at view a) high low)
  unfolding own_at
  own-Slice a high low = para.para-Expr-Slice (List Issue) (own_step view) a high low

  pub own-Call : (name : Name) (es : List Expr) → own_at view (ex.Call name es) ≡ own_issues view (Expr-F.Call name (map (λ x. (x, kind_at view x)) es))
  unfolding own_at
  own-Call name es = para.para-Expr-Call (List Issue) (own_step view) name es ∙ ap (λ ps. own_issues view (Expr-F.Call name ps)) (over (own_at view) es)

  pub own-Signed : (a : Expr) → own_at view (ex.Signed a) ≡ own_issues view (Expr-F.Signed (a, kind_at view a))
  unfolding own_at
  own-Signed a = para.para-Expr-Signed (List Issue) (own_step view) a

  pub own-Resize : (width : Width) (a : Expr) → own_at view (ex.Resize width a) ≡ own_issues view (Expr-F.Resize width (a, kind_at view a))
  unfolding own_at
  own-Resize width a = para.para-Expr-Resize (List Issue) (own_step view) width a

  pub own-Pc : own_at view (ex.Pc) ≡ own_issues view (Expr-F.Pc)
  unfolding own_at
  own-Pc = para.para-Expr-Pc (List Issue) (own_step view)

  pub own-Encoding : own_at view (ex.Encoding) ≡ own_issues view (Expr-F.Encoding)
  unfolding own_at
  own-Encoding = para.para-Expr-Encoding (List Issue) (own_step view)

  pub own-Register : (a : Expr) → own_at view (ex.Register a) ≡ own_issues view (Expr-F.Register (a, kind_at view a))
  unfolding own_at
  own-Register a = para.para-Expr-Register (List Issue) (own_step view) a

  pub own-Field : (csr field : Name) → own_at view (ex.Field csr field) ≡ own_issues view (Expr-F.Field csr field)
  unfolding own_at
  own-Field csr field = para.para-Expr-Field (List Issue) (own_step view) csr field

  pub own-SoftRead : (a : Expr) → own_at view (ex.SoftRead a) ≡ own_issues view (Expr-F.SoftRead (a, kind_at view a))
  unfolding own_at
  own-SoftRead a = para.para-Expr-SoftRead (List Issue) (own_step view) a

  pub own-ReadMemory : (count : ℕ) (a : Expr) → own_at view (ex.ReadMemory count a) ≡ own_issues view (Expr-F.ReadMemory count (a, kind_at view a))
  unfolding own_at
  own-ReadMemory count a = para.para-Expr-ReadMemory (List Issue) (own_step view) count a

  pub own-NewField : (name : Name) → own_at view (ex.NewField name) ≡ own_issues view (Expr-F.NewField name)
  unfolding own_at
  own-NewField name = para.para-Expr-NewField (List Issue) (own_step view) name

  pub own-Mode : own_at view (ex.Mode) ≡ own_issues view (Expr-F.Mode)
  unfolding own_at
  own-Mode = para.para-Expr-Mode (List Issue) (own_step view)

  pub own-Implemented : (name : Name) → own_at view (ex.Implemented name) ≡ own_issues view (Expr-F.Implemented name)
  unfolding own_at
  own-Implemented name = para.para-Expr-Implemented (List Issue) (own_step view) name

  pub own-ImplementedVersion : (extension : Name) (x : Chars) → own_at view (ex.ImplementedVersion extension x) ≡ own_issues view (Expr-F.ImplementedVersion extension x)
  unfolding own_at
  own-ImplementedVersion extension x = para.para-Expr-ImplementedVersion (List Issue) (own_step view) extension x

  kinds-of : (es : List Expr) → map (λ (p : Expr × Option Kind). p.1) (map (λ x. (x, kind_at view x)) es) ≡ map (kind_at view) es
  kinds-of [] = refl
  kinds-of (e ∷ es) = ap (λ ks. kind_at view e ∷ ks) (kinds-of es)

  len-of : (es : List Expr) → length {A = Expr × Option Kind} (map (λ x. (x, kind_at view x)) es) ≡ length es
  len-of [] = refl
  len-of (e ∷ es) = ap suc (len-of es)

  -- parts side by side by their kinds
  pub own-Joined : (es : List Expr) → own_at view (ex.Join es) ≡ mismatch_unless (nat_lt 0 (length es)) ++ wants_all bits_kind (map (kind_at view) es)
  own-Joined es =
      own-Join es ∙ ap (λ x. mismatch_unless x ++ wants_all bits_kind (map (λ (p : Expr × Option Kind). p.1) (map (λ x. (x, kind_at view x)) es))) (ap (nat_lt 0) (len-of es))
      ∙ ap (λ ks. mismatch_unless (nat_lt 0 (length es)) ++ wants_all bits_kind ks) (kinds-of es)

  -- a call by the kinds of its arguments
  pub own-Called : (name : Name) (es : List Expr) → own_at view (ex.Call name es) ≡ call_issues view name (map (kind_at view) es) ++ result_issues view name
  own-Called name es = own-Call name es ∙ ap (λ ks. call_issues view name ks ++ result_issues view name) (kinds-of es)

pub ruleset own_laws = (own-Number, own-Sized, own-Text, own-Flag, own-Word, own-Member, own-Unary, own-Binary, own-WideLeft, own-Choice, own-Joined, own-Repeat, own-Index, own-Slice, own-Signed, own-Resize, own-Pc, own-Encoding, own-Register, own-Field, own-SoftRead, own-ReadMemory, own-NewField, own-Mode, own-Implemented, own-ImplementedVersion, own-Called, append-nil)
