-- The checks of expressions, form by form.
use Rattle.std.proofs.Common.{◌≡◌, ℕ, Bool, true, false, List, [], ◌∷◌, ◌++◌, Option, None, Some, map, refl, sym, ap, ◌∙◌, append_assoc}
use Rattle.std.proofs.lemmas.List.{append-nil}
use Rattle.std.specs.Prelude.{flat_map}
use Rattle.udb_base.specs.declared.names.Name.{Name}
use Rattle.udb_base.specs.declared.characters.Chars.{Chars}
use Rattle.udb_base.specs.declared.conditions.Cond.{Cond}
use Rattle.idl_tree.specs.declared.widths.Width.{Width}
use Rattle.idl_tree.specs.declared.widths.EnumKind.{EnumKind}
use Rattle.idl_tree.specs.declared.expressions.Unary.{Unary}
use Rattle.idl_tree.specs.declared.expressions.Binary.{Binary}
use Rattle.idl_tree.specs.declared.expressions.Binary.TheVariants as b
use Rattle.idl_tree.specs.declared.expressions.Expr.{Expr}
use Rattle.idl_tree.specs.declared.expressions.Expr.TheVariants as ex
use Rattle.idl_tree.specs.declared.expressions.Expr.TheOpen.{Expr-F}
use Rattle.idl_spec.specs.Shapes.{Kind, join_kind}
use Rattle.idl_spec.specs.ShapeLaws as sh
use Rattle.idl_spec.specs.TestPlaces.{where_true, where_false}
use Rattle.idl_spec.specs.Demands.{View, Issue, Check, own_issues, kind_at, kind_issues, names_at, csr_word, csr_word_issues}
use Rattle.idl_spec.specs.Checks.{Checks, check, expr_checks, address_checks, binary_below}
use Rattle.idl_spec.specs.CheckLaws as law
use Rattle.type_checks.specs.Nodes.{own_at, node_check}
use Rattle.type_checks.proofs.OwnForms.{over, own-Number, own-Sized, own-Text, own-Flag, own-Word, own-Member, own-Unary, own-Binary, own-WideLeft, own-Choice, own-Join, own-Repeat, own-Index, own-Slice, own-Call, own-Signed, own-Resize, own-Pc, own-Encoding, own-Register, own-Field, own-SoftRead, own-ReadMemory, own-NewField, own-Mode, own-Implemented, own-ImplementedVersion}

cons-is : {x y : Check} {xs ys : List Check} → x ≡ y → xs ≡ ys → x ∷ xs ≡ y ∷ ys
cons-is {x} {y} {xs} {ys} e f = ap (λ c. c ∷ xs) e ∙ ap (λ cs. y ∷ cs) f

node-is : (view : View) (e : Expr) (context : List Cond) {is : List Issue} {k : Option Kind} → own_at view e ≡ is → kind_at view e ≡ k → check context (is ++ kind_issues k) ≡ node_check view e context
unfolding node_check
node-is view e context {is} {k} own kind = ap (λ js. check context (js ++ kind_issues k)) (sym own) ∙ ap (λ l. check context (own_at view e ++ kind_issues l)) (sym kind)

module _ (view : View) where
  kinds-over : {A : Type 0} (f : Expr → A) (es : List Expr) → map (λ (p : Expr × A). kind_at view p.0) (map (λ x. (x, f x)) es) ≡ map (kind_at view) es
  kinds-over f [] = refl
  kinds-over f (e ∷ es) = ap (λ ks. kind_at view e ∷ ks) (kinds-over f es)

  checks-over : (es : List Expr) (context : List Cond) → flat_map (λ (p : Expr × Checks). p.1 context) (map (λ x. (x, expr_checks view x)) es) ≡ flat_map (λ x. expr_checks view x context) es
  checks-over [] context = refl
  checks-over (e ∷ es) context = ap (λ cs. expr_checks view e context ++ cs) (checks-over es context)

  pub walk-Number : (n : ℕ) (context : List Cond) → expr_checks view (ex.Number n) context ≡ node_check view (ex.Number n) context ∷ ([])
  walk-Number n context = law.checks-Number view n context ∙ cons-is (node-is view (ex.Number n) context (own-Number view n) (sh.shape-Number (names_at view) n)) refl

  pub walk-Sized : (width : Width) (signed : Bool) (n : ℕ) (context : List Cond) → expr_checks view (ex.Sized width signed n) context ≡ node_check view (ex.Sized width signed n) context ∷ ([])
  walk-Sized width signed n context = law.checks-Sized view width signed n context ∙ cons-is (node-is view (ex.Sized width signed n) context (own-Sized view width signed n) (sh.shape-Sized (names_at view) width signed n)) refl

  pub walk-Text : (x : Chars) (context : List Cond) → expr_checks view (ex.Text x) context ≡ node_check view (ex.Text x) context ∷ ([])
  walk-Text x context = law.checks-Text view x context ∙ cons-is (node-is view (ex.Text x) context (own-Text view x) (sh.shape-Text (names_at view) x)) refl

  pub walk-Flag : (x : Bool) (context : List Cond) → expr_checks view (ex.Flag x) context ≡ node_check view (ex.Flag x) context ∷ ([])
  walk-Flag x context = law.checks-Flag view x context ∙ cons-is (node-is view (ex.Flag x) context (own-Flag view x) (sh.shape-Flag (names_at view) x)) refl

  pub walk-Word : (name : Name) (context : List Cond) → expr_checks view (ex.Word name) context ≡ node_check view (ex.Word name) context ∷ ([])
  walk-Word name context = law.checks-Word view name context ∙ cons-is (node-is view (ex.Word name) context (own-Word view name) (sh.shape-Word (names_at view) name)) refl

  pub walk-Member : (kind : EnumKind) (name : Name) (context : List Cond) → expr_checks view (ex.Member kind name) context ≡ node_check view (ex.Member kind name) context ∷ ([])
  walk-Member kind name context = law.checks-Member view kind name context ∙ cons-is (node-is view (ex.Member kind name) context (own-Member view kind name) (sh.shape-Member (names_at view) kind name)) refl

  pub walk-Unary : (sign : Unary) (a : Expr) (context : List Cond) → expr_checks view (ex.Unary sign a) context ≡ node_check view (ex.Unary sign a) context ∷ (expr_checks view a context)
  walk-Unary sign a context = law.checks-Unary view sign a context ∙ cons-is (node-is view (ex.Unary sign a) context (own-Unary view sign a) (sh.shape-Unary (names_at view) sign a)) (append-nil (expr_checks view a context))

  pub walk-And : (a c : Expr) (context : List Cond) → expr_checks view (ex.Binary b.And a c) context ≡ node_check view (ex.Binary b.And a c) context ∷ (expr_checks view a context ++ expr_checks view c (where_true view.space a context))
  walk-And a c context = law.checks-Binary view b.And a c context ∙ cons-is (node-is view (ex.Binary b.And a c) context (own-Binary view b.And a c) (sh.shape-Binary (names_at view) b.And a c)) refl

  pub walk-Or : (a c : Expr) (context : List Cond) → expr_checks view (ex.Binary b.Or a c) context ≡ node_check view (ex.Binary b.Or a c) context ∷ (expr_checks view a context ++ expr_checks view c (where_false view.space a context))
  walk-Or a c context = law.checks-Binary view b.Or a c context ∙ cons-is (node-is view (ex.Binary b.Or a c) context (own-Binary view b.Or a c) (sh.shape-Binary (names_at view) b.Or a c)) refl

  below-others : (sign : Binary) (a c : Expr) (context : List Cond) → (sign ≡ b.And → ⊥) → (sign ≡ b.Or → ⊥) → binary_below view sign (a, expr_checks view a) (c, expr_checks view c) context ≡ expr_checks view a context ++ expr_checks view c context
  below-others b.And a c context h k = absurd (h refl)
  below-others b.Or a c context h k = absurd (k refl)
  below-others _ a c context h k = refl

  pub walk-others : (sign : Binary) (a c : Expr) (context : List Cond) → (sign ≡ b.And → ⊥) → (sign ≡ b.Or → ⊥) → expr_checks view (ex.Binary sign a c) context ≡ node_check view (ex.Binary sign a c) context ∷ (expr_checks view a context ++ expr_checks view c context)
  walk-others sign a c context h k = law.checks-Binary view sign a c context ∙ cons-is (node-is view (ex.Binary sign a c) context (own-Binary view sign a c) (sh.shape-Binary (names_at view) sign a c)) (below-others sign a c context h k)

  pub walk-WideLeft : (a : Expr) (by : Width) (context : List Cond) → expr_checks view (ex.WideLeft a by) context ≡ node_check view (ex.WideLeft a by) context ∷ (expr_checks view a context)
  walk-WideLeft a by context = law.checks-WideLeft view a by context ∙ cons-is (node-is view (ex.WideLeft a by) context (own-WideLeft view a by) (sh.shape-WideLeft (names_at view) a by)) (append-nil (expr_checks view a context))

  pub walk-Choice : (a c d : Expr) (context : List Cond) → expr_checks view (ex.Choice a c d) context ≡ node_check view (ex.Choice a c d) context ∷ (expr_checks view a context ++ (expr_checks view c (where_true view.space a context) ++ expr_checks view d (where_false view.space a context)))
  walk-Choice a c d context = law.checks-Choice view a c d context ∙ cons-is (node-is view (ex.Choice a c d) context (own-Choice view a c d) (sh.shape-Choice (names_at view) a c d)) refl

  pub walk-Join : (es : List Expr) (context : List Cond) → expr_checks view (ex.Join es) context ≡ node_check view (ex.Join es) context ∷ (flat_map (λ x. expr_checks view x context) es)
  walk-Join es context = law.checks-Join view es context ∙ cons-is (node-is view (ex.Join es) context (own-Join view es ∙ sym (ap (λ ps. own_issues view (Expr-F.Join ps)) (over view (expr_checks view) es))) (sh.shape-Join (names_at view) es ∙ sym (ap join_kind (kinds-over (expr_checks view) es)))) (checks-over es context)

  pub walk-Repeat : (times : Width) (a : Expr) (context : List Cond) → expr_checks view (ex.Repeat times a) context ≡ node_check view (ex.Repeat times a) context ∷ (expr_checks view a context)
  walk-Repeat times a context = law.checks-Repeat view times a context ∙ cons-is (node-is view (ex.Repeat times a) context (own-Repeat view times a) (sh.shape-Repeat (names_at view) times a)) (append-nil (expr_checks view a context))

  pub walk-Index : (a c : Expr) (context : List Cond) → expr_checks view (ex.Index a c) context ≡ node_check view (ex.Index a c) context ∷ (expr_checks view a context ++ expr_checks view c context)
  walk-Index a c context = law.checks-Index view a c context ∙ cons-is (node-is view (ex.Index a c) context (own-Index view a c) (sh.shape-Index (names_at view) a c)) (ap (λ cs. expr_checks view a context ++ cs) (append-nil (expr_checks view c context)))

  pub walk-Slice : (a : Expr) (high low : Width) (context : List Cond) → expr_checks view (ex.Slice a high low) context ≡ node_check view (ex.Slice a high low) context ∷ (expr_checks view a context)
  walk-Slice a high low context = law.checks-Slice view a high low context ∙ cons-is (node-is view (ex.Slice a high low) context (own-Slice view a high low) (sh.shape-Slice (names_at view) a high low)) (append-nil (expr_checks view a context))

  pub walk-Call : (name : Name) (es : List Expr) (context : List Cond) → expr_checks view (ex.Call name es) context ≡ node_check view (ex.Call name es) context ∷ (flat_map (λ x. expr_checks view x context) es)
  walk-Call name es context = law.checks-Call view name es context ∙ cons-is (node-is view (ex.Call name es) context (own-Call view name es ∙ sym (ap (λ ps. own_issues view (Expr-F.Call name ps)) (over view (expr_checks view) es))) (sh.shape-Call (names_at view) name es)) (checks-over es context)

  pub walk-Signed : (a : Expr) (context : List Cond) → expr_checks view (ex.Signed a) context ≡ node_check view (ex.Signed a) context ∷ (expr_checks view a context)
  walk-Signed a context = law.checks-Signed view a context ∙ cons-is (node-is view (ex.Signed a) context (own-Signed view a) (sh.shape-Signed (names_at view) a)) (append-nil (expr_checks view a context))

  pub walk-Resize : (width : Width) (a : Expr) (context : List Cond) → expr_checks view (ex.Resize width a) context ≡ node_check view (ex.Resize width a) context ∷ (expr_checks view a context)
  walk-Resize width a context = law.checks-Resize view width a context ∙ cons-is (node-is view (ex.Resize width a) context (own-Resize view width a) (sh.shape-Resize (names_at view) width a)) (append-nil (expr_checks view a context))

  pub walk-Pc : (context : List Cond) → expr_checks view (ex.Pc) context ≡ node_check view (ex.Pc) context ∷ ([])
  walk-Pc context = law.checks-Pc view context ∙ cons-is (node-is view (ex.Pc) context (own-Pc view) (sh.shape-Pc (names_at view))) refl

  pub walk-Encoding : (context : List Cond) → expr_checks view (ex.Encoding) context ≡ node_check view (ex.Encoding) context ∷ ([])
  walk-Encoding context = law.checks-Encoding view context ∙ cons-is (node-is view (ex.Encoding) context (own-Encoding view) (sh.shape-Encoding (names_at view))) refl

  pub walk-Register : (a : Expr) (context : List Cond) → expr_checks view (ex.Register a) context ≡ node_check view (ex.Register a) context ∷ (expr_checks view a context)
  walk-Register a context = law.checks-Register view a context ∙ cons-is (node-is view (ex.Register a) context (own-Register view a) (sh.shape-Register (names_at view) a)) (append-nil (expr_checks view a context))

  pub walk-Field : (csr field : Name) (context : List Cond) → expr_checks view (ex.Field csr field) context ≡ node_check view (ex.Field csr field) context ∷ ([])
  walk-Field csr field context = law.checks-Field view csr field context ∙ cons-is (node-is view (ex.Field csr field) context (own-Field view csr field) (sh.shape-Field (names_at view) csr field)) refl

  at-address : (a : Expr) (context : List Cond) → expr_checks view (ex.SoftRead a) context ≡ node_check view (ex.SoftRead a) context ∷ address_checks view (a, expr_checks view a) context
  at-address a context = law.checks-SoftRead view a context ∙ cons-is (node-is view (ex.SoftRead a) context (own-SoftRead view a) (sh.shape-SoftRead (names_at view) a)) refl

  pub walk-word : (a : Expr) (context : List Cond) (name : Name) → csr_word view a ≡ Some name → expr_checks view (ex.SoftRead a) context ≡ node_check view (ex.SoftRead a) context ∷ check context (csr_word_issues view name) ∷ []
  walk-word a context name h = at-address a context ∙ ap (λ o. node_check view (ex.SoftRead a) context ∷ elim o [ Some n ↦ check context (csr_word_issues view n) ∷ [] | None ↦ expr_checks view a context ]) h

  pub walk-address : (a : Expr) (context : List Cond) → csr_word view a ≡ None → expr_checks view (ex.SoftRead a) context ≡ node_check view (ex.SoftRead a) context ∷ expr_checks view a context
  walk-address a context h = at-address a context ∙ ap (λ o. node_check view (ex.SoftRead a) context ∷ elim o [ Some n ↦ check context (csr_word_issues view n) ∷ [] | None ↦ expr_checks view a context ]) h

  pub walk-ReadMemory : (count : ℕ) (a : Expr) (context : List Cond) → expr_checks view (ex.ReadMemory count a) context ≡ node_check view (ex.ReadMemory count a) context ∷ (expr_checks view a context)
  walk-ReadMemory count a context = law.checks-ReadMemory view count a context ∙ cons-is (node-is view (ex.ReadMemory count a) context (own-ReadMemory view count a) (sh.shape-ReadMemory (names_at view) count a)) (append-nil (expr_checks view a context))

  pub walk-NewField : (name : Name) (context : List Cond) → expr_checks view (ex.NewField name) context ≡ node_check view (ex.NewField name) context ∷ ([])
  walk-NewField name context = law.checks-NewField view name context ∙ cons-is (node-is view (ex.NewField name) context (own-NewField view name) (sh.shape-NewField (names_at view) name)) refl

  pub walk-Mode : (context : List Cond) → expr_checks view (ex.Mode) context ≡ node_check view (ex.Mode) context ∷ ([])
  walk-Mode context = law.checks-Mode view context ∙ cons-is (node-is view (ex.Mode) context (own-Mode view) (sh.shape-Mode (names_at view))) refl

  pub walk-Implemented : (name : Name) (context : List Cond) → expr_checks view (ex.Implemented name) context ≡ node_check view (ex.Implemented name) context ∷ ([])
  walk-Implemented name context = law.checks-Implemented view name context ∙ cons-is (node-is view (ex.Implemented name) context (own-Implemented view name) (sh.shape-Implemented (names_at view) name)) refl

  pub walk-ImplementedVersion : (extension : Name) (x : Chars) (context : List Cond) → expr_checks view (ex.ImplementedVersion extension x) context ≡ node_check view (ex.ImplementedVersion extension x) context ∷ ([])
  walk-ImplementedVersion extension x context = law.checks-ImplementedVersion view extension x context ∙ cons-is (node-is view (ex.ImplementedVersion extension x) context (own-ImplementedVersion view extension x) (sh.shape-ImplementedVersion (names_at view) extension x)) refl

pub ruleset walk_laws = (append_assoc, walk-Number, walk-Sized, walk-Text, walk-Flag, walk-Word, walk-Member, walk-Unary, walk-And, walk-Or, walk-others, walk-WideLeft, walk-Choice, walk-Join, walk-Repeat, walk-Index, walk-Slice, walk-Call, walk-Signed, walk-Resize, walk-Pc, walk-Encoding, walk-Register, walk-Field, walk-word, walk-address, walk-ReadMemory, walk-NewField, walk-Mode, walk-Implemented, walk-ImplementedVersion)

pub ruleset list_laws = (append_assoc, append-nil)
