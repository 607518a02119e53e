-- What nodes do, form by form, as far as one sort of deed is asked for.
use Rattle.std.proofs.Common.{◌≡◌, ℕ, Bool, true, false, List, [], ◌∷◌, ◌++◌, None, Some, map, refl, ap, ◌∙◌}
use Rattle.std.proofs.lemmas.List.{append-nil}
use Rattle.std.proofs.lemmas.List.Folds.{list_any-append}
use Rattle.std.specs.Prelude.{◌||◌, flat_map}
use Rattle.std.specs.List.{list_any}
use Rattle.udb_base.specs.declared.names.Name.{Name}
use Rattle.udb_base.specs.declared.characters.Chars.{Chars}
use Rattle.idl_tree.specs.declared.widths.Width.{Width}
use Rattle.idl_tree.specs.declared.widths.Shape.{Shape}
use Rattle.idl_tree.specs.declared.widths.EnumKind.{EnumKind}
use Rattle.idl_tree.specs.declared.expressions.Unary.{Unary}
use Rattle.idl_tree.specs.declared.expressions.Binary.{Binary}
use Rattle.idl_tree.specs.declared.expressions.Expr.{Expr}
use Rattle.idl_tree.specs.declared.expressions.Expr.TheVariants as ex
use Rattle.idl_tree.specs.declared.statements.Target.{Target}
use Rattle.idl_tree.specs.declared.statements.Target.TheVariants as t
use Rattle.idl_tree.specs.declared.statements.Stmt.{Stmt}
use Rattle.idl_tree.specs.declared.statements.Stmt.TheVariants as st
use Rattle.idl_spec.specs.Deeds.{Deed, calls, reads_field, reads_state, reads_memory, acts, all_of, expr_deeds, stmt_deeds, deeds_of}
use Rattle.idl_spec.specs.DeedLaws as law
use Rattle.idl_reach.specs.Asked.{target_asks}

-- ---- lists of deeds

abbrev any : (Deed → Bool) → List Deed → Bool
any p ds = list_any p ds

one : (p : Deed → Bool) (a : List Deed) → any p (a ++ []) ≡ any p a
one p a = ap (any p) (append-nil a)

two : (p : Deed → Bool) (a c : List Deed) → any p (a ++ (c ++ [])) ≡ (any p a || any p c)
two p a c = list_any-append p a (c ++ []) ∙ ap (λ b. any p a || b) (one p c)

three : (p : Deed → Bool) (a c d : List Deed) → any p (a ++ (c ++ (d ++ []))) ≡ (any p a || (any p c || any p d))
three p a c d = list_any-append p a (c ++ (d ++ [])) ∙ ap (λ b. any p a || b) (two p c d)

each-of : (es : List Expr) → flat_map expr_deeds es ≡ all_of (map expr_deeds es)
each-of [] = refl
each-of (e ∷ es) = ap (λ ds. expr_deeds e ++ ds) (each-of es)

last : (b : Bool) → (b || false) ≡ b
last true = refl
last false = refl

-- ---- expressions

pub any-Number : (p : Deed → Bool) (n : ℕ) → any p (expr_deeds (ex.Number n)) ≡ false
any-Number p n = ap (any p) (law.deeds-Number n)

pub any-Sized : (p : Deed → Bool) (width : Width) (signed : Bool) (n : ℕ) → any p (expr_deeds (ex.Sized width signed n)) ≡ false
any-Sized p width signed n = ap (any p) (law.deeds-Sized width signed n)

pub any-Text : (p : Deed → Bool) (x : Chars) → any p (expr_deeds (ex.Text x)) ≡ false
any-Text p x = ap (any p) (law.deeds-Text x)

pub any-Flag : (p : Deed → Bool) (x : Bool) → any p (expr_deeds (ex.Flag x)) ≡ false
any-Flag p x = ap (any p) (law.deeds-Flag x)

pub any-Word : (p : Deed → Bool) (name : Name) → any p (expr_deeds (ex.Word name)) ≡ false
any-Word p name = ap (any p) (law.deeds-Word name)

pub any-Member : (p : Deed → Bool) (kind : EnumKind) (name : Name) → any p (expr_deeds (ex.Member kind name)) ≡ false
any-Member p kind name = ap (any p) (law.deeds-Member kind name)

pub any-NewField : (p : Deed → Bool) (name : Name) → any p (expr_deeds (ex.NewField name)) ≡ false
any-NewField p name = ap (any p) (law.deeds-NewField name)

pub any-Mode : (p : Deed → Bool) → any p (expr_deeds (ex.Mode)) ≡ false
any-Mode p = ap (any p) law.deeds-Mode

pub any-Implemented : (p : Deed → Bool) (name : Name) → any p (expr_deeds (ex.Implemented name)) ≡ false
any-Implemented p name = ap (any p) (law.deeds-Implemented name)

pub any-ImplementedVersion : (p : Deed → Bool) (extension : Name) (x : Chars) → any p (expr_deeds (ex.ImplementedVersion extension x)) ≡ false
any-ImplementedVersion p extension x = ap (any p) (law.deeds-ImplementedVersion extension x)

pub any-Unary : (p : Deed → Bool) (sign : Unary) (a : Expr) → any p (expr_deeds (ex.Unary sign a)) ≡ any p (expr_deeds a)
any-Unary p sign a = ap (any p) (law.deeds-Unary sign a) ∙ one p (expr_deeds a)

pub any-WideLeft : (p : Deed → Bool) (a : Expr) (by : Width) → any p (expr_deeds (ex.WideLeft a by)) ≡ any p (expr_deeds a)
any-WideLeft p a by = ap (any p) (law.deeds-WideLeft a by) ∙ one p (expr_deeds a)

pub any-Repeat : (p : Deed → Bool) (times : Width) (a : Expr) → any p (expr_deeds (ex.Repeat times a)) ≡ any p (expr_deeds a)
any-Repeat p times a = ap (any p) (law.deeds-Repeat times a) ∙ one p (expr_deeds a)

pub any-Slice : (p : Deed → Bool) (a : Expr) (high low : Width) → any p (expr_deeds (ex.Slice a high low)) ≡ any p (expr_deeds a)
any-Slice p a high low = ap (any p) (law.deeds-Slice a high low) ∙ one p (expr_deeds a)

pub any-Signed : (p : Deed → Bool) (a : Expr) → any p (expr_deeds (ex.Signed a)) ≡ any p (expr_deeds a)
any-Signed p a = ap (any p) (law.deeds-Signed a) ∙ one p (expr_deeds a)

pub any-Resize : (p : Deed → Bool) (width : Width) (a : Expr) → any p (expr_deeds (ex.Resize width a)) ≡ any p (expr_deeds a)
any-Resize p width a = ap (any p) (law.deeds-Resize width a) ∙ one p (expr_deeds a)

pub any-Binary : (p : Deed → Bool) (sign : Binary) (a c : Expr) → any p (expr_deeds (ex.Binary sign a c)) ≡ (any p (expr_deeds a) || any p (expr_deeds c))
any-Binary p sign a c = ap (any p) (law.deeds-Binary sign a c) ∙ two p (expr_deeds a) (expr_deeds c)

pub any-Index : (p : Deed → Bool) (a c : Expr) → any p (expr_deeds (ex.Index a c)) ≡ (any p (expr_deeds a) || any p (expr_deeds c))
any-Index p a c = ap (any p) (law.deeds-Index a c) ∙ two p (expr_deeds a) (expr_deeds c)

pub any-Choice : (p : Deed → Bool) (a c d : Expr) → any p (expr_deeds (ex.Choice a c d)) ≡ (any p (expr_deeds a) || (any p (expr_deeds c) || any p (expr_deeds d)))
any-Choice p a c d = ap (any p) (law.deeds-Choice a c d) ∙ three p (expr_deeds a) (expr_deeds c) (expr_deeds d)

pub any-Join : (p : Deed → Bool) (es : List Expr) → any p (expr_deeds (ex.Join es)) ≡ any p (all_of (map expr_deeds es))
any-Join p es = ap (any p) (law.deeds-Join es)

pub any-Call : (p : Deed → Bool) (name : Name) (es : List Expr) → any p (expr_deeds (ex.Call name es)) ≡ (p (calls name) || any p (all_of (map expr_deeds es)))
any-Call p name es = ap (any p) (law.deeds-Call name es)

pub any-Pc : (p : Deed → Bool) → any p (expr_deeds (ex.Pc)) ≡ p reads_state
any-Pc p = ap (any p) law.deeds-Pc ∙ last (p reads_state)

pub any-Encoding : (p : Deed → Bool) → any p (expr_deeds (ex.Encoding)) ≡ p reads_state
any-Encoding p = ap (any p) law.deeds-Encoding ∙ last (p reads_state)

pub any-Field : (p : Deed → Bool) (csr field : Name) → any p (expr_deeds (ex.Field csr field)) ≡ p reads_field
any-Field p csr field = ap (any p) (law.deeds-Field csr field) ∙ last (p reads_field)

pub any-Register : (p : Deed → Bool) (a : Expr) → any p (expr_deeds (ex.Register a)) ≡ (p reads_state || any p (expr_deeds a))
any-Register p a = ap (any p) (law.deeds-Register a) ∙ ap (λ b. p reads_state || b) (one p (expr_deeds a))

pub any-SoftRead : (p : Deed → Bool) (a : Expr) → any p (expr_deeds (ex.SoftRead a)) ≡ (p reads_memory || any p (expr_deeds a))
any-SoftRead p a = ap (any p) (law.deeds-SoftRead a) ∙ ap (λ b. p reads_memory || b) (one p (expr_deeds a))

pub any-ReadMemory : (p : Deed → Bool) (count : ℕ) (a : Expr) → any p (expr_deeds (ex.ReadMemory count a)) ≡ (p reads_memory || any p (expr_deeds a))
any-ReadMemory p count a = ap (any p) (law.deeds-ReadMemory count a) ∙ ap (λ b. p reads_memory || b) (one p (expr_deeds a))

pub ruleset expression_laws = (any-Number, any-Sized, any-Text, any-Flag, any-Word, any-Member, any-NewField, any-Mode, any-Implemented, any-ImplementedVersion, any-Unary, any-WideLeft, any-Repeat, any-Slice, any-Signed, any-Resize, any-Binary, any-Index, any-Choice, any-Join, any-Call, any-Pc, any-Encoding, any-Field, any-Register, any-SoftRead, any-ReadMemory)

-- ---- statements

one-two : (p : Deed → Bool) (a : List Deed) → any p ((a ++ []) ++ []) ≡ any p a
one-two p a = one p (a ++ []) ∙ one p a

two-two : (p : Deed → Bool) (a c : List Deed) → any p ((a ++ (c ++ [])) ++ []) ≡ (any p a || any p c)
two-two p a c = one p (a ++ (c ++ [])) ∙ two p a c

pub any-Declare : (p : Deed → Bool) (declared : Shape) (name : Name) (x : Expr) → any p (stmt_deeds (st.Declare declared name x)) ≡ any p (expr_deeds x)
any-Declare p declared name x = ap (any p) (law.does-Declare declared name x) ∙ one-two p (expr_deeds x)

or-assoc : (a c d : Bool) → (a || (c || d)) ≡ ((a || c) || d)
or-assoc true c d = refl
or-assoc false c d = refl

pub any-Assign : (p : Deed → Bool) (to : Target) (x : Expr) → any p (stmt_deeds (st.Assign to x)) ≡ (target_asks p to || any p (expr_deeds x))
any-Assign p (t.Word name) x = ap (any p) (law.does-Assign (t.Word name) x) ∙ one-two p (expr_deeds x)
any-Assign p (t.Bit name at) x = ap (any p) (law.does-Assign (t.Bit name at) x) ∙ two-two p (expr_deeds at) (expr_deeds x)
any-Assign p (t.Slice name high low) x = ap (any p) (law.does-Assign (t.Slice name high low) x) ∙ one-two p (expr_deeds x)
any-Assign p (t.Register at) x = ap (any p) (law.does-Assign (t.Register at) x) ∙ (ap (λ b. p acts || b) (two-two p (expr_deeds at) (expr_deeds x)) ∙ or-assoc (p acts) (any p (expr_deeds at)) (any p (expr_deeds x)))
any-Assign p (t.Field csr field) x = ap (any p) (law.does-Assign (t.Field csr field) x) ∙ ap (λ b. p acts || b) (one-two p (expr_deeds x))

pub any-Block : (p : Deed → Bool) (ss : List Stmt) → any p (stmt_deeds (st.Block ss)) ≡ any p (deeds_of ss)
any-Block p ss = ap (any p) (law.does-Block ss) ∙ one p (deeds_of ss)

pub any-Return : (p : Deed → Bool) (x : Expr) → any p (stmt_deeds (st.Return x)) ≡ any p (expr_deeds x)
any-Return p x = ap (any p) (law.does-Return x) ∙ one-two p (expr_deeds x)

pub any-If : (p : Deed → Bool) (x : Expr) (ss : List Stmt) → any p (stmt_deeds (st.If x ss None)) ≡ (any p (expr_deeds x) || any p (deeds_of ss))
any-If p x ss = ap (any p) (law.does-If x ss None) ∙ (list_any-append p (expr_deeds x ++ []) (deeds_of ss ++ []) ∙ (ap (λ b. b || any p (deeds_of ss ++ [])) (one p (expr_deeds x)) ∙ ap (λ b. any p (expr_deeds x) || b) (one p (deeds_of ss))))

pub any-Else : (p : Deed → Bool) (x : Expr) (ss zs : List Stmt) → any p (stmt_deeds (st.If x ss (Some zs))) ≡ (any p (expr_deeds x) || (any p (deeds_of ss) || any p (deeds_of zs)))
any-Else p x ss zs = ap (any p) (law.does-If x ss (Some zs)) ∙ (list_any-append p (expr_deeds x ++ []) (deeds_of ss ++ (deeds_of zs ++ [])) ∙ (ap (λ b. b || any p (deeds_of ss ++ (deeds_of zs ++ []))) (one p (expr_deeds x)) ∙ ap (λ b. any p (expr_deeds x) || b) (two p (deeds_of ss) (deeds_of zs))))

pub any-For : (p : Deed → Bool) (name : Name) (from to : Width) (ss : List Stmt) → any p (stmt_deeds (st.For name from to ss)) ≡ any p (deeds_of ss)
any-For p name from to ss = ap (any p) (law.does-For name from to ss) ∙ one p (deeds_of ss)

pub any-Jump : (p : Deed → Bool) (x : Expr) → any p (stmt_deeds (st.Jump x)) ≡ (p acts || any p (expr_deeds x))
any-Jump p x = ap (any p) (law.does-Jump x) ∙ ap (λ b. p acts || b) (one-two p (expr_deeds x))

pub any-Raise : (p : Deed → Bool) (a x : Expr) → any p (stmt_deeds (st.Raise a x)) ≡ (p acts || (any p (expr_deeds a) || any p (expr_deeds x)))
any-Raise p a x = ap (any p) (law.does-Raise a x) ∙ ap (λ b. p acts || b) (two-two p (expr_deeds a) (expr_deeds x))

pub any-WriteMemory : (p : Deed → Bool) (count : ℕ) (a x : Expr) → any p (stmt_deeds (st.WriteMemory count a x)) ≡ (p acts || (any p (expr_deeds a) || any p (expr_deeds x)))
any-WriteMemory p count a x = ap (any p) (law.does-WriteMemory count a x) ∙ ap (λ b. p acts || b) (two-two p (expr_deeds a) (expr_deeds x))

pub any-SoftWrite : (p : Deed → Bool) (a x : Expr) → any p (stmt_deeds (st.SoftWrite a x)) ≡ (p acts || (any p (expr_deeds a) || any p (expr_deeds x)))
any-SoftWrite p a x = ap (any p) (law.does-SoftWrite a x) ∙ ap (λ b. p acts || b) (two-two p (expr_deeds a) (expr_deeds x))

pub any-Called : (p : Deed → Bool) (name : Name) (es : List Expr) → any p (stmt_deeds (st.Call name es)) ≡ (p (calls name) || any p (all_of (map expr_deeds es)))
any-Called p name es = ap (any p) (law.does-Call name es) ∙ ap (λ b. p (calls name) || b) (one p (flat_map expr_deeds es) ∙ ap (any p) (each-of es))

pub ruleset statement_laws = (any-Declare, any-Assign, any-Block, any-Return, any-If, any-Else, any-For, any-Jump, any-Raise, any-WriteMemory, any-SoftWrite, any-Called)
