-- Each expression that is true or false tells its claims: words, extensions, and all forms together.
use Rattle.std.proofs.Common.{◌≡◌, Bool, true, false, List, [], ◌∷◌, Option, None, Some, refl, sym, ap, ◌∙◌, subst}
use Rattle.std.specs.Prelude.{IfSome, option_map, option_and_then, is_some, if◌then◌else◌}
use Rattle.udb_base.specs.declared.names.Name.{Name}
use Rattle.udb_base.specs.declared.characters.Chars.{Chars}
use Rattle.udb_base.specs.declared.versions.Version.{Version}
use Rattle.udb_base.specs.declared.versions.Listed.{Listed}
use Rattle.udb_base.specs.declared.versions.Requirement.{Requirement}
use Rattle.udb_base.specs.declared.conditions.Value.TheVariants as given
use Rattle.udb_base.specs.declared.conditions.Test.TheVariants as test
use Rattle.udb_base.specs.declared.conditions.Cond.{Cond}
use Rattle.udb_base.specs.declared.conditions.Cond.TheVariants as c
use Rattle.udb_base.specs.declared.spaces.ExtSpace.{ExtSpace}
use Rattle.udb_spec.specs.Conditions.{holds, option_passes, present_among, choice_meets, same_bytes}
use Rattle.udb_spec.specs.CondLaws.{holds-Ext, holds-Param}
use Rattle.udb_cond.specs.Requirements.{requirement_of}
use Rattle.idl_tree.specs.declared.expressions.Unary.{Unary}
use Rattle.idl_tree.specs.declared.expressions.Unary.TheVariants as u
use Rattle.idl_tree.specs.declared.expressions.Binary.{Binary}
use Rattle.idl_tree.specs.declared.expressions.Binary.TheVariants as b
use Rattle.idl_tree.specs.declared.expressions.Expr.{Expr}
use Rattle.idl_tree.specs.declared.expressions.Expr.TheVariants as ex
use Rattle.idl_tree.specs.ExprLaws.{induct-Expr}
use Rattle.idl_spec.specs.Values.{flag}
use Rattle.idl_spec.specs.Harts.{State, done, required}
use Rattle.idl_spec.specs.Shapes.{parameter_named}
use Rattle.idl_spec.specs.Settings.{Setting}
use Rattle.idl_spec.specs.Forms.{choice_among, implemented, implemented_version}
use Rattle.idl_spec.specs.MeanLaws.{mean-Implemented, mean-ImplementedVersion}
use Rattle.idl_spec.specs.Formulas.{Claims, Side, claims, claims_binary, test_of, compared, of_option, word_formula, parameter_side, lists_extension, version_formula}
use Rattle.idl_spec.specs.Formulas as side
use Rattle.idl_spec.specs.FormulaLaws.{claims-Number, claims-Sized, claims-Text, claims-Word, claims-Member, claims-Unary, claims-Binary, claims-WideLeft, claims-Choice, claims-Join, claims-Repeat, claims-Index, claims-Slice, claims-Call, claims-Signed, claims-Resize, claims-Pc, claims-Encoding, claims-Register, claims-Field, claims-SoftRead, claims-ReadMemory, claims-NewField, claims-Mode, claims-Implemented, claims-ImplementedVersion}
use Rattle.type_laws.specs.Worlds.{Tested}
use Rattle.type_laws.proofs.Outcomes.{same_some}
use Rattle.type_laws.proofs.Told.{told_option}
use Rattle.type_laws.proofs.Sides.{Shows}
use Rattle.type_laws.proofs.Tells.{ToldHere, shows, Tells, silent}
use Rattle.type_laws.proofs.Tests as t

same_flag_value : (v w : Bool) → flag v ≡ flag w → v ≡ w
same_flag_value v w h = cc

required_is : {A : Type 0} (o : Option A) (x : A) (s t : State) → required o s ≡ done x t → o ≡ Some x
required_is None x s t h = absurd (cc)
required_is (Some y) x s t h = cc

-- an extension is present exactly where a version of it is chosen
meets_none : (list : List Listed) (choice : Option Version) → choice_meets list [] choice ≡ is_some choice
meets_none list None = refl
meets_none list (Some x) = refl

chosen_present : (xs : List ExtSpace) (cs : List (Option Version)) (name : Name) (choice : Option Version) → choice_among xs cs name ≡ Some choice → present_among xs cs name [] ≡ is_some choice
chosen_present [] cs name choice h = absurd (cc)
chosen_present (x ∷ xs) [] name choice h = absurd (cc)
chosen_present (x ∷ xs) (k ∷ cs) name choice h = at (same_bytes x.name name) h (chosen_present xs cs name choice)
  where
    at : (b : Bool) → (if b then Some k else choice_among xs cs name) ≡ Some choice → (choice_among xs cs name ≡ Some choice → present_among xs cs name [] ≡ is_some choice)
        → (if b then choice_meets x.versions [] k else present_among xs cs name []) ≡ is_some choice
    at true h rest = meets_none x.versions k ∙ ap is_some (same_some h)
    at false h rest = rest h

module _ (e : Setting) (tested : Tested e) where
  -- ---- words

  flag_told : (l : Side) (v : Bool) → Shows e.space e.full l (flag v) → IfSome (word_formula l) (λ p. holds e.space e.full p ≡ v)
  flag_told (side.flag n) v h = holds-Param e.space e.full n test.Equal (given.Flag true) ∙ (ap (λ o. option_passes test.Equal o (given.Flag true)) h.value ∙ (truth h.truth ∙ sym (same_flag_value v h.truth h.is)))
    where
      truth : (x : Bool) → (if x then true else false) ≡ x
      truth true = refl
      truth false = refl
  flag_told l v h = tt

  tells-Word : (name : Name) → Tells e tested (ex.Word name)
  tells-Word name inner scope s t v at small h =
      let l : Side = parameter_side name (parameter_named e.space.params name) in
      subst (λ (y : Claims). ToldHere e tested y v) (sym (claims-Word e.space name))
      (told_option e.space e.full (word_formula l) v (flag_told l v (shows e tested (ex.Word name) inner scope s t (flag v) at small h)))

  -- ---- extensions

  present_told : (name : Name) (o : Option (Option Version)) (v : Bool) → choice_among e.space.extensions e.full.extensions name ≡ o → option_map (λ choice. flag (is_some choice)) o ≡ Some (flag v)
      → holds e.space e.full (c.Ext name []) ≡ v
  present_told name None v is h = absurd (cc)
  present_told name (Some choice) v is h =
      holds-Ext e.space e.full name [] ∙ (chosen_present e.space.extensions e.full.extensions name choice is ∙ same_flag_value (is_some choice) v (same_some h))

  if_listed : (b : Bool) (p : Cond) (v : Bool) → holds e.space e.full p ≡ v → IfSome (if b then Some p else None) (λ q. holds e.space e.full q ≡ v)
  if_listed true p v h = h
  if_listed false p v h = tt

  tells-Implemented : (name : Name) → Tells e tested (ex.Implemented name)
  tells-Implemented name inner scope s t v at small h =
      let is : implemented e name ≡ Some (flag v) = required_is (implemented e name) (flag v) s t (sym (mean-Implemented e name scope s) ∙ h) in
      subst (λ (y : Claims). ToldHere e tested y v) (sym (claims-Implemented e.space name))
      (told_option e.space e.full (if lists_extension e.space name then Some (c.Ext name []) else None) v
      (if_listed (lists_extension e.space name) (c.Ext name []) v (present_told name (choice_among e.space.extensions e.full.extensions name) v refl is)))

  version_told : (name : Name) (need : Requirement) (o : Option (Option Version)) (v : Bool) → option_map (λ (choice : Option Version). flag (present_among e.space.extensions e.full.extensions name (need ∷ []))) o ≡ Some (flag v)
      → holds e.space e.full (c.Ext name (need ∷ [])) ≡ v
  version_told name need None v h = absurd (cc)
  version_told name need (Some choice) v h = holds-Ext e.space e.full name (need ∷ []) ∙ same_flag_value (present_among e.space.extensions e.full.extensions name (need ∷ [])) v (same_some h)

  needs_told : (name : Name) (listed : Bool) (o : Option Requirement) (v : Bool)
      → option_and_then (λ need. option_map (λ choice. flag (present_among e.space.extensions e.full.extensions name (need ∷ []))) (choice_among e.space.extensions e.full.extensions name)) o ≡ Some (flag v)
      → IfSome (if listed then option_map (λ need. c.Ext name (need ∷ [])) o else None) (λ p. holds e.space e.full p ≡ v)
  needs_told name false o v h = tt
  needs_told name true None v h = tt
  needs_told name true (Some need) v h = version_told name need (choice_among e.space.extensions e.full.extensions name) v h

  tells-ImplementedVersion : (name : Name) (text : Chars) → Tells e tested (ex.ImplementedVersion name text)
  tells-ImplementedVersion name text inner scope s t v at small h =
      let is : implemented_version e name text ≡ Some (flag v) = required_is (implemented_version e name text) (flag v) s t (sym (mean-ImplementedVersion e name text scope s) ∙ h) in
      subst (λ (y : Claims). ToldHere e tested y v) (sym (claims-ImplementedVersion e.space name text))
      (told_option e.space e.full (version_formula e.space name text) v (needs_told name (lists_extension e.space name) (requirement_of text) v is))

  -- ---- all forms

  tells-Unary : (sign : Unary) (a : Expr) → Tells e tested a → Tells e tested (ex.Unary sign a)
  tells-Unary u.Not a h = t.tells-Not e tested a h
  tells-Unary u.Invert a h = silent e tested (ex.Unary u.Invert a) (claims-Unary e.space u.Invert a)
  tells-Unary u.Minus a h = silent e tested (ex.Unary u.Minus a) (claims-Unary e.space u.Minus a)

  untold : (sign : Binary) (a y : Expr) → test_of sign ≡ None → claims_binary e.space sign (a, claims e.space a) (y, claims e.space y) ≡ of_option (compared e.space (test_of sign) a y) → Tells e tested (ex.Binary sign a y)
  untold sign a y none is = silent e tested (ex.Binary sign a y) (claims-Binary e.space sign a y ∙ (is ∙ ap (λ o. of_option (compared e.space o a y)) none))

  tells-Binary : (sign : Binary) (a y : Expr) → Tells e tested a → Tells e tested y → Tells e tested (ex.Binary sign a y)
  tells-Binary b.And a y h k = t.tells-And e tested a y h k
  tells-Binary b.Or a y h k = t.tells-Or e tested a y h k
  tells-Binary b.Equal a y h k = t.tells-Equal e tested a y
  tells-Binary b.NotEqual a y h k = t.tells-NotEqual e tested a y
  tells-Binary b.Below a y h k = t.tells-Below e tested a y
  tells-Binary b.AtMost a y h k = t.tells-AtMost e tested a y
  tells-Binary b.Above a y h k = t.tells-Above e tested a y
  tells-Binary b.AtLeast a y h k = t.tells-AtLeast e tested a y
  tells-Binary b.BitOr a y h k = untold b.BitOr a y refl refl
  tells-Binary b.BitXor a y h k = untold b.BitXor a y refl refl
  tells-Binary b.BitAnd a y h k = untold b.BitAnd a y refl refl
  tells-Binary b.Left a y h k = untold b.Left a y refl refl
  tells-Binary b.Right a y h k = untold b.Right a y refl refl
  tells-Binary b.RightSigned a y h k = untold b.RightSigned a y refl refl
  tells-Binary b.Add a y h k = untold b.Add a y refl refl
  tells-Binary b.Sub a y h k = untold b.Sub a y refl refl
  tells-Binary b.WideAdd a y h k = untold b.WideAdd a y refl refl
  tells-Binary b.WideSub a y h k = untold b.WideSub a y refl refl
  tells-Binary b.Mul a y h k = untold b.Mul a y refl refl
  tells-Binary b.WideMul a y h k = untold b.WideMul a y refl refl
  tells-Binary b.Div a y h k = untold b.Div a y refl refl
  tells-Binary b.Rem a y h k = untold b.Rem a y refl refl

  pub tells : (x : Expr) → Tells e tested x
  tells = induct-Expr (Tells e tested) (record {
    number = λ n. silent e tested (ex.Number n) (claims-Number e.space n);
    sized = λ width signed n. silent e tested (ex.Sized width signed n) (claims-Sized e.space width signed n);
    text = λ y. silent e tested (ex.Text y) (claims-Text e.space y);
    flag = t.tells-Flag e tested;
    word = tells-Word;
    member = λ kind name. silent e tested (ex.Member kind name) (claims-Member e.space kind name);
    unary = tells-Unary;
    binary = tells-Binary;
    wide_left = λ a by h. silent e tested (ex.WideLeft a by) (claims-WideLeft e.space a by);
    choice = λ test taken other h k l. silent e tested (ex.Choice test taken other) (claims-Choice e.space test taken other);
    join = λ es hs. silent e tested (ex.Join es) (claims-Join e.space es);
    repeat = λ times a h. silent e tested (ex.Repeat times a) (claims-Repeat e.space times a);
    index = λ a at h k. silent e tested (ex.Index a at) (claims-Index e.space a at);
    slice = λ a high low h. silent e tested (ex.Slice a high low) (claims-Slice e.space a high low);
    call = λ name es hs. silent e tested (ex.Call name es) (claims-Call e.space name es);
    signed = λ a h. silent e tested (ex.Signed a) (claims-Signed e.space a);
    resize = λ width a h. silent e tested (ex.Resize width a) (claims-Resize e.space width a);
    pc = silent e tested ex.Pc (claims-Pc e.space);
    encoding = silent e tested ex.Encoding (claims-Encoding e.space);
    register = λ a h. silent e tested (ex.Register a) (claims-Register e.space a);
    field = λ csr field. silent e tested (ex.Field csr field) (claims-Field e.space csr field);
    soft_read = λ a h. silent e tested (ex.SoftRead a) (claims-SoftRead e.space a);
    read_memory = λ count a h. silent e tested (ex.ReadMemory count a) (claims-ReadMemory e.space count a);
    new_field = λ name. silent e tested (ex.NewField name) (claims-NewField e.space name);
    mode = silent e tested ex.Mode (claims-Mode e.space);
    implemented = tells-Implemented;
    implemented_version = tells-ImplementedVersion;
  })
