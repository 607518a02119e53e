-- The fields that are present, and that the condition under which their bodies are checked holds there.
use Rattle.std.proofs.Common.{◌≡◌, ◌⊎◌, inl, inr, ℕ, Bool, true, false, List, [], ◌∷◌, ◌++◌, map, Option, None, Some, refl, sym, ap, ◌∙◌, subst, arith}
use Rattle.std.specs.Prelude.{◌==◌, codes, pos, is_some, filter_map, flat_map, option_map, if◌then◌else◌}
use Rattle.std.specs.List.{list_all, cons_option}
use Rattle.std.proofs.lemmas.Option.{none-some}
use Rattle.std.proofs.lemmas.Int.{ints, clamps}
use Rattle.udb_base.specs.declared.conditions.Cond.{Cond}
use Rattle.udb_base.specs.declared.conditions.Cond.TheVariants as c
use Rattle.udb_base.specs.declared.conditions.Test.TheVariants as test
use Rattle.udb_base.specs.declared.conditions.Value.{Value as Given}
use Rattle.udb_base.specs.declared.conditions.Value.TheVariants as g
use Rattle.udb_base.specs.declared.spaces.ParamSpace.{ParamSpace}
use Rattle.udb_base.specs.declared.spaces.Space.{Space}
use Rattle.udb_base.specs.declared.spaces.Full.{Full}
use Rattle.udb_spec.specs.Conditions.{holds, value_of, option_passes}
use Rattle.udb_spec.specs.CondLaws.{holds-Always, holds-Param, holds-All}
use Rattle.udb_spec.specs.Spaces.{mxlen, number_or, Valid}
use Rattle.udb_spec.specs.Lawful.{Lawful}
use Rattle.idl_tree.specs.declared.programs.BitPart.{BitPart}
use Rattle.idl_tree.specs.declared.programs.FieldPlaces.{FieldPlaces}
use Rattle.idl_tree.specs.declared.programs.FieldPlaces.TheVariants as places
use Rattle.idl_tree.specs.declared.programs.FieldBodies.{FieldBodies}
use Rattle.idl_tree.specs.declared.programs.CsrBody.{CsrBody}
use Rattle.idl_tree.specs.declared.programs.Program.{Program}
use Rattle.idl_tree.specs.declared.widths.Width.TheVariants as wd
use Rattle.idl_width.specs.Numbers.{clip}
use Rattle.idl_width.specs.NumberLaws.{number-Word}
use Rattle.idl_spec.specs.Shapes.{parameter_named}
use Rattle.idl_spec.specs.Fields.{Placed, place_for, placed, layout, bits_scope}
use Rattle.idl_spec.specs.Settings.{Setting, number_of_width}
use Rattle.idl_spec.specs.Programs.{bare}
use Rattle.idl_spec.specs.ProgramFits.{mxlen_is, has_place, field_presence}
use Rattle.type_laws.proofs.GivenParams.{none_among, AreWide, are_wide}
use Rattle.type_laws.proofs.Reach.{Has}
use Rattle.type_laws.proofs.Outcomes.{same_some}

-- ---- what is in a list that is made of another

pub record Made {X Y : Type 0} (P : X → Y → Type 0) (xs : List X) (y : Y) : Type 0 where
  pub from : X
  pub has : Has xs from
  pub made : P from y

made_more : {X Y : Type 0} (P : X → Y → Type 0) (x : X) (xs : List X) (y : Y) → Made P xs y → Made P (x ∷ xs) y
made_more P x xs y m = record { from = m.from; has = inr m.has; made = m.made }

pub has_map : {X Y : Type 0} (f : X → Y) (xs : List X) (y : Y) → Has (map f xs) y → Made (λ x y. f x ≡ y) xs y
has_map f [] y h = absurd h
has_map f (x ∷ xs) y (inl e) = record { from = x; has = inl refl; made = e }
has_map f (x ∷ xs) y (inr h) = made_more (λ x y. f x ≡ y) x xs y (has_map f xs y h)

has_either : {X : Type 0} (xs ys : List X) (x : X) → Has (xs ++ ys) x → Has xs x ⊎ Has ys x
has_either {X} [] ys x h = inr h
has_either {X} (z ∷ zs) ys x (inl e) = inl (inl e)
has_either {X} (z ∷ zs) ys x (inr h) = at (has_either zs ys x h)
  where
    at : Has zs x ⊎ Has ys x → Has (z ∷ zs) x ⊎ Has ys x
    at (inl k) = inl (inr k)
    at (inr k) = inr k

pub has_flat : {X Y : Type 0} (f : X → List Y) (xs : List X) (y : Y) → Has (flat_map f xs) y → Made (λ x y. Has (f x) y) xs y
has_flat {X} {Y} f [] y h = absurd h
has_flat {X} {Y} f (x ∷ xs) y h = at (has_either (f x) (flat_map f xs) y h) (has_flat f xs y)
  where
    at : Has (f x) y ⊎ Has (flat_map f xs) y → (Has (flat_map f xs) y → Made (λ x y. Has (f x) y) xs y) → Made (λ x y. Has (f x) y) (x ∷ xs) y
    at (inl k) more = record { from = x; has = inl refl; made = k }
    at (inr k) more = made_more (λ x y. Has (f x) y) x xs y (more k)

has_filter_map : {X Y : Type 0} (f : X → Option Y) (xs : List X) (y : Y) → Has (filter_map f xs) y → Made (λ x y. f x ≡ Some y) xs y
has_filter_map {X} {Y} f [] y h = absurd h
has_filter_map {X} {Y} f (x ∷ xs) y h = at (f x) refl h (has_filter_map f xs y)
  where
    at : (o : Option Y) → f x ≡ o → Has (cons_option o (filter_map f xs)) y → (Has (filter_map f xs) y → Made (λ x y. f x ≡ Some y) xs y) → Made (λ x y. f x ≡ Some y) (x ∷ xs) y
    at None is k more = made_more (λ x y. f x ≡ Some y) x xs y (more k)
    at (Some z) is (inl e) more = record { from = x; has = inl refl; made = is ∙ ap Some e }
    at (Some z) is (inr k) more = made_more (λ x y. f x ≡ Some y) x xs y (more k)

module _ (space : Space) (full : Full) where
  -- ---- the fields of a layout

  -- a field of a CSR that is present, with its CSR
  pub record IsPresent (csr : CsrBody) (p : Placed) : Type 0 where
    pub csr_holds : holds space full csr.present ≡ true
    pub has : Has csr.fields p.field
    pub holds_too : holds space full p.field.present ≡ true
    pub place : place_for (mxlen space full) p.field.places ≡ Some p.bits

  present_placed : (csr : CsrBody) (f : FieldBodies) (p : Placed) → holds space full csr.present ≡ true → Has csr.fields f → placed space full f ≡ Some p → IsPresent csr p
  present_placed csr f p there has h = by_presence (holds space full f.present) refl h
    where
      by_place : (o : Option BitPart) → place_for (mxlen space full) f.places ≡ o → holds space full f.present ≡ true → option_map (λ part. record { field = f; bits = part }) o ≡ Some p → IsPresent csr p
      by_place None is ok k = absurd (none-some p k)
      by_place (Some part) is ok k =
          subst (IsPresent csr) (same_some k) (record { csr_holds = there; has = has; holds_too = ok; place = is })

      by_presence : (b : Bool) → holds space full f.present ≡ b → (if b then option_map (λ part. record { field = f; bits = part }) (place_for (mxlen space full) f.places) else None) ≡ Some p → IsPresent csr p
      by_presence true is k = by_place (place_for (mxlen space full) f.places) refl is k
      by_presence false is k = absurd (none-some p k)

  pub in_layout_present : (csr : CsrBody) (p : Placed) → Has (layout space full csr) p → IsPresent csr p
  unfolding layout
  in_layout_present csr p h = at (holds space full csr.present) refl h
    where
      at : (b : Bool) → holds space full csr.present ≡ b → Has (if b then filter_map (placed space full) csr.fields else []) p → IsPresent csr p
      at true is k =
          let m : Made (λ f q. placed space full f ≡ Some q) csr.fields p = has_filter_map (placed space full) csr.fields p k in
          present_placed csr m.from p is m.has m.made
      at false is k = absurd k

  -- ---- the condition of its bodies

  module _ (lawful : Lawful space) (valid : Valid space full) (program : Program) where
    abbrev e : Setting
    e = bare space full program None

    -- MXLEN has the number of the registers, where it is a parameter
    clipped_none : (n : ℕ) → (n ≡ 32) ⊎ (n ≡ 64) → clip (pos 0) ≡ pos n → ⊥
    clipped_none n (inl h) k = omega (arith, ints, clamps)
    clipped_none n (inr h) k = omega (arith, ints, clamps)

    number_given : (o : Option Given) → (number_or 32 o ≡ 32) ⊎ (number_or 32 o ≡ 64) → clip (pos (number_or 0 o)) ≡ pos (number_or 32 o) → o ≡ Some (g.Number (number_or 32 o))
    number_given None wide h = absurd (clipped_none 32 wide h)
    number_given (Some (g.Flag x)) wide h = absurd (clipped_none 32 wide h)
    number_given (Some (g.Number n)) wide h = refl
    number_given (Some (g.Word w)) wide h = absurd (clipped_none 32 wide h)

    mxlen_given : (p : ParamSpace) → parameter_named space.params (codes "MXLEN") ≡ Some p → value_of space full (codes "MXLEN") ≡ Some (g.Number (mxlen space full))
    mxlen_given p h =
        let wide : AreWide e valid = are_wide e valid lawful in
        number_given (value_of space full (codes "MXLEN")) wide.which
        (sym (number-Word space full (bits_scope program []) (codes "MXLEN"))
        ∙ (sym (ap (λ o. number_of_width e (if is_some o then wd.Word (codes "MXLEN") else wd.Number 32)) h) ∙ wide.number))

    same_number : (m n : ℕ) → m ≡ n → (m == n) ≡ true
    same_number m n h = grind arith

    mxlen_holds : (n : ℕ) (otherwise : Cond) → mxlen space full ≡ n → (parameter_named space.params (codes "MXLEN") ≡ None → holds space full otherwise ≡ true) → holds space full (mxlen_is space n otherwise) ≡ true
    mxlen_holds n otherwise h k = at (parameter_named space.params (codes "MXLEN")) refl
      where
        at : (o : Option ParamSpace) → parameter_named space.params (codes "MXLEN") ≡ o → holds space full (if is_some o then c.Param (codes "MXLEN") test.Equal (g.Number n) else otherwise) ≡ true
        at None is = k is
        at (Some p) is =
            holds-Param space full (codes "MXLEN") test.Equal (g.Number n)
            ∙ (ap (λ o. option_passes test.Equal o (g.Number n)) (mxlen_given p is) ∙ same_number (mxlen space full) n h)

    is_64 : (r : ℕ) (b : Bool) → (r == 64) ≡ b → (r ≡ 32) ⊎ (r ≡ 64) → (b ≡ true → r ≡ 64) × (b ≡ false → r ≡ 32)
    is_64 r true e wide = (λ h. grind (arith, e), λ h. absurd (cc))
    is_64 r false e (inl w) = (λ h. absurd (cc), λ h. w)
    is_64 r false e (inr w) = absurd (grind (arith, e, w))

    other_width : parameter_named space.params (codes "MXLEN") ≡ None → mxlen space full ≡ 64 → ⊥
    other_width h k = absurd (let z : mxlen space full ≡ 32 = ap (number_or 32) (none_among space full space.params full.params (codes "MXLEN") h) in omega (arith, z, k))

    place_holds : (at : FieldPlaces) (part : BitPart) → place_for (mxlen space full) at ≡ Some part → holds space full (has_place space at) ≡ true
    place_holds (places.All p) part h = holds-Always space full
    place_holds (places.ByBase (Some p) (Some q)) part h = holds-Always space full
    place_holds (places.ByBase (Some p) None) part h = at (mxlen space full == 64) refl h
      where
        at : (b : Bool) → (mxlen space full == 64) ≡ b → (if b then None else Some p) ≡ Some part → holds space full (mxlen_is space 32 c.Always) ≡ true
        at true is k = absurd (none-some part k)
        at false is k = mxlen_holds 32 c.Always ((is_64 (mxlen space full) false is (are_wide e valid lawful).which).1 refl) (λ n. holds-Always space full)
    place_holds (places.ByBase None (Some q)) part h = at (mxlen space full == 64) refl h
      where
        at : (b : Bool) → (mxlen space full == 64) ≡ b → (if b then Some q else None) ≡ Some part → holds space full (mxlen_is space 64 c.Never) ≡ true
        at false is k = absurd (none-some part k)
        at true is k =
            let size = (is_64 (mxlen space full) true is (are_wide e valid lawful).which).0 refl in
            mxlen_holds 64 c.Never size (λ n. absurd (other_width n size))
    place_holds (places.ByBase None None) part h = at (mxlen space full == 64) h
      where
        at : (b : Bool) → (if b then None else None) ≡ Some part → holds space full c.Never ≡ true
        at true k = absurd (none-some part k)
        at false k = absurd (none-some part k)

    three_hold : (x y z : Bool) → x ≡ true → y ≡ true → z ≡ true → list_all (λ (b : Bool). b) (x ∷ y ∷ z ∷ []) ≡ true
    three_hold true true true h k l = refl
    three_hold false y z h k l = absurd (cc)
    three_hold true false z h k l = absurd (cc)
    three_hold true true false h k l = absurd (cc)

    -- where a field is present, the condition of its bodies holds
    pub presence_holds : (csr : CsrBody) (p : Placed) → IsPresent csr p → holds space full (field_presence space csr p.field) ≡ true
    presence_holds csr p at =
        holds-All space full (csr.present ∷ p.field.present ∷ has_place space p.field.places ∷ [])
        ∙ three_hold (holds space full csr.present) (holds space full p.field.present) (holds space full (has_place space p.field.places)) at.csr_holds at.holds_too (place_holds p.field.places p.bits at.place)
