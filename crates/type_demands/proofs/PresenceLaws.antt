-- The condition under which a field is present.
use Rattle.std.proofs.Common.{◌≡◌, ◌∙◌, ◌==◌, ◌||◌, ◌&&◌, Bool, true, false, not, List, [], ◌∷◌, map, Option, None, Some, refl, ap}
use Rattle.std.specs.Prelude.{is_some, filter, filter_map, option_map, option_and_then, if◌then◌else◌, codes}
use Rattle.std.specs.List.{list_any}
use Rattle.udb_base.specs.declared.names.Name.{Name}
use Rattle.udb_base.specs.declared.conditions.Cond.{Cond}
use Rattle.udb_base.specs.declared.conditions.Cond.TheVariants as c
use Rattle.udb_base.specs.declared.conditions.Test.TheVariants as t
use Rattle.udb_base.specs.declared.conditions.Value.{Value}
use Rattle.udb_base.specs.declared.conditions.Value.TheVariants.{Flag, Number, Word}
use Rattle.udb_base.specs.declared.spaces.Space.{Space}
use Rattle.udb_base.specs.declared.spaces.Full.{Full}
use Rattle.udb_spec.specs.Conditions.{holds, same_bytes, value_of, option_passes}
use Rattle.udb_spec.specs.CondLaws.{holds-Always, holds-Never, holds-Param, holds-All, holds-Any, holds-Not}
use Rattle.udb_spec.specs.Spaces.{number_or, mxlen}
use Rattle.idl_tree.specs.declared.programs.BitPart.{BitPart}
use Rattle.idl_tree.specs.declared.programs.FieldPlaces.{FieldPlaces}
use Rattle.idl_tree.specs.declared.programs.FieldPlaces.TheVariants as places
use Rattle.idl_tree.specs.declared.programs.FieldBodies.{FieldBodies}
use Rattle.idl_tree.specs.declared.programs.CsrBody.{CsrBody}
use Rattle.idl_tree.specs.declared.programs.Program.{Program}
use Rattle.idl_spec.specs.Fields.{Placed, placed, place_for, layout, csr_named, placed_named, present_field}
use Rattle.type_demands.specs.Presence.{is_64, place_cond, field_cond, csr_cond, presence}

abbrev nothing : Option BitPart
nothing = None

is-64-value : (o : Option Value) → option_passes t.Equal o (Number 64) ≡ (number_or 32 o == 64)
is-64-value None = refl
is-64-value (Some (Flag b)) = refl
is-64-value (Some (Number n)) = refl
is-64-value (Some (Word w)) = refl

any-map : (space : Space) (full : Full) (parts : List Cond) → list_any (λ b. b) (map (holds space full) parts) ≡ list_any (holds space full) parts
any-map space full [] = refl
any-map space full (x ∷ xs) = ap (λ b. holds space full x || b) (any-map space full xs)

and-last : (a b : Bool) → (a && (b && true)) ≡ (a && b)
and-last true true = refl
and-last true false = refl
and-last false b = refl

module _ (space : Space) (full : Full) where
  registers-are-64 : holds space full is_64 ≡ (mxlen space full == 64)
  registers-are-64 = holds-Param space full (codes "MXLEN") t.Equal (Number 64) ∙ is-64-value (value_of space full (codes "MXLEN"))

  place-is : (ps : FieldPlaces) → holds space full (place_cond ps) ≡ is_some (place_for (mxlen space full) ps)
  place-is (places.All part) = holds-Always space full
  place-is (places.ByBase (Some p) (Some q)) = holds-Always space full ∙ by (mxlen space full == 64) where
    by : (b : Bool) → true ≡ is_some (if b then Some q else Some p)
    by true = refl
    by false = refl
  place-is (places.ByBase (Some p) None) = holds-Not space full is_64 ∙ (ap not registers-are-64 ∙ by (mxlen space full == 64)) where
    by : (b : Bool) → not b ≡ is_some (if b then None else Some p)
    by true = refl
    by false = refl
  place-is (places.ByBase None (Some q)) = registers-are-64 ∙ by (mxlen space full == 64) where
    by : (b : Bool) → b ≡ is_some (if b then Some q else None)
    by true = refl
    by false = refl
  place-is (places.ByBase None None) = holds-Never space full ∙ by (mxlen space full == 64) where
    by : (b : Bool) → false ≡ is_some (if b then nothing else nothing)
    by true = refl
    by false = refl

  pair-is : (a b : Cond) → holds space full (c.All (a ∷ b ∷ [])) ≡ (holds space full a && holds space full b)
  pair-is a b = holds-All space full (a ∷ b ∷ []) ∙ and-last (holds space full a) (holds space full b)

  field-is : (f : FieldBodies) → holds space full (field_cond f) ≡ (holds space full f.present && is_some (place_for (mxlen space full) f.places))
  field-is f = pair-is f.present (place_cond f.places) ∙ ap (λ b. holds space full f.present && b) (place-is f.places)

  module _ (name : Name) where
    abbrev some_holds : List FieldBodies → Bool
    some_holds fs = list_any (holds space full) (map field_cond fs)

    abbrev made : FieldBodies → Bool → Option BitPart → Option Placed
    made f h q = if h then option_map (λ part. record { field = f; bits = part }) q else None

    abbrev with : Option Placed → List Placed → List Placed
    with None ps = ps
    with (Some p) ps = p ∷ ps

    step : (f : FieldBodies) (fs : List FieldBodies) (ps : List Placed) (b h : Bool) (q : Option BitPart) → same_bytes f.name name ≡ b → holds space full (field_cond f) ≡ (h && is_some q)
        → some_holds fs ≡ is_some (placed_named ps name)
        → some_holds (if b then f ∷ fs else fs) ≡ is_some (placed_named (with (made f h q) ps) name)
    step f fs ps true true (Some p) e k rest = rw e (ap (λ b. b || some_holds fs) k)
    step f fs ps true true None e k rest = ap (λ b. b || some_holds fs) k ∙ rest
    step f fs ps true false q e k rest = ap (λ b. b || some_holds fs) k ∙ rest
    step f fs ps false true (Some p) e k rest = rw e rest
    step f fs ps false true None e k rest = rest
    step f fs ps false false q e k rest = rest

    fields-are : (fs : List FieldBodies) → some_holds (filter (λ f. same_bytes f.name name) fs) ≡ is_some (placed_named (filter_map (placed space full) fs) name)
    fields-are [] = refl
    fields-are (f ∷ fs) =
        step f (filter (λ f. same_bytes f.name name) fs) (filter_map (placed space full) fs) (same_bytes f.name name) (holds space full f.present) (place_for (mxlen space full) f.places) refl (field-is f) (fields-are fs)

    some-is : (fs : List FieldBodies) → holds space full (c.Any (map field_cond (filter (λ f. same_bytes f.name name) fs))) ≡ is_some (placed_named (filter_map (placed space full) fs) name)
    some-is fs =
        holds-Any space full (map field_cond (filter (λ f. same_bytes f.name name) fs)) ∙ (any-map space full (map field_cond (filter (λ f. same_bytes f.name name) fs)) ∙ fields-are fs)

    csr-is : (csr : CsrBody) → holds space full (csr_cond name csr) ≡ is_some (placed_named (layout space full csr) name)
    unfolding layout
    csr-is csr =
        pair-is csr.present (c.Any (map field_cond (filter (λ f. same_bytes f.name name) csr.fields)))
        ∙ (ap (λ b. holds space full csr.present && b) (some-is csr.fields) ∙ by (holds space full csr.present))
      where
        by : (b : Bool) → (b && is_some (placed_named (filter_map (placed space full) csr.fields) name)) ≡ is_some (placed_named (if b then filter_map (placed space full) csr.fields else []) name)
        by true = refl
        by false = refl

    pub presence-is : (program : Program) (csr : Name) → holds space full (presence program csr name) ≡ is_some (present_field space full program csr name)
    unfolding present_field
    presence-is program csr = by (csr_named program.csrs csr) where
      by : (o : Option CsrBody) → holds space full (elim o [ None ↦ c.Never | Some one ↦ csr_cond name one ]) ≡ is_some (option_and_then (λ one. placed_named (layout space full one) name) o)
      by None = holds-Never space full
      by (Some one) = csr-is one
