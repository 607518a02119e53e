-- Each present field is found by the names of its CSR and its own.
use Rattle.std.proofs.Common.{◌≡◌, ◌≢◌, ℕ, suc, Bool, true, false, List, [], ◌∷◌, map, Option, None, Some, refl, ap, ◌∙◌, subst, arith}
use Rattle.std.specs.Prelude.{All, AllPairs, find, filter_map, flat_map, option_map, option_and_then, if◌then◌else◌}
use Rattle.std.specs.List.{cons_option}
use Rattle.std.specs.Cmp.Lexicographic.{bytes_decides}
use Rattle.std.proofs.lemmas.List.Elements.{All-head, All-tail}
use Rattle.udb_base.specs.declared.spaces.Space.{Space}
use Rattle.udb_base.specs.declared.spaces.Full.{Full}
use Rattle.udb_spec.specs.Conditions.{holds, same_bytes}
use Rattle.udb_spec.specs.Spaces.{mxlen}
use Rattle.idl_tree.specs.Each.{Each}
use Rattle.idl_tree.specs.declared.programs.BitPart.{BitPart}
use Rattle.idl_tree.specs.declared.programs.FieldBodies.{FieldBodies}
use Rattle.idl_tree.specs.declared.programs.CsrBody.{CsrBody}
use Rattle.idl_tree.specs.declared.programs.Program.{Program}
use Rattle.idl_spec.specs.Fields.{Placed, place_for, placed, layout, csr_named, placed_named, present_field}
use Rattle.idl_spec.specs.Programs.{present_fields}
use Rattle.type_laws.specs.Software.{HasDistinctNames}
use Rattle.type_laws.proofs.Outcomes.{each_both, same_some}

-- ---- lists

each_all : {X : Type 0} (P : X → Type 0) (xs : List X) → All P xs → Each P xs
each_all P [] h = tt
each_all P (x ∷ xs) h = (All-head P x xs h, each_all P xs (All-tail P x xs h))

each_with : {X : Type 0} (P Q R : X → Type 0) (xs : List X) → ((x : X) → P x → Q x → R x) → Each P xs → Each Q xs → Each R xs
each_with P Q R [] f h k = tt
each_with P Q R (x ∷ xs) f h k = (f x h.0 k.0, each_with P Q R xs f h.1 k.1)

each_mapped : {X Y : Type 0} (P : X → Type 0) (Q : Y → Type 0) (f : X → Y) (xs : List X) → ((x : X) → P x → Q (f x)) → Each P xs → Each Q (map f xs)
each_mapped P Q f [] g h = tt
each_mapped P Q f (x ∷ xs) g h = (g x h.0, each_mapped P Q f xs g h.1)

-- ---- distinct names

module _ {X : Type 0} (name : X → List ℕ) where
  abbrev IsApart : X → X → Type 0
  IsApart x y = name x ≢ name y

  abbrev AreApart : List X → Type 0
  AreApart [] = Unit {0}
  AreApart (x ∷ xs) = Each (IsApart x) xs × AreApart xs

  apart_pairs : (xs : List X) → AllPairs (λ a b. name a ≢ name b) xs → AreApart xs
  apart_pairs [] h = tt
  apart_pairs (x ∷ xs) h = (
    each_all (IsApart x) xs (λ i d l. h 0 (suc i) d (omega arith) (omega (arith, l))),
    apart_pairs xs (λ j k d m n. h (suc j) (suc k) d (omega (arith, m)) (omega (arith, n))),
  )

  differs : (a c : List ℕ) (t : Bool) → same_bytes a c ≡ t → a ≢ c → t ≡ false
  differs a c true e n = absurd (n ((bytes_decides a c).0 e))
  differs a c false e n = refl

  abbrev IsFirst : List X → X → Type 0
  IsFirst xs x = find (λ y. same_bytes (name y) (name x)) xs ≡ Some x

  here : (x : X) (xs : List X) (b : Bool) → b ≡ true → (if b then Some x else find (λ y. same_bytes (name y) (name x)) xs) ≡ Some x
  here x xs true h = refl
  here x xs false h = absurd (cc)

  later : (y x : X) (xs : List X) (b : Bool) → b ≡ false → IsFirst xs x → (if b then Some y else find (λ z. same_bytes (name z) (name x)) xs) ≡ Some x
  later y x xs true h k = absurd (cc)
  later y x xs false h k = k

  -- each is the first of its name
  all_first : (xs : List X) → AreApart xs → Each (IsFirst xs) xs
  all_first [] h = tt
  all_first (x ∷ xs) h = (
    here x xs (same_bytes (name x) (name x)) ((bytes_decides (name x) (name x)).1 refl),
    each_with (IsApart x) (IsFirst xs) (IsFirst (x ∷ xs)) xs (λ y n k. later x y xs (same_bytes (name x) (name y)) (differs (name x) (name y) (same_bytes (name x) (name y)) refl n) k) h.0 (all_first xs h.1),
  )

-- ---- the fields of a CSR

module _ (space : Space) (full : Full) where
  placed_parts : (t : Bool) (o : Option BitPart) (f : FieldBodies) (p : Placed) → (if t then option_map (λ (part : BitPart). record { field = f; bits = part }) o else None) ≡ Some p → f ≡ p.field
  placed_parts true None f p h = absurd (cc)
  placed_parts true (Some part) f p h = ap (λ (q : Placed). q.field) (same_some h)
  placed_parts false o f p h = absurd (cc)

  placed_field : (f : FieldBodies) (p : Placed) → placed space full f ≡ Some p → f ≡ p.field
  placed_field f p h = placed_parts (holds space full f.present) (place_for (mxlen space full) f.places) f p h

  abbrev placed_name : Placed → List ℕ
  placed_name p = p.field.name

  still_apart : (name : List ℕ) (fs : List FieldBodies) → Each (λ g. name ≢ g.name) fs → Each (λ p. name ≢ placed_name p) (filter_map (placed space full) fs)
  still_apart name [] h = tt
  still_apart name (f ∷ fs) h = at (placed space full f) refl (still_apart name fs h.1)
    where
      at : (o : Option Placed) → placed space full f ≡ o → Each (λ p. name ≢ placed_name p) (filter_map (placed space full) fs) → Each (λ p. name ≢ placed_name p) (cons_option o (filter_map (placed space full) fs))
      at None is rest = rest
      at (Some p) is rest = (subst (λ (g : FieldBodies). name ≢ g.name) (placed_field f p is) h.0, rest)

  placed_apart : (fs : List FieldBodies) → AreApart (λ (g : FieldBodies). g.name) fs → AreApart placed_name (filter_map (placed space full) fs)
  placed_apart [] h = tt
  placed_apart (f ∷ fs) h = at (placed space full f) refl (placed_apart fs h.1) (still_apart f.name fs h.0)
    where
      at : (o : Option Placed) → placed space full f ≡ o → AreApart placed_name (filter_map (placed space full) fs) → Each (λ p. f.name ≢ placed_name p) (filter_map (placed space full) fs) → AreApart placed_name (cons_option o (filter_map (placed space full) fs))
      at None is rest others = rest
      at (Some p) is rest others = (subst (λ (g : FieldBodies). Each (λ q. g.name ≢ placed_name q) (filter_map (placed space full) fs)) (placed_field f p is) others, rest)

  layout_apart : (c : CsrBody) → AreApart (λ (g : FieldBodies). g.name) c.fields → AreApart placed_name (layout space full c)
  unfolding layout
  layout_apart c h = at (holds space full c.present)
    where
      at : (b : Bool) → AreApart placed_name (if b then filter_map (placed space full) c.fields else [])
      at true = placed_apart c.fields h
      at false = tt

-- ---- a program

module _ (space : Space) (full : Full) (program : Program) where
  abbrev pub IsNamed : CsrBody × Placed → Type 0
  IsNamed q = present_field space full program q.0.name q.1.field.name ≡ Some q.1

  abbrev IsKnown : CsrBody → Type 0
  IsKnown c = csr_named program.csrs c.name ≡ Some c

  abbrev HasApart : CsrBody → Type 0
  HasApart c = AllPairs (λ a b. a.name ≢ b.name) c.fields

  named_by : (c : CsrBody) (p : Placed) → IsKnown c → placed_named (layout space full c) p.field.name ≡ Some p → IsNamed (c, p)
  unfolding present_field
  named_by c p known first = ap (option_and_then (λ (x : CsrBody). placed_named (layout space full x) p.field.name)) known ∙ first

  all_in : (cs : List CsrBody) → Each IsKnown cs → Each HasApart cs → Each IsNamed (flat_map (λ c. map (λ p. (c, p)) (layout space full c)) cs)
  all_in [] h k = tt
  all_in (c ∷ cs) h k =
      let own = all_first (λ (p : Placed). p.field.name) (layout space full c) (layout_apart space full c (apart_pairs (λ (g : FieldBodies). g.name) c.fields k.0)) in
      each_both IsNamed (map (λ p. (c, p)) (layout space full c)) (flat_map (λ x. map (λ p. (x, p)) (layout space full x)) cs)
      (each_mapped (λ (p : Placed). placed_named (layout space full c) p.field.name ≡ Some p) IsNamed (λ p. (c, p)) (layout space full c) (λ p first. named_by c p h.0 first) own)
      (all_in cs h.1 k.1)

  -- each present field is found by its names
  pub all_named : HasDistinctNames program → Each IsNamed (present_fields space full program)
  all_named distinct =
      all_in program.csrs (all_first (λ (c : CsrBody). c.name) program.csrs (apart_pairs (λ (c : CsrBody). c.name) program.csrs distinct.csrs)) (each_all HasApart program.csrs distinct.fields)
