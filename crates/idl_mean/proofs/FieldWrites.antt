-- What software writes to a CSR, field by field, and the present fields of a lawful program.
use Rattle.std.proofs.Common.{◌≡◌, ◌≢◌, ℕ, zero, suc, ◌<◌, ◌^◌, Bool, true, false, cond, List, [], ◌∷◌, length, get_or, Option, None, Some, refl, sym, ap, ◌∙◌, subst, arith}
use Rattle.std.specs.List.{cons_option}
use Rattle.std.specs.Prelude.{◌==◌, IfSome, All, AllPairs, Contains, find, filter_map, option_map}
use Rattle.std.specs.Cmp.Lexicographic.{bytes_decides}
use Rattle.std.proofs.lemmas.Nat.{pow_pos}
use Rattle.std.proofs.lemmas.List.Elements.{All-nil, All-replicate, All-get_or}
use Rattle.udb_base.specs.declared.spaces.Space.{Space}
use Rattle.udb_base.specs.declared.spaces.Full.{Full}
use Rattle.udb_spec.specs.Conditions.{holds, same_bytes}
use Rattle.udb_spec.specs.Spaces.{mxlen}
use Rattle.idl_tree.specs.declared.programs.FieldBodies.{FieldBodies}
use Rattle.idl_tree.specs.declared.programs.CsrBody.{CsrBody}
use Rattle.idl_tree.specs.declared.programs.Program.{Program}
use Rattle.idl_tree.specs.declared.programs.BitPart.{BitPart}
use Rattle.idl_tree.specs.declared.programs.FieldPlaces.{FieldPlaces}
use Rattle.idl_tree.specs.declared.programs.FieldPlaces.TheVariants as places
use Rattle.idl_forms.proofs.PresentFields.{contains-all, present-named}
use Rattle.idl_spec.specs.Fields.{Placed, place_for, placed, csr_named, placed_named, present_field}
use Rattle.idl_spec.specs.Programs.{blank_state}
use Rattle.idl_forms.specs.Ready.{IsLawfulProgram, IsSound, IsPart, ArePlaces, InField}

-- ---- what is found by its name among distinct names

differs : (a c : List ℕ) (t : Bool) → same_bytes a c ≡ t → a ≢ c → t ≡ false
differs a c true e n = absurd (n ((bytes_decides a c).0 e))
differs a c false e n = refl

module _ {X : Type 0} (name : X → List ℕ) where
  pub found-distinct : (xs : List X) (i : ℕ) (x : X) → AllPairs (λ a c. name a ≢ name c) xs → i < length xs → get_or xs i x ≡ x
      → find (λ y. same_bytes (name y) (name x)) xs ≡ Some x
  found-distinct [] i x pairs l e = absurd (omega (arith, l))
  found-distinct (y ∷ ys) zero x pairs l e =
      let same : same_bytes (name y) (name x) ≡ true = (bytes_decides (name y) (name x)).1 (ap name e) in
      rw same (ap Some e)
  found-distinct (y ∷ ys) (suc i) x pairs l e =
      let apart : name y ≢ name x = subst (λ z. name y ≢ name z) e (pairs 0 (suc i) x (omega arith) l) in
      let other : same_bytes (name y) (name x) ≡ false = differs (name y) (name x) (same_bytes (name y) (name x)) refl apart in
      rw other (found-distinct ys i x (λ j k d m n. pairs (suc j) (suc k) d (omega arith) (omega arith)) (omega arith) e)

-- ---- present fields

placed-parts : (t : Bool) (o : Option BitPart) (f : FieldBodies) (p : Placed)
    → cond t (option_map (λ (part : BitPart). record { field = f; bits = part }) o) None ≡ Some p → (p.field ≡ f) × (o ≡ Some p.bits)
placed-parts true None f p e = absurd (cc)
placed-parts true (Some part) f p e =
    let same : record { field = f; bits = part } ≡ p = cc in
    (ap (λ (q : Placed). q.field) (sym same), ap (λ (q : Placed). Some q.bits) same)
placed-parts false o f p e = absurd (cc)

pub placed-field : (space : Space) (full : Full) (f : FieldBodies) (p : Placed) → placed space full f ≡ Some p
    → (p.field ≡ f) × (place_for (mxlen space full) f.places ≡ Some p.bits)
placed-field space full f p e = placed-parts (holds space full f.present) (place_for (mxlen space full) f.places) f p e

either-part : (t : Bool) (rv32 rv64 : Option BitPart) (part : BitPart) → IfSome rv32 IsPart → IfSome rv64 IsPart → cond t rv64 rv32 ≡ Some part → IsPart part
either-part true rv32 None part h k e = absurd (cc)
either-part true rv32 (Some q) part h k e = let same : q ≡ part = cc in subst IsPart same k
either-part false None rv64 part h k e = absurd (cc)
either-part false (Some q) rv64 part h k e = let same : q ≡ part = cc in subst IsPart same h

place-part : (r : ℕ) (at : FieldPlaces) (part : BitPart) → ArePlaces at → place_for r at ≡ Some part → IsPart part
place-part r (places.All q) part h e = let same : q ≡ part = cc in subst IsPart same h
place-part r (places.ByBase rv32 rv64) part h e = either-part (r == 64) rv32 rv64 part h.0 h.1 e

pub placed-part : (space : Space) (full : Full) (f : FieldBodies) (p : Placed) → ArePlaces f.places → placed space full f ≡ Some p → IsPart p.bits
placed-part space full f p h e = place-part (mxlen space full) f.places p.bits h (placed-field space full f p e).1

module _ (space : Space) (full : Full) where
  among : (o : Option Placed) (g f : FieldBodies) (ps : List Placed) (p : Placed) → g.name ≢ f.name → placed space full g ≡ o
      → placed_named ps f.name ≡ Some p → placed_named (cons_option o ps) f.name ≡ Some p
  among None g f ps p n e h = h
  among (Some q) g f ps p n e h =
      let is : q.field ≡ g = (placed-field space full g q e).0 in
      let other : same_bytes q.field.name f.name ≡ false = differs q.field.name f.name (same_bytes q.field.name f.name) refl (subst (λ x. x.name ≢ f.name) (sym is) n) in
      rw other h

  pub placed-distinct : (fields : List FieldBodies) (i : ℕ) (f : FieldBodies) (p : Placed) → AllPairs (λ a c. a.name ≢ c.name) fields → i < length fields → get_or fields i f ≡ f
      → placed space full f ≡ Some p → placed_named (filter_map (placed space full) fields) f.name ≡ Some p
  placed-distinct [] i f p pairs l e h = absurd (omega (arith, l))
  placed-distinct (g ∷ gs) zero f p pairs l e h =
      let here : placed space full g ≡ Some p = ap (placed space full) e ∙ h in
      let same : same_bytes p.field.name f.name ≡ true = (bytes_decides p.field.name f.name).1 (ap (λ (x : FieldBodies). x.name) (placed-field space full f p h).0) in
      rw here (rw same refl)
  placed-distinct (g ∷ gs) (suc i) f p pairs l e h =
      let apart : g.name ≢ f.name = subst (λ z. g.name ≢ z.name) e (pairs 0 (suc i) f (omega arith) l) in
      among (placed space full g) g f (filter_map (placed space full) gs) p apart refl
      (placed-distinct gs i f p (λ j k d m n. pairs (suc j) (suc k) d (omega arith) (omega arith)) (omega arith) e h)

-- a field of a present CSR that has its bits is the present field of its names
pub present-at : (space : Space) (full : Full) (program : Program) (c : CsrBody) (i : ℕ) (f : FieldBodies) (p : Placed) → IsLawfulProgram program
    → Contains program.csrs c → holds space full c.present ≡ true → i < length c.fields → f ≡ get_or c.fields i f → placed space full f ≡ Some p
    → (present_field space full program c.name f.name ≡ Some p) × IsPart p.bits
present-at space full program c i f p lawful has there l e h =
    let named : csr_named program.csrs c.name ≡ Some c = found-distinct (λ (x : CsrBody). x.name) program.csrs has.0 c lawful.csrs has.1 has.2 in
    let pairs = contains-all (λ (x : CsrBody). AllPairs (λ a d. a.name ≢ d.name) x.fields) program.csrs c lawful.fields has in
    let parts = contains-all (λ (x : CsrBody). All (λ g. ArePlaces g.places) x.fields) program.csrs c lawful.places has in (
      present-named space full program c.name f.name c named there ∙ placed-distinct space full c.fields i f p pairs l (sym e) h,
      placed-part space full f p (subst (λ (g : FieldBodies). ArePlaces g.places) (sym e) (All-get_or (λ (g : FieldBodies). ArePlaces g.places) c.fields i f l parts)) h,
    )

-- ---- the state for bodies that read none

pub blank-sound : (space : Space) (full : Full) (program : Program) → IsSound space full program blank_state
blank-sound space full program = record {
  registers = refl;
  in_range = All-replicate (λ n. n < 2 ^ mxlen space full) 32 0 (pow_pos (mxlen space full));
  zero_register = refl;
  pc = pow_pos (mxlen space full);
  next = pow_pos (mxlen space full);
  word = omega arith;
  fields = All-nil (InField space full program);
  room = omega arith;
  ram = All-nil (λ b. b < 256);
}
