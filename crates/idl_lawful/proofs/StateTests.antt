-- The tests of a state decide whether it is one of a full configuration for a program.
use Rattle.std.proofs.Common.{◌≡◌, ◌∙◌, ◌&&◌, ◌++◌, ◌^◌, ◌<◌, ◌≤◌, Bool, true, false, ℕ, nat_eq, nat_lt, List, [], ◌∷◌, map, length, Option, None, Some, All, if◌then◌else◌, refl, sym, ap, subst}
use Rattle.std.specs.Prelude.{filter_map, flat_map, option_and_then, slice_index}
use Rattle.std.specs.List.{cons_option, list_all}
use Rattle.std.specs.Bool.{Decides}
use Rattle.std.specs.Cmp.Lexicographic.{bytes_decides}
use Rattle.std.proofs.lemmas.Bool.{false≢true}
use Rattle.std.proofs.lemmas.Bool.Decides.{Decides-and, Decides-by_and, Decides-ltb, Decides-eqb}
use Rattle.udb_base.specs.declared.spaces.Space.{Space}
use Rattle.udb_base.specs.declared.spaces.Full.{Full}
use Rattle.udb_spec.specs.Conditions.{holds, same_bytes}
use Rattle.udb_spec.specs.Spaces.{mxlen}
use Rattle.idl_tree.specs.declared.programs.FieldBodies.{FieldBodies}
use Rattle.idl_tree.specs.declared.programs.CsrBody.{CsrBody}
use Rattle.idl_tree.specs.declared.programs.Program.{Program}
use Rattle.idl_spec.specs.Harts.{FieldValue, State}
use Rattle.idl_spec.specs.Fields.{Placed, part_width, placed, layout}
use Rattle.idl_spec.specs.Programs.{HoldsField, HoldFields, IsState, present_fields}
use Rattle.idl_lawful.specs.Tests.{fits_field, behind_place, behind, behind_fields, behind_csr, behind_csrs, is_nothing_left, are_fields, is_below_power, fits}

-- the values behind those of present fields
abbrev Fields : Type 0
Fields = List (CsrBody × Placed)

abbrev behind_places : Fields → List FieldValue → Option (List FieldValue)
behind_places [] fs = Some fs
behind_places (p ∷ ps) fs = option_and_then (behind_places ps) (behind_place p.0 p.1 fs)

and-then-same : (f g : List FieldValue → Option (List FieldValue)) (o : Option (List FieldValue)) → ((fs : List FieldValue) → f fs ≡ g fs) → option_and_then f o ≡ option_and_then g o
and-then-same f g None h = refl
and-then-same f g (Some fs) h = h fs

and-then-next : (f g : List FieldValue → Option (List FieldValue)) (o : Option (List FieldValue)) → option_and_then (λ fs. option_and_then g (f fs)) o ≡ option_and_then g (option_and_then f o)
and-then-next f g None = refl
and-then-next f g (Some fs) = refl

behind-append : (ps qs : Fields) (fs : List FieldValue) → behind_places (ps ++ qs) fs ≡ option_and_then (behind_places qs) (behind_places ps fs)
behind-append [] qs fs = refl
behind-append (p ∷ ps) qs fs =
    and-then-same (behind_places (ps ++ qs)) (λ gs. option_and_then (behind_places qs) (behind_places ps gs)) (behind_place p.0 p.1 fs) (behind-append ps qs)
    ∙ and-then-next (behind_places ps) (behind_places qs) (behind_place p.0 p.1 fs)

module _ (space : Space) (full : Full) where
  abbrev of_csr : CsrBody → List Placed → Fields
  of_csr c ps = map (λ p. (c, p)) ps

  next-field : (c : CsrBody) (o : Option Placed) (xs : List FieldBodies) (fs : List FieldValue)
      → ((gs : List FieldValue) → behind_fields space full c xs gs ≡ behind_places (of_csr c (filter_map (placed space full) xs)) gs)
      → option_and_then (behind_fields space full c xs) (behind c o fs) ≡ behind_places (of_csr c (cons_option o (filter_map (placed space full) xs))) fs
  next-field c None xs fs rest = rest fs
  next-field c (Some p) xs fs rest = and-then-same (behind_fields space full c xs) (behind_places (of_csr c (filter_map (placed space full) xs))) (behind_place c p fs) rest

  fields-same : (c : CsrBody) (xs : List FieldBodies) (fs : List FieldValue) → behind_fields space full c xs fs ≡ behind_places (of_csr c (filter_map (placed space full) xs)) fs
  fields-same c [] fs = refl
  fields-same c (x ∷ xs) fs = next-field c (placed space full x) xs fs (fields-same c xs)

  present-same : (b : Bool) (c : CsrBody) (fs : List FieldValue)
      → (if b then behind_fields space full c c.fields fs else Some fs) ≡ behind_places (of_csr c (if b then filter_map (placed space full) c.fields else [])) fs
  present-same true c fs = fields-same c c.fields fs
  present-same false c fs = refl

  csr-same : (c : CsrBody) (fs : List FieldValue) → behind_csr space full c fs ≡ behind_places (of_csr c (layout space full c)) fs
  unfolding layout
  csr-same c fs = present-same (holds space full c.present) c fs

  csrs-same : (cs : List CsrBody) (fs : List FieldValue) → behind_csrs space full cs fs ≡ behind_places (flat_map (λ c. of_csr c (layout space full c)) cs) fs
  csrs-same [] fs = refl
  csrs-same (c ∷ cs) fs =
      let rest : Fields = flat_map (λ d. of_csr d (layout space full d)) cs in
      ap (option_and_then (behind_csrs space full cs)) (csr-same c fs)
      ∙ and-then-same (behind_csrs space full cs) (behind_places rest) (behind_places (of_csr c (layout space full c)) fs) (csrs-same cs)
      ∙ sym (behind-append (of_csr c (layout space full c)) rest fs)

-- ---- values of fields

field-decides : (c : CsrBody) (f : FieldValue) (p : Placed) → Decides (fits_field c.name p.field.name p.bits f) (HoldsField c f p)
field-decides c f p =
    let all = Decides-and (same_bytes f.csr c.name) (same_bytes f.field p.field.name && nat_lt f.number (2 ^ part_width p.bits)) (bytes_decides f.csr c.name)
    (Decides-and (same_bytes f.field p.field.name) (nat_lt f.number (2 ^ part_width p.bits)) (bytes_decides f.field p.field.name) (Decides-ltb f.number (2 ^ part_width p.bits))) in (
      λ e. (let h = all.0 e in (h.0, h.1.0, h.1.1)),
      λ h. all.1 (h.0, (h.1, h.2)),
    )

one-more : {P Q : Type 0} (b : Bool) (ps : Fields) (fs : List FieldValue) → Decides b P → Decides (is_nothing_left (behind_places ps fs)) Q
    → Decides (is_nothing_left (option_and_then (behind_places ps) (if b then Some fs else None))) (P × Q)
one-more true ps fs here rest = (λ e. (here.0 refl, rest.0 e), λ h. rest.1 h.1)
one-more false ps fs here rest = (λ e. absurd (false≢true e), λ h. absurd (false≢true (here.1 h.0)))

values-decide : (ps : Fields) (fs : List FieldValue) → Decides (is_nothing_left (behind_places ps fs)) (HoldFields fs ps)
values-decide [] [] = (λ _. tt, λ _. refl)
values-decide [] (f ∷ fs) = (λ e. absurd (false≢true e), λ h. absurd h)
values-decide (p ∷ ps) [] = (λ e. absurd (false≢true e), λ h. absurd h)
values-decide (p ∷ ps) (f ∷ fs) = one-more (fits_field p.0.name p.1.field.name p.1.bits f) ps fs (field-decides p.0 f p.1) (values-decide ps fs)

fields-decide : (space : Space) (full : Full) (program : Program) (fs : List FieldValue) → Decides (are_fields space full program fs) (HoldFields fs (present_fields space full program))
fields-decide space full program fs =
    subst (λ o. Decides (is_nothing_left o) (HoldFields fs (present_fields space full program))) (sym (csrs-same space full program.csrs fs))
    (values-decide (present_fields space full program) fs)

-- ---- states

registers-decide : (bits : ℕ) (xs : List ℕ) → Decides (list_all (is_below_power bits) xs) (All (λ n. n < 2 ^ bits) xs)
registers-decide bits = Decides-by_and (is_below_power bits) (λ n. n < 2 ^ bits) (list_all (is_below_power bits)) (λ n. Decides-ltb n (2 ^ bits)) refl (λ _ _. refl)

pub state-decides : (space : Space) (full : Full) (program : Program) (s : State)
    → length s.x ≡ 32 → s.word < 2 ^ 32 → length s.ram ≤ 65536 → All (λ b. b < 256) s.ram → Decides (fits space full program s) (IsState space full program s)
state-decides space full program s count word room ram =
    let n : ℕ = mxlen space full in
    let all = Decides-and (nat_eq (slice_index s.x 0) 0) (list_all (is_below_power n) s.x && (nat_lt s.pc (2 ^ n) && (nat_lt s.next (2 ^ n) && are_fields space full program s.fields))) (Decides-eqb (slice_index s.x 0) 0)
    (Decides-and (list_all (is_below_power n) s.x) (nat_lt s.pc (2 ^ n) && (nat_lt s.next (2 ^ n) && are_fields space full program s.fields)) (registers-decide n s.x)
    (Decides-and (nat_lt s.pc (2 ^ n)) (nat_lt s.next (2 ^ n) && are_fields space full program s.fields) (Decides-ltb s.pc (2 ^ n))
    (Decides-and (nat_lt s.next (2 ^ n)) (are_fields space full program s.fields) (Decides-ltb s.next (2 ^ n)) (fields-decide space full program s.fields)))) in (
      λ e. (let h = all.0 e in record { registers = count; in_range = h.1.0; zero_register = h.0; pc = h.1.1.0; next = h.1.1.1.0; word = word; fields = h.1.1.1.1; room = room; ram = ram }),
      λ h. all.1 (h.zero_register, (h.in_range, (h.pc, (h.next, h.fields)))),
    )
