-- The fields of a state at reset.
use Rattle.std.proofs.Common.{◌≡◌, ◌≢◌, ◌<◌, ◌^◌, ◌%◌, ◌+◌, ℕ, suc, Bool, true, false, List, [], ◌∷◌, ◌++◌, Option, None, Some, length, get_or, take, refl, sym, ap, subst, ◌∙◌, arith}
use Rattle.std.specs.Prelude.{map, filter_map, flat_map, option_map, option_and_then, slice_get, slice_index, replicate, All, ◌≤◌, if◌then◌else◌}
use Rattle.std.proofs.lemmas.List.Elements.{All-replicate}
use Rattle.std.specs.List.{cons_option}
use Rattle.std.proofs.Math.Nat.{mod-lt}
use Rattle.std.proofs.lemmas.Nat.{pow_pos}
use Rattle.std.proofs.lemmas.Grind.{flat_map-append, take_at_read}
use Rattle.std.proofs.lemmas.List.{append-nil, append_assoc}
use Rattle.udb_base.specs.declared.spaces.Space.{Space}
use Rattle.udb_base.specs.declared.spaces.Full.{Full}
use Rattle.udb_spec.specs.Conditions.{holds}
use Rattle.udb_spec.specs.Spaces.{mxlen}
use Rattle.idl_bits.specs.Number.{extension}
use Rattle.idl_bits.proofs.Modulo.{pattern_of-lt}
use Rattle.idl_tree.specs.declared.programs.BitPart.{BitPart}
use Rattle.idl_tree.specs.declared.programs.CsrBody.{CsrBody}
use Rattle.idl_tree.specs.declared.programs.FieldBodies.{FieldBodies}
use Rattle.idl_tree.specs.declared.programs.ResetValue.{ResetValue}
use Rattle.idl_tree.specs.declared.programs.ResetValue.TheVariants as reset
use Rattle.idl_tree.specs.declared.programs.Program.{Program}
use Rattle.idl_spec.specs.Harts.{FieldValue}
use Rattle.idl_spec.specs.Values.{Value, bits, flag, member, given_text, written_text}
use Rattle.idl_spec.specs.Fields.{Placed, placed, place_for, part_width, layout}
use Rattle.idl_spec.specs.Programs.{reset_number, reset_field, value_at_reset, brought_to_field, field_result, blank_state, HoldFields, IsState, present_fields, reset_state}
use Rattle.idl_mean.specs.Evaluators.{reset_at}
use Rattle.udb_csr.specs.Resets.{HaveNumbers, one_value, number_in, values_at}

module _ (space : Space) (full : Full) (program : Program) where
  -- ---- places

  pub at-places : (place at : ℕ) (c : CsrBody) (f : FieldBodies) → slice_get program.csrs place ≡ Some c → slice_get c.fields at ≡ Some f
      → reset_at space full program place at ≡ number_in space full program c f
  at-places place at c f has named =
      ap (λ (o : Option CsrBody). option_and_then (reset_number space full program)
      (option_and_then (λ d. if holds space full d.present then option_and_then (placed space full) (slice_get d.fields at) else None) o)) has
      ∙ ap (λ (o : Option FieldBodies). option_and_then (reset_number space full program) (if holds space full c.present then option_and_then (placed space full) o else None)) named
      ∙ by-present (holds space full c.present) where
        by-present : (b : Bool) → option_and_then (reset_number space full program) (if b then placed space full f else None) ≡ (if b then option_and_then (reset_number space full program) (placed space full f) else None)
        by-present true = refl
        by-present false = refl

  -- ---- the fields of a CSR

  placed-field : (f : FieldBodies) (p : Placed) → placed space full f ≡ Some p → p.field ≡ f
  placed-field f p h = by-present (holds space full f.present) h where
    by-place : (o : Option BitPart) → option_map (λ part. record { field = f; bits = part }) o ≡ Some p → p.field ≡ f
    by-place None h = absurd (cc)
    by-place (Some part) h = cc

    by-present : (b : Bool) → (if b then option_map (λ part. record { field = f; bits = part }) (place_for (mxlen space full) f.places) else None) ≡ Some p → p.field ≡ f
    by-present true h = by-place (place_for (mxlen space full) f.places) h
    by-present false h = absurd (cc)

  module _ (c : CsrBody) where
    value-of : (f : FieldBodies) (vs : List FieldValue)
        → one_value c.name f.name (option_and_then (reset_number space full program) (placed space full f)) ++ vs
        ≡ elim (placed space full f) [ None ↦ vs | Some p ↦ cons_option (reset_field space full program c.name p) vs ]
    value-of f vs = by-place (placed space full f) (placed-field f) where
      by-number : (p : Placed) (n : Option ℕ) → p.field ≡ f
          → one_value c.name f.name n ++ vs ≡ cons_option (option_map (λ m. record { csr = c.name; field = p.field.name; number = m }) n) vs
      by-number p None is = refl
      by-number p (Some n) is = ap (λ (g : FieldBodies). record { csr = c.name; field = g.name; number = n } ∷ vs) (sym is)

      by-place : (o : Option Placed) → ((p : Placed) → o ≡ Some p → p.field ≡ f)
          → one_value c.name f.name (option_and_then (reset_number space full program) o) ++ vs
          ≡ elim o [ None ↦ vs | Some p ↦ cons_option (reset_field space full program c.name p) vs ]
      by-place None is = refl
      by-place (Some p) is = by-number p (reset_number space full program p) (is p refl)

    behind-placed : (o : Option Placed) (ps : List Placed)
        → filter_map (reset_field space full program c.name) (cons_option o ps)
        ≡ elim o [ None ↦ filter_map (reset_field space full program c.name) ps | Some p ↦ cons_option (reset_field space full program c.name p) (filter_map (reset_field space full program c.name) ps) ]
    behind-placed None ps = refl
    behind-placed (Some p) ps = refl

    there : (fs : List FieldBodies)
        → flat_map (λ f. one_value c.name f.name (option_and_then (reset_number space full program) (placed space full f))) fs
        ≡ filter_map (reset_field space full program c.name) (filter_map (placed space full) fs)
    there [] = refl
    there (f ∷ fs) =
        ap (λ vs. one_value c.name f.name (option_and_then (reset_number space full program) (placed space full f)) ++ vs) (there fs)
        ∙ value-of f (filter_map (reset_field space full program c.name) (filter_map (placed space full) fs))
        ∙ sym (behind-placed (placed space full f) (filter_map (placed space full) fs))

    away : (fs : List FieldBodies) → flat_map (λ (f : FieldBodies). one_value c.name f.name None) fs ≡ []
    away [] = refl
    away (f ∷ fs) = away fs

    by-csr : (b : Bool)
        → flat_map (λ f. one_value c.name f.name (if b then option_and_then (reset_number space full program) (placed space full f) else None)) c.fields
        ≡ filter_map (reset_field space full program c.name) (if b then filter_map (placed space full) c.fields else [])
    by-csr true = there c.fields
    by-csr false = away c.fields

    pub fields-at-reset : flat_map (values_at space full program c) c.fields ≡ filter_map (reset_field space full program c.name) (layout space full c)
    unfolding layout
    fields-at-reset = by-csr (holds space full c.present)

  -- ---- numbers in range

  by-value : (p : Placed) (n : ℕ) (v : Value) → brought_to_field p v ≡ Some n → n < 2 ^ part_width p.bits
  by-value p n (bits v) e =
      let same : extension (part_width p.bits) v ≡ n = cc in subst (λ (m : ℕ). m < 2 ^ part_width p.bits) same (pattern_of-lt _ _)
  by-value p n (flag x) e = absurd (cc)
  by-value p n (member k m) e = absurd (cc)
  by-value p n (given_text x) e = absurd (cc)
  by-value p n (written_text x) e = absurd (cc)

  by-result : (p : Placed) (n : ℕ) (o : Option Value) → option_and_then (brought_to_field p) o ≡ Some n → n < 2 ^ part_width p.bits
  by-result p n None e = absurd (cc)
  by-result p n (Some v) e = by-value p n v e

  by-reset : (p : Placed) (n : ℕ) (r : ResetValue) → value_at_reset space full program p r ≡ Some n → n < 2 ^ part_width p.bits
  by-reset p n (reset.Plain m) e =
      let same : m % 2 ^ part_width p.bits ≡ n = cc in subst (λ (k : ℕ). k < 2 ^ part_width p.bits) same (mod-lt m (pow_pos (part_width p.bits)))
  by-reset p n (reset.Computed body) e = by-result p n (field_result space full program None body blank_state) e

  in-range : (p : Placed) (n : ℕ) → reset_number space full program p ≡ Some n → n < 2 ^ part_width p.bits
  unfolding reset_number
  in-range p n e = by-reset p n p.field.reset e

  -- ---- states

  each-field : (c : CsrBody) (ps : List Placed) → All (λ p. reset_number space full program p ≢ None) ps
      → HoldFields (filter_map (reset_field space full program c.name) ps) (map (λ p. (c, p)) ps)
  each-field c [] all = tt
  each-field c (p ∷ ps) all = by-number (reset_number space full program p) (all 0 p (omega arith)) (in-range p) (each-field c ps (λ k q lt. all (suc k) q (omega (arith, lt)))) where
    by-number : (o : Option ℕ) → o ≢ None → ((n : ℕ) → o ≡ Some n → n < 2 ^ part_width p.bits)
        → HoldFields (filter_map (reset_field space full program c.name) ps) (map (λ q. (c, q)) ps)
        → HoldFields (cons_option (option_map (λ n. record { csr = c.name; field = p.field.name; number = n }) o) (filter_map (reset_field space full program c.name) ps)) ((c, p) ∷ map (λ q. (c, q)) ps)
    by-number None some small rest = absurd (some refl)
    by-number (Some n) some small rest = ((refl, refl, small n refl), rest)

  append-fields : (fs gs : List FieldValue) (ps qs : List (CsrBody × Placed)) → HoldFields fs ps → HoldFields gs qs → HoldFields (fs ++ gs) (ps ++ qs)
  append-fields [] gs [] qs h k = k
  append-fields [] gs (p ∷ ps) qs h k = absurd h
  append-fields (f ∷ fs) gs [] qs h k = absurd h
  append-fields (f ∷ fs) gs (p ∷ ps) qs h k = (h.0, append-fields fs gs ps qs h.1 k)

  pub all-fields : (cs : List CsrBody) → All (λ c. All (λ p. reset_number space full program p ≢ None) (layout space full c)) cs
      → HoldFields (flat_map (λ c. filter_map (reset_field space full program c.name) (layout space full c)) cs) (flat_map (λ c. map (λ p. (c, p)) (layout space full c)) cs)
  all-fields [] all = tt
  all-fields (c ∷ cs) all =
      append-fields (filter_map (reset_field space full program c.name) (layout space full c)) (flat_map (λ d. filter_map (reset_field space full program d.name) (layout space full d)) cs)
      (map (λ p. (c, p)) (layout space full c)) (flat_map (λ d. map (λ p. (d, p)) (layout space full d)) cs)
      (each-field c (layout space full c) (all 0 c (omega arith))) (all-fields cs (λ k q lt. all (suc k) q (omega (arith, lt))))

-- ---- turns of loops

pub one-more : {X Y : Type 0} (f : X → List Y) (xs : List X) (i : ℕ) (x : X) (old now new : List Y) → i < length xs → x ≡ get_or xs i x
    → now ≡ old ++ flat_map f (take i xs) → new ≡ now ++ f x → new ≡ old ++ flat_map f (take (i + 1) xs)
one-more f xs i x old now new lt is before step =
    step ∙ ap (λ ys. ys ++ f x) before ∙ append_assoc old (flat_map f (take i xs)) (f x)
    ∙ ap (λ ys. old ++ ys)
    (ap (λ ys. flat_map f (take i xs) ++ ys) (sym (append-nil (f x))) ∙ sym (flat_map-append f (take i xs) (x ∷ []))
    ∙ ap (λ z. flat_map f (take i xs ++ z ∷ [])) is ∙ ap (flat_map f) (sym (take_at_read xs i x lt).1))

-- ---- the state

module _ (space : Space) (full : Full) (program : Program) where
  pub is-reset : (x : List ℕ) (fields : List FieldValue) (ram : List ℕ) → x ≡ replicate 32 0
      → fields ≡ flat_map (λ c. filter_map (reset_field space full program c.name) (layout space full c)) program.csrs
      → record { x = x; pc = 0; next = 0; word = 0; fields = fields; ram = ram } ≡ reset_state space full program ram
  unfolding reset_state
  is-reset x fields ram hx hf = ap (λ y. record { x = y; pc = 0; next = 0; word = 0; fields = fields; ram = ram }) hx
      ∙ ap (λ fs. record { x = replicate 32 0; pc = 0; next = 0; word = 0; fields = fs; ram = ram }) hf

  pub is-state-at-reset : (x : List ℕ) (fields : List FieldValue) (ram : List ℕ) → x ≡ replicate 32 0
      → fields ≡ flat_map (λ c. filter_map (reset_field space full program c.name) (layout space full c)) program.csrs
      → length ram ≤ 65536 → All (λ b. b < 256) ram → HaveNumbers space full program
      → IsState space full program (record { x = x; pc = 0; next = 0; word = 0; fields = fields; ram = ram })
  is-state-at-reset x fields ram hx hf room bytes numbers = record {
    registers = ap length hx ∙ refl;
    in_range = subst (All (λ n. n < 2 ^ mxlen space full)) (sym hx) (All-replicate (λ n. n < 2 ^ mxlen space full) 32 0 (pow_pos (mxlen space full)));
    zero_register = ap (λ y. slice_index y 0) hx ∙ refl;
    pc = pow_pos (mxlen space full);
    next = pow_pos (mxlen space full);
    word = pow_pos 32;
    fields = subst (λ fs. HoldFields fs (present_fields space full program)) (sym hf) (all-fields space full program program.csrs numbers);
    room = room;
    ram = bytes;
  }
