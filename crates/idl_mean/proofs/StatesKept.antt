-- The width of a register, and states of a full configuration beside sound ones.
use Rattle.std.proofs.Common.{◌≡◌, ◌⊎◌, inl, ℕ, suc, ◌<◌, ◌^◌, Bool, true, false, cond, List, [], ◌∷◌, map, length, get_or, Option, None, Some, refl, sym, ap, ◌∙◌, subst, arith}
use Rattle.std.specs.Prelude.{All, Contains, filter_map, flat_map, codes}
use Rattle.std.specs.List.{AllZip, cons_option}
use Rattle.std.specs.Cmp.Lexicographic.{bytes_decides}
use Rattle.std.proofs.lemmas.List.Elements.{All-nil, All-cons, All-head, All-tail, All-append, All-map}
use Rattle.udb_base.specs.declared.conditions.Value.{Value}
use Rattle.udb_base.specs.declared.conditions.Value.TheVariants as v
use Rattle.udb_base.specs.declared.spaces.Domain.{Domain}
use Rattle.udb_base.specs.declared.spaces.Domain.TheVariants as d
use Rattle.udb_base.specs.declared.spaces.ParamSpace.{ParamSpace}
use Rattle.udb_base.specs.declared.spaces.Space.{Space}
use Rattle.udb_base.specs.declared.spaces.Full.{Full}
use Rattle.udb_spec.specs.Conditions.{holds, same_bytes, value_among}
use Rattle.udb_spec.specs.Lawful.{Lawful, IsLawfulParam, ListsWidths}
use Rattle.udb_spec.specs.Spaces.{Valid, IsValue, InDomain, number_or, mxlen}
use Rattle.idl_tree.specs.declared.programs.FieldBodies.{FieldBodies}
use Rattle.idl_tree.specs.declared.programs.CsrBody.{CsrBody}
use Rattle.idl_tree.specs.declared.programs.Program.{Program}
use Rattle.idl_spec.specs.Harts.{FieldValue, State}
use Rattle.idl_spec.specs.Fields.{Placed, placed, part_width, layout, present_field}
use Rattle.idl_spec.specs.Programs.{IsState, HoldsField, HoldFields, present_fields}
use Rattle.idl_forms.specs.Ready.{IsLawfulProgram, IsSound, InField, field_names}
use Rattle.idl_forms.proofs.PresentFields.{contains-all}
use Rattle.idl_mean.proofs.FieldWrites.{present-at, placed-field}

-- ---- the width of a register

abbrev IsWidth : ℕ → Type 0
IsWidth n = (n ≡ 32) ⊎ (n ≡ 64)

listed-width : (domain : Domain) (x : Value) → ListsWidths domain → InDomain domain x → IsWidth (number_or 32 (Some x))
listed-width (d.Numbers ns) (v.Number n) h k = contains-all IsWidth ns n h k
listed-width (d.Numbers ns) (v.Flag b) h k = absurd k
listed-width (d.Numbers ns) (v.Word w) h k = absurd k
listed-width d.Flags x h k = absurd h
listed-width (d.Range low high) x h k = absurd h
listed-width (d.Words ws) x h k = absurd h

width-or : (t : Bool) (name : List ℕ) (domain : Domain) (x : Value) (rest : Option Value) → same_bytes name (codes "MXLEN") ≡ t
    → (name ≡ codes "MXLEN" → ListsWidths domain) → InDomain domain x → IsWidth (number_or 32 rest) → IsWidth (number_or 32 (cond t (Some x) rest))
width-or true name domain x rest e h k more = listed-width domain x (h ((bytes_decides name (codes "MXLEN")).0 e)) k
width-or false name domain x rest e h k more = more

width-among : (space : Space) (full : Full) (ps : List ParamSpace) (xs : List Value) → All (IsLawfulParam space) ps → AllZip (IsValue space full) ps xs
    → IsWidth (number_or 32 (value_among ps xs (codes "MXLEN")))
width-among space full [] xs h k = inl refl
width-among space full (p ∷ ps) [] h k = absurd k
width-among space full (p ∷ ps) (x ∷ xs) h k =
    width-or (same_bytes p.name (codes "MXLEN")) p.name p.domain x (value_among ps xs (codes "MXLEN")) refl
    (All-head (IsLawfulParam space) p ps h).widths k.0.in_domain
    (width-among space full ps xs (All-tail (IsLawfulParam space) p ps h) k.1)

-- 32 or 64 in each valid full configuration of a lawful space
pub register-width : (space : Space) (full : Full) → Lawful space → Valid space full → (mxlen space full ≡ 32) ⊎ (mxlen space full ≡ 64)
register-width space full lawful valid = width-among space full space.params full.params lawful.params valid.values

-- ---- the present fields are found by their names

module _ (space : Space) (full : Full) (program : Program) (lawful : IsLawfulProgram program) where
  abbrev IsNamed : CsrBody × Placed → Type 0
  IsNamed q = present_field space full program q.0.name q.1.field.name ≡ Some q.1

  with-field : (c : CsrBody) (i : ℕ) (f : FieldBodies) (p : Placed) → Contains program.csrs c → holds space full c.present ≡ true → i < length c.fields → f ≡ get_or c.fields i f
      → placed space full f ≡ Some p → IsNamed (c, p)
  with-field c i f p has there l e h =
      let at = present-at space full program c i f p lawful has there l e h in
      subst (λ (g : FieldBodies). present_field space full program c.name g.name ≡ Some p) (sym (placed-field space full f p h).0) at.0

  optional : (c : CsrBody) (o : Option Placed) (ps : List Placed) → ((p : Placed) → o ≡ Some p → IsNamed (c, p)) → All (λ p. IsNamed (c, p)) ps → All (λ p. IsNamed (c, p)) (cons_option o ps)
  optional c None ps h all = all
  optional c (Some p) ps h all = All-cons (λ q. IsNamed (c, q)) p ps (h p refl) all

  from-fields : (c : CsrBody) → Contains program.csrs c → holds space full c.present ≡ true → (fields : List FieldBodies) → ((f : FieldBodies) → Contains fields f → Contains c.fields f)
      → All (λ p. IsNamed (c, p)) (filter_map (placed space full) fields)
  from-fields c has there [] h = All-nil (λ p. IsNamed (c, p))
  from-fields c has there (f ∷ fs) h =
      let in-csr : Contains c.fields f = h f (0, omega arith, refl) in
      optional c (placed space full f) (filter_map (placed space full) fs)
      (λ p e. with-field c in-csr.0 f p has there in-csr.1 (sym in-csr.2) e)
      (from-fields c has there fs (λ g m. h g (suc m.0, omega (arith, m.1), m.2)))

  of-layout : (c : CsrBody) (t : Bool) → Contains program.csrs c → holds space full c.present ≡ t
      → All (λ p. IsNamed (c, p)) (cond t (filter_map (placed space full) c.fields) [])
  of-layout c true has e = from-fields c has e c.fields (λ f m. m)
  of-layout c false has e = All-nil (λ p. IsNamed (c, p))

  in-layout : (c : CsrBody) → Contains program.csrs c → All (λ p. IsNamed (c, p)) (layout space full c)
  unfolding layout
  in-layout c has = of-layout c (holds space full c.present) has refl

  from-csrs : (csrs : List CsrBody) → ((c : CsrBody) → Contains csrs c → Contains program.csrs c)
      → All IsNamed (flat_map (λ c. map (λ p. (c, p)) (layout space full c)) csrs)
  from-csrs [] h = All-nil IsNamed
  from-csrs (c ∷ cs) h =
      All-append IsNamed (map (λ p. (c, p)) (layout space full c)) (flat_map (λ x. map (λ p. (x, p)) (layout space full x)) cs)
      (All-map IsNamed (λ p. (c, p)) (layout space full c) (in-layout c (h c (0, omega arith, refl))))
      (from-csrs cs (λ x m. h x (suc m.0, omega (arith, m.1), m.2)))

  all-named : All IsNamed (present_fields space full program)
  all-named = from-csrs program.csrs (λ c m. m)

  -- ---- states

  in-field : (f : FieldValue) (q : CsrBody × Placed) → IsNamed q → HoldsField q.0 f q.1 → InField space full program f
  in-field f q named h = λ p e.
      let found : present_field space full program q.0.name q.1.field.name ≡ Some p = rw (sym h.0, sym h.1) e in
      let same : q.1 ≡ p = cc in
      subst (λ (x : Placed). f.number < 2 ^ part_width x.bits) same h.2

  all-in-field : (fs : List FieldValue) (qs : List (CsrBody × Placed)) → All IsNamed qs → HoldFields fs qs → All (InField space full program) fs
  all-in-field [] qs named h = All-nil (InField space full program)
  all-in-field (f ∷ fs) [] named h = absurd h
  all-in-field (f ∷ fs) (q ∷ qs) named h =
      All-cons (InField space full program) f fs (in-field f q (All-head IsNamed q qs named) h.0) (all-in-field fs qs (All-tail IsNamed q qs named) h.1)

  pub state-sound : (s : State) → IsState space full program s → IsSound space full program s
  state-sound s h = record {
    registers = h.registers;
    in_range = h.in_range;
    zero_register = h.zero_register;
    pc = h.pc;
    next = h.next;
    word = h.word;
    fields = all-in-field s.fields (present_fields space full program) all-named h.fields;
    room = h.room;
    ram = h.ram;
  }

  abbrev names-in : FieldValue → List ℕ × List ℕ
  names-in f = (f.csr, f.field)

  held : (f g : FieldValue) (q : CsrBody × Placed) → IsNamed q → names-in f ≡ names-in g → HoldsField q.0 g q.1 → InField space full program f → HoldsField q.0 f q.1
  held f g q named e h in-range =
      let csr : f.csr ≡ q.0.name = ap (λ (x : List ℕ × List ℕ). x.0) e ∙ h.0 in
      let field : f.field ≡ q.1.field.name = ap (λ (x : List ℕ × List ℕ). x.1) e ∙ h.1 in
      (csr, field, in-range q.1 (rw (csr, field) named))

  all-held : (fs gs : List FieldValue) (qs : List (CsrBody × Placed)) → All IsNamed qs → field_names fs ≡ field_names gs → HoldFields gs qs → All (InField space full program) fs → HoldFields fs qs
  all-held [] [] qs named e h in-range = h
  all-held [] (g ∷ gs) qs named e h in-range = absurd (cc)
  all-held (f ∷ fs) [] qs named e h in-range = absurd (cc)
  all-held (f ∷ fs) (g ∷ gs) [] named e h in-range = absurd h
  all-held (f ∷ fs) (g ∷ gs) (q ∷ qs) named e h in-range =
      let first : names-in f ≡ names-in g = cc in
      let more : field_names fs ≡ field_names gs = cc in (
        held f g q (All-head IsNamed q qs named) first h.0 (All-head (InField space full program) f fs in-range),
        all-held fs gs qs (All-tail IsNamed q qs named) more h.1 (All-tail (InField space full program) f fs in-range),
      )

  pub state-kept : (s t : State) → IsState space full program s → IsSound space full program t → field_names t.fields ≡ field_names s.fields → IsState space full program t
  state-kept s t h k e = record {
    registers = k.registers;
    in_range = k.in_range;
    zero_register = k.zero_register;
    pc = k.pc;
    next = k.next;
    word = k.word;
    fields = all-held t.fields s.fields (present_fields space full program) all-named e h.fields k.fields;
    room = k.room;
    ram = k.ram;
  }
