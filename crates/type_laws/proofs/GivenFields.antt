-- What a state and `$bits` give a field that is present: a number, and the field's bits.
use Rattle.std.proofs.Common.{◌≡◌, ◌≢◌, ◌++◌, ◌⊎◌, ◌&&◌, ◌||◌, cond, ℕ, Bool, true, false, List, [], ◌∷◌, map, Option, None, Some, All, refl, sym, ap, ◌∙◌, subst}
use Rattle.std.specs.Prelude.{AllPairs, filter_map, flat_map, find, is_some, option_map, option_and_then, if◌then◌else◌}
use Rattle.std.specs.List.{cons_option, list_any}
use Rattle.std.specs.Cmp.Lexicographic.{bytes_decides}
use Rattle.std.proofs.lemmas.Bool.{false≢true}
use Rattle.std.proofs.lemmas.Option.{none-some}
use Rattle.std.proofs.lemmas.List.Elements.{All-head, All-tail}
use Rattle.std.proofs.lemmas.List.Folds.{list_any-append}
use Rattle.udb_base.specs.declared.names.Name.{Name}
use Rattle.udb_base.specs.declared.spaces.Space.{Space}
use Rattle.udb_base.specs.declared.spaces.Full.{Full}
use Rattle.udb_spec.specs.Conditions.{same_bytes, holds}
use Rattle.udb_spec.specs.Spaces.{mxlen}
use Rattle.idl_tree.specs.declared.programs.BitPart.{BitPart}
use Rattle.idl_tree.specs.declared.programs.Variable.{Variable}
use Rattle.idl_tree.specs.declared.programs.FieldBodies.{FieldBodies}
use Rattle.idl_tree.specs.declared.programs.CsrBody.{CsrBody}
use Rattle.idl_tree.specs.declared.programs.Program.{Program}
use Rattle.idl_width.specs.declared.scopes.BitsOf.{BitsOf}
use Rattle.idl_width.specs.Numbers.{bits_for, bits_among}
use Rattle.idl_forms.specs.Ready.{IsLawfulProgram}
use Rattle.idl_spec.specs.Harts.{State, FieldValue, is_field, field_number}
use Rattle.idl_spec.specs.Fields.{Placed, part_width, place_for, placed, layout, csr_named, placed_named, present_field, variable_bits, width_or_none, field_bits, bits_scope}
use Rattle.idl_spec.specs.Programs.{HoldFields, present_fields, IsState}
use Rattle.type_laws.specs.Worlds.{HasNumber}
use Rattle.type_laws.proofs.Outcomes.{same_some}
use Rattle.type_laws.proofs.GivenParams.{found_passes}
use Rattle.type_laws.proofs.GivenBits.{pairs_first, pairs_rest, at_width, past_variables}

module _ (space : Space) (full : Full) where
  -- a field that is present, with its place
  pub record IsPlaced (f : FieldBodies) (p : Placed) : Type 0 where
    pub field : p.field ≡ f
    pub bits : place_for (mxlen space full) f.places ≡ Some p.bits

  is_placed : (f : FieldBodies) (p : Placed) → placed space full f ≡ Some p → IsPlaced f p
  is_placed f p h = by_presence (holds space full f.present) h
    where
      by_place : (o : Option BitPart) → place_for (mxlen space full) f.places ≡ o → option_map (λ part. record { field = f; bits = part }) o ≡ Some p → IsPlaced f p
      by_place None is k = absurd (none-some p k)
      by_place (Some part) is k =
          let same : record { field = f; bits = part } ≡ p = same_some k in
          record { field = sym (ap (λ (q : Placed). q.field) same); bits = is ∙ ap (λ (q : Placed). Some q.bits) same }

      by_presence : (b : Bool) → (if b then option_map (λ part. record { field = f; bits = part }) (place_for (mxlen space full) f.places) else None) ≡ Some p → IsPlaced f p
      by_presence true k = by_place (place_for (mxlen space full) f.places) refl k
      by_presence false k = absurd (none-some p k)

  abbrev places_of : List FieldBodies → List Placed
  places_of fs = filter_map (placed space full) fs

  -- a placed field of another name is passed over
  past_placed : (f : FieldBodies) (fs : List FieldBodies) (name : List ℕ) → same_bytes f.name name ≡ false → placed_named (places_of (f ∷ fs)) name ≡ placed_named (places_of fs) name
  past_placed f fs name other = at (placed space full f) refl
    where
      at : (o : Option Placed) → placed space full f ≡ o → placed_named (cons_option o (places_of fs)) name ≡ placed_named (places_of fs) name
      at None is = refl
      at (Some q) is =
          let test : same_bytes q.field.name name ≡ false = ap (λ g. same_bytes g.name name) (is_placed f q is).field ∙ other in
          ap (λ b. cond b (Some q) (placed_named (places_of fs) name)) test

  abbrev Apart : FieldBodies → FieldBodies → Type 0
  Apart a b = a.name ≢ b.name

  none_named : (f : FieldBodies) (name : List ℕ) → same_bytes f.name name ≡ true → (fs : List FieldBodies) → All (Apart f) fs → placed_named (places_of fs) name ≡ None
  none_named f name is [] apart = refl
  none_named f name is (g ∷ gs) apart =
      past_placed g gs name (other (same_bytes g.name name) refl) ∙ none_named f name is gs (All-tail (Apart f) g gs apart)
    where
      other : (b : Bool) → same_bytes g.name name ≡ b → b ≡ false
      other true same = absurd (All-head (Apart f) g gs apart ((bytes_decides f.name name).0 is ∙ sym ((bytes_decides g.name name).0 same)))
      other false same = refl

  -- ---- the bits of a present field

  module _ (wide : (mxlen space full ≡ 32) ⊎ (mxlen space full ≡ 64)) where
    field_width : (csr : Name) (f : FieldBodies) (p : Placed) → IsPlaced f p → bits_for (mxlen space full) (field_bits csr f) ≡ part_width p.bits
    field_width csr f p at = at_width (mxlen space full) wide (λ n. width_or_none (place_for n f.places)) ∙ ap width_or_none at.bits

    abbrev counted : Name → Name → List ℕ → List FieldBodies → List BitsOf → ℕ
    counted c csr name fs rest = bits_among (mxlen space full) (map (field_bits c) fs ++ rest) (Some csr) name

    -- the first field of a name is the one that is present
    fields_count : (c csr : Name) (name : List ℕ) → same_bytes c csr ≡ true → (fs : List FieldBodies) → AllPairs Apart fs → (p : Placed) → placed_named (places_of fs) name ≡ Some p
        → (rest : List BitsOf) → counted c csr name fs rest ≡ part_width p.bits
    fields_count c csr name is [] apart p h rest = absurd (none-some p h)
    fields_count c csr name is (f ∷ fs) apart p h rest =
        ap (λ b. if (b && same_bytes f.name name) then bits_for (mxlen space full) (field_bits c f) else counted c csr name fs rest) is
        ∙ by_name (same_bytes f.name name) refl (λ k. fields_count c csr name is fs (pairs_rest Apart f fs apart) p k rest)
      where
        here : (o : Option Placed) → placed space full f ≡ o → same_bytes f.name name ≡ true → placed_named (cons_option o (places_of fs)) name ≡ Some p → bits_for (mxlen space full) (field_bits c f) ≡ part_width p.bits
        here None gone same k = absurd (none-some p (sym (none_named f name same fs (pairs_first Apart f fs apart)) ∙ k))
        here (Some q) there same k =
            let test : same_bytes q.field.name name ≡ true = ap (λ g. same_bytes g.name name) (is_placed f q there).field ∙ same in
            let found : q ≡ p = same_some (sym (ap (λ b. cond b (Some q) (placed_named (places_of fs) name)) test) ∙ k) in
            field_width c f p (is_placed f p (there ∙ ap Some found))

        by_name : (b : Bool) → same_bytes f.name name ≡ b → (placed_named (places_of fs) name ≡ Some p → counted c csr name fs rest ≡ part_width p.bits) → (if b then bits_for (mxlen space full) (field_bits c f) else counted c csr name fs rest) ≡ part_width p.bits
        by_name true same next = here (placed space full f) refl same h
        by_name false other next = next (sym (past_placed f fs name other) ∙ h)

-- ---- the CSR of a name

abbrev pub scopes_of : List CsrBody → List BitsOf
scopes_of cs = flat_map (λ c. map (field_bits c.name) c.fields) cs

module _ (r : ℕ) (csr : Name) (name : List ℕ) where
  past_csr : (c : Name) → same_bytes c csr ≡ false → (fs : List FieldBodies) (rest : List BitsOf) → bits_among r (map (field_bits c) fs ++ rest) (Some csr) name ≡ bits_among r rest (Some csr) name
  past_csr c other [] rest = refl
  past_csr c other (f ∷ fs) rest =
      ap (λ b. if (b && same_bytes f.name name) then bits_for r (field_bits c f) else bits_among r (map (field_bits c) fs ++ rest) (Some csr) name) other
      ∙ past_csr c other fs rest

  csrs_count : (c : CsrBody) (n : ℕ) → ((rest : List BitsOf) → bits_among r (map (field_bits c.name) c.fields ++ rest) (Some csr) name ≡ n) → (cs : List CsrBody) → csr_named cs csr ≡ Some c → bits_among r (scopes_of cs) (Some csr) name ≡ n
  csrs_count c n here [] h = absurd (none-some c h)
  csrs_count c n here (d ∷ ds) h = at (same_bytes d.name csr) refl h (csrs_count c n here ds)
    where
      at : (b : Bool) → same_bytes d.name csr ≡ b → cond b (Some d) (csr_named ds csr) ≡ Some c → (csr_named ds csr ≡ Some c → bits_among r (scopes_of ds) (Some csr) name ≡ n)
          → bits_among r (map (field_bits d.name) d.fields ++ scopes_of ds) (Some csr) name ≡ n
      at true is k next = subst (λ (x : CsrBody). bits_among r (map (field_bits x.name) x.fields ++ scopes_of ds) (Some csr) name ≡ n) (sym (same_some k)) (here (scopes_of ds))
      at false is k next = past_csr d.name is d.fields (scopes_of ds) ∙ next k

module _ (space : Space) (full : Full) (program : Program) (csr field : List ℕ) (p : Placed) where
  -- the CSR of a present field, among whose present fields it is
  pub record IsListed : Type 0 where
    pub owner : CsrBody
    pub named : csr_named program.csrs csr ≡ Some owner
    pub listed : placed_named (layout space full owner) field ≡ Some p

  listed_field : (o : Option CsrBody) → csr_named program.csrs csr ≡ o → option_and_then (λ c. placed_named (layout space full c) field) o ≡ Some p → IsListed
  listed_field None is k = absurd (none-some p k)
  listed_field (Some c) is k = record { owner = c; named = is; listed = k }

  is_listed : present_field space full program csr field ≡ Some p → IsListed
  unfolding present_field
  is_listed h = listed_field (csr_named program.csrs csr) refl h

among_placed : (space : Space) (full : Full) (c : CsrBody) (field : List ℕ) (p : Placed) (b : Bool) → placed_named (if b then filter_map (placed space full) c.fields else []) field ≡ Some p → placed_named (places_of space full c.fields) field ≡ Some p
among_placed space full c field p true h = h
among_placed space full c field p false h = absurd (none-some p h)

in_layout : (space : Space) (full : Full) (c : CsrBody) (field : List ℕ) (p : Placed) → placed_named (layout space full c) field ≡ Some p → placed_named (places_of space full c.fields) field ≡ Some p
unfolding layout
in_layout space full c field p h = among_placed space full c field p (holds space full c.present) h

pub scope_is : (program : Program) (variables : List Variable) → bits_scope program variables ≡ map (variable_bits variables) variables ++ scopes_of program.csrs
unfolding bits_scope
scope_is program variables = refl

-- `$bits` counts the bits of a present field
pub present_bits : (space : Space) (full : Full) (program : Program) (variables : List Variable) → IsLawfulProgram program → (mxlen space full ≡ 32) ⊎ (mxlen space full ≡ 64)
    → (csr field : List ℕ) (p : Placed) → present_field space full program csr field ≡ Some p → bits_among (mxlen space full) (bits_scope program variables) (Some csr) field ≡ part_width p.bits
present_bits space full program variables lawful wide csr field p h =
    let at = is_listed space full program csr field p h in
    let own = found_passes (λ c. AllPairs (λ a b. a.name ≢ b.name) c.fields) (λ c. same_bytes c.name csr) program.csrs at.owner lawful.fields at.named in
    ap (λ scope. bits_among (mxlen space full) scope (Some csr) field) (scope_is program variables)
    ∙ (past_variables (mxlen space full) wide variables field (scopes_of program.csrs) csr variables
    ∙ csrs_count (mxlen space full) csr field at.owner (part_width p.bits)
    (fields_count space full wide at.owner.name csr field own.1 at.owner.fields own.0 p (in_layout space full at.owner field p at.listed)) program.csrs at.named)

-- ---- the number of a present field

module _ (csr field : List ℕ) where
  abbrev is_it : CsrBody × Placed → Bool
  is_it q = same_bytes q.0.name csr && same_bytes q.1.field.name field

  held : (fs : List FieldValue) (ps : List (CsrBody × Placed)) → HoldFields fs ps → list_any is_it ps ≡ true → is_some (find (is_field csr field) fs) ≡ true
  held [] [] h k = absurd (false≢true k)
  held [] (p ∷ ps) h k = absurd h
  held (f ∷ fs) [] h k = absurd h
  held (f ∷ fs) (p ∷ ps) h k = at (is_it p) same k (held fs ps h.1)
    where
      same : is_field csr field f ≡ is_it p
      same = ap (λ n. same_bytes n csr && same_bytes f.field field) h.0.0 ∙ ap (λ n. same_bytes p.0.name csr && same_bytes n field) h.0.1

      at : (b : Bool) → is_field csr field f ≡ b → (b || list_any is_it ps) ≡ true → (list_any is_it ps ≡ true → is_some (find (is_field csr field) fs) ≡ true) → is_some (cond (is_field csr field f) (Some f) (find (is_field csr field) fs)) ≡ true
      at true is t next = ap (λ b. is_some (cond b (Some f) (find (is_field csr field) fs))) is
      at false is t next = ap (λ b. is_some (cond b (Some f) (find (is_field csr field) fs))) is ∙ next t

  its_place : (c : CsrBody) → same_bytes c.name csr ≡ true → (ps : List Placed) (p : Placed) → placed_named ps field ≡ Some p → list_any is_it (map (λ q. (c, q)) ps) ≡ true
  its_place c is [] p h = absurd (none-some p h)
  its_place c is (q ∷ qs) p h =
      ap (λ b. (b && same_bytes q.field.name field) || list_any is_it (map (λ x. (c, x)) qs)) is ∙ at (same_bytes q.field.name field) h (its_place c is qs p)
    where
      at : (b : Bool) → cond b (Some q) (placed_named qs field) ≡ Some p → (placed_named qs field ≡ Some p → list_any is_it (map (λ x. (c, x)) qs) ≡ true) → (b || list_any is_it (map (λ x. (c, x)) qs)) ≡ true
      at true k next = refl
      at false k next = next k

  module _ (space : Space) (full : Full) where
    abbrev pairs_of : List CsrBody → List (CsrBody × Placed)
    pairs_of cs = flat_map (λ c. map (λ p. (c, p)) (layout space full c)) cs

    either_true : (a b : Bool) → b ≡ true → (a || b) ≡ true
    either_true true b h = refl
    either_true false b h = h

    its_csr : (c : CsrBody) (p : Placed) → placed_named (layout space full c) field ≡ Some p → (cs : List CsrBody) → csr_named cs csr ≡ Some c → list_any is_it (pairs_of cs) ≡ true
    its_csr c p listed [] h = absurd (none-some c h)
    its_csr c p listed (d ∷ ds) h =
        list_any-append is_it (map (λ q. (d, q)) (layout space full d)) (pairs_of ds) ∙ at (same_bytes d.name csr) refl h (its_csr c p listed ds)
      where
        at : (b : Bool) → same_bytes d.name csr ≡ b → cond b (Some d) (csr_named ds csr) ≡ Some c → (csr_named ds csr ≡ Some c → list_any is_it (pairs_of ds) ≡ true) → (list_any is_it (map (λ q. (d, q)) (layout space full d)) || list_any is_it (pairs_of ds)) ≡ true
        at true is k next =
            let same : d ≡ c = same_some k in
            ap (λ b. b || list_any is_it (pairs_of ds)) (its_place d is (layout space full d) p (subst (λ (x : CsrBody). placed_named (layout space full x) field ≡ Some p) (sym same) listed))
        at false is k next = either_true (list_any is_it (map (λ q. (d, q)) (layout space full d))) (list_any is_it (pairs_of ds)) (next k)

numbered : (fs : List FieldValue) (csr field : List ℕ) (o : Option FieldValue) → find (is_field csr field) fs ≡ o → is_some o ≡ true → (number : ℕ) × (option_map (λ f. f.number) (find (is_field csr field) fs) ≡ Some number)
numbered fs csr field None is h = absurd (false≢true h)
numbered fs csr field (Some f) is h = (f.number, ap (option_map (λ g. g.number)) is)

held_number : (s : State) (csr field : List ℕ) → is_some (find (is_field csr field) s.fields) ≡ true → HasNumber s csr field
unfolding field_number
held_number s csr field h = let n = numbered s.fields csr field (find (is_field csr field) s.fields) refl h in record { number = n.0; is = n.1 }

-- a state of a configuration has a number of each field that is present
pub present_number : (space : Space) (full : Full) (program : Program) (csr field : List ℕ) (p : Placed) (s : State) → IsState space full program s → present_field space full program csr field ≡ Some p → HasNumber s csr field
present_number space full program csr field p s state h =
    let at = is_listed space full program csr field p h in
    held_number s csr field (held csr field s.fields (present_fields space full program) state.fields (its_csr csr field space full at.owner p at.listed program.csrs at.named))
