-- What `$bits` counts of a variable: the bits of the one that stands for the registers.
use Rattle.std.proofs.Common.{◌≡◌, ◌≢◌, ◌++◌, ◌⊎◌, inl, inr, ◌==◌, ℕ, suc, Bool, true, false, List, [], ◌∷◌, map, None, Some, All, refl, sym, ap, ◌∙◌, subst, arith}
use Rattle.std.specs.Prelude.{AllPairs, flat_map, sum_by, if◌then◌else◌}
use Rattle.std.specs.Cmp.Lexicographic.{bytes_decides}
use Rattle.std.proofs.lemmas.Bool.{false≢true, eqb-true}
use Rattle.std.proofs.lemmas.List.Elements.{All-head, All-tail, filter_passes}
use Rattle.std.proofs.lemmas.List.Kept.{AllPairs-filter}
use Rattle.std.proofs.lemmas.List.Sums.{sum_by-cons}
use Rattle.std.proofs.Math.Nat.{add-zero}
use Rattle.udb_base.specs.declared.names.Name.{Name}
use Rattle.udb_spec.specs.Conditions.{same_bytes}
use Rattle.idl_tree.specs.declared.programs.Base.{Base}
use Rattle.idl_tree.specs.declared.programs.Base.TheVariants as base
use Rattle.idl_tree.specs.declared.programs.Variable.{Variable}
use Rattle.idl_tree.specs.declared.programs.FieldBodies.{FieldBodies}
use Rattle.idl_tree.specs.declared.programs.CsrBody.{CsrBody}
use Rattle.idl_width.specs.declared.scopes.BitsOf.{BitsOf}
use Rattle.idl_width.specs.Numbers.{bits_for, bits_among}
use Rattle.idl_forms.specs.Ready.{AreLawfulVariables, Meet}
use Rattle.idl_spec.specs.Fields.{is_for, variable_width, variables_for, variable_bits, field_bits}

-- ---- lists whose elements differ by pairs

module _ {X : Type 0} (R : X → X → Type 0) (x : X) (xs : List X) (all : AllPairs R (x ∷ xs)) where
  pub pairs_first : All (R x) xs
  pairs_first k d lt = all 0 (suc k) d (omega arith) (omega arith)

  pub pairs_rest : AllPairs R xs
  pairs_rest i j d before lt = all (suc i) (suc j) d (omega arith) (omega arith)

-- ---- the registers have 32 or 64 bits

module _ (r : ℕ) (wide : (r ≡ 32) ⊎ (r ≡ 64)) where
  pub at_width : {A : Type 0} (f : ℕ → A) → (if r == 64 then f 64 else f 32) ≡ f r
  at_width {A} f = at wide
    where
      at : (r ≡ 32) ⊎ (r ≡ 64) → (if r == 64 then f 64 else f 32) ≡ f r
      at (inl h) = subst (λ n. (if n == 64 then f 64 else f 32) ≡ f n) (sym h) refl
      at (inr h) = subst (λ n. (if n == 64 then f 64 else f 32) ≡ f n) (sym h) refl

  -- ---- variables

  module _ (all : List Variable) (name : List ℕ) (rest : List BitsOf) where
    abbrev mine : ℕ
    mine = sum_by variable_width (variables_for r all name)

    one_variable : (v : Variable) → same_bytes v.name name ≡ true → bits_for r (variable_bits all v) ≡ mine
    one_variable v is =
        at_width (λ n. sum_by variable_width (variables_for n all v.name))
        ∙ ap (λ n. sum_by variable_width (variables_for r all n)) ((bytes_decides v.name name).0 is)

    -- where some variable of the name stands for the registers
    pub some_variable : (vs : List Variable) (w : Variable) (more : List Variable) → variables_for r vs name ≡ w ∷ more → bits_among r (map (variable_bits all) vs ++ rest) None name ≡ mine
    some_variable [] w more h = absurd (cc)
    some_variable (v ∷ vs) w more h = at (same_bytes v.name name) refl h (some_variable vs w more)
      where
        at : (b : Bool) → same_bytes v.name name ≡ b → (if (if b then is_for r v.base else false) then v ∷ variables_for r vs name else variables_for r vs name) ≡ w ∷ more
            → (variables_for r vs name ≡ w ∷ more → bits_among r (map (variable_bits all) vs ++ rest) None name ≡ mine)
            → (if b then bits_for r (variable_bits all v) else bits_among r (map (variable_bits all) vs ++ rest) None name) ≡ mine
        at true is k next = one_variable v is
        at false is k next = next k

    -- where none does
    pub no_variable_bits : mine ≡ 0 → bits_among r rest None name ≡ 0 → (vs : List Variable) → bits_among r (map (variable_bits all) vs ++ rest) None name ≡ 0
    no_variable_bits none end [] = end
    no_variable_bits none end (v ∷ vs) = at (same_bytes v.name name) refl (no_variable_bits none end vs)
      where
        at : (b : Bool) → same_bytes v.name name ≡ b → bits_among r (map (variable_bits all) vs ++ rest) None name ≡ 0
            → (if b then bits_for r (variable_bits all v) else bits_among r (map (variable_bits all) vs ++ rest) None name) ≡ 0
        at true is next = one_variable v is ∙ none
        at false is next = next

    -- fields are named with their CSR
    pub past_variables : (csr : Name) (vs : List Variable) → bits_among r (map (variable_bits all) vs ++ rest) (Some csr) name ≡ bits_among r rest (Some csr) name
    past_variables csr [] = refl
    past_variables csr (v ∷ vs) = past_variables csr vs

  meets : (a b : Base) → is_for r a ≡ true → is_for r b ≡ true → Meet a b
  meets base.All base.All h k = tt
  meets base.All base.Rv32 h k = tt
  meets base.All base.Rv64 h k = tt
  meets base.Rv32 base.All h k = tt
  meets base.Rv32 base.Rv32 h k = tt
  meets base.Rv32 base.Rv64 h k = let p : r ≡ 32 = eqb-true r 32 h in let q : r ≡ 64 = eqb-true r 64 k in absurd (omega arith)
  meets base.Rv64 base.All h k = tt
  meets base.Rv64 base.Rv32 h k = let p : r ≡ 64 = eqb-true r 64 h in let q : r ≡ 32 = eqb-true r 32 k in absurd (omega arith)
  meets base.Rv64 base.Rv64 h k = tt

  abbrev stands_for : List ℕ → Variable → Bool
  stands_for name v = if same_bytes v.name name then is_for r v.base else false

  both_if : (a b : Bool) → (if a then b else false) ≡ true → (a ≡ true) × (b ≡ true)
  both_if true b h = (refl, h)
  both_if false b h = absurd (false≢true h)

  abbrev Differ : Variable → Variable → Type 0
  Differ a b = Meet a.base b.base → a.name ≢ b.name

  -- one variable of a name alone stands for the registers
  only_one : (name : List ℕ) (v : Variable) (more : List Variable) → AllPairs Differ (v ∷ more) → All (λ w. stands_for name w ≡ true) (v ∷ more) → more ≡ []
  only_one name v [] differ all = refl
  only_one name v (w ∷ more) differ all =
      let a = both_if (same_bytes v.name name) (is_for r v.base) (All-head (λ w. stands_for name w ≡ true) v (w ∷ more) all) in
      let b = both_if (same_bytes w.name name) (is_for r w.base) (All-head (λ w. stands_for name w ≡ true) w more (All-tail (λ w. stands_for name w ≡ true) v (w ∷ more) all)) in
      absurd (All-head (Differ v) w more (pairs_first Differ v (w ∷ more) differ) (meets v.base w.base a.1 b.1) ((bytes_decides v.name name).0 a.0 ∙ sym ((bytes_decides w.name name).0 b.0)))

  pub one_width : (vs : List Variable) → AreLawfulVariables vs → (name : List ℕ) (v : Variable) (more : List Variable) → variables_for r vs name ≡ v ∷ more → sum_by variable_width (variables_for r vs name) ≡ variable_width v
  one_width vs lawful name v more h =
      let differ : AllPairs Differ (v ∷ more) = subst (AllPairs Differ) h (AllPairs-filter Differ (stands_for name) vs lawful.names) in
      let pass : All (λ w. stands_for name w ≡ true) (v ∷ more) = subst (All (λ w. stands_for name w ≡ true)) h (filter_passes (stands_for name) vs) in
      ap (sum_by variable_width) (h ∙ ap (λ ws. v ∷ ws) (only_one name v more differ pass)) ∙ (sum_by-cons variable_width v [] ∙ add-zero (variable_width v))

-- ---- fields, which are named with their CSR

pub no_field : (r : ℕ) (name : List ℕ) (csr : Name) (fs : List FieldBodies) (rest : List BitsOf) → bits_among r (map (field_bits csr) fs ++ rest) None name ≡ bits_among r rest None name
no_field r name csr [] rest = refl
no_field r name csr (f ∷ fs) rest = no_field r name csr fs rest

pub no_fields : (r : ℕ) (name : List ℕ) (cs : List CsrBody) → bits_among r (flat_map (λ c. map (field_bits c.name) c.fields) cs) None name ≡ 0
no_fields r name [] = refl
no_fields r name (c ∷ cs) = no_field r name c.name c.fields (flat_map (λ d. map (field_bits d.name) d.fields) cs) ∙ no_fields r name cs
