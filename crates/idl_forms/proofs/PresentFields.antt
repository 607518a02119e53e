-- The present fields of a program, and the numbers that they hold.
use Rattle.std.proofs.Common.{◌≡◌, drop, ℕ, zero, suc, ◌+◌, ◌%◌, ◌^◌, ◌<◌, ◌≤◌, Bool, true, false, cond, List, [], ◌∷◌, Option, None, Some, length, get_or, refl, sym, ap, ◌∙◌, subst, arith}
use Rattle.std.specs.Prelude.{◌&&◌, filter, All, Contains, filter_map, find, sum_by, option_map, option_and_then, if◌then◌else◌}
use Rattle.std.specs.Cmp.Lexicographic.{bytes_decides}
use Rattle.std.proofs.lemmas.Bool.{false≢true, eqb-true}
use Rattle.std.proofs.lemmas.Option.{none-some}
use Rattle.std.proofs.lemmas.List.Elements.{All-get_or}
use Rattle.std.proofs.Math.Nat.{zero-mod, add-zero}
use Rattle.std.proofs.lemmas.List.{get_or-drop, length-drop}
use Rattle.std.proofs.lemmas.List.Sums.{sum_by-cons}
use Rattle.idl_tree.specs.declared.programs.Base.{Base}
use Rattle.idl_tree.specs.declared.programs.Base.TheVariants as base
use Rattle.udb_base.specs.declared.spaces.Space.{Space}
use Rattle.udb_base.specs.declared.spaces.Full.{Full}
use Rattle.udb_spec.specs.Conditions.{same_bytes, holds}
use Rattle.udb_spec.specs.Spaces.{mxlen}
use Rattle.idl_tree.specs.declared.programs.CsrBody.{CsrBody}
use Rattle.idl_tree.specs.declared.programs.Program.{Program}
use Rattle.idl_tree.specs.declared.programs.Variable.{Variable}
use Rattle.idl_spec.specs.Harts.{State, FieldValue, is_field, field_number}
use Rattle.idl_spec.specs.Fields.{Placed, is_for, placed, placed_named, part_width, layout, present_field, read_csr, csr_named, variables_for, variable_width}
use Rattle.idl_forms.specs.FieldSums.{number_at}
use Rattle.idl_forms.specs.Variables.{is_variable}
use Rattle.idl_forms.specs.Ready.{InField, IsLawfulProgram, ArePlaces, AreLawfulVariables, Meet}
use Rattle.idl_forms.proofs.FieldPlaces.{less-masked, variable-here}

-- ---- what a search finds

found-here : {X : Type 0} (b : Bool) (x y : X) (o : Option X) (P : X → Type 0) → cond b (Some x) o ≡ Some y → P x → (o ≡ Some y → P y) → P y
found-here true x y o P h here next = subst P (some-same h) here where
  some-same : {A : Type 0} {a b : A} → Some a ≡ Some b → a ≡ b
  some-same h = cc
found-here false x y o P h here next = next h

contains-first : {X : Type 0} (x : X) (xs : List X) → Contains (x ∷ xs) x
contains-first x xs = (0, omega arith, refl)

contains-later : {X : Type 0} (x y : X) (xs : List X) → Contains xs y → Contains (x ∷ xs) y
contains-later x y xs h = (suc h.0, omega (arith, h.1), h.2)

pub found-contains : {X : Type 0} (p : X → Bool) (xs : List X) (y : X) → find p xs ≡ Some y → Contains xs y
found-contains p [] y h = absurd (none-some y h)
found-contains {X} p (x ∷ xs) y h = found-here (p x) x y (find p xs) (Contains (x ∷ xs)) h (contains-first x xs) (λ k. contains-later x y xs (found-contains p xs y k))

pub contains-all : {X : Type 0} (P : X → Type 0) (xs : List X) (y : X) → All P xs → Contains xs y → P y
contains-all P xs y all h = subst P h.2 (All-get_or P xs h.0 y h.1 all)

pub found-all : {X : Type 0} (P : X → Type 0) (p : X → Bool) (xs : List X) (y : X) → All P xs → find p xs ≡ Some y → P y
found-all P p xs y all h = contains-all P xs y all (found-contains p xs y h)

-- ---- present fields

module _ (space : Space) (full : Full) (program : Program) (csr field : List ℕ) where
  pub present-unnamed : csr_named program.csrs csr ≡ None → present_field space full program csr field ≡ None
  unfolding present_field
  present-unnamed h = ap (λ o. option_and_then (λ c. placed_named (layout space full c) field) o) h

  pub present-absent : (c : CsrBody) → csr_named program.csrs csr ≡ Some c → holds space full c.present ≡ false → present_field space full program csr field ≡ None
  unfolding present_field layout
  present-absent c h gone = ap (λ o. option_and_then (λ c. placed_named (layout space full c) field) o) h
      ∙ ap (λ b. placed_named (if b then filter_map (placed space full) c.fields else []) field) gone

  pub present-named : (c : CsrBody) → csr_named program.csrs csr ≡ Some c → holds space full c.present ≡ true → present_field space full program csr field ≡ placed_named (filter_map (placed space full) c.fields) field
  unfolding present_field layout
  present-named c h there = ap (λ o. option_and_then (λ c. placed_named (layout space full c) field) o) h
      ∙ ap (λ b. placed_named (if b then filter_map (placed space full) c.fields else []) field) there

-- the places of the fields of a CSR of a lawful program
pub lawful-places : (program : Program) (csr : List ℕ) (c : CsrBody) → IsLawfulProgram program → csr_named program.csrs csr ≡ Some c → All (λ f. ArePlaces f.places) c.fields
lawful-places program csr c lawful h = found-all (λ d. All (λ f. ArePlaces f.places) d.fields) (λ d. same_bytes d.name csr) program.csrs c lawful.places h

-- ---- the number of a CSR

module _ (space : Space) (full : Full) (c : CsrBody) (s : State) where
  pub read-absent : holds space full c.present ≡ false → read_csr space full c s ≡ 0
  unfolding read_csr layout
  read-absent h =
      ap (λ b. sum_by (number_at c.name s) (if b then filter_map (placed space full) c.fields else []) % 2 ^ mxlen space full) h ∙ zero-mod (2 ^ mxlen space full)

  pub read-present : (r n : ℕ) → holds space full c.present ≡ true → mxlen space full ≡ r → r ≤ 64 → n ≡ sum_by (number_at c.name s) (filter_map (placed space full) c.fields) % 2 ^ 64 → n % 2 ^ r ≡ read_csr space full c s
  unfolding read_csr layout
  read-present r n h is few sum =
      ap (λ m. m % 2 ^ r) sum ∙ less-masked (sum_by (number_at c.name s) (filter_map (placed space full) c.fields)) r few
      ∙ ap (λ k. sum_by (number_at c.name s) (filter_map (placed space full) c.fields) % 2 ^ k) (sym is)
      ∙ ap (λ b. sum_by (number_at c.name s) (if b then filter_map (placed space full) c.fields else []) % 2 ^ mxlen space full) (sym h)

-- ---- the number of a field

some-alike : {A : Type 0} {a b : A} → Some a ≡ Some b → a ≡ b
some-alike h = cc

default-free : {X : Type 0} (xs : List X) (i : ℕ) (d e : X) → i < length xs → get_or xs i d ≡ get_or xs i e
default-free [] i d e lt = absurd (omega arith)
default-free (x ∷ xs) zero d e lt = refl
default-free (x ∷ xs) (suc i) d e lt = default-free xs i d e (omega arith)

both-true : (a b : Bool) → (a && b) ≡ true → (a ≡ true) × (b ≡ true)
both-true true true h = (refl, refl)
both-true true false h = absurd (false≢true h)
both-true false b h = absurd (false≢true h)

module _ (space : Space) (full : Full) (program : Program) (csr field : List ℕ) where
  one-small : (f : FieldValue) (p : Placed) → InField space full program f → is_field csr field f ≡ true → present_field space full program csr field ≡ Some p → f.number < 2 ^ part_width p.bits
  one-small f p ok h present =
      let both = both-true (same_bytes f.csr csr) (same_bytes f.field field) h in
      let first : f.csr ≡ csr = (bytes_decides f.csr csr).0 both.0 in
      let second : f.field ≡ field = (bytes_decides f.field field).0 both.1 in
      ok p (ap (λ n. present_field space full program n f.field) first ∙ (ap (λ n. present_field space full program csr n) second ∙ present))

  passes-at : (g f : FieldValue) (o : Option FieldValue) (b : Bool) → is_field csr field g ≡ b → cond b (Some g) o ≡ Some f → (o ≡ Some f → is_field csr field f ≡ true) → is_field csr field f ≡ true
  passes-at g f o true is k next = subst (λ x. is_field csr field x ≡ true) (some-alike k) is
  passes-at g f o false is k next = next k

  passes : (gs : List FieldValue) (f : FieldValue) → find (is_field csr field) gs ≡ Some f → is_field csr field f ≡ true
  passes [] f h = absurd (none-some f h)
  passes (g ∷ gs) f h = passes-at g f (find (is_field csr field) gs) (is_field csr field g) refl h (passes gs f)

  by-found : (fs : List FieldValue) (n : ℕ) (p : Placed) (o : Option FieldValue) → All (InField space full program) fs → present_field space full program csr field ≡ Some p → find (is_field csr field) fs ≡ o → option_map (λ f. f.number) o ≡ Some n → n < 2 ^ part_width p.bits
  by-found fs n p None all present is k = absurd (none-some n k)
  by-found fs n p (Some f) all present is k = subst (λ m. m < 2 ^ part_width p.bits) (some-alike k) (one-small f p (found-all (InField space full program) (is_field csr field) fs f all is) (passes fs f is) present)

  -- it fits the field, in a state whose numbers do
  pub number-small : (fs : List FieldValue) (n : ℕ) (p : Placed) → All (InField space full program) fs → field_number fs csr field ≡ Some n → present_field space full program csr field ≡ Some p → n < 2 ^ part_width p.bits
  unfolding field_number
  number-small fs n p all h present = by-found fs n p (find (is_field csr field) fs) all present refl h

-- ---- one variable of a name

meet : (r : ℕ) (a b : Base) → is_for r a ≡ true → is_for r b ≡ true → Meet a b
meet r base.All base.All h k = tt
meet r base.All base.Rv32 h k = tt
meet r base.All base.Rv64 h k = tt
meet r base.Rv32 base.All h k = tt
meet r base.Rv32 base.Rv32 h k = tt
meet r base.Rv32 base.Rv64 h k = let first : r ≡ 32 = eqb-true r 32 h in let second : r ≡ 64 = eqb-true r 64 k in absurd (omega arith)
meet r base.Rv64 base.All h k = tt
meet r base.Rv64 base.Rv32 h k = let first : r ≡ 64 = eqb-true r 64 h in let second : r ≡ 32 = eqb-true r 32 k in absurd (omega arith)
meet r base.Rv64 base.Rv64 h k = tt

none-pass : {X : Type 0} (p : X → Bool) (xs : List X) → ((k : ℕ) (d : X) → k < length xs → p (get_or xs k d) ≡ false) → filter p xs ≡ []
none-pass p [] h = refl
none-pass p (x ∷ xs) h = ap (λ b. cond b (x ∷ filter p xs) (filter p xs)) (h 0 x (omega arith)) ∙ none-pass p xs (λ k d lt. h (suc k) d (omega arith))

if-true : (a b : Bool) → (if a then b else false) ≡ true → (a ≡ true) × (b ≡ true)
if-true true b h = (refl, h)
if-true false b h = absurd (false≢true h)

false-unless : (b : Bool) → (b ≡ true → ⊥) → b ≡ false
false-unless true h = absurd (h refl)
false-unless false h = refl

pub only-width : (r : ℕ) (name : List ℕ) (vs : List Variable) (i : ℕ) (v : Variable) → AreLawfulVariables vs → i < length vs → v ≡ get_or vs i v → is_variable r name v ≡ true
    → variables_for r (drop i vs) name ≡ variables_for r vs name → variable_width v ≡ sum_by variable_width (variables_for r vs name)
only-width r name vs i v lawful lt is h same =
    let mine = if-true (same_bytes v.name name) (is_for r v.base) h in
    let rest : variables_for r (drop (i + 1) vs) name ≡ [] = none-pass (is_variable r name) (drop (i + 1) vs) (λ k d short.
    false-unless (is_variable r name (get_or (drop (i + 1) vs) k d)) (λ t.
    let at : get_or (drop (i + 1) vs) k d ≡ get_or vs (i + 1 + k) d = get_or-drop (i + 1) vs k d in
    let inside : i + 1 + k < length vs = omega (arith, length-drop (i + 1) vs) in
    let other = if-true (same_bytes (get_or vs (i + 1 + k) d).name name) (is_for r (get_or vs (i + 1 + k) d).base) (subst (λ w. is_variable r name w ≡ true) at t) in
    let first : get_or vs i d ≡ v = default-free vs i d v lt ∙ sym is in
    lawful.names i (i + 1 + k) d (omega arith) inside
    (meet r (get_or vs i d).base (get_or vs (i + 1 + k) d).base (subst (λ w. is_for r w.base ≡ true) (sym first) mine.1) other.1)
    (ap (λ w. w.name) first ∙ ((bytes_decides v.name name).0 mine.0 ∙ sym ((bytes_decides (get_or vs (i + 1 + k) d).name name).0 other.0))))) in
    sym (ap (λ ws. sum_by variable_width ws) (sym same ∙ (variable-here r name vs i v lt is h ∙ ap (λ ws. v ∷ ws) rest)) ∙ (sum_by-cons variable_width v [] ∙ add-zero (variable_width v)))
