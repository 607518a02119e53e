-- Searches by name, one element at a time, and the numbers of fields at their places.
use Rattle.std.proofs.Common.{◌≡◌, ℕ, ◌+◌, ◌-◌, ◌*◌, ◌^◌, ◌%◌, ◌/◌, ◌<◌, ◌≤◌, Bool, true, false, cond, List, [], ◌∷◌, ◌++◌, Option, None, Some, length, get_or, take, drop, refl, sym, ap, ◌∙◌, arith}
use Rattle.std.specs.Prelude.{map, filter, filter_map, find, sum_by, option_map, if◌then◌else◌}
use Rattle.std.specs.List.{cons_option}
use Rattle.std.proofs.lemmas.List.{drop_more}
use Rattle.std.proofs.lemmas.Grind.{take_at_read}
use Rattle.std.proofs.lemmas.List.Sums.{sum_by-cons}
use Rattle.std.proofs.lemmas.Nat.{pow-add}
use Rattle.std.proofs.Math.Pow.{mod-mod-pow}
use Rattle.std.proofs.Math.Nat.{zero-add, add-zero, add_comm, add_assoc, add-mod, mul_assoc, mul-mod_left, pow-le-pow_right, div-eq_of_lt, zero-mod}
use Rattle.udb_base.specs.declared.spaces.Space.{Space}
use Rattle.udb_base.specs.declared.spaces.Full.{Full}
use Rattle.udb_spec.specs.Conditions.{same_bytes, holds}
use Rattle.udb_spec.specs.Spaces.{mxlen}
use Rattle.idl_tree.specs.declared.programs.BitPart.{BitPart}
use Rattle.idl_tree.specs.declared.programs.FieldBodies.{FieldBodies}
use Rattle.idl_tree.specs.declared.programs.Variable.{Variable}
use Rattle.idl_spec.specs.Fields.{Placed, placed, placed_named, place_for, variables_for}
use Rattle.idl_spec.specs.Harts.{is_field, field_number}
use Rattle.idl_forms.specs.declared.harts.FieldValue.{FieldValue}
use Rattle.idl_forms.specs.States.{field_of}
use Rattle.idl_forms.specs.FieldSums.{one_placed}
use Rattle.idl_forms.specs.Variables.{is_variable}

module _ {X : Type 0} (p : X → Bool) where
  find-cons : (x : X) (xs : List X) → find p (x ∷ xs) ≡ cond (p x) (Some x) (find p xs)
  find-cons x xs = refl

  filter-cons : (x : X) (xs : List X) → filter p (x ∷ xs) ≡ cond (p x) (x ∷ filter p xs) (filter p xs)
  filter-cons x xs = refl

-- one variable more
pub variable-other : (registers : ℕ) (name : List ℕ) (vs : List Variable) (i : ℕ) (v : Variable) → i < length vs → v ≡ get_or vs i v → is_variable registers name v ≡ false
    → variables_for registers (drop (i + 1) vs) name ≡ variables_for registers (drop i vs) name
variable-other registers name vs i v lt is h =
    sym (ap (λ ws. variables_for registers ws name) (drop_more vs i v lt ∙ ap (λ w. w ∷ drop (i + 1) vs) (sym is)) ∙ ap (λ b. cond b (v ∷ variables_for registers (drop (i + 1) vs) name) (variables_for registers (drop (i + 1) vs) name)) h)

pub variable-here : (registers : ℕ) (name : List ℕ) (vs : List Variable) (i : ℕ) (v : Variable) → i < length vs → v ≡ get_or vs i v → is_variable registers name v ≡ true
    → variables_for registers (drop i vs) name ≡ v ∷ variables_for registers (drop (i + 1) vs) name
variable-here registers name vs i v lt is h =
    ap (λ ws. variables_for registers ws name) (drop_more vs i v lt ∙ ap (λ w. w ∷ drop (i + 1) vs) (sym is)) ∙ ap (λ b. cond b (v ∷ variables_for registers (drop (i + 1) vs) name) (variables_for registers (drop (i + 1) vs) name)) h

pub ruleset variable_steps = (variable-other, variable-here)

-- a field that isn't present, or has another name
pub placed-none : (space : Space) (full : Full) (name : List ℕ) (fs : List FieldBodies) (i : ℕ) (f : FieldBodies) → i < length fs → f ≡ get_or fs i f → placed space full f ≡ None
    → placed_named (filter_map (placed space full) (drop (i + 1) fs)) name ≡ placed_named (filter_map (placed space full) (drop i fs)) name
placed-none space full name fs i f lt is h =
    sym (ap (λ gs. placed_named (filter_map (placed space full) gs) name) (drop_more fs i f lt ∙ ap (λ g. g ∷ drop (i + 1) fs) (sym is))
    ∙ ap (λ o. placed_named (cons_option o (filter_map (placed space full) (drop (i + 1) fs))) name) h)

placed-field : (space : Space) (full : Full) (f : FieldBodies) (p : Placed) → placed space full f ≡ Some p → p.field ≡ f
placed-field space full f p h = by-present (holds space full f.present) h where
  by-place : (o : Option BitPart) → option_map (λ part. record { field = f; bits = part }) o ≡ Some p → p.field ≡ f
  by-place None h = absurd (cc)
  by-place (Some part) h = cc

  by-present : (b : Bool) → (if b then option_map (λ part. record { field = f; bits = part }) (place_for (mxlen space full) f.places) else None) ≡ Some p → p.field ≡ f
  by-present true h = by-place (place_for (mxlen space full) f.places) h
  by-present false h = absurd (cc)

pub placed-other : (space : Space) (full : Full) (name : List ℕ) (fs : List FieldBodies) (i : ℕ) (f : FieldBodies) (p : Placed) → i < length fs → f ≡ get_or fs i f → placed space full f ≡ Some p → same_bytes f.name name ≡ false
    → placed_named (filter_map (placed space full) (drop (i + 1) fs)) name ≡ placed_named (filter_map (placed space full) (drop i fs)) name
placed-other space full name fs i f p lt is h other =
    let test : same_bytes p.field.name name ≡ false = ap (λ g. same_bytes g.name name) (placed-field space full f p h) ∙ other in
    sym (ap (λ gs. placed_named (filter_map (placed space full) gs) name) (drop_more fs i f lt ∙ ap (λ g. g ∷ drop (i + 1) fs) (sym is))
    ∙ ap (λ o. placed_named (cons_option o (filter_map (placed space full) (drop (i + 1) fs))) name) h
    ∙ ap (λ b. cond b (Some p) (placed_named (filter_map (placed space full) (drop (i + 1) fs)) name)) test)

pub placed-here : (space : Space) (full : Full) (name : List ℕ) (fs : List FieldBodies) (i : ℕ) (f : FieldBodies) (p : Placed) → i < length fs → f ≡ get_or fs i f → placed space full f ≡ Some p → same_bytes f.name name ≡ true
    → placed_named (filter_map (placed space full) (drop i fs)) name ≡ Some p
placed-here space full name fs i f p lt is h here =
    let test : same_bytes p.field.name name ≡ true = ap (λ g. same_bytes g.name name) (placed-field space full f p h) ∙ here in
    ap (λ gs. placed_named (filter_map (placed space full) gs) name) (drop_more fs i f lt ∙ ap (λ g. g ∷ drop (i + 1) fs) (sym is))
    ∙ ap (λ o. placed_named (cons_option o (filter_map (placed space full) (drop (i + 1) fs))) name) h
    ∙ ap (λ b. cond b (Some p) (placed_named (filter_map (placed space full) (drop (i + 1) fs)) name)) test

-- the sum over the fields that are present, with one more
module _ (g : Placed → ℕ) (f : FieldBodies → Option Placed) where
  one-more : (o : Option Placed) (ps : List Placed) → sum_by g (cons_option o ps) ≡ sum_by g (one_placed o) + sum_by g ps
  one-more None ps = sym (zero-add (sum_by g ps))
  one-more (Some p) ps = sum_by-cons g p ps ∙ ap (λ n. n + sum_by g ps) (sym (sum_by-cons g p [] ∙ add-zero (g p)))

  sum-last : (fs : List FieldBodies) (x : FieldBodies) → sum_by g (filter_map f (fs ++ x ∷ [])) ≡ sum_by g (filter_map f fs) + sum_by g (one_placed (f x))
  sum-last [] x = one-more (f x) [] ∙ add_comm (sum_by g (one_placed (f x))) 0
  sum-last (y ∷ fs) x =
      one-more (f y) (filter_map f (fs ++ x ∷ [])) ∙ (ap (λ n. sum_by g (one_placed (f y)) + n) (sum-last fs x)
      ∙ (sym (add_assoc (sum_by g (one_placed (f y))) (sum_by g (filter_map f fs)) (sum_by g (one_placed (f x)))) ∙ ap (λ n. n + sum_by g (one_placed (f x))) (sym (one-more (f y) (filter_map f fs)))))

  pub sum-turn : (fs : List FieldBodies) (i : ℕ) (x : FieldBodies) (sum part m : ℕ) → i < length fs → x ≡ get_or fs i x → sum ≡ sum_by g (filter_map f (take i fs)) % m → part ≡ sum_by g (one_placed (f x)) % m
      → (sum + part) % m ≡ sum_by g (filter_map f (take (i + 1) fs)) % m
  sum-turn fs i x sum part m lt is before one =
      ap (λ n. (n + part) % m) before ∙ ap (λ n. (sum_by g (filter_map f (take i fs)) % m + n) % m) one
      ∙ sym (add-mod (sum_by g (filter_map f (take i fs))) (sum_by g (one_placed (f x))) m)
      ∙ ap (λ n. n % m) (sym (ap (λ xs. sum_by g (filter_map f xs)) ((take_at_read fs i x lt).1 ∙ ap (λ y. take i fs ++ y ∷ []) (sym is)) ∙ sum-last (take i fs) x))

-- ---- shifts past the width of a word

pub far-place : (n low : ℕ) → 64 ≤ low → n * 2 ^ low % 2 ^ 64 ≡ 0
far-place n low h =
    let split : low ≡ (low - 64) + 64 = omega arith in
    let e : 2 ^ low ≡ 2 ^ (low - 64) * 2 ^ 64 = ap (λ k. 2 ^ k) split ∙ pow-add 2 (low - 64) 64 in
    ap (λ k. n * k % 2 ^ 64) e ∙ (ap (λ k. k % 2 ^ 64) (sym (mul_assoc n (2 ^ (low - 64)) (2 ^ 64))) ∙ mul-mod_left (n * 2 ^ (low - 64)) (2 ^ 64))

pub far-bits : (n low k : ℕ) → n < 2 ^ 64 → 64 ≤ low → n / 2 ^ low % 2 ^ k ≡ 0
far-bits n low k small h =
    let limit : 2 ^ 64 ≤ 2 ^ low = pow-le-pow_right (omega arith) h in
    ap (λ m. m % 2 ^ k) (div-eq_of_lt (omega arith)) ∙ zero-mod (2 ^ k)

pub less-masked : (n k : ℕ) → k ≤ 64 → n % 2 ^ 64 % 2 ^ k ≡ n % 2 ^ k
less-masked n k h = let split : 64 ≡ (64 - k) + k = omega arith in ap (λ j. n % 2 ^ j % 2 ^ k) split ∙ mod-mod-pow n (64 - k) k

pub ruleset placed_steps = (placed-none, placed-other, placed-here)

-- ---- the number of a field

module _ (csr field : List ℕ) where
  pub number-none : field_number (map field_of []) csr field ≡ None
  unfolding field_number
  number-none = refl

  number-cons : (v : FieldValue) (vs : List FieldValue) → field_number (map field_of (v ∷ vs)) csr field ≡ cond (is_field csr field (field_of v)) (Some v.number) (field_number (map field_of vs) csr field)
  unfolding field_number
  number-cons v vs = elim (is_field csr field (field_of v)) as (λ b. option_map (λ f. f.number) (cond b (Some (field_of v)) (find (is_field csr field) (map field_of vs))) ≡ cond b (Some v.number) (option_map (λ f. f.number) (find (is_field csr field) (map field_of vs)))) [ true ↦ refl | false ↦ refl ]

  pub number-other : (vs : List FieldValue) (i : ℕ) (v : FieldValue) → i < length vs → v ≡ get_or vs i v → is_field csr field (field_of v) ≡ false → field_number (map field_of (drop (i + 1) vs)) csr field ≡ field_number (map field_of (drop i vs)) csr field
  number-other vs i v lt is h =
      sym (ap (λ ws. field_number (map field_of ws) csr field) (drop_more vs i v lt ∙ ap (λ w. w ∷ drop (i + 1) vs) (sym is)) ∙ number-cons v (drop (i + 1) vs)
      ∙ ap (λ b. cond b (Some v.number) (field_number (map field_of (drop (i + 1) vs)) csr field)) h)

  pub number-here : (vs : List FieldValue) (i : ℕ) (v : FieldValue) → i < length vs → v ≡ get_or vs i v → is_field csr field (field_of v) ≡ true → field_number (map field_of (drop i vs)) csr field ≡ Some v.number
  number-here vs i v lt is h =
      ap (λ ws. field_number (map field_of ws) csr field) (drop_more vs i v lt ∙ ap (λ w. w ∷ drop (i + 1) vs) (sym is)) ∙ number-cons v (drop (i + 1) vs)
      ∙ ap (λ b. cond b (Some v.number) (field_number (map field_of (drop (i + 1) vs)) csr field)) h

pub ruleset number_steps = (number-none, number-other, number-here)
