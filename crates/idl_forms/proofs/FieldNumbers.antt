-- The numbers of fields after the field of some names takes another.
use Rattle.std.proofs.Common.{◌≡◌, ℕ, ◌<◌, ◌≤◌, ◌+◌, Bool, true, false, cond, ◌&&◌, List, [], ◌∷◌, ◌++◌, map, take, drop, set, get_or, length, refl, sym, ap, ◌∙◌}
use Rattle.std.proofs.lemmas.Bool.{cond-true, cond-false}
use Rattle.std.proofs.lemmas.List.{take_all, drop_all, append-nil}
use Rattle.std.proofs.lemmas.List.Edits.{map_over_more}
use Rattle.udb_spec.specs.Conditions.{same_bytes}
use Rattle.idl_spec.specs.Harts.{with_field}
use Rattle.idl_forms.specs.declared.harts.FieldValue.{FieldValue}
use Rattle.idl_forms.specs.States.{field_of}

abbrev pub renumbered : List ℕ → List ℕ → ℕ → FieldValue → FieldValue
renumbered csr field n v = cond (same_bytes v.csr csr && same_bytes v.field field) (record v { number = n }) v

field-either : (t : Bool) (v : FieldValue) (n : ℕ) → field_of (cond t (record v { number = n }) v) ≡ cond t (record (field_of v) { number = n }) (field_of v)
field-either true v n = refl
field-either false v n = refl

pub fields-renumbered : (csr field : List ℕ) (n : ℕ) (vs : List FieldValue) → map field_of (map (renumbered csr field n) vs) ≡ with_field (map field_of vs) csr field n
unfolding with_field
fields-renumbered csr field n [] = refl
fields-renumbered csr field n (v ∷ vs) =
    let first = field-either (same_bytes v.csr csr && same_bytes v.field field) v n in
    let rest = fields-renumbered csr field n vs in
    rw (first, rest) refl

-- one more of them, with its names
pub renumbered-more : (csr field : List ℕ) (n : ℕ) (xs ys : List FieldValue) (i : ℕ) (x : FieldValue) → i < length xs → ys ≡ map (renumbered csr field n) (take i xs) ++ drop i xs → x ≡ get_or ys i x
    → (same_bytes x.csr csr && same_bytes x.field field) ≡ true → set ys i (record x { number = n }) ≡ map (renumbered csr field n) (take (i + 1) xs) ++ drop (i + 1) xs
renumbered-more csr field n xs ys i x h e r t =
    let same : renumbered csr field n x ≡ record x { number = n } = cond-true _ _ _ t in
    ap (set ys i) (sym same) ∙ map_over_more (renumbered csr field n) xs ys i x h e r

-- and one with other names
pub renumbered-past : (csr field : List ℕ) (n : ℕ) (xs ys : List FieldValue) (i : ℕ) (x : FieldValue) → i < length xs → ys ≡ map (renumbered csr field n) (take i xs) ++ drop i xs → x ≡ get_or ys i x
    → (same_bytes x.csr csr && same_bytes x.field field) ≡ false → set ys i x ≡ map (renumbered csr field n) (take (i + 1) xs) ++ drop (i + 1) xs
renumbered-past csr field n xs ys i x h e r t =
    let same : renumbered csr field n x ≡ x = cond-false _ _ _ t in
    ap (set ys i) (sym same) ∙ map_over_more (renumbered csr field n) xs ys i x h e r

pub renumbered-all : (csr field : List ℕ) (n : ℕ) (xs ys : List FieldValue) (i : ℕ) → length xs ≤ i → ys ≡ map (renumbered csr field n) (take i xs) ++ drop i xs → ys ≡ map (renumbered csr field n) xs
renumbered-all csr field n xs ys i h e =
    e ∙ ap (λ (zs : List FieldValue). map (renumbered csr field n) zs ++ drop i xs) (take_all i xs h)
    ∙ ap (λ (zs : List FieldValue). map (renumbered csr field n) xs ++ zs) (drop_all i xs h) ∙ append-nil (map (renumbered csr field n) xs)
