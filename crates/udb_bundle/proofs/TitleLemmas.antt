-- The set of the titles of rows.
use Rattle.std.proofs.Common.{◌≡◌, ℕ, Bool, true, false, ◌||◌, cond, List, [], ◌∷◌, ◌++◌, Result, Ok, Err, OnOk, refl, sym, ap, ◌∙◌}
use Rattle.std.specs.Str.{bytes_eq}
use Rattle.std.specs.Ordering.{nat_cmp}
use Rattle.std.specs.Cmp.Lexicographic.{slice_cmp}
use Rattle.std.specs.declared.string.String.{String}
use Rattle.std.specs.String.{string_bytes, string_cmp}
use Rattle.std.specs.BTreeSet.{BTreeSet, UpdatesBy, contains_text}
use Rattle.std.proofs.lemmas.Map.Text.{btree_set_updates_text}
use Rattle.udb_base.specs.declared.rows.Row.{Row}
use Rattle.udb_bundle.specs.Reading.{has_row, title_of}
use Rattle.udb_bundle.specs.Titles.{HasTitles}

pub has_row_push : (t : List ℕ) (rs : List Row) (r : Row) → has_row t (rs ++ r ∷ []) ≡ (has_row t rs || bytes_eq (title_of r.kind r.name) t)
has_row_push t [] r = go (bytes_eq (title_of r.kind r.name) t)
  where
    go : (b : Bool) → (b || false) ≡ b
    go true = refl
    go false = refl
has_row_push t (q ∷ rs) r = go (bytes_eq (title_of q.kind q.name) t) (has_row_push t rs r)
  where
    go : (b : Bool) → has_row t (rs ++ r ∷ []) ≡ (has_row t rs || bytes_eq (title_of r.kind r.name) t) → (b || has_row t (rs ++ r ∷ [])) ≡ ((b || has_row t rs) || bytes_eq (title_of r.kind r.name) t)
    go true e = refl
    go false e = e

or_swapped : (a b : Bool) → cond a true b ≡ (b || a)
or_swapped true true = refl
or_swapped true false = refl
or_swapped false true = refl
or_swapped false false = refl

-- a set with one more title has the titles of the rows with one more
pub one_more_title : {Y : Type 0} (rs all : List Row) (r : Row) (bs : List ℕ) (s n : BTreeSet (String Y)) → HasTitles s rs → bs ≡ title_of r.kind r.name → UpdatesBy string_cmp (λ k. slice_cmp nat_cmp bs (string_bytes k)) s n true → all ≡ rs ++ r ∷ [] → HasTitles n all
one_more_title rs all r bs s n has is updates more = λ t.
    btree_set_updates_text bs s n true updates t
    ∙ (or_swapped (bytes_eq bs t) (contains_text s t)
    ∙ (ap (λ (z : Bool). z || bytes_eq bs t) (has t)
    ∙ (ap (λ (z : List ℕ). has_row t rs || bytes_eq z t) is
    ∙ (sym (has_row_push t rs r) ∙ ap (has_row t) (sym more)))))

pub one_more_title_if_ok : {T E Y : Type 0} (o : Result T E) (rs all : List Row) (r : Row) (bs : List ℕ) (s n : BTreeSet (String Y)) → HasTitles s rs → bs ≡ title_of r.kind r.name → UpdatesBy string_cmp (λ k. slice_cmp nat_cmp bs (string_bytes k)) s n true → OnOk o (all ≡ rs ++ r ∷ []) → OnOk o (HasTitles n all)
one_more_title_if_ok (Ok x) rs all r bs s n has is updates more = one_more_title rs all r bs s n has is updates more
one_more_title_if_ok (Err e) rs all r bs s n has is updates more = tt
