-- The set of the keys of parts.
use Rattle.std.proofs.Common.{◌≡◌, ℕ, Bool, true, false, ◌||◌, cond, List, [], ◌∷◌, ◌++◌, refl, sym, ap, ◌∙◌}
use Rattle.std.specs.Str.{bytes_eq}
use Rattle.std.specs.Ordering.{nat_cmp}
use Rattle.std.specs.Cmp.Lexicographic.{slice_cmp}
use Rattle.std.specs.declared.string.String.{String}
use Rattle.std.specs.String.{string_bytes, string_cmp}
use Rattle.std.specs.BTreeSet.{BTreeSet, UpdatesBy, contains_text}
use Rattle.std.proofs.lemmas.Map.Text.{btree_set_updates_text}
use Rattle.yaml_spec.specs.declared.tree.Pair.{Pair}
use Rattle.yaml_spec.specs.Line.{has_key}
use Rattle.udb_yaml.specs.Keys.{HasKeysOf}

has_key_push : (k : List ℕ) (ps : List Pair) (p : Pair) → has_key k (ps ++ p ∷ []) ≡ (has_key k ps || bytes_eq p.key k)
has_key_push k [] p = go (bytes_eq p.key k)
  where
    go : (b : Bool) → (b || false) ≡ b
    go true = refl
    go false = refl
has_key_push k (q ∷ ps) p = go (bytes_eq q.key k) (has_key_push k ps p)
  where
    go : (b : Bool) → has_key k (ps ++ p ∷ []) ≡ (has_key k ps || bytes_eq p.key k) → (b || has_key k (ps ++ p ∷ [])) ≡ ((b || has_key k ps) || bytes_eq p.key k)
    go true e = refl
    go false e = e

or_swapped : (a b : Bool) → cond a true b ≡ (b || a)
or_swapped true true = refl
or_swapped true false = refl
or_swapped false true = refl
or_swapped false false = refl

-- a set with one more key has the keys of the parts with one more
pub one_more_key : {Y : Type 0} (ps all : List Pair) (p : Pair) (bs : List ℕ) (s n : BTreeSet (String Y)) → HasKeysOf ps s → bs ≡ p.key → UpdatesBy string_cmp (λ k. slice_cmp nat_cmp bs (string_bytes k)) s n true → all ≡ ps ++ p ∷ [] → HasKeysOf all n
one_more_key ps all p bs s n has is updates more = λ k.
    btree_set_updates_text bs s n true updates k
    ∙ (or_swapped (bytes_eq bs k) (contains_text s k)
    ∙ (ap (λ (z : Bool). z || bytes_eq bs k) (has k)
    ∙ (ap (λ (z : List ℕ). has_key k ps || bytes_eq z k) is
    ∙ (sym (has_key_push k ps p) ∙ ap (has_key k) (sym more)))))
