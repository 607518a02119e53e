-- Equality of trees variant by variant, and counts of characters.
use Rattle.std.proofs.Common.{◌≡◌, ℕ, ◌+◌, ◌<◌, ℤ, Bool, true, false, ◌&&◌, List, [], ◌∷◌, length, get_or, drop, map, count_by, cond, if◌then◌else◌, ap, refl, sym, ◌∙◌, zero-add}
use Rattle.std.proofs.lemmas.List.{drop_more}
use Rattle.std.proofs.lemmas.List.Recursion.{is_count_by}
use Rattle.std.specs.Fmt.{char_count, is_char_start}
use Rattle.yaml_spec.specs.declared.tree.Tree.{Tree}
use Rattle.yaml_spec.specs.declared.tree.Tree.TheVariants as tree
use Rattle.yaml_spec.specs.declared.tree.Tree.TheOpen.{Tree-F}
use Rattle.yaml_spec.specs.declared.tree.Tree.TheFolds.{fold-Tree, fold-Pair, fold-roll-Tree, fold-roll-Pair}
use Rattle.yaml_spec.specs.declared.tree.Pair.{Pair}
use Rattle.udb_schema.specs.Equality.{Test, same, same_step, pair_step, entry, agree}

pub same-Null : same tree.Null ≡ same_step Tree-F.Null
unfolding same
same-Null = ap (fold-Tree Test (List ℕ × Test) same_step pair_step) (sym tree.rolls-Null) ∙ fold-roll-Tree Test (List ℕ × Test) same_step pair_step _

pub same-Flag : (b : Bool) → same (tree.Flag b) ≡ same_step (Tree-F.Flag b)
unfolding same
same-Flag b = ap (fold-Tree Test (List ℕ × Test) same_step pair_step) (sym (tree.rolls-Flag b)) ∙ fold-roll-Tree Test (List ℕ × Test) same_step pair_step _

pub same-Int : (z : ℤ) → same (tree.Int z) ≡ same_step (Tree-F.Int z)
unfolding same
same-Int z = ap (fold-Tree Test (List ℕ × Test) same_step pair_step) (sym (tree.rolls-Int z)) ∙ fold-roll-Tree Test (List ℕ × Test) same_step pair_step _

pub same-Text : (s : List ℕ) → same (tree.Text s) ≡ same_step (Tree-F.Text s)
unfolding same
same-Text s = ap (fold-Tree Test (List ℕ × Test) same_step pair_step) (sym (tree.rolls-Text s)) ∙ fold-roll-Tree Test (List ℕ × Test) same_step pair_step _

pub same-List : (xs : List Tree) → same (tree.List xs) ≡ same_step (Tree-F.List (map same xs))
unfolding same
same-List xs = ap (fold-Tree Test (List ℕ × Test) same_step pair_step) (sym (tree.rolls-List xs)) ∙ fold-roll-Tree Test (List ℕ × Test) same_step pair_step _

both : {X : Type 0} {x y : X} {xs ys : List X} → x ≡ y → xs ≡ ys → x ∷ xs ≡ y ∷ ys
both e h = cc

pair_folds : (ps : List Pair) → map (fold-Pair Test (List ℕ × Test) same_step pair_step) ps ≡ map entry ps
unfolding same
pair_folds [] = refl
pair_folds (p ∷ ps) = both (fold-roll-Pair Test (List ℕ × Test) same_step pair_step _) (pair_folds ps)

pub same-Map : (ps : List Pair) → same (tree.Map ps) ≡ same_step (Tree-F.Map (map entry ps))
unfolding same
same-Map ps = ap (fold-Tree Test (List ℕ × Test) same_step pair_step) (sym (tree.rolls-Map ps)) ∙ (fold-roll-Tree Test (List ℕ × Test) same_step pair_step _ ∙ ap (λ xs. same_step (Tree-F.Map xs)) (pair_folds ps))

pub agree_next : (xs ys : List Tree) (i : ℕ) (x y : Tree) → i < length xs → i < length ys → x ≡ get_or xs i x → y ≡ get_or ys i y → agree (map same (drop i xs)) (drop i ys) ≡ (same x y && agree (map same (drop (i + 1) xs)) (drop (i + 1) ys))
agree_next xs ys i x y l m is js = rw (drop_more xs i x l, drop_more ys i y m, ← is, ← js) refl

pub ruleset same_laws = (same-Null, same-Flag, same-Int, same-Text, same-List, same-Map)

one_more : (b : Bool) (n : ℕ) → (if b then 1 else 0) + n ≡ cond b (1 + n) n
one_more true n = refl
one_more false n = zero-add n

-- characters are counted by their first bytes
pub counted : (bs : List ℕ) → char_count bs ≡ count_by is_char_start bs
unfolding char_count
counted bs = is_count_by char_count is_char_start refl (λ x xs. one_more (is_char_start x) (char_count xs)) bs
