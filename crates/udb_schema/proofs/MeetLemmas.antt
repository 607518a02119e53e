-- A tree meets schemas exactly where no word fails at its root and each child meets the schemas that stand there;
-- so a first failing place shows that it doesn't.
use Rattle.std.proofs.Common.{◌≡◌, ℕ, ◌+◌, ◌<◌, Bool, true, false, not, ◌&&◌, ◌||◌, List, [], ◌∷◌, ◌++◌, length, get_or, take, drop, map, filter, Option, Some, None, if◌then◌else◌, nat_le, refl, ap, sym, ◌∙◌, subst, arith}
use Rattle.std.specs.List.{list_all, flat_map}
use Rattle.std.specs.Str.{bytes_eq}
use Rattle.std.specs.Fmt.{decimal}
use Rattle.std.proofs.lemmas.List.{drop_more, take-append-drop, length-take}
use Rattle.std.proofs.lemmas.List.Folds.{list_all-append}
use Rattle.yaml_spec.specs.declared.tree.Tree.{Tree}
use Rattle.yaml_spec.specs.declared.tree.Tree.TheVariants as tree
use Rattle.yaml_spec.specs.declared.tree.Pair.{Pair}
use Rattle.udb_schema.specs.declared.words.Schema.{Schema}
use Rattle.udb_schema.specs.declared.words.SchemaProperty.{SchemaProperty}
use Rattle.udb_schema.specs.declared.words.SchemaWord.{SchemaWord, out-SchemaWord}
use Rattle.udb_schema.specs.declared.words.SchemaWord.TheVariants as w
use Rattle.udb_schema.specs.declared.words.Word.{Word}
use Rattle.udb_schema.specs.declared.words.Additional.{Additional, out-Additional}
use Rattle.udb_schema.specs.declared.words.Additional.TheVariants as a
use Rattle.udb_schema.specs.declared.words.Additional.TheOpen.{SchemaWord-F, Additional-F}
use Rattle.udb_schema.specs.declared.words.Additional.TheViews.{roll-SchemaWord, roll-out-SchemaWord, roll-Additional, roll-out-Additional}
use Rattle.std.specs.Borrow.{Bor}
use Rattle.udb_schema.specs.declared.validating.SchemaFault.TheVariants.{At}
use Rattle.yaml_spec.specs.Trees.{items_of, entries_of}
use Rattle.yaml_spec.proofs.TreeLaws.{list_items, list_entries, map_items, map_entries}
use Rattle.udb_schema.specs.Equality.{Test}
use Rattle.udb_schema.specs.Meets.{Keys, Clause, meets, additional, property, named, met, met_by, allowed}
use Rattle.udb_schema.specs.Faults.{place_of, word_of, Layer, for_items_layer, word_for_items, for_key_layer, word_for_key, counts_layer, counts_here, is_closed, for_others, with_key, fails, all_meet, for_items, for_key, failing, failing_of, failing_words, first_failing, earliest, earlier, FirstFault, here, in_list, in_map, InItems, item, InEntries, entry}
use Rattle.udb_schema.specs.Validating.{behind}
use Rattle.udb_schema.proofs.WordLaws.{meets_law, clause-Items, clause-Properties, clause-AdditionalProperties, additional-Meets, closed-Closed, closed-Meets, others-Closed, others-Meets, earliest_more}

-- ---- tests of lists

all_same : {X : Type 0} (p q : X → Bool) → ((x : X) → p x ≡ q x) → (xs : List X) → list_all p xs ≡ list_all q xs
all_same p q h [] = refl
all_same p q h (x ∷ xs) = let e = h x in let f = all_same p q h xs in cc

all_true : {X : Type 0} (xs : List X) → list_all (λ x. true) xs ≡ true
all_true [] = refl
all_true (x ∷ xs) = all_true xs

and_swap : (a b c d : Bool) → ((a && b) && (c && d)) ≡ ((a && c) && (b && d))
and_swap true b true d = refl
and_swap true true false d = refl
and_swap true false false d = refl
and_swap false b c d = refl

and_true : (b : Bool) → (b && true) ≡ b
and_true true = refl
and_true false = refl

all_and : {X : Type 0} (p q : X → Bool) (xs : List X) → list_all (λ x. p x && q x) xs ≡ (list_all p xs && list_all q xs)
all_and p q [] = refl
all_and p q (x ∷ xs) = ap (λ b. (p x && q x) && b) (all_and p q xs) ∙ and_swap (p x) (q x) (list_all p xs) (list_all q xs)

-- What each part says of a node and its children, the parts together say.
spread : {X Y : Type 0} (kept fine : Y → Bool) (f : Y → X → List Schema) (v : X → Tree) (xs : List X) → ((y : Y) → kept y ≡ (fine y && list_all (λ x. all_meet (f y x) (v x)) xs)) → (ys : List Y) → list_all kept ys ≡ (list_all fine ys && list_all (λ x. all_meet (flat_map (λ y. f y x) ys) (v x)) xs)
spread kept fine f v xs h [] = sym (all_true xs)
spread {X} {Y} kept fine f v xs h (y ∷ ys) = both (h y) (spread kept fine f v xs h ys) ∙ (and_swap (fine y) (list_all (λ x. all_meet (f y x) (v x)) xs) (list_all fine ys) (list_all (λ x. all_meet (flat_map (λ y. f y x) ys) (v x)) xs) ∙ ap (λ b. (fine y && list_all fine ys) && b) (sym joined))
  where
    both : {a b c d : Bool} → a ≡ b → c ≡ d → (a && c) ≡ (b && d)
    both e g = cc

    joined : list_all (λ x. all_meet (f y x ++ flat_map (λ y. f y x) ys) (v x)) xs ≡ (list_all (λ x. all_meet (f y x) (v x)) xs && list_all (λ x. all_meet (flat_map (λ y. f y x) ys) (v x)) xs)
    joined = all_same (λ x. all_meet (f y x ++ flat_map (λ y. f y x) ys) (v x)) (λ x. all_meet (f y x) (v x) && all_meet (flat_map (λ y. f y x) ys) (v x)) (λ x. list_all-append (λ s. meets s (v x)) (f y x) (flat_map (λ y. f y x) ys)) xs ∙ all_and (λ x. all_meet (f y x) (v x)) (λ x. all_meet (flat_map (λ y. f y x) ys) (v x)) xs

split_at : {X : Type 0} (xs : List X) (i : ℕ) (x : X) → i < length xs → x ≡ get_or xs i x → xs ≡ take i xs ++ x ∷ drop (i + 1) xs
split_at xs i x l is = sym (take-append-drop i xs) ∙ ap (λ ys. take i xs ++ ys) (drop_more xs i x l ∙ ap (λ y. y ∷ drop (i + 1) xs) (sym is))

length_take : {X : Type 0} (xs : List X) (i : ℕ) → i < length xs → length (take i xs) ≡ i
length_take xs i l = length-take i xs ∙ omega arith

-- ---- one word

-- a word of its own node: c says that it counts there, b that it is met, d what it says of children
own_word : (b d : Bool) → d ≡ true → b ≡ (not (true && not b) && d)
own_word true d h = sym h
own_word false d h = refl

child_word : (b c d : Bool) → c ≡ false → b ≡ d → b ≡ (not (c && not b) && d)
child_word b false d h g = g
child_word b true d h g = absurd (cc)

closed_word : (b c d : Bool) → c ≡ true → d ≡ true → b ≡ (not (c && not b) && d)
closed_word b true d h g = own_word b d g
closed_word b false d h g = absurd (cc)

idle_word : (b c d : Bool) → b ≡ true → d ≡ true → b ≡ (not (c && not b) && d)
idle_word true true d h g = sym g
idle_word true false d h g = sym g
idle_word false c d h g = absurd (cc)

met-Items : (keys : Keys) (t : Tree) (s : Schema) → met keys (roll-SchemaWord (SchemaWord-F.Items s)) t ≡ met_by (items_of t) (list_all (meets s))
met-Items keys t s = ap (λ (v : SchemaWord). met keys v t) (w.rolls-Items s) ∙ ap (λ (c : Clause). c.test keys t) (clause-Items s)

met-Properties : (keys : Keys) (t : Tree) (ps : List SchemaProperty) → met keys (roll-SchemaWord (SchemaWord-F.Properties ps)) t ≡ met_by (entries_of t) (list_all (λ e. list_all (λ p. not (bytes_eq p.0 e.key) || p.1 e.value) (map property ps)))
met-Properties keys t ps = ap (λ (v : SchemaWord). met keys v t) (w.rolls-Properties ps) ∙ ap (λ (c : Clause). c.test keys t) (clause-Properties ps)

met-Additional : (keys : Keys) (t : Tree) (x : Additional) → met keys (roll-SchemaWord (SchemaWord-F.AdditionalProperties x)) t ≡ met_by (entries_of t) (list_all (λ e. keys e.key || allowed (additional x) e.value))
met-Additional keys t x = ap (λ (v : SchemaWord). met keys v t) (w.rolls-AdditionalProperties x) ∙ ap (λ (c : Clause). c.test keys t) (clause-AdditionalProperties x)

one_schema : (s : Schema) (x : Tree) → meets s x ≡ all_meet (s ∷ []) x
one_schema s x = sym (and_true (meets s x))

abbrev property_test : List SchemaProperty → Pair → Bool
property_test ps q = list_all (λ p. not (bytes_eq p.0 q.key) || p.1 q.value) (map property ps)

abbrev other_test : Keys → Additional → Pair → Bool
other_test keys x q = keys q.key || allowed (additional x) q.value

-- at a tree that is no list and no map
leaf_layer : (keys : Keys) (t : Tree) → items_of t ≡ None → entries_of t ≡ None → (o : Layer) → met keys (roll-SchemaWord o) t ≡ (not (counts_layer o && not (met keys (roll-SchemaWord o) t)) && true)
leaf_layer keys t e g (SchemaWord-F.Items s) = idle_word _ false true (met-Items keys t s ∙ ap (λ o. met_by o (list_all (meets s))) e) refl
leaf_layer keys t e g (SchemaWord-F.Properties ps) = idle_word _ false true (met-Properties keys t ps ∙ ap (λ o. met_by o (list_all (property_test ps))) g) refl
leaf_layer keys t e g (SchemaWord-F.AdditionalProperties x) = idle_word _ (is_closed x) true (met-Additional keys t x ∙ ap (λ o. met_by o (list_all (other_test keys x))) g) refl
leaf_layer keys t e g o = own_word (met keys (roll-SchemaWord o) t) true refl

-- at a list
list_layer : (keys : Keys) (t : Tree) (xs : List Tree) → items_of t ≡ Some xs → entries_of t ≡ None → (o : Layer) → met keys (roll-SchemaWord o) t ≡ (not (counts_layer o && not (met keys (roll-SchemaWord o) t)) && list_all (λ x. all_meet (for_items_layer o) x) xs)
list_layer keys t xs e g (SchemaWord-F.Items s) = child_word _ false (list_all (λ x. all_meet (s ∷ []) x) xs) refl (met-Items keys t s ∙ (ap (λ o. met_by o (list_all (meets s))) e ∙ all_same (meets s) (λ x. all_meet (s ∷ []) x) (one_schema s) xs))
list_layer keys t xs e g (SchemaWord-F.Properties ps) = idle_word _ false (list_all (λ x. true) xs) (met-Properties keys t ps ∙ ap (λ o. met_by o (list_all (property_test ps))) g) (all_true xs)
list_layer keys t xs e g (SchemaWord-F.AdditionalProperties x) = idle_word _ (is_closed x) (list_all (λ x. true) xs) (met-Additional keys t x ∙ ap (λ o. met_by o (list_all (other_test keys x))) g) (all_true xs)
list_layer keys t xs e g o = own_word (met keys (roll-SchemaWord o) t) (list_all (λ x. true) xs) (all_true xs)

-- the properties with a key
with_key_case : (b m r : Bool) (s : Schema) (ss : List Schema) (t : Tree) → m ≡ meets s t → r ≡ all_meet ss t → ((not b || m) && r) ≡ all_meet ((if b then s ∷ [] else []) ++ ss) t
with_key_case true m r s ss t h g = cc
with_key_case false m r s ss t h g = g

with_key_meets : (ps : List SchemaProperty) (key : List ℕ) (t : Tree) → list_all (λ p. not (bytes_eq p.0 key) || p.1 t) (map property ps) ≡ all_meet (with_key key ps) t
with_key_meets [] key t = refl
with_key_meets (p ∷ ps) key t = with_key_case (bytes_eq p.key key) (meets p.schema t) _ p.schema (with_key key ps) t refl (with_key_meets ps key t)

-- a value that no property names
no_schemas : (named : Bool) (ss : List Schema) (t : Tree) → ss ≡ [] → all_meet (if named then [] else ss) t ≡ true
no_schemas true ss t h = refl
no_schemas false ss t h = ap (λ ss. all_meet ss t) h

other_schema : (named : Bool) (o : Option Test) (ss : List Schema) (s : Schema) (t : Tree) → o ≡ Some (meets s) → ss ≡ s ∷ [] → (named || allowed o t) ≡ all_meet (if named then [] else ss) t
other_schema true o ss s t h g = refl
other_schema false o ss s t h g = ap (λ o. allowed o t) h ∙ (one_schema s t ∙ ap (λ ss. all_meet ss t) (sym g))

abbrev OthersSplit : Keys → Tree → List Pair → Additional → Type 0
OthersSplit keys t ps x = met keys (roll-SchemaWord (SchemaWord-F.AdditionalProperties x)) t ≡ (not (is_closed x && not (met keys (roll-SchemaWord (SchemaWord-F.AdditionalProperties x)) t)) && list_all (λ q. all_meet (if keys q.key then [] else for_others x) q.value) ps)

others_closed : (keys : Keys) (t : Tree) (ps : List Pair) → OthersSplit keys t ps a.Closed
others_closed keys t ps = closed_word _ (is_closed a.Closed) (list_all (λ q. all_meet (if keys q.key then [] else for_others a.Closed) q.value) ps) closed-Closed (all_same (λ q. all_meet (if keys q.key then [] else for_others a.Closed) q.value) (λ q. true) (λ q. no_schemas (keys q.key) (for_others a.Closed) q.value others-Closed) ps ∙ all_true ps)

others_open : (keys : Keys) (t : Tree) (ps : List Pair) (s : Schema) → entries_of t ≡ Some ps → OthersSplit keys t ps (a.Meets s)
others_open keys t ps s e = child_word _ (is_closed (a.Meets s)) (list_all (λ q. all_meet (if keys q.key then [] else for_others (a.Meets s)) q.value) ps) (closed-Meets s) (met-Additional keys t (a.Meets s) ∙ (ap (λ o. met_by o (list_all (other_test keys (a.Meets s)))) e ∙ all_same (other_test keys (a.Meets s)) (λ q. all_meet (if keys q.key then [] else for_others (a.Meets s)) q.value) (λ q. other_schema (keys q.key) (additional (a.Meets s)) (for_others (a.Meets s)) s q.value (additional-Meets s) (others-Meets s)) ps))

others_layer : (keys : Keys) (t : Tree) (ps : List Pair) → entries_of t ≡ Some ps → (o : Additional-F Additional SchemaWord Schema SchemaProperty) → OthersSplit keys t ps (roll-Additional o)
others_layer keys t ps e Additional-F.Closed = subst (OthersSplit keys t ps) (sym a.rolls-Closed) (others_closed keys t ps)
others_layer keys t ps e (Additional-F.Meets s) = subst (OthersSplit keys t ps) (sym (a.rolls-Meets s)) (others_open keys t ps s e)

-- at a map
map_layer : (keys : Keys) (t : Tree) (ps : List Pair) → items_of t ≡ None → entries_of t ≡ Some ps → (o : Layer) → met keys (roll-SchemaWord o) t ≡ (not (counts_layer o && not (met keys (roll-SchemaWord o) t)) && list_all (λ q. all_meet (for_key_layer keys q.key o) q.value) ps)
map_layer keys t ps e g (SchemaWord-F.Items s) = idle_word _ false (list_all (λ x. true) ps) (met-Items keys t s ∙ ap (λ o. met_by o (list_all (meets s))) e) (all_true ps)
map_layer keys t ps e g (SchemaWord-F.Properties vs) = child_word _ false (list_all (λ q. all_meet (with_key q.key vs) q.value) ps) refl (met-Properties keys t vs ∙ (ap (λ o. met_by o (list_all (property_test vs))) g ∙ all_same (property_test vs) (λ q. all_meet (with_key q.key vs) q.value) (λ q. with_key_meets vs q.key q.value) ps))
map_layer keys t ps e g (SchemaWord-F.AdditionalProperties x) = subst (OthersSplit keys t ps) (roll-out-Additional x) (others_layer keys t ps g (out-Additional x))
map_layer keys t ps e g o = own_word (met keys (roll-SchemaWord o) t) (list_all (λ x. true) ps) (all_true ps)

-- ---- each word

abbrev pub fine : Keys → Tree → SchemaWord → Bool
fine keys t v = not (fails keys t v)

leaf_word : (keys : Keys) (t : Tree) → items_of t ≡ None → entries_of t ≡ None → (v : SchemaWord) → met keys v t ≡ (fine keys t v && true)
unfolding counts_here
leaf_word keys t e g v = subst (λ (u : SchemaWord). met keys u t ≡ (not (counts_layer (out-SchemaWord v) && not (met keys u t)) && true)) (roll-out-SchemaWord v) (leaf_layer keys t e g (out-SchemaWord v))

list_word : (keys : Keys) (t : Tree) (xs : List Tree) → items_of t ≡ Some xs → entries_of t ≡ None → (v : SchemaWord) → met keys v t ≡ (fine keys t v && list_all (λ x. all_meet (word_for_items v) x) xs)
unfolding counts_here word_for_items
list_word keys t xs e g v = subst (λ (u : SchemaWord). met keys u t ≡ (not (counts_layer (out-SchemaWord v) && not (met keys u t)) && list_all (λ x. all_meet (for_items_layer (out-SchemaWord v)) x) xs)) (roll-out-SchemaWord v) (list_layer keys t xs e g (out-SchemaWord v))

map_word : (keys : Keys) (t : Tree) (ps : List Pair) → items_of t ≡ None → entries_of t ≡ Some ps → (v : SchemaWord) → met keys v t ≡ (fine keys t v && list_all (λ q. all_meet (word_for_key keys q.key v) q.value) ps)
unfolding counts_here word_for_key
map_word keys t ps e g v = subst (λ (u : SchemaWord). met keys u t ≡ (not (counts_layer (out-SchemaWord v) && not (met keys u t)) && list_all (λ q. all_meet (for_key_layer keys q.key (out-SchemaWord v)) q.value) ps)) (roll-out-SchemaWord v) (map_layer keys t ps e g (out-SchemaWord v))

-- ---- schemas

-- no word of the schema fails at the node itself
abbrev pub fine_schema : Tree → Schema → Bool
fine_schema t s = list_all (fine (named s.words) t) s.words

abbrev pub fine_all : List Schema → Tree → Bool
fine_all ss t = list_all (fine_schema t) ss

leaf_schema : (t : Tree) → items_of t ≡ None → entries_of t ≡ None → (s : Schema) → meets s t ≡ fine_schema t s
leaf_schema t e g s = meets_law s t ∙ all_same (λ v. met (named s.words) v t) (fine (named s.words) t) (λ v. leaf_word (named s.words) t e g v ∙ and_true _) s.words

leaf_schemas : (t : Tree) → items_of t ≡ None → entries_of t ≡ None → (ss : List Schema) → all_meet ss t ≡ fine_all ss t
leaf_schemas t e g ss = all_same (λ s. meets s t) (fine_schema t) (leaf_schema t e g) ss

list_schema : (xs : List Tree) (s : Schema) → meets s (tree.List xs) ≡ (fine_schema (tree.List xs) s && list_all (λ x. all_meet (flat_map word_for_items s.words) x) xs)
list_schema xs s = meets_law s (tree.List xs) ∙ spread (λ v. met (named s.words) v (tree.List xs)) (fine (named s.words) (tree.List xs)) (λ v x. word_for_items v) (λ x. x) xs (list_word (named s.words) (tree.List xs) xs (list_items xs) (list_entries xs)) s.words

pub list_schemas : (xs : List Tree) (ss : List Schema) → all_meet ss (tree.List xs) ≡ (fine_all ss (tree.List xs) && list_all (λ x. all_meet (for_items ss) x) xs)
list_schemas xs ss = spread (λ s. meets s (tree.List xs)) (fine_schema (tree.List xs)) (λ s x. flat_map word_for_items s.words) (λ x. x) xs (list_schema xs) ss

map_schema : (ps : List Pair) (s : Schema) → meets s (tree.Map ps) ≡ (fine_schema (tree.Map ps) s && list_all (λ q. all_meet (flat_map (word_for_key (named s.words) q.key) s.words) q.value) ps)
map_schema ps s = meets_law s (tree.Map ps) ∙ spread (λ v. met (named s.words) v (tree.Map ps)) (fine (named s.words) (tree.Map ps)) (λ v q. word_for_key (named s.words) q.key v) (λ q. q.value) ps (map_word (named s.words) (tree.Map ps) ps (map_items ps) (map_entries ps)) s.words

pub map_schemas : (ps : List Pair) (ss : List Schema) → all_meet ss (tree.Map ps) ≡ (fine_all ss (tree.Map ps) && list_all (λ q. all_meet (for_key q.key ss) q.value) ps)
map_schemas ps ss = spread (λ s. meets s (tree.Map ps)) (fine_schema (tree.Map ps)) (λ s q. flat_map (word_for_key (named s.words) q.key) s.words) (λ q. q.value) ps (map_schema ps) ss

-- ---- the words that fail at a node

abbrev is_nil : List Word → Bool
is_nil [] = true
is_nil (v ∷ vs) = false

nil-append : (vs us : List Word) → is_nil (vs ++ us) ≡ (is_nil vs && is_nil us)
nil-append [] us = refl
nil-append (v ∷ vs) us = refl

nil_case : (b r : Bool) (v : SchemaWord) (vs : List SchemaWord) → is_nil (map word_of vs) ≡ r → is_nil (map word_of (if b then v ∷ vs else vs)) ≡ (not b && r)
nil_case true r v vs h = refl
nil_case false r v vs h = h

nil_words : (keys : Keys) (t : Tree) (vs : List SchemaWord) → is_nil (failing_words keys t vs) ≡ list_all (fine keys t) vs
nil_words keys t [] = refl
nil_words keys t (v ∷ vs) = nil_case (fails keys t v) (list_all (fine keys t) vs) v (filter (fails keys t) vs) (nil_words keys t vs)

nil_failing : (t : Tree) (ss : List Schema) → is_nil (failing ss t) ≡ fine_all ss t
nil_failing t [] = refl
nil_failing t (s ∷ ss) = nil-append (failing_of t s) (failing ss t) ∙ both (nil_words (named s.words) t s.words) (nil_failing t ss)
  where
    both : {a b c d : Bool} → a ≡ b → c ≡ d → (a && c) ≡ (b && d)
    both e g = cc

earlier_some : (v w : Word) → (u : Word) × (earlier (Some v) w ≡ Some u)
earlier_some v w = go (nat_le (place_of v) (place_of w))
  where
    go : (b : Bool) → (u : Word) × ((if b then Some v else Some w) ≡ Some u)
    go true = (v, refl)
    go false = (w, refl)

earliest_some : (v : Word) (vs : List Word) → earliest (Some v) vs ≡ None → ⊥
earliest_some v [] h = absurd (cc)
earliest_some v (u ∷ vs) h = let e = earlier_some v u in earliest_some e.0 vs (ap (λ o. earliest o vs) (sym e.1) ∙ h)

earliest_none : (vs : List Word) → earliest None vs ≡ None → is_nil vs ≡ true
earliest_none [] h = refl
earliest_none (v ∷ vs) h = absurd (earliest_some v vs h)

earliest_found : (vs : List Word) (u : Word) → earliest None vs ≡ Some u → is_nil vs ≡ false
earliest_found [] u h = absurd (cc)
earliest_found (v ∷ vs) u h = refl

pub fine_where_none : (ss : List Schema) (t : Tree) → first_failing ss t ≡ None → fine_all ss t ≡ true
fine_where_none ss t h = sym (nil_failing t ss) ∙ earliest_none (failing ss t) h

pub fails_where_some : (ss : List Schema) (t : Tree) (u : Word) → first_failing ss t ≡ Some u → fine_all ss t ≡ false
fails_where_some ss t u h = sym (nil_failing t ss) ∙ earliest_found (failing ss t) u h

-- ---- whole trees

pub leaf_met : (ss : List Schema) (t : Tree) → items_of t ≡ None → entries_of t ≡ None → first_failing ss t ≡ None → all_meet ss t ≡ true
leaf_met ss t e g h = leaf_schemas t e g ss ∙ fine_where_none ss t h

pub list_met : (ss : List Schema) (xs : List Tree) → first_failing ss (tree.List xs) ≡ None → list_all (all_meet (for_items ss)) xs ≡ true → all_meet ss (tree.List xs) ≡ true
list_met ss xs h g = let e = list_schemas xs ss in let f = fine_where_none ss (tree.List xs) h in cc

pub map_met : (ss : List Schema) (ps : List Pair) → first_failing ss (tree.Map ps) ≡ None → list_all (λ q. all_meet (for_key q.key ss) q.value) ps ≡ true → all_meet ss (tree.Map ps) ≡ true
map_met ss ps h g = let e = map_schemas ps ss in let f = fine_where_none ss (tree.Map ps) h in cc

-- a word that fails at the root
fine_word : (keys : Keys) (t : Tree) (v : SchemaWord) → met keys v t ≡ true → fine keys t v ≡ true
fine_word keys t v h = go (counts_here v) (met keys v t) h
  where
    go : (c b : Bool) → b ≡ true → not (c && not b) ≡ true
    go true true h = refl
    go false true h = refl
    go c false h = absurd (cc)

all_weaker : {X : Type 0} (p q : X → Bool) → ((x : X) → p x ≡ true → q x ≡ true) → (xs : List X) → list_all p xs ≡ true → list_all q xs ≡ true
all_weaker p q h [] g = refl
all_weaker p q h (x ∷ xs) g = let a = h x (first (p x) (list_all p xs) g) in let b = all_weaker p q h xs (second (p x) (list_all p xs) g) in cc
  where
    first : (b c : Bool) → (b && c) ≡ true → b ≡ true
    first true c h = refl
    first false c h = absurd (cc)

    second : (b c : Bool) → (b && c) ≡ true → c ≡ true
    second true c h = h
    second false c h = absurd (cc)

fine_schema_met : (t : Tree) (s : Schema) → meets s t ≡ true → fine_schema t s ≡ true
fine_schema_met t s h = all_weaker (λ v. met (named s.words) v t) (fine (named s.words) t) (fine_word (named s.words) t) s.words (sym (meets_law s t) ∙ h)

root_fails : (ss : List Schema) (t : Tree) (u : Word) → first_failing ss t ≡ Some u → all_meet ss t ≡ false
root_fails ss t u h = go (all_meet ss t) refl
  where
    go : (b : Bool) → all_meet ss t ≡ b → all_meet ss t ≡ false
    go false e = e
    go true e = let f = all_weaker (λ s. meets s t) (fine_schema t) (fine_schema_met t) ss e in let g = fails_where_some ss t u h in absurd (cc)

and_false : (b c : Bool) → c ≡ false → (b && c) ≡ false
and_false true c h = h
and_false false c h = refl

middle_fails : {X : Type 0} (p : X → Bool) (before after : List X) (x : X) → p x ≡ false → list_all p (before ++ x ∷ after) ≡ false
middle_fails p before after x h = list_all-append p before (x ∷ after) ∙ and_false (list_all p before) (list_all p (x ∷ after)) (ap (λ b. b && list_all p after) h)

mutual
  -- A tree with a first failing place doesn't meet the schemas.
  pub fault_refutes : {ss : List Schema} {t : Tree} {path : List ℕ} {u : Word} → FirstFault ss t path u → all_meet ss t ≡ false
  fault_refutes {ss} {t} {path} {u} (here e) = root_fails ss t u e
  fault_refutes {ss} (in_list {xs = xs} e i) = list_schemas xs ss ∙ and_false (fine_all ss (tree.List xs)) (list_all (λ x. all_meet (for_items ss) x) xs) (item_refutes i)
  fault_refutes {ss} (in_map {ps = ps} e i) = map_schemas ps ss ∙ and_false (fine_all ss (tree.Map ps)) (list_all (λ q. all_meet (for_key q.key ss) q.value) ps) (entry_refutes i)

  item_refutes : {ss : List Schema} {xs : List Tree} {path : List ℕ} {u : Word} → InItems ss xs path u → list_all (all_meet (for_items ss)) xs ≡ false
  item_refutes {ss} (item before x after h f) = middle_fails (all_meet (for_items ss)) before after x (fault_refutes f)

  entry_refutes : {ss : List Schema} {ps : List Pair} {path : List ℕ} {u : Word} → InEntries ss ps path u → list_all (λ q. all_meet (for_key q.key ss) q.value) ps ≡ false
  entry_refutes {ss} (entry before p after h f) = middle_fails (λ q. all_meet (for_key q.key ss) q.value) before after p (fault_refutes f)

-- ---- faults in a list or map, by index

pub item_at : (ss : List Schema) (xs : List Tree) (i : ℕ) (x : Tree) (rest path : List ℕ) (u : Word) → i < length xs → x ≡ get_or xs i x → list_all (all_meet (for_items ss)) (take i xs) ≡ true → FirstFault (for_items ss) x rest u → path ≡ 47 ∷ decimal i ++ rest → InItems ss xs path u
item_at ss xs i x rest path u l is before f e = subst (λ (ys : List Tree). InItems ss ys path u) (sym (split_at xs i x l is)) (subst (λ (p : List ℕ). InItems ss (take i xs ++ x ∷ drop (i + 1) xs) p u) (ap (λ (n : ℕ). 47 ∷ decimal n ++ rest) (length_take xs i l) ∙ sym e) (item (take i xs) x (drop (i + 1) xs) before f))

pub entry_at : (ss : List Schema) (ps : List Pair) (i : ℕ) (p : Pair) (rest path : List ℕ) (u : Word) → i < length ps → p ≡ get_or ps i p → list_all (λ q. all_meet (for_key q.key ss) q.value) (take i ps) ≡ true → FirstFault (for_key p.key ss) p.value rest u → path ≡ 47 ∷ p.key ++ rest → InEntries ss ps path u
entry_at ss ps i p rest path u l is before f e = subst (λ (ys : List Pair). InEntries ss ys path u) (sym (split_at ps i p l is)) (subst (λ (k : List ℕ). InEntries ss (take i ps ++ p ∷ drop (i + 1) ps) k u) (sym e) (entry (take i ps) p (drop (i + 1) ps) before f))

-- ---- answers

none_left : (o : Option Word) → ((x : Word) → o ≡ Some x → ⊥) → o ≡ None
none_left None h = refl
none_left (Some x) h = absurd (h x refl)

none_failing : (o : Option Word) (ss : List Schema) (t : Tree) → o ≡ first_failing ss t → ((x : Word) → o ≡ Some x → ⊥) → first_failing ss t ≡ None
none_failing o ss t e h = sym e ∙ none_left o h

pub root_fault : (ss : List Schema) (t : Tree) (p path : List ℕ) (v u : Word) → first_failing ss t ≡ Some v → p ≡ [] → At p v ≡ At path u → FirstFault ss t path u
root_fault ss t p path v u f e h = let same : v ≡ u = cc in let root : [] ≡ path = cc in subst (λ (q : List ℕ). FirstFault ss t q u) root (here (f ∙ ap Some same))

pub leaf_answer : (o : Option Word) (ss : List Schema) (t : Tree) → o ≡ first_failing ss t → ((x : Word) → o ≡ Some x → ⊥) → items_of t ≡ None → entries_of t ≡ None → all_meet ss t ≡ true
leaf_answer o ss t e h g k = leaf_met ss t g k (none_failing o ss t e h)

pub list_answer : (o : Option Word) (ss : List Schema) (t : Tree) (xs ys : List Tree) → o ≡ first_failing ss t → ((x : Word) → o ≡ Some x → ⊥) → t ≡ tree.List xs → ys ≡ xs → list_all (all_meet (for_items ss)) ys ≡ true → all_meet ss t ≡ true
list_answer o ss t xs ys e h is same g = ap (all_meet ss) is ∙ list_met ss xs (ap (first_failing ss) (sym is) ∙ none_failing o ss t e h) (ap (list_all (all_meet (for_items ss))) (sym same) ∙ g)

pub map_answer : (o : Option Word) (ss : List Schema) (t : Tree) (ps qs : List Pair) → o ≡ first_failing ss t → ((x : Word) → o ≡ Some x → ⊥) → t ≡ tree.Map ps → qs ≡ ps → list_all (λ q. all_meet (for_key q.key ss) q.value) qs ≡ true → all_meet ss t ≡ true
map_answer o ss t ps qs e h is same g = ap (all_meet ss) is ∙ map_met ss ps (ap (first_failing ss) (sym is) ∙ none_failing o ss t e h) (ap (list_all (λ q. all_meet (for_key q.key ss) q.value)) (sym same) ∙ g)

pub list_fault : (o : Option Word) (ss : List Schema) (t : Tree) (xs ys : List Tree) (path : List ℕ) (u : Word) → o ≡ first_failing ss t → ((x : Word) → o ≡ Some x → ⊥) → t ≡ tree.List xs → ys ≡ xs → InItems ss ys path u → FirstFault ss t path u
list_fault o ss t xs ys path u e h is same i = subst (λ (t : Tree). FirstFault ss t path u) (sym is) (in_list (ap (first_failing ss) (sym is) ∙ none_failing o ss t e h) (subst (λ (ys : List Tree). InItems ss ys path u) same i))

pub map_fault : (o : Option Word) (ss : List Schema) (t : Tree) (ps qs : List Pair) (path : List ℕ) (u : Word) → o ≡ first_failing ss t → ((x : Word) → o ≡ Some x → ⊥) → t ≡ tree.Map ps → qs ≡ ps → InEntries ss qs path u → FirstFault ss t path u
map_fault o ss t ps qs path u e h is same i = subst (λ (t : Tree). FirstFault ss t path u) (sym is) (in_map (ap (first_failing ss) (sym is) ∙ none_failing o ss t e h) (subst (λ (qs : List Pair). InEntries ss qs path u) same i))

pub fault_of : {ss : List Schema} {t : Tree} {path : List ℕ} {u : Word} (rs : List Schema) → ss ≡ rs → FirstFault ss t path u → FirstFault rs t path u
fault_of {ss} {t} {path} {u} rs e f = subst (λ (rs : List Schema). FirstFault rs t path u) e f

pub one_refutes : {s : Schema} {t : Tree} {path : List ℕ} {u : Word} → FirstFault (s ∷ []) t path u → meets s t ≡ false
one_refutes {s} {t} f = one_schema s t ∙ fault_refutes f

pub one_met : (s : Schema) (t : Tree) → all_meet (s ∷ []) t ≡ true → meets s t ≡ true
one_met s t h = one_schema s t ∙ h

-- one more schema
pub failing_step : (ss : List (Bor Schema)) (i : ℕ) (s : Bor Schema) (t : Tree) (v : Option Word) → i < length ss → s ≡ get_or ss i s → earliest (earliest v (failing_of t s.now)) (failing (behind (drop (i + 1) ss)) t) ≡ earliest v (failing (behind (drop i ss)) t)
failing_step ss i s t v l is = rw (drop_more ss i s l, ← is) (sym (earliest_more v (failing_of t s.now) (failing (behind (drop (i + 1) ss)) t)))
