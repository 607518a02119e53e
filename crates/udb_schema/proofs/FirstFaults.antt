-- A tree that doesn't meet the schemas has a first failing place, and just one.
use Rattle.std.proofs.Common.{◌≡◌, ℕ, Bool, true, false, ◌&&◌, List, [], ◌∷◌, ◌++◌, length, map, Option, Some, None, Result, Ok, Err, IsOk, refl, ap, sym, ◌∙◌, subst, append_assoc}
use Rattle.std.specs.List.{list_all}
use Rattle.std.specs.Fmt.{decimal}
use Rattle.std.proofs.lemmas.List.Folds.{list_all-append}
use Rattle.yaml_spec.specs.declared.tree.Tree.{Tree}
use Rattle.yaml_spec.specs.declared.tree.Tree.TheVariants as tree
use Rattle.yaml_spec.specs.declared.tree.Tree.TheOpen.{Tree-F}
use Rattle.yaml_spec.specs.declared.tree.Tree.TheViews.{roll-Tree, roll-Pair}
use Rattle.yaml_spec.specs.declared.tree.Tree.TheFolds.{ind-Tree, map-Tree}
use Rattle.yaml_spec.specs.declared.tree.Pair.{Pair}
use Rattle.udb_schema.specs.declared.words.Schema.{Schema}
use Rattle.udb_schema.specs.declared.words.Word.{Word}
use Rattle.udb_schema.specs.declared.validating.SchemaFault.{SchemaFault}
use Rattle.udb_schema.specs.declared.validating.SchemaFault.TheVariants.{Memory, At}
use Rattle.yaml_spec.specs.Trees.{Layer, items_of, entries_of, items_layer, entries_layer}
use Rattle.yaml_spec.proofs.TreeLaws.{list_items, map_items, map_entries, items_rolled, entries_rolled}
use Rattle.udb_schema.specs.Meets.{meets}
use Rattle.udb_schema.specs.Faults.{all_meet, for_items, for_key, first_failing, FirstFault, here, in_list, in_map, InItems, item, InEntries, entry}
use Rattle.udb_schema.proofs.MeetLemmas.{fault_refutes, one_refutes, leaf_met, fine_where_none, list_schemas, map_schemas}

-- ---- what a fault comes from

pub data Came (ss : List Schema) (t : Tree) (path : List ℕ) (u : Word) : Type 0 where
  at_root : first_failing ss t ≡ Some u → path ≡ [] → Came ss t path u
  at_item : (xs : List Tree) → first_failing ss t ≡ None → t ≡ tree.List xs → InItems ss xs path u → Came ss t path u
  at_entry : (ps : List Pair) → first_failing ss t ≡ None → t ≡ tree.Map ps → InEntries ss ps path u → Came ss t path u

came : {ss : List Schema} {t : Tree} {path : List ℕ} {u : Word} → FirstFault ss t path u → Came ss t path u
came (here e) = at_root e refl
came (in_list {xs = xs} e i) = at_item xs e refl i
came (in_map {ps = ps} e i) = at_entry ps e refl i

pub record Split {X : Type 0} (P : X → List ℕ → Word → Type 0) (key : List X → X → List ℕ) (good : X → Bool) (xs : List X) (path : List ℕ) (u : Word) : Type 0 where
  pub before : List X
  pub x : X
  pub after : List X
  pub rest : List ℕ
  pub whole : xs ≡ before ++ x ∷ after
  pub met : list_all good before ≡ true
  pub fault : P x rest u
  pub named : path ≡ 47 ∷ key before x ++ rest

abbrev ItemSplit : List Schema → List Tree → List ℕ → Word → Type 0
ItemSplit ss = Split (λ x path u. FirstFault (for_items ss) x path u) (λ before x. decimal (length before)) (all_meet (for_items ss))

abbrev EntrySplit : List Schema → List Pair → List ℕ → Word → Type 0
EntrySplit ss = Split (λ p path u. FirstFault (for_key p.key ss) p.value path u) (λ before p. p.key) (λ q. all_meet (for_key q.key ss) q.value)

item_split : {ss : List Schema} {xs : List Tree} {path : List ℕ} {u : Word} → InItems ss xs path u → ItemSplit ss xs path u
item_split (item before x after {path = path} h f) = record { before = before; x = x; after = after; rest = path; whole = refl; met = h; fault = f; named = refl }

entry_split : {ss : List Schema} {ps : List Pair} {path : List ℕ} {u : Word} → InEntries ss ps path u → EntrySplit ss ps path u
entry_split (entry before p after {path = path} h f) = record { before = before; x = p; after = after; rest = path; whole = refl; met = h; fault = f; named = refl }

-- ---- two ways to split a list at its first bad element are one

first_and : (b c : Bool) → (b && c) ≡ true → b ≡ true
first_and true c h = refl
first_and false c h = absurd (cc)

second_and : (b c : Bool) → (b && c) ≡ true → c ≡ true
second_and true c h = h
second_and false c h = absurd (cc)

one_split : {X : Type 0} (good : X → Bool) (bs cs xs ys : List X) (x y : X) → bs ++ x ∷ xs ≡ cs ++ y ∷ ys → list_all good bs ≡ true → list_all good cs ≡ true → good x ≡ false → good y ≡ false → (bs ≡ cs) × (x ≡ y)
one_split good [] [] xs ys x y e hb hc hx hy = (refl, (let h : x ≡ y = cc in h))
one_split good [] (c ∷ cs) xs ys x y e hb hc hx hy = let same : x ≡ c = cc in let is = first_and (good c) (list_all good cs) hc in absurd (cc)
one_split good (b ∷ bs) [] xs ys x y e hb hc hx hy = let same : b ≡ y = cc in let is = first_and (good b) (list_all good bs) hb in absurd (cc)
one_split good (b ∷ bs) (c ∷ cs) xs ys x y e hb hc hx hy =
    let same : b ≡ c = cc in
    let rest = one_split good bs cs xs ys x y (let h : bs ++ x ∷ xs ≡ cs ++ y ∷ ys = cc in h) (second_and (good b) (list_all good bs) hb) (second_and (good c) (list_all good cs) hc) hx hy in
    let all : bs ≡ cs = rest.0 in
    ((let h : b ∷ bs ≡ c ∷ cs = cc in h), rest.1)

some_same : {X : Type 0} (x y : X) → Some x ≡ Some y → x ≡ y
some_same x y e = cc

lists_same : (xs ys : List Tree) → tree.List xs ≡ tree.List ys → xs ≡ ys
lists_same xs ys e = some_same xs ys (sym (list_items xs) ∙ (ap items_of e ∙ list_items ys))

maps_same : (ps qs : List Pair) → tree.Map ps ≡ tree.Map qs → ps ≡ qs
maps_same ps qs e = some_same ps qs (sym (map_entries ps) ∙ (ap entries_of e ∙ map_entries qs))

list_no_map : (xs : List Tree) (ps : List Pair) → tree.List xs ≡ tree.Map ps → ⊥
list_no_map xs ps e = let h : Some xs ≡ None = sym (list_items xs) ∙ (ap items_of e ∙ map_items ps) in absurd (cc)

abbrev Same : List ℕ → List ℕ → Word → Word → Type 0
Same p q u v = (p ≡ q) × (u ≡ v)

root_same : (ss : List Schema) (t : Tree) (u v : Word) (q : List ℕ) → first_failing ss t ≡ Some u → Came ss t q v → Same [] q u v
root_same ss t u v q e (at_root g h) = (sym h, some_same u v (sym e ∙ g))
root_same ss t u v q e (at_item xs g h i) = absurd (let bad : Some u ≡ None = sym e ∙ g in cc)
root_same ss t u v q e (at_entry ps g h i) = absurd (let bad : Some u ≡ None = sym e ∙ g in cc)

list_same : (ss : List Schema) (xs : List Tree) (p q : List ℕ) (u v : Word) → first_failing ss (tree.List xs) ≡ None → Came ss (tree.List xs) q v → (InItems ss xs q v → Same p q u v) → Same p q u v
list_same ss xs p q u v e (at_root g h) k = absurd (let bad : Some v ≡ None = sym g ∙ e in cc)
list_same ss xs p q u v e (at_item ys g h i) k = k (subst (λ (ys : List Tree). InItems ss ys q v) (sym (lists_same xs ys h)) i)
list_same ss xs p q u v e (at_entry ps g h i) k = absurd (list_no_map xs ps h)

map_same : (ss : List Schema) (ps : List Pair) (p q : List ℕ) (u v : Word) → first_failing ss (tree.Map ps) ≡ None → Came ss (tree.Map ps) q v → (InEntries ss ps q v → Same p q u v) → Same p q u v
map_same ss ps p q u v e (at_root g h) k = absurd (let bad : Some v ≡ None = sym g ∙ e in cc)
map_same ss ps p q u v e (at_item xs g h i) k = absurd (list_no_map xs ps (sym h))
map_same ss ps p q u v e (at_entry qs g h i) k = k (subst (λ (qs : List Pair). InEntries ss qs q v) (sym (maps_same ps qs h)) i)

item_same : (ss : List Schema) (before after : List Tree) (x : Tree) (path q : List ℕ) (u v : Word) → list_all (all_meet (for_items ss)) before ≡ true → all_meet (for_items ss) x ≡ false → ItemSplit ss (before ++ x ∷ after) q v → ((r : List ℕ) → FirstFault (for_items ss) x r v → Same path r u v) → Same (47 ∷ decimal (length before) ++ path) q u v
item_same ss before after x path q u v h bad s k =
    let one = one_split (all_meet (for_items ss)) before s.before after s.after x s.x s.whole h s.met bad (fault_refutes s.fault) in
    let end = k s.rest (subst (λ (y : Tree). FirstFault (for_items ss) y s.rest v) (sym one.1) s.fault) in
    (ap (λ (b : List Tree). 47 ∷ decimal (length b) ++ path) one.0 ∙ (ap (λ (r : List ℕ). 47 ∷ decimal (length s.before) ++ r) end.0 ∙ sym s.named), end.1)

entry_same : (ss : List Schema) (before after : List Pair) (x : Pair) (path q : List ℕ) (u v : Word) → list_all (λ p. all_meet (for_key p.key ss) p.value) before ≡ true → all_meet (for_key x.key ss) x.value ≡ false → EntrySplit ss (before ++ x ∷ after) q v → ((r : List ℕ) → FirstFault (for_key x.key ss) x.value r v → Same path r u v) → Same (47 ∷ x.key ++ path) q u v
entry_same ss before after x path q u v h bad s k =
    let one = one_split (λ p. all_meet (for_key p.key ss) p.value) before s.before after s.after x s.x s.whole h s.met bad (fault_refutes s.fault) in
    let end = k s.rest (subst (λ (y : Pair). FirstFault (for_key y.key ss) y.value s.rest v) (sym one.1) s.fault) in
    (ap (λ (y : Pair). 47 ∷ y.key ++ path) one.1 ∙ (ap (λ (r : List ℕ). 47 ∷ s.x.key ++ r) end.0 ∙ sym s.named), end.1)

mutual
  -- There is one first failing place.
  pub fault_unique : {ss : List Schema} {t : Tree} {p : List ℕ} {u : Word} → FirstFault ss t p u → (q : List ℕ) (v : Word) → FirstFault ss t q v → Same p q u v
  fault_unique {ss} {t} {p} {u} (here e) q v g = root_same ss t u v q e (came g)
  fault_unique {ss} {p = p} {u = u} (in_list {xs = xs} e i) q v g = list_same ss xs p q u v e (came g) (λ j. items_unique i q v j)
  fault_unique {ss} {p = p} {u = u} (in_map {ps = ps} e i) q v g = map_same ss ps p q u v e (came g) (λ j. entries_unique i q v j)

  items_unique : {ss : List Schema} {xs : List Tree} {p : List ℕ} {u : Word} → InItems ss xs p u → (q : List ℕ) (v : Word) → InItems ss xs q v → Same p q u v
  items_unique {ss} (item before x after {path = path} {w = u} h f) q v j = item_same ss before after x path q u v h (fault_refutes f) (item_split j) (λ r g. fault_unique f r v g)

  entries_unique : {ss : List Schema} {ps : List Pair} {p : List ℕ} {u : Word} → InEntries ss ps p u → (q : List ℕ) (v : Word) → InEntries ss ps q v → Same p q u v
  entries_unique {ss} (entry before x after {path = path} {w = u} h f) q v j = entry_same ss before after x path q u v h (fault_refutes f) (entry_split j) (λ r g. fault_unique f r v g)

-- ---- there is a first failing place

abbrev pub Found : List Schema → Tree → Type 0
Found ss t = (path : List ℕ) × (u : Word) × FirstFault ss t path u

-- each tree that doesn't meet schemas has a first failing place
abbrev Finds : Tree → Type 0
Finds t = (ss : List Schema) → all_meet ss t ≡ false → Found ss t

abbrev Each : {X : Type 0} → (X → Type 0) → List X → Type 0
Each P [] = Unit {0}
Each P (x ∷ xs) = P x × Each P xs

each : {X : Type 0} (P : X → Type 0) (ys : List ((x : X) × P x)) → Each P (map (λ e. e.0) ys)
each P [] = tt
each P (y ∷ ys) = (y.1, each P ys)

one_more : {X : Type 0} (good : X → Bool) (xs : List X) (x : X) → list_all good xs ≡ true → good x ≡ true → list_all good (xs ++ x ∷ []) ≡ true
one_more good xs x h g = list_all-append good xs (x ∷ []) ∙ (let e : list_all good (x ∷ []) ≡ true = ap (λ b. b && true) g in let f : (list_all good xs && list_all good (x ∷ [])) ≡ (true && true) = cc in f)

rest_fails : (b c : Bool) → b ≡ true → (b && c) ≡ false → c ≡ false
rest_fails true c h g = g
rest_fails false c h g = absurd (cc)

abbrev FoundItem : List Schema → List Tree → Type 0
FoundItem ss xs = (path : List ℕ) × (u : Word) × InItems ss xs path u

find_item : (ss : List Schema) (ys before : List Tree) → list_all (all_meet (for_items ss)) before ≡ true → Each Finds ys → list_all (all_meet (for_items ss)) ys ≡ false → FoundItem ss (before ++ ys)
find_item ss [] before h e g = absurd (cc)
find_item ss (y ∷ ys) before h e g = go (all_meet (for_items ss) y) refl (λ k. find_item ss ys (before ++ y ∷ []) (one_more (all_meet (for_items ss)) before y h k) e.1 (rest_fails (all_meet (for_items ss) y) (list_all (all_meet (for_items ss)) ys) k g))
  where
    go : (b : Bool) → all_meet (for_items ss) y ≡ b → (all_meet (for_items ss) y ≡ true → FoundItem ss ((before ++ y ∷ []) ++ ys)) → FoundItem ss (before ++ y ∷ ys)
    go true is k = subst (FoundItem ss) (append_assoc before (y ∷ []) ys) (k is)
    go false is k = let f = e.0 (for_items ss) is in (47 ∷ decimal (length before) ++ f.0, f.1, item before y ys h f.2)

abbrev FoundEntry : List Schema → List Pair → Type 0
FoundEntry ss ps = (path : List ℕ) × (u : Word) × InEntries ss ps path u

abbrev value_meets : List Schema → Pair → Bool
value_meets ss q = all_meet (for_key q.key ss) q.value

find_entry : (ss : List Schema) (ys before : List Pair) → list_all (value_meets ss) before ≡ true → Each (λ p. Finds p.value) ys → list_all (value_meets ss) ys ≡ false → FoundEntry ss (before ++ ys)
find_entry ss [] before h e g = absurd (cc)
find_entry ss (y ∷ ys) before h e g = go (value_meets ss y) refl (λ k. find_entry ss ys (before ++ y ∷ []) (one_more (value_meets ss) before y h k) e.1 (rest_fails (value_meets ss y) (list_all (value_meets ss) ys) k g))
  where
    go : (b : Bool) → value_meets ss y ≡ b → (value_meets ss y ≡ true → FoundEntry ss ((before ++ y ∷ []) ++ ys)) → FoundEntry ss (before ++ y ∷ ys)
    go true is k = subst (FoundEntry ss) (append_assoc before (y ∷ []) ys) (k is)
    go false is k = let f = e.0 (for_key y.key ss) is in (47 ∷ y.key ++ f.0, f.1, entry before y ys h f.2)

bad_children : (b c : Bool) → b ≡ true → (b && c) ≡ false → c ≡ false
bad_children = rest_fails

at_node : (ss : List Schema) (t : Tree) (o : Option Word) → first_failing ss t ≡ o → (first_failing ss t ≡ None → Found ss t) → Found ss t
at_node ss t (Some u) e k = ([], u, here e)
at_node ss t None e k = k e

in_leaf : (t : Tree) → items_of t ≡ None → entries_of t ≡ None → Finds t
in_leaf t e g ss h = at_node ss t (first_failing ss t) refl (λ n. absurd (let m = leaf_met ss t e g n in cc))

rolled_leaf : (o : Layer) → items_layer o ≡ None → entries_layer o ≡ None → Finds (roll-Tree o)
rolled_leaf o e g = in_leaf (roll-Tree o) (items_rolled o ∙ e) (entries_rolled o ∙ g)

in_items : (xs : List Tree) → Each Finds xs → Finds (tree.List xs)
in_items xs e ss h = at_node ss (tree.List xs) (first_failing ss (tree.List xs)) refl (λ n. let f = find_item ss xs [] refl e (bad_children _ _ (fine_where_none ss (tree.List xs) n) (sym (list_schemas xs ss) ∙ h)) in (f.0, f.1, in_list n f.2))

in_entries : (ps : List Pair) → Each (λ p. Finds p.value) ps → Finds (tree.Map ps)
in_entries ps e ss h = at_node ss (tree.Map ps) (first_failing ss (tree.Map ps)) refl (λ n. let f = find_entry ss ps [] refl e (bad_children _ _ (fine_where_none ss (tree.Map ps) n) (sym (map_schemas ps ss) ∙ h)) in (f.0, f.1, in_map n f.2))

abbrev FindsIn : Pair → Type 0
FindsIn p = Finds p.value

finds_layer : (y : Tree-F ((t : Tree) × Finds t) ((p : Pair) × FindsIn p)) → Finds (roll-Tree (map-Tree ((t : Tree) × Finds t) ((p : Pair) × FindsIn p) Tree Pair (λ e. e.0) (λ e. e.0) y))
finds_layer Tree-F.Null = rolled_leaf Tree-F.Null refl refl
finds_layer (Tree-F.Flag b) = rolled_leaf (Tree-F.Flag b) refl refl
finds_layer (Tree-F.Int z) = rolled_leaf (Tree-F.Int z) refl refl
finds_layer (Tree-F.Text s) = rolled_leaf (Tree-F.Text s) refl refl
finds_layer (Tree-F.List ys) = subst Finds (sym (tree.rolls-List (map (λ e. e.0) ys))) (in_items (map (λ e. e.0) ys) (each Finds ys))
finds_layer (Tree-F.Map ys) = subst Finds (sym (tree.rolls-Map (map (λ e. e.0) ys))) (in_entries (map (λ e. e.0) ys) (each FindsIn ys))

pub fault_found : (t : Tree) → Finds t
fault_found t = ind-Tree Finds FindsIn (λ x y is. subst (λ z. Finds (roll-Tree z)) is (finds_layer y)) (λ x y is. subst (λ z. FindsIn (roll-Pair z)) is y.value.1) t

-- ---- the answers of `validate`, turned round

pub met_is_ok : (s : Schema) (t : Tree) (r : Result (Unit {0}) SchemaFault) → ((path : List ℕ) (u : Word) → r ≡ Err (At path u) → meets s t ≡ false) → meets s t ≡ true → (r ≡ Err Memory → ⊥) → IsOk r
met_is_ok s t (Ok x) h m n = refl
met_is_ok s t (Err Memory) h m n = absurd (n refl)
met_is_ok s t (Err (At path u)) h m n = let e = h path u refl in absurd (cc)

pub fault_is_named : (s : Schema) (t : Tree) (r : Result (Unit {0}) SchemaFault) → (IsOk r → meets s t ≡ true) → ((path : List ℕ) (u : Word) → r ≡ Err (At path u) → FirstFault (s ∷ []) t path u) → (path : List ℕ) (u : Word) → FirstFault (s ∷ []) t path u → (r ≡ Err Memory → ⊥) → r ≡ Err (At path u)
fault_is_named s t (Ok x) h g path u f n = let m = h refl in let e = one_refutes f in absurd (cc)
fault_is_named s t (Err Memory) h g path u f n = absurd (n refl)
fault_is_named s t (Err (At q v)) h g path u f n = let one = fault_unique (g q v refl) path u f in let a : q ≡ path = one.0 in let b : v ≡ u = one.1 in cc
