-- A parameter whose tree meets the schema of its kind has a value, where its domain lists values.
use Rattle.std.proofs.Common.{◌≡◌, ℕ, zero, suc, ◌<◌, ◌≤◌, nat_le, Bool, true, false, not, ◌&&◌, ◌||◌, is_some, List, [], ◌∷◌, length, get_or, map, Option, Some, None, refl, sym, ap, subst, ◌∙◌, arith, if◌then◌else◌}
use Rattle.std.specs.Prelude.{codes}
use Rattle.std.specs.Ordering.{int_eq}
use Rattle.std.specs.List.{list_all}
use Rattle.std.specs.Option.{unwrap_or, option_map_or}
use Rattle.std.specs.Str.{bytes_eq}
use Rattle.std.specs.Cmp.Lexicographic.{bytes_decides}
use Rattle.std.proofs.lemmas.List.{length-map}
use Rattle.std.proofs.lemmas.Bool.Decides.{nat_tests}
use Rattle.yaml_spec.specs.declared.tree.Tree.{Tree, out-Tree}
use Rattle.yaml_spec.specs.declared.tree.Tree.TheVariants as tree
use Rattle.yaml_spec.specs.declared.tree.Tree.TheVariants.{Text}
use Rattle.yaml_spec.specs.declared.tree.Tree.TheOpen.{Tree-F}
use Rattle.yaml_spec.specs.declared.tree.Tree.TheViews.{roll-Tree, roll-out-Tree}
use Rattle.yaml_spec.specs.declared.tree.Pair.{Pair}
use Rattle.yaml_spec.specs.Trees.{Layer, is_null_layer, flag_layer, int_layer, text_layer, items_layer, entries_layer, is_null, flag_of, int_of, text_of, items_of, entries_of, value_under}
use Rattle.yaml_spec.specs.Line.{has_key}
use Rattle.yaml_spec.proofs.TreeLaws.{out-Text}
use Rattle.udb_schema.specs.declared.words.TypeName.TheVariants as type
use Rattle.udb_schema.specs.declared.words.Schema.{Schema}
use Rattle.udb_schema.specs.declared.words.SchemaWord.{SchemaWord}
use Rattle.udb_schema.specs.declared.words.SchemaWord.TheVariants as word
use Rattle.udb_schema.specs.declared.words.SchemaProperty.{SchemaProperty}
use Rattle.udb_schema.specs.declared.words.Additional.TheVariants.{Closed}
use Rattle.udb_schema.specs.Equality.{Test, holds_of, same, same_flags, same_items, same_entries, entry}
use Rattle.udb_schema.specs.Meets.{Keys, met_by, has_keys, has_property, meets_properties, is_named_or_allowed, meets, property, named, met}
use Rattle.udb_schema.proofs.TreeLaws.{same-Null, same-Flag, same-Int, same-Text, same-List, same-Map}
use Rattle.udb_schema.proofs.WordLaws.{meets_law, clause-Type, clause-Const, clause-MinItems, clause-Required, clause-AdditionalProperties, clause-Properties, clause-AnyOf, additional-Closed}
use Rattle.udb_base.specs.declared.spaces.Domain.{Domain}
use Rattle.udb_base.specs.declared.spaces.Domain.TheVariants.{Flags, Numbers, Range, Words}
use Rattle.udb_entry.specs.Keys.{items_in, text_in, number_in, value_at, items_at, text_at, number_at}
use Rattle.entry_form.specs.declared.tables.Table.{Table}
use Rattle.entry_form.specs.Forms.{Key, schema, exactly, list_of, map_words, number_value, text_value, common, titled, boolean_domain, listed_domain, ranged_domain, domain_schema, parameter_rows, parameter_schema}
use Rattle.udb_entry.specs.Entries.{number_domain, domain_of, domain_at}
use Rattle.udb_db.proofs.DomainLaws.{HasSome}

-- ---- tests

first : (b c : Bool) → (b && c) ≡ true → b ≡ true
first true c h = refl
first false c h = absurd (cc)

second : (b c : Bool) → (b && c) ≡ true → c ≡ true
second true c h = h
second false c h = absurd (cc)

or_false : (b : Bool) → (b || false) ≡ b
or_false true = refl
or_false false = refl

passes : {X : Type 0} (p : X → Bool) (xs : List X) (k : ℕ) (x : X) → k < length xs → get_or xs k x ≡ x → list_all p xs ≡ true → p x ≡ true
passes p [] k x lt is h = absurd (omega (arith, lt))
passes p (y ∷ ys) zero x lt is h = subst (λ z. p z ≡ true) is (first (p y) (list_all p ys) h)
passes p (y ∷ ys) (suc k) x lt is h = passes p ys k x (omega (arith, lt)) is (second (p y) (list_all p ys) h)

-- what a schema's word says of a tree that meets the schema
word_met : (s : Schema) (t : Tree) (k : ℕ) (v : SchemaWord) → k < length s.words → get_or s.words k v ≡ v → meets s t ≡ true → met (named s.words) v t ≡ true
word_met s t k v lt is h = passes (λ w. met (named s.words) w t) s.words k v lt is (sym (meets_law s t) ∙ h)

-- ---- the text that a constant asks for

null_text : (n : List ℕ) → is_null (Text n) ≡ false
unfolding is_null
null_text n = ap is_null_layer (out-Text n)

flag_text : (n : List ℕ) → flag_of (Text n) ≡ None
unfolding flag_of
flag_text n = ap flag_layer (out-Text n)

int_text : (n : List ℕ) → int_of (Text n) ≡ None
unfolding int_of
int_text n = ap int_layer (out-Text n)

text_text : (n : List ℕ) → text_of (Text n) ≡ Some n
unfolding text_of
text_text n = ap text_layer (out-Text n)

items_text : (n : List ℕ) → items_of (Text n) ≡ None
unfolding items_of
items_text n = ap items_layer (out-Text n)

entries_text : (n : List ℕ) → entries_of (Text n) ≡ None
unfolding entries_of
entries_text n = ap entries_layer (out-Text n)

contrary : {X : Type 0} (b : Bool) → b ≡ true → b ≡ false → X
contrary true h e = absurd (cc)
contrary false h e = absurd (cc)

rolled : (o : Layer) (n : List ℕ) → same (roll-Tree o) (Text n) ≡ true → text_layer o ≡ Some n
rolled Tree-F.Null n h = contrary _ h (ap (λ u. same u (Text n)) tree.rolls-Null ∙ (ap (λ (f : Test). f (Text n)) same-Null ∙ null_text n))
rolled (Tree-F.Flag a) n h = contrary _ h (ap (λ u. same u (Text n)) (tree.rolls-Flag a) ∙ (ap (λ (f : Test). f (Text n)) (same-Flag a) ∙ ap (λ o. holds_of o (same_flags a)) (flag_text n)))
rolled (Tree-F.Int a) n h = contrary _ h (ap (λ u. same u (Text n)) (tree.rolls-Int a) ∙ (ap (λ (f : Test). f (Text n)) (same-Int a) ∙ ap (λ o. holds_of o (int_eq a)) (int_text n)))
rolled (Tree-F.Text a) n h = ap Some ((bytes_decides a n).0 (sym (ap (λ u. same u (Text n)) (tree.rolls-Text a) ∙ (ap (λ (f : Test). f (Text n)) (same-Text a) ∙ ap (λ o. holds_of o (bytes_eq a)) (text_text n))) ∙ h))
rolled (Tree-F.List xs) n h = contrary _ h (ap (λ u. same u (Text n)) (tree.rolls-List xs) ∙ (ap (λ (f : Test). f (Text n)) (same-List xs) ∙ ap (λ o. holds_of o (same_items (map same xs))) (items_text n)))
rolled (Tree-F.Map ps) n h = contrary _ h (ap (λ u. same u (Text n)) (tree.rolls-Map ps) ∙ (ap (λ (f : Test). f (Text n)) (same-Map ps) ∙ ap (λ o. holds_of o (same_entries (map entry ps))) (entries_text n)))

same_text : (t : Tree) (n : List ℕ) → same t (Text n) ≡ true → text_of t ≡ Some n
unfolding text_of
same_text t n h = rolled (out-Tree t) n (ap (λ u. same u (Text n)) (roll-out-Tree t) ∙ h)

exact : (n : List ℕ) (t : Tree) → meets (exactly n) t ≡ true → text_in t ≡ n
unfolding exactly
exact n t h =
    let m = word_met (exactly n) t 0 (word.Const (Text n)) (omega arith) refl h in
    ap (λ o. unwrap_or o []) (same_text t n (sym (ap (λ c. c.test (named (exactly n).words) t) (clause-Const (Text n))) ∙ m))

-- ---- lists

le_of : (a b : ℕ) → nat_le a b ≡ true → a ≤ b
le_of a b h = grind (arith, nat_tests)

some_items : (o : Option (List Tree)) → (is_some o || false) ≡ true → met_by o (λ xs. nat_le 1 (length xs)) ≡ true → 1 ≤ length (unwrap_or o [])
some_items None h g = absurd (cc)
some_items (Some xs) h g = le_of 1 (length xs) g

-- a list that its schema asks for isn't empty
items_listed : (high : ℕ) (s : Schema) (t : Tree) → meets (list_of 1 high s) t ≡ true → 1 ≤ length (items_in t)
unfolding list_of
items_listed high s t h =
    let a = word_met (list_of 1 high s) t 0 (word.Type (type.List ∷ [])) (omega arith) refl h in
    let b = word_met (list_of 1 high s) t 1 (word.MinItems 1) (omega arith) refl h in
    some_items (items_of t) (sym (ap (λ c. c.test (named (list_of 1 high s).words) t) (clause-Type (type.List ∷ []))) ∙ a) (sym (ap (λ c. c.test (named (list_of 1 high s).words) t) (clause-MinItems 1)) ∙ b)

-- ---- maps

pub record MapMet (keys : List Key) (ps : List SchemaProperty) (t : Tree) : Type 0 where
  pub pairs : List Pair
  pub is : entries_of t ≡ Some pairs
  pub required : has_keys keys pairs ≡ true
  pub closed : list_all (is_named_or_allowed (has_property (map property ps)) None) pairs ≡ true
  pub properties : list_all (meets_properties (map property ps)) pairs ≡ true

map_by : (keys : List Key) (ps : List SchemaProperty) (t : Tree) (o : Option (List Pair)) → entries_of t ≡ o → (is_some o || false) ≡ true → met_by o (has_keys keys) ≡ true → met_by o (list_all (is_named_or_allowed (has_property (map property ps)) None)) ≡ true → met_by o (list_all (meets_properties (map property ps))) ≡ true → MapMet keys ps t
map_by keys ps t None is h a b c = absurd (cc)
map_by keys ps t (Some qs) is h a b c = record { pairs = qs; is = is; required = a; closed = b; properties = c }

abbrev table_of : List Key → List SchemaProperty → Table
table_of keys ps = record { keys = keys; properties = ps }

-- no word but the properties names a key
names_by : (keys : List Key) (ps : List SchemaProperty) (key : List ℕ) → named (map_words (table_of keys ps)) key ≡ has_property (map property ps) key
unfolding map_words
names_by keys ps key = rw (clause-Type (type.Map ∷ []), clause-Required keys, clause-AdditionalProperties Closed, clause-Properties ps) (or_false (has_property (map property ps) key))

closed_by : (f g : Keys) → ((k : List ℕ) → f k ≡ g k) → (qs : List Pair) → list_all (is_named_or_allowed f None) qs ≡ list_all (is_named_or_allowed g None) qs
closed_by f g e [] = refl
closed_by f g e (q ∷ qs) = let h = e q.key in let r = closed_by f g e qs in cc

met_closed : (f g : Keys) → ((k : List ℕ) → f k ≡ g k) → (o : Option (List Pair)) → met_by o (list_all (is_named_or_allowed f None)) ≡ met_by o (list_all (is_named_or_allowed g None))
met_closed f g e None = refl
met_closed f g e (Some qs) = closed_by f g e qs

-- what a tree is that meets the schema of a map
map_met : (keys : List Key) (ps : List SchemaProperty) (t : Tree) → meets (schema (map_words (table_of keys ps))) t ≡ true → MapMet keys ps t
unfolding map_words
map_met keys ps t h =
    let s = schema (map_words (table_of keys ps)) in
    let a = word_met s t 0 (word.Type (type.Map ∷ [])) (omega arith) refl h in
    let b = word_met s t 1 (word.Required keys) (omega arith) refl h in
    let c = word_met s t 2 (word.AdditionalProperties Closed) (omega arith) refl h in
    let d = word_met s t 3 (word.Properties ps) (omega arith) refl h in
    let closed : met_by (entries_of t) (list_all (is_named_or_allowed (named s.words) None)) ≡ true = sym (ap (λ c. c.test (named s.words) t) (clause-AdditionalProperties Closed) ∙ ap (λ x. met_by (entries_of t) (list_all (is_named_or_allowed (named s.words) x))) additional-Closed) ∙ c in
    map_by keys ps t (entries_of t) refl
    (sym (ap (λ c. c.test (named s.words) t) (clause-Type (type.Map ∷ []))) ∙ a)
    (sym (ap (λ c. c.test (named s.words) t) (clause-Required keys)) ∙ b)
    (sym (met_closed (named s.words) (has_property (map property ps)) (names_by keys ps) (entries_of t)) ∙ closed)
    (sym (ap (λ c. c.test (named s.words) t) (clause-Properties ps)) ∙ d)

record Under (f : Pair → Bool) (key : List ℕ) (x : Tree) : Type 0 where
  pub pair : Pair
  pub test : f pair ≡ true
  pub key_is : pair.key ≡ key
  pub value_is : pair.value ≡ x

under_by : (f : Pair → Bool) (q : Pair) (qs : List Pair) (key : List ℕ) (x : Tree) (b : Bool) → bytes_eq q.key key ≡ b → f q ≡ true → (value_under qs key ≡ Some x → Under f key x) → (if b then Some q.value else value_under qs key) ≡ Some x → Under f key x
under_by f q qs key x true e h ih is = record { pair = q; test = h; key_is = (bytes_decides q.key key).0 e; value_is = cc }
under_by f q qs key x false e h ih is = ih is

-- the entry whose value stands under a key
under : (f : Pair → Bool) (qs : List Pair) (key : List ℕ) (x : Tree) → list_all f qs ≡ true → value_under qs key ≡ Some x → Under f key x
under f [] key x h is = absurd (cc)
under f (q ∷ qs) key x h is = under_by f q qs key x (bytes_eq q.key key) refl (first (f q) (list_all f qs) h) (under f qs key x (second (f q) (list_all f qs) h)) is

value_is : (t : Tree) (qs : List Pair) (key : List ℕ) → entries_of t ≡ Some qs → value_at t key ≡ value_under qs key
value_is t qs key e = ap (λ o. value_under (unwrap_or o []) key) e

chosen : (b c : Bool) → b ≡ true → (not b || c) ≡ true → c ≡ true
chosen true c e h = h
chosen false c e h = absurd (cc)

-- a value meets the schema of the property with its key
property_met : (keys : List Key) (ps : List SchemaProperty) (t x : Tree) (k : ℕ) (p : SchemaProperty) → MapMet keys ps t → k < length (map property ps) → get_or (map property ps) k (property p) ≡ property p → value_at t p.key ≡ Some x → meets p.schema x ≡ true
property_met keys ps t x k p m lt at is =
    let u = under (meets_properties (map property ps)) m.pairs p.key x m.properties (sym (value_is t m.pairs p.key m.is) ∙ is) in
    let here = passes (λ r. not (bytes_eq r.0 u.pair.key) || r.1 u.pair.value) (map property ps) k (property p) lt at u.test in
    ap (meets p.schema) (sym u.value_is) ∙ chosen (bytes_eq p.key u.pair.key) (meets p.schema u.pair.value) ((bytes_decides p.key u.pair.key).1 (sym u.key_is)) here

-- no value stands under a key that isn't named
unnamed : (keys : List Key) (ps : List SchemaProperty) (t x : Tree) (key : List ℕ) → MapMet keys ps t → has_property (map property ps) key ≡ false → value_at t key ≡ Some x → ⊥
unnamed keys ps t x key m none is =
    let u = under (is_named_or_allowed (has_property (map property ps)) None) m.pairs key x m.closed (sym (value_is t m.pairs key m.is) ∙ is) in
    contrary (has_property (map property ps) key) (ap (has_property (map property ps)) (sym u.key_is) ∙ (sym (or_false (has_property (map property ps) u.pair.key)) ∙ u.test)) none

there_by : (q : Pair) (qs : List Pair) (key : List ℕ) (b : Bool) → (has_key key qs ≡ true → (x : Tree) × (value_under qs key ≡ Some x)) → (b || has_key key qs) ≡ true → (x : Tree) × ((if b then Some q.value else value_under qs key) ≡ Some x)
there_by q qs key true ih h = (q.value, refl)
there_by q qs key false ih h = ih h

there : (qs : List Pair) (key : List ℕ) → has_key key qs ≡ true → (x : Tree) × (value_under qs key ≡ Some x)
there [] key h = absurd (cc)
there (q ∷ qs) key h = there_by q qs key (bytes_eq q.key key) (there qs key) h

-- a value stands under a key that is asked for
required_at : (keys : List Key) (ps : List SchemaProperty) (t : Tree) (k : ℕ) (key : Key) → MapMet keys ps t → k < length keys → get_or keys k key ≡ key → (x : Tree) × (value_at t key ≡ Some x)
required_at keys ps t k key m lt at =
    let x = there m.pairs key (passes (λ key. has_key key m.pairs) keys k key lt at m.required) in
    (x.0, value_is t m.pairs key m.is ∙ x.1)

-- ---- domains

-- a map of a type that a constant names
abbrev type_property : List ℕ → SchemaProperty
type_property name = record { key = codes "type"; schema = exactly name }

type_named : (keys : List Key) (ps : List SchemaProperty) (name : List ℕ) (t : Tree) → MapMet (codes "type" ∷ keys) (type_property name ∷ ps) t → text_at t (codes "type") ≡ name
type_named keys ps name t m =
    let x = required_at (codes "type" ∷ keys) (type_property name ∷ ps) t 0 (codes "type") m (omega arith) refl in
    ap (λ o. option_map_or text_in o []) x.1 ∙ exact name x.0 (property_met (codes "type" ∷ keys) (type_property name ∷ ps) t x.0 0 (type_property name) m (omega arith) refl x.1)

abbrev pick : Bool → Bool → Tree → Domain
pick b c t = if b then Flags else (if c then Words (map text_in (items_at t (codes "enum"))) else number_domain t)

abbrev of_type : List ℕ → Tree → Domain
of_type name t = pick (bytes_eq name (codes "boolean")) (bytes_eq name (codes "string")) t

type_domain : (name : List ℕ) (t : Tree) → text_at t (codes "type") ≡ name → domain_of t ≡ of_type name t
type_domain name t e = ap (λ n. of_type n t) e

numbers_by : (low high : ℕ) (o : Option Tree) → ((x : Tree) → o ≡ Some x → 1 ≤ length (items_in x)) → HasSome (if is_some o then Numbers (map number_in (option_map_or items_in o [])) else Range low high)
numbers_by low high None h = tt
numbers_by low high (Some x) h = rw (length-map (items_in x) number_in) (h x refl)

of_numbers : (t : Tree) → ((x : Tree) → value_at t (codes "enum") ≡ Some x → 1 ≤ length (items_in x)) → HasSome (number_domain t)
of_numbers t h = numbers_by (number_at t (codes "minimum")) (number_at t (codes "maximum")) (value_at t (codes "enum")) h

boolean_some : (t : Tree) → meets boolean_domain t ≡ true → HasSome (domain_of t)
unfolding boolean_domain
boolean_some t h = subst HasSome (sym (type_domain (codes "boolean") t (type_named [] [] (codes "boolean") t (map_met _ _ t h)))) tt

ranged_some : (t : Tree) → meets ranged_domain t ≡ true → HasSome (domain_of t)
unfolding ranged_domain
ranged_some t h =
    let m = map_met _ _ t h in
    subst HasSome (sym (type_domain (codes "integer") t (type_named _ _ (codes "integer") t m))) (of_numbers t (λ x is. absurd (unnamed _ _ t x (codes "enum") m refl is)))

abbrev enum_property : Schema → SchemaProperty
enum_property value = record { key = codes "enum"; schema = list_of 1 128 value }

enum_listed : (name : List ℕ) (value : Schema) (t : Tree) → MapMet (codes "type" ∷ codes "enum" ∷ []) (type_property name ∷ enum_property value ∷ []) t → (x : Tree) → value_at t (codes "enum") ≡ Some x → 1 ≤ length (items_in x)
enum_listed name value t m x is = items_listed 128 value x (property_met (codes "type" ∷ codes "enum" ∷ []) (type_property name ∷ enum_property value ∷ []) t x 1 (enum_property value) m (omega arith) refl is)

numbers_some : (t : Tree) → meets (listed_domain (codes "integer") number_value) t ≡ true → HasSome (domain_of t)
unfolding listed_domain
numbers_some t h =
    let m = map_met _ _ t h in
    subst HasSome (sym (type_domain (codes "integer") t (type_named _ _ (codes "integer") t m))) (of_numbers t (enum_listed (codes "integer") number_value t m))

words_some : (t : Tree) → meets (listed_domain (codes "string") text_value) t ≡ true → HasSome (domain_of t)
unfolding listed_domain
words_some t h =
    let m = map_met _ _ t h in
    let x = required_at (codes "type" ∷ codes "enum" ∷ []) _ t 1 (codes "enum") m (omega arith) refl in
    let one : 1 ≤ length (items_at t (codes "enum")) = rw (x.1) (enum_listed (codes "string") text_value t m x.0 x.1) in
    let some : HasSome (Words (map text_in (items_at t (codes "enum")))) = rw (length-map (items_at t (codes "enum")) text_in) one in
    subst HasSome (sym (type_domain (codes "string") t (type_named _ _ (codes "string") t m))) some

one_of_four : {X : Type 0} (a b c d : Bool) → (a ≡ true → X) → (b ≡ true → X) → (c ≡ true → X) → (d ≡ true → X) → (a || (b || (c || (d || false)))) ≡ true → X
one_of_four true b c d f g h k e = f refl
one_of_four false true c d f g h k e = g refl
one_of_four false false true d f g h k e = h refl
one_of_four false false false true f g h k e = k refl
one_of_four false false false false f g h k e = absurd (cc)

abbrev domain_forms : List Schema
domain_forms = boolean_domain ∷ listed_domain (codes "integer") number_value ∷ ranged_domain ∷ listed_domain (codes "string") text_value ∷ []

domain_some : (t : Tree) → meets domain_schema t ≡ true → HasSome (domain_of t)
unfolding domain_schema
domain_some t h =
    let a = word_met domain_schema t 0 (word.AnyOf domain_forms) (omega arith) refl h in
    let one = sym (ap (λ c. c.test (named domain_schema.words) t) (clause-AnyOf domain_forms)) ∙ a in
    one_of_four (meets boolean_domain t) (meets (listed_domain (codes "integer") number_value) t) (meets ranged_domain t) (meets (listed_domain (codes "string") text_value) t) (boolean_some t) (numbers_some t) (ranged_some t) (words_some t) one

at_key : (o : Option Tree) → ((x : Tree) → o ≡ Some x → HasSome (domain_of x)) → HasSome (option_map_or domain_of o Flags)
at_key None h = tt
at_key (Some x) h = h x refl

-- the domain of a parameter
pub domain_has_some : (t : Tree) → meets parameter_schema t ≡ true → HasSome (domain_at t (codes "schema"))
unfolding parameter_schema titled common parameter_rows
domain_has_some t h =
    let m = map_met _ _ t h in
    at_key (value_at t (codes "schema")) (λ x is. domain_some x (property_met _ _ t x 5 (record { key = codes "schema"; schema = domain_schema }) m (omega arith) refl is))
