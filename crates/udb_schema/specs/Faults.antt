-- Statement: the first failing place of a tree: a node before its children, children in order, and at a node the first failing
-- word in the order of examination. Where a schema holds a word twice, several schemas may stand at one node.
use Rattle.std.specs.Prelude.{◌≡◌, ℕ, ◌&&◌, Bool, true, false, not, nat_le, List, [], ◌∷◌, ◌++◌, length, map, filter, Option, None, Some, if◌then◌else◌}
use Rattle.std.specs.Fmt.{decimal}
use Rattle.std.specs.Str.{bytes_eq}
use Rattle.std.specs.List.{list_all, flat_map}
use Rattle.yaml_spec.specs.declared.tree.Tree.{Tree}
use Rattle.yaml_spec.specs.declared.tree.Tree.TheVariants as tree
use Rattle.yaml_spec.specs.declared.tree.Pair.{Pair}
use Rattle.udb_schema.specs.declared.words.Word.{Word}
use Rattle.udb_schema.specs.declared.words.Word.TheVariants as word
use Rattle.udb_schema.specs.declared.words.Schema.{Schema}
use Rattle.udb_schema.specs.declared.words.SchemaWord.{SchemaWord, out-SchemaWord}
use Rattle.udb_schema.specs.declared.words.Additional.{Additional, out-Additional}
use Rattle.udb_schema.specs.declared.words.SchemaProperty.{SchemaProperty}
use Rattle.udb_schema.specs.declared.words.Additional.TheOpen.{SchemaWord-F, Additional-F}
use Rattle.udb_schema.specs.Meets.{Keys, meets, met, named}

-- the place of a word in the order of examination
abbrev pub place_of : Word → ℕ
place_of word.Type = 0
place_of word.Enum = 1
place_of word.Const = 2
place_of word.Minimum = 3
place_of word.Maximum = 4
place_of word.MinLength = 5
place_of word.MinItems = 6
place_of word.MaxItems = 7
place_of word.UniqueItems = 8
place_of word.MinProperties = 9
place_of word.MaxProperties = 10
place_of word.Required = 11
place_of word.AdditionalProperties = 12
place_of word.Properties = 13
place_of word.Items = 14
place_of word.AllOf = 15
place_of word.AnyOf = 16
place_of word.OneOf = 17
place_of word.Not = 18

abbrev pub Layer : Type 0
Layer = SchemaWord-F Additional SchemaWord Schema SchemaProperty

abbrev pub word_layer : Layer → Word
word_layer (SchemaWord-F.Type names) = word.Type
word_layer (SchemaWord-F.Enum xs) = word.Enum
word_layer (SchemaWord-F.Const x) = word.Const
word_layer (SchemaWord-F.Minimum n) = word.Minimum
word_layer (SchemaWord-F.Maximum n) = word.Maximum
word_layer (SchemaWord-F.MinLength n) = word.MinLength
word_layer (SchemaWord-F.MinItems n) = word.MinItems
word_layer (SchemaWord-F.MaxItems n) = word.MaxItems
word_layer (SchemaWord-F.UniqueItems b) = word.UniqueItems
word_layer (SchemaWord-F.MinProperties n) = word.MinProperties
word_layer (SchemaWord-F.MaxProperties n) = word.MaxProperties
word_layer (SchemaWord-F.Required keys) = word.Required
word_layer (SchemaWord-F.AdditionalProperties a) = word.AdditionalProperties
word_layer (SchemaWord-F.Properties ps) = word.Properties
word_layer (SchemaWord-F.Items s) = word.Items
word_layer (SchemaWord-F.AllOf ss) = word.AllOf
word_layer (SchemaWord-F.AnyOf ss) = word.AnyOf
word_layer (SchemaWord-F.OneOf ss) = word.OneOf
word_layer (SchemaWord-F.Not s) = word.Not

unfoldable pub word_of : SchemaWord → Word
word_of w = word_layer (out-SchemaWord w)

-- ---- where a word's failure counts

abbrev pub is_closed_layer : Additional-F Additional SchemaWord Schema SchemaProperty → Bool
is_closed_layer Additional-F.Closed = true
is_closed_layer (Additional-F.Meets s) = false

unfoldable pub is_closed : Additional → Bool
is_closed a = is_closed_layer (out-Additional a)

-- A word that gives schemas to children fails at the children, any other at its own node.
abbrev pub counts_layer : Layer → Bool
counts_layer (SchemaWord-F.AdditionalProperties a) = is_closed a
counts_layer (SchemaWord-F.Properties ps) = false
counts_layer (SchemaWord-F.Items s) = false
counts_layer _ = true

unfoldable pub counts_here : SchemaWord → Bool
counts_here w = counts_layer (out-SchemaWord w)

abbrev pub for_items_layer : Layer → List Schema
for_items_layer (SchemaWord-F.Items s) = s ∷ []
for_items_layer _ = []

-- the schemas that a word gives to the items of a list
unfoldable pub word_for_items : SchemaWord → List Schema
word_for_items w = for_items_layer (out-SchemaWord w)

abbrev pub for_others_layer : Additional-F Additional SchemaWord Schema SchemaProperty → List Schema
for_others_layer Additional-F.Closed = []
for_others_layer (Additional-F.Meets s) = s ∷ []

-- the schemas of the values that no property names
unfoldable pub for_others : Additional → List Schema
for_others a = for_others_layer (out-Additional a)

abbrev pub with_key : List ℕ → List SchemaProperty → List Schema
with_key key ps = flat_map (λ p. if bytes_eq p.key key then p.schema ∷ [] else []) ps

abbrev pub for_key_layer : Keys → List ℕ → Layer → List Schema
for_key_layer keys key (SchemaWord-F.AdditionalProperties a) = if keys key then [] else for_others a
for_key_layer keys key (SchemaWord-F.Properties ps) = with_key key ps
for_key_layer keys key _ = []

-- the schemas that a word gives to the value under a key, beside the keys that its schema names
unfoldable pub word_for_key : Keys → List ℕ → SchemaWord → List Schema
word_for_key keys key w = for_key_layer keys key (out-SchemaWord w)

-- the schemas that stand at each item of a list, where these stand at the list
abbrev pub for_items : List Schema → List Schema
for_items ss = flat_map (λ s. flat_map word_for_items s.words) ss

-- the schemas that stand at the value under a key of a map, where these stand at the map
abbrev pub for_key : List ℕ → List Schema → List Schema
for_key key ss = flat_map (λ s. flat_map (word_for_key (named s.words) key) s.words) ss

-- ---- the first failing place

abbrev pub earlier : Option Word → Word → Option Word
earlier None w = Some w
earlier (Some v) w = if nat_le (place_of v) (place_of w) then Some v else Some w

-- of a word and of others, the one that is examined first
abbrev pub earliest : Option Word → List Word → Option Word
earliest v [] = v
earliest v (w ∷ ws) = earliest (earlier v w) ws

abbrev pub fails : Keys → Tree → SchemaWord → Bool
fails keys t w = counts_here w && not (met keys w t)

-- the words that fail at a node itself
abbrev pub failing_words : Keys → Tree → List SchemaWord → List Word
failing_words keys t ws = map word_of (filter (fails keys t) ws)

abbrev pub failing_of : Tree → Schema → List Word
failing_of t s = failing_words (named s.words) t s.words

abbrev pub failing : List Schema → Tree → List Word
failing ss t = flat_map (failing_of t) ss

abbrev pub first_failing : List Schema → Tree → Option Word
first_failing ss t = earliest None (failing ss t)

-- the tree meets each of the schemas
abbrev pub all_meet : List Schema → Tree → Bool
all_meet ss t = list_all (λ s. meets s t) ss

mutual
  -- Where these schemas stand at a tree, its first failing place is at the path, and the word fails there.
  pub data FirstFault : List Schema → Tree → List ℕ → Word → Type 0 where
    here : {ss : List Schema} {t : Tree} {w : Word} → first_failing ss t ≡ Some w → FirstFault ss t [] w
    in_list : {ss : List Schema} {xs : List Tree} {path : List ℕ} {w : Word} → first_failing ss (tree.List xs) ≡ None → InItems ss xs path w → FirstFault ss (tree.List xs) path w
    in_map : {ss : List Schema} {ps : List Pair} {path : List ℕ} {w : Word} → first_failing ss (tree.Map ps) ≡ None → InEntries ss ps path w → FirstFault ss (tree.Map ps) path w

  -- in the first item of a list that fails; `ss` stand at the list
  pub data InItems : List Schema → List Tree → List ℕ → Word → Type 0 where
    item : {ss : List Schema} (before : List Tree) (x : Tree) (after : List Tree) {path : List ℕ} {w : Word} → list_all (all_meet (for_items ss)) before ≡ true → FirstFault (for_items ss) x path w → InItems ss (before ++ x ∷ after) (47 ∷ decimal (length before) ++ path) w

  -- in the first entry of a map that fails; `ss` stand at the map
  pub data InEntries : List Schema → List Pair → List ℕ → Word → Type 0 where
    entry : {ss : List Schema} (before : List Pair) (p : Pair) (after : List Pair) {path : List ℕ} {w : Word} → list_all (λ q. all_meet (for_key q.key ss) q.value) before ≡ true → FirstFault (for_key p.key ss) p.value path w → InEntries ss (before ++ p ∷ after) (47 ∷ p.key ++ path) w

-- the tree doesn't meet the schema, its first failing place is at the path, and the word fails there
abbrev pub FailsAt : Schema → Tree → List ℕ → Word → Type 0
FailsAt s t path w = (meets s t ≡ false) × FirstFault (s ∷ []) t path w
