-- Words variant by variant: their layers, and what they say.
use Rattle.std.proofs.Common.{◌≡◌, ℕ, ℤ, Bool, true, false, List, [], ◌∷◌, ◌++◌, map, Option, Some, None, if◌then◌else◌, refl, ap, sym, ◌∙◌, subst, append-nil}
use Rattle.std.specs.List.{list_all}
use Rattle.std.proofs.lemmas.List.Folds.{list_all-map}
use Rattle.yaml_spec.specs.declared.tree.Tree.{Tree}
use Rattle.udb_schema.specs.declared.words.TypeName.{TypeName}
use Rattle.udb_schema.specs.declared.words.Schema.{Schema}
use Rattle.udb_schema.specs.declared.words.SchemaWord.{SchemaWord, out-SchemaWord}
use Rattle.udb_schema.specs.declared.words.SchemaWord.TheVariants as w
use Rattle.udb_schema.specs.declared.words.SchemaProperty.{SchemaProperty}
use Rattle.udb_schema.specs.declared.words.Additional.{Additional, out-Additional}
use Rattle.udb_schema.specs.declared.words.Additional.TheVariants as a
use Rattle.udb_schema.specs.declared.words.Additional.TheOpen.{SchemaWord-F, Additional-F}
use Rattle.udb_schema.specs.declared.words.Additional.TheViews.{roll-SchemaWord, roll-out-SchemaWord, out-roll-SchemaWord, out-roll-Additional}
use Rattle.udb_schema.specs.declared.words.Additional.TheFolds.{fold-SchemaWord, fold-SchemaProperty, fold-Additional, fold-roll-Schema, fold-roll-SchemaWord, fold-roll-SchemaProperty, fold-roll-Additional}
use Rattle.udb_schema.specs.Equality.{Test}
use Rattle.udb_schema.specs.declared.words.Word.{Word}
use Rattle.udb_schema.specs.Faults.{earlier, earliest, Layer, for_items_layer, word_for_items, for_key_layer, word_for_key, counts_layer, counts_here, is_closed, is_closed_layer, for_others, for_others_layer, with_key}
use Rattle.udb_schema.specs.Meets.{Keys, Clause, additional_step, word_step, schema_step, property_step, meets, clause, additional, property, named, met}

abbrev F : SchemaWord → Clause
F = fold-SchemaWord (Option Test) Clause Test (List ℕ × Test) additional_step word_step schema_step property_step

-- ---- layers

pub out-Type : (names : List TypeName) → out-SchemaWord (w.Type names) ≡ SchemaWord-F.Type names
out-Type names = ap out-SchemaWord (sym (w.rolls-Type names)) ∙ out-roll-SchemaWord _

pub out-Enum : (xs : List Tree) → out-SchemaWord (w.Enum xs) ≡ SchemaWord-F.Enum xs
out-Enum xs = ap out-SchemaWord (sym (w.rolls-Enum xs)) ∙ out-roll-SchemaWord _

pub out-Const : (x : Tree) → out-SchemaWord (w.Const x) ≡ SchemaWord-F.Const x
out-Const x = ap out-SchemaWord (sym (w.rolls-Const x)) ∙ out-roll-SchemaWord _

pub out-Minimum : (n : ℤ) → out-SchemaWord (w.Minimum n) ≡ SchemaWord-F.Minimum n
out-Minimum n = ap out-SchemaWord (sym (w.rolls-Minimum n)) ∙ out-roll-SchemaWord _

pub out-Maximum : (n : ℤ) → out-SchemaWord (w.Maximum n) ≡ SchemaWord-F.Maximum n
out-Maximum n = ap out-SchemaWord (sym (w.rolls-Maximum n)) ∙ out-roll-SchemaWord _

pub out-MinLength : (n : ℕ) → out-SchemaWord (w.MinLength n) ≡ SchemaWord-F.MinLength n
out-MinLength n = ap out-SchemaWord (sym (w.rolls-MinLength n)) ∙ out-roll-SchemaWord _

pub out-MinItems : (n : ℕ) → out-SchemaWord (w.MinItems n) ≡ SchemaWord-F.MinItems n
out-MinItems n = ap out-SchemaWord (sym (w.rolls-MinItems n)) ∙ out-roll-SchemaWord _

pub out-MaxItems : (n : ℕ) → out-SchemaWord (w.MaxItems n) ≡ SchemaWord-F.MaxItems n
out-MaxItems n = ap out-SchemaWord (sym (w.rolls-MaxItems n)) ∙ out-roll-SchemaWord _

pub out-UniqueItems : (b : Bool) → out-SchemaWord (w.UniqueItems b) ≡ SchemaWord-F.UniqueItems b
out-UniqueItems b = ap out-SchemaWord (sym (w.rolls-UniqueItems b)) ∙ out-roll-SchemaWord _

pub out-MinProperties : (n : ℕ) → out-SchemaWord (w.MinProperties n) ≡ SchemaWord-F.MinProperties n
out-MinProperties n = ap out-SchemaWord (sym (w.rolls-MinProperties n)) ∙ out-roll-SchemaWord _

pub out-MaxProperties : (n : ℕ) → out-SchemaWord (w.MaxProperties n) ≡ SchemaWord-F.MaxProperties n
out-MaxProperties n = ap out-SchemaWord (sym (w.rolls-MaxProperties n)) ∙ out-roll-SchemaWord _

pub out-Required : (keys : List (List ℕ)) → out-SchemaWord (w.Required keys) ≡ SchemaWord-F.Required keys
out-Required keys = ap out-SchemaWord (sym (w.rolls-Required keys)) ∙ out-roll-SchemaWord _

pub out-AdditionalProperties : (a : Additional) → out-SchemaWord (w.AdditionalProperties a) ≡ SchemaWord-F.AdditionalProperties a
out-AdditionalProperties a = ap out-SchemaWord (sym (w.rolls-AdditionalProperties a)) ∙ out-roll-SchemaWord _

pub out-Properties : (ps : List SchemaProperty) → out-SchemaWord (w.Properties ps) ≡ SchemaWord-F.Properties ps
out-Properties ps = ap out-SchemaWord (sym (w.rolls-Properties ps)) ∙ out-roll-SchemaWord _

pub out-Items : (s : Schema) → out-SchemaWord (w.Items s) ≡ SchemaWord-F.Items s
out-Items s = ap out-SchemaWord (sym (w.rolls-Items s)) ∙ out-roll-SchemaWord _

pub out-AllOf : (ss : List Schema) → out-SchemaWord (w.AllOf ss) ≡ SchemaWord-F.AllOf ss
out-AllOf ss = ap out-SchemaWord (sym (w.rolls-AllOf ss)) ∙ out-roll-SchemaWord _

pub out-AnyOf : (ss : List Schema) → out-SchemaWord (w.AnyOf ss) ≡ SchemaWord-F.AnyOf ss
out-AnyOf ss = ap out-SchemaWord (sym (w.rolls-AnyOf ss)) ∙ out-roll-SchemaWord _

pub out-OneOf : (ss : List Schema) → out-SchemaWord (w.OneOf ss) ≡ SchemaWord-F.OneOf ss
out-OneOf ss = ap out-SchemaWord (sym (w.rolls-OneOf ss)) ∙ out-roll-SchemaWord _

pub out-Not : (s : Schema) → out-SchemaWord (w.Not s) ≡ SchemaWord-F.Not s
out-Not s = ap out-SchemaWord (sym (w.rolls-Not s)) ∙ out-roll-SchemaWord _

pub ruleset word_layers = (out-Type, out-Enum, out-Const, out-Minimum, out-Maximum, out-MinLength, out-MinItems, out-MaxItems, out-UniqueItems, out-MinProperties, out-MaxProperties, out-Required, out-AdditionalProperties, out-Properties, out-Items, out-AllOf, out-AnyOf, out-OneOf, out-Not)

pub out-Closed : out-Additional a.Closed ≡ Additional-F.Closed
out-Closed = ap out-Additional (sym a.rolls-Closed) ∙ out-roll-Additional _

pub out-Meets : (s : Schema) → out-Additional (a.Meets s) ≡ Additional-F.Meets s
out-Meets s = ap out-Additional (sym (a.rolls-Meets s)) ∙ out-roll-Additional _

pub closed-Closed : is_closed a.Closed ≡ true
unfolding is_closed
closed-Closed = ap is_closed_layer out-Closed

pub closed-Meets : (s : Schema) → is_closed (a.Meets s) ≡ false
unfolding is_closed
closed-Meets s = ap is_closed_layer (out-Meets s)

pub others-Closed : for_others a.Closed ≡ []
unfolding for_others
others-Closed = ap for_others_layer out-Closed

pub others-Meets : (s : Schema) → for_others (a.Meets s) ≡ s ∷ []
unfolding for_others
others-Meets s = ap for_others_layer (out-Meets s)

pub ruleset others_laws = (others-Closed, others-Meets, append-nil)

pub ruleset closed_laws = (closed-Closed, closed-Meets)

pub items-Items : (s : Schema) → word_for_items (w.Items s) ≡ s ∷ []
unfolding word_for_items
items-Items s = ap for_items_layer (out-Items s)

pub key-Properties : (keys : Keys) (key : List ℕ) (ps : List SchemaProperty) → word_for_key keys key (w.Properties ps) ≡ with_key key ps
unfolding word_for_key
key-Properties keys key ps = ap (for_key_layer keys key) (out-Properties ps)

pub key-Additional : (keys : Keys) (key : List ℕ) (x : Additional) → word_for_key keys key (w.AdditionalProperties x) ≡ (if keys key then [] else for_others x)
unfolding word_for_key
key-Additional keys key x = ap (for_key_layer keys key) (out-AdditionalProperties x)

-- ---- what a word says

both : {X : Type 0} {x y : X} {xs ys : List X} → x ≡ y → xs ≡ ys → x ∷ xs ≡ y ∷ ys
both e h = cc

property_folds : (ps : List SchemaProperty) → map (fold-SchemaProperty (Option Test) Clause Test (List ℕ × Test) additional_step word_step schema_step property_step) ps ≡ map property ps
unfolding meets
property_folds [] = refl
property_folds (p ∷ ps) = both (fold-roll-SchemaProperty (Option Test) Clause Test (List ℕ × Test) additional_step word_step schema_step property_step _) (property_folds ps)

pub clause-Type : (names : List TypeName) → clause (w.Type names) ≡ word_step (SchemaWord-F.Type names)
unfolding clause
clause-Type names = ap F (sym (w.rolls-Type names)) ∙ fold-roll-SchemaWord (Option Test) Clause Test (List ℕ × Test) additional_step word_step schema_step property_step _

pub clause-Enum : (xs : List Tree) → clause (w.Enum xs) ≡ word_step (SchemaWord-F.Enum xs)
unfolding clause
clause-Enum xs = ap F (sym (w.rolls-Enum xs)) ∙ fold-roll-SchemaWord (Option Test) Clause Test (List ℕ × Test) additional_step word_step schema_step property_step _

pub clause-Const : (x : Tree) → clause (w.Const x) ≡ word_step (SchemaWord-F.Const x)
unfolding clause
clause-Const x = ap F (sym (w.rolls-Const x)) ∙ fold-roll-SchemaWord (Option Test) Clause Test (List ℕ × Test) additional_step word_step schema_step property_step _

pub clause-Minimum : (n : ℤ) → clause (w.Minimum n) ≡ word_step (SchemaWord-F.Minimum n)
unfolding clause
clause-Minimum n = ap F (sym (w.rolls-Minimum n)) ∙ fold-roll-SchemaWord (Option Test) Clause Test (List ℕ × Test) additional_step word_step schema_step property_step _

pub clause-Maximum : (n : ℤ) → clause (w.Maximum n) ≡ word_step (SchemaWord-F.Maximum n)
unfolding clause
clause-Maximum n = ap F (sym (w.rolls-Maximum n)) ∙ fold-roll-SchemaWord (Option Test) Clause Test (List ℕ × Test) additional_step word_step schema_step property_step _

pub clause-MinLength : (n : ℕ) → clause (w.MinLength n) ≡ word_step (SchemaWord-F.MinLength n)
unfolding clause
clause-MinLength n = ap F (sym (w.rolls-MinLength n)) ∙ fold-roll-SchemaWord (Option Test) Clause Test (List ℕ × Test) additional_step word_step schema_step property_step _

pub clause-MinItems : (n : ℕ) → clause (w.MinItems n) ≡ word_step (SchemaWord-F.MinItems n)
unfolding clause
clause-MinItems n = ap F (sym (w.rolls-MinItems n)) ∙ fold-roll-SchemaWord (Option Test) Clause Test (List ℕ × Test) additional_step word_step schema_step property_step _

pub clause-MaxItems : (n : ℕ) → clause (w.MaxItems n) ≡ word_step (SchemaWord-F.MaxItems n)
unfolding clause
clause-MaxItems n = ap F (sym (w.rolls-MaxItems n)) ∙ fold-roll-SchemaWord (Option Test) Clause Test (List ℕ × Test) additional_step word_step schema_step property_step _

pub clause-UniqueItems : (b : Bool) → clause (w.UniqueItems b) ≡ word_step (SchemaWord-F.UniqueItems b)
unfolding clause
clause-UniqueItems b = ap F (sym (w.rolls-UniqueItems b)) ∙ fold-roll-SchemaWord (Option Test) Clause Test (List ℕ × Test) additional_step word_step schema_step property_step _

pub clause-MinProperties : (n : ℕ) → clause (w.MinProperties n) ≡ word_step (SchemaWord-F.MinProperties n)
unfolding clause
clause-MinProperties n = ap F (sym (w.rolls-MinProperties n)) ∙ fold-roll-SchemaWord (Option Test) Clause Test (List ℕ × Test) additional_step word_step schema_step property_step _

pub clause-MaxProperties : (n : ℕ) → clause (w.MaxProperties n) ≡ word_step (SchemaWord-F.MaxProperties n)
unfolding clause
clause-MaxProperties n = ap F (sym (w.rolls-MaxProperties n)) ∙ fold-roll-SchemaWord (Option Test) Clause Test (List ℕ × Test) additional_step word_step schema_step property_step _

pub clause-Required : (keys : List (List ℕ)) → clause (w.Required keys) ≡ word_step (SchemaWord-F.Required keys)
unfolding clause
clause-Required keys = ap F (sym (w.rolls-Required keys)) ∙ fold-roll-SchemaWord (Option Test) Clause Test (List ℕ × Test) additional_step word_step schema_step property_step _

pub clause-AdditionalProperties : (a : Additional) → clause (w.AdditionalProperties a) ≡ word_step (SchemaWord-F.AdditionalProperties (additional a))
unfolding clause additional
clause-AdditionalProperties a = ap F (sym (w.rolls-AdditionalProperties a)) ∙ fold-roll-SchemaWord (Option Test) Clause Test (List ℕ × Test) additional_step word_step schema_step property_step _

pub clause-Properties : (ps : List SchemaProperty) → clause (w.Properties ps) ≡ word_step (SchemaWord-F.Properties (map property ps))
unfolding clause meets
clause-Properties ps = ap F (sym (w.rolls-Properties ps)) ∙ (fold-roll-SchemaWord (Option Test) Clause Test (List ℕ × Test) additional_step word_step schema_step property_step _ ∙ ap (λ xs. word_step (SchemaWord-F.Properties xs)) (property_folds ps))

pub clause-Items : (s : Schema) → clause (w.Items s) ≡ word_step (SchemaWord-F.Items (meets s))
unfolding clause meets
clause-Items s = ap F (sym (w.rolls-Items s)) ∙ fold-roll-SchemaWord (Option Test) Clause Test (List ℕ × Test) additional_step word_step schema_step property_step _

pub clause-AllOf : (ss : List Schema) → clause (w.AllOf ss) ≡ word_step (SchemaWord-F.AllOf (map meets ss))
unfolding clause meets
clause-AllOf ss = ap F (sym (w.rolls-AllOf ss)) ∙ fold-roll-SchemaWord (Option Test) Clause Test (List ℕ × Test) additional_step word_step schema_step property_step _

pub clause-AnyOf : (ss : List Schema) → clause (w.AnyOf ss) ≡ word_step (SchemaWord-F.AnyOf (map meets ss))
unfolding clause meets
clause-AnyOf ss = ap F (sym (w.rolls-AnyOf ss)) ∙ fold-roll-SchemaWord (Option Test) Clause Test (List ℕ × Test) additional_step word_step schema_step property_step _

pub clause-OneOf : (ss : List Schema) → clause (w.OneOf ss) ≡ word_step (SchemaWord-F.OneOf (map meets ss))
unfolding clause meets
clause-OneOf ss = ap F (sym (w.rolls-OneOf ss)) ∙ fold-roll-SchemaWord (Option Test) Clause Test (List ℕ × Test) additional_step word_step schema_step property_step _

pub clause-Not : (s : Schema) → clause (w.Not s) ≡ word_step (SchemaWord-F.Not (meets s))
unfolding clause meets
clause-Not s = ap F (sym (w.rolls-Not s)) ∙ fold-roll-SchemaWord (Option Test) Clause Test (List ℕ × Test) additional_step word_step schema_step property_step _

pub ruleset clause_laws = (clause-Type, clause-Enum, clause-Const, clause-Minimum, clause-Maximum, clause-MinLength, clause-MinItems, clause-MaxItems, clause-UniqueItems, clause-MinProperties, clause-MaxProperties, clause-Required, clause-AdditionalProperties, clause-Properties, clause-Items, clause-AllOf, clause-AnyOf, clause-OneOf, clause-Not)

pub additional-Closed : additional a.Closed ≡ None
unfolding additional
additional-Closed = ap (fold-Additional (Option Test) Clause Test (List ℕ × Test) additional_step word_step schema_step property_step) (sym a.rolls-Closed) ∙ fold-roll-Additional (Option Test) Clause Test (List ℕ × Test) additional_step word_step schema_step property_step _

pub additional-Meets : (s : Schema) → additional (a.Meets s) ≡ Some (meets s)
unfolding additional meets
additional-Meets s = ap (fold-Additional (Option Test) Clause Test (List ℕ × Test) additional_step word_step schema_step property_step) (sym (a.rolls-Meets s)) ∙ fold-roll-Additional (Option Test) Clause Test (List ℕ × Test) additional_step word_step schema_step property_step _

pub ruleset additional_laws = (additional-Closed, additional-Meets)

-- ---- schemas

folded : (s : Schema) → meets s ≡ schema_step (record { words = map clause s.words })
unfolding meets clause
folded s = fold-roll-Schema (Option Test) Clause Test (List ℕ × Test) additional_step word_step schema_step property_step _

-- a schema is met where each of its words is
pub meets_law : (s : Schema) (t : Tree) → meets s t ≡ list_all (λ w. met (named s.words) w t) s.words
meets_law s t = ap (λ (f : Test). f t) (folded s) ∙ list_all-map (λ c. c.test (named s.words) t) clause s.words

-- ---- words of other kinds

names_layer : (key : List ℕ) (o : Layer) → ((ps : List SchemaProperty) → roll-SchemaWord o ≡ w.Properties ps → ⊥) → false ≡ (clause (roll-SchemaWord o)).names key
unfolding clause
names_layer key (SchemaWord-F.Properties ps) h = absurd (h ps (w.rolls-Properties ps))
names_layer key o h = sym (ap (λ (c : Clause). c.names key) (fold-roll-SchemaWord (Option Test) Clause Test (List ℕ × Test) additional_step word_step schema_step property_step o))

pub names_other : (key : List ℕ) (v : SchemaWord) → ((ps : List SchemaProperty) → v ≡ w.Properties ps → ⊥) → false ≡ (clause v).names key
names_other key v h = subst (λ (u : SchemaWord). ((ps : List SchemaProperty) → u ≡ w.Properties ps → ⊥) → false ≡ (clause u).names key) (roll-out-SchemaWord v) (names_layer key (out-SchemaWord v)) h

items_layer : (o : Layer) → ((s : Schema) → roll-SchemaWord o ≡ w.Items s → ⊥) → for_items_layer o ≡ []
items_layer (SchemaWord-F.Items s) h = absurd (h s (w.rolls-Items s))
items_layer o h = refl

pub items_other : (v : SchemaWord) → ((s : Schema) → v ≡ w.Items s → ⊥) → word_for_items v ≡ []
unfolding word_for_items
items_other v h = items_layer (out-SchemaWord v) (λ s e. h s (sym (roll-out-SchemaWord v) ∙ e))

key_layer : (keys : Keys) (key : List ℕ) (o : Layer) → ((x : Additional) → roll-SchemaWord o ≡ w.AdditionalProperties x → ⊥) → ((ps : List SchemaProperty) → roll-SchemaWord o ≡ w.Properties ps → ⊥) → for_key_layer keys key o ≡ []
key_layer keys key (SchemaWord-F.AdditionalProperties x) h g = absurd (h x (w.rolls-AdditionalProperties x))
key_layer keys key (SchemaWord-F.Properties ps) h g = absurd (g ps (w.rolls-Properties ps))
key_layer keys key o h g = refl

pub key_other : (keys : Keys) (key : List ℕ) (v : SchemaWord) → ((x : Additional) → v ≡ w.AdditionalProperties x → ⊥) → ((ps : List SchemaProperty) → v ≡ w.Properties ps → ⊥) → word_for_key keys key v ≡ []
unfolding word_for_key
key_other keys key v h g = key_layer keys key (out-SchemaWord v) (λ x e. h x (sym (roll-out-SchemaWord v) ∙ e)) (λ ps e. g ps (sym (roll-out-SchemaWord v) ∙ e))

counts_else : (o : Layer) → ((x : Additional) → roll-SchemaWord o ≡ w.AdditionalProperties x → ⊥) → ((ps : List SchemaProperty) → roll-SchemaWord o ≡ w.Properties ps → ⊥) → ((s : Schema) → roll-SchemaWord o ≡ w.Items s → ⊥) → counts_layer o ≡ true
counts_else (SchemaWord-F.AdditionalProperties x) h g f = absurd (h x (w.rolls-AdditionalProperties x))
counts_else (SchemaWord-F.Properties ps) h g f = absurd (g ps (w.rolls-Properties ps))
counts_else (SchemaWord-F.Items s) h g f = absurd (f s (w.rolls-Items s))
counts_else o h g f = refl

pub counts_other : (v : SchemaWord) → ((x : Additional) → v ≡ w.AdditionalProperties x → ⊥) → ((ps : List SchemaProperty) → v ≡ w.Properties ps → ⊥) → ((s : Schema) → v ≡ w.Items s → ⊥) → counts_here v ≡ true
unfolding counts_here
counts_other v h g f = counts_else (out-SchemaWord v) (λ x e. h x (sym (roll-out-SchemaWord v) ∙ e)) (λ ps e. g ps (sym (roll-out-SchemaWord v) ∙ e)) (λ s e. f s (sym (roll-out-SchemaWord v) ∙ e))

pub earliest_more : (v : Option Word) (vs ws : List Word) → earliest v (vs ++ ws) ≡ earliest (earliest v vs) ws
earliest_more v [] ws = refl
earliest_more v (u ∷ vs) ws = earliest_more (earlier v u) vs ws

pub ruleset earliest_steps = (earliest_more)

pub ruleset items_steps = (items-Items, items_other, append-nil)

pub ruleset key_steps = (key-Properties, key-Additional, key_other, append-nil)
