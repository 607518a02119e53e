-- One layer of a tree, variant by variant, and what a tree is at its root.
use Rattle.std.proofs.Common.{◌≡◌, ℕ, ℤ, Bool, None, Some, List, refl, ap, sym, ◌∙◌}
use Rattle.yaml_spec.specs.declared.tree.Tree.{Tree, out-Tree}
use Rattle.yaml_spec.specs.declared.tree.Tree.TheVariants as tree
use Rattle.yaml_spec.specs.declared.tree.Tree.TheOpen.{Tree-F}
use Rattle.yaml_spec.specs.declared.tree.Tree.TheViews.{roll-Tree, roll-out-Tree, out-roll-Tree}
use Rattle.yaml_spec.specs.declared.tree.Pair.{Pair}
use Rattle.yaml_spec.specs.Trees.{Layer, items_of, entries_of, items_layer, entries_layer}

pub out-Null : out-Tree tree.Null ≡ Tree-F.Null
out-Null = ap out-Tree (sym tree.rolls-Null) ∙ out-roll-Tree _

pub out-Flag : (b : Bool) → out-Tree (tree.Flag b) ≡ Tree-F.Flag b
out-Flag b = ap out-Tree (sym (tree.rolls-Flag b)) ∙ out-roll-Tree _

pub out-Int : (z : ℤ) → out-Tree (tree.Int z) ≡ Tree-F.Int z
out-Int z = ap out-Tree (sym (tree.rolls-Int z)) ∙ out-roll-Tree _

pub out-Text : (s : List ℕ) → out-Tree (tree.Text s) ≡ Tree-F.Text s
out-Text s = ap out-Tree (sym (tree.rolls-Text s)) ∙ out-roll-Tree _

pub out-List : (xs : List Tree) → out-Tree (tree.List xs) ≡ Tree-F.List xs
out-List xs = ap out-Tree (sym (tree.rolls-List xs)) ∙ out-roll-Tree _

pub out-Map : (ps : List Pair) → out-Tree (tree.Map ps) ≡ Tree-F.Map ps
out-Map ps = ap out-Tree (sym (tree.rolls-Map ps)) ∙ out-roll-Tree _

pub ruleset layers = (out-Null, out-Flag, out-Int, out-Text, out-List, out-Map)

leaf_items : (o : Layer) → ((xs : List Tree) → roll-Tree o ≡ tree.List xs → ⊥) → items_layer o ≡ None
leaf_items (Tree-F.List xs) h = absurd (h xs (tree.rolls-List xs))
leaf_items o h = refl

leaf_entries : (o : Layer) → ((ps : List Pair) → roll-Tree o ≡ tree.Map ps → ⊥) → entries_layer o ≡ None
leaf_entries (Tree-F.Map ps) h = absurd (h ps (tree.rolls-Map ps))
leaf_entries o h = refl

-- a tree that is no list has no items
pub no_items : (t : Tree) → ((xs : List Tree) → t ≡ tree.List xs → ⊥) → items_of t ≡ None
unfolding items_of
no_items t h = leaf_items (out-Tree t) (λ xs e. h xs (sym (roll-out-Tree t) ∙ e))

-- a tree that is no map has no entries
pub no_entries : (t : Tree) → ((ps : List Pair) → t ≡ tree.Map ps → ⊥) → entries_of t ≡ None
unfolding entries_of
no_entries t h = leaf_entries (out-Tree t) (λ ps e. h ps (sym (roll-out-Tree t) ∙ e))

pub list_items : (xs : List Tree) → items_of (tree.List xs) ≡ Some xs
unfolding items_of
list_items xs = ap items_layer (out-List xs)

pub list_entries : (xs : List Tree) → entries_of (tree.List xs) ≡ None
unfolding entries_of
list_entries xs = ap entries_layer (out-List xs)

pub map_items : (ps : List Pair) → items_of (tree.Map ps) ≡ None
unfolding items_of
map_items ps = ap items_layer (out-Map ps)

pub map_entries : (ps : List Pair) → entries_of (tree.Map ps) ≡ Some ps
unfolding entries_of
map_entries ps = ap entries_layer (out-Map ps)

pub items_rolled : (o : Layer) → items_of (roll-Tree o) ≡ items_layer o
unfolding items_of
items_rolled o = ap items_layer (out-roll-Tree o)

pub entries_rolled : (o : Layer) → entries_of (roll-Tree o) ≡ entries_layer o
unfolding entries_of
entries_rolled o = ap entries_layer (out-roll-Tree o)
