-- Names for what private functions answer; no part of what a text means.
use Rattle.std.specs.Prelude.{◌≡◌, ℕ, Bool, suc, ◌-◌, ◌/◌, ◌%◌, ◌<◌, ◌≤◌, List, [], ◌∷◌, ◌++◌, length, take, drop, Option, Some, option_map}
use Rattle.std.specs.Str.{IsCharBoundary}
use Rattle.yaml_spec.specs.declared.state.Group.{Group}
use Rattle.yaml_spec.specs.declared.state.Frame.{Frame}
use Rattle.yaml_spec.specs.declared.state.Block.{Block}
use Rattle.yaml_spec.specs.declared.state.Leaf.{Leaf}
use Rattle.yaml_spec.specs.declared.state.Leaf.TheVariants as leaf
use Rattle.yaml_spec.specs.declared.sights.Sight.{Sight}
use Rattle.yaml_spec.specs.declared.sights.Inner.{Inner}
use Rattle.yaml_spec.specs.declared.tree.Tree.{Tree}
use Rattle.yaml_spec.specs.declared.tree.Pair.{Pair}
use Rattle.yaml_spec.specs.Line.{spaces, pair, whole}
use Rattle.yaml_spec.specs.Spells.{at}
use Rattle.yaml_spec.specs.Texts.{lines_of}
use Rattle.yaml_spec.specs.Reading as r
use Rattle.yaml_spec.specs.Machine as k
use Rattle.yaml_spec.specs.Print.{glyph, escape}
use Rattle.udb_yaml.specs.declared.steps.State.{State as Open}
use Rattle.udb_yaml.specs.declared.nodes.Place.{Place}
use Rattle.udb_yaml.specs.Places.{Takes, Reads, ReadsParts}
use Rattle.udb_yaml.specs.Steps.{Begun, Stepped, Reaches, at_place, next_at, under_all}

-- ---- one line

abbrev pub ReadsQuoted : Inner → List ℕ → Option (Tree × ℕ) → Type 0
ReadsQuoted place s o = Reads s (r.as_text (r.quoted place (drop 1 s))) o

abbrev pub ReadsRest : ℕ → Group → ℕ → List ℕ → Option (Tree × ℕ) → Type 0
ReadsRest room k place s o = Reads s (r.flow_rest (r.flow room) k (drop place s)) o

abbrev pub ReadsAllParts : ℕ → Group → List ℕ → Option (List Pair × ℕ) → Type 0
ReadsAllParts room k s o = ReadsParts s (r.flow_parts k (r.flow room) (suc (length s)) [] s) o

abbrev pub TakesQuotedKey : Inner → List ℕ → Option (List ℕ × ℕ) → Type 0
TakesQuotedKey place s o = Takes s (r.past_colon (r.quoted place (drop 1 s))) o

abbrev pub inline_leaf : ℕ → ℕ → List ℕ → Option Leaf
inline_leaf room least s = option_map (k.leaf_of least) (r.inline room s)

-- the first line of a text: its column, how long it is without its end, and with it
abbrev pub IsFirstLine : List ℕ → ℕ → ℕ → ℕ → Type 0
IsFirstLine text column count long = lines_of text ≡ at column (drop column (take count text)) ∷ lines_of (drop long text)

-- ---- block scalars

abbrev pub deeper_row : Block → ℕ → ℕ → List ℕ → Block
deeper_row b m c s = k.next_row b m (spaces (c - m) ++ s)

-- ---- frames before and after

abbrev pub frame_tree : Frame → Tree → Tree
frame_tree f x = whole f.group (f.parts ++ pair f.key x ∷ [])

abbrev pub Closes : ℕ → List Frame → List Frame → Leaf → Tree → Type 0
Closes keep old new leaf x = (x ≡ k.close (drop keep old) leaf) × (new ≡ take keep old)

abbrev pub BeginsNode : ℕ → ℕ → ℕ → List ℕ → List Frame → List Frame → Option Leaf → Type 0
BeginsNode room least c s old new o = Begun (k.begin room least c s) old new o

abbrev pub BeginsBehind : ℕ → ℕ → List ℕ → Place → List Frame → List Frame → Option Leaf → Type 0
BeginsBehind room c s place old new o = Begun (at_place room (k.begin room) c s place) old new o

abbrev pub OpensPart : ℕ → Frame → Tree → List ℕ → Sight → List Frame → List Frame → Option Leaf → Type 0
OpensPart room f x s sight old new o = Begun (k.next (k.inside room (k.begin room) f.column s) f x sight) old new o

abbrev pub BeginsUnder : List Frame → Leaf → ℕ → List ℕ → List Frame → Option Leaf → Type 0
BeginsUnder old leaf c s new o = Begun (under_all old leaf c s) old new o

abbrev pub StepsNext : ℕ → ℕ → List Frame → Leaf → List ℕ → List Frame → Option Leaf → Type 0
StepsNext n here old leaf s new o = Stepped (next_at n here old leaf s) new o

abbrev pub StepsOn : List Frame → Leaf → ℕ → List ℕ → List Frame → Option Leaf → Type 0
StepsOn old leaf c s new o = Stepped (k.add 32 0 0 old leaf c s) new o

-- ---- states

abbrev pub ReachesUnlessSkipped : Open → ℕ → List ℕ → Option Open → Type 0
ReachesUnlessSkipped st c s o = Reaches (k.with_start st.started (k.unless_skipped 32 0 0 st.frames st.leaf (at c s))) o

abbrev pub ReachesRow : Open → ℕ → List ℕ → Option Open → Type 0
ReachesRow st c s o = Reaches (k.with_start st.started (k.advance 32 0 0 st.frames st.leaf (at c s))) o

abbrev pub ReachesBlockRow : Bool → List Frame → Block → ℕ → List ℕ → Option Open → Type 0
ReachesBlockRow started fs b c s o = Reaches (k.with_start started (k.advance 32 0 0 fs (leaf.Block b) (at c s))) o

abbrev pub ReachesNext : Open → ℕ → List ℕ → Option Open → Type 0
ReachesNext st c s o = Reaches (k.step st.started st.frames st.leaf (at c s)) o

-- ---- what is written

abbrev pub hex_escape : ℕ → List ℕ
hex_escape c = 92 ∷ 120 ∷ glyph (c / 16) ∷ glyph (c % 16) ∷ []

-- the first n bytes of s were written between quotes
abbrev pub WritesRun : List ℕ → List ℕ → List ℕ → ℕ → Type 0
WritesRun old new s n = (new ++ escape (drop n s) ≡ old ++ escape s) × (0 < n) × (n ≤ length s) × IsCharBoundary s n
