-- What one more line leaves open.
use Rattle.std.specs.Prelude.{◌≡◌, ℕ, suc, ◌+◌, ◌-◌, ◌≤◌, Bool, true, false, if◌then◌else◌, eqb, leb, ltb, List, [], ◌∷◌, ◌++◌, length, take, drop, Option, Some, None}
use Rattle.std.specs.Str.{IsCharBoundary}
use Rattle.yaml_spec.specs.declared.state.Group.{Group}
use Rattle.yaml_spec.specs.declared.state.Group.TheVariants.{Listed, Mapped}
use Rattle.yaml_spec.specs.declared.state.Frame.{Frame}
use Rattle.yaml_spec.specs.declared.state.Leaf.{Leaf}
use Rattle.yaml_spec.specs.declared.state.Leaf.TheVariants as leaf
use Rattle.yaml_spec.specs.declared.sights.Sight.{Sight}
use Rattle.yaml_spec.specs.declared.sights.Sight.TheVariants as sight
use Rattle.udb_yaml.specs.declared.steps.State.{State as Open}
use Rattle.udb_yaml.specs.declared.nodes.Place.{Place}
use Rattle.udb_yaml.specs.declared.nodes.Place.TheVariants as place
use Rattle.yaml_spec.specs.Reading.{inline, sees}
use Rattle.yaml_spec.specs.Machine as k
use Rattle.yaml_spec.specs.Machine.{State, level}

-- frames behind those that stand, and what stands at the innermost place
abbrev pub Begun : Option State → List Frame → List Frame → Option Leaf → Type 0
Begun st old new None = st ≡ None
Begun st old new (Some leaf) = (fs : List Frame) × (st ≡ Some (fs, leaf)) × (new ≡ old ++ fs)

-- all frames, and what stands at the innermost place
abbrev pub Stepped : Option State → List Frame → Option Leaf → Type 0
Stepped st new None = st ≡ None
Stepped st new (Some leaf) = st ≡ Some (new, leaf)

-- a mark's group and key, and what stands behind it
abbrev pub mark_of : Sight → Option (Group × List ℕ × Place)
mark_of sight.Other = None
mark_of (sight.Bare k key) = Some (k, key, place.End)
mark_of (sight.Before k key n) = Some (k, key, place.Behind k n)

abbrev pub at_place : ℕ → (ℕ → ℕ → List ℕ → Option State) → ℕ → List ℕ → Place → Option State
at_place r again c s place.End = Some ([], leaf.Hole)
at_place r again c s (place.Behind Mapped n) = k.inlined (suc c) (inline r (drop n s))
at_place r again c s (place.Behind Listed n) = again (suc c) (c + n) (drop n s)

abbrev pub CanCutAt : List ℕ → Place → Type 0
CanCutAt s place.End = Unit {0}
CanCutAt s (place.Behind k n) = (n ≤ length s) × IsCharBoundary s n

-- how many frames stand less deep
abbrev pub kept_count : ℕ → List Frame → ℕ
kept_count lv [] = 0
kept_count lv (f ∷ fs) = if ltb (level f.group f.column) lv then suc (kept_count lv fs) else 0

-- the least column inside the last frame
abbrev pub bound : ℕ → List Frame → ℕ
bound m [] = m
bound m (f ∷ fs) = bound (suc f.column) fs

-- frames in front of those of a state
abbrev pub behind_all : List Frame → Option State → Option State
behind_all fs None = None
behind_all fs (Some st) = Some (fs ++ st.0, st.1)

-- a part behind the parts of the frame at a place
abbrev pub next_of : ℕ → ℕ → List Frame → List Frame → Leaf → List ℕ → Option State
next_of n here kept [] l s = None
next_of n here kept (f ∷ fs) l s = if ltb n 32 then (if eqb (level f.group f.column) here then behind_all kept (k.next (k.inside (31 - n) (k.begin (31 - n)) f.column s) f (k.close fs l) (sees s)) else None) else None

abbrev pub next_at : ℕ → ℕ → List Frame → Leaf → List ℕ → Option State
next_at n here fs l s = next_of n here (take n fs) (drop n fs) l s

-- a node below the last mark
abbrev pub under_all : List Frame → Leaf → ℕ → List ℕ → Option State
under_all fs leaf.Hole c s = if leb (length fs) 32 then k.begin (32 - length fs) (bound 0 fs) c s else None
under_all fs (leaf.Done x) c s = None
under_all fs (leaf.Block b) c s = None

-- the code's state, as the reader's
abbrev pub reader_of : Open → k.Reader
reader_of o = (o.started, (o.frames, o.leaf))

abbrev pub Reaches : Option k.Reader → Option Open → Type 0
Reaches st None = st ≡ None
Reaches st (Some o) = st ≡ Some (reader_of o)

-- whether nothing stands yet
abbrev pub is_start : List Frame → Leaf → Bool
is_start [] leaf.Hole = true
is_start [] (leaf.Done x) = false
is_start [] (leaf.Block b) = false
is_start (f ∷ fs) l = false
