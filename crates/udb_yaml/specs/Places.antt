-- What is found in a text, by its place.
use Rattle.std.specs.Prelude.{◌≡◌, ℕ, suc, ◌+◌, ◌<◌, ◌≤◌, Bool, false, not, ◌&&◌, if◌then◌else◌, eqb, List, [], ◌∷◌, ◌++◌, length, take, drop, slice_index, Option, Some, None}
use Rattle.std.specs.Str.{IsCharBoundary}
use Rattle.yaml_spec.specs.declared.state.Group.{Group}
use Rattle.yaml_spec.specs.declared.sights.Sight.{Sight}
use Rattle.yaml_spec.specs.declared.sights.Sight.TheVariants as sight
use Rattle.yaml_spec.specs.declared.sights.Got.{Got}
use Rattle.udb_yaml.specs.declared.flow.Sign.{Sign}
use Rattle.udb_yaml.specs.declared.flow.Sign.TheVariants as sign
use Rattle.yaml_spec.specs.declared.tree.Tree.{Tree}
use Rattle.yaml_spec.specs.declared.tree.Pair.{Pair}
use Rattle.yaml_spec.specs.Line.{begins, parts_here, digit, hex_digit, is_plain, has_flow, means_text}
use Rattle.yaml_spec.specs.Reading as r
use Rattle.yaml_spec.specs.Reading.{Taken, Read}

-- the place of the first two bytes that are these, or the end
abbrev pub pair_place : ℕ → ℕ → List ℕ → ℕ
pair_place a b [] = 0
pair_place a b (c ∷ s) = if eqb c a && begins b s then 0 else suc (pair_place a b s)

-- what is taken up to a colon, by the place of the colon
abbrev pub ColonAt : List ℕ → Taken → Option ℕ → Type 0
ColonAt s o None = o ≡ None
ColonAt s o (Some n) = (o ≡ Some (take n s, drop (n + 1) s)) × (n < length s) × (slice_index s n ≡ 58)

-- what is taken, by how long it is; a text may be cut there
abbrev pub Takes : List ℕ → Taken → Option (List ℕ × ℕ) → Type 0
Takes s o None = o ≡ None
Takes s o (Some p) = (o ≡ Some (p.0, drop p.1 s)) × (p.1 ≤ length s) × IsCharBoundary s p.1

-- the digits of a number
abbrev pub digit_in : Bool → ℕ → Option ℕ
digit_in hex c = if hex then hex_digit c else digit c

abbrev pub base_of : Bool → ℕ
base_of hex = if hex then 16 else 10

-- a plain key, in flow or not
abbrev pub is_plain_key : Bool → List ℕ → Bool
is_plain_key flow k = is_plain k (58 ∷ []) && (not (flow && has_flow k) && means_text k)

abbrev pub plain_key_in : Bool → List ℕ → Taken
plain_key_in flow s = if flow then r.colon_flow_key s else r.colon_key s

abbrev pub key_in : Bool → List ℕ → Taken
key_in flow s = r.quoted_or r.past_colon (plain_key_in flow) s

-- `-` before a space or the end
abbrev pub is_dash : List ℕ → Bool
is_dash [] = false
is_dash (c ∷ s) = eqb c 45 && parts_here s

-- what a line shows; it may be cut behind its mark
abbrev pub CanCut : List ℕ → Sight → Type 0
CanCut s (sight.Bare k key) = Unit {0}
CanCut s (sight.Before k key n) = (n ≤ length s) × IsCharBoundary s n
CanCut s sight.Other = Unit {0}

abbrev pub Shows : List ℕ → Sight → Sight → Type 0
Shows s seen x = (x ≡ seen) × CanCut s x

-- a value in flow, by how long it is
abbrev pub Reads : List ℕ → Read → Option (Tree × ℕ) → Type 0
Reads s o None = o ≡ None
Reads s o (Some p) = (o ≡ Some (p.0, drop p.1 s)) × (p.1 ≤ length s) × IsCharBoundary s p.1

-- parts in flow, by how long they are
abbrev pub ReadsParts : List ℕ → Option (List Pair × List ℕ) → Option (List Pair × ℕ) → Type 0
ReadsParts s o None = o ≡ None
ReadsParts s o (Some p) = (o ≡ Some (p.0, drop p.1 s)) × (p.1 ≤ length s) × IsCharBoundary s p.1

-- a part in flow and the spaces behind it, by how long they are
abbrev pub ReadsPart : Group → r.FlowReader → List Pair → List ℕ → Option (Pair × ℕ) → Type 0
ReadsPart k one before s None = (again : r.PartsReader) → r.part_head k one again before (r.flow_head k s) ≡ None
ReadsPart k one before s (Some p) = ((again : r.PartsReader) → r.part_head k one again before (r.flow_head k s) ≡ r.part_end k again (before ++ p.0 ∷ []) (drop p.1 s)) × (p.1 ≤ length s) × IsCharBoundary s p.1

-- what stands behind a part: the closing sign or a comma, and the place behind it
abbrev pub SignAt : Group → List ℕ → ℕ → Sign → Type 0
SignAt k s n sign.Fault = (again : r.PartsReader) (ps : List Pair) → r.part_end k again ps (drop n s) ≡ None
SignAt k s n (sign.Last m) = ((again : r.PartsReader) (ps : List Pair) → r.part_end k again ps (drop n s) ≡ Some (ps, drop m s)) × (m ≡ n + 1) × (n < length s) × (slice_index s n < 128)
SignAt k s n (sign.More m) = ((again : r.PartsReader) (ps : List Pair) → r.part_end k again ps (drop n s) ≡ again ps (drop m s)) × (m ≡ n + 1 + r.front (drop (n + 1) s)) × (n < length s) × (slice_index s n < 128)

-- a value whose line ends behind it
abbrev pub EndsWithin : List ℕ → Option (Tree × ℕ) → Type 0
EndsWithin s None = Unit {0}
EndsWithin s (Some p) = p.1 ≤ length s

abbrev pub ends_by : List ℕ → Option (Tree × ℕ) → Option Got
ends_by s None = None
ends_by s (Some p) = r.ends_line (Some (p.0, drop p.1 s))
