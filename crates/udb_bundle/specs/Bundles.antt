-- What a bundle is: a list of parts, each a heading and the lines that follow it.
use Rattle.std.specs.Prelude.{◌≡◌, ◌≤◌, ◌==◌, ◌&&◌, ◌||◌, Bool, true, false, not, IsTrue, ℕ, nat_le, List, [], ◌∷◌, ◌++◌, map, length, slice_index, codes, All, IsUtf8, if◌then◌else◌}
use Rattle.std.specs.List.{list_all, list_any}
use Rattle.std.specs.Str.{all_ascii_digits, bytes_eq}
use Rattle.std.specs.Str.Parse.{digits_value}
use Rattle.std.specs.Char.{is_ascii_hexdigit}
use Rattle.udb_base.specs.declared.kinds.Kind.{Kind}
use Rattle.udb_base.specs.declared.rows.Row.{Row}
use Rattle.udb_base.specs.Kinds.{kind_word}
use Rattle.udb_base.specs.Lines.{text_of_lines}
use Rattle.udb_base.specs.Names.{IsName}
pub use Rattle.udb_base.specs.Tables.{IsRow}
use Rattle.udb_bundle.specs.declared.bundle.Bundle.{Bundle}

-- ---- lines

-- a line without its line feed
abbrev pub Line : Type 0
Line = List ℕ

abbrev pub with_first : ℕ → List Line → List Line
with_first b [] = (b ∷ []) ∷ []
with_first b (l ∷ ls) = (b ∷ l) ∷ ls

-- the lines of bytes: each ends in a line feed, and the last may lack it
abbrev pub lines_of : List ℕ → List Line
lines_of [] = []
lines_of (b ∷ bs) = if b == 10 then [] ∷ lines_of bs else with_first b (lines_of bs)

-- ---- parts

-- a row with its kind, its name and the lines of its text; the word that the shipped rows belong to
-- the bundle; an image with a line for each word; a proof
pub data Part : Type 0 where
  entry : Kind → List ℕ → List Line → Part
  shipped : Part
  image : List Line → Part
  proof : List Line → Part

-- the lines that follow the heading
abbrev pub body : Part → List Line
body (entry kind name lines) = lines
body shipped = []
body (image lines) = lines
body (proof lines) = lines

-- the kind and the name, as they stand in the heading
abbrev pub title : Part → List ℕ
title (entry kind name lines) = kind_word kind ++ 32 ∷ name
title shipped = codes "shipped all"
title (image lines) = codes "image all"
title (proof lines) = codes "proof all"

-- decimal digits without a leading zero; zero itself is `0`
abbrev pub is_count : List ℕ → Bool
is_count digits = all_ascii_digits digits && (nat_le 1 (length digits) && ((length digits == 1) || not (slice_index digits 0 == 48)))

-- `=== kind name lines`, with single spaces
pub record IsHeading (line : Line) (part : Part) : Type 0 where
  pub digits : List ℕ
  pub number : IsTrue (is_count digits)
  pub counts : digits_value 10 digits ≡ length (body part)
  pub text : line ≡ codes "=== " ++ (title part ++ 32 ∷ digits)

-- a word of an image: 8 hexadecimal digits of either case
abbrev pub is_word : Line → Bool
is_word line = (length line == 8) && list_all is_ascii_hexdigit line

-- A row's name is a name, and its text has at most 65,536 bytes; an image has at most 16,384 words.
abbrev pub IsPart : Part → Type 0
IsPart (entry kind name lines) = IsName name × (length (text_of_lines lines) ≤ 65536)
IsPart shipped = Unit {0}
IsPart (image lines) = IsTrue (list_all is_word lines) × (length lines ≤ 16384)
IsPart (proof lines) = Unit {0}

-- whether one of the parts has this kind and name
abbrev pub has_title : List ℕ → List Part → Bool
has_title t parts = list_any (λ p. bytes_eq (title p) t) parts

-- Lines that are parts, one after the other, behind earlier parts. No two parts have the same kind
-- and name.
pub data Follow : List Part → List Line → List Part → Type 0 where
  none : {earlier : List Part} → Follow earlier [] []
  more : {earlier parts : List Part} {heading : Line} {lines : List Line} (part : Part) → IsHeading heading part → IsPart part → has_title (title part) earlier ≡ false → Follow (part ∷ earlier) lines parts → Follow earlier (heading ∷ body part ++ lines) (part ∷ parts)

-- ---- bundles

-- what a bundle holds with one more part
abbrev pub with_part : Bundle → Part → Bundle
with_part b (entry kind name lines) = record b { rows = b.rows ++ record { kind = kind; name = name; text = text_of_lines lines } ∷ [] }
with_part b shipped = record b { shipped = true }
with_part b (image lines) = record b { image = map (digits_value 16) lines }
with_part b (proof lines) = record b { proof = lines }

abbrev pub with_parts : Bundle → List Part → Bundle
with_parts b [] = b
with_parts b (p ∷ ps) = with_parts (with_part b p) ps

abbrev pub empty_bundle : Bundle
empty_bundle = record { rows = []; image = []; proof = []; shipped = false }

-- lines in UTF-8 that are the parts of a bundle
pub record SpellsLines (lines : List Line) (b : Bundle) : Type 0 where
  pub utf8 : All IsUtf8 lines
  pub parts : List Part
  pub follow : Follow [] lines parts
  pub holds : b ≡ with_parts empty_bundle parts

-- the bytes are the bundle's text
abbrev pub Spells : List ℕ → Bundle → Type 0
Spells bytes b = SpellsLines (lines_of bytes) b

-- no two rows have the same kind and name
abbrev pub HasDistinctKeys : List Row → Type 0
HasDistinctKeys [] = Unit {0}
HasDistinctKeys (r ∷ rs) = All (λ q. q.kind ≡ r.kind → q.name ≡ r.name → ⊥) rs × HasDistinctKeys rs
