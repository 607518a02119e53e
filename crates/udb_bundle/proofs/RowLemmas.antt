-- The rows of a bundle: texts within the limit, and no two of the same kind and name.
use Rattle.std.proofs.Common.{◌≡◌, ℕ, false, List, [], ◌∷◌, ◌++◌, All, refl, sym, ap, ◌∙◌, subst, append_assoc, append-nil, IsUtf8}
use Rattle.std.specs.Str.{bytes_eq}
use Rattle.std.proofs.lemmas.Bool.{false≢true, or_parts}
use Rattle.std.proofs.lemmas.List.Elements.{All-nil, All-cons, All-head, All-tail}
use Rattle.std.proofs.lemmas.Str.{IsUtf8-nil, IsUtf8-append}
use lib.Utf8.{encode}
use Rattle.udb_base.specs.declared.rows.Row.{Row}
use Rattle.udb_base.specs.Lines.{text_of_lines}
use Rattle.udb_bundle.specs.declared.bundle.Bundle.{Bundle}
use Rattle.udb_bundle.specs.Bundles.{Line, Part, entry, shipped, image, proof, body, title, has_title, IsPart, Follow, none, more, with_part, with_parts, empty_bundle, SpellsLines, HasDistinctKeys, IsRow}
use Rattle.udb_bundle.specs.Reading.{title_of}
use Rattle.udb_bundle.proofs.HeadingLemmas.{bytes_same}
use Rattle.udb_bundle.proofs.FrontLemmas.{All-front, All-back}

abbrev rows_of : List Part → List Row
rows_of [] = []
rows_of (entry kind name lines ∷ ps) = record { kind = kind; name = name; text = text_of_lines lines } ∷ rows_of ps
rows_of (shipped ∷ ps) = rows_of ps
rows_of (image lines ∷ ps) = rows_of ps
rows_of (proof lines ∷ ps) = rows_of ps

rows_with : (ps : List Part) (b : Bundle) → (with_parts b ps).rows ≡ b.rows ++ rows_of ps
rows_with [] b = sym (append-nil b.rows)
rows_with (entry kind name lines ∷ ps) b =
    rows_with ps (with_part b (entry kind name lines)) ∙ append_assoc b.rows (record { kind = kind; name = name; text = text_of_lines lines } ∷ []) (rows_of ps)
rows_with (shipped ∷ ps) b = rows_with ps (with_part b shipped)
rows_with (image lines ∷ ps) b = rows_with ps (with_part b (image lines))
rows_with (proof lines ∷ ps) b = rows_with ps (with_part b (proof lines))

-- ---- texts

feed_utf8 : IsUtf8 (10 ∷ [])
unfolding encode
feed_utf8 = (10 ∷ [], (refl, refl))

lines_utf8 : (ls : List Line) → All IsUtf8 ls → IsUtf8 (text_of_lines ls)
lines_utf8 [] h = IsUtf8-nil
lines_utf8 (l ∷ ls) h =
    IsUtf8-append (l ++ 10 ∷ []) (text_of_lines ls) (IsUtf8-append l (10 ∷ []) (All-head IsUtf8 l ls h) feed_utf8) (lines_utf8 ls (All-tail IsUtf8 l ls h))

with_row : (p : Part) (ps : List Part) → IsPart p → All IsUtf8 (body p) → All IsRow (rows_of ps) → All IsRow (rows_of (p ∷ ps))
with_row (entry kind name lines) ps part u h =
    All-cons IsRow (record { kind = kind; name = name; text = text_of_lines lines }) (rows_of ps) (record { name = part.0; text = lines_utf8 lines u; short = part.1 }) h
with_row shipped ps part u h = h
with_row (image lines) ps part u h = h
with_row (proof lines) ps part u h = h

rows_are : (earlier parts : List Part) (ls : List Line) → Follow earlier ls parts → All IsUtf8 ls → All IsRow (rows_of parts)
rows_are earlier parts ls none u = All-nil IsRow
rows_are earlier parts ls (more {parts = ps} {heading = l} {lines = rest} p head part new follow) u =
    let behind = All-tail IsUtf8 l (body p ++ rest) u in
    with_row p ps part (All-front IsUtf8 (body p) rest behind) (rows_are (p ∷ earlier) ps rest follow (All-back IsUtf8 (body p) rest behind))

-- each row of a bundle has a name, and a text within the limit
pub spelled_rows : (ls : List Line) (b : Bundle) → SpellsLines ls b → All IsRow b.rows
spelled_rows ls b h =
    let e : b.rows ≡ rows_of h.parts = ap (λ (c : Bundle). c.rows) h.holds ∙ rows_with h.parts empty_bundle in
    subst (λ (rs : List Row). All IsRow rs) (sym e) (rows_are [] h.parts ls h.follow h.utf8)

-- ---- keys

abbrev IsOther : Row → Row → Type 0
IsOther r q = q.kind ≡ r.kind → q.name ≡ r.name → ⊥

-- a title that none of the earlier parts has isn't that of the row
abbrev Known : List Part → Row → Type 0
Known earlier r = (t : List ℕ) → has_title t earlier ≡ false → bytes_eq (title_of r.kind r.name) t ≡ false

other : (r q : Row) → bytes_eq (title_of r.kind r.name) (title_of q.kind q.name) ≡ false → IsOther r q
other r q h k n = false≢true (sym h ∙ bytes_same (title_of r.kind r.name) (title_of q.kind q.name) (sym (ap (λ j. title_of j q.name) k ∙ ap (title_of r.kind) n)))

other_part : (earlier : List Part) (r : Row) (p : Part) (ps : List Part) → Known earlier r → has_title (title p) earlier ≡ false → All (IsOther r) (rows_of ps) → All (IsOther r) (rows_of (p ∷ ps))
other_part earlier r (entry kind name lines) ps known new h =
    All-cons (IsOther r) (record { kind = kind; name = name; text = text_of_lines lines }) (rows_of ps) (other r (record { kind = kind; name = name; text = text_of_lines lines }) (known (title_of kind name) new)) h
other_part earlier r shipped ps known new h = h
other_part earlier r (image lines) ps known new h = h
other_part earlier r (proof lines) ps known new h = h

known_more : (earlier : List Part) (r : Row) (p : Part) → Known earlier r → Known (p ∷ earlier) r
known_more earlier r p known t h = known t (or_parts _ _ h).1

others : (earlier parts : List Part) (ls : List Line) (r : Row) → Known earlier r → Follow earlier ls parts → All (IsOther r) (rows_of parts)
others earlier parts ls r known none = All-nil (IsOther r)
others earlier parts ls r known (more {parts = ps} {lines = rest} p head part new follow) =
    other_part earlier r p ps known new (others (p ∷ earlier) ps rest r (known_more earlier r p known) follow)

with_key : (earlier : List Part) (p : Part) (ps : List Part) (ls : List Line) → Follow (p ∷ earlier) ls ps → HasDistinctKeys (rows_of ps) → HasDistinctKeys (rows_of (p ∷ ps))
with_key earlier (entry kind name lines) ps ls follow h =
    let r : Row = record { kind = kind; name = name; text = text_of_lines lines } in
    (others (entry kind name lines ∷ earlier) ps ls r (λ t n. (or_parts _ _ n).0) follow, h)
with_key earlier shipped ps ls follow h = h
with_key earlier (image lines) ps ls follow h = h
with_key earlier (proof lines) ps ls follow h = h

keys_are : (earlier parts : List Part) (ls : List Line) → Follow earlier ls parts → HasDistinctKeys (rows_of parts)
keys_are earlier parts ls none = tt
keys_are earlier parts ls (more {parts = ps} {lines = rest} p head part new follow) = with_key earlier p ps rest follow (keys_are (p ∷ earlier) ps rest follow)

-- no two rows of a bundle have the same kind and name
pub spelled_keys : (ls : List Line) (b : Bundle) → SpellsLines ls b → HasDistinctKeys b.rows
spelled_keys ls b h =
    let e : b.rows ≡ rows_of h.parts = ap (λ (c : Bundle). c.rows) h.holds ∙ rows_with h.parts empty_bundle in
    subst (λ (rs : List Row). HasDistinctKeys rs) (sym e) (keys_are [] h.parts ls h.follow)
