-- A line leaves the rows that were read before it.
use Rattle.std.proofs.Common.{◌≡◌, ◌&&◌, ◌+◌, ◌-◌, ℕ, Bool, true, false, not, cond, nat_le, List, [], ◌∷◌, ◌++◌, length, Option, Some, None, refl, sym, ap, ◌∙◌}
use Rattle.std.proofs.lemmas.Option.{same_Some, none-some}
use Rattle.udb_bundle.specs.declared.headings.PartKind.{PartKind}
use Rattle.udb_bundle.specs.declared.headings.PartKind.TheVariants as kind_of
use Rattle.udb_bundle.specs.declared.reading.Open.{Open}
use Rattle.udb_bundle.specs.declared.reading.Open.TheVariants as open_part
use Rattle.udb_bundle.specs.declared.reading.Reading.{Reading}
use Rattle.udb_bundle.specs.Bundles.{Line}
use Rattle.udb_bundle.specs.Reading.{HeadingWords, heading_words, part_kind, is_name, is_all, title_of, has_row, count_within, new_entry, new_image, new_proof, opened, ships, begun_shipped, begun_image, begun_proof, begun, begun_as, headed, word_of, with_word, advanced}

abbrev Keeps : Reading → Option Reading → Type 0
Keeps s o = (t : Reading) → o ≡ Some t → t.bundle.rows ≡ s.bundle.rows

none_keeps : (s : Reading) → Keeps s None
none_keeps s t e = absurd (none-some t e)

same_keeps : (s u : Reading) → u.bundle.rows ≡ s.bundle.rows → Keeps s (Some u)
same_keeps s u h t e = ap (λ (r : Reading). r.bundle.rows) (sym (same_Some _ _ e)) ∙ h

choice_keeps : (s : Reading) (b : Bool) (x y : Option Reading) → Keeps s x → Keeps s y → Keeps s (cond b x y)
choice_keeps s true x y h g = h
choice_keeps s false x y h g = g

opened_keeps : (s : Reading) (o : Option Open) → Keeps s (opened s o)
opened_keeps s None = none_keeps s
opened_keeps s (Some o) = same_keeps s (record s { part = o }) refl

ships_keeps : (s : Reading) (o : Option ℕ) → Keeps s (ships s o)
ships_keeps s None = none_keeps s
ships_keeps s (Some n) = same_keeps s (record s { bundle = record s.bundle { shipped = true } }) refl

begun_keeps : (s : Reading) (p : PartKind) (name digits : List ℕ) → Keeps s (begun s p name digits)
begun_keeps s (kind_of.Entry k) name digits =
    choice_keeps s (is_name name && not (has_row (title_of k name) s.bundle.rows)) (opened s (new_entry k name digits)) None (opened_keeps s (new_entry k name digits)) (none_keeps s)
begun_keeps s kind_of.Shipped name digits =
    choice_keeps s (is_all name) (begun_shipped s digits) None (choice_keeps s s.bundle.shipped None (ships s (count_within 0 digits)) (none_keeps s) (ships_keeps s (count_within 0 digits))) (none_keeps s)
begun_keeps s kind_of.Image name digits =
    choice_keeps s (is_all name) (begun_image s digits) None (choice_keeps s s.has_image None (opened s (new_image digits)) (none_keeps s) (opened_keeps s (new_image digits))) (none_keeps s)
begun_keeps s kind_of.Proof name digits =
    choice_keeps s (is_all name) (begun_proof s digits) None (choice_keeps s s.has_proof None (opened s (new_proof digits)) (none_keeps s) (opened_keeps s (new_proof digits))) (none_keeps s)

begun_as_keeps : (s : Reading) (o : Option PartKind) (name digits : List ℕ) → Keeps s (begun_as s o name digits)
begun_as_keeps s None name digits = none_keeps s
begun_as_keeps s (Some p) name digits = begun_keeps s p name digits

headed_keeps : (s : Reading) (o : HeadingWords) → Keeps s (headed s o)
headed_keeps s None = none_keeps s
headed_keeps s (Some w) = begun_as_keeps s (part_kind w.0) w.1.0 w.1.1

word_keeps : (s : Reading) (words : List ℕ) (left : ℕ) (o : Option ℕ) → Keeps s (with_word s words left o)
word_keeps s words left None = none_keeps s
word_keeps s words left (Some w) = same_keeps s (record s { part = open_part.Image (words ++ w ∷ []) (left - 1) }) refl

pub advanced_rows : (o : Open) (s : Reading) (line : Line) → Keeps s (advanced o s line)
advanced_rows open_part.Nothing s line = headed_keeps s (heading_words line)
advanced_rows (open_part.Entry k name text left) s line =
    choice_keeps s (nat_le (length text + length line + left) 65536) (Some (record s { part = open_part.Entry k name (text ++ line ++ 10 ∷ []) (left - 1) })) None
    (same_keeps s (record s { part = open_part.Entry k name (text ++ line ++ 10 ∷ []) (left - 1) }) refl) (none_keeps s)
advanced_rows (open_part.Image words left) s line = word_keeps s words left (word_of line)
advanced_rows (open_part.Proof lines count) s line = same_keeps s (record s { part = open_part.Proof (lines ++ line ∷ []) count }) refl
