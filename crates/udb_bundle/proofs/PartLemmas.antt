-- Parts, and the reading that stands behind them.
use Rattle.std.proofs.Common.{◌≡◌, ℕ, ◌||◌, Bool, true, false, List, [], ◌∷◌, ◌++◌, length, map, Some, option_map, codes, refl, sym, ap, ◌∙◌, arith}
use Rattle.std.specs.Str.{bytes_eq}
use Rattle.std.specs.Str.Parse.{digits_value}
use Rattle.udb_base.specs.declared.kinds.Kind.{Kind}
use Rattle.udb_base.specs.declared.kinds.Kind.TheVariants as kinds
use Rattle.udb_base.specs.Kinds.{kind_word}
use Rattle.udb_base.specs.Lines.{text_of_lines}
use Rattle.udb_bundle.specs.declared.bundle.Bundle.{Bundle}
use Rattle.udb_bundle.specs.declared.reading.Open.TheVariants as open_part
use Rattle.udb_bundle.specs.declared.reading.Reading.{Reading}
use Rattle.udb_bundle.specs.Bundles.{Line, Part, entry, shipped, image, proof, body, title, IsHeading, IsPart, has_title, Follow, none, more, with_part, with_parts}
use Rattle.udb_bundle.specs.Reading.{title_of, has_row, closed, run, start}
use Rattle.udb_bundle.proofs.TitleLemmas.{has_row_push}
use Rattle.udb_bundle.proofs.HeadingLemmas as heads
use Rattle.udb_bundle.proofs.HeadingLemmas.{at, heading_text, Heads, heads_read}
use Rattle.udb_bundle.proofs.BodyLemmas.{then_run, lines_within, row_lines, image_lines, proof_lines, row_read, image_read, proof_read}

-- the reading knows the titles of the earlier parts
pub record Stands (earlier : List Part) (s : Reading) : Type 0 where
  pub rows : (k : Kind) (name : List ℕ) → has_title (title_of k name) earlier ≡ has_row (title_of k name) s.bundle.rows
  pub image : has_title (codes "image all") earlier ≡ s.has_image
  pub proof : has_title (codes "proof all") earlier ≡ s.has_proof
  pub shipped : has_title (codes "shipped all") earlier ≡ s.bundle.shipped

pub stands_start : Stands [] start
stands_start = record { rows = λ k name. refl; image = refl; proof = refl; shipped = refl }

-- the reading behind one more part
abbrev pub after : Reading → Part → Reading
after s (entry k name lines) = row_read s k name (text_of_lines lines)
after s shipped = record s { bundle = record s.bundle { shipped = true }; part = open_part.Nothing }
after s (image lines) = image_read s (map (digits_value 16) lines)
after s (proof lines) = proof_read s lines

-- ---- titles that differ by their kinds

row_is_no : (k : Kind) (name : List ℕ) → (bytes_eq (title_of k name) (codes "image all") ≡ false) × (bytes_eq (title_of k name) (codes "proof all") ≡ false) × (bytes_eq (title_of k name) (codes "shipped all") ≡ false)
row_is_no kinds.Extension name = (refl, refl, refl)
row_is_no kinds.Parameter name = (refl, refl, refl)
row_is_no kinds.Instruction name = (refl, refl, refl)
row_is_no kinds.Csr name = (refl, refl, refl)
row_is_no kinds.Functions name = (refl, refl, refl)
row_is_no kinds.Config name = (refl, refl, refl)

is_no_row : (k : Kind) (name : List ℕ) → (bytes_eq (codes "image all") (title_of k name) ≡ false) × (bytes_eq (codes "proof all") (title_of k name) ≡ false) × (bytes_eq (codes "shipped all") (title_of k name) ≡ false)
is_no_row kinds.Extension name = (refl, refl, refl)
is_no_row kinds.Parameter name = (refl, refl, refl)
is_no_row kinds.Instruction name = (refl, refl, refl)
is_no_row kinds.Csr name = (refl, refl, refl)
is_no_row kinds.Functions name = (refl, refl, refl)
is_no_row kinds.Config name = (refl, refl, refl)

or_swapped : (a b : Bool) → (a || b) ≡ (b || a)
or_swapped true true = refl
or_swapped true false = refl
or_swapped false true = refl
or_swapped false false = refl

other_or : (a b c : Bool) → a ≡ false → b ≡ c → (a || b) ≡ c
other_or a b c e f = rw e f

pub stands_after : (earlier : List Part) (s : Reading) (p : Part) → Stands earlier s → Stands (p ∷ earlier) (after s p)
stands_after earlier s (entry k name lines) h = record {
  rows = λ j other.
      ap (λ (b : Bool). bytes_eq (title_of k name) (title_of j other) || b) (h.rows j other)
      ∙ (or_swapped (bytes_eq (title_of k name) (title_of j other)) (has_row (title_of j other) s.bundle.rows)
      ∙ sym (has_row_push (title_of j other) s.bundle.rows (record { kind = k; name = name; text = text_of_lines lines })));
  image = other_or _ _ _ (row_is_no k name).0 h.image;
  proof = other_or _ _ _ (row_is_no k name).1 h.proof;
  shipped = other_or _ _ _ (row_is_no k name).2 h.shipped;
}
stands_after earlier s shipped h = record { rows = λ j other. other_or _ _ _ (is_no_row j other).2 (h.rows j other); image = h.image; proof = h.proof; shipped = refl }
stands_after earlier s (image lines) h = record { rows = λ j other. other_or _ _ _ (is_no_row j other).0 (h.rows j other); image = refl; proof = h.proof; shipped = h.shipped }
stands_after earlier s (proof lines) h = record { rows = λ j other. other_or _ _ _ (is_no_row j other).1 (h.rows j other); image = h.image; proof = refl; shipped = h.shipped }

-- the bundle of the reading behind a part has that part
pub after_bundle : (s : Reading) (p : Part) → (after s p).bundle ≡ with_part s.bundle p
after_bundle s (entry k name lines) = refl
after_bundle s shipped = refl
after_bundle s (image lines) = refl
after_bundle s (proof lines) = refl

pub after_between : (s : Reading) (p : Part) → after s p ≡ at open_part.Nothing (after s p)
after_between s (entry k name lines) = refl
after_between s shipped = refl
after_between s (image lines) = refl
after_between s (proof lines) = refl

-- ---- each part is read

heading_read : (s : Reading) (l : Line) (u : Reading) (ls : List Line) → Heads s l u → run (at open_part.Nothing s) (l ∷ ls) ≡ run (closed u) ls
heading_read s l u ls h = ap (λ o. then_run ls (option_map closed o)) (heads_read s l u h)

-- a part whose title is new is read
pub part_read : (earlier : List Part) (s : Reading) (p : Part) (l : Line) (rest : List Line) → Stands earlier s → IsHeading l p → IsPart p → has_title (title p) earlier ≡ false → run (at open_part.Nothing s) (l ∷ body p ++ rest) ≡ run (after s p) rest
part_read earlier s (entry k name lines) l rest h head part new =
    let heads = heads.entry k name head.digits (length lines) part.0 (sym (h.rows k name) ∙ new) head.number head.counts (omega (arith, lines_within lines, part.1)) in
    ap (λ (m : Line). run (at open_part.Nothing s) (m ∷ lines ++ rest)) head.text
    ∙ (heading_read s (heading_text (kind_word k) name head.digits) (at (open_part.Entry k name [] (length lines)) s) (lines ++ rest) heads
    ∙ row_lines s k name lines rest [] (omega (arith, part.1)))
part_read earlier s shipped l rest h head part new =
    ap (λ (m : Line). run (at open_part.Nothing s) (m ∷ rest)) head.text
    ∙ heading_read s (heading_text (codes "shipped") (codes "all") head.digits) _ rest (heads.shipped head.digits (sym h.shipped ∙ new) head.number head.counts)
part_read earlier s (image lines) l rest h head part new =
    let heads = heads.image head.digits (length lines) (sym h.image ∙ new) head.number head.counts part.1 in
    ap (λ (m : Line). run (at open_part.Nothing s) (m ∷ lines ++ rest)) head.text
    ∙ (heading_read s (heading_text (codes "image") (codes "all") head.digits) (at (open_part.Image [] (length lines)) s) (lines ++ rest) heads
    ∙ image_lines s lines rest [] part.0)
part_read earlier s (proof lines) l rest h head part new =
    let heads = heads.proof head.digits (length lines) (sym h.proof ∙ new) head.number head.counts in
    ap (λ (m : Line). run (at open_part.Nothing s) (m ∷ lines ++ rest)) head.text
    ∙ (heading_read s (heading_text (codes "proof") (codes "all") head.digits) (at (open_part.Proof [] (length lines)) s) (lines ++ rest) heads
    ∙ proof_lines s lines rest [] (length lines) (omega arith))

-- all parts are read
pub parts_read : (earlier parts : List Part) (ls : List Line) (s : Reading) → Stands earlier s → Follow earlier ls parts → (t : Reading) × (run (at open_part.Nothing s) ls ≡ Some (at open_part.Nothing t)) × (t.bundle ≡ with_parts s.bundle parts)
parts_read earlier parts ls s h none = (s, refl, refl)
parts_read earlier parts ls s h (more {parts = qs} {heading = l} {lines = rest} p head part new follow) =
    let f = parts_read (p ∷ earlier) qs rest (after s p) (stands_after earlier s p h) follow in
    (f.0, part_read earlier s p l rest h head part new ∙ (ap (λ (u : Reading). run u rest) (after_between s p) ∙ f.1), f.2 ∙ ap (λ (b : Bundle). with_parts b qs) (after_bundle s p))
