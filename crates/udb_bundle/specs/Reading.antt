-- How a bundle is read line by line. Nothing above names these definitions.
use Rattle.std.specs.Prelude.{◌==◌, ◌&&◌, ◌+◌, ◌-◌, Bool, true, false, not, ℕ, nat_le, List, [], ◌∷◌, ◌++◌, length, codes, Option, Some, None, Result, Ok, Err, option_map, option_and_then, ◌≡◌, IsUtf8, if◌then◌else◌}
use Rattle.std.specs.List.{list_all, list_any}
use Rattle.std.specs.Str.{bytes_eq}
use Rattle.std.specs.Str.Parse.{digits_value}
use Rattle.udb_base.specs.declared.kinds.Kind.{Kind}
use Rattle.udb_base.specs.declared.kinds.Kind.TheVariants as kinds
use Rattle.udb_base.specs.declared.rows.Row.{Row}
use Rattle.udb_base.specs.Kinds.{kind_word}
use Rattle.udb_bundle.specs.declared.headings.PartKind.{PartKind}
use Rattle.udb_bundle.specs.declared.headings.PartKind.TheVariants as kind_of
use Rattle.udb_bundle.specs.declared.reading.Open.{Open}
use Rattle.udb_bundle.specs.declared.reading.Open.TheVariants as open_part
use Rattle.udb_bundle.specs.declared.reading.Reading.{Reading}
use Rattle.udb_bundle.specs.declared.faults.LineFault.{LineFault}
use Rattle.udb_bundle.specs.declared.faults.LineFault.TheVariants.{Memory, Bad}
use Rattle.udb_bundle.specs.Bundles.{Line, is_count, is_word, empty_bundle}

abbrev pub is_feed : ℕ → Bool
is_feed b = b == 10

-- ---- headings

-- what stands before the first space, and behind it
abbrev pub Cut : Type 0
Cut = Option (List ℕ × List ℕ)

abbrev pub with_byte : ℕ → Cut → Cut
with_byte b None = None
with_byte b (Some p) = Some (b ∷ p.0, p.1)

abbrev pub cut : List ℕ → Cut
cut [] = None
cut (b ∷ bs) = if b == 32 then Some ([], bs) else with_byte b (cut bs)

abbrev pub HeadingWords : Type 0
HeadingWords = Option (List ℕ × (List ℕ × List ℕ))

abbrev pub words_from : List ℕ → Cut → HeadingWords
words_from kind None = None
words_from kind (Some p) = Some (kind, p)

abbrev pub words_behind : Cut → HeadingWords
words_behind None = None
words_behind (Some p) = words_from p.0 (cut p.1)

abbrev pub words_marked : Cut → HeadingWords
words_marked None = None
words_marked (Some p) = if bytes_eq p.0 (codes "===") then words_behind (cut p.1) else None

-- the kind, the name and the count in a heading
abbrev pub heading_words : Line → HeadingWords
heading_words line = words_marked (cut line)

abbrev pub part_kind : List ℕ → Option PartKind
part_kind w =
    if bytes_eq w (codes "extension") then Some (kind_of.Entry kinds.Extension) else
    (if bytes_eq w (codes "parameter") then Some (kind_of.Entry kinds.Parameter) else
    (if bytes_eq w (codes "instruction") then Some (kind_of.Entry kinds.Instruction) else
    (if bytes_eq w (codes "csr") then Some (kind_of.Entry kinds.Csr) else
    (if bytes_eq w (codes "functions") then Some (kind_of.Entry kinds.Functions) else
    (if bytes_eq w (codes "config") then Some (kind_of.Entry kinds.Config) else
    (if bytes_eq w (codes "shipped") then Some kind_of.Shipped else
    (if bytes_eq w (codes "image") then Some kind_of.Image else
    (if bytes_eq w (codes "proof") then Some kind_of.Proof else None))))))))

-- the number that digits without a leading zero give
abbrev pub count_of : List ℕ → Option ℕ
count_of digits = if is_count digits then Some (digits_value 10 digits) else None

-- the same, where it is at most so much
abbrev pub count_within : ℕ → List ℕ → Option ℕ
count_within most digits = if is_count digits && nat_le (digits_value 10 digits) most then Some (digits_value 10 digits) else None

abbrev pub is_name_byte : ℕ → Bool
is_name_byte b = nat_le 33 b && (nat_le b 126 && (not (b == 47) && (not (b == 37) && (not (b == 63) && not (b == 35)))))

abbrev pub is_name : List ℕ → Bool
is_name text = nat_le 1 (length text) && (nat_le (length text) 64 && list_all is_name_byte text)

abbrev pub is_all : List ℕ → Bool
is_all name = bytes_eq name (codes "all")

-- the word that a line of an image gives
abbrev pub word_of : Line → Option ℕ
word_of line = if is_word line then Some (digits_value 16 line) else None

-- ---- rows by their titles

abbrev pub title_of : Kind → List ℕ → List ℕ
title_of kind name = kind_word kind ++ 32 ∷ name

abbrev pub has_row : List ℕ → List Row → Bool
has_row t rows = list_any (λ r. bytes_eq (title_of r.kind r.name) t) rows

-- ---- steps

abbrev pub start : Reading
start = record { bundle = empty_bundle; has_image = false; has_proof = false; part = open_part.Nothing }

abbrev pub opened : Reading → Option Open → Option Reading
opened s None = None
opened s (Some o) = Some (record s { part = o })

-- a row, its text and how many lines it wants
abbrev pub new_entry : Kind → List ℕ → List ℕ → Option Open
new_entry kind name digits = option_map (λ n. open_part.Entry kind name [] n) (count_within 65536 digits)

abbrev pub new_image : List ℕ → Option Open
new_image digits = option_map (λ n. open_part.Image [] n) (count_within 16384 digits)

abbrev pub new_proof : List ℕ → Option Open
new_proof digits = option_map (λ n. open_part.Proof [] n) (count_of digits)

abbrev pub ships : Reading → Option ℕ → Option Reading
ships s None = None
ships s (Some n) = Some (record s { bundle = record s.bundle { shipped = true } })

abbrev pub begun_entry : Reading → Kind → List ℕ → List ℕ → Option Reading
begun_entry s kind name digits =
    if is_name name && not (has_row (title_of kind name) s.bundle.rows) then opened s (new_entry kind name digits) else None

abbrev pub begun_shipped : Reading → List ℕ → Option Reading
begun_shipped s digits = if s.bundle.shipped then None else ships s (count_within 0 digits)

abbrev pub begun_image : Reading → List ℕ → Option Reading
begun_image s digits = if s.has_image then None else opened s (new_image digits)

abbrev pub begun_proof : Reading → List ℕ → Option Reading
begun_proof s digits = if s.has_proof then None else opened s (new_proof digits)

-- behind the heading of a part
abbrev pub begun : Reading → PartKind → List ℕ → List ℕ → Option Reading
begun s (kind_of.Entry kind) name digits = begun_entry s kind name digits
begun s kind_of.Shipped name digits = if is_all name then begun_shipped s digits else None
begun s kind_of.Image name digits = if is_all name then begun_image s digits else None
begun s kind_of.Proof name digits = if is_all name then begun_proof s digits else None

abbrev pub begun_as : Reading → Option PartKind → List ℕ → List ℕ → Option Reading
begun_as s None name digits = None
begun_as s (Some kind) name digits = begun s kind name digits

abbrev pub headed : Reading → HeadingWords → Option Reading
headed s None = None
headed s (Some w) = begun_as s (part_kind w.0) w.1.0 w.1.1

abbrev pub with_text : Reading → Kind → List ℕ → List ℕ → ℕ → Line → Option Reading
with_text s kind name text left line =
    if nat_le (length text + length line + left) 65536
    then Some (record s { part = open_part.Entry kind name (text ++ line ++ 10 ∷ []) (left - 1) })
    else None

abbrev pub with_word : Reading → List ℕ → ℕ → Option ℕ → Option Reading
with_word s words left None = None
with_word s words left (Some w) = Some (record s { part = open_part.Image (words ++ w ∷ []) (left - 1) })

-- behind a line of the part that is open, or behind a heading
abbrev pub advanced : Open → Reading → Line → Option Reading
advanced open_part.Nothing s line = headed s (heading_words line)
advanced (open_part.Entry kind name text left) s line = with_text s kind name text left line
advanced (open_part.Image words left) s line = with_word s words left (word_of line)
advanced (open_part.Proof lines count) s line = Some (record s { part = open_part.Proof (lines ++ line ∷ []) count })

-- a part that wants no more lines
abbrev pub is_full : Open → Bool
is_full open_part.Nothing = false
is_full (open_part.Entry kind name text left) = left == 0
is_full (open_part.Image words left) = left == 0
is_full (open_part.Proof lines count) = count == length lines

abbrev pub with_row : List Row → Kind → List ℕ → List ℕ → List Row
with_row rows kind name text = rows ++ record { kind = kind; name = name; text = text } ∷ []

abbrev pub close : Open → Reading → Reading
close open_part.Nothing s = s
close (open_part.Entry kind name text left) s =
    record s { bundle = record s.bundle { rows = with_row s.bundle.rows kind name text }; part = open_part.Nothing }
close (open_part.Image words left) s = record s { bundle = record s.bundle { image = words }; has_image = true; part = open_part.Nothing }
close (open_part.Proof lines count) s = record s { bundle = record s.bundle { proof = lines }; has_proof = true; part = open_part.Nothing }

abbrev pub closed : Reading → Reading
closed s = if is_full s.part then close s.part s else s

abbrev pub step : Reading → Line → Option Reading
step s line = option_map closed (advanced s.part s line)

abbrev pub run : Reading → List Line → Option Reading
run s [] = Some s
run s (l ∷ ls) = option_and_then (λ t. run t ls) (step s l)

abbrev pub is_nothing : Open → Bool
is_nothing open_part.Nothing = true
is_nothing _ = false

-- no part is open
abbrev pub is_between : Reading → Bool
is_between s = is_nothing s.part

-- ---- what the functions answer

-- the reading that is reached, or there is none
abbrev pub Reaches : Option Reading → Result (Unit {0}) LineFault → Reading → Type 0
Reaches o (Ok _) new = o ≡ Some new
Reaches o (Err Bad) new = o ≡ None
Reaches o (Err Memory) new = Unit {0}

-- the same of a line, which has to be UTF-8
abbrev pub TakesLine : Reading → Line → Result (Unit {0}) LineFault → Reading → Type 0
TakesLine s line (Ok _) new = IsUtf8 line × (step s line ≡ Some new)
TakesLine s line (Err Bad) new = IsUtf8 line → step s line ≡ None
TakesLine s line (Err Memory) new = Unit {0}

abbrev pub PushesText : List ℕ → ℕ → Line → Result (Unit {0}) LineFault → List ℕ → ℕ → Type 0
PushesText text left line (Ok _) text' left' =
    (nat_le (length text + length line + left) 65536 ≡ true) × (text' ≡ text ++ line ++ 10 ∷ []) × (left' ≡ left - 1)
PushesText text left line (Err Bad) text' left' = nat_le (length text + length line + left) 65536 ≡ false
PushesText text left line (Err Memory) text' left' = Unit {0}

abbrev pub PushesWord : List ℕ → ℕ → Line → Result (Unit {0}) LineFault → List ℕ → ℕ → Type 0
PushesWord words left line (Ok _) words' left' = (w : ℕ) × (word_of line ≡ Some w) × (words' ≡ words ++ w ∷ []) × (left' ≡ left - 1)
PushesWord words left line (Err Bad) words' left' = word_of line ≡ None
PushesWord words left line (Err Memory) words' left' = Unit {0}

abbrev pub PushesLine : List Line → Line → Result (Unit {0}) LineFault → List Line → Type 0
PushesLine lines line (Ok _) lines' = lines' ≡ lines ++ line ∷ []
PushesLine lines line (Err Bad) lines' = ⊥
PushesLine lines line (Err Memory) lines' = Unit {0}
