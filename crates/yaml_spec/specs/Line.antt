-- Statement: what stands on one line. Texts are lists of their bytes in UTF-8, and each sign of the profile is one byte. Sources: YAML 1.2.2, sections 5.7 (escapes), 7.3 (flow scalars), 7.4 (flow collections) and 8.1.1 (headers of block scalars), cut to the profile.
use Rattle.std.specs.Prelude.{◌≡◌, ℕ, suc, ◌+◌, ◌-◌, ◌*◌, ◌^◌, Bool, true, false, not, ◌&&◌, ◌||◌, if◌then◌else◌, eqb, leb, IsTrue, List, [], ◌∷◌, ◌++◌, map, replicate, length, ℤ, pos, neg_ℤ, Option, Some, None, option_map, option_and_then, encode_utf8}
use Rattle.std.specs.Str.{bytes_eq}
use Rattle.yaml_spec.specs.declared.state.Group.{Group}
use Rattle.yaml_spec.specs.declared.state.Group.TheVariants.{Listed, Mapped}
use Rattle.yaml_spec.specs.declared.tree.Tree.{Tree}
use Rattle.yaml_spec.specs.declared.tree.Pair.{Pair}
use Rattle.yaml_spec.specs.declared.tree.Tree.TheVariants as tree

-- ---- bytes

abbrev pub has : ℕ → List ℕ → Bool
has a [] = false
has a (c ∷ s) = eqb c a || has a s

abbrev pub begins : ℕ → List ℕ → Bool
begins a [] = false
begins a (c ∷ s) = eqb c a

abbrev pub has_pair : ℕ → ℕ → List ℕ → Bool
has_pair a b [] = false
has_pair a b (c ∷ s) = (eqb c a && begins b s) || has_pair a b s

abbrev pub ends_in : ℕ → List ℕ → Bool
ends_in a [] = false
ends_in a (c ∷ []) = eqb c a
ends_in a (c ∷ d ∷ s) = ends_in a (d ∷ s)

abbrev pub is_one : List ℕ → ℕ → Bool
is_one [] c = false
is_one (a ∷ s) c = eqb c a || is_one s c

abbrev pub spaces : ℕ → List ℕ
spaces n = replicate n 32

-- a space, or the end
abbrev pub parts_here : List ℕ → Bool
parts_here [] = true
parts_here (c ∷ s) = eqb c 32

-- what may stand behind a line's content: spaces, or a space and a comment
pub data IsTail : List ℕ → Type 0 where
  nothing : IsTail []
  space : {t : List ℕ} → IsTail t → IsTail (32 ∷ t)
  comment : {t : List ℕ} → IsTail (32 ∷ 35 ∷ t)

-- ---- plain scalars

-- , [ ] { } # & * ! | > ' " % @ `
abbrev pub is_sign : ℕ → Bool
is_sign c = is_one (44 ∷ 91 ∷ 93 ∷ 123 ∷ 125 ∷ 35 ∷ 38 ∷ 42 ∷ 33 ∷ 124 ∷ 62 ∷ 39 ∷ 34 ∷ 37 ∷ 64 ∷ 96 ∷ []) c

-- - ? :
abbrev pub is_mark : ℕ → Bool
is_mark c = is_one (45 ∷ 63 ∷ 58 ∷ []) c

-- how a plain scalar begins; `after` is what follows it
abbrev pub may_begin : List ℕ → List ℕ → Bool
may_begin [] after = false
may_begin (c ∷ []) after = not (is_sign c) && (not (eqb c 32) && not (is_mark c && parts_here after))
may_begin (c ∷ d ∷ s) after = not (is_sign c) && (not (eqb c 32) && not (is_mark c && eqb d 32))

-- it has no tab, no `: ` and no ` #`, and ends neither in a space nor in `:`
abbrev pub is_plain : List ℕ → List ℕ → Bool
is_plain s after = may_begin s after && (not (has 9 s) && (not (has_pair 58 32 s) && (not (has_pair 32 35 s) && (not (ends_in 32 s) && not (ends_in 58 s)))))

-- , [ ] { }
abbrev pub is_flow : ℕ → Bool
is_flow c = is_one (44 ∷ 91 ∷ 93 ∷ 123 ∷ 125 ∷ []) c

abbrev pub has_flow : List ℕ → Bool
has_flow [] = false
has_flow (c ∷ s) = is_flow c || has_flow s

-- ---- what a plain scalar stands for

abbrev pub digit : ℕ → Option ℕ
digit c = if leb 48 c && leb c 57 then Some (c - 48) else None

abbrev pub hex_digit : ℕ → Option ℕ
hex_digit c = if leb 48 c && leb c 57 then Some (c - 48) else if leb 65 c && leb c 70 then Some (c - 55) else if leb 97 c && leb c 102 then Some (c - 87) else None

-- the number that digits write, behind digits of the value n
abbrev pub digits : (ℕ → Option ℕ) → ℕ → ℕ → List ℕ → Option ℕ
digits one base n [] = Some n
digits one base n (c ∷ s) = option_and_then (λ d. digits one base (n * base + d) s) (one c)

abbrev pub at_most : ℕ → Option ℕ → Option ℕ
at_most limit None = None
at_most limit (Some n) = if leb n limit then Some n else None

-- a decimal without leading zero, up to a limit
abbrev pub decimal_to : ℕ → List ℕ → Option ℕ
decimal_to limit [] = None
decimal_to limit (c ∷ s) = if eqb c 48 then None else at_most limit (digits digit 10 0 (c ∷ s))

abbrev pub hexadecimal : List ℕ → Option ℕ
hexadecimal [] = None
hexadecimal (c ∷ s) = at_most (2 ^ 64 - 1) (digits hex_digit 16 0 (c ∷ s))

-- `0`, a decimal with or without `-`, or `0x` and hexadecimal digits, from -2^63 to 2^64-1
abbrev pub number : List ℕ → Option ℤ
number [] = None
number (c ∷ []) = option_map pos (digit c)
number (c ∷ d ∷ s) =
    if eqb c 45 then option_map (λ n. neg_ℤ (pos n)) (decimal_to (2 ^ 63) (d ∷ s)) else
    if eqb c 48 && eqb d 120 then option_map pos (hexadecimal s) else
    option_map pos (decimal_to (2 ^ 64 - 1) (c ∷ d ∷ s))

abbrev pub number_or_text : List ℕ → Option ℤ → Tree
number_or_text s None = tree.Text s
number_or_text s (Some n) = tree.Int n

abbrev pub is_null : List ℕ → Bool
is_null s = bytes_eq s (110 ∷ 117 ∷ 108 ∷ 108 ∷ []) || bytes_eq s (126 ∷ [])

abbrev pub is_true : List ℕ → Bool
is_true s = bytes_eq s (116 ∷ 114 ∷ 117 ∷ 101 ∷ [])

abbrev pub is_false : List ℕ → Bool
is_false s = bytes_eq s (102 ∷ 97 ∷ 108 ∷ 115 ∷ 101 ∷ [])

-- `null` and `~`, `true` and `false`, a number, else a text
abbrev pub meaning : List ℕ → Tree
meaning s = if is_null s then tree.Null else if is_true s then tree.Flag true else if is_false s then tree.Flag false else number_or_text s (number s)

abbrev pub none_here : Option ℤ → Bool
none_here None = true
none_here (Some n) = false

-- whether it stands for a text
abbrev pub means_text : List ℕ → Bool
means_text s = not (is_null s) && (not (is_true s) && (not (is_false s) && none_here (number s)))

-- ---- quoted scalars

-- \" \\ \/ \n \t \r \0
abbrev pub escape_code : ℕ → Option ℕ
escape_code c =
    if eqb c 34 then Some 34 else if eqb c 92 then Some 92 else if eqb c 47 then Some 47 else
    if eqb c 110 then Some 10 else if eqb c 116 then Some 9 else if eqb c 114 then Some 13 else if eqb c 48 then Some 0 else None

-- \xHH \uHHHH
abbrev pub escape_digits : ℕ → Option ℕ
escape_digits c = if eqb c 120 then Some 2 else if eqb c 117 then Some 4 else None

abbrev pub is_surrogate : ℕ → Bool
is_surrogate c = leb 55296 c && leb c 57343

-- what follows a backslash, and the character that it stands for
pub data Escape : List ℕ → ℕ → Type 0 where
  sign : {c x : ℕ} → escape_code c ≡ Some x → Escape (c ∷ []) x
  hex : {c n x : ℕ} {s : List ℕ} → escape_digits c ≡ Some n → length s ≡ n → digits hex_digit 16 0 s ≡ Some x → is_surrogate x ≡ false → Escape (c ∷ s) x

-- between double quotes
pub data InDouble : List ℕ → List ℕ → Type 0 where
  none : InDouble [] []
  escape : {e s x : List ℕ} {c : ℕ} → Escape e c → InDouble s x → InDouble (92 ∷ e ++ s) (encode_utf8 c ++ x)
  itself : {c : ℕ} {s x : List ℕ} → eqb c 34 ≡ false → eqb c 92 ≡ false → InDouble s x → InDouble (c ∷ s) (c ∷ x)

-- between single quotes
pub data InSingle : List ℕ → List ℕ → Type 0 where
  none : InSingle [] []
  quote : {s x : List ℕ} → InSingle s x → InSingle (39 ∷ 39 ∷ s) (39 ∷ x)
  itself : {c : ℕ} {s x : List ℕ} → eqb c 39 ≡ false → InSingle s x → InSingle (c ∷ s) (c ∷ x)

pub data Quoted : List ℕ → List ℕ → Type 0 where
  double : {s x : List ℕ} → InDouble s x → Quoted (34 ∷ s ++ 34 ∷ []) x
  single : {s x : List ℕ} → InSingle s x → Quoted (39 ∷ s ++ 39 ∷ []) x

-- ---- keys and items

abbrev pub has_key : List ℕ → List Pair → Bool
has_key k [] = false
has_key k (p ∷ ps) = bytes_eq p.key k || has_key k ps

-- the keys of a map are distinct
abbrev pub is_new : Group → List ℕ → List Pair → Bool
is_new Listed k ps = true
is_new Mapped k ps = not (has_key k ps)

abbrev pub pair : List ℕ → Tree → Pair
pair k x = record { key = k; value = x }

abbrev pub value_of : Pair → Tree
value_of p = p.value

-- the list or map of parts
abbrev pub whole : Group → List Pair → Tree
whole Listed ps = tree.List (map value_of ps)
whole Mapped ps = tree.Map ps

-- what stands before a part: `-`, or a key and its colon; a key is a plain scalar that stands for a text, or a quoted one
pub data Head : Group → List ℕ → List ℕ → Type 0 where
  dash : Head Listed (45 ∷ []) []
  plain : {s : List ℕ} → IsTrue (is_plain s (58 ∷ []) && means_text s) → Head Mapped (s ++ 58 ∷ []) s
  quoted : {s k : List ℕ} → Quoted s k → Head Mapped (s ++ 58 ∷ []) k

-- ---- flow collections, and values on one line

-- the signs that open and close a flow sequence or a flow mapping
abbrev pub opening : Group → ℕ
opening Listed = 91
opening Mapped = 123

abbrev pub closing : Group → ℕ
closing Listed = 93
closing Mapped = 125

-- what stands before a part of a flow collection: nothing, or a key, its colon and spaces
pub data FlowHead : Group → List ℕ → List ℕ → Type 0 where
  item : FlowHead Listed [] []
  plain : (i : ℕ) {s : List ℕ} → IsTrue (is_plain s (58 ∷ []) && (not (has_flow s) && means_text s)) → FlowHead Mapped (s ++ 58 ∷ spaces (suc i)) s
  quoted : (i : ℕ) {s k : List ℕ} → Quoted s k → FlowHead Mapped (s ++ 58 ∷ spaces (suc i)) k

-- A node in a flow collection, and what follows it; r lists and maps may still stand in one another.
mutual
  pub data Flow : ℕ → List ℕ → List ℕ → Tree → Type 0 where
    plain : {r : ℕ} {s after : List ℕ} → IsTrue (is_plain s after && not (has_flow s)) → Flow r s after (meaning s)
    quoted : {r : ℕ} {s after x : List ℕ} → Quoted s x → Flow r s after (tree.Text x)
    empty : {r : ℕ} (k : Group) (i : ℕ) {after : List ℕ} → Flow (suc r) (opening k ∷ spaces i ++ closing k ∷ []) after (whole k [])
    group : {r : ℕ} (k : Group) (i : ℕ) {s after : List ℕ} {ps : List Pair} → FlowParts r k [] s after ps → Flow (suc r) (opening k ∷ spaces i ++ s) after (whole k ps)

  -- the parts of a list or map up to its closing sign: those before, and all of them
  pub data FlowParts : ℕ → Group → List Pair → List ℕ → List ℕ → List Pair → Type 0 where
    last : {r : ℕ} {k : Group} (i : ℕ) {before : List Pair} {m key s after : List ℕ} {x : Tree} → FlowHead k m key → IsTrue (is_new k key before) → Flow r s (spaces i ++ closing k ∷ after) x
        → FlowParts r k before (m ++ (s ++ (spaces i ++ closing k ∷ []))) after (before ++ pair key x ∷ [])
    more : {r : ℕ} {k : Group} (i j : ℕ) {before ps : List Pair} {m key s t after : List ℕ} {x : Tree} → FlowHead k m key → IsTrue (is_new k key before) → Flow r s (spaces i ++ 44 ∷ (spaces j ++ (t ++ after))) x
        → FlowParts r k (before ++ pair key x ∷ []) t after ps → FlowParts r k before (m ++ (s ++ (spaces i ++ 44 ∷ (spaces j ++ t)))) after ps

-- a value that is whole on its line, and the line's tail
pub data Value : ℕ → List ℕ → List ℕ → Tree → Type 0 where
  plain : {r : ℕ} {s t : List ℕ} → IsTrue (is_plain s t) → Value r s t (meaning s)
  quoted : {r : ℕ} {s t x : List ℕ} → Quoted s x → Value r s t (tree.Text x)
  flow : {r : ℕ} {s t : List ℕ} {x : Tree} → IsTrue (begins 91 s || begins 123 s) → Flow r s t x → Value r s t x

-- the header of a block scalar: whether it folds, and whether it keeps its last line's end, which the chomping indicator `-` strips
pub data BlockHead : List ℕ → Bool → Bool → Type 0 where
  bar : BlockHead (124 ∷ []) false true
  bar_strips : BlockHead (124 ∷ 45 ∷ []) false false
  angle : BlockHead (62 ∷ []) true true
  angle_strips : BlockHead (62 ∷ 45 ∷ []) true false
