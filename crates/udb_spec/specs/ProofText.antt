-- The lines of proofs and of full configurations.
use Rattle.std.specs.Prelude.{◌≡◌, ◌≤◌, ◌<◌, ◌==◌, ◌&&◌, ◌||◌, ◌++◌, ◌+◌, ◌-◌, ◌/◌, ◌%◌, ◌^◌, Bool, true, false, ℕ, nat_lt, IsTrue, List, [], ◌∷◌, map, length, take, Option, None, Some, if◌then◌else◌, codes, slice_get}
use Rattle.std.specs.List.{flat_map, list_all}
use Rattle.std.specs.Option.{option_map_or, is_some}
use Rattle.std.specs.Fmt.{decimal}
use Rattle.udb_base.specs.declared.versions.Version.{Version}
use Rattle.udb_base.specs.declared.conditions.Value.{Value}
use Rattle.udb_base.specs.declared.conditions.Value.TheVariants.{Flag, Number, Word}
use Rattle.udb_base.specs.declared.refutations.Proof.{Proof}
use Rattle.udb_base.specs.declared.refutations.Proof.TheOpen.{Proof-F}
use Rattle.udb_base.specs.declared.refutations.Proof.TheFolds.{fold-Proof}
use Rattle.udb_base.specs.declared.spaces.ExtSpace.{ExtSpace}
use Rattle.udb_base.specs.declared.spaces.ParamSpace.{ParamSpace}
use Rattle.udb_base.specs.declared.spaces.Space.{Space}
use Rattle.udb_base.specs.declared.spaces.Full.{Full}
use Rattle.udb_spec.specs.Constraints.{IsInDomains}

-- the letter after a backslash, for the characters that have one (RFC 8259, section 7)
abbrev pub short_escape : ℕ → Option ℕ
short_escape b =
    if (b == 34) || (b == 92) then Some b else
    (if b == 8 then Some 98 else
    (if b == 12 then Some 102 else
    (if b == 10 then Some 110 else
    (if b == 13 then Some 114 else
    (if b == 9 then Some 116 else None)))))

abbrev pub hex_digit : ℕ → ℕ
hex_digit n = if nat_lt n 10 then 48 + n else 87 + n

-- other control characters have two lower-case hexadecimal digits, and all else stands as it is
abbrev pub plain_or_hex : ℕ → List ℕ
plain_or_hex b = if nat_lt b 32 then (92 ∷ codes "u00") ++ hex_digit (b / 16) ∷ hex_digit (b % 16) ∷ [] else b ∷ []

abbrev pub escaped : Option ℕ → ℕ → List ℕ
escaped (Some letter) b = 92 ∷ letter ∷ []
escaped None b = plain_or_hex b

abbrev pub json_byte : ℕ → List ℕ
json_byte b = escaped (short_escape b) b

-- a JSON text
abbrev pub json_text : List ℕ → List ℕ
json_text word = 34 ∷ flat_map json_byte word ++ 34 ∷ []

abbrev pub version_text : Version → List ℕ
version_text v = decimal v.major ++ (46 ∷ decimal v.minor ++ (46 ∷ decimal v.patch))

abbrev pub choice_text : Option Version → List ℕ
choice_text None = codes "absent"
choice_text (Some v) = version_text v

-- a truth value, a decimal number or a JSON text
abbrev pub value_text : Value → List ℕ
value_text (Flag true) = codes "true"
value_text (Flag false) = codes "false"
value_text (Number n) = decimal n
value_text (Word w) = json_text w

abbrev pub choice_lines : List ExtSpace → List (Option Version) → List (List ℕ)
choice_lines [] choices = []
choice_lines (e ∷ es) [] = []
choice_lines (e ∷ es) (c ∷ cs) = (e.name ++ (32 ∷ choice_text c)) ∷ choice_lines es cs

abbrev pub value_lines : List ParamSpace → List Value → List (List ℕ)
value_lines [] values = []
value_lines (p ∷ ps) [] = []
value_lines (p ∷ ps) (v ∷ vs) = (p.name ++ (32 ∷ value_text v)) ∷ value_lines ps vs

-- a line for each extension, then for each parameter
abbrev pub full_lines : Space → Full → List (List ℕ)
full_lines space full = choice_lines space.extensions full.extensions ++ value_lines space.params full.params

-- the lines spell a full configuration with listed versions and values of the domains
pub record SpellsFull (space : Space) (lines : List (List ℕ)) (full : Full) : Type 0 where
  pub within : IsInDomains space full
  pub text : full_lines space full ≡ lines

-- the name of the parameter, or else the extension, at a place
abbrev pub name_at : Space → Bool → ℕ → List ℕ
name_at space true place = option_map_or (λ p. p.name) (slice_get space.params place) []
name_at space false place = option_map_or (λ e. e.name) (slice_get space.extensions place) []

abbrev pub kind_text : Bool → List ℕ
kind_text true = codes "parameter "
kind_text false = codes "extension "

abbrev pub leaf_text : ℕ → List ℕ
leaf_text number = codes "leaf " ++ decimal number

-- a kind, a name and a number after a word
abbrev pub split_text : Space → Bool → ℕ → ℕ → List ℕ
split_text space param place cells = codes "split " ++ (kind_text param ++ (name_at space param place ++ (32 ∷ decimal cells)))

abbrev pub cut_text : Space → ℕ → ℕ → List ℕ
cut_text space place at = codes "cut " ++ (kind_text true ++ (name_at space true place ++ (32 ∷ decimal at)))

abbrev pub proof_lines_step : Space → Proof-F (List (List ℕ)) → List (List ℕ)
proof_lines_step space (Proof-F.Leaf number) = leaf_text number ∷ []
proof_lines_step space (Proof-F.Split param place parts) = split_text space param place (length parts) ∷ flat_map (λ lines. lines) parts
proof_lines_step space (Proof-F.Cut place at below from) = cut_text space place at ∷ below ++ from

-- a line for each node, a node before its children
unfoldable pub proof_lines : Space → Proof → List (List ℕ)
proof_lines space = fold-Proof (List (List ℕ)) (proof_lines_step space)

-- a place of an extension or a parameter is below 2^32
pub record HasShortPlaces (space : Space) : Type 0 where
  pub extensions : length space.extensions < 2 ^ 32
  pub params : length space.params < 2 ^ 32

abbrev pub has_place : Space → Bool → ℕ → Bool
has_place space true place = is_some (slice_get space.params place)
has_place space false place = is_some (slice_get space.extensions place)

abbrev pub is_named_step : Space → Proof-F Bool → Bool
is_named_step space (Proof-F.Leaf number) = true
is_named_step space (Proof-F.Split param place parts) = has_place space param place && (nat_lt (length parts) (2 ^ 32) && list_all (λ b. b) parts)
is_named_step space (Proof-F.Cut place at below from) = has_place space true place && (below && from)

-- each place is one of the space, and each split has fewer than 2^32 parts
unfoldable pub is_named : Space → Proof → Bool
is_named space = fold-Proof Bool (is_named_step space)

abbrev pub is_sized_step : Proof-F Bool → Bool
is_sized_step (Proof-F.Leaf number) = nat_lt number (2 ^ 32)
is_sized_step (Proof-F.Split param place parts) = list_all (λ b. b) parts
is_sized_step (Proof-F.Cut place at below from) = nat_lt at (2 ^ 64) && (below && from)

-- the numbers of leaves are below 2^32, those of cuts below 2^64
unfoldable pub is_sized : Proof → Bool
is_sized = fold-Proof Bool is_sized_step

-- the lines spell a proof over the space, right or wrong
pub record SpellsProof (space : Space) (lines : List (List ℕ)) (proof : Proof) : Type 0 where
  pub named : IsTrue (is_named space proof)
  pub sized : IsTrue (is_sized proof)
  pub text : proof_lines space proof ≡ lines

abbrev pub SpellProof : Space → List (List ℕ) → Type 0
SpellProof space lines = (proof : Proof) × SpellsProof space lines proof

abbrev pub SpellFull : Space → List (List ℕ) → Type 0
SpellFull space lines = (full : Full) × SpellsFull space lines full

-- some lines after these make them a text of the kind
abbrev pub GoesOn : (List (List ℕ) → Type 0) → List (List ℕ) → Type 0
GoesOn Spells lines = (more : List (List ℕ)) × Spells (lines ++ more)

-- the number, from 1, of the first line with which none goes on, or of the one past the last
pub record IsFirstBadLine (Spells : List (List ℕ) → Type 0) (lines : List (List ℕ)) (number : ℕ) : Type 0 where
  pub first : 1 ≤ number
  pub last : number ≤ length lines + 1
  pub before : GoesOn Spells (take (number - 1) lines)
  pub at : number ≤ length lines → GoesOn Spells (take number lines) → ⊥
  pub past : number ≡ length lines + 1 → Spells lines → ⊥
