-- Machinery, no part of what a text means: reading one line from its front.
use Rattle.std.specs.Prelude.{ℕ, zero, suc, ◌+◌, ◌-◌, ◌*◌, Bool, true, false, not, ◌&&◌, ◌||◌, if◌then◌else◌, eqb, leb, ltb, List, [], ◌∷◌, ◌++◌, length, drop, Option, Some, None, encode_utf8}
use Rattle.yaml_spec.specs.declared.state.Group.{Group}
use Rattle.yaml_spec.specs.declared.state.Group.TheVariants.{Listed, Mapped}
use Rattle.yaml_spec.specs.declared.sights.Sight.{Sight}
use Rattle.yaml_spec.specs.declared.sights.Sight.TheVariants as sight
use Rattle.yaml_spec.specs.declared.sights.Got.{Got}
use Rattle.yaml_spec.specs.declared.sights.Got.TheVariants as got
use Rattle.yaml_spec.specs.declared.sights.Inner.{Inner}
use Rattle.yaml_spec.specs.declared.sights.Inner.TheVariants as inner
use Rattle.yaml_spec.specs.declared.sights.Turn.{Turn}
use Rattle.yaml_spec.specs.declared.sights.Turn.TheVariants as turn
use Rattle.yaml_spec.specs.declared.tree.Tree.{Tree}
use Rattle.yaml_spec.specs.declared.tree.Pair.{Pair}
use Rattle.yaml_spec.specs.declared.tree.Tree.TheVariants as tree
use Rattle.yaml_spec.specs.Line.{begins, parts_here, is_plain, is_flow, has_flow, meaning, means_text, hex_digit, escape_code, escape_digits, is_surrogate, is_new, pair, whole, closing}

-- a text, or nothing else, and what is left behind it
abbrev pub Taken : Type 0
Taken = Option (List ℕ × List ℕ)

abbrev pub Read : Type 0
Read = Option (Tree × List ℕ)

-- ---- a line's tail

abbrev pub is_tail : List ℕ → Bool
is_tail [] = true
is_tail (c ∷ s) = eqb c 32 && (is_tail s || begins 35 s)

-- what stands before the tail
abbrev pub lean : List ℕ → List ℕ
lean [] = []
lean (c ∷ s) = if is_tail (c ∷ s) then [] else c ∷ lean s

abbrev pub tail : List ℕ → List ℕ
tail [] = []
tail (c ∷ s) = if is_tail (c ∷ s) then c ∷ s else tail s

-- spaces in front
abbrev pub front : List ℕ → ℕ
front [] = 0
front (c ∷ s) = if eqb c 32 then suc (front s) else 0

abbrev pub past : List ℕ → List ℕ
past [] = []
past (c ∷ s) = if eqb c 32 then past s else c ∷ s

-- ---- quotes

abbrev pub escaped : ℕ → Option ℕ → Option ℕ → Turn
escaped c (Some x) n = turn.Gives x
escaped c None (Some n) = turn.Goes (inner.Digits n 0)
escaped c None None = turn.Fault

-- the last digit of an escape
abbrev pub last_digit : ℕ → Turn
last_digit x = if is_surrogate x then turn.Fault else turn.Gives x

abbrev pub digit_turn : ℕ → ℕ → Option ℕ → Turn
digit_turn left n None = turn.Fault
digit_turn left n (Some d) = if ltb n 4096 then (if leb left 1 then last_digit (n * 16 + d) else turn.Goes (inner.Digits (left - 1) (n * 16 + d))) else turn.Fault

abbrev pub turn_at : Inner → ℕ → Turn
turn_at inner.Double c = if eqb c 34 then turn.Last else if eqb c 92 then turn.Goes inner.Escaped else turn.Byte inner.Double
turn_at inner.Escaped c = escaped c (escape_code c) (escape_digits c)
turn_at (inner.Digits left n) c = digit_turn left n (hex_digit c)
turn_at inner.Single c = if eqb c 39 then turn.Goes inner.Quote else turn.Byte inner.Single
turn_at inner.Quote c = if eqb c 39 then turn.Byte inner.Single else turn.Past

abbrev pub prefixed : List ℕ → Taken → Taken
prefixed x None = None
prefixed x (Some p) = Some (x ++ p.0, p.1)

abbrev pub turned : Turn → ℕ → List ℕ → (Inner → Taken) → Taken
turned turn.Fault c s again = None
turned turn.Last c s again = Some ([], s)
turned turn.Past c s again = Some ([], c ∷ s)
turned (turn.Goes next) c s again = again next
turned (turn.Byte next) c s again = prefixed (c ∷ []) (again next)
turned (turn.Gives x) c s again = prefixed (encode_utf8 x) (again inner.Double)

-- the end of the line
abbrev pub stops : Inner → Taken
stops inner.Quote = Some ([], [])
stops inner.Double = None
stops inner.Escaped = None
stops (inner.Digits left n) = None
stops inner.Single = None

-- from a place between quotes on: the text, and what follows the closing quote
abbrev pub quoted : Inner → List ℕ → Taken
quoted at [] = stops at
quoted at (c ∷ s) = turned (turn_at at c) c s (λ next. quoted next s)

-- ---- keys

-- to the first colon before a space or the end
abbrev pub with_byte : ℕ → Taken → Taken
with_byte c None = None
with_byte c (Some p) = Some (c ∷ p.0, p.1)

abbrev pub to_colon : List ℕ → Taken
to_colon [] = None
to_colon (c ∷ s) = if eqb c 58 && parts_here s then Some ([], s) else with_byte c (to_colon s)

abbrev pub past_colon : Taken → Taken
past_colon None = None
past_colon (Some (k, [])) = None
past_colon (Some (k, c ∷ s)) = if eqb c 58 && parts_here s then Some (k, s) else None

abbrev pub plain_key : Taken → Taken
plain_key None = None
plain_key (Some (k, s)) = if is_plain k (58 ∷ []) && means_text k then Some (k, s) else None

-- the place behind a first quote
abbrev pub quote_of : List ℕ → Option Inner
quote_of [] = None
quote_of (c ∷ s) = if eqb c 34 then Some inner.Double else if eqb c 39 then Some inner.Single else None

abbrev pub quoted_by : {A : Type 0} → Option Inner → (Taken → A) → (List ℕ → A) → List ℕ → A
quoted_by None text other s = other s
quoted_by (Some place) text other s = text (quoted place (drop 1 s))

-- a quoted text, or anything else
abbrev pub quoted_or : {A : Type 0} → (Taken → A) → (List ℕ → A) → List ℕ → A
quoted_or text other s = quoted_by (quote_of s) text other s

abbrev pub colon_key : List ℕ → Taken
colon_key s = plain_key (to_colon s)

-- a key, and what follows its colon: nothing or a space
unfoldable pub key_of : List ℕ → Taken
key_of s = quoted_or past_colon colon_key s

-- a mark, and how long it is with the spaces behind it
abbrev pub behind : Group → List ℕ → ℕ → List ℕ → Sight
behind k key n s = if is_tail s then sight.Bare k key else sight.Before k key (n + front s)

abbrev pub sees_key : ℕ → Taken → Sight
sees_key n None = sight.Other
sees_key n (Some p) = behind Mapped p.0 (n - length p.1) p.1

unfoldable pub sees : List ℕ → Sight
sees [] = sight.Other
sees (c ∷ s) = if eqb c 45 && parts_here s then behind Listed [] 1 s else sees_key (length (c ∷ s)) (key_of (c ∷ s))

-- ---- values in flow

-- up to the first of , [ ] { }
abbrev pub signless : List ℕ → List ℕ
signless [] = []
signless (c ∷ s) = if is_flow c then [] else c ∷ signless s

abbrev pub all_spaces : List ℕ → Bool
all_spaces [] = true
all_spaces (c ∷ s) = eqb c 32 && all_spaces s

-- without the spaces at the end
abbrev pub trim : List ℕ → List ℕ
trim [] = []
trim (c ∷ s) = if all_spaces (c ∷ s) then [] else c ∷ trim s

abbrev pub plain_flow : List ℕ → List ℕ → Read
plain_flow p u = if is_plain p u && not (has_flow p) then Some (meaning p, u) else None

abbrev pub plain_in_flow : List ℕ → Read
plain_in_flow s = plain_flow (trim (signless s)) (drop (length (trim (signless s))) s)

abbrev pub as_text : Taken → Read
as_text None = None
as_text (Some p) = Some (tree.Text p.0, p.1)

abbrev pub flow_colon : Taken → Taken
flow_colon None = None
flow_colon (Some p) = if begins 32 p.1 then Some (p.0, past p.1) else None

abbrev pub plain_flow_key : Taken → Taken
plain_flow_key None = None
plain_flow_key (Some (k, s)) = if is_plain k (58 ∷ []) && (not (has_flow k) && means_text k) then Some (k, s) else None

abbrev pub colon_flow_key : List ℕ → Taken
colon_flow_key s = plain_flow_key (to_colon s)

-- what stands before a part in flow
abbrev pub flow_head : Group → List ℕ → Taken
flow_head Listed s = Some ([], s)
flow_head Mapped s = flow_colon (quoted_or past_colon colon_flow_key s)

abbrev pub FlowReader : Type 0
FlowReader = List ℕ → Read

abbrev pub PartsReader : Type 0
PartsReader = List Pair → List ℕ → Option (List Pair × List ℕ)

-- behind a part and spaces
abbrev pub part_end : Group → PartsReader → List Pair → List ℕ → Option (List Pair × List ℕ)
part_end k again ps [] = None
part_end k again ps (c ∷ u) = if eqb c (closing k) then Some (ps, u) else if eqb c 44 then again ps (past u) else None

abbrev pub part_value : Group → PartsReader → List Pair → List ℕ → Read → Option (List Pair × List ℕ)
part_value k again before key None = None
part_value k again before key (Some p) = part_end k again (before ++ pair key p.0 ∷ []) (past p.1)

abbrev pub part_head : Group → FlowReader → PartsReader → List Pair → Taken → Option (List Pair × List ℕ)
part_head k one again before None = None
part_head k one again before (Some p) = if is_new k p.0 before then part_value k again before p.0 (one p.1) else None

-- up to the closing sign; the number is at least how many bytes are left
abbrev pub flow_parts : Group → FlowReader → ℕ → PartsReader
flow_parts k one zero before s = None
flow_parts k one (suc n) before s = part_head k one (flow_parts k one n) before (flow_head k s)

abbrev pub as_whole : Group → Option (List Pair × List ℕ) → Read
as_whole k None = None
as_whole k (Some p) = Some (whole k p.0, p.1)

-- behind the opening sign and spaces
abbrev pub flow_rest : FlowReader → Group → List ℕ → Read
flow_rest one k [] = None
flow_rest one k (c ∷ s) = if eqb c (closing k) then Some (whole k [], s) else as_whole k (flow_parts k one (suc (length (c ∷ s))) [] (c ∷ s))

abbrev pub unquoted : (Group → FlowReader) → FlowReader
unquoted group [] = None
unquoted group (c ∷ s) = if eqb c 91 then group Listed (past s) else if eqb c 123 then group Mapped (past s) else plain_in_flow (c ∷ s)

abbrev pub flow_by : (Group → FlowReader) → FlowReader
flow_by group s = quoted_or as_text (unquoted group) s

-- a value in flow, and what follows it; so many lists and maps may still stand in one another
unfoldable pub flow : ℕ → FlowReader
flow zero = flow_by (λ k s. None)
flow (suc n) = flow_by (flow_rest (flow n))

-- ---- inline values

-- a value whose line ends behind it
abbrev pub ends_line : Read → Option Got
ends_line None = None
ends_line (Some p) = if is_tail p.1 then Some (got.Value p.0) else None

abbrev pub plain_value : List ℕ → List ℕ → Option Got
plain_value s t = if is_plain s t then Some (got.Value (meaning s)) else None

-- behind `|` or `>`
abbrev pub head_value : Bool → List ℕ → Option Got
head_value folds [] = Some (got.Head folds true)
head_value folds (c ∷ s) = if is_tail (c ∷ s) then Some (got.Head folds true) else if eqb c 45 && is_tail s then Some (got.Head folds false) else None

abbrev pub quoted_value : Taken → Option Got
quoted_value o = ends_line (as_text o)

abbrev pub other_value : ℕ → List ℕ → Option Got
other_value n [] = None
other_value n (c ∷ s) =
    if eqb c 124 then head_value false s else
    if eqb c 62 then head_value true s else
    if eqb c 91 || eqb c 123 then ends_line (flow n (c ∷ s)) else plain_value (lean (c ∷ s)) (tail (c ∷ s))

-- a value, or the head of a block scalar
unfoldable pub inline : ℕ → List ℕ → Option Got
inline n s = quoted_or quoted_value (other_value n) s
