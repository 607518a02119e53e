-- Machinery, no part of what a text means: reading the mark of a line at fault.
use Rattle.std.specs.Prelude.{ℕ, Bool, true, false, ◌&&◌, ◌||◌, if◌then◌else◌, eqb, List, [], ◌∷◌, Option, Some, None}
use Rattle.yaml_spec.specs.declared.tree.Mark.{Mark}
use Rattle.yaml_spec.specs.declared.tree.Mark.TheVariants.{Anchor, Alias, Tag, Document, Directive}
use Rattle.yaml_spec.specs.Line.{begins}
use Rattle.yaml_spec.specs.Spells.{Line, at}
use Rattle.yaml_spec.specs.Reading.{Taken, past, key_of}
use Rattle.yaml_spec.specs.Machine.{is_document}

abbrev pub sign_mark : ℕ → Option Mark
sign_mark c = if eqb c 38 then Some Anchor else if eqb c 42 then Some Alias else if eqb c 33 then Some Tag else None

abbrev pub first_mark : List ℕ → Option Mark
first_mark [] = None
first_mark (c ∷ s) = sign_mark c

-- behind the `- ` marks; whether one stands before
abbrev pub undashed : Bool → List ℕ → List ℕ
undashed spaced [] = []
undashed spaced (c ∷ s) = if spaced && eqb c 32 then undashed true s else if eqb c 45 && begins 32 s then undashed true s else c ∷ s

-- behind a key
abbrev pub led_by : List ℕ → Taken → Option Mark
led_by s None = first_mark s
led_by s (Some p) = first_mark (past p.1)

unfoldable pub lead : List ℕ → Option Mark
lead s = led_by (undashed false s) (key_of (undashed false s))

abbrev pub own_mark : Line → Option Mark
own_mark (at c s) = if eqb c 0 && begins 37 s then Some Directive else if is_document 45 (at c s) || is_document 46 (at c s) then Some Document else None

abbrev pub mark_or : Option Mark → Option Mark → Option Mark
mark_or None o = o
mark_or (Some w) o = Some w

unfoldable pub line_mark : Line → Option Mark
line_mark (at c s) = mark_or (lead s) (own_mark (at c s))
