-- What a condition says of a full configuration.
use Rattle.std.specs.Prelude.{◌==◌, Bool, true, false, not, ℕ, nat_lt, nat_le, nat_eq, List, [], ◌∷◌, Option, None, Some, if◌then◌else◌, count_by}
use Rattle.std.specs.List.{list_all, list_any}
use Rattle.std.specs.Cmp.Lexicographic.{pointwise}
use Rattle.udb_base.specs.declared.versions.Version.{Version}
use Rattle.udb_base.specs.declared.versions.Requirement.{Requirement}
use Rattle.udb_base.specs.declared.versions.Listed.{Listed}
use Rattle.udb_base.specs.declared.conditions.Value.{Value}
use Rattle.udb_base.specs.declared.conditions.Value.TheVariants as v
use Rattle.udb_base.specs.declared.conditions.Test.{Test}
use Rattle.udb_base.specs.declared.conditions.Test.TheVariants as t
use Rattle.udb_base.specs.declared.conditions.Cond.{Cond}
use Rattle.udb_base.specs.declared.conditions.Cond.TheOpen.{Cond-F}
use Rattle.udb_base.specs.declared.conditions.Cond.TheFolds.{fold-Cond}
use Rattle.udb_base.specs.declared.spaces.ExtSpace.{ExtSpace}
use Rattle.udb_base.specs.declared.spaces.ParamSpace.{ParamSpace}
use Rattle.udb_base.specs.declared.spaces.Space.{Space}
use Rattle.udb_base.specs.declared.spaces.Full.{Full}
use Rattle.udb_spec.specs.Versions.{meets}

-- names and texts are lists of bytes
abbrev pub same_bytes : List ℕ → List ℕ → Bool
same_bytes = pointwise nat_eq

-- the parameter's value in a full configuration
abbrev pub value_among : List ParamSpace → List Value → List ℕ → Option Value
value_among [] values name = None
value_among (p ∷ ps) [] name = None
value_among (p ∷ ps) (x ∷ xs) name = if same_bytes p.name name then Some x else value_among ps xs name

abbrev pub value_of : Space → Full → List ℕ → Option Value
value_of space full name = value_among space.params full.params name

abbrev pub same_value : Value → Value → Bool
same_value (v.Flag a) (v.Flag b) = if a then b else not b
same_value (v.Number a) (v.Number b) = a == b
same_value (v.Word a) (v.Word b) = same_bytes a b
same_value _ _ = false

-- the order of two values, which numbers alone have
abbrev pub less_value : Value → Value → Bool
less_value (v.Number a) (v.Number b) = nat_lt a b
less_value _ _ = false

abbrev pub at_most_value : Value → Value → Bool
at_most_value (v.Number a) (v.Number b) = nat_le a b
at_most_value _ _ = false

-- a value compared with the one of an atom
abbrev pub passes : Test → Value → Value → Bool
passes t.Equal x given = same_value x given
passes t.NotEqual x given = not (same_value x given)
passes t.Above x given = less_value given x
passes t.AtLeast x given = at_most_value given x
passes t.Below x given = less_value x given
passes t.AtMost x given = at_most_value x given

abbrev pub option_passes : Test → Option Value → Value → Bool
option_passes test None given = false
option_passes test (Some x) given = passes test x given

-- an extension's choice meets each requirement
abbrev pub choice_meets : List Listed → List Requirement → Option Version → Bool
choice_meets list needs None = false
choice_meets list needs (Some x) = list_all (λ need. meets list need x) needs

-- the named extension is present, and its version meets each requirement
abbrev pub present_among : List ExtSpace → List (Option Version) → List ℕ → List Requirement → Bool
present_among [] choices name needs = false
present_among (e ∷ es) [] name needs = false
present_among (e ∷ es) (c ∷ cs) name needs = if same_bytes e.name name then choice_meets e.versions needs c else present_among es cs name needs

-- exactly one of the answers is true
abbrev pub exactly_one : List Bool → Bool
exactly_one answers = count_by (λ b. b) answers == 1

abbrev pub holds_step : Space → Full → Cond-F Bool → Bool
holds_step space full Cond-F.Always = true
holds_step space full Cond-F.Never = false
holds_step space full (Cond-F.Ext name needs) = present_among space.extensions full.extensions name needs
holds_step space full (Cond-F.Param name test given) = option_passes test (value_of space full name) given
holds_step space full (Cond-F.All parts) = list_all (λ b. b) parts
holds_step space full (Cond-F.Any parts) = list_any (λ b. b) parts
holds_step space full (Cond-F.One parts) = exactly_one parts
holds_step space full (Cond-F.Not part) = not part

-- the condition holds in the full configuration
unfoldable pub holds : Space → Full → Cond → Bool
holds space full = fold-Cond Bool (holds_step space full)
