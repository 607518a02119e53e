-- The parameters that a width's number depends on, and full configurations that give them numbers
-- which count alike there.
use Rattle.std.specs.Prelude.{◌≡◌, ◌||◌, Bool, true, false, ℕ, List, [], ◌∷◌, map, codes, pos, ◌&&◌, int_le, int_lt}
use Rattle.udb_base.specs.declared.conditions.Value.TheVariants.{Number}
use Rattle.udb_base.specs.declared.spaces.ParamSpace.{ParamSpace}
use Rattle.udb_base.specs.declared.spaces.Space.{Space}
use Rattle.udb_base.specs.declared.spaces.Full.{Full}
use Rattle.udb_spec.specs.Conditions.{same_bytes}
use Rattle.idl_tree.specs.declared.widths.Width.{Width}
use Rattle.idl_tree.specs.declared.widths.Width.TheOpen.{Width-F}
use Rattle.idl_tree.specs.declared.widths.Width.TheFolds.{fold-Width}
use Rattle.idl_width.specs.declared.scopes.BitsOf.{BitsOf}
use Rattle.idl_width.specs.Numbers.{clip, parameter_number, width_number}
use Rattle.idl_spec.specs.Demands.{Demand, in_range, in_slice, defined, present}

-- `$bits` depends on MXLEN
abbrev pub reads_step : List ℕ → Width-F Bool → Bool
reads_step name (Width-F.Number n) = false
reads_step name (Width-F.Word word) = same_bytes word name
reads_step name (Width-F.Plus a z) = a || z
reads_step name (Width-F.Minus a z) = a || z
reads_step name (Width-F.Times a z) = a || z
reads_step name (Width-F.Max a z) = a || z
reads_step name (Width-F.Bits csr word) = same_bytes (codes "MXLEN") name

-- whether a width's number depends on the parameter of a name
unfoldable pub reads : List ℕ → Width → Bool
reads name = fold-Width Bool (reads_step name)

-- whether one of the widths that a demand compares does
abbrev pub demand_reads : Demand → List ℕ → Bool
demand_reads (in_range low high width) name = reads name width
demand_reads (in_slice high low of) name = reads name high || (reads name low || reads name of)
demand_reads (defined x) name = false
demand_reads (present csr field) name = false

-- a demand on widths is met; the others ask nothing of widths
abbrev pub widths_meet : Space → List BitsOf → Demand → Full → Bool
widths_meet space scope (in_range low high width) full =
    int_le low (width_number space full scope width) && int_le (width_number space full scope width) high
widths_meet space scope (in_slice high low of) full =
    int_le (pos 0) (width_number space full scope low)
    && (int_le (width_number space full scope low) (width_number space full scope high)
    && int_lt (width_number space full scope high) (width_number space full scope of))
widths_meet space scope (defined x) full = true
widths_meet space scope (present csr field) full = true

-- two numbers of a parameter that widths count alike
abbrev pub Alike : ℕ → ℕ → Type 0
Alike n m = clip (pos n) ≡ clip (pos m)

-- numbers of parameters, of which those that a demand depends on count as in a full configuration
abbrev pub Agrees : (List ℕ → Bool) → Space → Full → List ParamSpace → List ℕ → Type 0
Agrees read space full [] ns = Unit {0}
Agrees read space full (p ∷ ps) [] = ⊥
Agrees read space full (p ∷ ps) (n ∷ ns) =
    (read p.name ≡ true → Alike n (parameter_number space full p.name)) × Agrees read space full ps ns

-- the full configuration in which the parameters have these numbers; its extensions don't matter
abbrev pub full_with : List ℕ → Full
full_with ns = record { extensions = []; params = map Number ns }
