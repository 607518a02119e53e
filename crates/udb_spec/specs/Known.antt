-- What is known of a condition where a path leaves some choices open.
use Rattle.std.specs.Prelude.{◌==◌, ◌&&◌, ◌+◌, Bool, true, false, ℕ, nat_le, List, [], ◌∷◌, map, length, if◌then◌else◌, count_by}
use Rattle.std.specs.List.{list_all, list_any}
use Rattle.udb_base.specs.declared.versions.Requirement.{Requirement}
use Rattle.udb_base.specs.declared.conditions.Value.{Value}
use Rattle.udb_base.specs.declared.conditions.Test.{Test}
use Rattle.udb_base.specs.declared.conditions.Cond.{Cond}
use Rattle.udb_base.specs.declared.conditions.Cond.TheOpen.{Cond-F}
use Rattle.udb_base.specs.declared.conditions.Cond.TheFolds.{fold-Cond}
use Rattle.udb_base.specs.declared.refutations.Known.{Known}
use Rattle.udb_base.specs.declared.refutations.Known.TheVariants.{Yes, No, Unknown}
use Rattle.udb_base.specs.declared.spaces.ExtSpace.{ExtSpace}
use Rattle.udb_base.specs.declared.spaces.ParamSpace.{ParamSpace}
use Rattle.udb_base.specs.declared.spaces.Space.{Space}
use Rattle.udb_spec.specs.Conditions.{same_bytes, choice_meets, passes}
use Rattle.udb_spec.specs.Cells.{Step, ext_cells, param_cells}

abbrev pub is_yes : Known → Bool
is_yes Yes = true
is_yes _ = false

abbrev pub is_no : Known → Bool
is_no No = true
is_no _ = false

-- whether an atom holds for all, for none or for some of its cells
abbrev pub known_over : List Bool → Known
known_over answers = if list_all (λ b. b) answers then Yes else (if list_any (λ b. b) answers then Unknown else No)

-- the atom of an extension, by the choices left of it
abbrev pub ext_known : List Step → ℕ → List ExtSpace → List ℕ → List Requirement → Known
ext_known path place [] name needs = No
ext_known path place (e ∷ es) name needs = if same_bytes e.name name then known_over (map (choice_meets e.versions needs) (ext_cells path place e)) else ext_known path (place + 1) es name needs

-- the atom of a parameter, by the values left of it
abbrev pub param_known : List Step → ℕ → List ParamSpace → List ℕ → Test → Value → Known
param_known path place [] name test given = No
param_known path place (p ∷ ps) name test given = if same_bytes p.name name then known_over (map (λ x. passes test x given) (param_cells path place p.domain)) else param_known path (place + 1) ps name test given

-- No where one part is, Yes where all are
abbrev pub all_known : List Known → Known
all_known parts = if list_any is_no parts then No else (if list_all is_yes parts then Yes else Unknown)

-- Yes where one part is, No where all are
abbrev pub any_known : List Known → Known
any_known parts = if list_any is_yes parts then Yes else (if list_all is_no parts then No else Unknown)

-- No where two parts are Yes or all are No, Yes where exactly one is Yes and all others are No
abbrev pub one_known : List Known → Known
one_known parts =
    if nat_le 2 (count_by is_yes parts) then No else
    (if list_all is_no parts then No else
    (if (count_by is_yes parts == 1) && (count_by is_no parts + 1 == length parts) then Yes else Unknown))

abbrev pub not_known : Known → Known
not_known Yes = No
not_known No = Yes
not_known Unknown = Unknown

abbrev pub known_step : Space → List Step → Cond-F Known → Known
known_step space path Cond-F.Always = Yes
known_step space path Cond-F.Never = No
known_step space path (Cond-F.Ext name needs) = ext_known path 0 space.extensions name needs
known_step space path (Cond-F.Param name test given) = param_known path 0 space.params name test given
known_step space path (Cond-F.All parts) = all_known parts
known_step space path (Cond-F.Any parts) = any_known parts
known_step space path (Cond-F.One parts) = one_known parts
known_step space path (Cond-F.Not part) = not_known part

-- what the path tells of the condition
unfoldable pub known : Space → List Step → Cond → Known
known space path = fold-Cond Known (known_step space path)
