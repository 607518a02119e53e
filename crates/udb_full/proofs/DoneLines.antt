-- The loops over the lines of a full configuration end where either list ends.
use Rattle.std.proofs.Common.{◌≡◌, ℕ, zero, suc, ◌≤◌, List, [], ◌∷◌, length, drop, min, refl, arith}
use Rattle.udb_base.specs.declared.versions.Version.{Version}
use Rattle.std.specs.Prelude.{Option}
use Rattle.udb_base.specs.declared.conditions.Value.{Value}
use Rattle.udb_base.specs.declared.spaces.ExtSpace.{ExtSpace}
use Rattle.udb_base.specs.declared.spaces.ParamSpace.{ParamSpace}
use Rattle.udb_spec.specs.ProofText.{choice_lines, value_lines}

pub choices_done : (at : ℕ) (exts : List ExtSpace) (choices : List (Option Version)) → min (length exts) (length choices) ≤ at → choice_lines (drop at exts) (drop at choices) ≡ []
choices_done zero [] choices h = refl
choices_done zero (e ∷ es) [] h = refl
choices_done zero (e ∷ es) (c ∷ cs) h = absurd (omega arith)
choices_done (suc at) [] choices h = refl
choices_done (suc at) (e ∷ es) [] h = refl_at (drop at es)
  where
    refl_at : (es : List ExtSpace) → choice_lines es [] ≡ []
    refl_at [] = refl
    refl_at (e ∷ es) = refl
choices_done (suc at) (e ∷ es) (c ∷ cs) h = choices_done at es cs (omega arith)

pub values_done : (at : ℕ) (params : List ParamSpace) (values : List Value) → min (length params) (length values) ≤ at → value_lines (drop at params) (drop at values) ≡ []
values_done zero [] values h = refl
values_done zero (p ∷ ps) [] h = refl
values_done zero (p ∷ ps) (v ∷ vs) h = absurd (omega arith)
values_done (suc at) [] values h = refl
values_done (suc at) (p ∷ ps) [] h = refl_at (drop at ps)
  where
    refl_at : (ps : List ParamSpace) → value_lines ps [] ≡ []
    refl_at [] = refl
    refl_at (p ∷ ps) = refl
values_done (suc at) (p ∷ ps) (v ∷ vs) h = values_done at ps vs (omega arith)
