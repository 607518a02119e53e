-- One turn of the loop over parameters.
use Rattle.std.proofs.Common.{◌≡◌, ℕ, suc, true, false, List, [], ◌∷◌, ◌++◌, cond, ap}
use Rattle.entry_tree.specs.declared.ParamEntry.{ParamEntry}
use Rattle.first_bundle.specs.Reading.{params_onto, param_of, after_param, is_param_part}

param_taken : (k : ℕ) (params : List ParamEntry) (lines : List (List ℕ)) → is_param_part lines ≡ true → params_onto (suc k) params lines ≡ params_onto k (params ++ param_of lines ∷ []) (after_param lines)
param_taken k params lines e = ap (λ t. cond t (params_onto k (params ++ param_of lines ∷ []) (after_param lines)) (params, lines)) e

param_left : (k : ℕ) (params : List ParamEntry) (lines : List (List ℕ)) → is_param_part lines ≡ false → params_onto (suc k) params lines ≡ (params, lines)
param_left k params lines e = ap (λ t. cond t (params_onto k (params ++ param_of lines ∷ []) (after_param lines)) (params, lines)) e

-- where a parameter begins it is taken
pub params_taken : (n k : ℕ) (params : List ParamEntry) (lines : List (List ℕ)) → n ≡ suc k → is_param_part lines ≡ true → params_onto n params lines ≡ params_onto k (params ++ param_of lines ∷ []) (after_param lines)
params_taken n k params lines e h = rw e (param_taken k params lines h)

-- where none begins the loop is done
pub params_left : (n k : ℕ) (params : List ParamEntry) (lines : List (List ℕ)) → n ≡ suc k → is_param_part lines ≡ false → params_onto n params lines ≡ (params, lines)
params_left n k params lines e h = rw e (param_left k params lines h)
