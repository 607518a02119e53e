-- A map of the variables by their names, filled from the last to the first.
use Rattle.std.proofs.Common.{◌≡◌, ℕ, zero, suc, ◌+◌, ◌-◌, ◌<◌, ◌≤◌, List, [], ◌∷◌, ◌++◌, drop, take, length, get_or, Option, Some, Result, Ok, Err, slice_get, refl, sym, ap, ◌∙◌, cond, arith}
use Rattle.std.proofs.lemmas.List.{drop_more}
use Rattle.udb_base.specs.declared.conditions.Cond.{Cond}
use Rattle.udb_base.specs.declared.spaces.ExtSpace.{ExtSpace}
use Rattle.udb_base.specs.declared.spaces.ParamSpace.{ParamSpace}
use Rattle.udb_base.specs.declared.spaces.Space.{Space}
use Rattle.udb_spec.specs.Conditions.{same_bytes}
use Rattle.udb_spec.specs.Constraints.{numbered}
use Rattle.udb_refute.specs.declared.variables.Variable.{Variable}
use Rattle.udb_refute.specs.Variables.{alone_extension, alone_param, extension_among, param_among, one_or_none}

abbrev at_place : ℕ → Space → Variable
at_place p s = record { place = p; alone = s }

pub extension-next : (es : List ExtSpace) (p : ℕ) (e : ExtSpace) (name : List ℕ) (alone : Space) (old new : Option Variable) → p < length es → e ≡ get_or es p e → old ≡ extension_among (drop (p + 1) es) name (p + 1) → alone ≡ alone_extension e → new ≡ cond (same_bytes e.name name) (Some (record { place = p; alone = alone })) old → new ≡ extension_among (drop p es) name p
extension-next es p e name alone old new lt is before only after =
    after ∙ (ap (λ (s : Space). cond (same_bytes e.name name) (Some (at_place p s)) old) only ∙ (ap (cond (same_bytes e.name name) (Some (record { place = p; alone = alone_extension e }))) before
    ∙ sym (ap (λ xs. extension_among xs name p) (drop_more es p e lt ∙ ap (λ x. x ∷ drop (p + 1) es) (sym is)))))

pub param-next : (ps : List ParamSpace) (p : ℕ) (e : ParamSpace) (name : List ℕ) (alone : Space) (old new : Option Variable) → p < length ps → e ≡ get_or ps p e → old ≡ param_among (drop (p + 1) ps) name (p + 1) → alone ≡ alone_param e → new ≡ cond (same_bytes e.name name) (Some (record { place = p; alone = alone })) old → new ≡ param_among (drop p ps) name p
param-next ps p e name alone old new lt is before only after =
    after ∙ (ap (λ (s : Space). cond (same_bytes e.name name) (Some (at_place p s)) old) only ∙ (ap (cond (same_bytes e.name name) (Some (record { place = p; alone = alone_param e }))) before
    ∙ sym (ap (λ xs. param_among xs name p) (drop_more ps p e lt ∙ ap (λ x. x ∷ drop (p + 1) ps) (sym is)))))

-- one more constraint
pub take-more : {X : Type 0} (xs : List X) (n : ℕ) → take n xs ++ one_or_none (slice_get xs n) ≡ take (suc n) xs
take-more [] zero = refl
take-more [] (suc n) = refl
take-more (x ∷ xs) zero = refl
take-more (x ∷ xs) (suc n) = ap (λ ys. x ∷ ys) (take-more xs n)

pub constraint-more : (cs : List Cond) (number : ℕ) (old new : List Cond) (o : Option Cond) → 1 ≤ number → old ≡ take (number - 1) cs → o ≡ numbered cs number → new ≡ old ++ one_or_none o → new ≡ take (number + 1 - 1) cs
constraint-more cs zero old new o some before is after = absurd (omega arith)
constraint-more cs (suc n) old new o some before is after =
    let less : suc n - 1 ≡ n = omega arith in
    let more : suc n + 1 - 1 ≡ suc n = omega arith in
    after ∙ (ap (λ ys. ys ++ one_or_none o) (before ∙ ap (λ k. take k cs) less) ∙ (ap (λ p. take n cs ++ one_or_none p) is ∙ (take-more cs n ∙ ap (λ k. take k cs) (sym more))))

-- the map after one more name
pub put-text : (name key q : List ℕ) (place : ℕ) (alone made : Space) (old new : Option Variable) → key ≡ name → made ≡ alone → new ≡ cond (same_bytes key q) (Some (record { place = place; alone = made })) old → new ≡ cond (same_bytes name q) (Some (record { place = place; alone = alone })) old
put-text name key q place alone made old new same is after =
    after ∙ (ap (λ k. cond (same_bytes k q) (Some (at_place place made)) old) same ∙ ap (λ (s : Space). cond (same_bytes name q) (Some (at_place place s)) old) is)

abbrev value_or : {T E : Type 0} → T → Result T E → T
value_or x (Ok y) = y
value_or x (Err e) = x

pub same-ok : {T E : Type 0} (x y : T) (r : Result T E) → r ≡ Ok x → r ≡ Ok y → x ≡ y
same-ok x y r e f = ap (value_or x) (sym e ∙ f)
