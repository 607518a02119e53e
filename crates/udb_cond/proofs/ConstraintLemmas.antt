-- Which constraint a number names.
use Rattle.std.proofs.Common.{◌≡◌, ◌≢◌, ℕ, zero, suc, ◌+◌, ◌-◌, ◌*◌, ◌/◌, ◌%◌, ◌<◌, ◌≤◌, ◌==◌, Bool, true, false, List, [], ◌∷◌, ◌++◌, map, Some, length, get_or, refl, sym, ap, ◌∙◌, cond, subst, arith}
use Rattle.std.specs.List.{slice_get}
use Rattle.std.specs.Option.{option_map}
use Rattle.std.proofs.lemmas.List.{length-map}
use Rattle.std.proofs.lemmas.Bool.{eqb-true, eqb-false}
use Rattle.std.proofs.lemmas.Option.{slice_get-map, slice_get_read}
use Rattle.udb_base.specs.declared.conditions.Cond.{Cond}
use Rattle.udb_base.specs.declared.refutations.Partial.{Partial}
use Rattle.udb_base.specs.declared.spaces.ExtSpace.{ExtSpace}
use Rattle.udb_base.specs.declared.spaces.ParamSpace.{ParamSpace}
use Rattle.udb_base.specs.declared.spaces.Space.{Space}
use Rattle.udb_spec.specs.Constraints.{ext_constraint, needs_constraint, first_constraint, param_constraints, constraints, numbered}

get-left : {X : Type 0} (xs ys : List X) (i : ℕ) → i < length xs → slice_get (xs ++ ys) i ≡ slice_get xs i
get-left [] ys i lt = absurd (omega arith)
get-left (x ∷ xs) ys zero lt = refl
get-left (x ∷ xs) ys (suc i) lt = get-left xs ys i (omega arith)

get-right : {X : Type 0} (xs ys : List X) (i : ℕ) → length xs ≤ i → slice_get (xs ++ ys) i ≡ slice_get ys (i - length xs)
get-right [] ys i le = let e : i ≡ i - 0 = omega arith in ap (slice_get ys) e
get-right (x ∷ xs) ys zero le = absurd (omega arith)
get-right (x ∷ xs) ys (suc i) le = let e : i - length xs ≡ suc i - suc (length xs) = omega arith in get-right xs ys i (omega arith) ∙ ap (slice_get ys) e

numbered-at : (list : List Cond) (n : ℕ) → n ≢ 0 → numbered list n ≡ slice_get list (n - 1)
numbered-at list zero ne = absurd (ne refl)
numbered-at list (suc n) ne = let e : n ≡ suc n - 1 = omega arith in ap (slice_get list) e

length-params : (ps : List ParamSpace) → length (param_constraints ps) ≡ 2 * length ps
length-params [] = refl
length-params (p ∷ ps) = omega (arith, length-params ps)

param-get : (ps : List ParamSpace) (k i : ℕ) (second : Bool) (p : ParamSpace) → i ≡ k + k + cond second 1 0 → k < length ps → p ≡ get_or ps k p → slice_get (param_constraints ps) i ≡ Some (cond second (first_constraint p) (needs_constraint p))
param-get [] k i second p e lt is = absurd (omega arith)
param-get (q ∷ ps) zero i true p e lt is = rw e (rw is refl)
param-get (q ∷ ps) zero i false p e lt is = rw e (rw is refl)
param-get (q ∷ ps) (suc k) zero second p e lt is = absurd (omega arith)
param-get (q ∷ ps) (suc k) (suc zero) second p e lt is = absurd (omega arith)
param-get (q ∷ ps) (suc k) (suc (suc i)) second p e lt is = param-get ps k i second p (omega arith) (omega arith) is

halves : (j : ℕ) (b : Bool) → (j % 2 == 1) ≡ b → j ≡ j / 2 + j / 2 + cond b 1 0
halves j true e = let odd : j % 2 ≡ 1 = eqb-true (j % 2) 1 e in omega (arith, odd)
halves j false e = let even : j % 2 ≢ 1 = eqb-false (j % 2) 1 e in omega (arith, even)

param-at : (ps : List ParamSpace) (j : ℕ) (p : ParamSpace) → j / 2 < length ps → p ≡ get_or ps (j / 2) p → slice_get (param_constraints ps) j ≡ Some (cond (j % 2 == 1) (first_constraint p) (needs_constraint p))
param-at ps j p lt is = param-get ps (j / 2) j (j % 2 == 1) p (halves j (j % 2 == 1) refl) lt is

module _ (space : Space) (part : Partial) (asked : Cond) (n : ℕ) (some : n ≢ 0) where
  abbrev others : List Cond
  others = param_constraints space.params ++ (part.constraints ++ asked ∷ [])

  pub ext-numbered : (es : List ExtSpace) (e : ExtSpace) → es ≡ space.extensions → n - 1 < length es → e ≡ get_or es (n - 1) e → Some (ext_constraint e) ≡ numbered (constraints space part asked) n
  ext-numbered es e same lt is =
      subst (λ xs. Some (ext_constraint e) ≡ numbered (map ext_constraint xs ++ others) n) same
      (sym (numbered-at (map ext_constraint es ++ others) n some ∙ get-left (map ext_constraint es) others (n - 1) (omega (arith, length-map es ext_constraint)) ∙ slice_get-map ext_constraint es (n - 1) ∙ ap (option_map ext_constraint) (slice_get_read es (length es) (n - 1) e refl lt is)))

  past-index : (es : List ExtSpace) → es ≡ space.extensions → n - 1 - length (map ext_constraint space.extensions) ≡ n - 1 - length es
  past-index es same = let l : length (map ext_constraint space.extensions) ≡ length es = length-map space.extensions ext_constraint ∙ ap length (sym same) in ap (λ k. n - 1 - k) l

  past-exts : (es : List ExtSpace) → es ≡ space.extensions → length es ≤ n - 1 → numbered (constraints space part asked) n ≡ slice_get others (n - 1 - length es)
  past-exts es same le =
      numbered-at (constraints space part asked) n some ∙ get-right (map ext_constraint space.extensions) others (n - 1) (omega (arith, length-map space.extensions ext_constraint, ap length same)) ∙ ap (slice_get others) (past-index es same)

  pub param-numbered : (es : List ExtSpace) (ps : List ParamSpace) (p : ParamSpace) → es ≡ space.extensions → ps ≡ space.params → length es ≤ n - 1 → (n - 1 - length es) / 2 < length ps → p ≡ get_or ps ((n - 1 - length es) / 2) p → Some (cond ((n - 1 - length es) % 2 == 1) (first_constraint p) (needs_constraint p)) ≡ numbered (constraints space part asked) n
  param-numbered es ps p same_es same_ps le lt is =
      let j : ℕ = n - 1 - length es in
      let lt' : j / 2 < length space.params = subst (λ xs. j / 2 < length xs) same_ps lt in
      let is' : p ≡ get_or space.params (j / 2) p = subst (λ xs. p ≡ get_or xs (j / 2) p) same_ps is in
      sym (past-exts es same_es le ∙ get-left (param_constraints space.params) (part.constraints ++ asked ∷ []) j (omega (arith, length-params space.params, lt')) ∙ param-at space.params j p lt' is')

  pub own-numbered : (es : List ExtSpace) (ps : List ParamSpace) → es ≡ space.extensions → ps ≡ space.params → length es ≤ n - 1 → length ps ≤ (n - 1 - length es) / 2 → slice_get (part.constraints ++ asked ∷ []) (n - 1 - length es - 2 * length ps) ≡ numbered (constraints space part asked) n
  own-numbered es ps same_es same_ps le le' =
      let j : ℕ = n - 1 - length es in
      let l : length (param_constraints space.params) ≡ 2 * length ps = length-params space.params ∙ ap (λ xs. 2 * length xs) (sym same_ps) in
      sym (past-exts es same_es le ∙ get-right (param_constraints space.params) (part.constraints ++ asked ∷ []) j (omega (arith, l, le')) ∙ ap (λ k. slice_get (part.constraints ++ asked ∷ []) (j - k)) l)
