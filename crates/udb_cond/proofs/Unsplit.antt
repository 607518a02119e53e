-- What a path leaves of a variable that wasn't split.
use Rattle.std.proofs.Common.{◌≡◌, ℕ, ◌+◌, ◌==◌, Bool, true, false, not, ◌&&◌, ◌||◌, List, [], ◌∷◌, length, refl, sym, ap, cond}
use Rattle.std.specs.List.{list_all, list_any}
use Rattle.std.proofs.lemmas.Bool.{and_from, true≢false}
use Rattle.std.proofs.lemmas.List.{length-map}
use Rattle.udb_base.specs.declared.conditions.Value.TheVariants.{Number}
use Rattle.udb_base.specs.declared.spaces.Domain.{Domain}
use Rattle.udb_base.specs.declared.spaces.Domain.TheVariants.{Flags, Numbers, Range, Words}
use Rattle.udb_base.specs.declared.spaces.ExtSpace.{ExtSpace}
use Rattle.udb_spec.specs.Cells.{Step, Child, Below, From, allows, kept, choices_of, values_of, numbers_of, range_left, ext_cells, param_cells}
use Rattle.udb_spec.specs.Refutes.{splits, is_unsplit}
use Rattle.udb_cond.proofs.Splits.{children_of}

or-left-false : (a b : Bool) → (a || b) ≡ false → a ≡ false
or-left-false true b e = e
or-left-false false b e = refl

or-right-false : (a b : Bool) → (a || b) ≡ false → b ≡ false
or-right-false true b e = cc
or-right-false false b e = e

unsplit-if : (b : Bool) (param : Bool) (place n : ℕ) (q : Bool) (p k : ℕ) → ((cond param q (not q)) && (p == place)) ≡ b → b ≡ false → allows param place n (Child q p k) ≡ true
unsplit-if true param place n q p k is e = absurd (true≢false e)
unsplit-if false param place n q p k is e = rw is refl

step-allows : (s : Step) (param : Bool) (place n : ℕ) → splits param place s ≡ false → allows param place n s ≡ true
step-allows (Child q p k) param place n e = unsplit-if ((cond param q (not q)) && (p == place)) param place n q p k refl e
step-allows (Below p at) param place n e = refl
step-allows (From p at) param place n e = refl

unsplit-allows : (path : List Step) (param : Bool) (place n : ℕ) → list_any (splits param place) path ≡ false → list_all (allows param place n) path ≡ true
unsplit-allows [] param place n e = refl
unsplit-allows (s ∷ path) param place n e =
    and_from (allows param place n s) (list_all (allows param place n) path) (step-allows s param place n (or-left-false (splits param place s) (list_any (splits param place) path) e)) (unsplit-allows path param place n (or-right-false (splits param place s) (list_any (splits param place) path) e))

pub kept-unsplit : {X : Type 0} (path : List Step) (param : Bool) (place n : ℕ) (xs : List X) → list_any (splits param place) path ≡ false → kept path param place n xs ≡ xs
kept-unsplit path param place n [] e = refl
kept-unsplit path param place n (x ∷ xs) e = rw (unsplit-allows path param place n e) (ap (λ ys. x ∷ ys) (kept-unsplit path param place (n + 1) xs e))

not-true : (b : Bool) → not b ≡ true → b ≡ false
not-true true e = sym e
not-true false e = refl

pub values-unsplit : (path : List Step) (place : ℕ) (d : Domain) → is_unsplit path true place ≡ true → length (param_cells path place d) ≡ children_of path place d
values-unsplit path place Flags e = ap length (kept-unsplit path true place 0 (values_of Flags) (not-true (list_any (splits true place) path) e))
values-unsplit path place (Numbers ns) e = ap length (kept-unsplit path true place 0 (values_of (Numbers ns)) (not-true (list_any (splits true place) path) e))
values-unsplit path place (Range low high) e = length-map (numbers_of (range_left path place low high)) Number
values-unsplit path place (Words ws) e = ap length (kept-unsplit path true place 0 (values_of (Words ws)) (not-true (list_any (splits true place) path) e))

pub choices-unsplit : (path : List Step) (place : ℕ) (e : ExtSpace) → is_unsplit path false place ≡ true → length (ext_cells path place e) ≡ length (choices_of e)
choices-unsplit path place e h = ap length (kept-unsplit path false place 0 (choices_of e) (not-true (list_any (splits false place) path) h))
