-- A tally of cells gives what is known over all of them.
use Rattle.std.proofs.Common.{◌≡◌, ℕ, ◌+◌, ◌<◌, ◌≤◌, Bool, true, false, not, ◌&&◌, ◌||◌, List, [], ◌∷◌, map, length, get_or, drop, Some, refl, sym, ◌∙◌, cond, subst}
use Rattle.std.specs.List.{list_all, list_any}
use Rattle.std.proofs.lemmas.List.{drop_more, drop_all}
use Rattle.udb_base.specs.declared.refutations.Known.{Known}
use Rattle.udb_base.specs.declared.refutations.Known.TheVariants.{Yes, No, Unknown}
use Rattle.udb_base.specs.declared.conditions.Value.{Value}
use Rattle.udb_base.specs.declared.conditions.Test.{Test}
use Rattle.udb_base.specs.declared.spaces.ExtSpace.{ExtSpace}
use Rattle.udb_base.specs.declared.spaces.ParamSpace.{ParamSpace}
use Rattle.udb_base.specs.declared.versions.Listed.{Listed}
use Rattle.udb_base.specs.declared.versions.Requirement.{Requirement}
use Rattle.udb_spec.specs.Conditions.{choice_meets, passes, same_bytes}
use Rattle.udb_spec.specs.Cells.{Step, allows, kept, choices_of, ext_cells, param_cells}
use Rattle.udb_spec.specs.Known.{known_over, ext_known, param_known}
use Rattle.udb_cond.specs.Tally.{verdict, tally}

or-false : (b : Bool) → (b || false) ≡ b
or-false true = refl
or-false false = refl

or-assoc : (a b c : Bool) → ((a || b) || c) ≡ (a || (b || c))
or-assoc true b c = refl
or-assoc false b c = refl

not-and : (a b : Bool) → (not a || not b) ≡ not (a && b)
not-and true b = refl
not-and false b = refl

tally-whole : (h f : Bool) (bs : List Bool) → tally h f bs ≡ verdict (h || list_any (λ b. b) bs) (f || not (list_all (λ b. b) bs))
tally-whole h f [] = rw (or-false h, or-false f) refl
tally-whole h f (b ∷ bs) =
    tally-whole (h || b) (f || not b) bs
    ∙ rw (or-assoc h b (list_any (λ x. x) bs), or-assoc f (not b) (not (list_all (λ x. x) bs)), not-and b (list_all (λ x. x) bs)) refl

verdict-over : (all any : Bool) → verdict any (not all) ≡ (cond all Yes (cond any Unknown No))
verdict-over true any = refl
verdict-over false true = refl
verdict-over false false = refl

-- a tally from nothing is what is known over the cells
pub tally-over : (bs : List Bool) → tally false false bs ≡ known_over bs
tally-over bs = tally-whole false false bs ∙ verdict-over (list_all (λ b. b) bs) (list_any (λ b. b) bs)

counted : {X : Type 0} (p : X → Bool) (open_ h f : Bool) (x : X) (xs : List X) → tally (h || (open_ && p x)) (f || (open_ && not (p x))) (map p xs) ≡ tally h f (map p (cond open_ (x ∷ xs) xs))
counted p true h f x xs = refl
counted p false h f x xs = rw (or-false h, or-false f) refl

-- one more cell is counted where the path leaves it open
pub tally-first : {X : Type 0} (p : X → Bool) (path : List Step) (param : Bool) (place n : ℕ) (h f : Bool) (x : X) (xs : List X) → tally (h || (list_all (allows param place n) path && p x)) (f || (list_all (allows param place n) path && not (p x))) (map p (kept path param place (n + 1) xs)) ≡ tally h f (map p (kept path param place n (x ∷ xs)))
tally-first p path param place n h f x xs = counted p (list_all (allows param place n) path) h f x (kept path param place (n + 1) xs)

pub tally-turn : {X Y : Type 0} (p : X → Bool) (g : Y → X) (path : List Step) (param : Bool) (place n : ℕ) (h f : Bool) (ys : List Y) (i : ℕ) (y : Y) → i < length ys → y ≡ get_or ys i y → tally (h || (list_all (allows param place n) path && p (g y))) (f || (list_all (allows param place n) path && not (p (g y)))) (map p (kept path param place (n + 1) (map g (drop (i + 1) ys)))) ≡ tally h f (map p (kept path param place n (map g (drop i ys))))
tally-turn p g path param place n h f ys i y lt is =
    rw (drop_more ys i y lt) (rw (← is) (tally-first p path param place n h f (g y) (map g (drop (i + 1) ys))))

pub tally-end : {X Y : Type 0} (p : X → Bool) (g : Y → X) (path : List Step) (param : Bool) (place n : ℕ) (h f : Bool) (ys : List Y) (i : ℕ) → length ys ≤ i → verdict h f ≡ tally h f (map p (kept path param place n (map g (drop i ys))))
tally-end p g path param place n h f ys i le = rw (drop_all i ys le) refl

-- the verdict after the last element
pub tally-done : {X Y : Type 0} (p : X → Bool) (g : Y → X) (path : List Step) (param : Bool) (place n : ℕ) (h f : Bool) (ys : List Y) (i : ℕ) (whole : List Bool) (k : Known) → k ≡ verdict h f → length ys ≤ i → tally h f (map p (kept path param place n (map g (drop i ys)))) ≡ tally false false whole → k ≡ known_over whole
tally-done p g path param place n h f ys i whole k is le kept_ = is ∙ tally-end p g path param place n h f ys i le ∙ kept_ ∙ tally-over whole

pub choices-done : (ext : ExtSpace) (versions : List Listed) (needs : List Requirement) (path : List Step) (place at : ℕ) (h f : Bool) (k : Known) → versions ≡ ext.versions → k ≡ verdict h f → length versions ≤ at → tally h f (map (choice_meets versions needs) (kept path false place (at + 1) (map (λ v. Some v.version) (drop at versions)))) ≡ tally false false (map (choice_meets versions needs) (kept path false place 0 (choices_of ext))) → k ≡ known_over (map (choice_meets ext.versions needs) (ext_cells path place ext))
choices-done ext versions needs path place at h f k same is le kept_ =
    subst (λ vs. k ≡ known_over (map (choice_meets vs needs) (ext_cells path place ext))) same
    (tally-done (choice_meets versions needs) (λ v. Some v.version) path false place (at + 1) h f versions at (map (choice_meets versions needs) (kept path false place 0 (choices_of ext))) k is le kept_)

pub values-done : {X Y : Type 0} (p : X → Bool) (g : Y → X) (path : List Step) (place : ℕ) (h f : Bool) (ys : List Y) (i : ℕ) (k : Known) → k ≡ verdict h f → length ys ≤ i → tally h f (map p (kept path true place i (map g (drop i ys)))) ≡ tally false false (map p (kept path true place 0 (map g ys))) → k ≡ known_over (map p (kept path true place 0 (map g ys)))
values-done p g path place h f ys i k is le kept_ = tally-done p g path true place i h f ys i (map p (kept path true place 0 (map g ys))) k is le kept_

-- an extension found by its name
pub ext-found : (path : List Step) (es : List ExtSpace) (name : List ℕ) (needs : List Requirement) (place : ℕ) (e : ExtSpace) (k : Known) → place < length es → e ≡ get_or es place e → same_bytes e.name name ≡ true → k ≡ known_over (map (choice_meets e.versions needs) (ext_cells path place e)) → ext_known path place (drop place es) name needs ≡ ext_known path 0 es name needs → k ≡ ext_known path 0 es name needs
ext-found path es name needs place e k lt is same k_is rest = k_is ∙ sym (rw (drop_more es place e lt) (rw (← is) (rw same refl))) ∙ rest

-- a parameter found by its name
pub param-found : (path : List Step) (ps : List ParamSpace) (name : List ℕ) (test : Test) (given : Value) (place : ℕ) (q : ParamSpace) (k : Known) → place < length ps → q ≡ get_or ps place q → same_bytes q.name name ≡ true → k ≡ known_over (map (λ x. passes test x given) (param_cells path place q.domain)) → param_known path place (drop place ps) name test given ≡ param_known path 0 ps name test given → k ≡ param_known path 0 ps name test given
param-found path ps name test given place q k lt is same k_is rest = k_is ∙ sym (rw (drop_more ps place q lt) (rw (← is) (rw same refl))) ∙ rest

pub ruleset tally_laws = (tally-over)
