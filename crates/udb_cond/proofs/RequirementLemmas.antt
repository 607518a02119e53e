-- What is read as a requirement is one, and each is read.
use Rattle.std.proofs.Common.{◌≡◌, ℕ, zero, suc, ◌≤◌, ◌==◌, Bool, true, false, List, [], ◌∷◌, ◌++◌, map, drop, length, replicate, find, Option, Some, None, Result, Ok, IfOk, option_map, refl, sym, ap, ◌∙◌, cond, subst, arith, ⊎_elim}
use Rattle.std.specs.List.{slice_split, onto_first}
use Rattle.std.specs.Option.{ok_or}
use Rattle.std.proofs.lemmas.Bool.{cases_Bool, and_parts, eqb-true, ne_eqb}
use Rattle.std.proofs.lemmas.Bool.Decides.{Decides-eqb}
use Rattle.std.proofs.lemmas.List.{drop_at}
use Rattle.std.proofs.lemmas.Option.{same_Some, none-some}
use Rattle.std.proofs.lemmas.Slice.Eq.{starts_is}
use Rattle.udb_base.specs.declared.versions.Version.{Version}
use Rattle.udb_base.specs.declared.versions.Compare.{Compare}
use Rattle.udb_base.specs.declared.versions.Compare.TheVariants.{Equal, NotEqual, Above, AtLeast, Below, AtMost, Compatible}
use Rattle.udb_base.specs.declared.versions.Requirement.{Requirement}
use Rattle.udb_spec.specs.Grammar.{is_number, number_of, version_of_parts, version_of, operator, SpellsRequirement, alone, compared}
use Rattle.udb_cond.specs.Parts.{is_dot}
use Rattle.udb_cond.specs.Requirements.{begins_with, comparison_of, without_spaces, compared_with, requirement_of}
use Rattle.udb_cond.proofs.GrammarLemmas.{digit-range, some-part}

find-passes : {X : Type 0} (p : X → Bool) (xs : List X) (y : X) → find p xs ≡ Some y → p y ≡ true
find-passes p [] y h = absurd (none-some y h)
find-passes p (x ∷ xs) y h = find-step p x y (p x) refl (find p xs) h (find-passes p xs y) where
  find-step : {X : Type 0} (p : X → Bool) (x y : X) (b : Bool) → p x ≡ b → (rest : Option X) → cond (p x) (Some x) rest ≡ Some y → (rest ≡ Some y → p y ≡ true) → p y ≡ true
  find-step p x y true e rest h go = let f : Some x ≡ Some y = rw e at h in subst (λ z. p z ≡ true) (same_Some x y f) e
  find-step p x y false e rest h go = let f : rest ≡ Some y = rw e at h in go f

-- the text after the comparison that it begins with
after-comparison : (text : List ℕ) (c : Compare) → comparison_of text ≡ Some c → text ≡ operator c ++ drop (length (operator c)) text
after-comparison text c h = (starts_is Decides-eqb text (operator c) (begins_with text c) refl).0 (find-passes (begins_with text) (NotEqual ∷ AtLeast ∷ AtMost ∷ Compatible ∷ Equal ∷ Above ∷ Below ∷ []) c h)

spaces-in-front : (text : List ℕ) → (n : ℕ) × (text ≡ replicate n 32 ++ without_spaces text)
spaces-in-front [] = (0, refl)
spaces-in-front (b ∷ text) = space-step b text (b == 32) refl (spaces-in-front text) where
  space-step : (b : ℕ) (text : List ℕ) (t : Bool) → (b == 32) ≡ t → (n : ℕ) × (text ≡ replicate n 32 ++ without_spaces text) → (n : ℕ) × (b ∷ text ≡ replicate n 32 ++ without_spaces (b ∷ text))
  space-step b text true e h = (suc h.0, let is : b ≡ 32 = eqb-true b 32 e in rw e (ap (λ k. k ∷ text) is ∙ ap (λ xs. 32 ∷ xs) h.1))
  space-step b text false e h = (0, rw e refl)

mapped : {A B : Type 0} (f : A → B) (o : Option A) (y : B) → option_map f o ≡ Some y → (x : A) × (o ≡ Some x) × (f x ≡ y)
mapped f None y h = absurd (none-some y h)
mapped f (Some x) y h = (x, refl, same_Some (f x) y h)

-- what is read is spelled so
pub read-spells : (text : List ℕ) (r : Requirement) → requirement_of text ≡ Some r → SpellsRequirement text r
read-spells text r h = by_comparison (comparison_of text) refl h where
  by_comparison : (o : Option Compare) → comparison_of text ≡ o → compared_with o text ≡ Some r → SpellsRequirement text r
  by_comparison None e g =
      let v = mapped (λ v. record { compare = Equal; version = v }) (version_of text) r g in
      subst (SpellsRequirement text) v.2 (alone text v.0 v.1)
  by_comparison (Some c) e g =
      let after : List ℕ = drop (length (operator c)) text in
      let v = mapped (λ v. record { compare = c; version = v }) (version_of (without_spaces after)) r g in
      let s = spaces-in-front after in
      subst (λ t. SpellsRequirement t r) (sym (after-comparison text c e ∙ ap (λ xs. operator c ++ xs) s.1))
      (subst (SpellsRequirement (operator c ++ (replicate s.0 32 ++ without_spaces after))) v.2 (compared c s.0 (without_spaces after) v.0 v.1))

no-version : (ps : List (Option ℕ)) (v : Version) → version_of_parts (None ∷ ps) ≡ Some v → ⊥
no-version ps v h = none-some v h

number-digit : (b : ℕ) (p : List ℕ) (ps : List (Option ℕ)) (v : Version) → version_of_parts (number_of (b ∷ p) ∷ ps) ≡ Some v → (48 ≤ b) × (b ≤ 57)
number-digit b p ps v h =
    ⊎_elim
    (λ (e : is_number (b ∷ p) ≡ true). digit-range b (and_parts _ _ (and_parts _ _ e).0).0)
    (λ (e : is_number (b ∷ p) ≡ false). let n : number_of (b ∷ p) ≡ None = rw e refl in absurd (no-version ps v (subst (λ o. version_of_parts (o ∷ ps) ≡ Some v) n h)))
    (cases_Bool (is_number (b ∷ p)))

first-step : (b : ℕ) (more : List ℕ) (v : Version) (t : Bool) → (b == 46) ≡ t → (p : List ℕ) × (ps : List (List ℕ)) × (slice_split is_dot more ≡ p ∷ ps) → version_of_parts (map number_of (cond (b == 46) ([] ∷ slice_split is_dot more) (onto_first b (slice_split is_dot more)))) ≡ Some v → (48 ≤ b) × (b ≤ 57)
first-step b more v true e part h = let f : version_of_parts (None ∷ map number_of (slice_split is_dot more)) ≡ Some v = rw e at h in absurd (no-version (map number_of (slice_split is_dot more)) v f)
first-step b more v false e part h =
    let f : version_of_parts (map number_of (onto_first b (slice_split is_dot more))) ≡ Some v = rw e at h in
    let g : version_of_parts (number_of (b ∷ part.0) ∷ map number_of part.1) ≡ Some v = subst (λ parts. version_of_parts (map number_of (onto_first b parts)) ≡ Some v) part.2 f in
    number-digit b part.0 (map number_of part.1) v g

-- a version begins with a digit
version-first : (text : List ℕ) (v : Version) → version_of text ≡ Some v → (b : ℕ) × (more : List ℕ) × (text ≡ b ∷ more) × (48 ≤ b) × (b ≤ 57)
unfolding version_of
version-first [] v h = absurd (none-some v h)
version-first (b ∷ more) v h = let d = first-step b more v (b == 46) refl (some-part more) h in (b, more, refl, d.0, d.1)

no-comparison : (b : ℕ) (more : List ℕ) → 48 ≤ b → b ≤ 57 → comparison_of (b ∷ more) ≡ None
no-comparison b more low high = rw (ne_eqb 33 b (λ e. omega arith), ne_eqb 62 b (λ e. omega arith), ne_eqb 60 b (λ e. omega arith), ne_eqb 126 b (λ e. omega arith), ne_eqb 61 b (λ e. omega arith)) refl

comparison-read : (c : Compare) (b : ℕ) (more : List ℕ) → (61 == b) ≡ false → comparison_of (operator c ++ b ∷ more) ≡ Some c
comparison-read Equal b more ne = refl
comparison-read NotEqual b more ne = refl
comparison-read Above b more ne = rw ne refl
comparison-read AtLeast b more ne = refl
comparison-read Below b more ne = rw ne refl
comparison-read AtMost b more ne = refl
comparison-read Compatible b more ne = refl

spaces-skipped : (n b : ℕ) (more : List ℕ) → (b == 32) ≡ false → without_spaces (replicate n 32 ++ b ∷ more) ≡ b ∷ more
spaces-skipped zero b more ne = rw ne refl
spaces-skipped (suc n) b more ne = spaces-skipped n b more ne

after-spaces : (c : Compare) (n b : ℕ) (more : List ℕ) → (61 == b) ≡ false → comparison_of (operator c ++ (replicate n 32 ++ b ∷ more)) ≡ Some c
after-spaces c zero b more ne = comparison-read c b more ne
after-spaces c (suc n) b more ne = comparison-read c 32 (replicate n 32 ++ b ∷ more) refl

-- what is spelled is read
pub spells-read : (text : List ℕ) (r : Requirement) → SpellsRequirement text r → requirement_of text ≡ Some r
spells-read _ _ (alone text v e) =
    let first = version-first text v e in
    let none : comparison_of text ≡ None = ap comparison_of first.2 ∙ no-comparison first.0 first.1 first.3 first.4 in
    ap (λ o. compared_with o text) none ∙ ap (option_map (λ v. record { compare = Equal; version = v })) e
spells-read _ _ (compared c n text v e) =
    let first = version-first text v e in
    let ne : (61 == first.0) ≡ false = ne_eqb 61 first.0 (λ f. omega (arith, first.4)) in
    let ns : (first.0 == 32) ≡ false = ne_eqb first.0 32 (λ f. omega (arith, first.3)) in
    let comparison : comparison_of (operator c ++ (replicate n 32 ++ text)) ≡ Some c = ap (λ t. comparison_of (operator c ++ (replicate n 32 ++ t))) first.2 ∙ after-spaces c n first.0 first.1 ne in
    let rest : without_spaces (drop (length (operator c)) (operator c ++ (replicate n 32 ++ text))) ≡ text = ap without_spaces (drop_at (operator c) (replicate n 32 ++ text) (length (operator c)) refl) ∙ ap (λ t. without_spaces (replicate n 32 ++ t)) first.2 ∙ spaces-skipped n first.0 first.1 ns ∙ sym first.2 in
    ap (λ o. compared_with o (operator c ++ (replicate n 32 ++ text))) comparison ∙ ap (λ t. option_map (λ v. record { compare = c; version = v }) (version_of t)) rest ∙ ap (option_map (λ v. record { compare = c; version = v })) e

pub spelled : {E : Type 0} (text : List ℕ) (o : Option Requirement) (e : E) (result : Result Requirement E) → result ≡ ok_or o e → o ≡ requirement_of text → IfOk result (SpellsRequirement text)
spelled text None e result r_is is = rw r_is tt
spelled text (Some r) e result r_is is = rw r_is (read-spells text r (sym is))

pub exact : {E : Type 0} (text : List ℕ) (o : Option Requirement) (e : E) (result : Result Requirement E) → result ≡ ok_or o e → o ≡ requirement_of text → (r : Requirement) → SpellsRequirement text r → result ≡ Ok r
exact text o e result r_is is r h = r_is ∙ ap (λ x. ok_or x e) (is ∙ spells-read text r h)
