-- One node of a proof under a path.
use Rattle.std.proofs.Common.{◌≡◌, ◌≢◌, ℕ, zero, suc, min, max, ◌+◌, ◌-◌, ◌<◌, ◌≤◌, ◌==◌, nat_lt, nat_le, Bool, true, false, not, ◌&&◌, ◌||◌, List, [], ◌∷◌, map, length, Option, None, Some, slice_get, get_or, AllPairs, IsTrue, refl, sym, ap, ◌∙◌, cond, subst, arith, ⊎_elim}
use Rattle.std.specs.List.{list_all, list_any, range_with_len}
use Rattle.std.specs.Option.{option_map, option_map_or, option_and_then}
use Rattle.std.specs.Cmp.Lexicographic.{bytes_decides}
use Rattle.std.proofs.lemmas.Option.{same_Some, none-some}
use Rattle.std.proofs.lemmas.Bool.{cases_lt, cases_eq, eq-eqb, ne_eqb, lt-ltb, le-ltb, leb-true, ltb-true, false≢true}
use Rattle.std.proofs.lemmas.List.FromFn.{length-range_with_len}
use Rattle.udb_base.specs.declared.versions.Version.{Version}
use Rattle.udb_base.specs.declared.versions.Listed.{Listed}
use Rattle.udb_base.specs.declared.conditions.Value.{Value}
use Rattle.udb_base.specs.declared.conditions.Value.TheVariants.{Flag, Number, Word}
use Rattle.udb_base.specs.declared.conditions.Test.{Test}
use Rattle.udb_base.specs.declared.conditions.Test.TheVariants.{Equal}
use Rattle.udb_base.specs.declared.versions.Requirement.{Requirement}
use Rattle.udb_base.specs.declared.conditions.Cond.TheVariants as c
use Rattle.udb_base.specs.declared.refutations.Known.{Known}
use Rattle.udb_base.specs.declared.refutations.Known.TheVariants.{Yes, No, Unknown}
use Rattle.udb_base.specs.declared.spaces.Domain.{Domain}
use Rattle.udb_base.specs.declared.spaces.Domain.TheVariants.{Flags, Numbers, Range, Words}
use Rattle.udb_base.specs.declared.spaces.ExtSpace.{ExtSpace}
use Rattle.udb_base.specs.declared.spaces.ParamSpace.{ParamSpace}
use Rattle.udb_base.specs.declared.spaces.Space.{Space}
use Rattle.udb_spec.specs.Conditions.{same_bytes, same_value, choice_meets, passes}
use Rattle.udb_spec.specs.Spaces.{first_value}
use Rattle.udb_spec.specs.Constraints.{ext_constraint, needs_constraint, first_constraint, has_value}
use Rattle.udb_spec.specs.Lawful.{name_lt, Lawful, IsLawfulParam, IsLawfulDomain}
use Rattle.udb_spec.specs.Cells.{Step, Child, Below, From, allows, kept, choices_of, numbers_of, range_of, child_of, range_left, narrowed, ext_cells, param_cells}
use Rattle.udb_spec.specs.Known.{is_yes, is_no, known_over, ext_known, param_known, any_known, not_known, known}
use Rattle.udb_spec.specs.KnownLaws.{known-Never, known-Ext, known-Param, known-Any, known-Not}
use Rattle.udb_spec.specs.Refutes.{is_unsplit, cells_left}
use Rattle.udb_cond.proofs.Splits.{children_of}
use Rattle.udb_cond.proofs.Unsplit.{values-unsplit, choices-unsplit}
use Rattle.udb_check.specs.Nodes.{some_open, first_value_fails, values_left}

-- ---- two parts of which both have to fail

pub no-either : (a b : Known) → is_no (any_known (a ∷ b ∷ [])) ≡ (is_no a && is_no b)
no-either Yes Yes = refl
no-either Yes No = refl
no-either Yes Unknown = refl
no-either No Yes = refl
no-either No No = refl
no-either No Unknown = refl
no-either Unknown Yes = refl
no-either Unknown No = refl
no-either Unknown Unknown = refl

pub no-not : (a : Known) → is_no (not_known a) ≡ is_yes a
no-not Yes = refl
no-not No = refl
no-not Unknown = refl

yes-if : (a b : Bool) → is_yes (cond a Yes (cond b Unknown No)) ≡ a
yes-if true b = refl
yes-if false true = refl
yes-if false false = refl

no-if : (a b : Bool) → is_no (cond a Yes (cond b Unknown No)) ≡ (not a && not b)
no-if true b = refl
no-if false true = refl
no-if false false = refl

pub yes-over : (answers : List Bool) → is_yes (known_over answers) ≡ list_all (λ b. b) answers
yes-over answers = yes-if (list_all (λ b. b) answers) (list_any (λ b. b) answers)

no-over : (answers : List Bool) → is_no (known_over answers) ≡ (not (list_all (λ b. b) answers) && not (list_any (λ b. b) answers))
no-over answers = no-if (list_all (λ b. b) answers) (list_any (λ b. b) answers)

pub no-needs : (space : Space) (path : List Step) (param : ParamSpace) → is_no (known space path (needs_constraint param)) ≡ (is_yes (known space path param.defined) && is_no (known space path param.needs))
no-needs space path param =
    ap is_no (known-Any space path (c.Not param.defined ∷ param.needs ∷ []))
    ∙ no-either (known space path (c.Not param.defined)) (known space path param.needs)
    ∙ ap (λ k. is_no k && is_no (known space path param.needs)) (known-Not space path param.defined)
    ∙ ap (λ b. b && is_no (known space path param.needs)) (no-not (known space path param.defined))

-- ---- look-ups by name in their places

pub irreflexive : (a : List ℕ) → name_lt a a ≡ false
irreflexive [] = refl
irreflexive (x ∷ xs) = rw (le-ltb x x (omega arith), eq-eqb x x refl) (irreflexive xs)

apart-by : (a b : List ℕ) (same : Bool) → same_bytes a b ≡ same → IsTrue (name_lt a b) → same ≡ false
apart-by a b false e h = refl
apart-by a b true e h = absurd (false≢true (sym (irreflexive b) ∙ subst (λ x. name_lt x b ≡ true) ((bytes_decides a b).0 e) h))

same-self : (a : List ℕ) → same_bytes a a ≡ true
same-self a = (bytes_decides a a).1 refl

get-some : {X : Type 0} (xs : List X) (i : ℕ) (y : X) → slice_get xs i ≡ Some y → (i < length xs) × (get_or xs i y ≡ y)
get-some [] i y e = absurd (none-some y e)
get-some (x ∷ xs) zero y e = (omega arith, same_Some x y e)
get-some (x ∷ xs) (suc i) y e = let rest = get-some xs i y e in (omega (arith, rest.0), rest.1)

module _ {X : Type 0} (R : X → X → Type 0) (x : X) (xs : List X) (pairs : AllPairs R (x ∷ xs)) where
  pairs-first : (i : ℕ) (y : X) → slice_get xs i ≡ Some y → R x y
  pairs-first i y e = let at = get-some xs i y e in subst (R x) at.1 (pairs 0 (suc i) y (omega arith) (omega (arith, at.0)))

  pairs-rest : AllPairs R xs
  pairs-rest i j d lt within = pairs (suc i) (suc j) d (omega arith) (omega arith)

-- without the second
pairs-skip : {X : Type 0} (R : X → X → Type 0) (x y : X) (xs : List X) → AllPairs R (x ∷ y ∷ xs) → AllPairs R (x ∷ xs)
pairs-skip R x y xs pairs zero zero d lt within = absurd (omega arith)
pairs-skip R x y xs pairs zero (suc j) d lt within = pairs zero (suc (suc j)) d (omega arith) (omega arith)
pairs-skip R x y xs pairs (suc i) zero d lt within = absurd (omega arith)
pairs-skip R x y xs pairs (suc i) (suc j) d lt within = pairs (suc (suc i)) (suc (suc j)) d (omega arith) (omega arith)

ext-at : (path : List Step) (es : List ExtSpace) (place i to : ℕ) (e : ExtSpace) (needs : List Requirement) → AllPairs (λ a b. IsTrue (name_lt a.name b.name)) es → slice_get es i ≡ Some e → place + i ≡ to → ext_known path place es e.name needs ≡ known_over (map (choice_meets e.versions needs) (ext_cells path to e))
ext-at path [] place i to e needs rising found sum = absurd (none-some e found)
ext-at path (f ∷ es) place zero to e needs rising found sum =
    let same : f ≡ e = same_Some f e found in
    let here : place ≡ to = omega arith in
    subst (λ x. ext_known path place (f ∷ es) x.name needs ≡ known_over (map (choice_meets x.versions needs) (ext_cells path to x))) same
    (subst (λ n. ext_known path place (f ∷ es) f.name needs ≡ known_over (map (choice_meets f.versions needs) (ext_cells path n f))) here (rw (same-self f.name) refl))
ext-at path (f ∷ es) place (suc i) to e needs rising found sum =
    rw (apart-by f.name e.name (same_bytes f.name e.name) refl (pairs-first (λ a b. IsTrue (name_lt a.name b.name)) f es rising i e found))
    (ext-at path es (place + 1) i to e needs (pairs-rest (λ a b. IsTrue (name_lt a.name b.name)) f es rising) found (omega arith))

param-at : (path : List Step) (ps : List ParamSpace) (place i to : ℕ) (p : ParamSpace) (test : Test) (given : Value) → AllPairs (λ a b. IsTrue (name_lt a.name b.name)) ps → slice_get ps i ≡ Some p → place + i ≡ to → param_known path place ps p.name test given ≡ known_over (map (λ x. passes test x given) (param_cells path to p.domain))
param-at path [] place i to p test given rising found sum = absurd (none-some p found)
param-at path (f ∷ ps) place zero to p test given rising found sum =
    let same : f ≡ p = same_Some f p found in
    let here : place ≡ to = omega arith in
    subst (λ x. param_known path place (f ∷ ps) x.name test given ≡ known_over (map (λ v. passes test v given) (param_cells path to x.domain))) same
    (subst (λ n. param_known path place (f ∷ ps) f.name test given ≡ known_over (map (λ v. passes test v given) (param_cells path n f.domain))) here (rw (same-self f.name) refl))
param-at path (f ∷ ps) place (suc i) to p test given rising found sum =
    rw (apart-by f.name p.name (same_bytes f.name p.name) refl (pairs-first (λ a b. IsTrue (name_lt a.name b.name)) f ps rising i p found))
    (param-at path ps (place + 1) i to p test given (pairs-rest (λ a b. IsTrue (name_lt a.name b.name)) f ps rising) found (omega arith))

-- ---- an extension is present where absent is no longer open

present-if : (open_ : Bool) (ws : List Listed) (v : Version) (xs : List (Option Version)) → list_all (λ b. b) (map (choice_meets ws []) xs) ≡ true → list_all (λ b. b) (map (choice_meets ws []) (cond open_ (Some v ∷ xs) xs)) ≡ true
present-if true ws v xs h = h
present-if false ws v xs h = h

all-present : (path : List Step) (place n : ℕ) (ws vs : List Listed) → list_all (λ b. b) (map (choice_meets ws []) (kept path false place n (map (λ l. Some l.version) vs))) ≡ true
all-present path place n ws [] = refl
all-present path place n ws (v ∷ vs) = present-if (list_all (allows false place n) path) ws v.version (kept path false place (n + 1) (map (λ l. Some l.version) vs)) (all-present path place (n + 1) ws vs)

absent-if : (open_ : Bool) (ws : List Listed) (xs : List (Option Version)) → list_all (λ b. b) (map (choice_meets ws []) xs) ≡ true → list_all (λ b. b) (map (choice_meets ws []) (cond open_ (None ∷ xs) xs)) ≡ not open_
absent-if true ws xs h = refl
absent-if false ws xs h = h

pub no-ext : (space : Space) (path : List Step) (place : ℕ) (e : ExtSpace) → Lawful space → slice_get space.extensions place ≡ Some e → is_no (known space path (ext_constraint e)) ≡ (not (list_all (allows false place 0) path) && is_no (known space path e.needs))
no-ext space path place e lawful found =
    let atom : known space path (c.Ext e.name []) ≡ known_over (map (choice_meets e.versions []) (ext_cells path place e)) = known-Ext space path e.name [] ∙ ext-at path space.extensions 0 place place e [] lawful.extension_names found (omega arith) in
    let present : is_yes (known space path (c.Ext e.name [])) ≡ not (list_all (allows false place 0) path) =
    ap is_yes atom ∙ yes-over (map (choice_meets e.versions []) (ext_cells path place e))
    ∙ absent-if (list_all (allows false place 0) path) e.versions (kept path false place 1 (map (λ l. Some l.version) e.versions)) (all-present path place 1 e.versions e.versions) in
    ap is_no (known-Any space path (c.Not (c.Ext e.name []) ∷ e.needs ∷ []))
    ∙ no-either (known space path (c.Not (c.Ext e.name []))) (known space path e.needs)
    ∙ ap (λ k. is_no k && is_no (known space path e.needs)) (known-Not space path (c.Ext e.name []))
    ∙ ap (λ b. b && is_no (known space path e.needs)) (no-not (known space path (c.Ext e.name [])) ∙ present)

-- ---- the first value of a domain

-- the value is none of the list
abbrev Others : Value → List Value → Type 0
Others v [] = Unit {0}
Others v (x ∷ xs) = (same_value x v ≡ false) × Others v xs

any-if : (open_ : Bool) (v x : Value) (xs : List Value) → same_value x v ≡ false → list_any (λ b. b) (map (λ x. passes Equal x v) xs) ≡ false → list_any (λ b. b) (map (λ x. passes Equal x v) (cond open_ (x ∷ xs) xs)) ≡ false
any-if true v x xs h rest = rw h rest
any-if false v x xs h rest = rest

any-others : (path : List Step) (place n : ℕ) (v : Value) (xs : List Value) → Others v xs → list_any (λ b. b) (map (λ x. passes Equal x v) (kept path true place n xs)) ≡ false
any-others path place n v [] h = refl
any-others path place n v (x ∷ xs) h = any-if (list_all (allows true place n) path) v x (kept path true place (n + 1) xs) h.0 (any-others path place (n + 1) v xs h.1)

all-if : (open_ later : Bool) (v x : Value) (xs : List Value) → same_value x v ≡ false → list_all (λ b. b) (map (λ x. passes Equal x v) xs) ≡ not later → list_all (λ b. b) (map (λ x. passes Equal x v) (cond open_ (x ∷ xs) xs)) ≡ not (open_ || later)
all-if true later v x xs h rest = rw h refl
all-if false later v x xs h rest = rest

all-others : (path : List Step) (place n : ℕ) (v : Value) (xs : List Value) → Others v xs → list_all (λ b. b) (map (λ x. passes Equal x v) (kept path true place n xs)) ≡ not (some_open path place n (length xs))
all-others path place n v [] h = refl
all-others path place n v (x ∷ xs) h = all-if (list_all (allows true place n) path) (some_open path place (n + 1) (length xs)) v x (kept path true place (n + 1) xs) h.0 (all-others path place (n + 1) v xs h.1)

same-value-self : (x : Value) → same_value x x ≡ true
same-value-self (Flag true) = refl
same-value-self (Flag false) = refl
same-value-self (Number n) = eq-eqb n n refl
same-value-self (Word w) = same-self w

and-none : (b : Bool) → (b && false) ≡ false
and-none true = refl
and-none false = refl

not-not : (b : Bool) → (not (not b) && true) ≡ b
not-not true = refl
not-not false = refl

-- no other value is the first one
listed-fails : (path : List Step) (place : ℕ) (v : Value) (xs : List Value) → Others v xs → is_no (known_over (map (λ x. passes Equal x v) (kept path true place 0 (v ∷ xs)))) ≡ (not (list_all (allows true place 0) path) && some_open path place 1 (length xs))
listed-fails path place v xs h = first-if (list_all (allows true place 0) path) where
  first-if : (open_ : Bool) → is_no (known_over (map (λ x. passes Equal x v) (cond open_ (v ∷ kept path true place 1 xs) (kept path true place 1 xs)))) ≡ (not open_ && some_open path place 1 (length xs))
  first-if true = no-over (map (λ x. passes Equal x v) (v ∷ kept path true place 1 xs)) ∙ rw (same-value-self v) (and-none (not (list_all (λ b. b) (map (λ x. passes Equal x v) (kept path true place 1 xs)))))
  first-if false = no-over (map (λ x. passes Equal x v) (kept path true place 1 xs)) ∙ rw (any-others path place 1 v xs h, all-others path place 1 v xs h) (not-not (some_open path place 1 (length xs)))

other-numbers : (n : ℕ) (ns : List ℕ) → AllPairs (λ a b. a ≢ b) (n ∷ ns) → Others (Number n) (map Number ns)
other-numbers n [] h = tt
other-numbers n (m ∷ ns) h = (ne_eqb m n (λ e. pairs-first (λ a b. a ≢ b) n (m ∷ ns) h 0 m refl (sym e)), other-numbers n ns (pairs-skip (λ a b. a ≢ b) n m ns h))

other-words : (w : List ℕ) (ws : List (List ℕ)) → AllPairs (λ a b. a ≢ b) (w ∷ ws) → Others (Word w) (map Word ws)
other-words w [] h = tt
other-words w (x ∷ ws) h = (apart-word (same_bytes x w) refl, other-words w ws (pairs-skip (λ a b. a ≢ b) w x ws h)) where
  apart-word : (same : Bool) → same_bytes x w ≡ same → same ≡ false
  apart-word false e = refl
  apart-word true e = absurd (pairs-first (λ a b. a ≢ b) w (x ∷ ws) h 0 x refl (sym ((bytes_decides x w).0 e)))

-- ---- ranges

-- the ends are in order, and above a bound
abbrev IsAbove : ℕ → Option (ℕ × ℕ) → Type 0
IsAbove low None = Unit {0}
IsAbove low (Some ends) = (low ≤ ends.0) × (ends.0 ≤ ends.1)

whole-above : (low first high : ℕ) → low ≤ first → IsAbove low (range_of first high)
whole-above low first high le = by_test (nat_le first high) refl where
  by_test : (b : Bool) → nat_le first high ≡ b → IsAbove low (cond b (Some (first, high)) None)
  by_test true e = (le, leb-true first high e)
  by_test false e = tt

child-above : (low child first high : ℕ) → low ≤ first → IsAbove low (child_of child (first, high))
child-above low child first high le = by_test (nat_le (first + child) high) where
  by_test : (b : Bool) → IsAbove low (cond b (Some (first + child, first + child)) None)
  by_test true = (omega arith, omega arith)
  by_test false = tt

below-above : (low at first high : ℕ) → low ≤ first → first ≤ high → IsAbove low (cond (nat_lt first at) (Some (first, min high (at - 1))) None)
below-above low at first high le ordered = by_test (nat_lt first at) refl where
  by_test : (b : Bool) → nat_lt first at ≡ b → IsAbove low (cond b (Some (first, min high (at - 1))) None)
  by_test true e = let lt : first < at = ltb-true first at e in (le, omega arith)
  by_test false e = tt

kept-above : (b : Bool) (low : ℕ) (o : Option (ℕ × ℕ)) (ends : ℕ × ℕ) → IsAbove low (Some ends) → IsAbove low o → IsAbove low (cond b o (Some ends))
kept-above true low o ends h k = k
kept-above false low o ends h k = h

narrowed-above : (s : Step) (place low : ℕ) (ends : ℕ × ℕ) → IsAbove low (Some ends) → IsAbove low (narrowed place s ends)
narrowed-above (Child q p k) place low ends h = kept-above (q && (p == place)) low (child_of k ends) ends h (child-above low k ends.0 ends.1 h.0)
narrowed-above (Below p at) place low ends h = kept-above (p == place) low (cond (nat_lt ends.0 at) (Some (ends.0, min ends.1 (at - 1))) None) ends h (below-above low at ends.0 ends.1 h.0 h.1)
narrowed-above (From p at) place low ends h = kept-above (p == place) low (range_of (max ends.0 at) ends.1) ends h (whole-above low (max ends.0 at) ends.1 (omega (arith, h.0)))

step-above : (s : Step) (place low : ℕ) (o : Option (ℕ × ℕ)) → IsAbove low o → IsAbove low (option_and_then (narrowed place s) o)
step-above s place low None h = tt
step-above s place low (Some ends) h = narrowed-above s place low ends h

-- what is left of a range is some of it
range-above : (path : List Step) (place low high : ℕ) → IsAbove low (range_left path place low high)
range-above [] place low high = whole-above low low high (omega arith)
range-above (s ∷ path) place low high = step-above s place low (range_left path place low high) (range-above path place low high)

above-none : (low first n : ℕ) → low < first → list_any (λ b. b) (map (λ x. passes Equal x (Number low)) (map Number (range_with_len first n))) ≡ false
above-none low first zero lt = refl
above-none low first (suc n) lt = rw (ne_eqb first low (λ e. omega arith)) (above-none low (first + 1) n (omega arith))

number-fails : (low first n : ℕ) → low ≤ first → is_no (known_over (map (λ x. passes Equal x (Number low)) (map Number (range_with_len first (suc n))))) ≡ nat_lt low first
number-fails low first n le = ⊎_elim (λ lt. no-over (map (λ x. passes Equal x (Number low)) (map Number (range_with_len first (suc n)))) ∙ rw (ne_eqb first low (λ e. omega arith), above-none low (first + 1) n (omega arith), lt-ltb low first lt) refl) (λ ge. no-over (map (λ x. passes Equal x (Number low)) (map Number (range_with_len first (suc n)))) ∙ rw (eq-eqb first low (omega arith), le-ltb low first ge) (and-none (not (list_all (λ b. b) (map (λ x. passes Equal x (Number low)) (map Number (range_with_len (first + 1) n))))))) (cases_lt low first)

range-fails : (low : ℕ) (o : Option (ℕ × ℕ)) → IsAbove low o → is_no (known_over (map (λ x. passes Equal x (Number low)) (map Number (numbers_of o)))) ≡ option_map_or (λ ends. nat_lt low ends.0) o false
range-fails low None h = refl
range-fails low (Some ends) h =
    let more : ends.1 + 1 - ends.0 ≡ suc (ends.1 - ends.0) = omega (arith, h.1) in
    ap (λ n. is_no (known_over (map (λ x. passes Equal x (Number low)) (map Number (range_with_len ends.0 n))))) more ∙ number-fails low ends.0 (ends.1 - ends.0) h.0

less-one : (xs : List Value) → length xs ≡ suc (length xs) - 1
less-one xs = omega arith

-- the atom that the parameter has its first value
first-atom : (path : List Step) (place : ℕ) (d : Domain) (o : Option Value) → IsLawfulDomain d → first_value d ≡ o → is_no (option_map_or (λ v. known_over (map (λ x. passes Equal x v) (param_cells path place d))) o No) ≡ first_value_fails path place d
first-atom path place Flags o h is = subst (λ o. is_no (option_map_or (λ v. known_over (map (λ x. passes Equal x v) (param_cells path place Flags))) o No) ≡ first_value_fails path place Flags) is (listed-fails path place (Flag false) (Flag true ∷ []) (refl, tt))
first-atom path place (Numbers []) o h is = absurd (omega (arith, h.0))
first-atom path place (Numbers (n ∷ ns)) o h is = subst (λ o. is_no (option_map_or (λ v. known_over (map (λ x. passes Equal x v) (param_cells path place (Numbers (n ∷ ns))))) o No) ≡ first_value_fails path place (Numbers (n ∷ ns))) is (listed-fails path place (Number n) (map Number ns) (other-numbers n ns h.1) ∙ ap (λ m. not (list_all (allows true place 0) path) && some_open path place 1 m) (less-one (map Number ns)))
first-atom path place (Range low high) o h is = subst (λ o. is_no (option_map_or (λ v. known_over (map (λ x. passes Equal x v) (param_cells path place (Range low high)))) o No) ≡ first_value_fails path place (Range low high)) is (range-fails low (range_left path place low high) (range-above path place low high))
first-atom path place (Words []) o h is = absurd (omega (arith, h.0))
first-atom path place (Words (w ∷ ws)) o h is = subst (λ o. is_no (option_map_or (λ v. known_over (map (λ x. passes Equal x v) (param_cells path place (Words (w ∷ ws))))) o No) ≡ first_value_fails path place (Words (w ∷ ws))) is (listed-fails path place (Word w) (map Word ws) (other-words w ws h.1) ∙ ap (λ m. not (list_all (allows true place 0) path) && some_open path place 1 m) (less-one (map Word ws)))

known-value : (space : Space) (path : List Step) (place : ℕ) (p : ParamSpace) (o : Option Value) → Lawful space → slice_get space.params place ≡ Some p → known space path (has_value p.name o) ≡ option_map_or (λ v. known_over (map (λ x. passes Equal x v) (param_cells path place p.domain))) o No
known-value space path place p None lawful found = known-Never space path
known-value space path place p (Some v) lawful found = known-Param space path p.name Equal v ∙ param-at path space.params 0 place place p Equal v lawful.param_names found (omega arith)

pub no-first : (space : Space) (path : List Step) (place : ℕ) (p : ParamSpace) → Lawful space → slice_get space.params place ≡ Some p → is_no (known space path (first_constraint p)) ≡ (is_no (known space path p.defined) && first_value_fails path place p.domain)
no-first space path place p lawful found =
    let at = get-some space.params place p found in
    let domain : IsLawfulDomain p.domain = (subst (IsLawfulParam space) at.1 (lawful.params place p at.0)).domain in
    ap is_no (known-Any space path (p.defined ∷ has_value p.name (first_value p.domain) ∷ []))
    ∙ no-either (known space path p.defined) (known space path (has_value p.name (first_value p.domain)))
    ∙ ap (λ k. is_no (known space path p.defined) && is_no k) (known-value space path place p (first_value p.domain) lawful found)
    ∙ ap (λ b. is_no (known space path p.defined) && b) (first-atom path place p.domain (first_value p.domain) domain refl)

pub lawful-domain : (space : Space) (place : ℕ) (p : ParamSpace) → Lawful space → slice_get space.params place ≡ Some p → IsLawfulDomain p.domain
lawful-domain space place p lawful found = let at = get-some space.params place p found in (subst (IsLawfulParam space) at.1 (lawful.params place p at.0)).domain

-- ---- what is left of a variable that wasn't split

children-left : (path : List Step) (place : ℕ) (d : Domain) → children_of path place d ≡ values_left path place d
children-left path place Flags = refl
children-left path place (Numbers ns) = refl
children-left path place (Range low high) = refl
children-left path place (Words ws) = refl

same-count : {X : Type 0} (f g : X → ℕ) (n : ℕ) (o : Option X) → ((x : X) → f x ≡ g x) → option_map_or (λ m. m == n) (option_map f o) false ≡ option_map_or (λ x. g x == n) o false
same-count f g n None h = refl
same-count f g n (Some x) h = ap (λ m. m == n) (h x)

pub params-left : (space : Space) (path : List Step) (place parts : ℕ) → is_unsplit path true place ≡ true → option_map_or (λ cells. cells == parts) (cells_left space path true place) false ≡ option_map_or (λ p. values_left path place p.domain == parts) (slice_get space.params place) false
params-left space path place parts h = same-count (λ p. length (param_cells path place p.domain)) (λ p. values_left path place p.domain) parts (slice_get space.params place) (λ p. values-unsplit path place p.domain h ∙ children-left path place p.domain)

pub exts-left : (space : Space) (path : List Step) (place parts : ℕ) → is_unsplit path false place ≡ true → option_map_or (λ cells. cells == parts) (cells_left space path false place) false ≡ option_map_or (λ e. length (choices_of e) == parts) (slice_get space.extensions place) false
exts-left space path place parts h = same-count (λ e. length (ext_cells path place e)) (λ e. length (choices_of e)) parts (slice_get space.extensions place) (λ e. choices-unsplit path place e h)

-- ---- counts of numbers

eq-by : (a b m n : ℕ) → (a ≡ b → m ≡ n) → (m ≡ n → a ≡ b) → (a == b) ≡ (m == n)
eq-by a b m n f g = ⊎_elim (λ (e : a ≡ b). rw (eq-eqb a b e, eq-eqb m n (f e)) refl) (λ (ne : a ≡ b → ⊥). rw (ne_eqb a b ne, ne_eqb m n (λ e. ne (g e))) refl) (cases_eq a b)

pub numbers-count : (low high parts : ℕ) → low ≤ high → 1 ≤ parts → (high - low == parts - 1) ≡ (length (range_with_len low (high + 1 - low)) == parts)
numbers-count low high parts le some =
    eq-by (high - low) (parts - 1) (length (range_with_len low (high + 1 - low))) parts (λ e. omega (arith, e, length-range_with_len low (high + 1 - low))) (λ e. omega (arith, e, length-range_with_len low (high + 1 - low)))

pub no-numbers : (low high : ℕ) → low ≤ high → 1 ≤ length (range_with_len low (high + 1 - low))
no-numbers low high le = omega (arith, length-range_with_len low (high + 1 - low))

-- ---- choices looked at one after another

pub open-turn : (path : List Step) (place n count : ℕ) → n < count → list_all (allows true place n) path ≡ false → some_open path place (n + 1) (count - (n + 1)) ≡ some_open path place n (count - n)
open-turn path place n count lt h = let more : count - n ≡ suc (count - (n + 1)) = omega arith in sym (ap (some_open path place n) more ∙ rw h refl)

pub open-found : (path : List Step) (place n count : ℕ) → n < count → list_all (allows true place n) path ≡ true → some_open path place n (count - n) ≡ true
open-found path place n count lt h = let more : count - n ≡ suc (count - (n + 1)) = omega arith in ap (some_open path place n) more ∙ rw h refl

pub open-none : (path : List Step) (place n count : ℕ) → count ≤ n → some_open path place n (count - n) ≡ false
open-none path place n count le = let none : count - n ≡ 0 = omega arith in ap (some_open path place n) none

pub ruleset open_laws = (open-turn, open-found, open-none)

pub ruleset node_laws = (no-ext, no-needs, no-first, lawful-domain)

pub ruleset count_laws = (params-left, exts-left, numbers-count, no-numbers)
