-- Constraints looked at one after another, and what is left under one more step.
use Rattle.std.proofs.Common.{◌≡◌, ℕ, zero, suc, ◌+◌, ◌*◌, ◌-◌, ◌<◌, ◌≤◌, ◌==◌, nat_lt, nat_le, min, max, Bool, true, false, ◌&&◌, List, [], ◌∷◌, ◌++◌, map, length, get_or, Option, None, Some, Contains, slice_get, refl, sym, ap, ◌∙◌, cond, subst, arith, ⊎_elim, inl, inr, ◌⊎◌}
use Rattle.std.specs.List.{list_all, range_with_len}
use Rattle.std.specs.Option.{option_map_or, option_and_then}
use Rattle.std.proofs.lemmas.Bool.{cases_lt, le-leb, leb-true, lt-leb}
use Rattle.std.proofs.lemmas.List.{length-map, length-append, get_or-map}
use Rattle.std.proofs.lemmas.List.FromFn.{length-range_with_len, get_or-range_with_len}
use Rattle.std.proofs.lemmas.Option.{slice_get_read}
use Rattle.udb_base.specs.declared.versions.Version.{Version}
use Rattle.udb_base.specs.declared.conditions.Value.{Value}
use Rattle.udb_base.specs.declared.conditions.Value.TheVariants.{Number}
use Rattle.udb_base.specs.declared.conditions.Cond.{Cond}
use Rattle.udb_base.specs.declared.refutations.Known.{Known}
use Rattle.udb_base.specs.declared.refutations.Known.TheVariants.{No}
use Rattle.udb_base.specs.declared.refutations.Partial.{Partial}
use Rattle.udb_base.specs.declared.spaces.Domain.{Domain}
use Rattle.udb_base.specs.declared.spaces.Domain.TheVariants.{Flags, Numbers, Range, Words}
use Rattle.udb_base.specs.declared.spaces.ExtSpace.{ExtSpace}
use Rattle.udb_base.specs.declared.spaces.ParamSpace.{ParamSpace}
use Rattle.udb_base.specs.declared.spaces.Space.{Space}
use Rattle.udb_base.specs.declared.spaces.Full.{Full}
use Rattle.udb_spec.specs.Conditions.{holds}
use Rattle.udb_spec.specs.Constraints.{ext_constraint, param_constraints, constraints, numbered}
use Rattle.udb_spec.specs.Cells.{Step, Child, Below, From, allows, kept, choices_of, values_of, numbers_of, range_of, child_of, narrowed, range_left, param_cells, ExtsWithin, ParamsWithin, Within}
use Rattle.udb_spec.specs.Known.{is_no, known}
use Rattle.udb_base.specs.declared.refutations.Proof.{Proof}
use Rattle.udb_base.specs.declared.refutations.Proof.TheVariants as p
use Rattle.udb_spec.specs.Refutes.{is_leaf, is_split, is_cut, each_refutes, refutes_under}
use Rattle.udb_spec.specs.RefutesLaws.{refutes-Leaf, refutes-Split, refutes-Cut}
use Rattle.udb_refute.specs.declared.choices.Choice.TheVariants.{Split, Cut}
use Rattle.udb_refute.specs.declared.search.Found.TheVariants.{Completion}
use Rattle.udb_refute.specs.Search.{Hold, Holding, own_count, space_count, number_at, HoldBefore, IsChoice, IsFound}
use Rattle.udb_refute.proofs.PathLaws.{both-left, both-right, both-true}

-- ---- constraints by their positions

length-params : (ps : List ParamSpace) → length (param_constraints ps) ≡ 2 * length ps
length-params [] = refl
length-params (p ∷ ps) = omega (arith, length-params ps)

pub length-all : (space : Space) (part : Partial) (asked : Cond) → length (constraints space part asked) ≡ space_count space + own_count part
length-all space part asked =
    omega (arith, length-append (map ext_constraint space.extensions) (param_constraints space.params ++ (part.constraints ++ asked ∷ [])), length-append (param_constraints space.params) (part.constraints ++ asked ∷ []), length-append part.constraints (asked ∷ []), length-map space.extensions ext_constraint, length-params space.params)

get-any : {X : Type 0} (xs : List X) (i : ℕ) (d e : X) → i < length xs → get_or xs i d ≡ get_or xs i e
get-any [] i d e lt = absurd (omega arith)
get-any (x ∷ xs) zero d e lt = refl
get-any (x ∷ xs) (suc i) d e lt = get-any xs i d e (omega arith)

own-number : (space : Space) (part : Partial) (k : ℕ) → space_count space ≤ k → k < space_count space + own_count part → number_at space part (k + 1 - space_count space) ≡ suc k
own-number space part k le lt =
    let sum : space_count space + (k + 1 - space_count space) ≡ suc k = omega arith in
    rw (le-leb (k + 1 - space_count space) (own_count part) (omega arith)) sum

space-number : (space : Space) (part : Partial) (k : ℕ) → number_at space part (k + 1 + own_count part) ≡ suc k
space-number space part k =
    let less : k + 1 + own_count part - own_count part ≡ suc k = omega arith in
    rw (lt-leb (k + 1 + own_count part) (own_count part) (omega arith)) less

module _ (space : Space) (part : Partial) (asked : Cond) (path : List Step) where
  abbrev C : List Cond
  C = constraints space part asked

  -- one more position
  pub hold-more : (n : ℕ) (o : Option Cond) → o ≡ numbered (constraints space part asked) (number_at space part n) → 1 ≤ n → ((full : Full) → Within space path full → Holding space full o) → HoldBefore space part asked path (n - 1) → HoldBefore space part asked path (n + 1 - 1)
  hold-more n o found some holding before full w p ge le =
      ⊎_elim
      (λ (lt : p < n). before full w p ge (omega arith))
      (λ (at : n ≤ p). let here : n ≡ p = omega arith in subst (λ m. Holding space full (numbered C (number_at space part m))) here (subst (Holding space full) found (holding full w)))
      (cases_lt p n)

  pub hold-none : (n : ℕ) (o : Option Cond) → o ≡ numbered (constraints space part asked) (number_at space part n) → o ≡ None → 1 ≤ n → HoldBefore space part asked path (n - 1) → HoldBefore space part asked path (n + 1 - 1)
  hold-none n o found none some before = hold-more n o found some (λ full w. subst (Holding space full) (sym none) tt) before

  pub hold-some : (n : ℕ) (o : Option Cond) (c : Cond) → o ≡ numbered (constraints space part asked) (number_at space part n) → o ≡ Some c → 1 ≤ n → ((full : Full) → Within space path full → holds space full c ≡ true) → HoldBefore space part asked path (n - 1) → HoldBefore space part asked path (n + 1 - 1)
  hold-some n o c found is some yes_ before = hold-more n o found some (λ full w. subst (Holding space full) (sym is) (yes_ full w)) before

  at-number : (full : Full) (k : ℕ) (d : Cond) (n : ℕ) → n ≡ suc k → k < length (constraints space part asked) → Holding space full (numbered (constraints space part asked) n) → holds space full (get_or (constraints space part asked) k d) ≡ true
  at-number full k d n is lt h =
      let c = get_or C k d in
      let there : slice_get C k ≡ Some c = slice_get_read C (length C) k c refl lt (get-any C k d c lt) in
      subst (Holding space full) there (subst (λ m. Holding space full (numbered C m)) is h)

  -- past the last position all hold
  pub hold-all : (n : ℕ) → HoldBefore space part asked path n → space_count space + own_count part ≤ n → (full : Full) → Within space path full → Hold space full (constraints space part asked)
  hold-all n before le full w k d lt =
      let total = length-all space part asked in
      ⊎_elim
      (λ (in_space : k < space_count space). at-number full k d (number_at space part (k + 1 + own_count part)) (space-number space part k) lt (before full w (k + 1 + own_count part) (omega arith) (omega arith)))
      (λ (own : space_count space ≤ k). at-number full k d (number_at space part (k + 1 - space_count space)) (own-number space part k own (omega (arith, total, lt))) lt (before full w (k + 1 - space_count space) (omega arith) (omega (arith, total, lt))))
      (cases_lt k (space_count space))

  pub leaf-fails : (n : ℕ) (c : Cond) (k : Known) → Some c ≡ numbered (constraints space part asked) n → k ≡ known space path c → k ≡ No → is_leaf space part asked path n ≡ true
  leaf-fails n c k found is no_ = ap (λ o. option_map_or (λ x. is_no (known space path x)) o false) (sym found) ∙ ap is_no (sym is ∙ no_)

-- ---- what is within more steps is within fewer

cases-at : {X : Type 0} (x : X) (xs : List X) (y : X) (k : ℕ) → k < length (x ∷ xs) → get_or (x ∷ xs) k y ≡ y → (x ≡ y) ⊎ Contains xs y
cases-at x xs y zero lt is = inl is
cases-at x xs y (suc k) lt is = inr (k, omega (arith, lt), is)

later : {X : Type 0} (x : X) (xs : List X) (y : X) → Contains xs y → Contains (x ∷ xs) y
later x xs y h = (suc h.0, omega (arith, h.1), h.2)

among-if : {X : Type 0} (a b : Bool) (x : X) (xs ys : List X) (y : X) → (Contains xs y → Contains ys y) → Contains (cond (a && b) (x ∷ xs) xs) y → Contains (cond b (x ∷ ys) ys) y
among-if true true x xs ys y f h = ⊎_elim (λ (is : x ≡ y). (0, omega arith, is)) (λ (r : Contains xs y). later x ys y (f r)) (cases-at x xs y h.0 h.1 h.2)
among-if true false x xs ys y f h = f h
among-if false true x xs ys y f h = later x ys y (f h)
among-if false false x xs ys y f h = f h

kept-within : {X : Type 0} (s : Step) (path : List Step) (param : Bool) (place n : ℕ) (xs : List X) (y : X) → Contains (kept (s ∷ path) param place n xs) y → Contains (kept path param place n xs) y
kept-within s path param place n [] y h = h
kept-within s path param place n (x ∷ xs) y h = among-if (allows param place n s) (list_all (allows param place n) path) x (kept (s ∷ path) param place (n + 1) xs) (kept path param place (n + 1) xs) y (kept-within s path param place (n + 1) xs y) h

pub number-of : (low n : ℕ) (y : Value) → Contains (map Number (range_with_len low n)) y → (m : ℕ) × (low ≤ m) × (m < low + n) × (Number m ≡ y)
number-of low n y h =
    let short : h.0 < n = omega (arith, h.1, length-map (range_with_len low n) Number, length-range_with_len low n) in
    (low + h.0, omega arith, omega arith, sym (get_or-map Number (range_with_len low n) h.0 0 y (omega (arith, length-range_with_len low n)) ∙ ap Number (get_or-range_with_len low n h.0 0 short)) ∙ h.2)

number-in : (low n m : ℕ) → low ≤ m → m < low + n → Contains (map Number (range_with_len low n)) (Number m)
number-in low n m a b =
    let k : ℕ = m - low in
    let lt : k < length (range_with_len low n) = omega (arith, length-range_with_len low n) in
    let is : low + k ≡ m = omega arith in
    (k, omega (arith, lt, length-map (range_with_len low n) Number), get_or-map Number (range_with_len low n) k 0 (Number m) lt ∙ ap Number (get_or-range_with_len low n k 0 (omega arith) ∙ is))

-- some numbers from low to high
wider : (first last low high : ℕ) (y : Value) → low ≤ first → last ≤ high → Contains (map Number (range_with_len first (last + 1 - first))) y → Contains (map Number (range_with_len low (high + 1 - low))) y
wider first last low high y a b h = let m = number-of first (last + 1 - first) y h in subst (Contains (map Number (range_with_len low (high + 1 - low)))) m.3 (number-in low (high + 1 - low) m.0 (omega (arith, m.1)) (omega (arith, m.1, m.2)))

wider-if : (b : Bool) (first last low high : ℕ) (y : Value) → low ≤ first → (b ≡ true → last ≤ high) → Contains (map Number (numbers_of (cond b (Some (first, last)) None))) y → Contains (map Number (range_with_len low (high + 1 - low))) y
wider-if true first last low high y a f h = wider first last low high y a (f refl) h
wider-if false first last low high y a f h = absurd (omega (arith, h.1))

either-if : (b : Bool) (o : Option (ℕ × ℕ)) (ends : ℕ × ℕ) (y : Value) → (Contains (map Number (numbers_of o)) y → Contains (map Number (numbers_of (Some ends))) y) → Contains (map Number (numbers_of (cond b o (Some ends)))) y → Contains (map Number (numbers_of (Some ends))) y
either-if true o ends y f h = f h
either-if false o ends y f h = h

narrowed-within : (s : Step) (i : ℕ) (ends : ℕ × ℕ) (y : Value) → Contains (map Number (numbers_of (narrowed i s ends))) y → Contains (map Number (numbers_of (Some ends))) y
narrowed-within (Child q p k) i ends y h = either-if (q && (p == i)) (child_of k ends) ends y (wider-if (nat_le (ends.0 + k) ends.1) (ends.0 + k) (ends.0 + k) ends.0 ends.1 y (omega arith) (leb-true (ends.0 + k) ends.1)) h
narrowed-within (Below p at) i ends y h = either-if (p == i) (cond (nat_lt ends.0 at) (Some (ends.0, min ends.1 (at - 1))) None) ends y (wider-if (nat_lt ends.0 at) ends.0 (min ends.1 (at - 1)) ends.0 ends.1 y (omega arith) (λ _. omega arith)) h
narrowed-within (From p at) i ends y h = either-if (p == i) (range_of (max ends.0 at) ends.1) ends y (wider-if (nat_le (max ends.0 at) ends.1) (max ends.0 at) ends.1 ends.0 ends.1 y (omega arith) (λ _. omega arith)) h

step-within : (s : Step) (i : ℕ) (o : Option (ℕ × ℕ)) (y : Value) → Contains (map Number (numbers_of (option_and_then (narrowed i s) o))) y → Contains (map Number (numbers_of o)) y
step-within s i None y h = h
step-within s i (Some ends) y h = narrowed-within s i ends y h

cells-within : (s : Step) (path : List Step) (i : ℕ) (d : Domain) (y : Value) → Contains (param_cells (s ∷ path) i d) y → Contains (param_cells path i d) y
cells-within s path i Flags y h = kept-within s path true i 0 (values_of Flags) y h
cells-within s path i (Numbers ns) y h = kept-within s path true i 0 (values_of (Numbers ns)) y h
cells-within s path i (Words ws) y h = kept-within s path true i 0 (values_of (Words ws)) y h
cells-within s path i (Range low high) y h = step-within s i (range_left path i low high) y h

exts-within : (s : Step) (path : List Step) (n : ℕ) (es : List ExtSpace) (cs : List (Option Version)) → ExtsWithin (s ∷ path) n es cs → ExtsWithin path n es cs
exts-within s path n [] [] w = tt
exts-within s path n [] (c ∷ cs) w = absurd w
exts-within s path n (e ∷ es) [] w = absurd w
exts-within s path n (e ∷ es) (c ∷ cs) w = (kept-within s path false n 0 (choices_of e) c w.0, exts-within s path (n + 1) es cs w.1)

params-within : (s : Step) (path : List Step) (n : ℕ) (ps : List ParamSpace) (xs : List Value) → ParamsWithin (s ∷ path) n ps xs → ParamsWithin path n ps xs
params-within s path n [] [] w = tt
params-within s path n [] (x ∷ xs) w = absurd w
params-within s path n (p ∷ ps) [] w = absurd w
params-within s path n (p ∷ ps) (x ∷ xs) w = (cells-within s path n p.domain x w.0, params-within s path (n + 1) ps xs w.1)

pub within-more : (space : Space) (s : Step) (path : List Step) (full : Full) → Within space (s ∷ path) full → Within space path full
within-more space s path full w = record { extensions = exts-within s path 0 space.extensions full.extensions w.extensions; params = params-within s path 0 space.params full.params w.params }

pub hold-under : (space : Space) (part : Partial) (asked : Cond) (s : Step) (path : List Step) (n : ℕ) → HoldBefore space part asked path n → HoldBefore space part asked (s ∷ path) n
hold-under space part asked s path n before full w = before full (within-more space s path full w)

-- ---- proofs built on the way back

module _ (space : Space) (part : Partial) (asked : Cond) (path : List Step) where
  abbrev R : Proof → List Step → Bool
  R = refutes_under space part asked

  pub leaf-right : (number : ℕ) → is_leaf space part asked path number ≡ true → refutes_under space part asked (p.Leaf number) path ≡ true
  leaf-right number e = refutes-Leaf space part asked number path ∙ e

  each-more : (parts : List Proof) (proof : Proof) (param : Bool) (place n : ℕ) → each_refutes (map R parts) param place n path ≡ true → refutes_under space part asked proof (Child param place (n + length parts) ∷ path) ≡ true → each_refutes (map R (parts ++ proof ∷ [])) param place n path ≡ true
  each-more [] proof param place n e r = let at : n + 0 ≡ n = omega arith in both-true (R proof (Child param place n ∷ path)) true (subst (λ m. R proof (Child param place m ∷ path) ≡ true) at r) refl
  each-more (x ∷ xs) proof param place n e r =
      let at : n + suc (length xs) ≡ n + 1 + length xs = omega arith in
      let first = both-left (R x (Child param place n ∷ path)) (each_refutes (map R xs) param place (n + 1) path) e in
      both-true (R x (Child param place n ∷ path)) (each_refutes (map R (xs ++ proof ∷ [])) param place (n + 1) path) first
      (each-more xs proof param place (n + 1) (both-right (R x (Child param place n ∷ path)) (each_refutes (map R xs) param place (n + 1) path) e) (subst (λ m. R proof (Child param place m ∷ path) ≡ true) at r))

  pub part-more : (parts : List Proof) (proof : Proof) (param : Bool) (place child : ℕ) → each_refutes (map (refutes_under space part asked) parts) param place 0 path ≡ true → length parts ≡ child → refutes_under space part asked proof (Child param place child ∷ path) ≡ true → each_refutes (map (refutes_under space part asked) (parts ++ proof ∷ [])) param place 0 path ≡ true
  part-more parts proof param place child e len r = let at : child ≡ 0 + length parts = omega (arith, len) in each-more parts proof param place 0 e (subst (λ m. R proof (Child param place m ∷ path) ≡ true) at r)

  pub split-right : (param : Bool) (place count : ℕ) (parts : List Proof) → IsChoice space path (Split param place count) → length parts ≡ count → each_refutes (map (refutes_under space part asked) parts) param place 0 path ≡ true → refutes_under space part asked (p.Split param place parts) path ≡ true
  split-right param place count parts choice len e =
      refutes-Split space part asked param place parts path
      ∙ both-true (is_split space path param place (length parts)) (each_refutes (map R parts) param place 0 path) (ap (is_split space path param place) len ∙ choice.0) e

  pub cut-right : (place at : ℕ) (below from : Proof) → IsChoice space path (Cut place at) → refutes_under space part asked below (Below place at ∷ path) ≡ true → refutes_under space part asked from (From place at ∷ path) ≡ true → refutes_under space part asked (p.Cut place at below from) path ≡ true
  cut-right place at below from choice low high =
      refutes-Cut space part asked place at below from path
      ∙ both-true (is_cut space path place at) _ choice (both-true (R below (Below place at ∷ path)) (R from (From place at ∷ path)) low high)

  pub found-under : (s : Step) (full : Full) → IsFound space part asked (s ∷ path) (Completion full) → IsFound space part asked path (Completion full)
  found-under s full h = (within-more space s path full h.0, h.1)

pub ruleset found_laws = (leaf-right, part-more, split-right, cut-right, found-under, hold-under)
