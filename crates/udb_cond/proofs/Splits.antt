-- A full configuration within a path is within one of the path's continuations.
use Rattle.std.proofs.Common.{◌≡◌, ◌⊎◌, inl, inr, ℕ, zero, suc, ◌+◌, ◌-◌, ◌<◌, ◌≤◌, ◌==◌, min, max, Bool, true, false, not, ◌&&◌, List, [], ◌∷◌, map, Option, Some, None, IfSome, Contains, length, get_or, refl, sym, ap, ◌∙◌, cond, subst, arith, ⊎_elim}
use Rattle.std.specs.List.{AllZip, list_all, slice_get, range_with_len}
use Rattle.std.specs.Option.{option_and_then}
use Rattle.std.proofs.lemmas.Bool.{cases_lt, eq-eqb, ne_eqb, lt-ltb, le-leb}
use Rattle.std.proofs.lemmas.List.{get_or-map, length-map}
use Rattle.std.proofs.lemmas.List.FromFn.{length-range_with_len, get_or-range_with_len}
use Rattle.std.proofs.lemmas.Option.{same_Some, none-some}
use Rattle.udb_base.specs.declared.versions.Version.{Version}
use Rattle.udb_base.specs.declared.conditions.Value.{Value}
use Rattle.udb_base.specs.declared.conditions.Value.TheVariants.{Flag, Number, Word}
use Rattle.udb_base.specs.declared.spaces.Domain.{Domain}
use Rattle.udb_base.specs.declared.spaces.Domain.TheVariants.{Flags, Numbers, Range, Words}
use Rattle.udb_base.specs.declared.spaces.ExtSpace.{ExtSpace}
use Rattle.udb_base.specs.declared.spaces.ParamSpace.{ParamSpace}
use Rattle.udb_base.specs.declared.spaces.Space.{Space}
use Rattle.udb_base.specs.declared.spaces.Full.{Full}
use Rattle.udb_base.specs.declared.versions.Listed.{Listed}
use Rattle.udb_spec.specs.Versions.{IsListed}
use Rattle.udb_spec.specs.Spaces.{InDomain}
use Rattle.udb_spec.specs.Constraints.{IsInDomains}
use Rattle.udb_spec.specs.Cells.{Step, Child, Below, From, choices_of, values_of, allows, kept, numbers_of, narrowed, range_of, range_left, ext_cells, param_cells, ExtsWithin, ParamsWithin, Within}

cases-at : {X : Type 0} (x : X) (xs : List X) (y : X) (k : ℕ) → k < length (x ∷ xs) → get_or (x ∷ xs) k y ≡ y → (x ≡ y) ⊎ Contains xs y
cases-at x xs y zero lt is = inl is
cases-at x xs y (suc k) lt is = inr (k, omega (arith, lt), is)

here : {X : Type 0} (x : X) (xs : List X) (y : X) → x ≡ y → Contains (x ∷ xs) y
here x xs y is = (0, omega arith, is)

-- the step leaves the choices of a variable as they are
abbrev Leaves : Step → Bool → ℕ → Type 0
Leaves s param place = (n : ℕ) → allows param place n s ≡ true

kept-other : {X : Type 0} (s : Step) (param : Bool) (place : ℕ) → Leaves s param place → (path : List Step) (n : ℕ) (xs : List X) → kept (s ∷ path) param place n xs ≡ kept path param place n xs
kept-other s param place leaves path n [] = refl
kept-other s param place leaves path n (x ∷ xs) = rw (leaves n, kept-other s param place leaves path (n + 1) xs) refl

child-apart : (param q : Bool) (place p k : ℕ) → (cond param q (not q) && (p == place)) ≡ false → Leaves (Child q p k) param place
child-apart param q place p k apart n = rw apart refl

child-at : (param : Bool) (place n k : ℕ) → allows param place n (Child param place k) ≡ (n == k)
child-at true place n k = rw (eq-eqb place place refl) refl
child-at false place n k = rw (eq-eqb place place refl) refl

-- a choice that a path leaves is one of its children
abbrev Own : {X : Type 0} → Bool → ℕ → List Step → ℕ → List X → X → Type 0
Own param place path n xs y = (k : ℕ) × (n ≤ k) × (k < n + length xs) × Contains (kept (Child param place k ∷ path) param place n xs) y

own-later : {X : Type 0} (param : Bool) (place : ℕ) (path : List Step) (n : ℕ) (x : X) (xs : List X) (y : X) → Own param place path (n + 1) xs y → Own param place path n (x ∷ xs) y
own-later param place path n x xs y own =
    let skip : kept (Child param place own.0 ∷ path) param place n (x ∷ xs) ≡ kept (Child param place own.0 ∷ path) param place (n + 1) xs = rw (child-at param place n own.0) (rw (ne_eqb n own.0 (λ e. omega (arith, own.1))) refl) in
    (own.0, omega (arith, own.1), omega (arith, own.2), subst (λ ys. Contains ys y) (sym skip) own.3)

own-step : {X : Type 0} (param : Bool) (place : ℕ) (path : List Step) (n : ℕ) (x : X) (xs : List X) (y : X) (t : Bool) → list_all (allows param place n) path ≡ t → Contains (cond t (x ∷ kept path param place (n + 1) xs) (kept path param place (n + 1) xs)) y → (Contains (kept path param place (n + 1) xs) y → Own param place path (n + 1) xs y) → Own param place path n (x ∷ xs) y
own-step param place path n x xs y false e h rest = own-later param place path n x xs y (rest h)
own-step param place path n x xs y true e h rest =
    ⊎_elim
    (λ (is : x ≡ y).
    let first : kept (Child param place n ∷ path) param place n (x ∷ xs) ≡ x ∷ kept (Child param place n ∷ path) param place (n + 1) xs = rw (child-at param place n n) (rw (eq-eqb n n refl) (rw e refl)) in
    (n, omega arith, omega arith, subst (λ ys. Contains ys y) (sym first) (here x (kept (Child param place n ∷ path) param place (n + 1) xs) y is)))
    (λ (among : Contains (kept path param place (n + 1) xs) y). own-later param place path n x xs y (rest among))
    (cases-at x (kept path param place (n + 1) xs) y h.0 h.1 h.2)

kept-own : {X : Type 0} (param : Bool) (place : ℕ) (path : List Step) (n : ℕ) (xs : List X) (y : X) → Contains (kept path param place n xs) y → Own param place path n xs y
kept-own param place path n [] y h = absurd (omega (arith, h.1))
kept-own param place path n (x ∷ xs) y h = own-step param place path n x xs y (list_all (allows param place n) path) refl h (kept-own param place path (n + 1) xs y)

exts-other : (s : Step) (path : List Step) (place : ℕ) (es : List ExtSpace) (cs : List (Option Version)) → ((p : ℕ) → place ≤ p → Leaves s false p) → ExtsWithin path place es cs → ExtsWithin (s ∷ path) place es cs
exts-other s path place [] [] leaves w = tt
exts-other s path place [] (c ∷ cs) leaves w = absurd w
exts-other s path place (e ∷ es) [] leaves w = absurd w
exts-other s path place (e ∷ es) (c ∷ cs) leaves w =
    (subst (λ xs. Contains xs c) (sym (kept-other s false place (leaves place (omega arith)) path 0 (choices_of e))) w.0, exts-other s path (place + 1) es cs (λ p le. leaves p (omega arith)) w.1)

-- a full configuration is within some child of an extension
pub ext-split : (path : List Step) (place at : ℕ) (es : List ExtSpace) (cs : List (Option Version)) (i : ℕ) (e : ExtSpace) → place + i ≡ at → slice_get es i ≡ Some e → ExtsWithin path place es cs → (k : ℕ) × (k < length (choices_of e)) × ExtsWithin (Child false at k ∷ path) place es cs
ext-split path place at [] cs i e sum found w = absurd (none-some e found)
ext-split path place at (f ∷ es) [] i e sum found w = absurd w
ext-split path place at (f ∷ es) (c ∷ cs) zero e sum found w =
    let own = kept-own false place path 0 (choices_of f) c w.0 in
    let same : f ≡ e = same_Some f e found in
    let here_ : place ≡ at = omega arith in
    let later : ExtsWithin (Child false place own.0 ∷ path) (place + 1) es cs = exts-other (Child false place own.0) path (place + 1) es cs (λ p le. child-apart false false p place own.0 (ne_eqb place p (λ s. omega arith))) w.1 in
    let within : (own.0 < length (choices_of f)) × ExtsWithin (Child false place own.0 ∷ path) place (f ∷ es) (c ∷ cs) = (omega (arith, own.2), (own.3, later)) in
    (own.0, subst (λ x. own.0 < length (choices_of x)) same within.0, subst (λ t. ExtsWithin (Child false t own.0 ∷ path) place (f ∷ es) (c ∷ cs)) here_ within.1)
ext-split path place at (f ∷ es) (c ∷ cs) (suc i) e sum found w =
    let rest = ext-split path (place + 1) at es cs i e (omega arith) found w.1 in
    let first : kept (Child false at rest.0 ∷ path) false place 0 (choices_of f) ≡ kept path false place 0 (choices_of f) = kept-other (Child false at rest.0) false place (child-apart false false place at rest.0 (ne_eqb at place (λ s. omega arith))) path 0 (choices_of f) in
    (rest.0, rest.1, (subst (λ xs. Contains xs c) (sym first) w.0, rest.2))

-- the step leaves every range of the parameter at a place as it is
abbrev LeavesRange : Step → ℕ → Type 0
LeavesRange s place = (ends : ℕ × ℕ) → narrowed place s ends ≡ Some ends

range-other : (s : Step) (place : ℕ) → LeavesRange s place → (o : Option (ℕ × ℕ)) → option_and_then (narrowed place s) o ≡ o
range-other s place leaves None = refl
range-other s place leaves (Some ends) = leaves ends

cells-other : (s : Step) (path : List Step) (place : ℕ) (d : Domain) → Leaves s true place → LeavesRange s place → param_cells (s ∷ path) place d ≡ param_cells path place d
cells-other s path place Flags leaves range = kept-other s true place leaves path 0 (values_of Flags)
cells-other s path place (Numbers ns) leaves range = kept-other s true place leaves path 0 (values_of (Numbers ns))
cells-other s path place (Range low high) leaves range = ap (λ o. map Number (numbers_of o)) (range-other s place range (range_left path place low high))
cells-other s path place (Words ws) leaves range = kept-other s true place leaves path 0 (values_of (Words ws))

params-other : (s : Step) (path : List Step) (place : ℕ) (ps : List ParamSpace) (xs : List Value) → ((p : ℕ) → place ≤ p → Leaves s true p) → ((p : ℕ) → place ≤ p → LeavesRange s p) → ParamsWithin path place ps xs → ParamsWithin (s ∷ path) place ps xs
params-other s path place [] [] leaves range w = tt
params-other s path place [] (x ∷ xs) leaves range w = absurd w
params-other s path place (p ∷ ps) [] leaves range w = absurd w
params-other s path place (p ∷ ps) (x ∷ xs) leaves range w =
    (subst (λ ys. Contains ys x) (sym (cells-other s path place p.domain (leaves place (omega arith)) (range place (omega arith)))) w.0, params-other s path (place + 1) ps xs (λ q le. leaves q (omega arith)) (λ q le. range q (omega arith)) w.1)

child-range : (q : Bool) (place p k : ℕ) → (q && (p == place)) ≡ false → LeavesRange (Child q p k) place
child-range q place p k apart ends = rw apart refl

-- how many children the parameter has under a path
abbrev pub children_of : List Step → ℕ → Domain → ℕ
children_of path place (Range low high) = length (numbers_of (range_left path place low high))
children_of path place domain = length (values_of domain)

number-at : (low n : ℕ) (y : Value) (k : ℕ) → k < length (map Number (range_with_len low n)) → get_or (map Number (range_with_len low n)) k y ≡ y → (k < n) × (Number (low + k) ≡ y)
number-at low n y k lt is =
    let short : k < n = omega (arith, length-map (range_with_len low n) Number, length-range_with_len low n) in
    (short, sym (get_or-map Number (range_with_len low n) k 0 y (omega (arith, length-range_with_len low n)) ∙ ap Number (get_or-range_with_len low n k 0 short)) ∙ is)

range-own : (place : ℕ) (o : Option (ℕ × ℕ)) (x : Value) → Contains (map Number (numbers_of o)) x → (k : ℕ) × (k < length (numbers_of o)) × Contains (map Number (numbers_of (option_and_then (narrowed place (Child true place k)) o))) x
range-own place None x h = absurd (omega (arith, h.1))
range-own place (Some ends) x h =
    let at = number-at ends.0 (ends.1 + 1 - ends.0) x h.0 h.1 h.2 in
    let one : narrowed place (Child true place h.0) ends ≡ Some (ends.0 + h.0, ends.0 + h.0) = rw (eq-eqb place place refl) (rw (le-leb (ends.0 + h.0) ends.1 (omega (arith, at.0))) refl) in
    let len : ends.0 + h.0 + 1 - (ends.0 + h.0) ≡ 1 = omega arith in
    let cells : map Number (numbers_of (narrowed place (Child true place h.0) ends)) ≡ Number (ends.0 + h.0) ∷ [] = ap (λ o. map Number (numbers_of o)) one ∙ ap (λ n. map Number (range_with_len (ends.0 + h.0) n)) len in
    (h.0, omega (arith, at.0, length-range_with_len ends.0 (ends.1 + 1 - ends.0)), subst (λ ys. Contains ys x) (sym cells) (here (Number (ends.0 + h.0)) [] x at.1))

listed-own : (place : ℕ) (path : List Step) (xs : List Value) (x : Value) → Contains (kept path true place 0 xs) x → (k : ℕ) × (k < length xs) × Contains (kept (Child true place k ∷ path) true place 0 xs) x
listed-own place path xs x h = let own = kept-own true place path 0 xs x h in (own.0, omega (arith, own.2), own.3)

cells-own : (path : List Step) (place : ℕ) (d : Domain) (x : Value) → Contains (param_cells path place d) x → (k : ℕ) × (k < children_of path place d) × Contains (param_cells (Child true place k ∷ path) place d) x
cells-own path place Flags x h = listed-own place path (values_of Flags) x h
cells-own path place (Numbers ns) x h = listed-own place path (values_of (Numbers ns)) x h
cells-own path place (Range low high) x h = range-own place (range_left path place low high) x h
cells-own path place (Words ws) x h = listed-own place path (values_of (Words ws)) x h

-- a full configuration is within some child of a parameter
pub param-split : (path : List Step) (place at : ℕ) (ps : List ParamSpace) (xs : List Value) (i : ℕ) (p : ParamSpace) → place + i ≡ at → slice_get ps i ≡ Some p → ParamsWithin path place ps xs → (k : ℕ) × (k < children_of path at p.domain) × ParamsWithin (Child true at k ∷ path) place ps xs
param-split path place at [] xs i p sum found w = absurd (none-some p found)
param-split path place at (f ∷ ps) [] i p sum found w = absurd w
param-split path place at (f ∷ ps) (x ∷ xs) zero p sum found w =
    let own = cells-own path place f.domain x w.0 in
    let same : f ≡ p = same_Some f p found in
    let here_ : place ≡ at = omega arith in
    let later : ParamsWithin (Child true place own.0 ∷ path) (place + 1) ps xs = params-other (Child true place own.0) path (place + 1) ps xs (λ q le. child-apart true true q place own.0 (ne_eqb place q (λ s. omega arith))) (λ q le. child-range true q place own.0 (ne_eqb place q (λ s. omega arith))) w.1 in
    (own.0, subst (λ t. own.0 < children_of path t p.domain) here_ (subst (λ y. own.0 < children_of path place y.domain) same own.1), subst (λ t. ParamsWithin (Child true t own.0 ∷ path) place (f ∷ ps) (x ∷ xs)) here_ (own.2, later))
param-split path place at (f ∷ ps) (x ∷ xs) (suc i) p sum found w =
    let rest = param-split path (place + 1) at ps xs i p (omega arith) found w.1 in
    let apart : (true && (at == place)) ≡ false = ne_eqb at place (λ s. omega arith) in
    let first = cells-other (Child true at rest.0) path place f.domain (child-apart true true place at rest.0 apart) (child-range true place at rest.0 apart) in
    (rest.0, rest.1, (subst (λ ys. Contains ys x) (sym first) w.0, rest.2))

-- a step of a parameter leaves the extensions, and one of an extension the parameters
pub exts-beside-params : (at k : ℕ) (path : List Step) (place : ℕ) (es : List ExtSpace) (cs : List (Option Version)) → ExtsWithin path place es cs → ExtsWithin (Child true at k ∷ path) place es cs
exts-beside-params at k path place es cs w = exts-other (Child true at k) path place es cs (λ p le n. refl) w

pub params-beside-exts : (at k : ℕ) (path : List Step) (place : ℕ) (ps : List ParamSpace) (xs : List Value) → ParamsWithin path place ps xs → ParamsWithin (Child false at k ∷ path) place ps xs
params-beside-exts at k path place ps xs w = params-other (Child false at k) path place ps xs (λ p le n. refl) (λ p le ends. refl) w

-- within a space: some child of the variable at a place
pub splits-ext : (space : Space) (path : List Step) (full : Full) (at : ℕ) (e : ExtSpace) → slice_get space.extensions at ≡ Some e → Within space path full → (k : ℕ) × (k < length (choices_of e)) × Within space (Child false at k ∷ path) full
splits-ext space path full at e found w =
    let split = ext-split path 0 at space.extensions full.extensions at e (omega arith) found w.extensions in
    (split.0, split.1, record { extensions = split.2; params = params-beside-exts at split.0 path 0 space.params full.params w.params })

pub splits-param : (space : Space) (path : List Step) (full : Full) (at : ℕ) (p : ParamSpace) → slice_get space.params at ≡ Some p → Within space path full → (k : ℕ) × (k < children_of path at p.domain) × Within space (Child true at k ∷ path) full
splits-param space path full at p found w =
    let split = param-split path 0 at space.params full.params at p (omega arith) found w.params in
    (split.0, split.1, record { extensions = exts-beside-params at split.0 path 0 space.extensions full.extensions w.extensions; params = split.2 })

below-range : (place p at : ℕ) → (p == place) ≡ false → LeavesRange (Below p at) place
below-range place p at apart ends = rw apart refl

from-range : (place p at : ℕ) → (p == place) ≡ false → LeavesRange (From p at) place
from-range place p at apart ends = rw apart refl

number-in : (low n m : ℕ) → low ≤ m → m < low + n → Contains (map Number (range_with_len low n)) (Number m)
number-in low n m a b =
    let k : ℕ = m - low in
    let lt : k < length (range_with_len low n) = omega (arith, length-range_with_len low n) in
    let is : low + k ≡ m = omega arith in
    (k, omega (arith, lt, length-map (range_with_len low n) Number), get_or-map Number (range_with_len low n) k 0 (Number m) lt ∙ ap Number (get_or-range_with_len low n k 0 (omega arith) ∙ is))

-- the numbers below a bound and those from it are all numbers of a range
range-cut : (place at : ℕ) (o : Option (ℕ × ℕ)) (x : Value) → Contains (map Number (numbers_of o)) x → Contains (map Number (numbers_of (option_and_then (narrowed place (Below place at)) o))) x ⊎ Contains (map Number (numbers_of (option_and_then (narrowed place (From place at)) o))) x
range-cut place at None x h = absurd (omega (arith, h.1))
range-cut place at (Some ends) x h = ends-cut ends.0 ends.1 (number-at ends.0 (ends.1 + 1 - ends.0) x h.0 h.1 h.2) where
  ends-cut : (low high : ℕ) → (h.0 < high + 1 - low) × (Number (low + h.0) ≡ x) → Contains (map Number (numbers_of (narrowed place (Below place at) (low, high)))) x ⊎ Contains (map Number (numbers_of (narrowed place (From place at) (low, high)))) x
  ends-cut low high n =
      ⊎_elim
      (λ (l : low + h.0 < at).
      let left : narrowed place (Below place at) (low, high) ≡ Some (low, min high (at - 1)) = rw (eq-eqb place place refl) (rw (lt-ltb low at (omega arith)) refl) in
      let among : Contains (map Number (range_with_len low (min high (at - 1) + 1 - low))) (Number (low + h.0)) = number-in low (min high (at - 1) + 1 - low) (low + h.0) (omega arith) (omega (arith, n.0)) in
      inl (subst (λ o. Contains (map Number (numbers_of o)) x) (sym left) (subst (Contains (map Number (range_with_len low (min high (at - 1) + 1 - low)))) n.1 among)))
      (λ (l : at ≤ low + h.0).
      let left : narrowed place (From place at) (low, high) ≡ Some (max low at, high) = rw (eq-eqb place place refl) (rw (le-leb (max low at) high (omega (arith, n.0))) refl) in
      let among : Contains (map Number (range_with_len (max low at) (high + 1 - max low at))) (Number (low + h.0)) = number-in (max low at) (high + 1 - max low at) (low + h.0) (omega arith) (omega (arith, n.0)) in
      inr (subst (λ o. Contains (map Number (numbers_of o)) x) (sym left) (subst (Contains (map Number (range_with_len (max low at) (high + 1 - max low at)))) n.1 among)))
      (cases_lt (low + h.0) at)

listed-cut : (path : List Step) (place at : ℕ) (xs : List Value) (x : Value) → Contains (kept path true place 0 xs) x → Contains (kept (Below place at ∷ path) true place 0 xs) x ⊎ Contains (kept (From place at ∷ path) true place 0 xs) x
listed-cut path place at xs x h = inl (subst (λ ys. Contains ys x) (sym (kept-other (Below place at) true place (λ n. refl) path 0 xs)) h)

cells-cut : (path : List Step) (place at : ℕ) (d : Domain) (x : Value) → Contains (param_cells path place d) x → Contains (param_cells (Below place at ∷ path) place d) x ⊎ Contains (param_cells (From place at ∷ path) place d) x
cells-cut path place at Flags x h = listed-cut path place at (values_of Flags) x h
cells-cut path place at (Numbers ns) x h = listed-cut path place at (values_of (Numbers ns)) x h
cells-cut path place at (Range low high) x h = range-cut place at (range_left path place low high) x h
cells-cut path place at (Words ws) x h = listed-cut path place at (values_of (Words ws)) x h

pub params-cut : (path : List Step) (place to at : ℕ) (ps : List ParamSpace) (xs : List Value) (i : ℕ) → place + i ≡ to → i < length ps → ParamsWithin path place ps xs → ParamsWithin (Below to at ∷ path) place ps xs ⊎ ParamsWithin (From to at ∷ path) place ps xs
params-cut path place to at [] xs i sum lt w = absurd (omega arith)
params-cut path place to at (p ∷ ps) [] i sum lt w = absurd w
params-cut path place to at (p ∷ ps) (x ∷ xs) zero sum lt w =
    let here_ : place ≡ to = omega arith in
    let below : ParamsWithin (Below place at ∷ path) (place + 1) ps xs = params-other (Below place at) path (place + 1) ps xs (λ q le n. refl) (λ q le. below-range q place at (ne_eqb place q (λ s. omega arith))) w.1 in
    let from : ParamsWithin (From place at ∷ path) (place + 1) ps xs = params-other (From place at) path (place + 1) ps xs (λ q le n. refl) (λ q le. from-range q place at (ne_eqb place q (λ s. omega arith))) w.1 in
    ⊎_elim
    (λ (h : Contains (param_cells (Below place at ∷ path) place p.domain) x). inl (subst (λ t. ParamsWithin (Below t at ∷ path) place (p ∷ ps) (x ∷ xs)) here_ (h, below)))
    (λ (h : Contains (param_cells (From place at ∷ path) place p.domain) x). inr (subst (λ t. ParamsWithin (From t at ∷ path) place (p ∷ ps) (x ∷ xs)) here_ (h, from)))
    (cells-cut path place at p.domain x w.0)
params-cut path place to at (p ∷ ps) (x ∷ xs) (suc i) sum lt w =
    let apart : (to == place) ≡ false = ne_eqb to place (λ s. omega arith) in
    let below : param_cells (Below to at ∷ path) place p.domain ≡ param_cells path place p.domain = cells-other (Below to at) path place p.domain (λ n. refl) (below-range place to at apart) in
    let from : param_cells (From to at ∷ path) place p.domain ≡ param_cells path place p.domain = cells-other (From to at) path place p.domain (λ n. refl) (from-range place to at apart) in
    ⊎_elim
    (λ (h : ParamsWithin (Below to at ∷ path) (place + 1) ps xs). inl (subst (λ ys. Contains ys x) (sym below) w.0, h))
    (λ (h : ParamsWithin (From to at ∷ path) (place + 1) ps xs). inr (subst (λ ys. Contains ys x) (sym from) w.0, h))
    (params-cut path (place + 1) to at ps xs i (omega arith) (omega arith) w.1)

-- within a space: the numbers below a bound, or those from it
pub cuts-param : (space : Space) (path : List Step) (full : Full) (place at : ℕ) → place < length space.params → Within space path full → Within space (Below place at ∷ path) full ⊎ Within space (From place at ∷ path) full
cuts-param space path full place at lt w =
    ⊎_elim
    (λ (h : ParamsWithin (Below place at ∷ path) 0 space.params full.params). inl (record { extensions = exts-other (Below place at) path 0 space.extensions full.extensions (λ p le n. refl) w.extensions; params = h }))
    (λ (h : ParamsWithin (From place at ∷ path) 0 space.params full.params). inr (record { extensions = exts-other (From place at) path 0 space.extensions full.extensions (λ p le n. refl) w.extensions; params = h }))
    (params-cut path 0 place at space.params full.params place (omega arith) lt w.params)

-- the empty path leaves everything
kept-whole : {X : Type 0} (param : Bool) (place n : ℕ) (xs : List X) → kept [] param place n xs ≡ xs
kept-whole param place n [] = refl
kept-whole param place n (x ∷ xs) = ap (λ ys. x ∷ ys) (kept-whole param place (n + 1) xs)

listed-choice : (e : ExtSpace) (c : Option Version) → IfSome c (IsListed e.versions) → Contains (ext_cells [] 0 e) c
listed-choice e None listed = (0, omega arith, refl)
listed-choice e (Some v) listed =
    let d : Listed = record { version = v; breaking = false } in
    let lt : listed.0 < length e.versions = omega (arith, listed.1, length-map e.versions (λ l. l.version)) in
    let is : (get_or e.versions listed.0 d).version ≡ v = sym (get_or-map (λ l. l.version) e.versions listed.0 d v lt) ∙ listed.2 in
    let among : Contains (choices_of e) (Some v) = (suc listed.0, omega (arith, lt, length-map e.versions (λ l. Some l.version)), get_or-map (λ l. Some l.version) e.versions listed.0 d (Some v) lt ∙ ap Some is) in
    subst (λ xs. Contains xs (Some v)) (sym (kept-whole false 0 0 (choices_of e))) among

exts-all : (place : ℕ) (es : List ExtSpace) (cs : List (Option Version)) → AllZip (λ e c. IfSome c (IsListed e.versions)) es cs → ExtsWithin [] place es cs
exts-all place [] [] h = tt
exts-all place [] (c ∷ cs) h = absurd h
exts-all place (e ∷ es) [] h = absurd h
exts-all place (e ∷ es) (c ∷ cs) h = (subst (λ xs. Contains xs c) (kept-whole false 0 0 (choices_of e) ∙ sym (kept-whole false place 0 (choices_of e))) (listed-choice e c h.0), exts-all (place + 1) es cs h.1)

mapped-in : {X Y : Type 0} (f : X → Y) (xs : List X) (x : X) → Contains xs x → Contains (map f xs) (f x)
mapped-in f xs x h = (h.0, omega (arith, h.1, length-map xs f), get_or-map f xs h.0 x (f x) h.1 ∙ ap f h.2)

in-domain : (place : ℕ) (d : Domain) (x : Value) → InDomain d x → Contains (param_cells [] place d) x
in-domain place Flags (Flag false) h = subst (λ ys. Contains ys (Flag false)) (sym (kept-whole true place 0 (values_of Flags))) (0, omega arith, refl)
in-domain place Flags (Flag true) h = subst (λ ys. Contains ys (Flag true)) (sym (kept-whole true place 0 (values_of Flags))) (1, omega arith, refl)
in-domain place (Numbers ns) (Number n) h = subst (λ ys. Contains ys (Number n)) (sym (kept-whole true place 0 (values_of (Numbers ns)))) (mapped-in Number ns n h)
in-domain place (Range low high) (Number n) h =
    let whole : range_of low high ≡ Some (low, high) = rw (le-leb low high (omega (arith, h.0, h.1))) refl in
    subst (λ o. Contains (map Number (numbers_of o)) (Number n)) (sym whole) (number-in low (high + 1 - low) n h.0 (omega (arith, h.0, h.1)))
in-domain place (Words ws) (Word w) h = subst (λ ys. Contains ys (Word w)) (sym (kept-whole true place 0 (values_of (Words ws)))) (mapped-in Word ws w h)
in-domain place Flags (Number n) h = absurd h
in-domain place Flags (Word w) h = absurd h
in-domain place (Numbers ns) (Flag b) h = absurd h
in-domain place (Numbers ns) (Word w) h = absurd h
in-domain place (Range low high) (Flag b) h = absurd h
in-domain place (Range low high) (Word w) h = absurd h
in-domain place (Words ws) (Flag b) h = absurd h
in-domain place (Words ws) (Number n) h = absurd h

params-all : (place : ℕ) (ps : List ParamSpace) (xs : List Value) → AllZip (λ p x. InDomain p.domain x) ps xs → ParamsWithin [] place ps xs
params-all place [] [] h = tt
params-all place [] (x ∷ xs) h = absurd h
params-all place (p ∷ ps) [] h = absurd h
params-all place (p ∷ ps) (x ∷ xs) h = (in-domain place p.domain x h.0, params-all (place + 1) ps xs h.1)

pub within-all : (space : Space) (full : Full) → IsInDomains space full → Within space [] full
within-all space full within = record { extensions = exts-all 0 space.extensions full.extensions within.choices; params = params-all 0 space.params full.params within.values }
