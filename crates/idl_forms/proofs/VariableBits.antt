-- Locals by their names, and the bits of variables of an encoding.
use Rattle.std.proofs.Common.{◌≡◌, ℕ, zero, suc, ◌+◌, ◌*◌, ◌^◌, ◌%◌, ◌<◌, ◌≤◌, Bool, true, false, List, [], ◌∷◌, ◌++◌, Option, None, Some, length, get_or, set, take, drop, refl, sym, ap, ◌∙◌, subst, arith}
use Rattle.std.specs.Prelude.{sum_by, is_some, if◌then◌else◌}
use Rattle.std.specs.Int.RustNames.{bit_or}
use Rattle.std.proofs.lemmas.Bool.{false≢true}
use Rattle.std.proofs.lemmas.Option.{none-some}
use Rattle.std.proofs.lemmas.List.{drop_more}
use Rattle.std.proofs.lemmas.Grind.{take_at_read}
use Rattle.std.proofs.lemmas.List.Sums.{sum_by-cons}
use Rattle.std.proofs.lemmas.Nat.{pow-add, pow_pos, mul-add-lt, or_shifted}
use Rattle.std.proofs.Math.Nat.{add-mul, mul_assoc, mul_comm, add_assoc, pow-le-pow_right, le-mul_of_pos_right}
use Rattle.udb_spec.specs.Conditions.{same_bytes}
use Rattle.idl_tree.specs.declared.programs.BitPart.{BitPart}
use Rattle.idl_spec.specs.Values.{Value}
use Rattle.idl_spec.specs.Shapes.{or_else, innermost}
use Rattle.idl_spec.specs.Fields.{part_width, bits_at, gathered}
use Rattle.idl_spec.specs.Settings.{Scope}
use Rattle.idl_spec.specs.Mean.{assigned}
use Rattle.idl_forms.specs.declared.values.Local.{Local}
use Rattle.idl_forms.specs.States.{as_scalar, scope_of}

-- ---- the innermost of a name

pub or-else-none : {A : Type 0} (x : Option A) → or_else x None ≡ x
or-else-none None = refl
or-else-none (Some a) = refl

pub or-else-assoc : {A : Type 0} (x y z : Option A) → or_else (or_else x y) z ≡ or_else x (or_else y z)
or-else-assoc None y z = refl
or-else-assoc (Some a) y z = refl

innermost-last : (ps : Scope) (p : List ℕ × Value) (name : List ℕ) → innermost (ps ++ p ∷ []) name ≡ or_else (if same_bytes p.0 name then Some p.1 else None) (innermost ps name)
innermost-last [] p name = sym (or-else-none (if same_bytes p.0 name then Some p.1 else None))
innermost-last (q ∷ ps) p name =
    ap (λ x. or_else x (if same_bytes q.0 name then Some q.1 else None)) (innermost-last ps p name)
    ∙ or-else-assoc (if same_bytes p.0 name then Some p.1 else None) (innermost ps name) (if same_bytes q.0 name then Some q.1 else None)

scope-append : (ls : List Local) (l : Local) → scope_of (ls ++ l ∷ []) ≡ scope_of ls ++ (l.name, as_scalar l.value) ∷ []
scope-append [] l = refl
scope-append (m ∷ ls) l = ap (λ ps. (m.name, as_scalar m.value) ∷ ps) (scope-append ls l)

-- one more local counts before those in front of it
pub locals-more : (ls : List Local) (i : ℕ) (l : Local) (name : List ℕ) → i < length ls → l ≡ get_or ls i l
    → innermost (scope_of (take (i + 1) ls)) name ≡ or_else (if same_bytes l.name name then Some (as_scalar l.value) else None) (innermost (scope_of (take i ls)) name)
locals-more ls i l name lt is =
    let t : take (i + 1) ls ≡ take i ls ++ l ∷ [] = (take_at_read ls i l lt).1 ∙ ap (λ m. take i ls ++ m ∷ []) (sym is) in
    ap (λ ms. innermost (scope_of ms) name) t ∙ ap (λ ps. innermost ps name) (scope-append (take i ls) l)
    ∙ innermost-last (scope_of (take i ls)) (l.name, as_scalar l.value) name

pub ruleset local_steps = (locals-more)

-- ---- an assignment

or-else-first : {A : Type 0} (x y : Option A) → or_else x y ≡ None → x ≡ None
or-else-first None y h = refl
or-else-first (Some a) y h = h

or-else-second : {A : Type 0} (x y : Option A) → or_else x y ≡ None → y ≡ None
or-else-second None y h = h
or-else-second (Some a) y h = absurd (none-some a (sym h))

not-same : {A : Type 0} (b : Bool) (a : A) → (if b then Some a else None) ≡ None → b ≡ false
not-same true a h = absurd (none-some a (sym h))
not-same false a h = refl

pub assigned-nowhere : (ps : Scope) (name : List ℕ) (v : Value) → innermost ps name ≡ None → assigned ps name v ≡ ps
assigned-nowhere [] name v h = refl
assigned-nowhere (p ∷ ps) name v h =
    ap (λ o. if is_some o then p ∷ assigned ps name v else (if same_bytes p.0 name then (p.0, v) ∷ ps else p ∷ ps)) (or-else-first (innermost ps name) (if same_bytes p.0 name then Some p.1 else None) h)
    ∙ ap (λ b. if b then (p.0, v) ∷ ps else p ∷ ps) (not-same (same_bytes p.0 name) p.1 (or-else-second (innermost ps name) (if same_bytes p.0 name then Some p.1 else None) h))

some-or : {A : Type 0} (x y : Option A) → is_some x ≡ true → is_some (or_else x y) ≡ true
some-or None y h = absurd (false≢true h)
some-or (Some a) y h = refl

or-some : {A : Type 0} (x y : Option A) → is_some y ≡ true → is_some (or_else x y) ≡ true
or-some None y h = h
or-some (Some a) y h = refl

some-at : (ps : Scope) (k : ℕ) (name : List ℕ) (d : List ℕ × Value) → k < length ps → same_bytes (get_or ps k d).0 name ≡ true → is_some (innermost ps name) ≡ true
some-at [] k name d lt h = absurd (omega arith)
some-at (p ∷ ps) zero name d lt h = or-some (innermost ps name) (if same_bytes p.0 name then Some p.1 else None) (ap (λ b. is_some (if b then Some p.1 else None)) h)
some-at (p ∷ ps) (suc k) name d lt h = some-or (innermost ps name) (if same_bytes p.0 name then Some p.1 else None) (some-at ps k name d (omega arith) h)

assigned-at : (ps : Scope) (k : ℕ) (name : List ℕ) (v : Value) (d : List ℕ × Value) → k < length ps → same_bytes (get_or ps k d).0 name ≡ true → innermost (drop (suc k) ps) name ≡ None → assigned ps name v ≡ set ps k ((get_or ps k d).0, v)
assigned-at [] k name v d lt h none = absurd (omega arith)
assigned-at (p ∷ ps) zero name v d lt h none =
    ap (λ o. if is_some o then p ∷ assigned ps name v else (if same_bytes p.0 name then (p.0, v) ∷ ps else p ∷ ps)) none
    ∙ ap (λ b. if b then (p.0, v) ∷ ps else p ∷ ps) h
assigned-at (p ∷ ps) (suc k) name v d lt h none =
    ap (λ b. if b then p ∷ assigned ps name v else (if same_bytes p.0 name then (p.0, v) ∷ ps else p ∷ ps)) (some-at ps k name d (omega arith) h)
    ∙ ap (λ qs. p ∷ qs) (assigned-at ps k name v d (omega arith) h none)

scope-set : (ls : List Local) (k : ℕ) (m : Local) → scope_of (set ls k m) ≡ set (scope_of ls) k (m.name, as_scalar m.value)
scope-set [] k m = refl
scope-set (l ∷ ls) zero m = refl
scope-set (l ∷ ls) (suc k) m = ap (λ ps. (l.name, as_scalar l.value) ∷ ps) (scope-set ls k m)

scope-get : (ls : List Local) (k : ℕ) (d : Local) → get_or (scope_of ls) k (d.name, as_scalar d.value) ≡ ((get_or ls k d).name, as_scalar (get_or ls k d).value)
scope-get [] k d = refl
scope-get (l ∷ ls) zero d = refl
scope-get (l ∷ ls) (suc k) d = scope-get ls k d

scope-drop : (ls : List Local) (k : ℕ) → drop k (scope_of ls) ≡ scope_of (drop k ls)
scope-drop ls zero = refl
scope-drop [] (suc k) = refl
scope-drop (l ∷ ls) (suc k) = scope-drop ls k

scope-length : (ls : List Local) → length (scope_of ls) ≡ length ls
scope-length [] = refl
scope-length (l ∷ ls) = ap suc (scope-length ls)

-- the last local of a name takes the value
pub local-assigned : (ls : List Local) (k : ℕ) (name : List ℕ) (m l : Local) → k < length ls → l ≡ get_or ls k l → m.name ≡ l.name → same_bytes l.name name ≡ true → innermost (scope_of (drop (k + 1) ls)) name ≡ None
    → scope_of (set ls k m) ≡ assigned (scope_of ls) name (as_scalar m.value)
local-assigned ls k name m l lt is names h none =
    let d : List ℕ × Value = (l.name, as_scalar l.value) in
    let got : get_or (scope_of ls) k d ≡ d = scope-get ls k l ∙ ap (λ x. (x.name, as_scalar x.value)) (sym is) in
    let here : same_bytes (get_or (scope_of ls) k d).0 name ≡ true = ap (λ p. same_bytes p.0 name) got ∙ h in
    let next : suc k ≡ k + 1 = omega arith in
    let past : innermost (drop (suc k) (scope_of ls)) name ≡ None = ap (λ ps. innermost ps name) (scope-drop ls (suc k)) ∙ (ap (λ n. innermost (scope_of (drop n ls)) name) next ∙ none) in
    scope-set ls k m ∙ ap (λ n. set (scope_of ls) k (n, as_scalar m.value)) (names ∙ ap (λ p. p.0) (sym got))
    ∙ sym (assigned-at (scope_of ls) k name (as_scalar m.value) d (subst (λ n. k < n) (sym (scope-length ls)) lt) here past)

-- a local of another name stands in front
pub locals-back : (ls : List Local) (k : ℕ) (l : Local) (name : List ℕ) → k < length ls → l ≡ get_or ls k l → same_bytes l.name name ≡ false → innermost (scope_of (drop (k + 1) ls)) name ≡ None
    → innermost (scope_of (drop k ls)) name ≡ None
locals-back ls k l name lt is h none =
    ap (λ ms. innermost (scope_of ms) name) (drop_more ls k l lt ∙ ap (λ m. m ∷ drop (k + 1) ls) (sym is))
    ∙ ap (λ o. or_else o (if same_bytes l.name name then Some (as_scalar l.value) else None)) none ∙ ap (λ b. if b then Some (as_scalar l.value) else None) h

-- ---- the bits of a word

bits-small : (n : ℕ) (part : BitPart) → bits_at n part < 2 ^ part_width part
bits-small n part = let h : 0 < 2 ^ part_width part = pow_pos (part_width part) in omega arith

sum-more : (part : BitPart) (parts : List BitPart) → 2 ^ part_width part * 2 ^ sum_by part_width parts ≡ 2 ^ sum_by part_width (part ∷ parts)
sum-more part parts = sym (pow-add 2 (part_width part) (sum_by part_width parts)) ∙ ap (λ n. 2 ^ n) (sym (sum_by-cons part_width part parts))

-- a number in front of the bits of further parts
pub gathered-more : (word pattern : ℕ) (part : BitPart) (parts : List BitPart) → (pattern * 2 ^ part_width part + bits_at word part) * 2 ^ sum_by part_width parts + gathered word parts ≡ pattern * 2 ^ sum_by part_width (part ∷ parts) + gathered word (part ∷ parts)
gathered-more word pattern part parts =
    ap (λ n. n + gathered word parts)
    (add-mul (pattern * 2 ^ part_width part) (bits_at word part) (2 ^ sum_by part_width parts)
    ∙ ap (λ n. n + bits_at word part * 2 ^ sum_by part_width parts)
    (mul_assoc pattern (2 ^ part_width part) (2 ^ sum_by part_width parts) ∙ ap (λ n. pattern * n) (sum-more part parts)))
    ∙ add_assoc (pattern * 2 ^ sum_by part_width (part ∷ parts)) (bits_at word part * 2 ^ sum_by part_width parts) (gathered word parts)

pub gathered-small : (word : ℕ) (parts : List BitPart) → gathered word parts < 2 ^ sum_by part_width parts
gathered-small word [] = omega arith
gathered-small word (part ∷ parts) =
    subst (λ n. bits_at word part * 2 ^ sum_by part_width parts + gathered word parts < n)
    (mul_comm (2 ^ sum_by part_width parts) (2 ^ part_width part) ∙ sum-more part parts)
    (mul-add-lt (bits_at word part) (2 ^ sum_by part_width parts) (gathered word parts) (2 ^ part_width part) (bits-small word part) (gathered-small word parts))

-- what was read so far, and one more part, fit 32 bits
pub gathered-fits : (word pattern : ℕ) (part : BitPart) (parts all : List BitPart) → pattern * 2 ^ sum_by part_width (part ∷ parts) + gathered word (part ∷ parts) ≡ gathered word all → sum_by part_width all ≤ 32 → pattern * 2 ^ part_width part < 2 ^ 32
gathered-fits word pattern part parts all is few =
    let all-small : gathered word all < 2 ^ sum_by part_width all = gathered-small word all in
    let limit : 2 ^ sum_by part_width all ≤ 2 ^ 32 = pow-le-pow_right (omega arith) few in
    let more : pattern * 2 ^ part_width part ≤ pattern * 2 ^ part_width part * 2 ^ sum_by part_width parts = le-mul_of_pos_right (pattern * 2 ^ part_width part) (pow_pos (sum_by part_width parts)) in
    let same : pattern * 2 ^ part_width part * 2 ^ sum_by part_width parts ≡ pattern * 2 ^ sum_by part_width (part ∷ parts) =
    mul_assoc pattern (2 ^ part_width part) (2 ^ sum_by part_width parts) ∙ ap (λ n. pattern * n) (sum-more part parts) in
    omega arith

-- one turn: the bits of a part behind what was read so far
pub gathered-turn : (word pattern : ℕ) (all : List BitPart) (i : ℕ) (part : BitPart) → i < length all → part ≡ get_or all i part → sum_by part_width all ≤ 32
    → pattern * 2 ^ sum_by part_width (drop i all) + gathered word (drop i all) ≡ gathered word all
    → (pattern * 2 ^ part_width part < 2 ^ 32) × (bit_or (pattern * 2 ^ part_width part % 2 ^ 64) (bits_at word part) * 2 ^ sum_by part_width (drop (i + 1) all) + gathered word (drop (i + 1) all) ≡ gathered word all)
gathered-turn word pattern all i part lt at few is =
    let rest : drop i all ≡ part ∷ drop (i + 1) all = drop_more all i part lt ∙ ap (λ p. p ∷ drop (i + 1) all) (sym at) in
    let is-rest : pattern * 2 ^ sum_by part_width (part ∷ drop (i + 1) all) + gathered word (part ∷ drop (i + 1) all) ≡ gathered word all =
    subst (λ ps. pattern * 2 ^ sum_by part_width ps + gathered word ps ≡ gathered word all) rest is in
    let fits : pattern * 2 ^ part_width part < 2 ^ 32 = gathered-fits word pattern part (drop (i + 1) all) all is-rest few in
    let whole : pattern * 2 ^ part_width part % 2 ^ 64 ≡ pattern * 2 ^ part_width part = omega arith in
    let both : bit_or (pattern * 2 ^ part_width part % 2 ^ 64) (bits_at word part) ≡ pattern * 2 ^ part_width part + bits_at word part =
    ap (λ n. bit_or n (bits_at word part)) whole ∙ or_shifted pattern (part_width part) (bits_at word part) (bits-small word part) in
    (fits, ap (λ n. n * 2 ^ sum_by part_width (drop (i + 1) all) + gathered word (drop (i + 1) all)) both ∙ (gathered-more word pattern part (drop (i + 1) all) ∙ is-rest))

pub default-free : {X : Type 0} (xs : List X) (i : ℕ) (d e : X) → i < length xs → get_or xs i d ≡ get_or xs i e
default-free [] i d e lt = absurd (omega arith)
default-free (x ∷ xs) zero d e lt = refl
default-free (x ∷ xs) (suc i) d e lt = default-free xs i d e (omega arith)

pub gathered-turn-at : (word pattern w b : ℕ) (all : List BitPart) (i : ℕ) (d : BitPart) → i < length all → w ≡ part_width (get_or all i d) → b ≡ bits_at word (get_or all i d) → sum_by part_width all ≤ 32
    → pattern * 2 ^ sum_by part_width (drop i all) + gathered word (drop i all) ≡ gathered word all
    → bit_or (pattern * 2 ^ w % 2 ^ 64) b * 2 ^ sum_by part_width (drop (i + 1) all) + gathered word (drop (i + 1) all) ≡ gathered word all
gathered-turn-at word pattern w b all i d lt width bits few is =
    ap (λ n. bit_or (pattern * 2 ^ n % 2 ^ 64) b * 2 ^ sum_by part_width (drop (i + 1) all) + gathered word (drop (i + 1) all)) width
    ∙ (ap (λ n. bit_or (pattern * 2 ^ part_width (get_or all i d) % 2 ^ 64) n * 2 ^ sum_by part_width (drop (i + 1) all) + gathered word (drop (i + 1) all)) bits
    ∙ (gathered-turn word pattern all i (get_or all i d) lt (default-free all i d (get_or all i d) lt) few is).1)
