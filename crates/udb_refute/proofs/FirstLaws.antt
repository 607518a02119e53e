-- The first choices that a path leaves are within it.
use Rattle.std.proofs.Common.{◌≡◌, ◌≢◌, ℕ, suc, ◌+◌, ◌-◌, ◌<◌, ◌≤◌, ◌==◌, nat_lt, nat_le, min, max, Bool, true, false, not, ◌&&◌, ◌||◌, List, [], ◌∷◌, ◌++◌, map, length, take, get_or, Option, None, Some, slice_get, Contains, refl, sym, ap, ◌∙◌, cond, subst, arith}
use Rattle.std.specs.List.{list_any, range_with_len}
use Rattle.std.specs.Option.{option_and_then, option_map}
use Rattle.std.proofs.lemmas.Bool.{ltb-true, leb-true, false≢true}
use Rattle.std.proofs.lemmas.List.{length-take, take_more}
use Rattle.std.proofs.lemmas.Option.{none-some, same_Some, slice_get-map, slice_get_read}
use Rattle.udb_base.specs.declared.versions.Version.{Version}
use Rattle.udb_base.specs.declared.versions.Listed.{Listed}
use Rattle.udb_base.specs.declared.conditions.Value.{Value}
use Rattle.udb_base.specs.declared.conditions.Value.TheVariants.{Number}
use Rattle.udb_base.specs.declared.spaces.Domain.{Domain}
use Rattle.udb_base.specs.declared.spaces.Domain.TheVariants.{Flags, Numbers, Range, Words}
use Rattle.udb_base.specs.declared.spaces.ExtSpace.{ExtSpace}
use Rattle.udb_base.specs.declared.spaces.ParamSpace.{ParamSpace}
use Rattle.udb_base.specs.declared.spaces.Space.{Space}
use Rattle.udb_spec.specs.Cells.{Step, Child, Below, From, choices_of, values_of, numbers_of, range_of, narrowed, range_left, ext_cells, param_cells, ExtsWithin, ParamsWithin}
use Rattle.udb_spec.specs.Refutes.{splits, is_unsplit}
use Rattle.udb_refute.specs.Paths.{low_end, taken, IsTaken}
use Rattle.udb_refute.specs.Search.{is_range, IsOpen}
use Rattle.udb_refute.proofs.PathLaws.{first-kept, first-item}

-- ---- ranges that weren't split

-- the low end of what is left, where something is
abbrev pub LowIs : ℕ → Option (ℕ × ℕ) → Type 0
LowIs low None = Unit {0}
LowIs low (Some ends) = (ends.0 ≡ low) × (ends.0 ≤ ends.1)

whole-low : (low high : ℕ) → LowIs low (range_of low high)
whole-low low high = by_test (nat_le low high) refl where
  by_test : (b : Bool) → nat_le low high ≡ b → LowIs low (cond b (Some (low, high)) None)
  by_test true e = (refl, leb-true low high e)
  by_test false e = tt

below-low : (b : Bool) (low at : ℕ) (o : Option (ℕ × ℕ)) (place p : ℕ) → (p == place) ≡ b → LowIs low o → LowIs low (option_and_then (narrowed place (Below p at)) o)
below-low b low at None place p e h = tt
below-low true low at (Some ends) place p e h = rw e (by_test (nat_lt ends.0 at) refl) where
  by_test : (t : Bool) → nat_lt ends.0 at ≡ t → LowIs low (cond t (Some (ends.0, min ends.1 (at - 1))) None)
  by_test true lt = let less : ends.0 < at = ltb-true ends.0 at lt in (h.0, omega (arith, h.1))
  by_test false lt = tt
below-low false low at (Some ends) place p e h = rw e h

from-low : (b : Bool) (low at : ℕ) (o : Option (ℕ × ℕ)) (place p : ℕ) → (p == place) ≡ b → LowIs low o → LowIs (cond b (max low at) low) (option_and_then (narrowed place (From p at)) o)
from-low b low at None place p e h = tt
from-low true low at (Some ends) place p e h = rw e (subst (λ l. LowIs (max l at) (range_of (max ends.0 at) ends.1)) h.0 (whole-low (max ends.0 at) ends.1))
from-low false low at (Some ends) place p e h = rw e h

child-low : (b : Bool) (low k : ℕ) (o : Option (ℕ × ℕ)) (q : Bool) (place p : ℕ) → (q && (p == place)) ≡ b → b ≡ false → LowIs low o → LowIs low (option_and_then (narrowed place (Child q p k)) o)
child-low b low k None q place p e f h = tt
child-low b low k (Some ends) q place p e f h = rw (e ∙ f) h

pub not-or-left : (a b : Bool) → not (a || b) ≡ true → a ≡ false
not-or-left true b e = sym e
not-or-left false b e = refl

pub not-or-right : (a b : Bool) → not (a || b) ≡ true → not b ≡ true
not-or-right true b e = absurd (false≢true e)
not-or-right false b e = e

pub range-low : (path : List Step) (place low high : ℕ) → is_unsplit path true place ≡ true → LowIs (low_end path place low) (range_left path place low high)
range-low [] place low high e = whole-low low high
range-low (Child q p k ∷ path) place low high e = child-low (q && (p == place)) (low_end path place low) k (range_left path place low high) q place p refl (not-or-left (q && (p == place)) (list_any (splits true place) path) e) (range-low path place low high (not-or-right (q && (p == place)) (list_any (splits true place) path) e))
range-low (Below p at ∷ path) place low high e = below-low (p == place) (low_end path place low) at (range_left path place low high) place p refl (range-low path place low high e)
range-low (From p at ∷ path) place low high e = from-low (p == place) (low_end path place low) at (range_left path place low high) place p refl (range-low path place low high e)

low-left : (low : ℕ) (o : Option (ℕ × ℕ)) → LowIs low o → 1 ≤ length (map Number (numbers_of o)) → Contains (map Number (numbers_of o)) (Number low)
low-left low None h some = absurd (omega arith)
low-left low (Some ends) h some =
    let more : ends.1 + 1 - ends.0 ≡ suc (ends.1 - ends.0) = omega (arith, h.1) in
    subst (λ n. Contains (map Number (range_with_len ends.0 n)) (Number low)) (sym more) (subst (λ l. Contains (Number ends.0 ∷ map Number (range_with_len (ends.0 + 1) (ends.1 - ends.0))) (Number l)) h.0 (first-item (Number ends.0) (map Number (range_with_len (ends.0 + 1) (ends.1 - ends.0)))))

-- ---- a value that is taken is left

pub taken-left : (path : List Step) (place : ℕ) (d : Domain) → 1 ≤ length (param_cells path place d) → (is_range d ≡ true → is_unsplit path true place ≡ true) → (v : Value) × IsTaken path place d v × Contains (param_cells path place d) v
taken-left path place Flags some whole = let f = first-kept path true place (values_of Flags) some in (f.0, f.1, f.2)
taken-left path place (Numbers ns) some whole = let f = first-kept path true place (values_of (Numbers ns)) some in (f.0, f.1, f.2)
taken-left path place (Words ws) some whole = let f = first-kept path true place (values_of (Words ws)) some in (f.0, f.1, f.2)
taken-left path place (Range low high) some whole = (Number (low_end path place low), refl, low-left (low_end path place low) (range_left path place low high) (range-low path place low high (whole refl)) some)

-- ---- one more variable

exts-more : (path : List Step) (n : ℕ) (es : List ExtSpace) (cs : List (Option Version)) (e : ExtSpace) (c : Option Version) → ExtsWithin path n es cs → Contains (ext_cells path (n + length es) e) c → ExtsWithin path n (es ++ e ∷ []) (cs ++ c ∷ [])
exts-more path n [] [] e c w h = let at : n + 0 ≡ n = omega arith in (subst (λ m. Contains (ext_cells path m e) c) at h, tt)
exts-more path n [] (x ∷ cs) e c w h = absurd w
exts-more path n (f ∷ es) [] e c w h = absurd w
exts-more path n (f ∷ es) (x ∷ cs) e c w h = let at : n + suc (length es) ≡ n + 1 + length es = omega arith in (w.0, exts-more path (n + 1) es cs e c w.1 (subst (λ m. Contains (ext_cells path m e) c) at h))

params-more : (path : List Step) (n : ℕ) (ps : List ParamSpace) (xs : List Value) (p : ParamSpace) (x : Value) → ParamsWithin path n ps xs → Contains (param_cells path (n + length ps) p.domain) x → ParamsWithin path n (ps ++ p ∷ []) (xs ++ x ∷ [])
params-more path n [] [] p x w h = let at : n + 0 ≡ n = omega arith in (subst (λ m. Contains (param_cells path m p.domain) x) at h, tt)
params-more path n [] (y ∷ xs) p x w h = absurd w
params-more path n (q ∷ ps) [] p x w h = absurd w
params-more path n (q ∷ ps) (y ∷ xs) p x w h = let at : n + suc (length ps) ≡ n + 1 + length ps = omega arith in (w.0, params-more path (n + 1) ps xs p x w.1 (subst (λ m. Contains (param_cells path m p.domain) x) at h))

pub next-ext : (space : Space) (path : List Step) (es : List ExtSpace) (cs : List (Option Version)) (i : ℕ) (e : ExtSpace) (c : Option Version) → IsOpen space path → es ≡ space.extensions → i < length es → e ≡ get_or es i e → ((v : Option Version) → slice_get (choices_of e) (taken path false i) ≡ Some v → c ≡ v) → ExtsWithin path 0 (take i es) cs → ExtsWithin path 0 (take (i + 1) es) (cs ++ c ∷ [])
next-ext space path es cs i e c open_ same lt is gives w =
    let there : slice_get space.extensions i ≡ Some e = ap (λ xs. slice_get xs i) (sym same) ∙ slice_get_read es (length es) i e refl lt is in
    let first = first-kept path false i (choices_of e) (open_.extensions i e there) in
    let at : i ≡ 0 + length (take i es) = omega (arith, length-take i es) in
    subst (λ xs. ExtsWithin path 0 xs (cs ++ c ∷ [])) (sym (take_more es i e lt ∙ ap (λ x. take i es ++ x ∷ []) (sym is)))
    (exts-more path 0 (take i es) cs e c w (subst (λ m. Contains (ext_cells path m e) c) at (subst (λ x. Contains (ext_cells path i e) x) (sym (gives first.0 first.1)) first.2)))

pub next-param : (space : Space) (path : List Step) (ps : List ParamSpace) (xs : List Value) (i : ℕ) (p : ParamSpace) (x : Value) → IsOpen space path → ps ≡ space.params → i < length ps → p ≡ get_or ps i p → ((v : Value) → IsTaken path i p.domain v → x ≡ v) → ParamsWithin path 0 (take i ps) xs → ParamsWithin path 0 (take (i + 1) ps) (xs ++ x ∷ [])
next-param space path ps xs i p x open_ same lt is gives w =
    let there : slice_get space.params i ≡ Some p = ap (λ ys. slice_get ys i) (sym same) ∙ slice_get_read ps (length ps) i p refl lt is in
    let first = taken-left path i p.domain (open_.params i p there) (open_.ranges i p there) in
    let at : i ≡ 0 + length (take i ps) = omega (arith, length-take i ps) in
    subst (λ ys. ParamsWithin path 0 ys (xs ++ x ∷ [])) (sym (take_more ps i p lt ∙ ap (λ y. take i ps ++ y ∷ []) (sym is)))
    (params-more path 0 (take i ps) xs p x w (subst (λ m. Contains (param_cells path m p.domain) x) at (subst (λ y. Contains (param_cells path i p.domain) y) (sym (gives first.0 first.1)) first.2)))

-- ---- the version of a choice

pub version-taken : (e : ExtSpace) (k choice : ℕ) (l : Listed) (v : Option Version) → choice ≡ k → choice ≢ 0 → Some l ≡ slice_get e.versions (choice - 1) → slice_get (choices_of e) k ≡ Some v → Some l.version ≡ v
version-taken e k choice l v same some is found =
    let more : k ≡ suc (choice - 1) = omega arith in
    same_Some (Some l.version) v (ap (option_map (λ x. Some x.version)) is ∙ sym (slice_get-map (λ x. Some x.version) e.versions (choice - 1)) ∙ ap (slice_get (choices_of e)) (sym more) ∙ found)

pub version-missing : (e : ExtSpace) (k choice : ℕ) (v : Option Version) → choice ≡ k → choice ≢ 0 → None ≡ slice_get e.versions (choice - 1) → slice_get (choices_of e) k ≡ Some v → None ≡ v
version-missing e k choice v same some is found =
    let more : k ≡ suc (choice - 1) = omega arith in
    absurd (none-some v (ap (option_map (λ x. Some x.version)) is ∙ sym (slice_get-map (λ x. Some x.version) e.versions (choice - 1)) ∙ ap (slice_get (choices_of e)) (sym more) ∙ found))
