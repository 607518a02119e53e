-- The empty path, and what a search from it has found.
use Rattle.std.proofs.Common.{◌≡◌, ℕ, zero, suc, ◌+◌, ◌-◌, ◌<◌, ◌≤◌, ◌^◌, nat_le, Bool, true, false, List, [], ◌∷◌, map, length, get_or, Option, None, Some, IfSome, Contains, slice_get, refl, sym, ◌∙◌, subst, cond, arith}
use Rattle.std.specs.List.{AllZip, range_with_len}
use Rattle.std.proofs.lemmas.Bool.{le-leb}
use Rattle.std.proofs.lemmas.List.{length-map, get_or-map}
use Rattle.std.proofs.lemmas.List.FromFn.{length-range_with_len}
use Rattle.std.proofs.lemmas.Option.{none-some, same_Some}
use Rattle.udb_base.specs.declared.versions.Version.{Version}
use Rattle.udb_base.specs.declared.versions.Listed.{Listed}
use Rattle.udb_base.specs.declared.conditions.Value.{Value}
use Rattle.udb_base.specs.declared.conditions.Value.TheVariants.{Flag, Number, Word}
use Rattle.udb_base.specs.declared.conditions.Cond.{Cond}
use Rattle.udb_base.specs.declared.refutations.Partial.{Partial}
use Rattle.udb_base.specs.declared.spaces.Domain.{Domain}
use Rattle.udb_base.specs.declared.spaces.Domain.TheVariants.{Flags, Numbers, Range, Words}
use Rattle.udb_base.specs.declared.spaces.ExtSpace.{ExtSpace}
use Rattle.udb_base.specs.declared.spaces.ParamSpace.{ParamSpace}
use Rattle.udb_base.specs.declared.spaces.Space.{Space}
use Rattle.udb_spec.specs.Versions.{IsListed}
use Rattle.udb_spec.specs.Spaces.{InDomain}
use Rattle.udb_spec.specs.Lawful.{Lawful, IsLawfulParam, IsLawfulDomain}
use Rattle.udb_spec.specs.Cells.{choices_of, values_of, numbers_of, range_of, kept, param_cells, ExtsWithin, ParamsWithin}
use Rattle.udb_spec.specs.Constraints.{constraints}
use Rattle.udb_cond.proofs.Completions.{meets-completion}
use Rattle.udb_cond.proofs.Sound.{none-meets}
use Rattle.udb_refute.specs.declared.search.Found.{Found}
use Rattle.udb_refute.specs.declared.search.Found.TheVariants.{Completion, Refuted}
use Rattle.udb_refute.specs.Search.{IsOpen, own_count, space_count, HoldBefore, IsFound}
use Rattle.udb_refute.specs.Answers.{IsAnswer}
use Rattle.udb_refute.proofs.PathLaws.{kept-all}
use Rattle.udb_refute.proofs.SearchLaws.{number-of, length-all}

get-some : {X : Type 0} (xs : List X) (i : ℕ) (y : X) → slice_get xs i ≡ Some y → (i < length xs) × (get_or xs i y ≡ y)
get-some [] i y e = absurd (none-some y e)
get-some (x ∷ xs) zero y e = (omega arith, same_Some x y e)
get-some (x ∷ xs) (suc i) y e = let rest = get-some xs i y e in (omega (arith, rest.0), rest.1)

whole : {X : Type 0} (param : Bool) (place : ℕ) (xs : List X) → kept [] param place 0 xs ≡ xs
whole param place xs = kept-all [] param place 0 xs refl

whole-range : (low high : ℕ) → low ≤ high → range_of low high ≡ Some (low, high)
whole-range low high le = rw (le-leb low high le) refl

some-values : (place : ℕ) (d : Domain) → IsLawfulDomain d → 1 ≤ length (param_cells [] place d)
some-values place Flags h = subst (λ xs. 1 ≤ length xs) (sym (whole true place (values_of Flags))) (omega arith)
some-values place (Numbers ns) h = subst (λ xs. 1 ≤ length xs) (sym (whole true place (values_of (Numbers ns)))) (omega (arith, h.0, length-map ns Number))
some-values place (Words ws) h = subst (λ xs. 1 ≤ length xs) (sym (whole true place (values_of (Words ws)))) (omega (arith, h.0, length-map ws Word))
some-values place (Range low high) h = subst (λ o. 1 ≤ length (map Number (numbers_of o))) (sym (whole-range low high h)) (omega (arith, h, length-map (range_with_len low (high + 1 - low)) Number, length-range_with_len low (high + 1 - low)))

pub start-open : (space : Space) → Lawful space → IsOpen space []
start-open space lawful = record {
  extensions = λ i e found. subst (λ xs. 1 ≤ length xs) (sym (whole false i (choices_of e))) (omega arith);
  params = λ i p found. let at = get-some space.params i p found in some-values i p.domain (subst (IsLawfulParam space) at.1 (lawful.params i p at.0)).domain;
  ranges = λ i p found range. refl;
}

pub start-hold : (space : Space) (part : Partial) (asked : Cond) → HoldBefore space part asked [] (1 - 1)
start-hold space part asked full w position some none = absurd (omega arith)

pub start-few : (space : Space) (part : Partial) (asked : Cond) → length (constraints space part asked) < 2 ^ 32 - 1 → space_count space + own_count part < 2 ^ 32 - 1
start-few space part asked few = omega (arith, few, length-all space part asked)

-- ---- what is within the empty path is in the domains

listed-within : (vs : List Listed) (c : Option Version) → Contains (None ∷ map (λ l. Some l.version) vs) c → IfSome c (IsListed vs)
listed-within vs None h = tt
listed-within vs (Some v) h = at h.0 h.1 h.2 where
  at : (k : ℕ) → k < length (None ∷ map (λ l. Some l.version) vs) → get_or (None ∷ map (λ l. Some l.version) vs) k (Some v) ≡ Some v → IsListed vs v
  at zero lt is = absurd (none-some v is)
  at (suc k) lt is =
      let d : Listed = record { version = v; breaking = false } in
      let short : k < length vs = omega (arith, lt, length-map vs (λ l. Some l.version)) in
      (k, omega (arith, short, length-map vs (λ l. l.version)), get_or-map (λ l. l.version) vs k d v short ∙ same_Some (get_or vs k d).version v (sym (get_or-map (λ l. Some l.version) vs k d (Some v) short) ∙ is))

exts-listed : (place : ℕ) (es : List ExtSpace) (cs : List (Option Version)) → ExtsWithin [] place es cs → AllZip (λ e c. IfSome c (IsListed e.versions)) es cs
exts-listed place [] [] w = tt
exts-listed place [] (c ∷ cs) w = absurd w
exts-listed place (e ∷ es) [] w = absurd w
exts-listed place (e ∷ es) (c ∷ cs) w = (listed-within e.versions c (subst (λ xs. Contains xs c) (whole false place (choices_of e)) w.0), exts-listed (place + 1) es cs w.1)

flag-within : (x : Value) → Contains (Flag false ∷ Flag true ∷ []) x → InDomain Flags x
flag-within x h = at h.0 h.1 h.2 where
  at : (k : ℕ) → k < 2 → get_or (Flag false ∷ Flag true ∷ []) k x ≡ x → InDomain Flags x
  at zero lt is = subst (InDomain Flags) is tt
  at (suc zero) lt is = subst (InDomain Flags) is tt
  at (suc (suc k)) lt is = absurd (omega arith)

get-any : {X : Type 0} (xs : List X) (i : ℕ) (d e : X) → i < length xs → get_or xs i d ≡ get_or xs i e
get-any [] i d e lt = absurd (omega arith)
get-any (x ∷ xs) zero d e lt = refl
get-any (x ∷ xs) (suc i) d e lt = get-any xs i d e (omega arith)

mapped-within : {X : Type 0} (f : X → Value) (xs : List X) (x : Value) (d : X) → Contains (map f xs) x → (y : X) × (f y ≡ x) × Contains xs y
mapped-within f xs x d h =
    let lt : h.0 < length xs = omega (arith, h.1, length-map xs f) in
    let y = get_or xs h.0 d in
    (y, sym (get_or-map f xs h.0 d x lt) ∙ h.2, (h.0, lt, get-any xs h.0 y d lt))

value-within : (place : ℕ) (d : Domain) (x : Value) → Contains (param_cells [] place d) x → InDomain d x
value-within place Flags x h = flag-within x (subst (λ xs. Contains xs x) (whole true place (values_of Flags)) h)
value-within place (Numbers ns) x h = let y = mapped-within Number ns x 0 (subst (λ xs. Contains xs x) (whole true place (values_of (Numbers ns))) h) in subst (InDomain (Numbers ns)) y.1 y.2
value-within place (Words ws) x h = let y = mapped-within Word ws x [] (subst (λ xs. Contains xs x) (whole true place (values_of (Words ws))) h) in subst (InDomain (Words ws)) y.1 y.2
value-within place (Range low high) x h = by_test (nat_le low high) refl h where
  by_test : (b : Bool) → nat_le low high ≡ b → Contains (map Number (numbers_of (cond b (Some (low, high)) None))) x → InDomain (Range low high) x
  by_test true e g = let m = number-of low (high + 1 - low) x g in subst (InDomain (Range low high)) m.3 (m.1, omega (arith, m.2))
  by_test false e g = absurd (omega (arith, g.1))

params-in : (place : ℕ) (ps : List ParamSpace) (xs : List Value) → ParamsWithin [] place ps xs → AllZip (λ p x. InDomain p.domain x) ps xs
params-in place [] [] w = tt
params-in place [] (x ∷ xs) w = absurd w
params-in place (p ∷ ps) [] w = absurd w
params-in place (p ∷ ps) (x ∷ xs) w = (value-within place p.domain x w.0, params-in (place + 1) ps xs w.1)

pub found-answer : (space : Space) (part : Partial) (asked : Cond) (found : Found) → Lawful space → IsFound space part asked [] found → IsAnswer space part asked found
found-answer space part asked (Completion full) lawful h = meets-completion space full part asked lawful (record { choices = exts-listed 0 space.extensions full.extensions h.0.extensions; values = params-in 0 space.params full.params h.0.params }) h.1
found-answer space part asked (Refuted proof) lawful h = (h, none-meets space part asked proof lawful h)
