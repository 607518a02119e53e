-- What a full configuration gives the first extension and the first parameter of a name.
use Rattle.std.proofs.Common.{◌≡◌, ℕ, zero, suc, ◌+◌, ◌<◌, ◌≤◌, Bool, true, false, List, [], ◌∷◌, Option, None, Some, length, get_or, drop, refl, subst, arith}
use Rattle.std.specs.Prelude.{max, fold, cond}
use Rattle.std.specs.List.{AllZip}
use Rattle.std.proofs.lemmas.List.{drop_more, drop-drop}
use Rattle.std.proofs.lemmas.Option.{none-some}
use Rattle.udb_base.specs.declared.versions.Version.{Version}
use Rattle.udb_base.specs.declared.versions.Requirement.{Requirement}
use Rattle.udb_base.specs.declared.conditions.Value.{Value}
use Rattle.udb_base.specs.declared.conditions.Value.TheVariants as v
use Rattle.udb_base.specs.declared.spaces.Domain.{Domain}
use Rattle.udb_base.specs.declared.spaces.Domain.TheVariants as d
use Rattle.udb_base.specs.declared.spaces.ExtSpace.{ExtSpace}
use Rattle.udb_base.specs.declared.spaces.ParamSpace.{ParamSpace}
use Rattle.udb_base.specs.declared.spaces.Space.{Space}
use Rattle.udb_base.specs.declared.spaces.Full.{Full}
use Rattle.udb_spec.specs.Conditions.{same_bytes, present_among, value_among}
use Rattle.udb_spec.specs.Spaces.{InDomain, IsValue}
use Rattle.idl_spec.specs.Shapes.{greatest, parameter_named}
use Rattle.idl_spec.specs.Forms.{choice_among}

-- ---- extensions

pub present-nothing : (es : List ExtSpace) (name : List ℕ) (needs : List Requirement) → present_among es [] name needs ≡ false
present-nothing [] name needs = refl
present-nothing (e ∷ es) name needs = refl

present-other : (e : ExtSpace) (es : List ExtSpace) (cs : List (Option Version)) (name : List ℕ) (needs : List Requirement) → same_bytes e.name name ≡ false → present_among es (drop 1 cs) name needs ≡ present_among (e ∷ es) cs name needs
present-other e es [] name needs h = present-nothing es name needs
present-other e es (c ∷ cs) name needs h = rw h refl

pub present-next : (es : List ExtSpace) (cs : List (Option Version)) (name : List ℕ) (needs : List Requirement) (i : ℕ) (e : ExtSpace) → i < length es → e ≡ get_or es i e → same_bytes e.name name ≡ false → present_among (drop (i + 1) es) (drop (i + 1) cs) name needs ≡ present_among (drop i es) (drop i cs) name needs
present-next es cs name needs i e lt is h =
    rw (drop_more es i e lt) (rw (← is) (rw (← (drop-drop 1 i cs)) (present-other e (drop (i + 1) es) (drop i cs) name needs h)))

pub choice-nothing : (es : List ExtSpace) (name : List ℕ) → choice_among es [] name ≡ None
choice-nothing [] name = refl
choice-nothing (e ∷ es) name = refl

choice-other : (e : ExtSpace) (es : List ExtSpace) (cs : List (Option Version)) (name : List ℕ) → same_bytes e.name name ≡ false → choice_among es (drop 1 cs) name ≡ choice_among (e ∷ es) cs name
choice-other e es [] name h = choice-nothing es name
choice-other e es (c ∷ cs) name h = rw h refl

-- an extension of another name is passed over
pub choice-next : (es : List ExtSpace) (cs : List (Option Version)) (name : List ℕ) (i : ℕ) (e : ExtSpace) → i < length es → e ≡ get_or es i e → same_bytes e.name name ≡ false → choice_among (drop (i + 1) es) (drop (i + 1) cs) name ≡ choice_among (drop i es) (drop i cs) name
choice-next es cs name i e lt is h =
    rw (drop_more es i e lt) (rw (← is) (rw (← (drop-drop 1 i cs)) (choice-other e (drop (i + 1) es) (drop i cs) name h)))

pub ruleset choice_steps = (choice-next, choice-nothing)

pub ruleset present_steps = (present-next, present-nothing)

-- ---- parameters

max-least : (a : ℕ) (ns : List ℕ) → a ≤ fold max a ns
max-least a [] = omega arith
max-least a (n ∷ ns) = let h = max-least (max a n) ns in omega arith

max-at : (a : ℕ) (ns : List ℕ) (k d : ℕ) → k < length ns → get_or ns k d ≤ fold max a ns
max-at a [] k d lt = absurd (omega arith)
max-at a (n ∷ ns) zero d lt = let h = max-least (max a n) ns in omega arith
max-at a (n ∷ ns) (suc k) d lt = max-at (max a n) ns k d (omega arith)

pub number-below : (domain : Domain) (n : ℕ) → InDomain domain (v.Number n) → n ≤ greatest domain
number-below d.Flags n h = absurd h
number-below (d.Numbers ns) n h = subst (λ m. m ≤ fold max 0 ns) h.2 (max-at 0 ns h.0 n h.1)
number-below (d.Range low high) n h = h.1
number-below (d.Words ws) n h = absurd h

module _ (space : Space) (full : Full) where
  here : (b : Bool) (p q : ParamSpace) (x y : Value) (o : Option ParamSpace) (z : Option Value)
      → IsValue space full p x → cond b (Some p) o ≡ Some q → cond b (Some x) z ≡ Some y → (o ≡ Some q → z ≡ Some y → InDomain q.domain y) → InDomain q.domain y
  here true p q x y o z is h k next = subst (λ r. InDomain r.domain y) (some-same h) (subst (λ w. InDomain p.domain w) (some-same k) is.in_domain) where
    some-same : {A : Type 0} {a b : A} → Some a ≡ Some b → a ≡ b
    some-same h = cc
  here false p q x y o z is h k next = next h k

  -- the value of the first parameter of a name is one of its domain
  pub in-domain : (ps : List ParamSpace) (xs : List Value) (name : List ℕ) (q : ParamSpace) (y : Value) → AllZip (IsValue space full) ps xs → parameter_named ps name ≡ Some q → value_among ps xs name ≡ Some y → InDomain q.domain y
  in-domain [] xs name q y all h k = absurd (none-some q h)
  in-domain (p ∷ ps) [] name q y all h k = absurd (none-some y k)
  in-domain (p ∷ ps) (x ∷ xs) name q y all h k =
      here (same_bytes p.name name) p q x y (parameter_named ps name) (value_among ps xs name) all.0 h k (in-domain ps xs name q y all.1)
