-- Conditions case by case, and look-ups by name that go down two lists at once.
use Rattle.std.proofs.Common.{◌≡◌, ℕ, ◌+◌, ◌<◌, false, List, [], ◌∷◌, Option, None, length, get_or, drop, refl}
use Rattle.std.proofs.lemmas.List.{drop_more, drop-drop}
use Rattle.udb_base.specs.declared.versions.Version.{Version}
use Rattle.udb_base.specs.declared.versions.Requirement.{Requirement}
use Rattle.udb_base.specs.declared.conditions.Value.{Value}
use Rattle.udb_base.specs.declared.spaces.ExtSpace.{ExtSpace}
use Rattle.udb_base.specs.declared.spaces.ParamSpace.{ParamSpace}
use Rattle.udb_spec.specs.Conditions.{same_bytes, present_among, value_among}
use Rattle.udb_spec.specs.CondLaws.{holds-Always, holds-Never, holds-Ext, holds-Param, holds-All, holds-Any, holds-One, holds-Not}

pub ruleset holds_laws = (holds-Always, holds-Never, holds-Ext, holds-Param, holds-All, holds-Any, holds-One, holds-Not)

pub present-nothing : (es : List ExtSpace) (name : List ℕ) (needs : List Requirement) → present_among es [] name needs ≡ false
present-nothing [] name needs = refl
present-nothing (e ∷ es) name needs = refl

present-other : (e : ExtSpace) (es : List ExtSpace) (cs : List (Option Version)) (name : List ℕ) (needs : List Requirement) → same_bytes e.name name ≡ false → present_among es (drop 1 cs) name needs ≡ present_among (e ∷ es) cs name needs
present-other e es [] name needs h = present-nothing es name needs
present-other e es (c ∷ cs) name needs h = rw h refl

-- an extension of another name is passed over
pub present-next : (es : List ExtSpace) (cs : List (Option Version)) (name : List ℕ) (needs : List Requirement) (i : ℕ) (e : ExtSpace) → i < length es → e ≡ get_or es i e → same_bytes e.name name ≡ false → present_among (drop (i + 1) es) (drop (i + 1) cs) name needs ≡ present_among (drop i es) (drop i cs) name needs
present-next es cs name needs i e lt is h =
    rw (drop_more es i e lt) (rw (← is) (rw (← (drop-drop 1 i cs)) (present-other e (drop (i + 1) es) (drop i cs) name needs h)))

pub value-nothing : (ps : List ParamSpace) (name : List ℕ) → value_among ps [] name ≡ None
value-nothing [] name = refl
value-nothing (p ∷ ps) name = refl

value-other : (p : ParamSpace) (ps : List ParamSpace) (xs : List Value) (name : List ℕ) → same_bytes p.name name ≡ false → value_among ps (drop 1 xs) name ≡ value_among (p ∷ ps) xs name
value-other p ps [] name h = value-nothing ps name
value-other p ps (x ∷ xs) name h = rw h refl

-- a parameter of another name is passed over
pub value-next : (ps : List ParamSpace) (xs : List Value) (name : List ℕ) (i : ℕ) (p : ParamSpace) → i < length ps → p ≡ get_or ps i p → same_bytes p.name name ≡ false → value_among (drop (i + 1) ps) (drop (i + 1) xs) name ≡ value_among (drop i ps) (drop i xs) name
value-next ps xs name i p lt is h =
    rw (drop_more ps i p lt) (rw (← is) (rw (← (drop-drop 1 i xs)) (value-other p (drop (i + 1) ps) (drop i xs) name h)))

pub ruleset present_steps = (present-next, present-nothing)

pub ruleset value_steps = (value-next, value-nothing)
