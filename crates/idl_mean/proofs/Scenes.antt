-- The settings of functions and of bodies of fields, and what each step keeps of a state.
use Rattle.std.proofs.Common.{⊎_elim, ◌≤◌, ◌≡◌, ℕ, zero, suc, ◌<◌, Bool, true, false, List, [], ◌∷◌, take, length, get_or, Option, None, Some, refl, sym, ap, ◌∙◌, subst, arith}
use Rattle.std.specs.Prelude.{option_map}
use Rattle.std.specs.List.{position}
use Rattle.std.proofs.lemmas.List.Quantifiers.{position-Some}
use Rattle.std.proofs.lemmas.List.Sums.{position_or_len_is}
use Rattle.std.proofs.Math.Nat.{eq-or-lt_of_le}
use Rattle.std.proofs.lemmas.Bool.{lt-ltb}
use Rattle.std.proofs.lemmas.Option.{none-some}
use Rattle.std.specs.List.{position_or_len}
use Rattle.idl_spec.specs.Harts.{State}
use Rattle.idl_tree.specs.declared.programs.Function.{Function}
use Rattle.udb_spec.specs.Conditions.{same_bytes}
use Rattle.idl_spec.specs.Shapes.{function_named}
use Rattle.idl_spec.specs.Settings.{Setting}
use Rattle.idl_spec.specs.Programs.{bare, with_functions, quiet_setting, before}
use Rattle.idl_spec.specs.ProgramLaws.{functions-setting}
use Rattle.idl_forms.specs.declared.scenes.Scene.{Scene}
use Rattle.idl_forms.specs.declared.scenes.NewNumber.{NewNumber}
use Rattle.idl_forms.specs.Scenes.{setting_of, new_number, writing}
use Rattle.idl_forms.specs.Ready.{IsSoundAt, Keeps}

pub keeps-self : (c : Scene) (s : State) → IsSoundAt c s → Keeps c s s
keeps-self c s h = record { sound = h; names = refl }

pub keeps-then : (c : Scene) (s t r : State) → Keeps c s t → Keeps c t r → Keeps c s r
keeps-then c s t r h k = record { sound = k.sound; names = k.names ∙ h.names }

-- ---- settings

abbrev pub plain-setting : Scene → Setting
plain-setting c = bare c.space.now c.full.now c.program.now (writing c.space.now c.full.now c.program.now c.loud)

-- without variables and a new number, the functions alone make the setting
pub setting-of-functions : (c : Scene) → c.variables.now ≡ [] → c.written ≡ None → setting_of c ≡ with_functions (plain-setting c) c.functions.now
setting-of-functions c v w = rw (v, w) (sym (functions-setting (plain-setting c) c.functions.now))

-- the setting of a scene like another, with other functions and without variables
pub setting-under : (c below : Scene) (fs : List Function) → below.space.now ≡ c.space.now → below.full.now ≡ c.full.now → below.program.now ≡ c.program.now
    → below.functions.now ≡ fs → below.loud ≡ c.loud → below.variables.now ≡ [] → below.written ≡ None → setting_of below ≡ with_functions (plain-setting c) fs
setting-under c below fs s f p g l v w =
    setting-of-functions below v w ∙ rw (s, f, p, g, l) refl

-- the setting of the bodies of fields
pub setting-quiet : (c quiet : Scene) (written : Option NewNumber) → quiet.space.now ≡ c.space.now → quiet.full.now ≡ c.full.now → quiet.program.now ≡ c.program.now
    → quiet.functions.now ≡ c.program.now.functions → quiet.loud ≡ false → quiet.variables.now ≡ [] → quiet.written ≡ written
    → setting_of quiet ≡ quiet_setting c.space.now c.full.now c.program.now (option_map new_number written)
unfolding quiet_setting
setting-quiet c quiet written s f p g l v w =
    rw (s, f, p, g, l, v, w) (ap (λ (e : Setting). record e { written = option_map new_number written })
    (sym (functions-setting (bare c.space.now c.full.now c.program.now None) c.program.now.functions)))

-- ---- callees

is-named : List ℕ → Function → Bool
is-named name f = same_bytes f.name name

-- the function at the first place of a name
named-at : (name : List ℕ) (fs : List Function) (i : ℕ) (d : Function) → i < length fs → same_bytes (get_or fs i d).name name ≡ true
    → ((k : ℕ) → k < i → same_bytes (get_or fs k d).name name ≡ false)
    → (function_named fs name ≡ Some (get_or fs i d)) × (before fs name ≡ take i fs)
named-at name [] i d l e h = absurd (omega (arith, l))
named-at name (f ∷ fs) zero d l e h = (rw e refl, rw e refl)
named-at name (f ∷ fs) (suc i) d l e h =
    let first : same_bytes f.name name ≡ false = h 0 (omega arith) in
    let more = named-at name fs i d (omega arith) e (λ k m. h (suc k) (omega arith)) in
    (rw first more.0, rw first (ap (λ (gs : List Function). f ∷ gs) more.1))

pub named-place : (name : List ℕ) (fs : List Function) (i : ℕ) (d : Function) → position (λ f. same_bytes f.name name) fs ≡ Some i
    → (function_named fs name ≡ Some (get_or fs i d)) × (before fs name ≡ take i fs)
named-place name fs i d e =
    let at = position-Some (λ (f : Function). same_bytes f.name name) fs i d e in
    named-at name fs i d at.0 at.1 at.2

below-next : (k n : ℕ) → k < suc n → k ≤ n
below-next k n m = omega arith

below-or-last : (k n : ℕ) → k < suc n → (P : Type 0) → (k < n → P) → (k ≡ n → P) → P
below-or-last k n m P f g = ⊎_elim g f (eq-or-lt_of_le (below-next k n m))

-- no place has the name
module _ {X : Type 0} (p : X → Bool) (xs : List X) (e : position p xs ≡ None) where
  none-at : (k : ℕ) (d : X) (t : Bool) → k < length xs → ((j : ℕ) → j < k → p (get_or xs j d) ≡ false) → p (get_or xs k d) ≡ t → t ≡ false
  none-at k d true l before at =
      let first : position_or_len p xs ≡ k = position_or_len_is p xs k d (omega arith) before (λ m. at) in
      let here : position p xs ≡ Some k = rw first (rw (lt-ltb k (length xs) l) refl) in
      absurd (none-some k (sym e ∙ here))
  none-at k d false l before at = refl

  none-below : (n : ℕ) (d : X) → n ≤ length xs → (k : ℕ) → k < n → p (get_or xs k d) ≡ false
  none-below zero d l k m = absurd (omega (arith, m))
  none-below (suc n) d l k m =
      let earlier = none-below n d (omega arith) in
      below-or-last k n m (p (get_or xs k d) ≡ false) (λ b. earlier k b)
      (λ q. subst (λ j. p (get_or xs j d) ≡ false) (sym q) (none-at n d (p (get_or xs n d)) (omega arith) earlier refl))

  pub none-passes : (k : ℕ) (d : X) → k < length xs → p (get_or xs k d) ≡ false
  none-passes k d l = none-below (length xs) d (omega arith) k l

named-none : (name : List ℕ) (fs : List Function) → ((k : ℕ) (d : Function) → k < length fs → same_bytes (get_or fs k d).name name ≡ false) → function_named fs name ≡ None
named-none name [] h = refl
named-none name (f ∷ fs) h =
    let first : same_bytes f.name name ≡ false = h 0 f (omega arith) in
    rw first (named-none name fs (λ k d l. h (suc k) d (omega arith)))

pub none-named : (name : List ℕ) (fs : List Function) → position (λ f. same_bytes f.name name) fs ≡ None → function_named fs name ≡ None
none-named name fs e = named-none name fs (none-passes (λ (f : Function). same_bytes f.name name) fs e)
