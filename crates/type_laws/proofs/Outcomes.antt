-- Good outcomes, one after the other.
use Rattle.std.proofs.Common.{◌≡◌, ◌&&◌, ◌++◌, Bool, true, false, List, [], ◌∷◌, Option, Some, refl, sym, ap, subst}
use Rattle.std.specs.Prelude.{if◌then◌else◌}
use Rattle.idl_tree.specs.Each.{Each}
use Rattle.idl_tree.specs.declared.widths.Width.{Width}
use Rattle.idl_bits.specs.BitVector.{BitVector}
use Rattle.idl_spec.specs.Values.{Value, bits, flag, member, given_text, written_text}
use Rattle.idl_spec.specs.Harts.{State, Outcome, done, raised, stuck, and_then, or_stuck, required}
use Rattle.idl_spec.specs.Shapes.{of_bits, of_flag}
use Rattle.idl_spec.specs.Settings.{Setting, with_bits, with_flag}
use Rattle.type_laws.specs.Kinds.{IsBits, HasKind, Mode, StateOk, Good}

pub chosen_true : {A : Type 0} (x y : A) (b : Bool) → b ≡ true → (if b then x else y) ≡ x
chosen_true {A} x y b e = let f : Bool → A = λ c. (if c then x else y) in ap f e

pub chosen_false : {A : Type 0} (x y : A) (b : Bool) → b ≡ false → (if b then x else y) ≡ y
chosen_false {A} x y b e = let f : Bool → A = λ c. (if c then x else y) in ap f e

pub both_true : (x y : Bool) → (x && y) ≡ true → (x ≡ true) × (y ≡ true)
both_true true true e = (refl, refl)
both_true true false e = absurd (cc)
both_true false y e = absurd (cc)

pub same_some : {A : Type 0} {x y : A} → Some x ≡ Some y → x ≡ y
same_some e = cc

pub each_front : {X : Type 0} (P : X → Type 0) (xs ys : List X) → Each P (xs ++ ys) → Each P xs
each_front P [] ys h = tt
each_front P (x ∷ xs) ys h = (h.0, each_front P xs ys h.1)

pub each_back : {X : Type 0} (P : X → Type 0) (xs ys : List X) → Each P (xs ++ ys) → Each P ys
each_back P [] ys h = h
each_back P (x ∷ xs) ys h = each_back P xs ys h.1

pub each_both : {X : Type 0} (P : X → Type 0) (xs ys : List X) → Each P xs → Each P ys → Each P (xs ++ ys)
each_both P [] ys h k = k
each_both P (x ∷ xs) ys h k = (h.0, each_both P xs ys h.1 k)

module _ (e : Setting) (mode : Mode) where
  pub then_good : {A B : Type 0} (P : A → Type 0) (Q : B → Type 0) (o : Outcome A) (next : A → State → Outcome B)
      → Good e mode P o → ((a : A) (s : State) → P a → StateOk e mode s → Good e mode Q (next a s)) → Good e mode Q (and_then o next)
  then_good P Q (done a s) next h k = k a s h.0 h.1
  then_good P Q (raised code tval s) next h k = h
  then_good P Q stuck next h k = absurd h

  pub bits_good : {A : Type 0} (Q : A → Type 0) (width : Width) (signed : Bool) (o : Outcome Value) (next : BitVector → State → Outcome A)
      → Good e mode (HasKind e (of_bits width signed)) o → ((v : BitVector) (s : State) → IsBits e width signed v → StateOk e mode s → Good e mode Q (next v s))
      → Good e mode Q (with_bits o next)
  bits_good Q width signed (done (bits v) s) next h k = k v s h.0 h.1
  bits_good Q width signed (done (flag x) s) next h k = absurd h.0
  bits_good Q width signed (done (member l n) s) next h k = absurd h.0
  bits_good Q width signed (done (given_text x) s) next h k = absurd h.0
  bits_good Q width signed (done (written_text x) s) next h k = absurd h.0
  bits_good Q width signed (raised code tval s) next h k = h
  bits_good Q width signed stuck next h k = absurd h

  -- a truth value, and what gave it
  pub flag_good : {A : Type 0} (Q : A → Type 0) (o : Outcome Value) (next : Bool → State → Outcome A)
      → Good e mode (HasKind e of_flag) o → ((x : Bool) (s : State) → o ≡ done (flag x) s → StateOk e mode s → Good e mode Q (next x s)) → Good e mode Q (with_flag o next)
  flag_good Q (done (bits v) s) next h k = absurd h.0
  flag_good Q (done (flag x) s) next h k = k x s refl h.1
  flag_good Q (done (member l n) s) next h k = absurd h.0
  flag_good Q (done (given_text x) s) next h k = absurd h.0
  flag_good Q (done (written_text x) s) next h k = absurd h.0
  flag_good Q (raised code tval s) next h k = h
  flag_good Q stuck next h k = absurd h

  -- something is there
  pub some_good : {A B : Type 0} (Q : B → Type 0) (o : Option A) (a : A) (next : A → Outcome B) → o ≡ Some a → Good e mode Q (next a) → Good e mode Q (or_stuck o next)
  some_good {A} Q o a next is h = subst (λ (x : Option A). Good e mode Q (or_stuck x next)) (sym is) h

  pub required_good : {A : Type 0} (Q : A → Type 0) (o : Option A) (a : A) (s : State) → o ≡ Some a → Q a → StateOk e mode s → Good e mode Q (required o s)
  required_good {A} Q o a s is h st = subst (λ (x : Option A). Good e mode Q (required x s)) (sym is) (h, st)
