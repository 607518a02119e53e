-- What the law of typing says of an evaluator's bodies and fields.
use Rattle.std.proofs.Common.{◌≡◌, ◌≢◌, ◌⊎◌, inl, inr, ◌<◌, ℕ, zero, suc, Bool, true, false, List, [], ◌∷◌, length, get_or, Option, None, Some, refl, sym, ap, ◌∙◌, subst, arith}
use Rattle.std.specs.Prelude.{Contains, All, IfSome, filter_map, slice_get, option_and_then, if◌then◌else◌}
use Rattle.std.specs.List.{cons_option}
use Rattle.std.proofs.lemmas.Option.{none-some, slice_get-get_or}
use Rattle.std.proofs.lemmas.List.Elements.{All-head, All-tail}
use Rattle.udb_base.specs.declared.conditions.Cond.TheVariants as c
use Rattle.udb_base.specs.declared.spaces.Space.{Space}
use Rattle.udb_base.specs.declared.spaces.Full.{Full}
use Rattle.udb_spec.specs.Conditions.{holds}
use Rattle.udb_spec.specs.CondLaws.{holds-Always}
use Rattle.udb_spec.specs.Spaces.{Valid}
use Rattle.idl_tree.specs.declared.programs.Body.{Body}
use Rattle.idl_tree.specs.declared.programs.FieldBodies.{FieldBodies}
use Rattle.idl_tree.specs.declared.programs.CsrBody.{CsrBody}
use Rattle.idl_width.specs.declared.scopes.BitsOf.{BitsOf}
use Rattle.idl_spec.specs.declared.scopes.BodyScope.TheVariants as scope
use Rattle.idl_spec.specs.Harts as hart
use Rattle.idl_spec.specs.Harts.{State}
use Rattle.idl_spec.specs.Fields.{Placed, placed, layout}
use Rattle.idl_spec.specs.Programs.{IsState, as_operation, mean, reset_number}
use Rattle.idl_spec.specs.ProgramFits.{program_fits}
use Rattle.idl_spec.specs.Checks.{fits}
use Rattle.idl_forms.specs.Ready.{AreLawfulVariables}
use Rattle.type_laws.specs.Given.{IsReadBody}
use Rattle.type_laws.specs.Fitting.{IsFitting, IsFittingOperation, FittingBodiesAreNeverStuck}
use Rattle.idl_mean.specs.declared.prepared.Prepared.{Prepared}
use Rattle.idl_mean.specs.Evaluators.{IsReady, IsRead, FitsAt, NeverStuck, HasReset, placed_at, reset_at}

-- ---- what is in a list

contains-first : {X : Type 0} (x : X) (xs : List X) → Contains (x ∷ xs) x
contains-first x xs = (0, (omega arith), refl)

contains-later : {X : Type 0} (y : X) (xs : List X) (x : X) → Contains xs x → Contains (y ∷ xs) x
contains-later y xs x h = (suc h.0, let lt = h.1 in omega arith, h.2)

contains-at : {X : Type 0} (xs : List X) (k : ℕ) (x : X) → slice_get xs k ≡ Some x → Contains xs x
contains-at [] k x h = absurd (none-some x h)
contains-at (y ∷ ys) zero x h = subst (λ z. Contains (z ∷ ys) x) (sym (same-some y x h)) (contains-first x ys)
  where
    same-some : {X : Type 0} (a b : X) → Some a ≡ Some b → a ≡ b
    same-some a b e = cc
contains-at (y ∷ ys) (suc k) x h = contains-later y ys x (contains-at ys k x h)

all-get : {X : Type 0} (P : X → Type 0) (xs : List X) (k : ℕ) (x : X) → All P xs → slice_get xs k ≡ Some x → P x
all-get P [] k x all h = absurd (none-some x h)
all-get P (y ∷ ys) zero x all h = subst P (same-some y x h) (All-head P y ys all)
  where
    same-some : {X : Type 0} (a b : X) → Some a ≡ Some b → a ≡ b
    same-some a b e = cc
all-get P (y ∷ ys) (suc k) x all h = all-get P ys k x (All-tail P y ys all) h

slice_get_body : (xs : List Body) (k : ℕ) → k < length xs → Body
slice_get_body [] k h = absurd (omega arith)
slice_get_body (x ∷ xs) k h = get_or (x ∷ xs) k x

slice_get_there : (xs : List Body) (k : ℕ) (h : k < length xs) → slice_get xs k ≡ Some (slice_get_body xs k h)
unfolding slice_get_body
slice_get_there [] k h = absurd (omega arith)
slice_get_there (x ∷ xs) k h = slice_get-get_or (x ∷ xs) k x h

module _ (prepared : Prepared) (widths : List (List BitsOf)) (bare : List BitsOf) (ready : IsReady prepared widths bare) (full : Full) (valid : Valid prepared.space full) (read : IsRead prepared)
    (fit : program_fits prepared.space full prepared.program ≡ true) (law : FittingBodiesAreNeverStuck) where
  fitting : IsFitting prepared.space full prepared.program
  fitting = record { lawful = ready.lawful; read = read.space; valid = valid; names = ready.program; bare = read.program; fit = fit }

  pub runs : (place : ℕ) → FitsAt prepared place full → place < length prepared.bodies → NeverStuck prepared place full
  runs place at within s state = by (slice_get prepared.bodies place) refl at.read at.fit
    where
      past : slice_get prepared.bodies place ≡ None → ⊥
      past is = none-some (slice_get_body prepared.bodies place within) (sym is ∙ slice_get_there prepared.bodies place within)

      by : (o : Option Body) → slice_get prepared.bodies place ≡ o → IfSome o (IsReadBody prepared.space) → IfSome o (λ body. fits prepared.space full prepared.program c.Always scope.Operation body ≡ true)
          → hart.or_stuck o (λ body. mean prepared.space full prepared.program as_operation body s) ≢ hart.stuck
      by None is r f = absurd (past is)
      by (Some body) is r f =
          law.operations prepared.space full prepared.program fitting c.Always body
          (record { variables = all-get (λ b. AreLawfulVariables b.variables) prepared.bodies place body ready.variables is; read = r; here = holds-Always prepared.space full; fit = f }) s state

  -- ---- fields

  in-layout : (csr : CsrBody) (fs : List FieldBodies) (k : ℕ) (f : FieldBodies) (p : Placed) → slice_get fs k ≡ Some f → placed prepared.space full f ≡ Some p → Contains (filter_map (placed prepared.space full) fs) p
  in-layout csr [] k f p h is = absurd (none-some f h)
  in-layout csr (g ∷ gs) zero f p h is = subst (λ o. Contains (cons_option o (filter_map (placed prepared.space full) gs)) p) (sym (ap (placed prepared.space full) (same-some g f h) ∙ is)) (contains-first p (filter_map (placed prepared.space full) gs))
    where
      same-some : {X : Type 0} (a b : X) → Some a ≡ Some b → a ≡ b
      same-some a b e = cc
  in-layout csr (g ∷ gs) (suc k) f p h is = by (placed prepared.space full g) (in-layout csr gs k f p h is)
    where
      by : (o : Option Placed) → Contains (filter_map (placed prepared.space full) gs) p → Contains (cons_option o (filter_map (placed prepared.space full) gs)) p
      by None rest = rest
      by (Some q) rest = contains-later q (filter_map (placed prepared.space full) gs) p rest

  in-it : (one : CsrBody) → holds prepared.space full one.present ≡ true → (field : ℕ) (f : FieldBodies) (p : Placed) → slice_get one.fields field ≡ Some f → placed prepared.space full f ≡ Some p → Contains (layout prepared.space full one) p
  unfolding layout
  in-it one there field f p at is = subst (λ b. Contains (if b then filter_map (placed prepared.space full) one.fields else []) p) (sym there) (in-layout one one.fields field f p at is)

  resets-there : (csr : CsrBody) → Contains prepared.program.csrs csr → (p : Placed) → Contains (layout prepared.space full csr) p → reset_number prepared.space full prepared.program p ≢ None
  resets-there csr h p k = law.resets prepared.space full prepared.program fitting csr h p k

  pub has_reset : (csr field : ℕ) → HasReset prepared csr field full
  has_reset csr field there none = by-csr (slice_get prepared.program.csrs csr) refl there none
    where
      Look : Option CsrBody → Option Placed
      Look o = option_and_then (λ one. if holds prepared.space full one.present then option_and_then (placed prepared.space full) (slice_get one.fields field) else None) o

      by-placed : (one : CsrBody) → Contains prepared.program.csrs one → holds prepared.space full one.present ≡ true → (f : FieldBodies) → slice_get one.fields field ≡ Some f → (o : Option Placed) → placed prepared.space full f ≡ o
          → o ≢ None → option_and_then (reset_number prepared.space full prepared.program) o ≡ None → ⊥
      by-placed one h there f at None is some none = some refl
      by-placed one h there f at (Some p) is some none = resets-there one h p (in-it one there field f p at is) none

      by-field : (one : CsrBody) → Contains prepared.program.csrs one → holds prepared.space full one.present ≡ true → (o : Option FieldBodies) → slice_get one.fields field ≡ o
          → option_and_then (placed prepared.space full) o ≢ None → option_and_then (reset_number prepared.space full prepared.program) (option_and_then (placed prepared.space full) o) ≡ None → ⊥
      by-field one h there None at some none = some refl
      by-field one h there (Some f) at some none = by-placed one h there f at (placed prepared.space full f) refl some none

      by-presence : (one : CsrBody) → Contains prepared.program.csrs one → (b : Bool) → holds prepared.space full one.present ≡ b
          → (if b then option_and_then (placed prepared.space full) (slice_get one.fields field) else None) ≢ None
          → option_and_then (reset_number prepared.space full prepared.program) (if b then option_and_then (placed prepared.space full) (slice_get one.fields field) else None) ≡ None → ⊥
      by-presence one h false is some none = some refl
      by-presence one h true is some none = by-field one h is (slice_get one.fields field) refl some none

      by-csr : (o : Option CsrBody) → slice_get prepared.program.csrs csr ≡ o → Look o ≢ None → option_and_then (reset_number prepared.space full prepared.program) (Look o) ≡ None → ⊥
      by-csr None is some none = some refl
      by-csr (Some one) is some none = by-presence one (contains-at prepared.program.csrs csr one is) (holds prepared.space full one.present) refl some none
