-- The constraints hold together exactly in the completions that meet the asked condition.
use Rattle.std.proofs.Common.{◌≡◌, ℕ, zero, suc, ◌==◌, nat_eq, Bool, true, false, not, ◌&&◌, ◌||◌, IsTrue, List, [], ◌∷◌, ◌++◌, map, Option, None, Some, IfSome, All, AllPairs, Contains, slice_get, refl, sym, ap, ◌∙◌, subst, arith}
use Rattle.std.specs.List.{AllZip}
use Rattle.std.specs.Option.{is_some}
use Rattle.std.specs.Ordering.{nat_cmp, ordering_then, is_lt}
use Rattle.std.specs.Cmp.Lexicographic.{slice_cmp, pointwise, bytes_decides}
use Rattle.std.proofs.lemmas.Bool.{eqb-true, eq-eqb, le-ltb, false≢true, true≢false}
use Rattle.std.proofs.lemmas.List.Elements.{All-append, All-cons}
use Rattle.udb_base.specs.declared.versions.Version.{Version}
use Rattle.udb_base.specs.declared.conditions.Value.{Value}
use Rattle.udb_base.specs.declared.conditions.Value.TheVariants.{Flag, Number, Word}
use Rattle.udb_base.specs.declared.conditions.Test.TheVariants.{Equal}
use Rattle.udb_base.specs.declared.conditions.Cond.{Cond}
use Rattle.udb_base.specs.declared.conditions.Cond.TheVariants as c
use Rattle.udb_base.specs.declared.refutations.Partial.{Partial}
use Rattle.udb_base.specs.declared.spaces.ExtSpace.{ExtSpace}
use Rattle.udb_base.specs.declared.spaces.ParamSpace.{ParamSpace}
use Rattle.udb_base.specs.declared.spaces.Space.{Space}
use Rattle.udb_base.specs.declared.spaces.Full.{Full}
use Rattle.udb_spec.specs.Versions.{IsListed}
use Rattle.udb_spec.specs.Conditions.{same_bytes, same_value, present_among, value_among, value_of, option_passes, holds}
use Rattle.udb_spec.specs.CondLaws.{holds-Never, holds-Ext, holds-Param, holds-Any, holds-Not}
use Rattle.udb_spec.specs.Spaces.{InDomain, first_value, IsChoice, IsValue, Valid, Completes}
use Rattle.udb_spec.specs.Lawful.{name_lt, Lawful}
use Rattle.udb_spec.specs.Constraints.{ext_constraint, has_value, needs_constraint, first_constraint, param_constraints, constraints, numbered, IsInDomains}

module _ {A : Type 0} (R : A → A → Type 0) (x : A) (xs : List A) (pairs : AllPairs R (x ∷ xs)) where
  pairs-head : (y : A) → Contains xs y → R x y
  pairs-head y among = subst (R x) among.2 (pairs 0 (suc among.0) y (omega arith) (omega (arith, among.1)))

  pairs-tail : AllPairs R xs
  pairs-tail i j d lt within = pairs (suc i) (suc j) d (omega arith) (omega arith)

later : {A : Type 0} (x y : A) (xs : List A) → Contains xs y → Contains (x ∷ xs) y
later x y xs among = (suc among.0, omega (arith, among.1), among.2)

first-one : {A : Type 0} (x : A) (xs : List A) → Contains (x ∷ xs) x
first-one x xs = (0, omega arith, refl)

-- names that differ in order differ
lt-step : (x y : ℕ) (xs ys : List ℕ) (b : Bool) → (x == y) ≡ b → is_lt (ordering_then (nat_cmp x y) (slice_cmp nat_cmp xs ys)) ≡ true → (is_lt (slice_cmp nat_cmp xs ys) ≡ true → pointwise nat_eq xs ys ≡ false) → (b && pointwise nat_eq xs ys) ≡ false
lt-step x y xs ys false e h rest = refl
lt-step x y xs ys true e h rest =
    let same : x ≡ y = eqb-true x y e in
    let less : is_lt (ordering_then (nat_cmp x y) (slice_cmp nat_cmp xs ys)) ≡ is_lt (slice_cmp nat_cmp xs ys) = rw (le-ltb x y (omega arith), e) refl in
    rest (sym less ∙ h)

pub lt-differs : (a b : List ℕ) → name_lt a b ≡ true → same_bytes a b ≡ false
lt-differs [] [] h = absurd (false≢true h)
lt-differs [] (y ∷ ys) h = refl
lt-differs (x ∷ xs) [] h = absurd (false≢true h)
lt-differs (x ∷ xs) (y ∷ ys) h = lt-step x y xs ys (x == y) refl h (lt-differs xs ys)

same-self : (a : List ℕ) → same_bytes a a ≡ true
same-self a = (bytes_decides a a).1 refl

same-value-self : (x : Value) → same_value x x ≡ true
same-value-self (Flag true) = refl
same-value-self (Flag false) = refl
same-value-self (Number n) = eq-eqb n n refl
same-value-self (Word w) = same-self w

same-value-is : (x v : Value) → same_value x v ≡ true → x ≡ v
same-value-is (Flag true) (Flag true) h = refl
same-value-is (Flag true) (Flag false) h = absurd (false≢true h)
same-value-is (Flag false) (Flag true) h = absurd (false≢true h)
same-value-is (Flag false) (Flag false) h = refl
same-value-is (Flag a) (Number b) h = absurd (false≢true h)
same-value-is (Flag a) (Word b) h = absurd (false≢true h)
same-value-is (Number a) (Flag b) h = absurd (false≢true h)
same-value-is (Number a) (Number b) h = ap Number (eqb-true a b h)
same-value-is (Number a) (Word b) h = absurd (false≢true h)
same-value-is (Word a) (Flag b) h = absurd (false≢true h)
same-value-is (Word a) (Number b) h = absurd (false≢true h)
same-value-is (Word a) (Word b) h = ap Word ((bytes_decides a b).0 h)

or-none : (a : Bool) → (a || false) ≡ a
or-none true = refl
or-none false = refl

own-choice : (e : ExtSpace) (es : List ExtSpace) (c : Option Version) (cs : List (Option Version)) → present_among (e ∷ es) (c ∷ cs) e.name [] ≡ is_some c
own-choice e es None cs = rw (same-self e.name) refl
own-choice e es (Some x) cs = rw (same-self e.name) refl

own-value : (p : ParamSpace) (ps : List ParamSpace) (x : Value) (xs : List Value) → value_among (p ∷ ps) (x ∷ xs) p.name ≡ Some x
own-value p ps x xs = rw (same-self p.name) refl

either-holds : (a b : Bool) → (a ≡ true → b ≡ true) → (not a || (b || false)) ≡ true
either-holds true b h = rw (or-none b) (h refl)
either-holds false b h = refl

either-gives : (a b : Bool) → (not a || (b || false)) ≡ true → a ≡ true → b ≡ true
either-gives true b h e = sym (or-none b) ∙ h
either-gives false b h e = absurd (false≢true e)

or-holds : (a b : Bool) → (a ≡ false → b ≡ true) → (a || (b || false)) ≡ true
or-holds true b h = refl
or-holds false b h = rw (or-none b) (h refl)

or-gives : (a b : Bool) → (a || (b || false)) ≡ true → a ≡ false → b ≡ true
or-gives true b h e = absurd (true≢false e)
or-gives false b h e = sym (or-none b) ∙ h

head-of : {X : Type 0} (P : X → Type 0) (x : X) (xs : List X) → All P (x ∷ xs) → P x
head-of P x xs all = all 0 x (omega arith)

tail-of : {X : Type 0} (P : X → Type 0) (x : X) (xs : List X) → All P (x ∷ xs) → All P xs
tail-of P x xs all k d lt = all (suc k) d (omega arith)

none-of : {X : Type 0} (P : X → Type 0) → All P []
none-of P k d lt = absurd (omega arith)

front-of : {X : Type 0} (P : X → Type 0) (xs ys : List X) → All P (xs ++ ys) → All P xs
front-of P [] ys all = none-of P
front-of P (x ∷ xs) ys all = All-cons P x xs (head-of P x (xs ++ ys) all) (front-of P xs ys (tail-of P x (xs ++ ys) all))

back-of : {X : Type 0} (P : X → Type 0) (xs ys : List X) → All P (xs ++ ys) → All P ys
back-of P [] ys all = all
back-of P (x ∷ xs) ys all = back-of P xs ys (tail-of P x (xs ++ ys) all)

at-place : {X : Type 0} (P : X → Type 0) (xs : List X) (i : ℕ) → All P xs → IfSome (slice_get xs i) P
at-place P [] i all = tt
at-place P (x ∷ xs) zero all = head-of P x xs all
at-place P (x ∷ xs) (suc i) all = at-place P xs i (tail-of P x xs all)

-- what each of a list has, the one of a number has
pub at-number : (P : Cond → Type 0) (list : List Cond) (n : ℕ) → All P list → IfSome (numbered list n) P
at-number P list zero all = tt
at-number P list (suc n) all = at-place P list n all

module _ (space : Space) (full : Full) where
  abbrev H : Cond → Bool
  H = holds space full

  abbrev Holds : Cond → Type 0
  Holds x = IsTrue (holds space full x)

  ext-value : (e : ExtSpace) → H (ext_constraint e) ≡ (not (present_among space.extensions full.extensions e.name []) || (H e.needs || false))
  ext-value e = holds-Any space full (c.Not (c.Ext e.name []) ∷ e.needs ∷ []) ∙ ap (λ b. b || (H e.needs || false)) (holds-Not space full (c.Ext e.name []) ∙ ap not (holds-Ext space full e.name []))

  needs-value : (p : ParamSpace) → H (needs_constraint p) ≡ (not (H p.defined) || (H p.needs || false))
  needs-value p = holds-Any space full (c.Not p.defined ∷ p.needs ∷ []) ∙ ap (λ b. b || (H p.needs || false)) (holds-Not space full p.defined)

  first-value : (p : ParamSpace) → H (first_constraint p) ≡ (H p.defined || (H (has_value p.name (first_value p.domain)) || false))
  first-value p = holds-Any space full (p.defined ∷ has_value p.name (first_value p.domain) ∷ [])

  -- the parameter has the value x, and v is asked
  has-value : (name : List ℕ) (x : Value) → value_of space full name ≡ Some x → (v : Value) → H (has_value name (Some v)) ≡ same_value x v
  has-value name x is v = holds-Param space full name Equal v ∙ ap (λ o. option_passes Equal o v) is

  first-holds : (name : List ℕ) (x : Value) (o : Option Value) → value_of space full name ≡ Some x → o ≡ Some x → H (has_value name o) ≡ true
  first-holds name x o is e = subst (λ u. H (has_value name u) ≡ true) (sym e) (has-value name x is x ∙ same-value-self x)

  first-gives : (name : List ℕ) (x : Value) (o : Option Value) → value_of space full name ≡ Some x → H (has_value name o) ≡ true → o ≡ Some x
  first-gives name x None is h = absurd (false≢true (sym (holds-Never space full) ∙ h))
  first-gives name x (Some v) is h = ap Some (sym (same-value-is x v (sym (has-value name x is v) ∙ h)))

  -- look-ups in the whole space, for the extensions and the parameters of its ends
  abbrev FindsExts : List ExtSpace → List (Option Version) → Type 0
  FindsExts es cs = (e : ExtSpace) → Contains es e → present_among space.extensions full.extensions e.name [] ≡ present_among es cs e.name []

  abbrev FindsParams : List ParamSpace → List Value → Type 0
  FindsParams ps xs = (p : ParamSpace) → Contains ps p → value_of space full p.name ≡ value_among ps xs p.name

  exts-tail : (e : ExtSpace) (es : List ExtSpace) (c : Option Version) (cs : List (Option Version)) → AllPairs (λ a b. IsTrue (name_lt a.name b.name)) (e ∷ es) → FindsExts (e ∷ es) (c ∷ cs) → FindsExts es cs
  exts-tail e es c cs rising finds f among = finds f (later e f es among) ∙ rw (lt-differs e.name f.name (pairs-head (λ a b. IsTrue (name_lt a.name b.name)) e es rising f among)) refl

  params-tail : (p : ParamSpace) (ps : List ParamSpace) (x : Value) (xs : List Value) → AllPairs (λ a b. IsTrue (name_lt a.name b.name)) (p ∷ ps) → FindsParams (p ∷ ps) (x ∷ xs) → FindsParams ps xs
  params-tail p ps x xs rising finds f among = finds f (later p f ps among) ∙ rw (lt-differs p.name f.name (pairs-head (λ a b. IsTrue (name_lt a.name b.name)) p ps rising f among)) refl

  ext-present : (e : ExtSpace) (es : List ExtSpace) (c : Option Version) (cs : List (Option Version)) → FindsExts (e ∷ es) (c ∷ cs) → present_among space.extensions full.extensions e.name [] ≡ is_some c
  ext-present e es c cs finds = finds e (first-one e es) ∙ own-choice e es c cs

  chosen : (e : ExtSpace) (c : Option Version) → IsChoice space full e c → is_some c ≡ true → H e.needs ≡ true
  chosen e None choice h = absurd (false≢true h)
  chosen e (Some x) choice h = choice.1

  exts-hold : (es : List ExtSpace) (cs : List (Option Version)) → AllPairs (λ a b. IsTrue (name_lt a.name b.name)) es → FindsExts es cs → AllZip (IsChoice space full) es cs → All Holds (map ext_constraint es)
  exts-hold [] cs rising finds choices = none-of Holds
  exts-hold (e ∷ es) [] rising finds choices = absurd choices
  exts-hold (e ∷ es) (c ∷ cs) rising finds choices =
      All-cons Holds (ext_constraint e) (map ext_constraint es)
      (ext-value e ∙ ap (λ b. not b || (H e.needs || false)) (ext-present e es c cs finds) ∙ either-holds (is_some c) (H e.needs) (chosen e c choices.0))
      (exts-hold es cs (pairs-tail (λ a b. IsTrue (name_lt a.name b.name)) e es rising) (exts-tail e es c cs rising finds) choices.1)

  given-choice : (e : ExtSpace) (c : Option Version) → IfSome c (IsListed e.versions) → (is_some c ≡ true → H e.needs ≡ true) → IsChoice space full e c
  given-choice e None listed h = tt
  given-choice e (Some x) listed h = (listed, h refl)

  exts-chosen : (es : List ExtSpace) (cs : List (Option Version)) → AllPairs (λ a b. IsTrue (name_lt a.name b.name)) es → FindsExts es cs → AllZip (λ e c. IfSome c (IsListed e.versions)) es cs → All Holds (map ext_constraint es) → AllZip (IsChoice space full) es cs
  exts-chosen [] [] rising finds listed all = tt
  exts-chosen [] (c ∷ cs) rising finds listed all = absurd listed
  exts-chosen (e ∷ es) [] rising finds listed all = absurd listed
  exts-chosen (e ∷ es) (c ∷ cs) rising finds listed all = (
    given-choice e c listed.0 (either-gives (is_some c) (H e.needs) (ap (λ b. not b || (H e.needs || false)) (sym (ext-present e es c cs finds)) ∙ sym (ext-value e) ∙ head-of Holds (ext_constraint e) (map ext_constraint es) all)),
    exts-chosen es cs (pairs-tail (λ a b. IsTrue (name_lt a.name b.name)) e es rising) (exts-tail e es c cs rising finds) listed.1 (tail-of Holds (ext_constraint e) (map ext_constraint es) all),
  )

  param-has : (p : ParamSpace) (ps : List ParamSpace) (x : Value) (xs : List Value) → FindsParams (p ∷ ps) (x ∷ xs) → value_of space full p.name ≡ Some x
  param-has p ps x xs finds = finds p (first-one p ps) ∙ own-value p ps x xs

  params-hold : (ps : List ParamSpace) (xs : List Value) → AllPairs (λ a b. IsTrue (name_lt a.name b.name)) ps → FindsParams ps xs → AllZip (IsValue space full) ps xs → All Holds (param_constraints ps)
  params-hold [] xs rising finds values = none-of Holds
  params-hold (p ∷ ps) [] rising finds values = absurd values
  params-hold (p ∷ ps) (x ∷ xs) rising finds values =
      let rest = params-hold ps xs (pairs-tail (λ a b. IsTrue (name_lt a.name b.name)) p ps rising) (params-tail p ps x xs rising finds) values.1 in
      let first : Holds (first_constraint p) = first-value p ∙ or-holds (H p.defined) (H (has_value p.name (first_value p.domain))) (λ e. first-holds p.name x (first_value p.domain) (param-has p ps x xs finds) (values.0.first e)) in
      All-cons Holds (needs_constraint p) (first_constraint p ∷ param_constraints ps)
      (needs-value p ∙ either-holds (H p.defined) (H p.needs) values.0.needs)
      (All-cons Holds (first_constraint p) (param_constraints ps) first rest)

  params-given : (ps : List ParamSpace) (xs : List Value) → AllPairs (λ a b. IsTrue (name_lt a.name b.name)) ps → FindsParams ps xs → AllZip (λ p x. InDomain p.domain x) ps xs → All Holds (param_constraints ps) → AllZip (IsValue space full) ps xs
  params-given [] [] rising finds within all = tt
  params-given [] (x ∷ xs) rising finds within all = absurd within
  params-given (p ∷ ps) [] rising finds within all = absurd within
  params-given (p ∷ ps) (x ∷ xs) rising finds within all =
      let others = tail-of Holds (needs_constraint p) (first_constraint p ∷ param_constraints ps) all in
      let given : IsValue space full p x = record {
        in_domain = within.0;
        needs = either-gives (H p.defined) (H p.needs) (sym (needs-value p) ∙ head-of Holds (needs_constraint p) (first_constraint p ∷ param_constraints ps) all);
        first = λ e. first-gives p.name x (first_value p.domain) (param-has p ps x xs finds) (or-gives (H p.defined) (H (has_value p.name (first_value p.domain))) (sym (first-value p) ∙ head-of Holds (first_constraint p) (param_constraints ps) others) e);
      } in
      (given, params-given ps xs (pairs-tail (λ a b. IsTrue (name_lt a.name b.name)) p ps rising) (params-tail p ps x xs rising finds) within.1 (tail-of Holds (first_constraint p) (param_constraints ps) others))

  module _ (part : Partial) (asked : Cond) (lawful : Lawful space) where
    -- in a completion that meets the asked condition each constraint holds
    pub completion-meets : Completes space part full → IsTrue (holds space full asked) → All Holds (constraints space part asked)
    completion-meets done met =
        All-append Holds (map ext_constraint space.extensions) (param_constraints space.params ++ (part.constraints ++ asked ∷ []))
        (exts-hold space.extensions full.extensions lawful.extension_names (λ e among. refl) done.valid.choices)
        (All-append Holds (param_constraints space.params) (part.constraints ++ asked ∷ [])
        (params-hold space.params full.params lawful.param_names (λ p among. refl) done.valid.values)
        (All-append Holds part.constraints (asked ∷ []) done.constraints (All-cons Holds asked [] met (none-of Holds))))

    own-part : All Holds (constraints space part asked) → All Holds (part.constraints ++ asked ∷ [])
    own-part all = back-of Holds (param_constraints space.params) (part.constraints ++ asked ∷ []) (back-of Holds (map ext_constraint space.extensions) (param_constraints space.params ++ (part.constraints ++ asked ∷ [])) all)

    param-part : All Holds (constraints space part asked) → All Holds (param_constraints space.params)
    param-part all = front-of Holds (param_constraints space.params) (part.constraints ++ asked ∷ []) (back-of Holds (map ext_constraint space.extensions) (param_constraints space.params ++ (part.constraints ++ asked ∷ [])) all)

    ext-part : All Holds (constraints space part asked) → All Holds (map ext_constraint space.extensions)
    ext-part all = front-of Holds (map ext_constraint space.extensions) (param_constraints space.params ++ (part.constraints ++ asked ∷ [])) all

    -- where all constraints hold the configuration is completed, and the asked condition is met
    pub meets-completion : IsInDomains space full → All Holds (constraints space part asked) → Completes space part full × IsTrue (holds space full asked)
    meets-completion within all =
        let valid : Valid space full = record {
          choices = exts-chosen space.extensions full.extensions lawful.extension_names (λ e among. refl) within.choices (ext-part all);
          values = params-given space.params full.params lawful.param_names (λ p among. refl) within.values (param-part all);
        } in
        let done : Completes space part full = record { valid = valid; constraints = front-of Holds part.constraints (asked ∷ []) (own-part all) } in
        (done, head-of Holds asked [] (back-of Holds part.constraints (asked ∷ []) (own-part all)))

pub each-meets : (space : Space) (part : Partial) (asked : Cond) (n : ℕ) (found : Option Cond) → found ≡ numbered (constraints space part asked) n → IfSome found (λ c. (full : Full) → Lawful space → Completes space part full → holds space full asked ≡ true → holds space full c ≡ true)
each-meets space part asked n None is = tt
each-meets space part asked n (Some x) is = λ full lawful done met.
    let P : Cond → Type 0 = λ c. IsTrue (holds space full c) in
    subst (λ o. IfSome o P) (sym is) (at-number P (constraints space part asked) n (completion-meets space full part asked lawful done met))
