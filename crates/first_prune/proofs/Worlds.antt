-- The values that Boolean parameters have in valid full configurations, and the completions that
-- agree with what is known.
use Rattle.std.proofs.Common.{◌≡◌, ◌<◌, arith, ℕ, Bool, true, false, List, [], ◌∷◌, map, refl, ap, sym, ◌∙◌, subst, Option, None, Some}
use Rattle.std.specs.Prelude.{All, Contains, IsTrue, if◌then◌else◌}
use Rattle.std.specs.List.{AllZip}
use Rattle.std.specs.Cmp.Lexicographic.{slice_cmp, same_text, other_text}
use Rattle.std.specs.Ordering.{nat_cmp, is_lt, ordering_reverse}
use Rattle.std.specs.declared.cmp.Ordering.{Ordering}
use Rattle.std.specs.declared.cmp.Ordering.TheVariants.{Less, Equal, Greater}
use Rattle.std.proofs.lemmas.Cmp.{nat_list_cmp_total}
use Rattle.std.proofs.lemmas.List.Elements.{All-nil, All-cons, All-head, All-tail, All-map}
use Rattle.udb_base.specs.declared.conditions.Cond.{Cond}
use Rattle.udb_base.specs.declared.conditions.Cond.TheVariants.{Always, Param}
use Rattle.udb_base.specs.declared.conditions.Value.{Value}
use Rattle.udb_base.specs.declared.conditions.Value.TheVariants.{Flag, Number, Word}
use Rattle.udb_base.specs.declared.conditions.Test.TheVariants as test
use Rattle.udb_base.specs.declared.spaces.Domain.{Domain}
use Rattle.udb_base.specs.declared.spaces.Domain.TheVariants.{Flags, Numbers, Range, Words}
use Rattle.udb_base.specs.declared.spaces.ParamSpace.{ParamSpace}
use Rattle.udb_base.specs.declared.spaces.Space.{Space}
use Rattle.udb_base.specs.declared.spaces.Full.{Full}
use Rattle.udb_base.specs.declared.refutations.Partial.{Partial}
use Rattle.udb_spec.specs.Conditions.{holds, same_bytes, value_among, value_of, option_passes}
use Rattle.udb_spec.specs.CondLaws.{holds-Always, holds-Param}
use Rattle.udb_spec.specs.Spaces.{InDomain, IsValue, Completes}
use Rattle.idl_spec.specs.Shapes.{parameter_named}
use Rattle.entry_tree.specs.declared.ParamEntry.{ParamEntry}
use Rattle.entry_tree.specs.declared.Given.{Given}
use Rattle.first_spec.specs.Bundle.{IsSwitch, IsParam, IsGiven, Rise, is_flags, is_switch_name}
use Rattle.manual_spec.specs.Entries.{param_space}
use Rattle.first_prune.specs.Known.{Known, look, truth_of, known_of, flag_of, value_with, completion_with}

-- ---- names and choices

pub chosen_true : {A : Type 0} (x y : A) (b : Bool) → b ≡ true → (if b then x else y) ≡ x
chosen_true {A} x y b e = let f : Bool → A = λ c. (if c then x else y) in ap f e

pub chosen_false : {A : Type 0} (x y : A) (b : Bool) → b ≡ false → (if b then x else y) ≡ y
chosen_false {A} x y b e = let f : Bool → A = λ c. (if c then x else y) in ap f e

pub same_so : (xs ys : List ℕ) → same_bytes xs ys ≡ true → xs ≡ ys
same_so xs ys e = same_text xs ys (sym e)

pub same_itself : (xs : List ℕ) → same_bytes xs xs ≡ true
same_itself xs = at (same_bytes xs xs) refl
  where
    at : (b : Bool) → same_bytes xs xs ≡ b → same_bytes xs xs ≡ true
    at true e = e
    at false e = absurd (other_text xs xs (sym e) refl)

less_so : (o : Ordering) → is_lt o ≡ true → o ≡ Less
less_so Less e = refl
less_so Equal e = cc
less_so Greater e = cc

not_less : (o : Ordering) → o ≡ Less → o ≡ ordering_reverse o → ⊥
not_less Less e h = cc
not_less Equal e h = cc
not_less Greater e h = cc

differs : (n m : List ℕ) → slice_cmp nat_cmp n m ≡ Less → same_bytes n m ≡ false
differs n m l = at (same_bytes n m) refl
  where
    at : (b : Bool) → same_bytes n m ≡ b → same_bytes n m ≡ false
    at true e = absurd (not_less (slice_cmp nat_cmp n n) (subst (λ (k : List ℕ). slice_cmp nat_cmp n k ≡ Less) (sym (same_so n m e)) l) (nat_list_cmp_total.antisymm n n))
    at false e = e

-- a name below the first of rising names is below the next one too
skips : (n m : List ℕ) (ns : List (List ℕ)) → slice_cmp nat_cmp n m ≡ Less → Rise (m ∷ ns) → Rise (n ∷ ns)
skips n m [] l r = tt
skips n m (k ∷ ks) l r = (ap is_lt (nat_list_cmp_total.trans n m k l (less_so (slice_cmp nat_cmp m k) r.0)), r.1)

apart : (n : List ℕ) (gs : List Given) → Rise (n ∷ map (λ g. g.name) gs) → All (λ g. same_bytes n g.name ≡ false) gs
apart n [] r = All-nil (λ (g : Given). same_bytes n g.name ≡ false)
apart n (g ∷ gs) r =
    All-cons (λ (g : Given). same_bytes n g.name ≡ false) g gs
    (differs n g.name (less_so (slice_cmp nat_cmp n g.name) r.0))
    (apart n gs (skips n g.name (map (λ g. g.name) gs) (less_so (slice_cmp nat_cmp n g.name) r.0) r.1))

-- what is known of a given name is its own value
pub own_look : (gs : List Given) → Rise (map (λ g. g.name) gs) → All (λ g. look (known_of gs) g.name ≡ Some (truth_of g.value)) gs
own_look [] r = All-nil (λ (g : Given). look [] g.name ≡ Some (truth_of g.value))
own_look (g ∷ gs) r =
    All-cons (λ (h : Given). look (known_of (g ∷ gs)) h.name ≡ Some (truth_of h.value)) g gs
    (chosen_true (Some (truth_of g.value)) (look (known_of gs) g.name) (same_bytes g.name g.name) (same_itself g.name))
    (λ k d l. chosen_false _ _ _ (apart g.name gs r k d l) ∙ own_look gs (rest (map (λ g. g.name) gs) r) k d l)
  where
    rest : (ns : List (List ℕ)) → Rise (g.name ∷ ns) → Rise ns
    rest [] r = tt
    rest (n ∷ ns) r = r.1

-- ---- values

-- what is Always holds
pub always_holds : (space : Space) (full : Full) (c : Cond) → c ≡ Always → holds space full c ≡ true
always_holds space full c e = ap (holds space full) e ∙ holds-Always space full

-- a Boolean parameter's truth value
pub record SwitchValue (params : List ParamSpace) (values : List Value) (name : List ℕ) : Type 0 where
  pub truth : Bool
  pub value : value_among params values name ≡ Some (Flag truth)

flag_in_domain : (d : Domain) (x : Value) → is_flags d ≡ true → InDomain d x → (b : Bool) × (x ≡ Flag b)
flag_in_domain Flags (Flag b) e h = (b, refl)
flag_in_domain Flags (Number n) e h = absurd h
flag_in_domain Flags (Word w) e h = absurd h
flag_in_domain (Numbers ns) x e h = absurd (cc)
flag_in_domain (Range low high) x e h = absurd (cc)
flag_in_domain (Words ws) x e h = absurd (cc)

pub switch_value : (space : Space) (full : Full) (ps : List ParamEntry) (xs : List Value) → All IsParam ps → AllZip (IsValue space full) (map param_space ps) xs → (name : List ℕ) → is_switch_name ps name ≡ true → SwitchValue (map param_space ps) xs name
switch_value space full [] xs h z name e = absurd (cc)
switch_value space full (p ∷ ps) [] h z name e = absurd z
switch_value space full (p ∷ ps) (x ∷ xs) h z name e = at (same_bytes p.name name) refl (switch_value space full ps xs (All-tail IsParam p ps h) z.1 name)
  where
    at : (b : Bool) → same_bytes p.name name ≡ b → (is_switch_name ps name ≡ true → SwitchValue (map param_space ps) xs name) → SwitchValue (map param_space (p ∷ ps)) (x ∷ xs) name
    at true same rest =
        let f : (b : Bool) × (x ≡ Flag b) = flag_in_domain p.domain x (sym (chosen_true (is_flags p.domain) (is_switch_name ps name) (same_bytes p.name name) same) ∙ e) z.0.in_domain in
        record {
          truth = f.0;
          value = chosen_true (Some x) (value_among (map param_space ps) xs name) (same_bytes p.name name) same ∙ ap Some f.1;
        }
    at false same rest =
        let r : SwitchValue (map param_space ps) xs name = rest (sym (chosen_false (is_flags p.domain) (is_switch_name ps name) (same_bytes p.name name) same) ∙ e) in
        record {
          truth = r.truth;
          value = chosen_false (Some x) (value_among (map param_space ps) xs name) (same_bytes p.name name) same ∙ r.value;
        }

-- the parameter of a name, which is Boolean and defined everywhere
pub record Switch (params : List ParamSpace) (name : List ℕ) : Type 0 where
  pub param : ParamSpace
  pub named : parameter_named params name ≡ Some param
  pub domain : param.domain ≡ Flags
  pub defined : param.defined ≡ Always

flags_so : (d : Domain) → is_flags d ≡ true → d ≡ Flags
flags_so Flags e = refl
flags_so (Numbers ns) e = absurd (cc)
flags_so (Range low high) e = absurd (cc)
flags_so (Words ws) e = absurd (cc)

pub switch_named : (ps : List ParamEntry) → All IsParam ps → (name : List ℕ) → is_switch_name ps name ≡ true → Switch (map param_space ps) name
switch_named [] h name e = absurd (cc)
switch_named (p ∷ ps) h name e = at (same_bytes p.name name) refl (switch_named ps (All-tail IsParam p ps h) name)
  where
    at : (b : Bool) → same_bytes p.name name ≡ b → (is_switch_name ps name ≡ true → Switch (map param_space ps) name) → Switch (map param_space (p ∷ ps)) name
    at true same rest = record {
      param = param_space p;
      named = chosen_true (Some (param_space p)) (parameter_named (map param_space ps) name) (same_bytes p.name name) same;
      domain = flags_so p.domain (sym (chosen_true (is_flags p.domain) (is_switch_name ps name) (same_bytes p.name name) same) ∙ e);
      defined = (All-head IsParam p ps h).defined;
    }
    at false same rest =
        let r : Switch (map param_space ps) name = rest (sym (chosen_false (is_flags p.domain) (is_switch_name ps name) (same_bytes p.name name) same) ∙ e) in
        record {
          param = r.param;
          named = chosen_false (Some (param_space p)) (parameter_named (map param_space ps) name) (same_bytes p.name name) same ∙ r.named;
          domain = r.domain;
          defined = r.defined;
        }

own_flag : (known : Known) (own name : List ℕ) (d : Domain) → own ≡ name → is_flags d ≡ true → value_with known own d ≡ Flag (flag_of (look known name))
own_flag known own name Flags e h = ap (λ (n : List ℕ). Flag (flag_of (look known n))) e
own_flag known own name (Numbers ns) e h = absurd (cc)
own_flag known own name (Range low high) e h = absurd (cc)
own_flag known own name (Words ws) e h = absurd (cc)

-- the value of a Boolean parameter in the completion that is made
pub made_value : (known : Known) (ps : List ParamEntry) (name : List ℕ) → is_switch_name ps name ≡ true → value_among (map param_space ps) (map (λ p. value_with known p.name p.domain) ps) name ≡ Some (Flag (flag_of (look known name)))
made_value known [] name h = absurd (cc)
made_value known (p ∷ ps) name h = at (same_bytes p.name name) refl (made_value known ps name)
  where
    at : (b : Bool) → same_bytes p.name name ≡ b → (is_switch_name ps name ≡ true → value_among (map param_space ps) (map (λ p. value_with known p.name p.domain) ps) name ≡ Some (Flag (flag_of (look known name)))) → value_among (map param_space (p ∷ ps)) (map (λ p. value_with known p.name p.domain) (p ∷ ps)) name ≡ Some (Flag (flag_of (look known name)))
    at true same rest =
        chosen_true (Some (value_with known p.name p.domain)) (value_among (map param_space ps) (map (λ p. value_with known p.name p.domain) ps) name) (same_bytes p.name name) same
        ∙ ap Some (own_flag known p.name name p.domain (same_so p.name name same) (sym (chosen_true (is_flags p.domain) (is_switch_name ps name) (same_bytes p.name name) same) ∙ h))
    at false same rest =
        chosen_false (Some (value_with known p.name p.domain)) (value_among (map param_space ps) (map (λ p. value_with known p.name p.domain) ps) name) (same_bytes p.name name) same
        ∙ rest (sym (chosen_false (is_flags p.domain) (is_switch_name ps name) (same_bytes p.name name) same) ∙ h)

made_in_domain : (known : Known) (name : List ℕ) (d : Domain) → IsSwitch name d → InDomain d (value_with known name d)
made_in_domain known name Flags s = tt
made_in_domain known name (Numbers ns) s = subst (λ (xs : List ℕ). Contains xs 32) (sym s.1) (0, lit, refl)
  where
    lit : 0 < 1
    lit = omega arith
made_in_domain known name (Range low high) s = absurd s
made_in_domain known name (Words ws) s = absurd s

not_both : (b : Bool) → b ≡ true → b ≡ false → ⊥
not_both true e h = cc
not_both false e h = cc

made_valid : (known : Known) (space : Space) (full : Full) (ps : List ParamEntry) → All IsParam ps → AllZip (IsValue space full) (map param_space ps) (map (λ p. value_with known p.name p.domain) ps)
made_valid known space full [] h = tt
made_valid known space full (p ∷ ps) h = (first, made_valid known space full ps (All-tail IsParam p ps h))
  where
    first : IsValue space full (param_space p) (value_with known p.name p.domain)
    first = record {
      in_domain = made_in_domain known p.name p.domain (All-head IsParam p ps h).domain;
      needs = λ _. always_holds space full p.needs (All-head IsParam p ps h).needs;
      first = λ e. absurd (not_both (holds space full p.defined) (always_holds space full p.defined (All-head IsParam p ps h).defined) e);
    }

-- ---- a space of parameters and given values

abbrev pub space_with : List ParamEntry → Space
space_with params = record { extensions = []; params = map param_space params }

abbrev pub constraints_of : List Given → List Cond
constraints_of = map (λ g. Param g.name test.Equal g.value)

abbrev pub part_with : List Given → Partial
part_with givens = record { constraints = constraints_of givens }

-- what is known of Boolean parameters is so in the full configuration
pub record Agrees (params : List ParamEntry) (full : Full) (known : Known) : Type 0 where
  pub agrees : (name : List ℕ) (b : Bool) → is_switch_name params name ≡ true → look known name ≡ Some b → value_of (space_with params) full name ≡ Some (Flag b)

-- all given values are known
pub record Extends (givens : List Given) (known : Known) : Type 0 where
  pub extends : (name : List ℕ) (b : Bool) → look (known_of givens) name ≡ Some b → look known name ≡ Some b

passes_so : (o : Option Value) (b : Bool) → option_passes test.Equal o (Flag b) ≡ true → o ≡ Some (Flag b)
passes_so None b h = absurd (cc)
passes_so (Some (Flag true)) true h = refl
passes_so (Some (Flag true)) false h = absurd (cc)
passes_so (Some (Flag false)) true h = absurd (cc)
passes_so (Some (Flag false)) false h = refl
passes_so (Some (Number n)) b h = absurd (cc)
passes_so (Some (Word w)) b h = absurd (cc)

passes_itself : (b : Bool) → option_passes test.Equal (Some (Flag b)) (Flag b) ≡ true
passes_itself true = refl
passes_itself false = refl

-- a given value holds where its constraint does
given_value_is : (space : Space) (full : Full) (g : Given) (b : Bool) → g.value ≡ Flag b → holds space full (Param g.name test.Equal g.value) ≡ true → value_of space full g.name ≡ Some (Flag b)
given_value_is space full g b e h =
    passes_so (value_of space full g.name) b (ap (λ (x : Value). option_passes test.Equal (value_of space full g.name) x) (sym e) ∙ (sym (holds-Param space full g.name test.Equal g.value) ∙ h))

given_agrees : (params : List ParamEntry) (space : Space) (full : Full) (gs : List Given) → All (IsGiven params) gs → All (λ c. IsTrue (holds space full c)) (constraints_of gs) → (name : List ℕ) (b : Bool) → look (known_of gs) name ≡ Some b → value_of space full name ≡ Some (Flag b)
given_agrees params space full [] h k name b e = absurd (cc)
given_agrees params space full (g ∷ gs) h k name b e =
    at (same_bytes g.name name) refl (given_agrees params space full gs (All-tail (IsGiven params) g gs h) (All-tail (λ c. IsTrue (holds space full c)) (Param g.name test.Equal g.value) (constraints_of gs) k) name b)
  where
    truth_is : (x : Value) (t : Bool) → x ≡ Flag t → Some (truth_of x) ≡ Some b → t ≡ b
    truth_is x t is same = let i : Some (truth_of x) ≡ Some t = ap (λ (y : Value). Some (truth_of y)) is in cc

    at : (same : Bool) → same_bytes g.name name ≡ same → (look (known_of gs) name ≡ Some b → value_of space full name ≡ Some (Flag b)) → value_of space full name ≡ Some (Flag b)
    at true same rest =
        let first : IsGiven params g = All-head (IsGiven params) g gs h in
        ap (value_of space full) (sym (same_so g.name name same))
        ∙ (given_value_is space full g first.truth first.value (All-head (λ c. IsTrue (holds space full c)) (Param g.name test.Equal g.value) (constraints_of gs) k)
        ∙ ap (λ (t : Bool). Some (Flag t)) (truth_is g.value first.truth first.value (sym (chosen_true (Some (truth_of g.value)) (look (known_of gs) name) (same_bytes g.name name) same) ∙ e)))
    at false same rest = rest (sym (chosen_false (Some (truth_of g.value)) (look (known_of gs) name) (same_bytes g.name name) same) ∙ e)

module _ (params : List ParamEntry) (is_params : All IsParam params) (givens : List Given) (is_givens : All (IsGiven params) givens) (rises : Rise (map (λ g. g.name) givens)) where
  -- a completion agrees with the given values
  pub first_agrees : (full : Full) → Completes (space_with params) (part_with givens) full → Agrees params full (known_of givens)
  first_agrees full c = record { agrees = λ name b s e. given_agrees params (space_with params) full givens is_givens c.constraints name b e }

  made_holds : (known : Known) → Extends givens known → (g : Given) → IsGiven params g → look (known_of givens) g.name ≡ Some (truth_of g.value) → IsTrue (holds (space_with params) (completion_with known params) (Param g.name test.Equal g.value))
  made_holds known e g h own =
      let full : Full = completion_with known params in
      let l : look known g.name ≡ Some (truth_of g.value) = e.extends g.name (truth_of g.value) own in
      let v : value_of (space_with params) full g.name ≡ Some (Flag h.truth) = made_value known params g.name h.name ∙ ap (λ (o : Option Bool). Some (Flag (flag_of o))) l ∙ ap (λ (x : Value). Some (Flag (truth_of x))) h.value in
      holds-Param (space_with params) full g.name test.Equal g.value
      ∙ (ap (λ (o : Option Value). option_passes test.Equal o g.value) v
      ∙ (ap (λ (x : Value). option_passes test.Equal (Some (Flag h.truth)) x) h.value
      ∙ passes_itself h.truth))

  -- what keeps the given values makes a completion
  pub made_completes : (known : Known) → Extends givens known → Completes (space_with params) (part_with givens) (completion_with known params)
  made_completes known e = record {
    valid = record { choices = tt; values = made_valid known (space_with params) (completion_with known params) params is_params };
    constraints = All-map (λ c. IsTrue (holds (space_with params) (completion_with known params) c)) (λ g. Param g.name test.Equal g.value) givens (λ k d l. made_holds known e _ (is_givens k d l) (own_look givens rises k d l));
  }

-- the completion that is made agrees with what it is made from
pub made_agrees : (params : List ParamEntry) (known : Known) → Agrees params (completion_with known params) known
made_agrees params known = record { agrees = λ name b s e. made_value known params name s ∙ ap (λ (o : Option Bool). Some (Flag (flag_of o))) e }
