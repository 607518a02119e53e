-- What a valid full configuration of a lawful space gives the names of parameters and extensions.
use Rattle.std.proofs.Common.{◌≡◌, ◌≤◌, ◌<◌, ◌^◌, ◌⊎◌, ◌||◌, inl, inr, cond, ℕ, zero, suc, Bool, true, false, List, [], ◌∷◌, Option, None, Some, All, length, get_or, refl, sym, ap, ◌∙◌, subst, arith}
use Rattle.std.specs.Prelude.{find, fold, max, codes, pos, is_some, option_map, option_and_then, if◌then◌else◌}
use Rattle.std.specs.List.{AllZip, list_any}
use Rattle.std.specs.Cmp.Lexicographic.{bytes_decides}
use Rattle.std.proofs.lemmas.Bool.{false≢true}
use Rattle.std.proofs.lemmas.Option.{none-some}
use Rattle.std.proofs.lemmas.Int.{ints, clamps}
use Rattle.std.proofs.lemmas.List.Elements.{All-head, All-tail, All-get_or}
use Rattle.udb_base.specs.declared.versions.Version.{Version}
use Rattle.udb_base.specs.declared.conditions.Value.{Value as Given}
use Rattle.udb_base.specs.declared.conditions.Value.TheVariants as g
use Rattle.udb_base.specs.declared.spaces.Domain.{Domain}
use Rattle.udb_base.specs.declared.spaces.Domain.TheVariants as d
use Rattle.udb_base.specs.declared.spaces.ExtSpace.{ExtSpace}
use Rattle.udb_base.specs.declared.spaces.ParamSpace.{ParamSpace}
use Rattle.udb_base.specs.declared.spaces.Space.{Space}
use Rattle.udb_base.specs.declared.spaces.Full.{Full}
use Rattle.udb_spec.specs.Conditions.{same_bytes, holds, value_of, value_among}
use Rattle.udb_spec.specs.Spaces.{InDomain, IsChoice, IsValue, Valid, number_or}
use Rattle.udb_spec.specs.Lawful.{ListsWidths, IsLawfulParam, Lawful}
use Rattle.idl_tree.specs.declared.widths.Width.{Width}
use Rattle.idl_tree.specs.declared.widths.Width.TheVariants as wd
use Rattle.idl_width.specs.Numbers.{clip}
use Rattle.idl_width.specs.NumberLaws.{number-Number, number-Word}
use Rattle.idl_spec.specs.Values.{Value, plain, least_width}
use Rattle.idl_spec.specs.Shapes.{of_bits, parameter_named, domain_kind, greatest, register_width}
use Rattle.idl_spec.specs.Fields.{bits_scope}
use Rattle.idl_spec.specs.Settings.{Setting, registers, number_of_width, given_value}
use Rattle.idl_spec.specs.Forms.{choice_among}
use Rattle.type_laws.specs.Given.{IsReadDomain}
use Rattle.type_laws.specs.Kinds.{IsBits, HasKind, Registers}
use Rattle.type_laws.specs.Worlds.{InRange, HasParameter}
use Rattle.type_laws.proofs.Outcomes.{same_some}
use Rattle.type_laws.proofs.Widths.{number_is}
use Rattle.type_laws.proofs.Sides.{in_least_width}

-- what a search finds passes its test, and what all keep to it keeps to
pub found_passes : {X : Type 0} (P : X → Type 0) (test : X → Bool) (xs : List X) (y : X) → All P xs → find test xs ≡ Some y → P y × (test y ≡ true)
found_passes P test [] y all h = absurd (none-some y h)
found_passes {X} P test (x ∷ xs) y all h = at (test x) refl h (found_passes P test xs y (All-tail P x xs all))
  where
    at : (b : Bool) → test x ≡ b → cond b (Some x) (find test xs) ≡ Some y → (find test xs ≡ Some y → P y × (test y ≡ true)) → P y × (test y ≡ true)
    at true is k rest = subst (λ (z : X). P z × (test z ≡ true)) (same_some k) (All-head P x xs all, is)
    at false is k rest = rest k

-- ---- parameters

-- a value that the domain of a parameter has
record IsGiven (o : Option Given) (p : ParamSpace) : Type 0 where
  pub given : Given
  pub is : o ≡ Some given
  pub inside : InDomain p.domain given

module _ (space : Space) (full : Full) where
  among : (ps : List ParamSpace) (xs : List Given) (name : List ℕ) (q : ParamSpace) → AllZip (IsValue space full) ps xs → parameter_named ps name ≡ Some q → IsGiven (value_among ps xs name) q
  among [] xs name q all h = absurd (none-some q h)
  among (p ∷ ps) [] name q all h = absurd all
  among (p ∷ ps) (x ∷ xs) name q all h = at (same_bytes p.name name) h (among ps xs name q all.1)
    where
      at : (b : Bool) → cond b (Some p) (parameter_named ps name) ≡ Some q → (parameter_named ps name ≡ Some q → IsGiven (value_among ps xs name) q) → IsGiven (cond b (Some x) (value_among ps xs name)) q
      at true k rest = record { given = x; is = refl; inside = subst (λ (r : ParamSpace). InDomain r.domain x) (same_some k) all.0.in_domain }
      at false k rest = rest k

  pub none_among : (ps : List ParamSpace) (xs : List Given) (name : List ℕ) → parameter_named ps name ≡ None → value_among ps xs name ≡ None
  none_among [] xs name h = refl
  none_among (p ∷ ps) [] name h = refl
  none_among (p ∷ ps) (x ∷ xs) name h = at (same_bytes p.name name) h (none_among ps xs name)
    where
      at : (b : Bool) → cond b (Some p) (parameter_named ps name) ≡ None → (parameter_named ps name ≡ None → value_among ps xs name ≡ None) → cond b (Some x) (value_among ps xs name) ≡ None
      at true k rest = absurd (none-some p (sym k))
      at false k rest = rest k

  param_given : Valid space full → (name : List ℕ) (p : ParamSpace) → parameter_named space.params name ≡ Some p → IsGiven (value_of space full name) p
  param_given valid name p h = among space.params full.params name p valid.values h

  pub inside_domain : Valid space full → (name : List ℕ) (p : ParamSpace) (given : Given) → parameter_named space.params name ≡ Some p → value_of space full name ≡ Some given → InDomain p.domain given
  inside_domain valid name p given h k =
      let v = param_given valid name p h in
      subst (InDomain p.domain) (same_some (sym v.is ∙ k)) v.inside

-- ---- numbers of a domain

max_least : (a : ℕ) (ns : List ℕ) → a ≤ fold max a ns
max_least a [] = omega arith
max_least a (n ∷ ns) = let h = max_least (max a n) ns in omega arith

max_at : (a : ℕ) (ns : List ℕ) (k d : ℕ) → k < length ns → get_or ns k d ≤ fold max a ns
max_at a [] k d lt = absurd (omega arith)
max_at a (n ∷ ns) zero d lt = let h = max_least (max a n) ns in omega arith
max_at a (n ∷ ns) (suc k) d lt = max_at (max a n) ns k d (omega arith)

-- a number of a domain is at most its greatest
at_most_greatest : (domain : Domain) (n : ℕ) → InDomain domain (g.Number n) → n ≤ greatest domain
at_most_greatest d.Flags n h = absurd h
at_most_greatest (d.Numbers ns) n h = subst (λ m. m ≤ fold max 0 ns) h.2 (max_at 0 ns h.0 n h.1)
at_most_greatest (d.Range low high) n h = h.1
at_most_greatest (d.Words ws) n h = absurd h

max_below : (a limit : ℕ) (ns : List ℕ) → a < limit → All (λ n. n < limit) ns → fold max a ns < limit
max_below a limit [] h all = h
max_below a limit (n ∷ ns) h all =
    let first : n < limit = All-head (λ (m : ℕ). m < limit) n ns all in
    max_below (max a n) limit ns (omega arith) (All-tail (λ (m : ℕ). m < limit) n ns all)

greatest_small : (domain : Domain) → IsReadDomain domain → greatest domain < 2 ^ 64
greatest_small d.Flags h = omega arith
greatest_small (d.Numbers ns) h = max_below 0 (2 ^ 64) ns (omega arith) h
greatest_small (d.Range low high) h = h.1
greatest_small (d.Words ws) h = omega arith

-- a number below 2^64 that the parameter's width holds
pub number_fits : (domain : Domain) (n : ℕ) → IsReadDomain domain → InDomain domain (g.Number n) → (n < 2 ^ 64) × (n < 2 ^ least_width (greatest domain))
number_fits domain n read inside =
    let most : n ≤ greatest domain = at_most_greatest domain n inside in
    let small : greatest domain < 2 ^ 64 = greatest_small domain read in
    let held : greatest domain < 2 ^ least_width (greatest domain) = in_least_width (greatest domain) (omega arith) in
    (omega arith, omega arith)

-- ---- a parameter that is defined

module _ (e : Setting) (valid : Valid e.space e.full) where
  alike : (k n : ℕ) → n ≤ 128 → clip (pos k) ≡ pos n → k ≡ n
  alike k n h is = omega (arith, ints, clamps)

  number_bits : (k n : ℕ) → InRange 1 128 (number_of_width e (wd.Number k)) → IsBits e (wd.Number k) false (plain k n)
  number_bits k n r =
      let m : k ≡ r.n = alike k r.n r.most (sym (number-Number e.space e.full (bits_scope e.program e.variables) k) ∙ r.is) in
      record { number = r.is ∙ ap pos (sym m); low = omega (arith, m, r.least); high = omega (arith, m, r.most); sign = refl }

  given_kind : (domain : Domain) (given : Given) → InDomain domain given → ((w : Width) (s : Bool) → domain_kind domain ≡ of_bits w s → InRange 1 128 (number_of_width e w)) → HasKind e (domain_kind domain) (given_value (least_width (greatest domain)) given)
  given_kind d.Flags (g.Flag b) h sized = tt
  given_kind d.Flags (g.Number n) h sized = absurd h
  given_kind d.Flags (g.Word w) h sized = absurd h
  given_kind (d.Numbers ns) (g.Flag b) h sized = absurd h
  given_kind (d.Numbers ns) (g.Number n) h sized = number_bits (least_width (greatest (d.Numbers ns))) n (sized (wd.Number (least_width (greatest (d.Numbers ns)))) false refl)
  given_kind (d.Numbers ns) (g.Word w) h sized = absurd h
  given_kind (d.Range low high) (g.Flag b) h sized = absurd h
  given_kind (d.Range low high) (g.Number n) h sized = number_bits (least_width high) n (sized (wd.Number (least_width high)) false refl)
  given_kind (d.Range low high) (g.Word w) h sized = absurd h
  given_kind (d.Words ws) (g.Flag b) h sized = absurd h
  given_kind (d.Words ws) (g.Number n) h sized = absurd h
  given_kind (d.Words ws) (g.Word w) h sized = tt

  abbrev given_if : ParamSpace → Bool → Option Given → Option Value
  given_if p defined given = if defined then option_map (given_value (least_width (greatest p.domain))) given else None

  pub has_parameter : (name : List ℕ) (p : ParamSpace) → parameter_named e.space.params name ≡ Some p → holds e.space e.full p.defined ≡ true → HasParameter e name p
  has_parameter name p h defined =
      let v = param_given e.space e.full valid name p h in
      record {
        value = given_value (least_width (greatest p.domain)) v.given;
        is = ap (option_and_then (λ q. given_if q (holds e.space e.full q.defined) (value_of e.space e.full name))) h
            ∙ (ap (λ b. given_if p b (value_of e.space e.full name)) defined ∙ ap (given_if p true) v.is);
        kind = given_kind p.domain v.given v.inside;
      }

  -- ---- the width of a register

  record IsWordWidth (given : Given) : Type 0 where
    pub n : ℕ
    pub is : given ≡ g.Number n
    pub which : (n ≡ 32) ⊎ (n ≡ 64)

  listed_width : (domain : Domain) (given : Given) → ListsWidths domain → InDomain domain given → IsWordWidth given
  listed_width d.Flags given lists h = absurd lists
  listed_width (d.Numbers ns) (g.Flag b) lists h = absurd h
  listed_width (d.Numbers ns) (g.Number n) lists h = record {
    n = n;
    is = refl;
    which = subst (λ m. (m ≡ 32) ⊎ (m ≡ 64)) h.2 (All-get_or (λ m. (m ≡ 32) ⊎ (m ≡ 64)) ns h.0 n h.1 lists);
  }
  listed_width (d.Numbers ns) (g.Word w) lists h = absurd h
  listed_width (d.Range low high) given lists h = absurd lists
  listed_width (d.Words ws) given lists h = absurd lists

  -- registers have 32 or 64 bits, as their width says
  pub record AreWide : Type 0 where
    pub which : (registers e ≡ 32) ⊎ (registers e ≡ 64)
    pub number : number_of_width e (register_width e.space.params) ≡ pos (registers e)

  small_width : (n : ℕ) → (n ≡ 32) ⊎ (n ≡ 64) → clip (pos n) ≡ pos n
  small_width n (inl h) = omega (arith, ints, clamps)
  small_width n (inr h) = omega (arith, ints, clamps)

  abbrev width_if : Bool → Width
  width_if given = if given then wd.Word (codes "MXLEN") else wd.Number 32

  given_width : (given : Given) → value_of e.space e.full (codes "MXLEN") ≡ Some given → is_some (parameter_named e.space.params (codes "MXLEN")) ≡ true → IsWordWidth given → AreWide
  given_width given v there w =
      let value : value_of e.space e.full (codes "MXLEN") ≡ Some (g.Number w.n) = v ∙ ap Some w.is in
      let size : registers e ≡ w.n = ap (number_or 32) value in
      let number : clip (pos (number_or 0 (value_of e.space e.full (codes "MXLEN")))) ≡ clip (pos w.n) = ap (λ x. clip (pos (number_or 0 x))) value in
      record {
        which = subst (λ m. (m ≡ 32) ⊎ (m ≡ 64)) (sym size) w.which;
        number = ap (λ b. number_of_width e (width_if b)) there
            ∙ (number-Word e.space e.full (bits_scope e.program e.variables) (codes "MXLEN") ∙ (number ∙ (small_width w.n w.which ∙ ap pos (sym size))));
      }

  pub are_wide : Lawful e.space → AreWide
  are_wide lawful = at (parameter_named e.space.params (codes "MXLEN")) refl
    where
      at : (o : Option ParamSpace) → parameter_named e.space.params (codes "MXLEN") ≡ o → AreWide
      at None is =
          let size : registers e ≡ 32 = ap (number_or 32) (none_among e.space e.full e.space.params e.full.params (codes "MXLEN") is) in
          record { which = inl size; number = ap (λ b. number_of_width e (width_if b)) (ap is_some is) ∙ (number_is e 32 (omega arith) ∙ ap pos (sym size)) }
      at (Some p) is =
          let f = found_passes (IsLawfulParam e.space) (λ q. same_bytes q.name (codes "MXLEN")) e.space.params p lawful.params is in
          let v = param_given e.space e.full valid (codes "MXLEN") p is in
          given_width v.given v.is (ap is_some is) (listed_width p.domain v.given (f.0.widths ((bytes_decides p.name (codes "MXLEN")).0 f.1)) v.inside)

  least : (n : ℕ) → (n ≡ 32) ⊎ (n ≡ 64) → 1 ≤ n
  least n (inl h) = omega arith
  least n (inr h) = omega arith

  most : (n : ℕ) → (n ≡ 32) ⊎ (n ≡ 64) → n ≤ 128
  most n (inl h) = omega arith
  most n (inr h) = omega arith

  pub have_width : Lawful e.space → Registers e
  have_width lawful =
      let wide = are_wide lawful in
      record { number = wide.number; low = least (registers e) wide.which; high = most (registers e) wide.which }

-- ---- extensions

pub choice_there : (space : Space) (full : Full) (es : List ExtSpace) (cs : List (Option Version)) (name : List ℕ) → AllZip (IsChoice space full) es cs → list_any (λ x. same_bytes x.name name) es ≡ true → is_some (choice_among es cs name) ≡ true
choice_there space full [] cs name all h = absurd (false≢true h)
choice_there space full (x ∷ es) [] name all h = absurd all
choice_there space full (x ∷ es) (c ∷ cs) name all h = at (same_bytes x.name name) h (choice_there space full es cs name all.1)
  where
    at : (b : Bool) → (b || list_any (λ y. same_bytes y.name name) es) ≡ true → (list_any (λ y. same_bytes y.name name) es ≡ true → is_some (choice_among es cs name) ≡ true) → is_some (cond b (Some c) (choice_among es cs name)) ≡ true
    at true k rest = refl
    at false k rest = rest k
