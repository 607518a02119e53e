-- Full configurations that show a fault of two fields, or of one, for each width of the registers.
use Rattle.std.proofs.Common.{◌≡◌, ◌⊎◌, ◌∙◌, inl, inr, ℕ, ◌≤◌, ◌&&◌, ◌==◌, max, nat_le, Bool, true, false, [], ◌∷◌, Option, None, Some, length, arith, refl, sym, ap, subst}
use Rattle.std.specs.Prelude.{All, IfSome, if◌then◌else◌, Result, Ok, Err, IfOk}
use Rattle.std.proofs.lemmas.Bool.{false≢true, and_parts, and_from}
use Rattle.std.proofs.lemmas.Bool.Decides.{nat_tests}
use Rattle.std.proofs.lemmas.List.Elements.{All-nil}
use Rattle.udb_base.specs.declared.refutations.Partial.{Partial}
use Rattle.udb_base.specs.declared.spaces.Space.{Space}
use Rattle.udb_base.specs.declared.spaces.Full.{Full}
use Rattle.udb_spec.specs.Conditions.{holds}
use Rattle.udb_spec.specs.CondLaws.{holds-All}
use Rattle.udb_spec.specs.Spaces.{Valid, Completes, mxlen}
use Rattle.udb_spec.specs.Lawful.{Lawful}
use Rattle.idl_tree.specs.declared.programs.BitPart.{BitPart}
use Rattle.idl_tree.specs.declared.programs.FieldPlaces.{FieldPlaces}
use Rattle.idl_tree.specs.declared.programs.FieldPlaces.TheVariants as places
use Rattle.idl_tree.specs.declared.programs.FieldBodies.{FieldBodies}
use Rattle.idl_tree.specs.declared.programs.CsrBody.{CsrBody}
use Rattle.idl_spec.specs.Fields.{place_for}
use Rattle.udb_csr.specs.Faults.{IsPart, ArePlaces, HasBit, length_for, HasFieldBit, SharesBit, PassesLength}
use Rattle.udb_csr.specs.Steps.{both_meet, parts_meet, is_past, passes, width_is, both_present, ArePresent, IsShown, IsWidth, SharesFor, PassesFor}
use Rattle.udb_csr.proofs.WidthLaws.{width-cases, width-from, width-to}

-- ---- the condition that a CSR and two fields are present

module _ (space : Space) (csr : CsrBody) (one other : FieldBodies) (n : ℕ) (full : Full) where
  conditions : holds space full (both_present space csr one other n) ≡ (holds space full csr.present && (holds space full one.present && (holds space full other.present && (holds space full (width_is space n) && true))))
  conditions = holds-All space full (csr.present ∷ one.present ∷ other.present ∷ width_is space n ∷ [])

  pub present-from : Lawful space → Valid space full → IsWidth n → holds space full (both_present space csr one other n) ≡ true → ArePresent space csr one other n full
  present-from lawful valid w h =
      let a : (holds space full csr.present ≡ true) × ((holds space full one.present && (holds space full other.present && (holds space full (width_is space n) && true))) ≡ true) = and_parts _ _ (sym conditions ∙ h) in
      let b : (holds space full one.present ≡ true) × ((holds space full other.present && (holds space full (width_is space n) && true)) ≡ true) = and_parts _ _ a.1 in
      let d : (holds space full other.present ≡ true) × ((holds space full (width_is space n) && true) ≡ true) = and_parts _ _ b.1 in
      let e : (holds space full (width_is space n) ≡ true) × (true ≡ true) = and_parts _ _ d.1 in
      record { valid = valid; csr_present = a.0; one_present = b.0; other_present = d.0; width = width-from space full lawful valid n w e.0 }

  pub present-to : Lawful space → IsWidth n → ArePresent space csr one other n full → holds space full (both_present space csr one other n) ≡ true
  present-to lawful w are =
      conditions ∙ and_from _ _ are.csr_present (and_from _ _ are.one_present (and_from _ _ are.other_present (and_from _ _ (width-to space full lawful are.valid n w are.width) refl)))

pub completes-empty : (space : Space) (part : Partial) (full : Full) → part.constraints ≡ [] → Valid space full → Completes space part full
completes-empty space part full none valid = record {
  valid = valid;
  constraints = subst (All (λ d. holds space full d ≡ true)) (sym none) (All-nil (λ d. holds space full d ≡ true));
}

-- ---- the bits of fields

parts-of : (n : ℕ) (ps : FieldPlaces) → ArePlaces ps → IfSome (place_for n ps) IsPart
parts-of n (places.All part) are = are
parts-of n (places.ByBase rv32 rv64) are = by-base (n == 64) are where
  by-base : (b : Bool) → IfSome rv32 IsPart × IfSome rv64 IsPart → IfSome (if b then rv64 else rv32) IsPart
  by-base true are = are.1
  by-base false are = are.0

record Common (first second : Option BitPart) : Type 0 where
  one : BitPart
  other : BitPart
  bit : ℕ
  one_is : first ≡ Some one
  other_is : second ≡ Some other
  one_has : HasBit one bit
  other_has : HasBit other bit

le-true : (a b : ℕ) → nat_le a b ≡ true → a ≤ b
le-true a b h = grind (arith, nat_tests)

le-from : (a b : ℕ) → a ≤ b → nat_le a b ≡ true
le-from a b h = grind (arith, nat_tests)

common-from : (first second : Option BitPart) → IfSome first IsPart → IfSome second IsPart → both_meet first second ≡ true → Common first second
common-from None second p q h = absurd (false≢true h)
common-from (Some one) None p q h = absurd (false≢true h)
common-from (Some one) (Some other) p q h =
    let parts : (nat_le one.low other.high ≡ true) × (nat_le other.low one.high ≡ true) = and_parts (nat_le one.low other.high) (nat_le other.low one.high) h in
    let a : one.low ≤ other.high = le-true one.low other.high parts.0 in
    let b : other.low ≤ one.high = le-true other.low one.high parts.1 in
    record { one = one; other = other; bit = max one.low other.low; one_is = refl; other_is = refl; one_has = (omega arith, omega (arith, p, b)); other_has = (omega arith, omega (arith, q, a)) }

common-to : (first second : Option BitPart) (one other : BitPart) (bit : ℕ) → first ≡ Some one → second ≡ Some other → HasBit one bit → HasBit other bit → both_meet first second ≡ true
common-to first second one other bit e f p q =
    ap (λ o. both_meet o second) e ∙ (ap (both_meet (Some one)) f ∙ and_from _ _ (le-from one.low other.high (omega (arith, p.0, q.1))) (le-from other.low one.high (omega (arith, q.0, p.1))))

module _ (space : Space) (csr : CsrBody) where
  field-bit : (field : FieldBodies) (full : Full) (n bit : ℕ) (part : BitPart) → Valid space full → holds space full csr.present ≡ true → holds space full field.present ≡ true → mxlen space full ≡ n → place_for n field.places ≡ Some part → HasBit part bit → HasFieldBit space csr field full bit
  field-bit field full n bit part valid present own width place has = record { valid = valid; csr_present = present; present = own; part = part; place = ap (λ w. place_for w field.places) width ∙ place; has = has }

  module _ (one other : FieldBodies) (n : ℕ) (full : Full) where
    shares-by : ArePresent space csr one other n full → Common (place_for n one.places) (place_for n other.places) → SharesFor space csr one other n full
    shares-by are common = record {
      shares = record {
        bit = common.bit;
        first = field-bit one full n common.bit common.one are.valid are.csr_present are.one_present are.width common.one_is common.one_has;
        second = field-bit other full n common.bit common.other are.valid are.csr_present are.other_present are.width common.other_is common.other_has;
      };
      width = are.width;
    }

    pub shares-from : ArePlaces one.places → ArePlaces other.places → parts_meet n one.places other.places ≡ true → ArePresent space csr one other n full → SharesFor space csr one other n full
    shares-from p q meet are = shares-by are (common-from (place_for n one.places) (place_for n other.places) (parts-of n one.places p) (parts-of n other.places q) meet)

    pub shares-present : SharesFor space csr one other n full → ArePresent space csr one other n full
    shares-present s = record { valid = s.shares.first.valid; csr_present = s.shares.first.csr_present; one_present = s.shares.first.present; other_present = s.shares.second.present; width = s.width }

    pub shares-meet : SharesFor space csr one other n full → parts_meet n one.places other.places ≡ true
    shares-meet s =
        common-to (place_for n one.places) (place_for n other.places) s.shares.first.part s.shares.second.part s.shares.bit
        (ap (λ w. place_for w one.places) (sym s.width) ∙ s.shares.first.place) (ap (λ w. place_for w other.places) (sym s.width) ∙ s.shares.second.place) s.shares.first.has s.shares.second.has

  -- shared bits for neither width are none
  shares-by-width : (one other : FieldBodies) (full : Full) → IsWidth (mxlen space full) → SharesBit space csr one other full → SharesFor space csr one other 32 full ⊎ SharesFor space csr one other 64 full
  shares-by-width one other full (inl e) s = inl (record { shares = s; width = e })
  shares-by-width one other full (inr e) s = inr (record { shares = s; width = e })

  pub shares-none : Lawful space → (one other : FieldBodies) → ((full : Full) → SharesFor space csr one other 32 full → ⊥) → ((full : Full) → SharesFor space csr one other 64 full → ⊥) → (full : Full) → SharesBit space csr one other full → ⊥
  shares-none lawful one other f g full s = by (shares-by-width one other full (width-cases space full lawful s.first.valid) s) where
    by : SharesFor space csr one other 32 full ⊎ SharesFor space csr one other 64 full → ⊥
    by (inl x) = f full x
    by (inr x) = g full x

  -- ---- the length

  record Past (length : ℕ) (o : Option BitPart) : Type 0 where
    part : BitPart
    is : o ≡ Some part
    past : length ≤ part.high
    low : part.low ≤ part.high

  past-from : (length : ℕ) (o : Option BitPart) → IfSome o IsPart → is_past length o ≡ true → Past length o
  past-from length None p h = absurd (false≢true h)
  past-from length (Some part) p h = record { part = part; is = refl; past = le-true length part.high h; low = p }

  module _ (field : FieldBodies) (n : ℕ) (full : Full) where
    passes-by : ArePresent space csr field field n full → Past (length_for n csr.length) (place_for n field.places) → PassesFor space csr field n full
    passes-by are past = record {
      passes = record {
        bit = past.part.high;
        has = field-bit field full n past.part.high past.part are.valid are.csr_present are.one_present are.width past.is (past.low, omega arith);
        past = subst (λ w. length_for w csr.length ≤ past.part.high) (sym are.width) past.past;
      };
      width = are.width;
    }

    pub passes-from : ArePlaces field.places → passes n csr.length field.places ≡ true → ArePresent space csr field field n full → PassesFor space csr field n full
    passes-from p h are = passes-by are (past-from (length_for n csr.length) (place_for n field.places) (parts-of n field.places p) h)

    pub passes-present : PassesFor space csr field n full → ArePresent space csr field field n full
    passes-present s = record { valid = s.passes.has.valid; csr_present = s.passes.has.csr_present; one_present = s.passes.has.present; other_present = s.passes.has.present; width = s.width }

    past-to : (length bit : ℕ) (o : Option BitPart) (part : BitPart) → o ≡ Some part → length ≤ bit → bit ≤ part.high → is_past length o ≡ true
    past-to length bit o part e p q = ap (is_past length) e ∙ le-from length part.high (omega (arith, p, q))

    pub passes-test : PassesFor space csr field n full → passes n csr.length field.places ≡ true
    passes-test s =
        past-to (length_for n csr.length) s.passes.bit (place_for n field.places) s.passes.has.part (ap (λ w. place_for w field.places) (sym s.width) ∙ s.passes.has.place)
        (subst (λ w. length_for w csr.length ≤ s.passes.bit) s.width s.passes.past) s.passes.has.has.1

  pub passes-none : Lawful space → (field : FieldBodies) → ((full : Full) → PassesFor space csr field 32 full → ⊥) → ((full : Full) → PassesFor space csr field 64 full → ⊥) → (full : Full) → PassesLength space csr field full → ⊥
  passes-none lawful field f g full s = by (width-cases space full lawful s.has.valid) where
    by : IsWidth (mxlen space full) → ⊥
    by (inl e) = f full (record { passes = s; width = e })
    by (inr e) = g full (record { passes = s; width = e })

-- ---- what is shown of an answer

pub shown-as : {E : Type 0} (P Q : Full → Type 0) (r : Result (Option Full) E) → ((f : Full) → P f → Q f) → ((f : Full) → Q f → P f) → IfOk r (IsShown P) → IfOk r (IsShown Q)
shown-as P Q (Err e) to from h = tt
shown-as P Q (Ok None) to from h = λ f q. h f (from f q)
shown-as P Q (Ok (Some f)) to from h = to f h

pub shown-last : {E : Type 0} (P Q : Full → Type 0) (r : Result (Option Full) E) → ((f : Full) → P f → Q f) → (((f : Full) → P f → ⊥) → (f : Full) → Q f → ⊥) → IfOk r (IsShown P) → IfOk r (IsShown Q)
shown-last P Q (Err e) to none h = tt
shown-last P Q (Ok None) to none h = none h
shown-last P Q (Ok (Some f)) to none h = to f h
