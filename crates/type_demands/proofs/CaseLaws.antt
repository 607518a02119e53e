-- Conditions that hold where a demand on widths is broken.
use Rattle.std.proofs.Common.{◌≡◌, ◌∙◌, ◌⊎◌, inl, inr, ℕ, zero, suc, ◌+◌, ◌-◌, ◌<◌, ◌≤◌, ◌==◌, ◌||◌, ◌&&◌, ◌++◌, min, nat_le, Bool, true, false, not, List, [], ◌∷◌, map, take, drop, length, get_or, Option, None, Some, add-one, arith, refl, sym, ap, subst}
use Rattle.std.specs.Prelude.{IsTrue, AllPairs, Contains, slice_get, if◌then◌else◌}
use Rattle.std.specs.List.{AllZip, list_any, range_with_len}
use Rattle.std.proofs.lemmas.Bool.{false≢true, eqb-true, eq-eqb}
use Rattle.std.proofs.lemmas.Bool.Decides.{nat_tests}
use Rattle.std.proofs.lemmas.Int.{ints, clamps}
use Rattle.std.proofs.lemmas.List.Folds.{list_any-append, list_any_more}
use Rattle.udb_base.specs.declared.names.Name.{Name}
use Rattle.udb_base.specs.declared.conditions.Cond.{Cond}
use Rattle.udb_base.specs.declared.conditions.Cond.TheVariants as c
use Rattle.udb_base.specs.declared.conditions.Test.{Test}
use Rattle.udb_base.specs.declared.conditions.Test.TheVariants as t
use Rattle.udb_base.specs.declared.conditions.Value.{Value}
use Rattle.udb_base.specs.declared.conditions.Value.TheVariants.{Flag, Number, Word}
use Rattle.udb_base.specs.declared.spaces.Domain.{Domain}
use Rattle.udb_base.specs.declared.spaces.Domain.TheVariants.{Flags, Numbers, Range, Words}
use Rattle.udb_base.specs.declared.spaces.ParamSpace.{ParamSpace}
use Rattle.udb_base.specs.declared.spaces.Space.{Space}
use Rattle.udb_base.specs.declared.spaces.Full.{Full}
use Rattle.udb_spec.specs.Conditions.{holds, value_among, value_of, passes, option_passes}
use Rattle.udb_spec.specs.CondLaws.{holds-Always, holds-Never, holds-Param, holds-All, holds-Any}
use Rattle.udb_spec.specs.Lawful.{name_lt, Lawful}
use Rattle.udb_spec.specs.Spaces.{Valid, IsValue, InDomain, number_or}
use Rattle.udb_cond.proofs.Completions.{lt-differs}
use Rattle.std.proofs.lemmas.Option.{get_or_from_slice_get, slice_get_read}
use Rattle.std.proofs.lemmas.List.FromFn.{get_or-range_with_len, length-range_with_len}
use Rattle.std.proofs.lemmas.List.Folds.{list_any-from_Any}
use Rattle.idl_width.specs.declared.scopes.BitsOf.{BitsOf}
use Rattle.idl_width.specs.Numbers.{parameter_number}
use Rattle.idl_spec.specs.Demands.{Demand}
use Rattle.type_demands.specs.Reads.{demand_reads, widths_meet, Alike, Agrees, full_with}
use Rattle.type_demands.specs.Cases.{has_numbers, listed_numbers, has_more, is_broken, verdict, case_cond, is_case, IsBreach, IsExact, IsParamAt, HoldsEither, AddsCase, HoldsAny, HoldsAsAny, HoldsWhereBroken}
use Rattle.type_demands.proofs.ReadLaws.{same-self, answer-found}

-- ---- parts of a condition

any-map : (space : Space) (full : Full) (parts : List Cond) → list_any (λ b. b) (map (holds space full) parts) ≡ list_any (holds space full) parts
any-map space full [] = refl
any-map space full (x ∷ xs) = ap (λ b. holds space full x || b) (any-map space full xs)

any-is : (space : Space) (full : Full) (parts : List Cond) → holds space full (c.Any parts) ≡ list_any (holds space full) parts
any-is space full parts = holds-Any space full parts ∙ any-map space full parts

or-last : (a b : Bool) → (a || (b || false)) ≡ (a || b)
or-last true b = refl
or-last false true = refl
or-last false false = refl

or-none : (a : Bool) → a ≡ (a || false)
or-none true = refl
or-none false = refl

pub any-more : (parts : List Cond) (cond : Cond) (after : List Cond) → after ≡ parts ++ cond ∷ [] → HoldsEither parts cond after
any-more parts cond after e = record {
  law = λ space full. ap (λ ps. holds space full (c.Any ps)) e
      ∙ (any-is space full (parts ++ cond ∷ []) ∙ (list_any-append (holds space full) parts (cond ∷ [])
      ∙ (or-last (list_any (holds space full) parts) (holds space full cond) ∙ ap (λ b. b || holds space full cond) (sym (any-is space full parts)))));
}

case-is : (space : Space) (full : Full) (name : Name) (test : Test) (n : ℕ) (rest : Cond) → holds space full (case_cond name test n rest) ≡ (holds space full rest && is_case space full name test n)
case-is space full name test n rest =
    holds-All space full (rest ∷ c.Param name test (Number n) ∷ [])
    ∙ (and-last (holds space full rest) (holds space full (c.Param name test (Number n)))
    ∙ ap (λ b. holds space full rest && b) (holds-Param space full name test (Number n)))
  where
    and-last : (a b : Bool) → (a && (b && true)) ≡ (a && b)
    and-last true true = refl
    and-last true false = refl
    and-last false b = refl

pub case-left-out : (parts : List Cond) (name : Name) (test : Test) (n : ℕ) (rest : Cond) → rest ≡ c.Never → HoldsEither parts (case_cond name test n rest) parts
case-left-out parts name test n rest never = record {
  law = λ space full. or-none (holds space full (c.Any parts))
      ∙ ap (λ b. holds space full (c.Any parts) || b) (sym (case-is space full name test n rest ∙ ap (λ b. b && is_case space full name test n) (ap (holds space full) never ∙ holds-Never space full)));
}

-- ---- numbers from a low one on

range-suc : (low n : ℕ) → range_with_len low (suc n) ≡ range_with_len low n ++ (low + n) ∷ []
range-suc low zero = ap (λ k. k ∷ []) (omega arith)
range-suc low (suc n) = ap (λ ks. low ∷ ks) (range-suc (low + 1) n ∙ ap (λ k. range_with_len (low + 1) n ++ k ∷ []) (omega arith))

pub range-more : (low n : ℕ) → range_with_len low (n + 1) ≡ range_with_len low n ++ (low + n) ∷ []
range-more low n = rw add-one (range-suc low n)

pub ruleset number_steps = (range-more)

pub any-as : (parts : List Cond) (cond : Cond) → cond ≡ c.Any parts → HoldsAsAny parts cond
any-as parts cond e = record { law = λ space full. ap (holds space full) e }

pub any-never : (parts : List Cond) (cond : Cond) → parts ≡ [] → cond ≡ c.Never → HoldsAsAny parts cond
any-never parts cond none never = record {
  law = λ space full. ap (holds space full) never ∙ (holds-Never space full ∙ sym (ap (λ ps. holds space full (c.Any ps)) none ∙ holds-Any space full []));
}

pub ruleset case_laws = (any-more, case-left-out, any-as, any-never)

-- ---- what a value is counted as

pub exact-equal : (n : ℕ) → IsExact t.Equal n
exact-equal n = record { each = by } where
  by : (x : Value) → passes t.Equal x (Number n) ≡ true → Alike n (number_or 0 (Some x))
  by (Flag b) h = absurd (false≢true h)
  by (Word w) h = absurd (false≢true h)
  by (Number k) h = subst (λ m. Alike m k) (eqb-true k n h) refl

pub exact-most : IsExact t.AtLeast 1000000
exact-most = record { each = by } where
  past : (k : ℕ) → nat_le 1000000 k ≡ true → Alike 1000000 k
  past k h = let above : 1000000 ≤ k = grind (arith, nat_tests) in omega (arith, ints, clamps)

  by : (x : Value) → passes t.AtLeast x (Number 1000000) ≡ true → Alike 1000000 (number_or 0 (Some x))
  by (Flag b) h = absurd (false≢true h)
  by (Word w) h = absurd (false≢true h)
  by (Number k) h = past k h

-- ---- the parameter at a place

pub at-index : (ps : List ParamSpace) (place : ℕ) (p : ParamSpace) → place < length ps → p ≡ get_or ps place p → slice_get ps place ≡ Some p
at-index ps place p within e = slice_get_read ps (length ps) place p refl within e

pub drop-at : (ps : List ParamSpace) (place : ℕ) (p : ParamSpace) → slice_get ps place ≡ Some p → drop place ps ≡ p ∷ drop (place + 1) ps
drop-at [] place p e = cc
drop-at (q ∷ ps) zero p e = cc
drop-at (q ∷ ps) (suc n) p e = rw add-one (drop-at ps n p e ∙ ap (λ k. p ∷ drop k ps) (add-one n))

pub inside : (ps : List ParamSpace) (place : ℕ) (p : ParamSpace) → slice_get ps place ≡ Some p → place < length ps
inside [] place p e = cc
inside (q ∷ ps) zero p e = omega arith
inside (q ∷ ps) (suc n) p e = let h = inside ps n p e in omega (arith, h)

module _ (space : Space) (full : Full) where
  abbrev ValueAt : List ParamSpace → List Value → ParamSpace → Type 0
  ValueAt ps xs p = (x : Value) × ((value_among ps xs p.name ≡ Some x) × InDomain p.domain x)

  value-in : (ps : List ParamSpace) (xs : List Value) (place : ℕ) (p : ParamSpace) → AllPairs (λ a b. IsTrue (name_lt a.name b.name)) ps → AllZip (IsValue space full) ps xs → slice_get ps place ≡ Some p → ValueAt ps xs p
  value-in [] xs place p rising zip e = cc
  value-in (q ∷ ps) [] place p rising zip e = absurd zip
  value-in (q ∷ ps) (x ∷ xs) zero p rising zip e = subst (λ r. ValueAt (q ∷ ps) (x ∷ xs) r) (same e) (x, (rw (same-self q.name) refl, zip.0.in_domain))
    where
      same : Some q ≡ Some p → q ≡ p
      same e = cc
  value-in (q ∷ ps) (x ∷ xs) (suc n) p rising zip e =
      let rest = value-in ps xs n p (λ i j d lt within. rising (suc i) (suc j) d (omega arith) (omega arith)) zip.1 e in
      let item : get_or ps n p ≡ p = get_or_from_slice_get ps n p p e in
      let below : IsTrue (name_lt q.name p.name) = subst (λ r. IsTrue (name_lt q.name r.name)) item (rising 0 (suc n) p (omega arith) (let k = inside ps n p e in omega (arith, k))) in
      (rest.0, (rw (lt-differs q.name p.name below) rest.1.0, rest.1.1))

  pub value-at : Lawful space → Valid space full → (place : ℕ) (p : ParamSpace) → IsParamAt space place p → ValueAt space.params full.params p
  value-at lawful valid place p e = value-in space.params full.params place p lawful.param_names valid.values e

-- ---- all numbers of a domain are tried

contains-any : (f : ℕ → Bool) (ns : List ℕ) (m : ℕ) → Contains ns m → f m ≡ true → list_any f ns ≡ true
contains-any f ns m among h = list_any-from_Any f ns (among.0, m, among.1, among.2, h)

in-run : (low len m : ℕ) → low ≤ m → m < low + len → Contains (range_with_len low len) m
in-run low len m above below =
    (m - low, (let k = length-range_with_len low len in omega (arith, k)), get_or-range_with_len low len (m - low) m (omega arith) ∙ omega arith)

or-first : (a b : Bool) → a ≡ true → (a || b) ≡ true
or-first true b h = refl
or-first false b h = absurd (false≢true h)

or-second : (a b : Bool) → b ≡ true → (a || b) ≡ true
or-second true b h = refl
or-second false b h = h

and-both : (a b : Bool) → a ≡ true → b ≡ true → (a && b) ≡ true
and-both true b h k = k
and-both false b h k = absurd (false≢true h)

le-true : (a b : ℕ) → a ≤ b → nat_le a b ≡ true
le-true a b h = grind (arith, nat_tests)

abbrev IsTried : Domain → Value → Type 0
IsTried d x = (list_any (λ n. passes t.Equal x (Number n)) (listed_numbers d) || (has_more d && passes t.AtLeast x (Number 1000000))) ≡ true

number-is-tried : (d : Domain) (x : Value) → has_numbers d ≡ true → InDomain d x → IsTried d x
number-is-tried (Numbers ns) (Number m) h among = or-first _ _ (contains-any (λ n. m == n) ns m among (eq-eqb m m refl))
number-is-tried (Numbers ns) (Flag b) h among = absurd among
number-is-tried (Numbers ns) (Word b) h among = absurd among
number-is-tried (Range low high) (Flag b) h among = absurd among
number-is-tried (Range low high) (Word b) h among = absurd among
number-is-tried (Range low high) (Number m) h among = by (nat_le 1000000 m) refl where
  few : (m : ℕ) → nat_le 1000000 m ≡ false → m < 1000000
  few m e = grind (arith, nat_tests)

  many : (m : ℕ) → nat_le 1000000 m ≡ true → 1000000 ≤ m
  many m e = grind (arith, nat_tests)

  by : (b : Bool) → nat_le 1000000 m ≡ b → IsTried (Range low high) (Number m)
  by true e = or-second (list_any (λ n. m == n) (range_with_len low (min high 999999 + 1 - low))) _ (and-both (nat_le 1000000 high) (nat_le 1000000 m) (le-true 1000000 high (let k = many m e in omega (arith, k, among.1))) e)
  by false e = or-first _ _ (contains-any (λ n. m == n) (range_with_len low (min high 999999 + 1 - low)) m (in-run low (min high 999999 + 1 - low) m among.0 (let k = few m e in omega (arith, k, among.0, among.1))) (eq-eqb m m refl))
number-is-tried Flags x h among = absurd (false≢true h)
number-is-tried (Words ws) x h among = absurd (false≢true h)

no-number : (d : Domain) (x : Value) → has_numbers d ≡ false → InDomain d x → number_or 0 (Some x) ≡ 0
no-number (Numbers ns) x h among = absurd (false≢true (sym h))
no-number (Range low high) x h among = absurd (false≢true (sym h))
no-number Flags (Flag b) h among = refl
no-number Flags (Number b) h among = absurd among
no-number Flags (Word b) h among = absurd among
no-number (Words ws) (Word b) h among = refl
no-number (Words ws) (Flag b) h among = absurd among
no-number (Words ws) (Number b) h among = absurd among

-- ---- breaches

verdict-holds : (space : Space) (full : Full) (b : Bool) → holds space full (if b then c.Never else c.Always) ≡ not b
verdict-holds space full true = holds-Never space full
verdict-holds space full false = holds-Always space full

module _ (space : Space) (scope : List BitsOf) (one : Demand) where
  pub breach-at-end : (left : ℕ) (ns : List ℕ) (cond : Cond) → left ≡ 0 → cond ≡ verdict space scope one ns → IsBreach space scope one left ns cond
  breach-at-end left ns cond end e = record {
    law = λ full valid agree. ap (holds space full) e
        ∙ (verdict-holds space full (widths_meet space scope one (full_with ns))
        ∙ ap not (answer-found space full scope one ns (subst (λ k. Agrees (demand_reads one) space full (drop k space.params) ns) end agree)));
  }

  agree-more : (full : Full) (place n : ℕ) (ns : List ℕ) (p : ParamSpace) → IsParamAt space place p
      → (demand_reads one p.name ≡ true → Alike n (parameter_number space full p.name))
      → Agrees (demand_reads one) space full (drop (place + 1) space.params) ns
      → Agrees (demand_reads one) space full (drop place space.params) (n ∷ ns)
  agree-more full place n ns p at alike rest = subst (λ ps. Agrees (demand_reads one) space full ps (n ∷ ns)) (sym (drop-at space.params place p at)) (alike, rest)

  pub breach-unread : (place left : ℕ) (ns : List ℕ) (p : ParamSpace) (cond : Cond) → Lawful space → left ≡ place + 1 → IsParamAt space place p
      → (demand_reads one p.name ≡ false) ⊎ (has_numbers p.domain ≡ false)
      → IsBreach space scope one place (0 ∷ ns) cond → IsBreach space scope one left ns cond
  breach-unread place left ns p cond lawful next at unread rest = record {
    law = λ full valid agree. rest.law full valid (agree-more full place 0 ns p at (alike full valid unread) (subst (λ k. Agrees (demand_reads one) space full (drop k space.params) ns) next agree));
  } where
    alike : (full : Full) → Valid space full → (demand_reads one p.name ≡ false) ⊎ (has_numbers p.domain ≡ false) → demand_reads one p.name ≡ true → Alike 0 (parameter_number space full p.name)
    alike full valid (inl unread) read = absurd (false≢true (sym unread ∙ read))
    alike full valid (inr none) read =
        let v = value-at space full lawful valid place p at in
        subst (λ k. Alike 0 k) (sym (ap (number_or 0) v.1.0 ∙ no-number p.domain v.0 none v.1.1)) refl

  both-of : (u h b : Bool) → (h ≡ true → u ≡ b) → (u && h) ≡ (h && b)
  both-of true true b e = e refl
  both-of true false b e = refl
  both-of false true b e = e refl
  both-of false false b e = refl

  passes-alike : (full : Full) (name : Name) (test : Test) (n : ℕ) (o : Option Value) → IsExact test n → option_passes test o (Number n) ≡ true → Alike n (number_or 0 o)
  passes-alike full name test n None exact h = absurd (false≢true h)
  passes-alike full name test n (Some x) exact h = exact.each x h

  pub case-added : (place n : ℕ) (ns : List ℕ) (p : ParamSpace) (test : Test) (rest : Cond) (before after : List Cond) → IsParamAt space place p → IsExact test n
      → IsBreach space scope one place (n ∷ ns) rest → HoldsEither before (case_cond p.name test n rest) after
      → AddsCase space scope one (place + 1) ns p.name test n before after
  case-added place n ns p test rest before after at exact breach either = record {
    law = λ full valid agree. either.law space full ∙ ap (λ b. holds space full (c.Any before) || b)
        (case-is space full p.name test n rest ∙ both-of (holds space full rest) (is_case space full p.name test n) (is_broken space scope one full)
        (λ h. breach.law full valid (agree-more full place n ns p at (λ read. passes-alike full p.name test n (value_of space full p.name) exact h) agree)));
  }

  pub none-listed : (place : ℕ) (ns : List ℕ) (name : Name) (parts : List Cond) → parts ≡ [] → HoldsAny space scope one place ns name [] parts
  none-listed place ns name parts none = record {
    law = λ full valid agree. ap (λ ps. holds space full (c.Any ps)) none ∙ holds-Any space full [];
  }

  join : (a u h : Bool) → ((a && u) || (h && u)) ≡ ((a || h) && u)
  join true true h = refl
  join true false true = refl
  join true false false = refl
  join false u h = refl

  pub one-more-listed : (place i n : ℕ) (ns listed : List ℕ) (p : ParamSpace) (rest : Cond) (before after : List Cond) → IsParamAt space place p → i < length listed → n ≡ get_or listed i 0
      → HoldsAny space scope one (place + 1) ns p.name (take i listed) before
      → IsBreach space scope one place (n ∷ ns) rest → HoldsEither before (case_cond p.name t.Equal n rest) after
      → HoldsAny space scope one (place + 1) ns p.name (take (i + 1) listed) after
  one-more-listed place i n ns listed p rest before after at within item so-far breach either =
      let added = case-added place n ns p t.Equal rest before after at (exact-equal n) breach either in
      record {
        law = λ full valid agree. added.law full valid agree
            ∙ (ap (λ b. b || (is_case space full p.name t.Equal n && is_broken space scope one full)) (so-far.law full valid agree)
            ∙ (join (list_any (is_case space full p.name t.Equal) (take i listed)) (is_broken space scope one full) (is_case space full p.name t.Equal n)
            ∙ ap (λ b. b && is_broken space scope one full) (ap (λ k. list_any (is_case space full p.name t.Equal) (take i listed) || is_case space full p.name t.Equal k) item ∙ sym (list_any_more (is_case space full p.name t.Equal) listed i 0 within))));
      }

  -- all numbers were tried
  all-tried : (full : Full) (place : ℕ) (p : ParamSpace) → Lawful space → Valid space full → IsParamAt space place p → has_numbers p.domain ≡ true
      → (list_any (is_case space full p.name t.Equal) (listed_numbers p.domain) || (has_more p.domain && is_case space full p.name t.AtLeast 1000000)) ≡ true
  all-tried full place p lawful valid at numbers =
      let v = value-at space full lawful valid place p at in
      subst (λ o. (list_any (λ n. option_passes t.Equal o (Number n)) (listed_numbers p.domain) || (has_more p.domain && option_passes t.AtLeast o (Number 1000000))) ≡ true) (sym v.1.0)
      (number-is-tried p.domain v.0 numbers v.1.1)

  with-more : (more : Bool) (a h u : Bool) → more ≡ true → (a || (more && h)) ≡ true → ((a && u) || (h && u)) ≡ u
  with-more more true true true e k = refl
  with-more more true true false e k = refl
  with-more more true false true e k = refl
  with-more more true false false e k = refl
  with-more more false true u e k = refl
  with-more true false false u e k = absurd (false≢true k)
  with-more false false false u e k = absurd (false≢true k)

  without-more : (more : Bool) (a h u : Bool) → more ≡ false → (a || (more && h)) ≡ true → (a && u) ≡ u
  without-more more true h u e k = refl
  without-more true false h u e k = absurd (false≢true (sym e))
  without-more false false h u e k = absurd (false≢true k)

  pub breach-of-all : (place : ℕ) (ns listed : List ℕ) (p : ParamSpace) (parts : List Cond) (cond : Cond) → Lawful space → IsParamAt space place p → has_numbers p.domain ≡ true
      → listed ≡ listed_numbers p.domain → has_more p.domain ≡ false
      → HoldsAny space scope one (place + 1) ns p.name listed parts → HoldsAsAny parts cond → IsBreach space scope one (place + 1) ns cond
  breach-of-all place ns listed p parts cond lawful at numbers are none any as-any = record {
    law = λ full valid agree. as-any.law space full ∙ (any.law full valid agree
        ∙ (ap (λ l. list_any (is_case space full p.name t.Equal) l && is_broken space scope one full) are
        ∙ without-more (has_more p.domain) (list_any (is_case space full p.name t.Equal) (listed_numbers p.domain)) (is_case space full p.name t.AtLeast 1000000) (is_broken space scope one full) none
        (all-tried full place p lawful valid at numbers)));
  }

  pub breach-of-more : (place : ℕ) (ns listed : List ℕ) (p : ParamSpace) (before after : List Cond) (rest cond : Cond) → Lawful space → IsParamAt space place p → has_numbers p.domain ≡ true
      → listed ≡ listed_numbers p.domain → has_more p.domain ≡ true
      → HoldsAny space scope one (place + 1) ns p.name listed before
      → IsBreach space scope one place (1000000 ∷ ns) rest → HoldsEither before (case_cond p.name t.AtLeast 1000000 rest) after
      → HoldsAsAny after cond → IsBreach space scope one (place + 1) ns cond
  breach-of-more place ns listed p before after rest cond lawful at numbers are some any breach either as-any =
      let added = case-added place 1000000 ns p t.AtLeast rest before after at exact-most breach either in
      record {
        law = λ full valid agree. as-any.law space full ∙ (added.law full valid agree
            ∙ (ap (λ b. b || (is_case space full p.name t.AtLeast 1000000 && is_broken space scope one full))
            (any.law full valid agree ∙ ap (λ l. list_any (is_case space full p.name t.Equal) l && is_broken space scope one full) are)
            ∙ with-more (has_more p.domain) (list_any (is_case space full p.name t.Equal) (listed_numbers p.domain)) (is_case space full p.name t.AtLeast 1000000) (is_broken space scope one full) some
            (all-tried full place p lawful valid at numbers)));
      }

  pub breach-of-none : (left : ℕ) (cond : Cond) → left ≡ length space.params → IsBreach space scope one left [] cond → HoldsWhereBroken space scope one cond
  breach-of-none left cond all breach = record {
    law = λ full valid. breach.law full valid (subst (λ ps. Agrees (demand_reads one) space full ps []) (sym (ap (λ k. drop k space.params) all ∙ drop-all space.params)) tt);
  } where
    drop-all : (ps : List ParamSpace) → drop (length ps) ps ≡ []
    drop-all [] = refl
    drop-all (q ∷ ps) = drop-all ps
