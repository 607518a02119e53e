-- What two readings of all of the tokens say of a source, and that no source has two answers.
use Rattle.std.proofs.Common.{◌≡◌, ℕ, ◌+◌, ◌-◌, ◌<◌, ◌≤◌, List, ◌++◌, length, take, drop, Option, Result, Ok, Err, IfOk, refl, sym, ap, subst, ◌∙◌, append_assoc, length-append, arith, inl, inr}
use Rattle.std.specs.Prelude.{IfSome}
use Rattle.std.proofs.lemmas.List.{take-append-drop, take-take, length-map}
use Rattle.std.proofs.lemmas.Bool.{cases_lt}
use Rattle.idl_token.specs.Lexeme.{Lexeme}
use Rattle.idl_token.specs.Rows.{IsRow, IsBadAt}
use Rattle.idl_token.proofs.RowLemmas.{row-unique, bad-unique, row-not-bad, row-or-bad}
use Rattle.idl_token.specs.Symbol.{Symbol, symbols, symbol_of}
use Rattle.idl_grammar.specs.Faults.{Grammar, ReadsAs, ReadsWithin, GoesOn, GoesOnWithin, IsFirstFault}
use Rattle.idl_grammar.proofs.Whole.{Exact, reads_one, read_within, fault_within, fault_free, deep_at_token}
use Rattle.idl_fault.specs.Verdict.{left_at}
use Rattle.idl_parse.specs.declared.faults.ParseFault.{ParseFault}
use Rattle.idl_parse.specs.declared.faults.ParseFault.TheVariants as fault
use Rattle.idl_parse.specs.Parse.{Spells, place_of, IsUnexpectedAt, IsTooDeepAt, IsAnswer, Answers, Faults, IsOfTokens, Tells, place_before, fault_by}

-- ---- a first fault is one

abbrev IsClosed : (List Symbol → Type 0) → Type 0
IsClosed Goes = (front more : List Symbol) → Goes (front ++ more) → Goes front

goes_closed : {A : Type 0} (R : Grammar A) → IsClosed (GoesOn R)
goes_closed R front more g = (more ++ g.0, g.1, (g.2.0, subst (λ (v : List Symbol). R g.2.0 v g.1) (append_assoc front more g.0) g.2.1))

within_closed : {A : Type 0} (R : Grammar A) (n : ℕ) → IsClosed (GoesOnWithin R n)
within_closed R n front more g = (more ++ g.0, g.1, (g.2.0, g.2.1, subst (λ (v : List Symbol). R g.2.0 v g.1) (append_assoc front more g.0) g.2.2))

goes_before : (Goes : List Symbol → Type 0) → IsClosed Goes → (ts : List Symbol) (k m : ℕ) → k ≤ m → Goes (take m ts) → Goes (take k ts)
goes_before Goes closed ts k m le g =
    let parts : take m ts ≡ take k ts ++ drop k (take m ts) = sym (take-append-drop k (take m ts)) ∙ ap (λ (v : List Symbol). v ++ drop k (take m ts)) (take-take k m ts le) in
    closed (take k ts) (drop k (take m ts)) (subst Goes parts g)

none_before : (Goes : List Symbol → Type 0) → IsClosed Goes → (ts : List Symbol) (i j : ℕ) → i < j → IsFirstFault Goes ts i → IsFirstFault Goes ts j → ⊥
none_before Goes closed ts i j lt p q = let within = q.within in p.stops (omega arith) (goes_before Goes closed ts (i + 1) j (omega arith) q.before)

first_one : (Goes : List Symbol → Type 0) → IsClosed Goes → (ts : List Symbol) (i j : ℕ) → IsFirstFault Goes ts i → IsFirstFault Goes ts j → i ≡ j
first_one Goes closed ts i j p q = elim (cases_lt i j) [
  | inl lt ↦ absurd (none_before Goes closed ts i j lt p q)
  | inr ge ↦ elim (cases_lt j i) [ inl lt ↦ absurd (none_before Goes closed ts j i lt q p) | inr le ↦ omega arith ]
]

-- ---- causes

spelled_here : {A : Type 0} (R : Grammar A) (n : ℕ) (source : List ℕ) (ts : List Lexeme) (x : A) → IsRow source ts → Spells R n source x → ReadsWithin R n (symbols ts) x
spelled_here R n source ts x row p = subst (λ (us : List Lexeme). ReadsWithin R n (symbols us) x) (row-unique source p.0 ts p.1 row) p.2

module _ {A : Type 0} (R : Grammar A) (source : List ℕ) where
  unexpected_one : (at to : ℕ) → IsUnexpectedAt R source at → IsUnexpectedAt R source to → at ≡ to
  unexpected_one at to p q =
      let same = row-unique source q.tokens p.tokens q.row p.row in
      let first = subst (λ (us : List Lexeme). IsFirstFault (GoesOn R) (symbols us) q.index) same q.first in
      p.place ∙ ap (place_of source p.tokens) (first_one (GoesOn R) (goes_closed R) (symbols p.tokens) p.index q.index p.first first)
      ∙ ap (λ (us : List Lexeme). place_of source us q.index) (sym same) ∙ sym q.place

  deep_one : (n at to : ℕ) → IsTooDeepAt R n source at → IsTooDeepAt R n source to → at ≡ to
  deep_one n at to p q =
      let same = row-unique source q.tokens p.tokens q.row p.row in
      let first = subst (λ (us : List Lexeme). IsFirstFault (GoesOnWithin R n) (symbols us) q.index) same q.first in
      p.place ∙ ap (place_of source p.tokens) (first_one (GoesOnWithin R n) (within_closed R n) (symbols p.tokens) p.index q.index p.first first)
      ∙ ap (λ (us : List Lexeme). place_of source us q.index) (sym same) ∙ sym q.place

  not_both : (n at to : ℕ) → IsUnexpectedAt R source at → IsTooDeepAt R n source to → ⊥
  not_both n at to p q = p.none q.tree (subst (λ (us : List Lexeme). ReadsAs R (symbols us) q.tree) (row-unique source q.tokens p.tokens q.row p.row) q.reads)

  not_unexpected : (n : ℕ) (x : A) (at : ℕ) → Spells R n source x → IsUnexpectedAt R source at → ⊥
  not_unexpected n x at p q = let here = spelled_here R n source q.tokens x q.row p in q.none x (here.0, here.2)

  not_deep : (n : ℕ) (x : A) (at : ℕ) → Spells R n source x → IsTooDeepAt R n source at → ⊥
  not_deep n x at p q = q.none x (spelled_here R n source q.tokens x q.row p)

-- ---- one answer

module _ {A : Type 0} (R : Grammar A) (whole : ℕ → List Symbol → Result (A × ℕ) (List Symbol)) (exact : Exact R whole) where
  pub spelled_one : (n m : ℕ) (source : List ℕ) (x y : A) → Spells R n source x → Spells R m source y → x ≡ y
  spelled_one n m source x y p q = let here = spelled_here R m source p.0 y p.1 q in reads_one R whole exact p.2.0 here.0 (symbols p.0) x y p.2.2 here.2

  pub answer_one : (n : ℕ) (source : List ℕ) (r q : Result A ParseFault) → IsAnswer R n source r → IsAnswer R n source q → r ≡ q
  answer_one n source (Ok x) (Ok y) a b = ap (λ (z : A). Ok z) (spelled_one n n source x y a b)
  answer_one n source (Ok x) (Err fault.Memory) a b = absurd b
  answer_one n source (Ok x) (Err (fault.BadToken at)) a b = absurd (row-not-bad source a.0 at a.1 b)
  answer_one n source (Ok x) (Err (fault.Unexpected at)) a b = absurd (not_unexpected R source n x at a b)
  answer_one n source (Ok x) (Err (fault.TooDeep at)) a b = absurd (not_deep R source n x at a b)
  answer_one n source (Err fault.Memory) q a b = absurd a
  answer_one n source (Err (fault.BadToken at)) (Ok x) a b = absurd (row-not-bad source b.0 at b.1 a)
  answer_one n source (Err (fault.BadToken at)) (Err fault.Memory) a b = absurd b
  answer_one n source (Err (fault.BadToken at)) (Err (fault.BadToken to)) a b = ap (λ (k : ℕ). Err (fault.BadToken k)) (bad-unique source at to a b)
  answer_one n source (Err (fault.BadToken at)) (Err (fault.Unexpected to)) a b = absurd (row-not-bad source b.tokens at b.row a)
  answer_one n source (Err (fault.BadToken at)) (Err (fault.TooDeep to)) a b = absurd (row-not-bad source b.tokens at b.row a)
  answer_one n source (Err (fault.Unexpected at)) (Ok x) a b = absurd (not_unexpected R source n x at b a)
  answer_one n source (Err (fault.Unexpected at)) (Err fault.Memory) a b = absurd b
  answer_one n source (Err (fault.Unexpected at)) (Err (fault.BadToken to)) a b = absurd (row-not-bad source a.tokens to a.row b)
  answer_one n source (Err (fault.Unexpected at)) (Err (fault.Unexpected to)) a b = ap (λ (k : ℕ). Err (fault.Unexpected k)) (unexpected_one R source at to a b)
  answer_one n source (Err (fault.Unexpected at)) (Err (fault.TooDeep to)) a b = absurd (not_both R source n at to a b)
  answer_one n source (Err (fault.TooDeep at)) (Ok x) a b = absurd (not_deep R source n x at b a)
  answer_one n source (Err (fault.TooDeep at)) (Err fault.Memory) a b = absurd b
  answer_one n source (Err (fault.TooDeep at)) (Err (fault.BadToken to)) a b = absurd (row-not-bad source a.tokens to a.row b)
  answer_one n source (Err (fault.TooDeep at)) (Err (fault.Unexpected to)) a b = absurd (not_both R source n to at b a)
  answer_one n source (Err (fault.TooDeep at)) (Err (fault.TooDeep to)) a b = ap (λ (k : ℕ). Err (fault.TooDeep k)) (deep_one R source n at to a b)

  -- ---- what the readings say

  -- a fault leaves no more tokens than there are
  pub left_small : (n : ℕ) (ts rest : List Symbol) → whole n ts ≡ Err rest → length rest ≤ length ts
  left_small n ts rest e = let b = exact.faults n ts rest e in omega (arith, ap length b.1, length-append b.0 rest)

  unexpected_here : (source : List ℕ) (ts : List Lexeme) (rest : List Symbol) → IsRow source ts → whole (length (symbols ts) + 2) (symbols ts) ≡ Err rest → IsUnexpectedAt R source (place_before source ts (length rest))
  unexpected_here source ts rest row e = let k = fault_free R whole exact (symbols ts) rest e in record {
    tokens = ts;
    row = row;
    none = k.1;
    index = length ts - length rest;
    first = subst (λ (l : ℕ). IsFirstFault (GoesOn R) (symbols ts) (l - length rest)) (length-map ts symbol_of) k.0;
    place = refl;
  }

  deep_here : (n : ℕ) (source : List ℕ) (ts : List Lexeme) (rest : List Symbol) (x : A × ℕ) → IsRow source ts → whole (length (symbols ts) + 2) (symbols ts) ≡ Ok x → whole n (symbols ts) ≡ Err rest → IsTooDeepAt R n source (place_before source ts (length rest))
  deep_here n source ts rest x row free e =
      let k = fault_within R whole exact n (symbols ts) rest e in let some = deep_at_token R whole exact n (symbols ts) rest x free e in
      let long = length-map ts symbol_of in let small = left_small n (symbols ts) rest e in record {
        tokens = ts;
        row = row;
        tree = x.0;
        reads = (x.1, (exact.tells (length (symbols ts) + 2) (symbols ts) x free).0);
        none = k.1;
        index = length ts - length rest;
        token = omega arith;
        first = subst (λ (l : ℕ). IsFirstFault (GoesOnWithin R n) (symbols ts) (l - length rest)) long k.0;
        place = refl;
      }

  pub answer_some : (n : ℕ) (source : List ℕ) → (r : Result A ParseFault) × IsAnswer R n source r
  answer_some n source = elim (row-or-bad source) [
    | inl p ↦ of_row p.0 p.1 (whole n (symbols p.0)) (whole (length (symbols p.0) + 2) (symbols p.0)) refl refl
    | inr p ↦ (Err (fault.BadToken p.0), p.1)
  ]
    where
      of_row : (ts : List Lexeme) → IsRow source ts → (q free : Result (A × ℕ) (List Symbol)) → whole n (symbols ts) ≡ q → whole (length (symbols ts) + 2) (symbols ts) ≡ free → (r : Result A ParseFault) × IsAnswer R n source r
      of_row ts row (Ok x) free e f = (Ok x.0, (ts, row, read_within R whole exact n (symbols ts) x.0 x.1 e))
      of_row ts row (Err rest) (Ok x) e f = (Err (fault.TooDeep (place_before source ts (length rest))), deep_here n source ts rest x row f e)
      of_row ts row (Err rest) (Err us) e f = (Err (fault.Unexpected (place_before source ts (length us))), unexpected_here source ts us row f)

  -- ---- the same of what the code has: tokens, what they say, and where both readings stop

  module _ {T : Type 0} (view : T → A) (n : ℕ) (source : List ℕ) where
    pub lexed : {X : Type 0} (r : Result X ParseFault) (e : ParseFault) → r ≡ Err e → IsOfTokens r → ((at : ℕ) → r ≡ Err (fault.BadToken at) → IsBadAt source at) → Tells view R n source (Err e)
    lexed r fault.Memory is of bad = tt
    lexed r (fault.BadToken at) is of bad = bad at is
    lexed r (fault.Unexpected at) is of bad = absurd (subst IsOfTokens is of)
    lexed r (fault.TooDeep at) is of bad = absurd (subst IsOfTokens is of)

    pub told : (ts : List Lexeme) (us : List Symbol) (x : T) (h : ℕ) → IsRow source ts → us ≡ symbols ts → whole n us ≡ Ok (view x, h) → Tells view R n source (Ok x)
    told ts us x h row is e = (ts, row, read_within R whole exact n (symbols ts) (view x) h (ap (whole n) (sym is) ∙ e))

    stopped_by : (ts : List Lexeme) (rest : List Symbol) (free : Result (A × ℕ) (List Symbol)) → IsRow source ts → whole n (symbols ts) ≡ Err rest → whole (length (symbols ts) + 2) (symbols ts) ≡ free → Tells view R n source (Err (fault_by source ts (left_at free) (length rest)))
    stopped_by ts rest (Ok x) row e f = deep_here n source ts rest x row f e
    stopped_by ts rest (Err us) row e f = unexpected_here source ts us row f

    pub stopped : (ts : List Lexeme) (us rest : List Symbol) (l left : ℕ) (free : Option ℕ) → IsRow source ts → us ≡ symbols ts → l ≡ length us → whole n us ≡ Err rest → left ≡ length rest → free ≡ left_at (whole (l + 2) us) → Tells view R n source (Err (fault_by source ts free left))
    stopped ts us rest l left free row is long e left-is free-is =
        let again : left_at (whole (l + 2) us) ≡ left_at (whole (length (symbols ts) + 2) (symbols ts)) = ap (λ (k : ℕ). left_at (whole (k + 2) us)) (long ∙ ap length is) ∙ ap (λ (v : List Symbol). left_at (whole (length (symbols ts) + 2) v)) is in
        let same : fault_by source ts free left ≡ fault_by source ts (left_at (whole (length (symbols ts) + 2) (symbols ts))) (length rest) =
        ap (λ (o : Option ℕ). fault_by source ts o left) (free-is ∙ again) ∙ ap (fault_by source ts (left_at (whole (length (symbols ts) + 2) (symbols ts)))) left-is in
        subst (λ (f : ParseFault). Tells view R n source (Err f)) (sym same) (stopped_by ts rest (whole (length (symbols ts) + 2) (symbols ts)) row (ap (whole n) (sym is) ∙ e) refl)

    -- ---- clauses

    pub found : (r : Result T ParseFault) → Tells view R n source r → IfOk r (λ x. Spells R n source (view x))
    found (Ok x) p = p
    found (Err e) p = tt

    pub only : (r : Result T ParseFault) → Tells view R n source r → (y : A) → Spells R n source y → Answers view r y
    only (Ok x) p y q = spelled_one n n source (view x) y p q
    only (Err fault.Memory) p y q = tt
    only (Err (fault.BadToken at)) p y q = row-not-bad source q.0 at q.1 p
    only (Err (fault.Unexpected at)) p y q = not_unexpected R source n y at q p
    only (Err (fault.TooDeep at)) p y q = not_deep R source n y at q p

    pub bad : (r : Result T ParseFault) → Tells view R n source r → (at : ℕ) → r ≡ Err (fault.BadToken at) → IsBadAt source at
    bad r p at e = subst (Tells view R n source) e p

    pub bad_only : (r : Result T ParseFault) → Tells view R n source r → (at : ℕ) → IsBadAt source at → Faults r (fault.BadToken at)
    bad_only (Ok x) p at q = row-not-bad source p.0 at p.1 q
    bad_only (Err fault.Memory) p at q = tt
    bad_only (Err (fault.BadToken to)) p at q = ap (λ (k : ℕ). fault.BadToken k) (bad-unique source to at p q)
    bad_only (Err (fault.Unexpected to)) p at q = absurd (row-not-bad source p.tokens at p.row q)
    bad_only (Err (fault.TooDeep to)) p at q = absurd (row-not-bad source p.tokens at p.row q)

    pub unexpected : (r : Result T ParseFault) → Tells view R n source r → (at : ℕ) → r ≡ Err (fault.Unexpected at) → IsUnexpectedAt R source at
    unexpected r p at e = subst (Tells view R n source) e p

    pub unexpected_only : (r : Result T ParseFault) → Tells view R n source r → (at : ℕ) → IsUnexpectedAt R source at → Faults r (fault.Unexpected at)
    unexpected_only (Ok x) p at q = not_unexpected R source n (view x) at p q
    unexpected_only (Err fault.Memory) p at q = tt
    unexpected_only (Err (fault.BadToken to)) p at q = absurd (row-not-bad source q.tokens to q.row p)
    unexpected_only (Err (fault.Unexpected to)) p at q = ap (λ (k : ℕ). fault.Unexpected k) (unexpected_one R source to at p q)
    unexpected_only (Err (fault.TooDeep to)) p at q = absurd (not_both R source n at to q p)

    pub deep : (r : Result T ParseFault) → Tells view R n source r → (at : ℕ) → r ≡ Err (fault.TooDeep at) → IsTooDeepAt R n source at
    deep r p at e = subst (Tells view R n source) e p

    pub deep_only : (r : Result T ParseFault) → Tells view R n source r → (at : ℕ) → IsTooDeepAt R n source at → Faults r (fault.TooDeep at)
    deep_only (Ok x) p at q = not_deep R source n (view x) at p q
    deep_only (Err fault.Memory) p at q = tt
    deep_only (Err (fault.BadToken to)) p at q = absurd (row-not-bad source q.tokens to q.row p)
    deep_only (Err (fault.Unexpected to)) p at q = absurd (not_both R source n to at p q)
    deep_only (Err (fault.TooDeep to)) p at q = ap (λ (k : ℕ). fault.TooDeep k) (deep_one R source n to at p q)

  -- a reading without any limit leaves no more tokens than there are
  pub free_small : (us : List Symbol) (l : ℕ) (free : Option ℕ) → l ≡ length us → free ≡ left_at (whole (l + 2) us) → IfSome free (λ k. k ≤ length us)
  free_small us l free long is =
      subst (λ (o : Option ℕ). IfSome o (λ k. k ≤ length us)) (sym (is ∙ ap (λ (k : ℕ). left_at (whole (k + 2) us)) long)) (by_outcome (whole (length us + 2) us) refl)
    where
      by_outcome : (q : Result (A × ℕ) (List Symbol)) → whole (length us + 2) us ≡ q → IfSome (left_at q) (λ k. k ≤ length us)
      by_outcome (Ok x) e = tt
      by_outcome (Err rest) e = left_small (length us + 2) us rest e
