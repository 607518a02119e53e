-- The steps of a level of an expression.
use Rattle.std.proofs.Common.{◌≡◌, ℕ, zero, suc, ◌+◌, ◌-◌, ◌<◌, ◌≤◌, Bool, true, false, List, [], ◌∷◌, Option, Some, None, Ok, Err, Bor, refl, sym, ap, subst, ◌∙◌, arith, inl, inr}
use Rattle.std.specs.Prelude.{max, nat_le, nat_eq}
use Rattle.std.proofs.lemmas.Bool.{le-leb, lt-ltb, le-ltb, eqb-true, eq-eqb}
use Rattle.std.proofs.lemmas.Bool.Decides.{leb_tells}
use Rattle.idl_token.specs.declared.kinds.Reserved.{Reserved}
use Rattle.idl_token.specs.declared.kinds.Reserved.TheVariants as r
use Rattle.idl_token.specs.declared.kinds.Special.{Special}
use Rattle.idl_token.specs.declared.kinds.Special.TheVariants as p
use Rattle.idl_token.specs.declared.kinds.Sign.TheVariants as s
use Rattle.idl_tree.specs.declared.expressions.Unary.{Unary}
use Rattle.idl_tree.specs.declared.expressions.Expr.{Expr}
use Rattle.idl_tree.specs.declared.expressions.Expr.TheVariants as e
use Rattle.idl_token.specs.Symbol.{Symbol}
use Rattle.idl_token.specs.Symbol as t
use Rattle.idl_grammar.specs.Tables.{Infix, plain, wide, binding, loosest}
use Rattle.idl_grammar.specs.ExprGrammar.{Inside, part_of}
use Rattle.idl_grammar.specs.Outcome as o
use Rattle.idl_grammar.specs.Outcome.{Outcome, Reader}
use Rattle.idl_grammar.specs.ExprReader as er
use Rattle.idl_grammar.specs.ExprReader.{Found, Part}
use Rattle.idl_exprs.specs.declared.exprs.ExprPart.{ExprPart}
use Rattle.idl_exprs.specs.declared.exprs.ExprPart.TheVariants as read
use Rattle.idl_exprs.specs.declared.exprs.Operator.{Operator}
use Rattle.idl_exprs.specs.declared.exprs.Operator.TheVariants as op
use Rattle.idl_exprs.specs.declared.progress.Open.{Open}
use Rattle.idl_exprs.specs.declared.progress.Open.TheVariants as hold
use Rattle.idl_exprs.specs.declared.progress.Opening.{Opening}
use Rattle.idl_exprs.specs.declared.progress.Opening.TheVariants as opening
use Rattle.idl_exprs.specs.declared.progress.Place.{Place}
use Rattle.idl_exprs.specs.declared.progress.Place.TheVariants as at
use Rattle.idl_exprs.specs.declared.progress.Hole.TheVariants as hole
use Rattle.idl_exprs.specs.declared.progress.Step.TheVariants as st
use Rattle.idl_exprs.specs.Exprs as piece
use Rattle.idl_exprs.specs.Steps as step
use Rattle.idl_exprs.proofs.ExprSteps.{above, more_stops, more_refused, more_fails, more_turned, right_read, parts_stops, parts_refused, parts_fails, parts_turned, choice_stops, choice_refused, choice_goes, operand_plain, operand_signed, operand_refused}

-- ---- one reading behind another

pub assoc : {A B C : Type 0} (q : Outcome A) (f : A → Reader B) (g : B → Reader C) → o.and_then (o.and_then q f) g ≡ o.and_then q (λ a ts. o.and_then (f a ts) g)
assoc (Ok p) f g = refl
assoc (Err ts) f g = refl

then_pure : {A : Type 0} (q : Outcome A) → o.and_then q o.pure ≡ q
then_pure (Ok p) = refl
then_pure (Err ts) = refl

then_same : {A B : Type 0} (q : Outcome A) (f g : A → Reader B) → ((a : A) (ts : List Symbol) → f a ts ≡ g a ts) → o.and_then q f ≡ o.and_then q g
then_same (Ok p) f g same = same p.0 p.1
then_same (Err ts) f g same = refl

pub after : {A B : Type 0} (p q : Outcome A) (f : A → Reader B) → p ≡ q → o.and_then p f ≡ o.and_then q f
after {A = A} p q f is = ap (λ (r : Outcome A). o.and_then r f) is

pub highest_fits : (n : ℕ) (a : Open) (h : ℕ) → step.OpenFits n a → h ≤ n → step.highest a h ≤ n
highest_fits n hold.AsSigned h fits le = le
highest_fits n (hold.Resize a i) h fits le = omega arith
highest_fits n hold.Register h fits le = le
highest_fits n (hold.Memory k) h fits le = le
highest_fits n (hold.Address p) h fits le = le

-- ---- signs of a level and of looser ones

at_other : (k j : ℕ) (x : Infix) → nat_eq j k ≡ false → piece.at_level k (Some (j, x)) ≡ None
at_other k j x is = rw is refl

not_equal : (j k : ℕ) → (j ≡ k → ⊥) → nat_eq j k ≡ false
not_equal j k differ = go (nat_eq j k) refl
  where
    go : (b : Bool) → nat_eq j k ≡ b → nat_eq j k ≡ false
    go true is = absurd (differ (eqb-true j k is))
    go false is = is

between_some : (k l j : ℕ) (x : Infix) → k ≤ j → j < l → piece.between k l (Some (j, x)) ≡ Some (j, x)
between_some k l j x low high = let a = le-leb k j low in let b = lt-ltb j l high in rw (a, b) refl

between_low : (k l j : ℕ) (x : Infix) → j < k → piece.between k l (Some (j, x)) ≡ None
between_low k l j x lt = let a = above k j lt in rw a refl

between_high : (k l j : ℕ) (x : Infix) → l ≤ j → piece.between k l (Some (j, x)) ≡ None
between_high k l j x le = go (nat_le k j) refl
  where
    go : (b : Bool) → nat_le k j ≡ b → piece.between k l (Some (j, x)) ≡ None
    go true is = let a = le-ltb j l le in rw (is, a) refl
    go false is = rw is refl

some_none : {A : Type 0} {x : A} → Some x ≡ None → ⊥
some_none is = absurd cc

-- where no sign of the levels follows, and the level isn't before them
passes : (k l j : ℕ) (x : Infix) → piece.between k l (Some (j, x)) ≡ None → k ≤ j → l ≤ j
passes k l j x none le = elim (leb_tells l j) [ inl p ↦ p.1 | inr p ↦ absurd (let lt = p.1 in some_none (sym (between_some k l j x le lt) ∙ none)) ]

record Between (k l : ℕ) (b : Option (ℕ × Infix)) (j : ℕ) (x : Infix) : Type 0 where
  found : b ≡ Some (j, x)
  low : k ≤ j
  high : j < l

between_is : (k l : ℕ) (b : Option (ℕ × Infix)) (j : ℕ) (x : Infix) → piece.between k l b ≡ Some (j, x) → Between k l b j x
between_is k l None j x is = absurd cc
between_is k l (Some (i, y)) j x is = elim (leb_tells k i) [
  | inl p ↦ elim (leb_tells l i) [
    | inl q ↦ absurd (some_none (sym is ∙ between_high k l i y q.1))
    | inr q ↦ go p.1 q.1 (sym (between_some k l i y p.1 q.1) ∙ is)
  ]
  | inr p ↦ absurd (some_none (sym is ∙ between_low k l i y p.1))
]
  where
    go : k ≤ i → i < l → ◌≡◌ {A = Option (ℕ × Infix)} (Some (i, y)) (Some (j, x)) → Between k l (Some (i, y)) j x
    go low high same = let both : ◌≡◌ {A = ℕ × Infix} (i, y) (j, x) = cc in let level : i ≡ j = ap (λ (v : ℕ × Infix). v.0) both in record { found = same; low = subst (λ (v : ℕ). k ≤ v) level low; high = subst (λ (v : ℕ). v < l) level high }

skip_here : (k l : ℕ) (b : Option (ℕ × Infix)) → k < l → piece.between k l b ≡ None → piece.at_level k b ≡ None
skip_here k l None lt is = refl
skip_here k l (Some (j, x)) lt is = at_other k j x (not_equal j k (λ same. let le = passes k l j x is (omega arith) in absurd (omega arith)))

skip_next : (k l : ℕ) (b : Option (ℕ × Infix)) → piece.between k l b ≡ None → piece.between (suc k) l b ≡ None
skip_next k l None is = refl
skip_next k l (Some (j, x)) is = elim (leb_tells (suc k) j) [
  | inl p ↦ between_high (suc k) l j x (passes k l j x is (let le = p.1 in omega arith))
  | inr p ↦ between_low (suc k) l j x p.1
]

at_here : (k : ℕ) (x : Infix) → piece.at_level k (Some (k, x)) ≡ Some x
at_here k x = let same : nat_eq k k ≡ true = eq-eqb k k refl in rw same refl

-- the same of the next token
none_here : (k l : ℕ) (ts : List Symbol) → k < l → piece.next_operator k l (o.head ts) ≡ None → piece.operator_at k (o.head ts) ≡ None
none_here k l [] lt is = refl
none_here k l (t.sign c ∷ ts) lt is = skip_here k l (binding c) lt is
none_here k l (c ∷ ts) lt is = refl

none_next : (k l : ℕ) (ts : List Symbol) → piece.next_operator k l (o.head ts) ≡ None → piece.next_operator (suc k) l (o.head ts) ≡ None
none_next k l [] is = refl
none_next k l (t.sign c ∷ ts) is = skip_next k l (binding c) is
none_next k l (c ∷ ts) is = refl

record Next (k l : ℕ) (ts : List Symbol) (j : ℕ) (x : Infix) : Type 0 where
  here : piece.operator_at j (o.head ts) ≡ Some x
  low : k ≤ j
  high : j < l
  others : (i : ℕ) → i < j → piece.operator_at i (o.head ts) ≡ None

next_is : (k l : ℕ) (ts : List Symbol) (j : ℕ) (x : Infix) → piece.next_operator k l (o.head ts) ≡ Some (j, x) → Next k l ts j x
next_is k l [] j x is = absurd cc
next_is k l (t.sign c ∷ ts) j x is = let w = between_is k l (binding c) j x is in record {
  here = ap (piece.at_level j) w.found ∙ at_here j x;
  low = w.low;
  high = w.high;
  others = λ i lt. ap (piece.at_level i) w.found ∙ at_other i j x (not_equal j i (λ same. absurd (omega arith)));
}
next_is k l (c ∷ ts) j x is = absurd cc

none_empty : (k l : ℕ) (ts : List Symbol) → l ≤ k → piece.next_operator k l (o.head ts) ≡ None
none_empty k l [] le = refl
none_empty k l (t.sign c ∷ ts) le = go (binding c)
  where
    go : (b : Option (ℕ × Infix)) → piece.between k l b ≡ None
    go None = refl
    go (Some (j, x)) = elim (leb_tells k j) [ inl p ↦ between_high k l j x (let a = p.1 in omega arith) | inr p ↦ between_low k l j x p.1 ]
none_empty k l (c ∷ ts) le = refl

module _ (n : ℕ) where
  climb_zero : (k : ℕ) (x : Found) (ts : List Symbol) → step.climb n 0 k x ts ≡ Ok (x, ts)
  unfolding step.climb
  climb_zero k x ts = refl

  climb_next : (d k : ℕ) (x : Found) (ts : List Symbol) → step.climb n (suc d) k x ts ≡ o.and_then (er.more n (er.expr_part n) (suc n) k x ts) (step.climb n d (suc k))
  unfolding step.climb
  climb_next d k x ts = refl

  climb_last : (d k : ℕ) (x : Found) (ts : List Symbol) → step.climb n (suc d) k x ts ≡ o.and_then (step.climb n d k x ts) (er.more n (er.expr_part n) (suc n) (k + d))
  climb_last zero k x ts =
      climb_next 0 k x ts
      ∙ then_same (er.more n (er.expr_part n) (suc n) k x ts) (step.climb n 0 (suc k)) o.pure (λ y us. climb_zero (suc k) y us)
      ∙ then_pure (er.more n (er.expr_part n) (suc n) k x ts)
      ∙ sym (after (step.climb n 0 k x ts) (Ok (x, ts)) (er.more n (er.expr_part n) (suc n) (k + 0)) (climb_zero k x ts) ∙ ap (λ (i : ℕ). er.more n (er.expr_part n) (suc n) i x ts) (omega arith))
  climb_last (suc d) k x ts =
      climb_next (suc d) k x ts
      ∙ then_same (er.more n (er.expr_part n) (suc n) k x ts) (step.climb n (suc d) (suc k)) (λ y us. o.and_then (step.climb n d (suc k) y us) (er.more n (er.expr_part n) (suc n) (suc k + d))) (λ y us. climb_last d (suc k) y us)
      ∙ sym (assoc (er.more n (er.expr_part n) (suc n) k x ts) (step.climb n d (suc k)) (er.more n (er.expr_part n) (suc n) (suc k + d)))
      ∙ after (o.and_then (er.more n (er.expr_part n) (suc n) k x ts) (step.climb n d (suc k))) (step.climb n (suc d) k x ts) (er.more n (er.expr_part n) (suc n) (suc k + d)) (sym (climb_next d k x ts))
      ∙ ap (λ (i : ℕ). o.and_then (step.climb n (suc d) k x ts) (er.more n (er.expr_part n) (suc n) i)) (omega arith)

  onward_is : (k : ℕ) (x : Found) (ts : List Symbol) → er.onward n (er.expr_part n) k x ts ≡ step.climb n k 0 x ts
  unfolding er.onward
  onward_is zero x ts = sym (climb_zero 0 x ts)
  onward_is (suc k) x ts =
      after (er.onward n (er.expr_part n) k x ts) (step.climb n k 0 x ts) (er.more n (er.expr_part n) (suc n) k) (onward_is k x ts)
      ∙ ap (λ (i : ℕ). o.and_then (step.climb n k 0 x ts) (er.more n (er.expr_part n) (suc n) i)) (omega arith)
      ∙ sym (climb_last k 0 x ts)

  -- ---- at a token

  climb_stops : (d k l : ℕ) (x : Found) (ts : List Symbol) → l ≡ k + d → piece.next_operator k l (o.head ts) ≡ None → step.climb n d k x ts ≡ Ok (x, ts)
  climb_stops zero k l x ts l-is none = climb_zero k x ts
  climb_stops (suc d) k l x ts l-is none =
      climb_next d k x ts
      ∙ after (er.more n (er.expr_part n) (suc n) k x ts) (Ok (x, ts)) (step.climb n d (suc k)) (more_stops n (er.expr_part n) (suc n) k x ts (none_here k l ts (omega arith) none))
      ∙ climb_stops d (suc k) l x ts (omega arith) (none_next k l ts none)

  climb_reaches : (d k j i : ℕ) (x : Found) (ts : List Symbol) → k + d ≡ j + i → k ≤ j → ((m : ℕ) → m < j → piece.operator_at m (o.head ts) ≡ None) → step.climb n d k x ts ≡ step.climb n i j x ts
  climb_reaches d k j i x ts is le others = go (j - k) k d (omega arith) is
    where
      go : (f k d : ℕ) → k + f ≡ j → k + d ≡ j + i → step.climb n d k x ts ≡ step.climb n i j x ts
      go zero k d k-is is = let a : k ≡ j = omega arith in let b : d ≡ i = omega arith in rw (a, b) refl
      go (suc f) k zero k-is is = absurd (omega arith)
      go (suc f) k (suc d) k-is is =
          climb_next d k x ts
          ∙ after (er.more n (er.expr_part n) (suc n) k x ts) (Ok (x, ts)) (step.climb n d (suc k)) (more_stops n (er.expr_part n) (suc n) k x ts (others k (omega arith)))
          ∙ go f (suc k) d (omega arith) (omega arith)

  more_goes : (k : ℕ) (x : Found) (ts : List Symbol) (op : Infix) → piece.operator_at k (o.head ts) ≡ Some op → x.1 ≤ n → er.more n (er.expr_part n) (suc n) k x ts ≡ o.and_then (er.right_of n (er.expr_part n) k op x (o.after ts)) (er.more n (er.expr_part n) (suc n) k)
  more_goes k x ts op is le = go (er.right_of n (er.expr_part n) k op x (o.after ts)) refl
    where
      go : (q : Outcome Found) → er.right_of n (er.expr_part n) k op x (o.after ts) ≡ q → er.more n (er.expr_part n) (suc n) k x ts ≡ o.and_then q (er.more n (er.expr_part n) (suc n) k)
      go (Ok p) reads = let r = right_read n k op x (o.after ts) p.1 p.0 reads in sym (more_turned n (er.expr_part n) k x ts p.1 op p.0 is le r.grows reads)
      go (Err vs) fails = more_fails n (er.expr_part n) (suc n) k x ts vs op is le fails

  climb_goes : (d k : ℕ) (x : Found) (ts : List Symbol) (op : Infix) → piece.operator_at k (o.head ts) ≡ Some op → x.1 ≤ n → step.climb n (suc d) k x ts ≡ o.and_then (er.right_of n (er.expr_part n) k op x (o.after ts)) (step.climb n (suc d) k)
  climb_goes d k x ts op is le =
      climb_next d k x ts
      ∙ after (er.more n (er.expr_part n) (suc n) k x ts) (o.and_then (er.right_of n (er.expr_part n) k op x (o.after ts)) (er.more n (er.expr_part n) (suc n) k)) (step.climb n d (suc k)) (more_goes k x ts op is le)
      ∙ assoc (er.right_of n (er.expr_part n) k op x (o.after ts)) (er.more n (er.expr_part n) (suc n) k) (step.climb n d (suc k))
      ∙ then_same (er.right_of n (er.expr_part n) k op x (o.after ts)) (λ y us. o.and_then (er.more n (er.expr_part n) (suc n) k y us) (step.climb n d (suc k))) (step.climb n (suc d) k) (λ y us. sym (climb_next d k y us))

  climb_refused : (d k : ℕ) (x : Found) (ts : List Symbol) (op : Infix) → piece.operator_at k (o.head ts) ≡ Some op → n < x.1 → step.climb n (suc d) k x ts ≡ Err ts
  climb_refused d k x ts op is lt =
      climb_next d k x ts
      ∙ after (er.more n (er.expr_part n) (suc n) k x ts) (Err ts) (step.climb n d (suc k)) (more_refused n (er.expr_part n) (suc n) k x ts op is lt)

  -- ---- the same with what follows

  module _ (rest : Found → Reader Found) (k l : ℕ) (x : Found) (ts : List Symbol) where
    tops : piece.next_operator k l (o.head ts) ≡ None → o.and_then (step.climb n (l - k) k x ts) rest ≡ rest x ts
    tops none = after (step.climb n (l - k) k x ts) (Ok (x, ts)) rest (elim (leb_tells k l) [
      | inl p ↦ climb_stops (l - k) k l x ts (let le = p.1 in omega arith) none
      | inr p ↦ climb_stops (l - k) k k x ts (let lt = p.1 in omega arith) (none_empty k k ts (omega arith))
    ])

    turns : (j : ℕ) (op : Infix) → piece.next_operator k l (o.head ts) ≡ Some (j, op) → x.1 ≤ n → o.and_then (step.climb n (l - k) k x ts) rest ≡ o.and_then (er.right_of n (er.expr_part n) j op x (o.after ts)) (λ y us. o.and_then (step.climb n (l - j) j y us) rest)
    turns j op some le = go (next_is k l ts j op some) (l - suc j)
      where
        go : Next k l ts j op → (d : ℕ) → o.and_then (step.climb n (l - k) k x ts) rest ≡ o.and_then (er.right_of n (er.expr_part n) j op x (o.after ts)) (λ y us. o.and_then (step.climb n (l - j) j y us) rest)
        go w d = let low = w.low in let high = w.high in let d-is : l - j ≡ suc (l - suc j) = omega arith in
            after (step.climb n (l - k) k x ts) (step.climb n (l - j) j x ts) rest (climb_reaches (l - k) k j (l - j) x ts (omega arith) low w.others)
            ∙ subst (λ (i : ℕ). o.and_then (step.climb n i j x ts) rest ≡ o.and_then (er.right_of n (er.expr_part n) j op x (o.after ts)) (λ y us. o.and_then (step.climb n i j y us) rest)) (sym d-is)
            (after (step.climb n (suc (l - suc j)) j x ts) (o.and_then (er.right_of n (er.expr_part n) j op x (o.after ts)) (step.climb n (suc (l - suc j)) j)) rest (climb_goes (l - suc j) j x ts op w.here le)
            ∙ assoc (er.right_of n (er.expr_part n) j op x (o.after ts)) (step.climb n (suc (l - suc j)) j) rest)

    refuses : (j : ℕ) (op : Infix) → piece.next_operator k l (o.head ts) ≡ Some (j, op) → n < x.1 → o.and_then (step.climb n (l - k) k x ts) rest ≡ Err ts
    refuses j op some lt = go (next_is k l ts j op some)
      where
        go : Next k l ts j op → o.and_then (step.climb n (l - k) k x ts) rest ≡ Err ts
        go w = let low = w.low in let high = w.high in
            after (step.climb n (l - k) k x ts) (Err ts) rest (climb_reaches (l - k) k j (suc (l - suc j)) x ts (omega arith) low w.others ∙ climb_refused (l - suc j) j x ts op w.here lt)

  -- ---- the Rust functions' steps

  pub onward_tops : (q : Part) (place : Place) (k : ℕ) (x : Found) (ts : List Symbol) → piece.next_operator k (step.upto q place) (o.head ts) ≡ None → step.onward n q place k x ts ≡ step.topped n q place x ts
  unfolding step.outside step.within
  onward_tops q at.Outside k x ts none = tops (step.ends n q) k (step.limit q) x ts none
  onward_tops q (at.Parens low) k x ts none = tops (step.topped n q (at.Parens low)) k loosest x ts none

  pub onward_refused : (q : Part) (place : Place) (k : ℕ) (x : Found) (ts : List Symbol) (j : ℕ) (op : Infix) → piece.next_operator k (step.upto q place) (o.head ts) ≡ Some (j, op) → n < x.1 → step.onward n q place k x ts ≡ Err ts
  unfolding step.outside step.within
  onward_refused q at.Outside k x ts j op some lt = refuses (step.ends n q) k (step.limit q) x ts j op some lt
  onward_refused q (at.Parens low) k x ts j op some lt = refuses (step.topped n q (at.Parens low)) k loosest x ts j op some lt

  onward_right : (q : Part) (place : Place) (k : ℕ) (x : Found) (ts : List Symbol) (j : ℕ) (op : Infix) → piece.next_operator k (step.upto q place) (o.head ts) ≡ Some (j, op) → x.1 ≤ n → step.onward n q place k x ts ≡ o.and_then (er.right_of n (er.expr_part n) j op x (o.after ts)) (step.onward n q place j)
  unfolding step.outside step.within
  onward_right q at.Outside k x ts j op some le = turns (step.ends n q) k (step.limit q) x ts j op some le
  onward_right q (at.Parens low) k x ts j op some le = turns (step.topped n q (at.Parens low)) k loosest x ts j op some le

  pub onward_turns : (q : Part) (place : Place) (k : ℕ) (x : Expr) (h : ℕ) (ts : List Symbol) (j : ℕ) (op : Operator) → piece.next_operator k (step.upto q place) (o.head ts) ≡ Some (j, piece.operator_of op) → h ≤ n → step.onward n q place k (x, h) ts ≡ step.awaits n q (step.right_side op j x h place) (o.after ts)
  onward_turns q place k x h ts j (op.Plain sign) some le =
      onward_right q place k (x, h) ts j (plain sign) some le
      ∙ assoc (er.expr_part n (er.tight j) (o.after ts)) (λ y. o.pure (e.Binary sign x y.0, suc (max h y.1))) (step.onward n q place j)
  onward_turns q place k x h ts j op.Wide some le = onward_right q place k (x, h) ts j wide some le

  -- ---- brackets

  pub operand_plainly : (q : Part) (x : Found) (ts : List Symbol) → o.sees (o.is_sign s.OpenBracket) ts ≡ false → step.operand n q x ts ≡ step.outside n q 0 x ts
  unfolding step.operand
  operand_plainly q x ts is = after (er.parts n (er.expr_part n) (suc n) x ts) (Ok (x, ts)) (step.outside n q 0) (parts_stops n (er.expr_part n) (suc n) x ts is)

  pub operand_deep : (q : Part) (x : Found) (ts : List Symbol) → o.sees (o.is_sign s.OpenBracket) ts ≡ true → n < x.1 → step.operand n q x ts ≡ Err ts
  unfolding step.operand
  operand_deep q x ts is lt = after (er.parts n (er.expr_part n) (suc n) x ts) (Err ts) (step.outside n q 0) (parts_refused n (er.expr_part n) (suc n) x ts is lt)

  pub operand_turns : (q : Part) (x : Expr) (h : ℕ) (ts : List Symbol) → o.sees (o.is_sign s.OpenBracket) ts ≡ true → h ≤ n → step.operand n q (x, h) ts ≡ step.awaits n q (st.Brackets x h) (o.after ts)
  unfolding step.operand
  operand_turns q x h ts is le = go (er.inside n (er.expr n) (o.after ts)) refl
    where
      go : (r : Outcome (Inside × ℕ)) → er.inside n (er.expr n) (o.after ts) ≡ r → o.and_then (er.parts n (er.expr_part n) (suc n) (x, h) ts) (step.outside n q 0) ≡ o.and_then r (λ j us. o.and_then (er.parts n (er.expr_part n) (suc n) (part_of x j.0, suc (max h j.1)) us) (step.outside n q 0))
      go (Ok p) reads = sym (after (er.parts n (er.expr_part n) (suc n) (part_of x p.0.0, suc (max h p.0.1)) p.1) (er.parts n (er.expr_part n) (suc n) (x, h) ts) (step.outside n q 0) (parts_turned n (er.expr_part n) x h ts p.1 p.0.0 p.0.1 (part_of x p.0.0) (suc (max h p.0.1)) is le reads refl refl))
      go (Err vs) fails = after (er.parts n (er.expr_part n) (suc n) (x, h) ts) (Err vs) (step.outside n q 0) (parts_fails n (er.expr_part n) (suc n) (x, h) ts vs is le fails)

  -- ---- a choice

  pub topped_never : (q : Part) (place : Place) (x : Found) (ts : List Symbol) → step.may_choose q place ≡ false → step.topped n q place x ts ≡ step.chosen n q place x ts
  topped_never (er.tight k) at.Outside x ts is = refl
  topped_never er.any at.Outside x ts is = absurd cc
  topped_never (er.behind w) at.Outside x ts is = absurd cc
  topped_never q (at.Parens low) x ts is = absurd cc

  topped_is : (q : Part) (place : Place) (x : Found) (ts : List Symbol) → step.may_choose q place ≡ true → step.topped n q place x ts ≡ o.and_then (er.choice n (er.expr_part n) x ts) (step.chosen n q place)
  topped_is (er.tight k) at.Outside x ts is = absurd cc
  topped_is er.any at.Outside x ts is = sym (then_pure (er.choice n (er.expr_part n) x ts))
  topped_is (er.behind w) at.Outside x ts is = sym (then_pure (er.choice n (er.expr_part n) x ts))
  topped_is q (at.Parens low) x ts is = refl

  pub topped_plain : (q : Part) (place : Place) (x : Found) (ts : List Symbol) → o.sees (o.is_sign s.Question) ts ≡ false → step.topped n q place x ts ≡ step.chosen n q place x ts
  topped_plain q place x ts none = go (step.may_choose q place) refl
    where
      go : (b : Bool) → step.may_choose q place ≡ b → step.topped n q place x ts ≡ step.chosen n q place x ts
      go true is = topped_is q place x ts is ∙ after (er.choice n (er.expr_part n) x ts) (Ok (x, ts)) (step.chosen n q place) (choice_stops n (er.expr_part n) x ts none)
      go false is = topped_never q place x ts is

  pub topped_refused : (q : Part) (place : Place) (x : Found) (ts : List Symbol) → step.may_choose q place ≡ true → o.sees (o.is_sign s.Question) ts ≡ true → n < x.1 → step.topped n q place x ts ≡ Err ts
  topped_refused q place x ts may is lt = topped_is q place x ts may ∙ after (er.choice n (er.expr_part n) x ts) (Err ts) (step.chosen n q place) (choice_refused n (er.expr_part n) x ts is lt)

  sides_then : (rest : Found → Reader Found) (x : Expr) (h : ℕ) (us : List Symbol) → o.and_then (piece.sides (er.expr_part n) (x, h) us) rest ≡ o.and_then (er.expr_part n er.any us) (λ y vs. o.and_then (o.expect s.Colon vs) (λ _ ws. o.and_then (er.expr_part n er.any ws) (λ z. rest (e.Choice x y.0 z.0, suc (max (max h y.1) z.1)))))
  sides_then rest x h us =
      assoc (er.expr_part n er.any us) (λ y vs. o.and_then (o.expect s.Colon vs) (λ _ ws. o.and_then (er.expr_part n er.any ws) (λ z. o.pure (e.Choice x y.0 z.0, suc (max h (max y.1 z.1)))))) rest
      ∙ then_same (er.expr_part n er.any us)
      (λ y vs. o.and_then (o.and_then (o.expect s.Colon vs) (λ _ ws. o.and_then (er.expr_part n er.any ws) (λ z. o.pure (e.Choice x y.0 z.0, suc (max h (max y.1 z.1)))))) rest)
      (λ y vs. o.and_then (o.expect s.Colon vs) (λ _ ws. o.and_then (er.expr_part n er.any ws) (λ z. rest (e.Choice x y.0 z.0, suc (max (max h y.1) z.1)))))
      (λ y vs. second y (o.expect s.Colon vs))
    where
      high : (i j : ℕ) → suc (max h (max i j)) ≡ suc (max (max h i) j)
      high i j = omega arith

      third : (y : Found) (q : Outcome Found) → o.and_then (o.and_then q (λ z. o.pure (e.Choice x y.0 z.0, suc (max h (max y.1 z.1))))) rest ≡ o.and_then q (λ z. rest (e.Choice x y.0 z.0, suc (max (max h y.1) z.1)))
      third y (Ok p) = ap (λ (i : ℕ). rest (e.Choice x y.0 p.0.0, i) p.1) (high y.1 p.0.1)
      third y (Err ws) = refl

      second : (y : Found) (q : Outcome (Unit {0})) → o.and_then (o.and_then q (λ _ ws. o.and_then (er.expr_part n er.any ws) (λ z. o.pure (e.Choice x y.0 z.0, suc (max h (max y.1 z.1)))))) rest ≡ o.and_then q (λ _ ws. o.and_then (er.expr_part n er.any ws) (λ z. rest (e.Choice x y.0 z.0, suc (max (max h y.1) z.1))))
      second y (Ok p) = third y (er.expr_part n er.any p.1)
      second y (Err ws) = refl

  pub topped_goes : (q : Part) (place : Place) (x : Expr) (h : ℕ) (ts : List Symbol) → step.may_choose q place ≡ true → o.sees (o.is_sign s.Question) ts ≡ true → h ≤ n → step.topped n q place (x, h) ts ≡ step.awaits n q (st.Inner (hole.Yes x h place)) (o.after ts)
  topped_goes q place x h ts may is le =
      topped_is q place (x, h) ts may
      ∙ after (er.choice n (er.expr_part n) (x, h) ts) (piece.sides (er.expr_part n) (x, h) (o.after ts)) (step.chosen n q place) (choice_goes n (er.expr_part n) (x, h) ts is le)
      ∙ sides_then (step.chosen n q place) x h (o.after ts)

  -- ---- the beginning of a level

  tight_is : (k : ℕ) (x : Found) (ts : List Symbol) → er.onward n (er.expr_part n) k x ts ≡ step.outside n (er.tight k) 0 x ts
  unfolding step.outside
  tight_is k x ts = onward_is k x ts ∙ ap (λ (i : ℕ). step.climb n i 0 x ts) (omega arith) ∙ sym (then_pure (step.climb n (k - 0) 0 x ts))

  any_is : (x : Found) (ts : List Symbol) → er.rest_of n (er.expr_part n) x ts ≡ step.outside n er.any 0 x ts
  unfolding step.outside er.rest_of
  any_is x ts = after (er.onward n (er.expr_part n) loosest x ts) (step.climb n loosest 0 x ts) (er.choice n (er.expr_part n)) (onward_is loosest x ts)

  behind_is : (w : List ℕ) (x : Found) (ts : List Symbol) → er.rest_of n (er.expr_part n) x ts ≡ step.outside n (er.behind w) 0 x ts
  unfolding step.outside er.rest_of
  behind_is w x ts = after (er.onward n (er.expr_part n) loosest x ts) (step.climb n loosest 0 x ts) (er.choice n (er.expr_part n)) (onward_is loosest x ts)

  pub tight_begun : (k : ℕ) (ts : List Symbol) → er.level n (er.expr_part n) (er.tight k) ts ≡ step.begun n (er.tight k) ts
  unfolding er.level
  tight_begun k ts = then_same (er.operand n (er.expr_part n) ts) (er.onward n (er.expr_part n) k) (step.outside n (er.tight k) 0) (λ x us. tight_is k x us)

  pub any_begun : (ts : List Symbol) → er.level n (er.expr_part n) er.any ts ≡ step.begun n er.any ts
  unfolding er.level
  any_begun ts = then_same (er.operand n (er.expr_part n) ts) (er.rest_of n (er.expr_part n)) (step.outside n er.any 0) (λ x us. any_is x us)

  pub behind_begun : (w : List ℕ) (ts : List Symbol) → er.level n (er.expr_part n) (er.behind w) ts ≡ o.and_then (er.named n (er.expr_part n) w ts) (step.operand n (er.behind w))
  unfolding er.level step.operand
  behind_begun w ts = then_same (er.named n (er.expr_part n) w ts) (λ x us. o.and_then (er.parts n (er.expr_part n) (suc n) x us) (er.rest_of n (er.expr_part n))) (step.operand n (er.behind w))
      (λ x us. then_same (er.parts n (er.expr_part n) (suc n) x us) (er.rest_of n (er.expr_part n)) (step.outside n (er.behind w) 0) (λ y vs. behind_is w y vs))

  pub tight_level : (part : ExprPart) (k : ℕ) (ts : List Symbol) → part ≡ read.Tight k → er.level n (er.expr_part n) (piece.part_of part) ts ≡ step.begun n (piece.part_of part) ts
  tight_level part k ts is = rw is (tight_begun k ts)

  pub any_level : (part : ExprPart) (ts : List Symbol) → part ≡ read.Any → er.level n (er.expr_part n) (piece.part_of part) ts ≡ step.begun n (piece.part_of part) ts
  any_level part ts is = rw is (any_begun ts)

  pub behind_level : (part : ExprPart) (w : Bor (List ℕ)) (ts : List Symbol) → part ≡ read.Behind w → er.level n (er.expr_part n) (piece.part_of part) ts ≡ o.and_then (er.named n (er.expr_part n) w.now ts) (step.operand n (piece.part_of part))
  behind_level part w ts is = rw is (behind_begun w.now ts)

  pub begun_plain : (q : Part) (ts : List Symbol) → piece.unary_at (o.head ts) ≡ None → step.begun n q ts ≡ o.and_then (o.among (er.atom_by n (er.expr_part n)) ts) (step.operand n q)
  unfolding er.post step.operand
  begun_plain q ts none =
      after (er.operand n (er.expr_part n) ts) (er.post n (er.expr_part n) ts) (step.outside n q 0) (operand_plain n (er.expr_part n) ts none)
      ∙ assoc (o.among (er.atom_by n (er.expr_part n)) ts) (er.parts n (er.expr_part n) (suc n)) (step.outside n q 0)

  pub begun_signed : (q : Part) (ts : List Symbol) (op : Unary) → piece.unary_at (o.head ts) ≡ Some op → 1 ≤ n → step.begun n q ts ≡ step.awaits n q (st.Inner (hole.Signed op)) (o.after ts)
  begun_signed q ts op some le =
      after (er.operand n (er.expr_part n) ts) (piece.signed (er.expr_part n) op (o.after ts)) (step.outside n q 0) (operand_signed n (er.expr_part n) ts op some le)
      ∙ assoc (er.expr_part n (er.tight 0) (o.after ts)) (λ x. o.pure (e.Unary op x.0, suc x.1)) (step.outside n q 0)

  pub begun_refused : (q : Part) (ts : List Symbol) (op : Unary) → piece.unary_at (o.head ts) ≡ Some op → n ≡ 0 → step.begun n q ts ≡ Err ts
  begun_refused q ts op some none = after (er.operand n (er.expr_part n) ts) (Err ts) (step.outside n q 0) (operand_refused n (er.expr_part n) ts op some none)

  -- ---- atoms

  in_parens : (q : Part) (x : Found) (us : List Symbol) → o.and_then (o.and_then (er.rest_of n (er.expr_part n) x us) (λ y vs. o.and_then (o.expect s.CloseParen vs) (λ _. o.pure (y.0, max (suc x.1) y.1)))) (step.operand n q) ≡ step.within n q x.1 0 x us
  unfolding er.rest_of step.within
  in_parens q x us =
      ap (λ (r : Outcome Found). o.and_then (o.and_then (o.and_then r (er.choice n (er.expr_part n))) shuts) (step.operand n q)) (onward_is loosest x us)
      ∙ first (step.climb n loosest 0 x us)
    where
      shuts : Found → Reader Found
      shuts y = λ vs. o.and_then (o.expect s.CloseParen vs) (λ _. o.pure (y.0, max (suc x.1) y.1))

      third : (y : Found) (r : Outcome (Unit {0})) → o.and_then (o.and_then r (λ _. o.pure (y.0, max (suc x.1) y.1))) (step.operand n q) ≡ o.and_then r (λ _. step.operand n q (y.0, max (suc x.1) y.1))
      third y (Ok p) = refl
      third y (Err ws) = refl

      second : (r : Outcome Found) → o.and_then (o.and_then r shuts) (step.operand n q) ≡ o.and_then r (step.shut n q x.1)
      second (Ok p) = third p.0 (o.expect s.CloseParen p.1)
      second (Err ws) = refl

      first : (r : Outcome Found) → o.and_then (o.and_then (o.and_then r (er.choice n (er.expr_part n))) shuts) (step.operand n q) ≡ o.and_then r (λ y vs. o.and_then (er.choice n (er.expr_part n) y vs) (step.shut n q x.1))
      first (Ok p) = second (er.choice n (er.expr_part n) p.0 p.1)
      first (Err ws) = refl

  parens_opened : (q : Part) (ts : List Symbol) → o.and_then (er.parens n (er.expr_part n) ts) (step.operand n q) ≡ step.awaits n q (st.Inner hole.Parens) ts
  unfolding er.parens
  parens_opened q ts =
      assoc (er.expr_part n (er.tight 0) ts) (λ x us. o.and_then (er.rest_of n (er.expr_part n) x us) (λ y vs. o.and_then (o.expect s.CloseParen vs) (λ _. o.pure (y.0, max (suc x.1) y.1)))) (step.operand n q)
      ∙ then_same (er.expr_part n (er.tight 0) ts) (λ x us. o.and_then (o.and_then (er.rest_of n (er.expr_part n) x us) (λ y vs. o.and_then (o.expect s.CloseParen vs) (λ _. o.pure (y.0, max (suc x.1) y.1)))) (step.operand n q)) (λ x. step.within n q x.1 0 x) (λ x us. in_parens q x us)

  called_opened : (q : Part) (w : List ℕ) (r : Outcome (List Expr × ℕ)) → o.and_then (o.and_then r (λ xs us. o.and_then (o.expect s.CloseParen us) (λ _. o.pure (e.Call w xs.0, suc xs.1)))) (step.operand n q) ≡ o.and_then r (step.called n q w)
  called_opened q w (Ok p) = go (o.expect s.CloseParen p.1)
    where
      go : (r : Outcome (Unit {0})) → o.and_then (o.and_then r (λ _. o.pure (e.Call w p.0.0, suc p.0.1))) (step.operand n q) ≡ o.and_then r (λ _. step.operand n q (e.Call w p.0.0, suc p.0.1))
      go (Ok p) = refl
      go (Err us) = refl
  called_opened q w (Err us) = refl

  pub opened_leads : (q : Part) (x : Opening) (ts : List Symbol) → o.and_then (step.opens n x ts) (step.operand n q) ≡ step.awaits n q (step.opened x) ts
  opened_leads q (opening.Whole x h) ts = refl
  opened_leads q (opening.Open a) ts = assoc (er.expr_part n (step.hole_part a) ts) (step.closes a) (step.operand n q)
  opened_leads q opening.Parens ts = parens_opened q ts
  opened_leads q opening.Braces ts = refl
  opened_leads q (opening.Arguments w) ts = called_opened q w (o.commas (er.expr n) ts)
