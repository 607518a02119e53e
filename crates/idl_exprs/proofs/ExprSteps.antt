-- The readers of expressions by the tokens that come next.
use Rattle.std.proofs.Common.{◌≡◌, ℕ, zero, suc, ◌-◌, ◌<◌, ◌≤◌, Bool, true, false, cond, List, [], ◌∷◌, length, Option, Some, None, Ok, Err, refl, sym, ap, ◌∙◌, arith, inl, inr}
use Rattle.std.specs.Prelude.{max, nat_le, nat_eq}
use Rattle.std.proofs.lemmas.Bool.{le-leb, eqb-true, eq-eqb}
use Rattle.std.proofs.lemmas.Bool.Decides.{leb_tells}
use Rattle.idl_token.specs.declared.kinds.Sign.{Sign}
use Rattle.idl_token.specs.declared.kinds.Sign.TheVariants as s
use Rattle.idl_tree.specs.declared.widths.Width.{Width}
use Rattle.idl_tree.specs.declared.expressions.Unary.{Unary}
use Rattle.idl_tree.specs.declared.expressions.Expr.{Expr}
use Rattle.idl_tree.specs.declared.expressions.Expr.TheVariants as e
use Rattle.idl_token.specs.Symbol.{Symbol}
use Rattle.idl_token.specs.Symbol as t
use Rattle.idl_grammar.specs.Tables.{Infix, plain, wide, binding, unary_of}
use Rattle.idl_grammar.specs.ExprGrammar.{Inside, part_of}
use Rattle.idl_grammar.specs.Outcome as o
use Rattle.idl_grammar.specs.Outcome.{Outcome, Reader, Move, take, stop, pass}
use Rattle.idl_grammar.specs.WidthReader as wr
use Rattle.idl_grammar.specs.ExprReader as er
use Rattle.idl_grammar.specs.ExprReader.{Found, Part}
use Rattle.idl_grammar.proofs.Law.{is_sign-true}
use Rattle.idl_grammar.proofs.ListLaw.{Takes, law_takes}
use Rattle.idl_grammar.proofs.Apart.{law_reads}
use Rattle.idl_grammar.proofs.Bounds.{watom_bounded, level_bounded, expr_bounded}
use Rattle.idl_grammar.proofs.WidthLaw as wl
use Rattle.idl_grammar.proofs.ExprLaw.{ExprAt, PartAt, expr_shortens}
use Rattle.idl_grammar.proofs.LevelLaw.{expr_part_law, expr_law}
use Rattle.idl_grammar.proofs.Turns.{parts_turn, more_turn}
use Rattle.idl_exprs.specs.Exprs as piece

-- ---- the limit

pub deeper_goes : {A : Type 0} (n : ℕ) (p other : Reader A) (ts : List Symbol) → 1 ≤ n → o.moved (o.deeper n p) other ts ≡ p (o.after ts)
deeper_goes zero p other ts le = absurd (omega arith)
deeper_goes (suc n) p other ts le = refl

pub deeper_none : {A : Type 0} (n : ℕ) (p other : Reader A) (ts : List Symbol) → n ≡ 0 → o.moved (o.deeper n p) other ts ≡ Err ts
deeper_none n p other ts is = rw is refl

pub part_none : (n : ℕ) (q : Part) (ts : List Symbol) → n ≡ 0 → er.expr_part n q ts ≡ Err ts
unfolding er.expr_part
part_none n q ts is = rw is refl

pub part_is : (n : ℕ) (q : Part) (ts : List Symbol) → 1 ≤ n → er.expr_part n q ts ≡ er.level (n - 1) (er.expr_part (n - 1)) q ts
unfolding er.expr_part
part_is n q ts le = go n (n - 1) (omega arith)
  where
    go : (n m : ℕ) → n ≡ suc m → er.expr_part n q ts ≡ er.level m (er.expr_part m) q ts
    go n m is = rw is refl

-- ---- what was read

pub record WasRead (n : ℕ) (ts us : List Symbol) (h : ℕ) : Type 0 where
  pub small : h ≤ n
  pub shorter : length us ≤ length ts

at_part : (n : ℕ) (q : Part) (ts us : List Symbol) (x : Found) → PartAt n q ts us x → WasRead n ts us x.1
at_part n (er.tight k) ts us x r = let b = level_bounded r.reads in let i = b.high in record { small = r.within; shorter = omega arith }
at_part n er.any ts us x r = let b = expr_bounded r.reads in let i = b.high in record { small = r.within; shorter = omega arith }
at_part n (er.behind w) ts us x r = let b = expr_bounded r.reads in let i = b.high in let j = b.low in record { small = r.within; shorter = omega arith }

pub part_read : (n : ℕ) (q : Part) (ts us : List Symbol) (x : Found) → er.expr_part n q ts ≡ Ok (x, us) → WasRead n ts us x.1
part_read zero q ts us x is = absurd (let none = part_none 0 q ts refl in cc)
part_read (suc n) q ts us x is = at_part (suc n) q ts us x (law_reads (PartAt (suc n) q) (er.expr_part (suc n) q) (expr_part_law (suc n) q (omega arith)) ts us x is)

refused_takes : (n : ℕ) (ts : List Symbol) (q : Outcome Found) → q ≡ Err ts → Takes n q
refused_takes n ts q is = rw is tt

pub expr_takes : (n : ℕ) (ts : List Symbol) → Takes (length ts) (er.expr n ts)
expr_takes zero ts = refused_takes (length ts) ts (er.expr 0 ts) (part_none 0 er.any ts refl)
expr_takes (suc n) ts = law_takes (ExprAt (suc n)) (er.expr (suc n)) (expr_shortens (suc n)) (expr_law (suc n) (omega arith)) ts

-- ---- tokens

pub seen : (c : Sign) (ts : List Symbol) → o.sees (o.is_sign c) ts ≡ true → ts ≡ t.sign c ∷ o.after ts
seen c [] is = absurd cc
seen c (d ∷ ts) is = ap (λ (x : Symbol). x ∷ ts) (is_sign-true c d is)

pub above : (h n : ℕ) → n < h → nat_le h n ≡ false
above h n lt = elim (leb_tells h n) [ inl p ↦ absurd (let le = p.1 in omega arith) | inr p ↦ p.0 ]

pub seen_less : (c : Sign) (ts : List Symbol) → o.sees (o.is_sign c) ts ≡ true → length (o.after ts) < length ts
seen_less c [] is = absurd cc
seen_less c (d ∷ ts) is = omega arith

same_level : (k : ℕ) → nat_eq k k ≡ true
same_level k = eq-eqb k k refl

at_some : (k : ℕ) (b : Option (ℕ × Infix)) (op : Infix) → piece.at_level k b ≡ Some op → b ≡ Some (k, op)
at_some k None op is = absurd cc
at_some k (Some (j, x)) op is = go (nat_eq j k) refl is
  where
    go : (b : Bool) → nat_eq j k ≡ b → cond b (Some x) None ≡ Some op → ◌≡◌ {A = Option (ℕ × Infix)} (Some (j, x)) (Some (k, op))
    go true e same = let level : j ≡ k = eqb-true _ _ e in let here : x ≡ op = cc in rw (level, here) refl
    go false e same = absurd cc

pub operator_some : (k : ℕ) (ts : List Symbol) (op : Infix) → piece.operator_at k (o.head ts) ≡ Some op → (c : Sign) × (ts ≡ t.sign c ∷ o.after ts) × (binding c ≡ Some (k, op))
operator_some k [] op is = absurd cc
operator_some k (t.sign c ∷ ts) op is = (c, refl, at_some k (binding c) op is)
operator_some k (c ∷ ts) op is = absurd cc

module _ (n : ℕ) (inner : Part → Reader Found) where
  -- ---- brackets

  no_bracket : (again : Found → Reader Found) (x : Found) (ts : List Symbol) → o.sees (o.is_sign s.OpenBracket) ts ≡ false → o.choose (er.part_by n inner again x) (o.pure x) ts ≡ Ok (x, ts)
  no_bracket again x [] is = refl
  no_bracket again x (t.sign s.OpenBracket ∷ ts) is = absurd cc
  no_bracket again x (c ∷ ts) is = refl

  pub parts_stops : (f : ℕ) (x : Found) (ts : List Symbol) → o.sees (o.is_sign s.OpenBracket) ts ≡ false → er.parts n inner f x ts ≡ Ok (x, ts)
  unfolding er.parts
  parts_stops zero x ts is = no_bracket (λ _. o.refuse) x ts is
  parts_stops (suc f) x ts is = no_bracket (er.parts n inner f) x ts is

  deep_bracket : (f : ℕ) (x : Found) (us : List Symbol) → n < x.1 → er.parts n inner f x (t.sign s.OpenBracket ∷ us) ≡ Err (t.sign s.OpenBracket ∷ us)
  unfolding er.parts
  deep_bracket zero x us lt = let big = above x.1 n lt in rw big refl
  deep_bracket (suc f) x us lt = let big = above x.1 n lt in rw big refl

  pub parts_refused : (f : ℕ) (x : Found) (ts : List Symbol) → o.sees (o.is_sign s.OpenBracket) ts ≡ true → n < x.1 → er.parts n inner f x ts ≡ Err ts
  parts_refused f x ts is lt = let here = seen s.OpenBracket ts is in rw here (deep_bracket f x (o.after ts) lt)

  bad_bracket : (f : ℕ) (x : Found) (us vs : List Symbol) → x.1 ≤ n → er.inside n (inner er.any) us ≡ Err vs → er.parts n inner f x (t.sign s.OpenBracket ∷ us) ≡ Err vs
  unfolding er.parts
  bad_bracket zero x us vs le fails = let small = le-leb x.1 n le in rw (small, fails) refl
  bad_bracket (suc f) x us vs le fails = let small = le-leb x.1 n le in rw (small, fails) refl

  pub parts_fails : (f : ℕ) (x : Found) (ts vs : List Symbol) → o.sees (o.is_sign s.OpenBracket) ts ≡ true → x.1 ≤ n → er.inside n (inner er.any) (o.after ts) ≡ Err vs → er.parts n inner f x ts ≡ Err vs
  parts_fails f x ts vs is le fails = ap (er.parts n inner f x) (seen s.OpenBracket ts is) ∙ bad_bracket f x (o.after ts) vs le fails

  pub parts_turned : (x : Expr) (h : ℕ) (ts us : List Symbol) (j : Inside) (i : ℕ) (z : Expr) (g : ℕ) → o.sees (o.is_sign s.OpenBracket) ts ≡ true → h ≤ n → er.inside n (inner er.any) (o.after ts) ≡ Ok ((j, i), us) → z ≡ part_of x j → g ≡ suc (max h i)
      → er.parts n inner (suc n) (z, g) us ≡ er.parts n inner (suc n) (x, h) ts
  parts_turned x h ts us j i z g is le reads z-is g-is =
      ap (λ (v : Found). er.parts n inner (suc n) v us) (ap (λ (v : Expr). (v, g)) z-is ∙ ap (λ (m : ℕ). (part_of x j, m)) g-is)
      ∙ sym (ap (er.parts n inner (suc n) (x, h)) (seen s.OpenBracket ts is) ∙ parts_turn n inner (suc n) (suc n) (x, h) (j, i) (o.after ts) us le reads (omega arith) (omega arith))

  -- ---- signs of one level

  no_operator : (again : Found → Reader Found) (k : ℕ) (x : Found) (ts : List Symbol) (b : Option (ℕ × Infix)) → piece.at_level k b ≡ None → o.moved (er.operator_by n inner again k x b) (o.pure x) ts ≡ Ok (x, ts)
  no_operator again k x ts None is = refl
  no_operator again k x ts (Some (j, op)) is = go (nat_eq j k) is
    where
      go : (b : Bool) → cond b (Some op) None ≡ None → o.moved (cond b (o.allowed x.1 n (λ us. o.and_then (er.right_of n inner k op x us) again)) pass) (o.pure x) ts ≡ Ok (x, ts)
      go true e = absurd cc
      go false e = refl

  no_more : (again : Found → Reader Found) (k : ℕ) (x : Found) (ts : List Symbol) → piece.operator_at k (o.head ts) ≡ None → o.choose (er.more_by n inner again k x) (o.pure x) ts ≡ Ok (x, ts)
  no_more again k x [] is = refl
  no_more again k x (t.sign c ∷ ts) is = no_operator again k x (t.sign c ∷ ts) (binding c) is
  no_more again k x (c ∷ ts) is = refl

  pub more_stops : (f k : ℕ) (x : Found) (ts : List Symbol) → piece.operator_at k (o.head ts) ≡ None → er.more n inner f k x ts ≡ Ok (x, ts)
  unfolding er.more
  more_stops zero k x ts is = no_more (λ _. o.refuse) k x ts is
  more_stops (suc f) k x ts is = no_more (er.more n inner f k) k x ts is

  deep_operator : (f k : ℕ) (x : Found) (c : Sign) (op : Infix) (us : List Symbol) → binding c ≡ Some (k, op) → n < x.1 → er.more n inner f k x (t.sign c ∷ us) ≡ Err (t.sign c ∷ us)
  unfolding er.more
  deep_operator zero k x c op us is lt = let big = above x.1 n lt in let same : nat_eq k k ≡ true = same_level k in rw (is, same, big) refl
  deep_operator (suc f) k x c op us is lt = let big = above x.1 n lt in let same : nat_eq k k ≡ true = same_level k in rw (is, same, big) refl

  pub more_refused : (f k : ℕ) (x : Found) (ts : List Symbol) (op : Infix) → piece.operator_at k (o.head ts) ≡ Some op → n < x.1 → er.more n inner f k x ts ≡ Err ts
  more_refused f k x ts op is lt = let w = operator_some k ts op is in let here = w.1 in rw here (deep_operator f k x w.0 op (o.after ts) w.2 lt)

  bad_operator : (f k : ℕ) (x : Found) (c : Sign) (op : Infix) (us vs : List Symbol) → binding c ≡ Some (k, op) → x.1 ≤ n → er.right_of n inner k op x us ≡ Err vs → er.more n inner f k x (t.sign c ∷ us) ≡ Err vs
  unfolding er.more
  bad_operator zero k x c op us vs is le fails = let small = le-leb x.1 n le in let same : nat_eq k k ≡ true = same_level k in rw (is, same, small, fails) refl
  bad_operator (suc f) k x c op us vs is le fails = let small = le-leb x.1 n le in let same : nat_eq k k ≡ true = same_level k in rw (is, same, small, fails) refl

  pub more_fails : (f k : ℕ) (x : Found) (ts vs : List Symbol) (op : Infix) → piece.operator_at k (o.head ts) ≡ Some op → x.1 ≤ n → er.right_of n inner k op x (o.after ts) ≡ Err vs → er.more n inner f k x ts ≡ Err vs
  more_fails f k x ts vs op is le fails = let w = operator_some k ts op is in ap (er.more n inner f k x) w.1 ∙ bad_operator f k x w.0 op (o.after ts) vs w.2 le fails

  pub more_turned : (k : ℕ) (x : Found) (ts us : List Symbol) (op : Infix) (y : Found) → piece.operator_at k (o.head ts) ≡ Some op → x.1 ≤ n → x.1 < y.1 → er.right_of n inner k op x (o.after ts) ≡ Ok (y, us)
      → er.more n inner (suc n) k y us ≡ er.more n inner (suc n) k x ts
  more_turned k x ts us op y is le lt reads = let w = operator_some k ts op is in
      sym (ap (er.more n inner (suc n) k x) w.1 ∙ more_turn n inner (suc n) (suc n) k x y w.0 op (o.after ts) us w.2 le reads (omega arith) (omega arith) lt)

  -- ---- a choice

  pub choice_stops : (x : Found) (ts : List Symbol) → o.sees (o.is_sign s.Question) ts ≡ false → er.choice n inner x ts ≡ Ok (x, ts)
  unfolding er.choice
  choice_stops x [] is = refl
  choice_stops x (t.sign s.Question ∷ ts) is = absurd cc
  choice_stops x (c ∷ ts) is = refl

  deep_choice : (x : Found) (us : List Symbol) → n < x.1 → er.choice n inner x (t.sign s.Question ∷ us) ≡ Err (t.sign s.Question ∷ us)
  unfolding er.choice
  deep_choice x us lt = let big = above x.1 n lt in rw big refl

  pub choice_refused : (x : Found) (ts : List Symbol) → o.sees (o.is_sign s.Question) ts ≡ true → n < x.1 → er.choice n inner x ts ≡ Err ts
  choice_refused x ts is lt = let here = seen s.Question ts is in rw here (deep_choice x (o.after ts) lt)

  good_choice : (x : Found) (us : List Symbol) → x.1 ≤ n → er.choice n inner x (t.sign s.Question ∷ us) ≡ piece.sides inner x us
  unfolding er.choice
  good_choice x us le = let small = le-leb x.1 n le in rw small refl

  pub choice_goes : (x : Found) (ts : List Symbol) → o.sees (o.is_sign s.Question) ts ≡ true → x.1 ≤ n → er.choice n inner x ts ≡ piece.sides inner x (o.after ts)
  choice_goes x ts is le = ap (er.choice n inner x) (seen s.Question ts is) ∙ good_choice x (o.after ts) le

  -- ---- operands

  signed_none : (ts : List Symbol) (b : Option Unary) → b ≡ None → o.moved (er.signed_by n inner b) (er.post n inner) ts ≡ er.post n inner ts
  signed_none ts b is = rw is refl

  pub operand_plain : (ts : List Symbol) → piece.unary_at (o.head ts) ≡ None → er.operand n inner ts ≡ er.post n inner ts
  unfolding er.operand
  operand_plain [] is = refl
  operand_plain (t.sign c ∷ ts) is = signed_none (t.sign c ∷ ts) (unary_of c) is
  operand_plain (c ∷ ts) is = refl

  signed_by : (ts : List Symbol) (b : Option Unary) (op : Unary) → b ≡ Some op → o.moved (er.signed_by n inner b) (er.post n inner) ts ≡ o.moved (o.deeper n (piece.signed inner op)) (er.post n inner) ts
  signed_by ts b op is = rw is refl

  signed_is : (ts : List Symbol) (op : Unary) → piece.unary_at (o.head ts) ≡ Some op → er.operand n inner ts ≡ o.moved (o.deeper n (piece.signed inner op)) (er.post n inner) ts
  unfolding er.operand
  signed_is [] op is = absurd cc
  signed_is (t.sign c ∷ ts) op is = signed_by (t.sign c ∷ ts) (unary_of c) op is
  signed_is (c ∷ ts) op is = absurd cc

  pub operand_signed : (ts : List Symbol) (op : Unary) → piece.unary_at (o.head ts) ≡ Some op → 1 ≤ n → er.operand n inner ts ≡ piece.signed inner op (o.after ts)
  operand_signed ts op is le = signed_is ts op is ∙ deeper_goes n (piece.signed inner op) (er.post n inner) ts le

  pub operand_refused : (ts : List Symbol) (op : Unary) → piece.unary_at (o.head ts) ≡ Some op → n ≡ 0 → er.operand n inner ts ≡ Err ts
  operand_refused ts op is none = signed_is ts op is ∙ deeper_none n (piece.signed inner op) (er.post n inner) ts none

  -- ---- braces

  pub braced_reads : (ts us : List Symbol) (x : Expr) (h j : ℕ) → o.farther (er.joined n inner ts) (er.repeated n inner ts) ≡ Ok ((x, h), us) → j ≡ suc h → er.braced n inner ts ≡ Ok ((x, j), us)
  unfolding er.braced
  braced_reads ts us x h j is j-is = rw (is, j-is) refl

  pub braced_fails : (ts us : List Symbol) → o.farther (er.joined n inner ts) (er.repeated n inner ts) ≡ Err us → er.braced n inner ts ≡ Err us
  unfolding er.braced
  braced_fails ts us is = rw is refl

pub record RightRead (ts us : List Symbol) (h g : ℕ) : Type 0 where
  pub grows : h < g
  pub shorter : length us ≤ length ts

pub right_read : (n k : ℕ) (op : Infix) (x : Found) (ts us : List Symbol) (y : Found) → er.right_of n (er.expr_part n) k op x ts ≡ Ok (y, us) → RightRead ts us x.1 y.1
right_read n k (plain op) x ts us y is = go (er.expr_part n (er.tight k) ts) refl is
  where
    go : (q : Outcome Found) → er.expr_part n (er.tight k) ts ≡ q → o.and_then q (λ z. o.pure (e.Binary op x.0 z.0, suc (max x.1 z.1))) ≡ Ok (y, us) → RightRead ts us x.1 y.1
    go (Ok p) reads same = let both : ◌≡◌ {A = Found × List Symbol} ((e.Binary op x.0 p.0.0, suc (max x.1 p.0.1)), p.1) (y, us) = cc in let rest : p.1 ≡ us = ap (λ (v : Found × List Symbol). v.1) both in let nests : suc (max x.1 p.0.1) ≡ y.1 = ap (λ (v : Found × List Symbol). v.0.1) both in
        let r = part_read n (er.tight k) ts p.1 p.0 reads in let short = r.shorter in record { grows = omega arith; shorter = omega (arith, ap length rest) }
    go (Err vs) reads same = absurd cc
right_read n k wide x ts us y is = go (wr.width_part n wr.atom ts) refl is
  where
    go : (q : Outcome wr.Found) → wr.width_part n wr.atom ts ≡ q → o.and_then q (λ z. o.pure (e.WideLeft x.0 z.0, suc (max x.1 z.2))) ≡ Ok (y, us) → RightRead ts us x.1 y.1
    go (Ok p) reads same = let both : ◌≡◌ {A = Found × List Symbol} ((e.WideLeft x.0 p.0.0, suc (max x.1 p.0.2)), p.1) (y, us) = cc in let rest : p.1 ≡ us = ap (λ (v : Found × List Symbol). v.1) both in let nests : suc (max x.1 p.0.2) ≡ y.1 = ap (λ (v : Found × List Symbol). v.0.1) both in
        let r = law_reads (wl.PartAt n wr.atom) (wr.width_part n wr.atom) (wl.width_part_law n wr.atom) ts p.1 p.0 reads in let b = watom_bounded r.reads in record { grows = omega arith; shorter = omega (arith, ap length rest) }
    go (Err vs) reads same = absurd cc
