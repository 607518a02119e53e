-- The readers of widths by the readers within one level less.
use Rattle.std.proofs.Common.{◌≡◌, ℕ, zero, suc, ◌-◌, ◌<◌, ◌≤◌, Bool, true, false, List, [], ◌∷◌, length, Some, None, Ok, Err, refl, sym, ap, subst, ◌∙◌, arith, inl, inr}
use Rattle.std.specs.Prelude.{max, nat_lt, Result}
use Rattle.idl_tree.specs.declared.widths.Width.{Width}
use Rattle.idl_token.specs.declared.kinds.Sign.{Sign}
use Rattle.idl_token.specs.declared.kinds.Sign.TheVariants as s
use Rattle.idl_token.specs.Symbol.{Symbol}
use Rattle.idl_token.specs.Symbol as t
use Rattle.idl_grammar.specs.Tables.{summing}
use Rattle.idl_grammar.specs.Outcome as o
use Rattle.idl_grammar.specs.WidthReader as wr
use Rattle.idl_grammar.specs.WidthReader.{Found, Part}
use Rattle.idl_grammar.proofs.Apart.{law_reads}
use Rattle.idl_grammar.proofs.Bounds.{term_bounded}
use Rattle.std.proofs.lemmas.Bool.{lt-ltb}
use Rattle.std.proofs.lemmas.Bool.Decides.{leb_tells}
use Rattle.idl_grammar.specs.Outcome.{Outcome, Reader}
use Rattle.idl_grammar.proofs.WidthLaw.{PartAt, TermAt, width_part_law}
use Rattle.idl_grammar.proofs.WidthAgain.{adds, sums_turn}
use Rattle.idl_exprs.specs.declared.widths.SumSign.{SumSign}
use Rattle.idl_exprs.specs.declared.widths.SumSign.TheVariants as a
use Rattle.idl_exprs.specs.Gives.{widths_below}
use Rattle.idl_exprs.specs.Widths.{sum_sign_at, sum_of}
use Rattle.idl_exprs.specs.Gives.{Fails, Gives}
use Rattle.idl_exprs.specs.declared.stop.Stop.{Stop}
use Rattle.idl_exprs.specs.declared.stop.Stop.TheVariants as stop

pub below_is : (n : ℕ) (q : Part) (ts : List Symbol) → 1 ≤ n → widths_below n q ts ≡ wr.width_part (n - 1) q ts
unfolding widths_below
below_is n q ts le = go n (n - 1) (omega arith)
  where
    go : (n m : ℕ) → n ≡ suc m → widths_below n q ts ≡ wr.width_part m q ts
    go n m is = rw is refl

pub part_is : (n : ℕ) (q : Part) (ts : List Symbol) → wr.width_part n q ts ≡ wr.level n (widths_below n) q ts
unfolding wr.width_part widths_below
part_is zero q ts = refl
part_is (suc n) q ts = refl

pub sum_sign_some : (ts : List Symbol) (x : SumSign) → sum_sign_at (o.head ts) ≡ Some x → (c : Sign) × (us : List Symbol) × (ts ≡ t.sign c ∷ us) × (summing c ≡ Some (sum_of x))
sum_sign_some [] x e = absurd cc
sum_sign_some (t.sign s.Plus ∷ ts) x e = let is : a.Plus ≡ x = cc in (s.Plus, ts, refl, ap (λ (y : SumSign). Some (sum_of y)) is)
sum_sign_some (t.sign s.Minus ∷ ts) x e = let is : a.Minus ≡ x = cc in (s.Minus, ts, refl, ap (λ (y : SumSign). Some (sum_of y)) is)
sum_sign_some (c ∷ ts) x e = absurd cc

pub sum_sign_none : (ts : List Symbol) → sum_sign_at (o.head ts) ≡ None → adds ts ≡ false
sum_sign_none [] e = refl
sum_sign_none (t.sign s.Plus ∷ ts) e = absurd cc
sum_sign_none (t.sign s.Minus ∷ ts) e = absurd cc
sum_sign_none (c ∷ ts) e = refl

-- what a term that was read tells
pub record WasRead (n : ℕ) (ts : List Symbol) (h : ℕ) (us : List Symbol) : Type 0 where
  pub small : h ≤ n
  pub shorter : length us < length ts

pub term_read : (n : ℕ) (ts us : List Symbol) (x : Width) (f : Bool) (h : ℕ) → 1 ≤ n → widths_below n wr.term ts ≡ Ok ((x, f, h), us) → WasRead (n - 1) ts h us
term_read n ts us x f h le e = let k = law_reads (TermAt (n - 1) false) (wr.width_part (n - 1) wr.term) (width_part_law (n - 1) wr.term) ts us (x, f, h) (sym (below_is n wr.term ts le) ∙ e) in
    let b = term_bounded k.reads in record { small = k.within; shorter = omega arith }

pub part_atom : (n : ℕ) (ts : List Symbol) → wr.width_part n wr.atom ts ≡ wr.atoms n (widths_below n) false ts
unfolding wr.level
part_atom n ts = part_is n wr.atom ts

pub part_term : (n : ℕ) (ts : List Symbol) → wr.width_part n wr.term ts ≡ wr.terms n (widths_below n) false ts
unfolding wr.level
part_term n ts = part_is n wr.term ts

pub part_whole : (n : ℕ) (ts : List Symbol) → wr.width_part n wr.whole ts ≡ o.and_then (wr.terms n (widths_below n) false ts) (wr.sums n (widths_below n) n)
unfolding wr.level
part_whole n ts = part_is n wr.whole ts

pub part_factor : (n : ℕ) (ts : List Symbol) → wr.width_part n wr.factor ts ≡ wr.atoms n (widths_below n) true ts
unfolding wr.level
part_factor n ts = part_is n wr.factor ts

pub part_product : (n : ℕ) (ts : List Symbol) → wr.width_part n wr.product ts ≡ wr.terms n (widths_below n) true ts
unfolding wr.level
part_product n ts = part_is n wr.product ts

part_within : (n : ℕ) (q : Part) (ts us : List Symbol) (x : Found) → PartAt n q ts us x → x.2 ≤ n
part_within n wr.atom ts us x k = k.within
part_within n wr.term ts us x k = k.within
part_within n wr.whole ts us x k = k.within
part_within n wr.factor ts us x k = k.within
part_within n wr.product ts us x k = k.within

pub below_small : (n : ℕ) (q : Part) (ts us : List Symbol) (x : Width) (f : Bool) (h : ℕ) → 1 ≤ n → widths_below n q ts ≡ Ok ((x, f, h), us) → h ≤ n
below_small n q ts us x f h le e = let k = part_within (n - 1) q ts us (x, f, h) (law_reads (PartAt (n - 1) q) (wr.width_part (n - 1) q) (width_part_law (n - 1) q) ts us (x, f, h) (sym (below_is n q ts le) ∙ e)) in omega arith

pub fails_on : {A B : Type 0} (q : Outcome A) (q' : Outcome B) (e : Stop) (us : List Symbol) → (q ≡ Err us → q' ≡ Err us) → Fails q e us → Fails q' e us
fails_on q q' stop.Memory us goes fails = tt
fails_on q q' stop.Fault us goes fails = goes fails

-- the same of an answer that was kept
pub stops_by : {X Y : Type 0} (view : X → Y) (q : Outcome Y) (r : Result X Stop) (e : Stop) (us : List Symbol) → Gives view q r us → r ≡ Err e → Fails q e us
stops_by {X} view q r e us gives is = subst (λ (v : Result X Stop). Gives view q v us) is gives

pub reads_by : {X Y : Type 0} (view : X → Y) (q : Outcome Y) (r : Result X Stop) (x : X) (us : List Symbol) → Gives view q r us → r ≡ Ok x → q ≡ Ok (view x, us)
reads_by {X} view q r x us gives is = subst (λ (v : Result X Stop). Gives view q v us) is gives

above : (h n : ℕ) → n ≤ h → nat_lt h n ≡ false
above h n le = elim (leb_tells (suc h) n) [ inl p ↦ absurd (let m = p.1 in omega arith) | inr p ↦ p.0 ]

module _ (n : ℕ) (inner : Part → Reader Found) where
  refused_at : (f : ℕ) (x : Found) (c : Sign) (op : Width → Width → Width) (us : List Symbol) → summing c ≡ Some op → n ≤ x.2 → wr.sums n inner f x (t.sign c ∷ us) ≡ Err (t.sign c ∷ us)
  unfolding wr.sums
  refused_at zero x c op us is le = let big = above x.2 n le in rw (is, big) refl
  refused_at (suc f) x c op us is le = let big = above x.2 n le in rw (is, big) refl

  pub sums_refused : (f : ℕ) (x : Found) (ts : List Symbol) (y : SumSign) → sum_sign_at (o.head ts) ≡ Some y → n ≤ x.2 → wr.sums n inner f x ts ≡ Err ts
  sums_refused f x ts y e le = let k = sum_sign_some ts y e in let is = k.2 in rw is (refused_at f x k.0 (sum_of y) k.1 k.3 le)

  fails_at : (f : ℕ) (x : Found) (c : Sign) (op : Width → Width → Width) (us vs : List Symbol) → summing c ≡ Some op → x.2 < n → inner wr.term us ≡ Err vs → wr.sums n inner f x (t.sign c ∷ us) ≡ Err vs
  unfolding wr.sums
  fails_at zero x c op us vs is lt e = let small = lt-ltb x.2 n lt in rw (is, small, e) refl
  fails_at (suc f) x c op us vs is lt e = let small = lt-ltb x.2 n lt in rw (is, small, e) refl

  pub sums_fails : (f : ℕ) (x : Found) (ts vs : List Symbol) (y : SumSign) → sum_sign_at (o.head ts) ≡ Some y → x.2 < n → inner wr.term (o.after ts) ≡ Err vs → wr.sums n inner f x ts ≡ Err vs
  sums_fails f x ts vs y e lt fails = let k = sum_sign_some ts y e in let is = k.2 in let here : inner wr.term k.1 ≡ Err vs = ap (λ (v : List Symbol). inner wr.term (o.after v)) (sym is) ∙ fails in
      ap (wr.sums n inner f x) is ∙ fails_at f x k.0 (sum_of y) k.1 vs k.3 lt here

  pub sums_turned : (x y z : Width) (f g : Bool) (h i j : ℕ) (ts us : List Symbol) (d : SumSign) → sum_sign_at (o.head ts) ≡ Some d → h < n → inner wr.term (o.after ts) ≡ Ok ((y, g, i), us) → z ≡ sum_of d x y → j ≡ suc (max h i)
      → wr.sums n inner n (z, false, j) us ≡ wr.sums n inner n (x, f, h) ts
  sums_turned x y z f g h i j ts us d e lt reads z-is j-is = let k = sum_sign_some ts d e in let is = k.2 in
      let here : inner wr.term k.1 ≡ Ok ((y, g, i), us) = ap (λ (v : List Symbol). inner wr.term (o.after v)) (sym is) ∙ reads in
      ap (λ (v : Found). wr.sums n inner n v us) (ap (λ (v : Width). (v, false, j)) z-is ∙ ap (λ (m : ℕ). (sum_of d x y, false, m)) j-is)
      ∙ sym (ap (wr.sums n inner n (x, f, h)) is ∙ sums_turn n inner n n (x, f, h) (y, g, i) k.0 (sum_of d) k.1 us k.3 lt here (omega arith) (omega arith))

pub after_less : (ts : List Symbol) → length (o.after ts) ≤ length ts
after_less [] = omega arith
after_less (c ∷ ts) = omega arith

pub atom_read : (n : ℕ) (ts us : List Symbol) (x : Width) (f : Bool) (h : ℕ) → wr.width_part n wr.atom ts ≡ Ok ((x, f, h), us) → h ≤ n
atom_read n ts us x f h is = (law_reads (PartAt n wr.atom) (wr.width_part n wr.atom) (width_part_law n wr.atom) ts us (x, f, h) is).within

pub whole_read : (n : ℕ) (ts us : List Symbol) (x : Width) (f : Bool) (h : ℕ) → wr.width_part n wr.whole ts ≡ Ok ((x, f, h), us) → h ≤ n
whole_read n ts us x f h is = (law_reads (PartAt n wr.whole) (wr.width_part n wr.whole) (width_part_law n wr.whole) ts us (x, f, h) is).within
