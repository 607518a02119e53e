-- Widths of the grammar are read as what they read as.
use Rattle.std.proofs.Common.{◌≡◌, ℕ, zero, suc, ◌+◌, ◌-◌, ◌<◌, ◌≤◌, Bool, true, false, cond, List, [], ◌∷◌, Option, Some, None, Ok, Err, refl, subst, ◌∙◌, arith}
use Rattle.std.specs.Prelude.{max, nat_lt}
use Rattle.std.proofs.lemmas.Bool.{ltb-true, lt-ltb}
use Rattle.idl_token.specs.declared.kinds.Sign.{Sign}
use Rattle.idl_token.specs.declared.kinds.Sign.TheVariants as s
use Rattle.idl_tree.specs.declared.widths.Width.{Width}
use Rattle.idl_tree.specs.declared.widths.Width.TheVariants as w
use Rattle.idl_token.specs.Symbol.{Symbol}
use Rattle.idl_token.specs.Symbol as t
use Rattle.idl_grammar.specs.Tables.{summing, is_short}
use Rattle.idl_grammar.specs.WidthGrammar as g
use Rattle.idl_grammar.specs.WidthGrammar.{ReadsWatom, ReadsTerm, ReadsSum, ReadsWidth}
use Rattle.idl_grammar.specs.Outcome as o
use Rattle.idl_grammar.specs.Outcome.{Outcome, Reader, Move, take, stop, pass}
use Rattle.idl_grammar.specs.WidthReader as wr
use Rattle.idl_grammar.specs.WidthReader.{Found, Part}

pub deeper_take : {B : Type 0} (n : ℕ) (p : Reader B) → 1 ≤ n → o.deeper n p ≡ take p
deeper_take zero p le = absurd (omega arith)
deeper_take (suc n) p le = refl

-- what may go on a term, and a width
abbrev pub multiplies : List Symbol → Bool
multiplies (t.sign s.Times ∷ ts) = true
multiplies _ = false

abbrev pub adds : List Symbol → Bool
adds (t.sign s.Plus ∷ ts) = true
adds (t.sign s.Minus ∷ ts) = true
adds _ = false

summing_plain : (c : Sign) (op : Width → Width → Width) (us : List Symbol) → summing c ≡ Some op → multiplies (t.sign c ∷ us) ≡ false
summing_plain s.Times op us e = absurd cc
summing_plain c op us e = refl

module _ (n : ℕ) (inner : Part → Reader Found) where
  pub sums_stop : (f : ℕ) (x : Found) (ts : List Symbol) → adds ts ≡ false → wr.sums n inner f x ts ≡ Ok (x, ts)
  unfolding wr.sums
  sums_stop zero x [] e = refl
  sums_stop zero x (t.sign s.Plus ∷ ts) e = absurd cc
  sums_stop zero x (t.sign s.Minus ∷ ts) e = absurd cc
  sums_stop zero x (c ∷ ts) e = refl
  sums_stop (suc f) x [] e = refl
  sums_stop (suc f) x (t.sign s.Plus ∷ ts) e = absurd cc
  sums_stop (suc f) x (t.sign s.Minus ∷ ts) e = absurd cc
  sums_stop (suc f) x (c ∷ ts) e = refl

  abbrev Same : Found → (Found → Reader Found) → (Found → Reader Found) → Type 0
  Same x again again' = x.2 < n → (y : Found) (us : List Symbol) → x.2 < y.2 → again y us ≡ again' y us

  sum_same : (again again' : Found → Reader Found) (x : Found) → Same x again again' → (op : Option (Width → Width → Width)) (ts : List Symbol) → o.moved (wr.sum_by n inner again x op) (o.pure x) ts ≡ o.moved (wr.sum_by n inner again' x op) (o.pure x) ts
  sum_same again again' x same None ts = refl
  sum_same again again' x same (Some op) ts = go (nat_lt x.2 n) refl
    where
      next : x.2 < n → (q : Outcome Found) → o.and_then q (λ y. again (op x.0 y.0, false, suc (max x.2 y.2))) ≡ o.and_then q (λ y. again' (op x.0 y.0, false, suc (max x.2 y.2)))
      next lt (Ok p) = same lt _ p.1 (omega arith)
      next lt (Err us) = refl

      go : (b : Bool) → nat_lt x.2 n ≡ b → o.moved (cond b (take (λ us. o.and_then (inner wr.term us) (λ y. again (op x.0 y.0, false, suc (max x.2 y.2))))) stop) (o.pure x) ts
          ≡ o.moved (cond b (take (λ us. o.and_then (inner wr.term us) (λ y. again' (op x.0 y.0, false, suc (max x.2 y.2))))) stop) (o.pure x) ts
      go true e = next (ltb-true _ _ e) (inner wr.term (o.after ts))
      go false e = refl

  sums_same : (again again' : Found → Reader Found) (x : Found) → Same x again again' → (ts : List Symbol) → o.choose (wr.sums_by n inner again x) (o.pure x) ts ≡ o.choose (wr.sums_by n inner again' x) (o.pure x) ts
  sums_same again again' x same [] = refl
  sums_same again again' x same (t.sign c ∷ ts) = sum_same again again' x same (summing c) (t.sign c ∷ ts)
  sums_same again again' x same (c ∷ ts) = refl

  -- more turns than there can be
  pub sums_enough : (f f' : ℕ) (x : Found) (ts : List Symbol) → n ≤ f + x.2 → n ≤ f' + x.2 → wr.sums n inner f x ts ≡ wr.sums n inner f' x ts
  unfolding wr.sums
  sums_enough zero zero x ts l l' = refl
  sums_enough zero (suc f') x ts l l' = sums_same (λ _. o.refuse) (wr.sums n inner f') x (λ lt y us m. absurd (omega arith)) ts
  sums_enough (suc f) zero x ts l l' = sums_same (wr.sums n inner f) (λ _. o.refuse) x (λ lt y us m. absurd (omega arith)) ts
  sums_enough (suc f) (suc f') x ts l l' = sums_same (wr.sums n inner f) (wr.sums n inner f') x (λ lt y us m. sums_enough f f' y us (omega arith) (omega arith)) ts

  pub sums_turn : (f f' : ℕ) (x y : Found) (c : Sign) (op : Width → Width → Width) (us vs : List Symbol) → summing c ≡ Some op → x.2 < n → inner wr.term us ≡ Ok (y, vs) → n ≤ f + x.2 → n ≤ f' + suc (max x.2 y.2)
      → wr.sums n inner f x (t.sign c ∷ us) ≡ wr.sums n inner f' (op x.0 y.0, false, suc (max x.2 y.2)) vs
  unfolding wr.sums
  sums_turn zero f' x y c op us vs is lt e l l' = absurd (omega arith)
  sums_turn (suc f) f' x y c op us vs is lt e l l' = let small = lt-ltb x.2 n lt in rw (is, small, e) (sums_enough f f' (op x.0 y.0, false, suc (max x.2 y.2)) vs (omega arith) l')

  multiplied_stop : (x : Found) (ts : List Symbol) → multiplies ts ≡ false → wr.multiplied n inner x ts ≡ Ok (x, ts)
  unfolding wr.multiplied
  multiplied_stop x [] e = refl
  multiplied_stop x (t.sign s.Times ∷ ts) e = absurd cc
  multiplied_stop x (c ∷ ts) e = refl

  multiplied_past : (x : Found) (ts : List Symbol) → x.1 ≡ false → wr.multiplied n inner x ts ≡ Ok (x, ts)
  unfolding wr.multiplied
  multiplied_past x [] e = refl
  multiplied_past x (t.sign s.Times ∷ ts) e = rw e refl
  multiplied_past x (c ∷ ts) e = refl

  after_number_stop : (k : ℕ) (ts : List Symbol) → multiplies ts ≡ false → wr.after_number n inner k ts ≡ Ok ((w.Number k, true, 0), ts)
  unfolding wr.after_number
  after_number_stop k [] e = refl
  after_number_stop k (t.sign s.Times ∷ ts) e = absurd cc
  after_number_stop k (c ∷ ts) e = refl

-- all that reads within n is read
pub record AgainWidth (n : ℕ) (read : Part → Reader Found) : Type 0 where
  pub atoms : {f : Bool} {h : ℕ} {ts us : List Symbol} {a : Width} → ReadsWatom f h ts us a → h ≤ n → read wr.atom ts ≡ Ok ((a, f, h), us)
  pub factors : {h : ℕ} {ts us : List Symbol} {a : Width} → ReadsWatom true h ts us a → h ≤ n → read wr.factor ts ≡ Ok ((a, true, h), us)
  pub terms : {f : Bool} {h : ℕ} {ts us : List Symbol} {a : Width} → ReadsTerm f h ts us a → h ≤ n → multiplies us ≡ false → read wr.term ts ≡ Ok ((a, f, h), us)
  pub products : {h : ℕ} {ts us : List Symbol} {a : Width} → ReadsTerm true h ts us a → h ≤ n → multiplies us ≡ false → read wr.product ts ≡ Ok ((a, true, h), us)
  pub wholes : {h : ℕ} {ts us : List Symbol} {a : Width} → ReadsWidth h ts us a → h ≤ n → multiplies us ≡ false → adds us ≡ false → (f : Bool) × (read wr.whole ts ≡ Ok ((a, f, h), us))

-- a reader of the first term
pub record Firsts (b : ℕ) (first : Reader Found) : Type 0 where
  pub terms : {f : Bool} {h : ℕ} {ts us : List Symbol} {a : Width} → ReadsTerm f h ts us a → h ≤ b → multiplies us ≡ false → first ts ≡ Ok ((a, f, h), us)

-- where the sums behind a first term have come
pub record GoesTo (n : ℕ) (inner : Part → Reader Found) (first : Reader Found) (ts us : List Symbol) (a : Width) (f : Bool) (h : ℕ) : Type 0 where
  pub start : Found
  pub mid : List Symbol
  pub began : first ts ≡ Ok (start, mid)
  pub went : wr.sums n inner n start mid ≡ wr.sums n inner n (a, f, h) us
  pub base : start.2 ≤ h

module _ (n : ℕ) (inner : Part → Reader Found) (again : 1 ≤ n → AgainWidth (n - 1) inner) where
  module _ (room : ℕ) (first : Reader Found) (firsts : Firsts room first) where
    mutual
      width_goes : {h : ℕ} {ts us : List Symbol} {a : Width} → ReadsWidth h ts us a → h ≤ n → h ≤ room → n ≤ suc room → multiplies us ≡ false → (f : Bool) × GoesTo n inner first ts us a f h
      width_goes (g.term {f} {h} {ts} {us} {a} q) le low high e = (f, record { start = (a, f, h); mid = us; began = firsts.terms q low e; went = refl; base = omega arith })
      width_goes (g.sum_of q) le low high e = let k = sum_goes q le high e in (false, k.0)

      sum_goes : {h : ℕ} {ts us : List Symbol} {a : Width} → ReadsSum h ts us a → h ≤ n → n ≤ suc room → multiplies us ≡ false → (k : GoesTo n inner first ts us a false h) × (k.start.2 < h)
      sum_goes (g.sum {h} {i} {f} {ts} {us} {vs} {a} {b} {c} {op} q is m) le high e =
          let k = width_goes q (omega arith) (omega arith) high (summing_plain c op us is) in
          let right : inner wr.term us ≡ Ok ((b, f, i), vs) = (again (omega arith)).terms m (omega arith) e in
          let low = k.1.base in (
            record {
              start = k.1.start;
              mid = k.1.mid;
              began = k.1.began;
              went = k.1.went ∙ sums_turn n inner n n (a, k.0, h) (b, f, i) c op us vs is (omega arith) right (omega arith) (omega arith);
              base = omega arith;
            },
            omega arith,
          )

  parens_again : {f : Bool} {h : ℕ} {ts us : List Symbol} {a : Width} → ReadsTerm f h ts (t.sign s.CloseParen ∷ us) a → suc h ≤ n → wr.parens n inner ts ≡ Ok ((a, f, suc h), us)
  unfolding wr.parens o.want
  parens_again {f} {h} {ts} {us} {a} q le =
      let first : inner wr.term ts ≡ Ok ((a, f, h), t.sign s.CloseParen ∷ us) = (again (omega arith)).terms q (omega arith) refl in
      let same : max (suc h) h ≡ suc h = omega arith in
      rw (first, sums_stop n inner n (a, f, h) (t.sign s.CloseParen ∷ us) refl, same) refl

  parens_sum_again : {h : ℕ} {ts us : List Symbol} {a : Width} → ReadsSum h ts (t.sign s.CloseParen ∷ us) a → h ≤ n → 1 ≤ n → wr.parens n inner ts ≡ Ok ((a, false, h), us)
  unfolding wr.parens o.want
  parens_sum_again {h} {ts} {us} {a} q le low =
      let k = sum_goes (n - 1) (inner wr.term) (record { terms = (again low).terms }) q le (omega arith) refl in
      let end : wr.sums n inner n k.0.start k.0.mid ≡ Ok ((a, false, h), t.sign s.CloseParen ∷ us) = k.0.went ∙ sums_stop n inner n (a, false, h) (t.sign s.CloseParen ∷ us) refl in
      let same : max (suc k.0.start.2) h ≡ h = let lt = k.1 in omega arith in
      let began = k.0.began in
      rw (began, end, same) refl

  factor_parens_again : {h : ℕ} {ts us : List Symbol} {a : Width} → ReadsTerm true h ts (t.sign s.CloseParen ∷ us) a → suc h ≤ n → wr.factor_parens n inner ts ≡ Ok ((a, true, suc h), us)
  unfolding wr.factor_parens o.want
  factor_parens_again {h} {ts} {us} {a} q le =
      let first : inner wr.product ts ≡ Ok ((a, true, h), t.sign s.CloseParen ∷ us) = (again (omega arith)).products q (omega arith) refl in rw first refl

  greatest_again : {h i : ℕ} {ts us vs : List Symbol} {a b : Width} → ReadsWidth h ts (t.sign s.Comma ∷ us) a → ReadsWidth i us (t.sign s.CloseParen ∷ vs) b → suc (max h i) ≤ n
      → wr.greatest n inner (t.sign s.OpenParen ∷ ts) ≡ Ok ((w.Max a b, false, suc (max h i)), vs)
  unfolding wr.greatest o.want
  greatest_again {h} {i} {ts} {us} {vs} {a} {b} q m le =
      let one = (again (omega arith)).wholes q (omega arith) refl refl in let two = (again (omega arith)).wholes m (omega arith) refl refl in
      let first : inner wr.whole ts ≡ Ok ((a, one.0, h), t.sign s.Comma ∷ us) = one.1 in let second : inner wr.whole us ≡ Ok ((b, two.0, i), t.sign s.CloseParen ∷ vs) = two.1 in
      rw (first, second) refl

  atom_again : {f : Bool} {h : ℕ} {ts us : List Symbol} {a : Width} → ReadsWatom f h ts us a → h ≤ n → wr.atoms n inner false ts ≡ Ok ((a, f, h), us)
  unfolding wr.atoms wr.bits o.want o.name
  atom_again (g.number e) le = rw e refl
  atom_again g.word le = refl
  atom_again g.bits le = refl
  atom_again g.field_bits le = refl
  atom_again (g.greatest {h} {i} q m) le = rw (deeper_take {B = Found} n (wr.greatest n inner) (omega arith)) (greatest_again q m le)
  atom_again (g.parens q) le = rw (deeper_take {B = Found} n (wr.parens n inner) (omega arith)) (parens_again q le)
  atom_again (g.parens_sum {h} q) le = let low : 1 ≤ n = sum_low q le in rw (deeper_take {B = Found} n (wr.parens n inner) low) (parens_sum_again q le low)
    where
      sum_low : {h : ℕ} {ts us : List Symbol} {a : Width} → ReadsSum h ts us a → h ≤ n → 1 ≤ n
      sum_low (g.sum q is m) le = omega arith

  factor_again : {h : ℕ} {ts us : List Symbol} {a : Width} → ReadsWatom true h ts us a → h ≤ n → wr.atoms n inner true ts ≡ Ok ((a, true, h), us)
  unfolding wr.atoms wr.bits o.want o.name
  factor_again (g.number e) le = rw e refl
  factor_again g.word le = refl
  factor_again g.bits le = refl
  factor_again g.field_bits le = refl
  factor_again (g.parens q) le = rw (deeper_take {B = Found} n (wr.factor_parens n inner) (omega arith)) (factor_parens_again q le)

  factor_flag : (f : Bool) {h : ℕ} {ts us : List Symbol} {a : Width} → f ≡ true → ReadsWatom f h ts us a → h ≤ n → wr.atoms n inner true ts ≡ Ok ((a, f, h), us)
  factor_flag true e q le = factor_again q le
  factor_flag false e q le = absurd cc

  atoms_again : (m : Bool) {f : Bool} {h : ℕ} {ts us : List Symbol} {a : Width} → ReadsWatom f h ts us a → h ≤ n → (m ≡ true → f ≡ true) → wr.atoms n inner m ts ≡ Ok ((a, f, h), us)
  atoms_again true {f} q le mark = factor_flag f (mark refl) q le
  atoms_again false q le mark = atom_again q le

  factor_next : (k : ℕ) {h : ℕ} {ts us : List Symbol} {a : Width} → ReadsWatom true h ts us a → suc h ≤ n → wr.after_number n inner k (t.sign s.Times ∷ ts) ≡ Ok ((w.Times (w.Number k) a, true, suc h), us)
  unfolding wr.after_number
  factor_next k q le = let first = (again (omega arith)).factors q (omega arith) in
      rw (deeper_take {B = Found} n (λ us. o.and_then (inner wr.factor us) (λ y. o.pure (w.Times (w.Number k) y.0, true, suc y.2))) (omega arith), first) refl

  multiplied_number : (a : Width) (h k : ℕ) (us : List Symbol) → h < n → is_short k ≡ true → wr.multiplied n inner (a, true, h) (t.sign s.Times ∷ t.number k ∷ us) ≡ Ok ((w.Times a (w.Number k), true, suc h), us)
  unfolding wr.multiplied
  multiplied_number a h k us lt e = let small = lt-ltb h n lt in rw (small, e) refl

  terms_again : (m : Bool) {f : Bool} {h : ℕ} {ts us : List Symbol} {a : Width} → ReadsTerm f h ts us a → h ≤ n → multiplies us ≡ false → (m ≡ true → f ≡ true) → wr.terms n inner m ts ≡ Ok ((a, f, h), us)
  unfolding wr.terms
  terms_again m (g.atom (g.number {k} {us} e)) le ends mark = rw e (after_number_stop n inner k us ends)
  terms_again m {f} {h} {ts} {us} {a} (g.atom q) le ends mark = let first = atoms_again m q le mark in rw first (multiplied_stop n inner (a, f, h) us ends)
  terms_again m (g.times {k} e q) le ends mark = rw e (factor_next k q le)
  terms_again m (g.times_number (g.number {k = j} e') e) le ends mark = rw e' (factor_next j (g.number e) (omega arith))
  terms_again m (g.times_number {k} {h} {ts} {us} {a} q e) le ends mark = let first = atoms_again m q (omega arith) (λ _. refl) in rw first (multiplied_number a h k us (omega arith) e)

  whole_again : {h : ℕ} {ts us : List Symbol} {a : Width} → ReadsWidth h ts us a → h ≤ n → multiplies us ≡ false → adds us ≡ false → (f : Bool) × (wr.level n inner wr.whole ts ≡ Ok ((a, f, h), us))
  unfolding wr.level
  whole_again {h} {ts} {us} {a} q le ends ends' =
      let k = width_goes n (wr.terms n inner false) (record { terms = λ q le e. terms_again false q le e (λ e. absurd cc) }) q le le (omega arith) ends in
      let began = k.1.began in
      (k.0, rw began (k.1.went ∙ sums_stop n inner n (a, k.0, h) us ends'))

  pub level_again : AgainWidth n (wr.level n inner)
  unfolding wr.level
  level_again = record {
    atoms = λ q le. atom_again q le;
    factors = λ q le. factor_again q le;
    terms = λ q le e. terms_again false q le e (λ e. absurd cc);
    products = λ q le e. terms_again true q le e (λ e. refl);
    wholes = λ q le e e'. whole_again q le e e';
  }

pub width_again : (n : ℕ) → AgainWidth n (wr.width_part n)
unfolding wr.width_part
width_again zero = level_again 0 (λ _. o.refuse) (λ le. absurd (omega arith))
width_again (suc n) = level_again (suc n) (wr.width_part n) (λ le. let e : n ≡ suc n - 1 = omega arith in subst (λ (m : ℕ). AgainWidth m (wr.width_part n)) e (width_again n))

-- a whole width
pub whole_width : (n : ℕ) {h : ℕ} {ts us : List Symbol} {a : Width} → ReadsWidth h ts us a → h ≤ n → multiplies us ≡ false → adds us ≡ false → wr.width n ts ≡ Ok ((a, h), us)
whole_width n q le ends ends' = let k = (width_again n).wholes q le ends ends' in let e = k.1 in rw e refl
