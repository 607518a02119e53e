-- The readers of widths keep the law.
use Rattle.std.proofs.Common.{◌≡◌, ℕ, zero, suc, ◌-◌, ◌<◌, ◌≤◌, Bool, true, false, cond, List, [], ◌∷◌, ◌++◌, Option, Some, None, refl, sym, subst, append_assoc, arith}
use Rattle.std.specs.Prelude.{max, nat_lt}
use Rattle.std.proofs.lemmas.Bool.{ltb-true}
use Rattle.idl_token.specs.declared.kinds.Reserved.TheVariants as r
use Rattle.idl_token.specs.declared.kinds.Special.TheVariants as p
use Rattle.idl_token.specs.declared.kinds.Sign.{Sign}
use Rattle.idl_token.specs.declared.kinds.Sign.TheVariants as s
use Rattle.idl_tree.specs.declared.widths.Width.{Width}
use Rattle.idl_tree.specs.declared.widths.Width.TheVariants as w
use Rattle.idl_token.specs.Symbol.{Symbol}
use Rattle.idl_token.specs.Symbol as t
use Rattle.idl_grammar.specs.Tables.{summing, is_short}
use Rattle.idl_grammar.specs.WidthGrammar as g
use Rattle.idl_grammar.specs.WidthGrammar.{ReadsWatom, ReadsTerm, ReadsSum, ReadsWidth}
use Rattle.idl_grammar.specs.Outcome as o
use Rattle.idl_grammar.specs.Outcome.{Reader, Move, take, stop, pass}
use Rattle.idl_grammar.specs.WidthReader as wr
use Rattle.idl_grammar.specs.WidthReader.{Found, Part}
use Rattle.idl_grammar.proofs.Law.{Reads, behind, Whole, Sample, Law, LawMove, law_pure, law_refuse, law_map, law_behind, law_bind, law_choose, law_among, law_deeper, law_move_if, law_expect, law_name}

-- what a reader of atoms within n answers; where the flag stands, only factors
pub record AtomAt (n : ℕ) (m : Bool) (ts us : List Symbol) (x : Found) : Type 0 where
  pub reads : ReadsWatom x.1 x.2 ts us x.0
  pub within : x.2 ≤ n
  pub marked : m ≡ true → x.1 ≡ true

pub record TermAt (n : ℕ) (m : Bool) (ts us : List Symbol) (x : Found) : Type 0 where
  pub reads : ReadsTerm x.1 x.2 ts us x.0
  pub within : x.2 ≤ n
  pub marked : m ≡ true → x.1 ≡ true

-- what stands behind a term of nesting b: nothing, or a sum within n
pub data TotalAt (b n : ℕ) (ts us : List Symbol) (x : Found) : Type 0 where
  lone : ReadsTerm x.1 x.2 ts us x.0 → x.2 ≡ b → b ≤ n → TotalAt b n ts us x
  summed : ReadsSum x.2 ts us x.0 → b < x.2 → x.2 ≤ n → x.1 ≡ false → TotalAt b n ts us x

pub record WholeAt (n : ℕ) (ts us : List Symbol) (x : Found) : Type 0 where
  pub reads : ReadsWidth x.2 ts us x.0
  pub within : x.2 ≤ n

abbrev pub PartAt : ℕ → Part → Reads Found
PartAt n wr.atom = AtomAt n false
PartAt n wr.term = TermAt n false
PartAt n wr.whole = WholeAt n
PartAt n wr.factor = AtomAt n true
PartAt n wr.product = TermAt n true

pub total_whole : {b n : ℕ} {ts us : List Symbol} {x : Found} → TotalAt b n ts us x → WholeAt n ts us x
total_whole (lone q is le) = record { reads = g.term q; within = omega arith }
total_whole (summed q lt le e) = record { reads = g.sum_of q; within = le }

total_base : {b n : ℕ} {ts us : List Symbol} {x : Found} → TotalAt b n ts us x → b ≤ x.2
total_base (lone q is le) = omega arith
total_base (summed q lt le e) = omega arith

bits_law : (n : ℕ) (m : Bool) → Law (behind (t.special p.WidthOf ∷ []) (AtomAt n m)) wr.bits
unfolding wr.bits
bits_law n m = law_expect _ _ (law_among wr.bits_by goes go)
  where
    goes : Sample (behind (t.sign s.OpenParen ∷ []) (behind (t.special p.WidthOf ∷ []) (AtomAt n m)))
    goes = record { more = t.word [] ∷ t.sign s.CloseParen ∷ []; value = (w.Bits None [], true, 0); reads = λ us. record { reads = g.bits; within = omega arith; marked = λ _. refl } }

    go : (c : Symbol) → LawMove (behind (c ∷ []) (behind (t.sign s.OpenParen ∷ []) (behind (t.special p.WidthOf ∷ []) (AtomAt n m)))) (wr.bits_by c)
    go (t.word x) = law_expect _ _ (law_pure _ _ (λ us. record { reads = g.bits; within = omega arith; marked = λ _. refl }))
    go (t.reserved r.Csr) = law_expect _ _ (law_name _ (λ x. law_expect _ _ (law_expect _ _ (law_name _ (λ y. law_expect _ _
        (law_pure _ _ (λ us. record { reads = g.field_bits; within = omega arith; marked = λ _. refl })))))))
    go c = tt

zero_atom : (n : ℕ) (m : Bool) → Sample (AtomAt n m)
zero_atom n m = record { more = t.number 0 ∷ []; value = (w.Number 0, true, 0); reads = λ us. record { reads = g.number refl; within = omega arith; marked = λ _. refl } }

module _ (n : ℕ) (inner : Part → Reader Found) (laws : (q : Part) → 1 ≤ n → Law (PartAt (n - 1) q) (inner q)) where
  -- a width on the left, and a sum's sign with its right operand
  summed_whole : (b : ℕ) (text : List Symbol) (x : Found) (c : Sign) (op : Width → Width → Width) (a : List Symbol) (y : Found) → summing c ≡ Some op → x.2 < n → Whole (TotalAt b n) text x → Whole (TermAt (n - 1) false) a y
      → Whole (TotalAt b n) (text ++ t.sign c ∷ a) (op x.0 y.0, false, suc (max x.2 y.2))
  summed_whole b text x c op a y is lt q v us = let le = (v us).within in let low = total_base (q us) in
      subst (λ (ts : List Symbol). TotalAt b n ts us (op x.0 y.0, false, suc (max x.2 y.2))) (sym (append_assoc text (t.sign c ∷ a) us))
      (summed (g.sum (total_whole (q (t.sign c ∷ a ++ us))).reads is (v us).reads) (omega arith) (omega arith) refl)

  abbrev Goes : ℕ → (Found → Reader Found) → Type 0
  Goes b again = (x : Found) (text : List Symbol) → Whole (TotalAt b n) text x → Law (behind text (TotalAt b n)) (again x)

  sum_move : (b : ℕ) (again : Found → Reader Found) → Goes b again → (x : Found) (text : List Symbol) → Whole (TotalAt b n) text x → (c : Sign) (op : Option (Width → Width → Width)) → summing c ≡ op
      → LawMove (behind (t.sign c ∷ []) (behind text (TotalAt b n))) (wr.sum_by n inner again x op)
  sum_move b again goes x text q c None is = tt
  sum_move b again goes x text q c (Some op) is = law_move_if (nat_lt x.2 n) _ (λ e. let lt : x.2 < n = ltb-true _ _ e in law_bind (inner wr.term) _ (laws wr.term (omega arith))
      (λ y a v. law_behind (TotalAt b n) text (t.sign c ∷ a) _ (goes (op x.0 y.0, false, suc (max x.2 y.2)) (text ++ t.sign c ∷ a) (summed_whole b text x c op a y is lt q v))))

  sums_move : (b : ℕ) (again : Found → Reader Found) → Goes b again → (x : Found) (text : List Symbol) → Whole (TotalAt b n) text x → (c : Symbol) → LawMove (behind (c ∷ []) (behind text (TotalAt b n))) (wr.sums_by n inner again x c)
  sums_move b again goes x text q (t.sign c) = sum_move b again goes x text q c (summing c) refl
  sums_move b again goes x text q c = tt

  sums_law : (b f : ℕ) → Goes b (wr.sums n inner f)
  unfolding wr.sums
  sums_law b zero x text q = law_choose (wr.sums_by n inner (λ _. o.refuse) x) (o.pure x) (sums_move b (λ _. o.refuse) (λ y a v. law_refuse _ (record { more = []; value = y; reads = v })) x text q) (law_pure _ x q)
  sums_law b (suc f) x text q = law_choose (wr.sums_by n inner (wr.sums n inner f) x) (o.pure x) (sums_move b (wr.sums n inner f) (sums_law b f) x text q) (law_pure _ x q)

  closed : (x y : Found) (ts us : List Symbol) → x.2 < n → TotalAt x.2 n ts (t.sign s.CloseParen ∷ us) y → AtomAt n false (t.sign s.OpenParen ∷ ts) us (y.0, y.1, max (suc x.2) y.2)
  closed x y ts us lt (lone q is le) = let e : suc y.2 ≡ max (suc x.2) y.2 = omega arith in
      record { reads = subst (λ (h : ℕ). ReadsWatom y.1 h (t.sign s.OpenParen ∷ ts) us y.0) e (g.parens q); within = omega arith; marked = λ e. absurd cc }
  closed x y ts us lt (summed q lt' le e) = let e' : y.2 ≡ max (suc x.2) y.2 = omega arith in
      record { reads = subst (λ (f : Bool). ReadsWatom f (max (suc x.2) y.2) (t.sign s.OpenParen ∷ ts) us y.0) (sym e) (subst (λ (h : ℕ). ReadsWatom false h (t.sign s.OpenParen ∷ ts) us y.0) e' (g.parens_sum q)); within = omega arith; marked = λ e. absurd cc }

  parens_law : 1 ≤ n → Law (behind (t.sign s.OpenParen ∷ []) (AtomAt n false)) (wr.parens n inner)
  unfolding wr.parens
  parens_law le = law_bind (inner wr.term) _ (laws wr.term le) (λ x a q. let low = (q []).within in law_bind (wr.sums n inner n x) _ (sums_law x.2 n x a (λ us. lone (q us).reads refl (omega arith)))
      (λ y b v. law_expect _ _ (law_pure _ _ (λ us. closed x y (a ++ (b ++ (t.sign s.CloseParen ∷ us))) us (omega arith) (v (t.sign s.CloseParen ∷ us))))))

  factor_parens_law : 1 ≤ n → Law (behind (t.sign s.OpenParen ∷ []) (AtomAt n true)) (wr.factor_parens n inner)
  unfolding wr.factor_parens
  factor_parens_law le = law_bind (inner wr.product) _ (laws wr.product le) (λ x a q. law_expect _ _ (law_pure _ _
      (λ us. let k = q (t.sign s.CloseParen ∷ us) in record { reads = g.parens k.reads; within = let low = k.within in omega arith; marked = k.marked })))

  greatest_law : 1 ≤ n → Law (behind (t.reserved r.Max ∷ []) (AtomAt n false)) (wr.greatest n inner)
  unfolding wr.greatest
  greatest_law le = law_expect _ _ (law_bind (inner wr.whole) _ (laws wr.whole le) (λ x a q. law_expect _ _ (law_bind (inner wr.whole) _ (laws wr.whole le) (λ y b v. law_expect _ _ (law_pure _ _
      (λ us. let k = q (t.sign s.Comma ∷ (b ++ (t.sign s.CloseParen ∷ us))) in let l = v (t.sign s.CloseParen ∷ us) in
      record { reads = g.greatest k.reads l.reads; within = let low = k.within in let low' = l.within in omega arith; marked = λ e. absurd cc }))))))

  atom_move : (m : Bool) (c : Symbol) → LawMove (behind (c ∷ []) (AtomAt n m)) (wr.atom_by n inner m c)
  atom_move m (t.number k) = law_move_if (is_short k) _ (λ e. law_pure _ _ (λ us. record { reads = g.number e; within = omega arith; marked = λ _. refl }))
  atom_move m (t.word x) = law_pure _ _ (λ us. record { reads = g.word; within = omega arith; marked = λ _. refl })
  atom_move m (t.special p.WidthOf) = bits_law n m
  atom_move true (t.sign s.OpenParen) = law_deeper n _ factor_parens_law
  atom_move false (t.sign s.OpenParen) = law_deeper n _ parens_law
  atom_move false (t.reserved r.Max) = law_deeper n _ greatest_law
  atom_move m c = tt

  pub atoms_law : (m : Bool) → Law (AtomAt n m) (wr.atoms n inner m)
  unfolding wr.atoms
  atoms_law m = law_among (wr.atom_by n inner m) (zero_atom n m) (atom_move m)

  number_move : (m : Bool) (x : Found) (text : List Symbol) → x.2 < n → x.1 ≡ true → Whole (AtomAt n m) text x → (c : Symbol) → LawMove (behind (c ∷ []) (behind (t.sign s.Times ∷ []) (behind text (TermAt n m)))) (wr.number_by n inner x c)
  number_move m x text lt f q (t.number k) = law_move_if (is_short k) _ (λ e. law_pure _ _ (λ us. record { reads = g.times_number (factor_of x _ _ f (q (t.sign s.Times ∷ t.number k ∷ us)).reads) e; within = omega arith; marked = λ _. refl }))
    where
      factor_of : (x : Found) (ts us : List Symbol) → x.1 ≡ true → ReadsWatom x.1 x.2 ts us x.0 → ReadsWatom true x.2 ts us x.0
      factor_of x ts us e q = subst (λ (f : Bool). ReadsWatom f x.2 ts us x.0) e q
  number_move m x text lt f q c = tt

  times_move : (m : Bool) (x : Found) (text : List Symbol) → Whole (AtomAt n m) text x → (c : Symbol) → LawMove (behind (c ∷ []) (behind text (TermAt n m))) (wr.times_by n inner x c)
  times_move m x text q (t.sign s.Times) = go x.1 refl
    where
      within : x.1 ≡ true → nat_lt x.2 n ≡ true → Law (behind (t.sign s.Times ∷ []) (behind text (TermAt n m))) (o.among (wr.number_by n inner x))
      within f e = let lt : x.2 < n = ltb-true _ _ e in law_among (wr.number_by n inner x)
          (record { more = t.number 0 ∷ []; value = (w.Times x.0 (w.Number 0), true, suc x.2); reads = λ us. record { reads = g.times_number (subst (λ (b : Bool). ReadsWatom b x.2 (text ++ (t.sign s.Times ∷ t.number 0 ∷ us)) (t.sign s.Times ∷ t.number 0 ∷ us) x.0) f (q (t.sign s.Times ∷ t.number 0 ∷ us)).reads) refl; within = omega arith; marked = λ _. refl } })
          (number_move m x text lt f q)

      go : (b : Bool) → x.1 ≡ b → LawMove (behind (t.sign s.Times ∷ []) (behind text (TermAt n m))) (cond b (cond (nat_lt x.2 n) (take (o.among (wr.number_by n inner x))) stop) pass)
      go true f = law_move_if (nat_lt x.2 n) (o.among (wr.number_by n inner x)) (within f)
      go false f = tt
  times_move m x text q c = tt

  multiplied_law : (m : Bool) (x : Found) (text : List Symbol) → Whole (AtomAt n m) text x → Law (behind text (TermAt n m)) (wr.multiplied n inner x)
  unfolding wr.multiplied
  multiplied_law m x text q = law_choose (wr.times_by n inner x) (o.pure x) (times_move m x text q) (law_pure _ x (λ us. record { reads = g.atom (q us).reads; within = (q us).within; marked = (q us).marked }))

  factor_move : (m : Bool) (k : ℕ) → is_short k ≡ true → (c : Symbol) → LawMove (behind (c ∷ []) (behind (t.number k ∷ []) (TermAt n m))) (wr.factor_by n inner k c)
  factor_move m k e (t.sign s.Times) = law_deeper n _ (λ le. law_bind (inner wr.factor) _ (laws wr.factor le) (λ y a v. law_pure _ _
      (λ us. record { reads = g.times e (subst (λ (b : Bool). ReadsWatom b y.2 (a ++ us) us y.0) ((v us).marked refl) (v us).reads); within = let low = (v us).within in omega arith; marked = λ _. refl })))
  factor_move m k e c = tt

  after_number_law : (m : Bool) (k : ℕ) → is_short k ≡ true → Law (behind (t.number k ∷ []) (TermAt n m)) (wr.after_number n inner k)
  unfolding wr.after_number
  after_number_law m k e = law_choose (wr.factor_by n inner k) _ (factor_move m k e) (law_pure _ _ (λ us. record { reads = g.atom (g.number e); within = omega arith; marked = λ _. refl }))

  term_move : (m : Bool) (c : Symbol) → LawMove (behind (c ∷ []) (TermAt n m)) (wr.term_by n inner c)
  term_move m (t.number k) = law_move_if (is_short k) _ (after_number_law m k)
  term_move m c = tt

  pub terms_law : (m : Bool) → Law (TermAt n m) (wr.terms n inner m)
  unfolding wr.terms
  terms_law m = law_choose (wr.term_by n inner) _ (term_move m) (law_bind (wr.atoms n inner m) (wr.multiplied n inner) (atoms_law m) (multiplied_law m))

  level_law : (q : Part) → Law (PartAt n q) (wr.level n inner q)
  unfolding wr.level
  level_law wr.atom = atoms_law false
  level_law wr.term = terms_law false
  level_law wr.whole = law_bind (wr.terms n inner false) (wr.sums n inner n) (terms_law false) (λ x a q. law_map _ (λ ts us y k. total_whole k) (sums_law x.2 n x a (λ us. lone (q us).reads refl (q us).within)))
  level_law wr.factor = atoms_law true
  level_law wr.product = terms_law true

pub width_part_law : (n : ℕ) (q : Part) → Law (PartAt n q) (wr.width_part n q)
unfolding wr.width_part
width_part_law zero q = level_law 0 (λ _. o.refuse) (λ q le. absurd (omega arith)) q
width_part_law (suc n) q = level_law (suc n) (wr.width_part n) (λ q le. let e : n ≡ suc n - 1 = omega arith in subst (λ (m : ℕ). Law (PartAt m q) (wr.width_part n q)) e (width_part_law n q)) q

-- a whole width with its nesting
pub record WidthAt (n : ℕ) (ts us : List Symbol) (x : Width × ℕ) : Type 0 where
  pub reads : ReadsWidth x.1 ts us x.0
  pub within : x.1 ≤ n

pub width_law : (n : ℕ) → Law (WidthAt n) (wr.width n)
width_law n = law_bind (wr.width_part n wr.whole) _ (width_part_law n wr.whole) (λ x a q. law_pure _ _ (λ us. record { reads = (q us).reads; within = (q us).within }))
