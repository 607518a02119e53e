-- With a higher limit a width is read the same, or was refused at a token.
use Rattle.std.proofs.Common.{◌≡◌, ℕ, zero, suc, ◌+◌, ◌-◌, ◌<◌, ◌≤◌, Bool, true, false, cond, List, [], ◌∷◌, length, Option, Some, None, Ok, refl, subst, arith, inl, inr}
use Rattle.std.specs.Prelude.{max, nat_lt}
use Rattle.std.proofs.lemmas.Bool.{ltb-true, lt-ltb}
use Rattle.std.proofs.lemmas.Bool.Decides.{leb_tells}
use Rattle.idl_token.specs.declared.kinds.Reserved.TheVariants as r
use Rattle.idl_token.specs.declared.kinds.Sign.TheVariants as s
use Rattle.idl_tree.specs.declared.widths.Width.{Width}
use Rattle.idl_token.specs.Symbol.{Symbol}
use Rattle.idl_token.specs.Symbol as t
use Rattle.idl_grammar.specs.Tables.{summing, is_short}
use Rattle.idl_grammar.specs.Outcome as o
use Rattle.idl_grammar.specs.Outcome.{Outcome, Reader, Move, take, stop, pass}
use Rattle.idl_grammar.specs.WidthReader as wr
use Rattle.idl_grammar.specs.WidthReader.{Found, Part}
use Rattle.idl_grammar.proofs.Law.{Law}
use Rattle.idl_grammar.proofs.Bounds.{watom_bounded, term_bounded}
use Rattle.idl_grammar.proofs.Apart.{law_reads}
use Rattle.idl_grammar.proofs.WidthLaw.{PartAt, AtomAt, TermAt, atoms_law, terms_law, width_part_law}
use Rattle.idl_grammar.proofs.Limit.{Deeper, same, weaken, deeper_bind, deeper_want, law_left, guard_grows, test_grows}

pub low_false : (h n : ℕ) → nat_lt h n ≡ false → n ≤ h
low_false h n e = elim (leb_tells (suc h) n) [ inl k ↦ absurd (let is = k.0 in cc) | inr k ↦ let lt = k.1 in omega arith ]

module _ (n n' : ℕ) (le : n ≤ n') (inner inner' : Part → Reader Found) (laws : (q : Part) → 1 ≤ n → Law (PartAt (n - 1) q) (inner q))
    (below : 1 ≤ n → (q : Part) (l : ℕ) (ts : List Symbol) → length ts < l → Deeper n l (inner q ts) (inner' q ts)) where
  term_bound : (ts us : List Symbol) (x : Found) → 1 ≤ n → inner wr.term ts ≡ Ok (x, us) → x.2 + length us < length ts
  term_bound ts us x low e = term_bounded (law_reads (TermAt (n - 1) false) (inner wr.term) (laws wr.term low) ts us x e).reads

  test_up : (h : ℕ) → nat_lt h n ≡ true → nat_lt h n' ≡ true
  test_up h e = let lt = ltb-true h n e in lt-ltb h n' (omega arith)

  -- after a turn from x
  abbrev From : Found → (Found → Reader Found) → (Found → Reader Found) → ℕ → Type 0
  From x again again' l = x.2 < n → (y : Found) (ts : List Symbol) → x.2 < y.2 → y.2 + length ts ≤ l → Deeper n l (again y ts) (again' y ts)

  sum_grows : (again again' : Found → Reader Found) (l : ℕ) (x : Found) → From x again again' l → (op : Option (Width → Width → Width)) (c : Symbol) (ts : List Symbol) → x.2 + length (c ∷ ts) ≤ l
      → Deeper n l (o.moved (wr.sum_by n inner again x op) (o.pure x) (c ∷ ts)) (o.moved (wr.sum_by n' inner' again' x op) (o.pure x) (c ∷ ts))
  sum_grows again again' l x next None c ts b = same refl
  sum_grows again again' l x next (Some op) c ts b = test_grows (nat_lt x.2 n) (nat_lt x.2 n') _ _ (o.pure x) (o.pure x) c ts (test_up x.2) (λ e. let high = low_false x.2 n e in omega arith)
      (λ e. let lt = ltb-true x.2 n e in deeper_bind (inner wr.term ts) (inner' wr.term ts) (below (omega arith) wr.term l ts (omega arith)) (λ y us is. let k = term_bound ts us y (omega arith) is in next lt (op x.0 y.0, false, suc (max x.2 y.2)) us (omega arith) (omega arith)))

  sums_by_grows : (again again' : Found → Reader Found) (l : ℕ) (x : Found) → From x again again' l → (ts : List Symbol) → x.2 + length ts ≤ l
      → Deeper n l (o.choose (wr.sums_by n inner again x) (o.pure x) ts) (o.choose (wr.sums_by n' inner' again' x) (o.pure x) ts)
  sums_by_grows again again' l x next [] b = same refl
  sums_by_grows again again' l x next (t.sign c ∷ ts) b = sum_grows again again' l x next (summing c) (t.sign c) ts b
  sums_by_grows again again' l x next (c ∷ ts) b = same refl

  sums_grows : (f f' l : ℕ) (x : Found) (ts : List Symbol) → x.2 + length ts ≤ l → n ≤ f + x.2 → n' ≤ f' + x.2 → Deeper n l (wr.sums n inner f x ts) (wr.sums n' inner' f' x ts)
  unfolding wr.sums
  sums_grows zero zero l x ts b f f' = sums_by_grows (λ _. o.refuse) (λ _. o.refuse) l x (λ lt y us m b. same refl) ts b
  sums_grows zero (suc g) l x ts b f f' = sums_by_grows (λ _. o.refuse) (wr.sums n' inner' g) l x (λ lt y us m b. absurd (omega arith)) ts b
  sums_grows (suc m) zero l x ts b f f' = sums_by_grows (wr.sums n inner m) (λ _. o.refuse) l x (λ lt y us m b. absurd (omega arith)) ts b
  sums_grows (suc m) (suc g) l x ts b f f' = sums_by_grows (wr.sums n inner m) (wr.sums n' inner' g) l x (λ lt y us k b. sums_grows m g l y us b (omega arith) (omega arith)) ts b

  parens_grows : (l : ℕ) (ts : List Symbol) → 1 ≤ n → length ts < l → Deeper n l (wr.parens n inner ts) (wr.parens n' inner' ts)
  unfolding wr.parens
  parens_grows l ts low lt = deeper_bind _ _ (below low wr.term l ts lt) (λ x us e. let k = term_bound ts us x low e in deeper_bind _ _ (sums_grows n n' l x us (omega arith) (omega arith) (omega arith)) (λ y vs e'. same refl))

  factor_parens_grows : (l : ℕ) (ts : List Symbol) → 1 ≤ n → length ts < l → Deeper n l (wr.factor_parens n inner ts) (wr.factor_parens n' inner' ts)
  unfolding wr.factor_parens
  factor_parens_grows l ts low lt = deeper_bind _ _ (below low wr.product l ts lt) (λ x us e. same refl)

  greatest_grows : (l : ℕ) (ts : List Symbol) → 1 ≤ n → length ts < l → Deeper n l (wr.greatest n inner ts) (wr.greatest n' inner' ts)
  unfolding wr.greatest
  greatest_grows l ts low lt = deeper_want _ _ _ ts (λ us a.
      deeper_bind _ _ (below low wr.whole l us (omega arith)) (λ y vs e. let b = law_left (PartAt (n - 1) wr.whole) (inner wr.whole) (laws wr.whole low) us vs y e in
      deeper_want _ _ _ vs (λ ws c. deeper_bind _ _ (below low wr.whole l ws (omega arith)) (λ v us e. same refl))))

  atom_grows : (m : Bool) (l : ℕ) (c : Symbol) (ts : List Symbol) → length (c ∷ ts) ≤ l → Deeper n l (o.moved (wr.atom_by n inner m c) o.refuse (c ∷ ts)) (o.moved (wr.atom_by n' inner' m c) o.refuse (c ∷ ts))
  atom_grows true l (t.sign s.OpenParen) ts b = guard_grows n n' _ _ o.refuse o.refuse (t.sign s.OpenParen) ts le (λ e. omega arith) (λ low. factor_parens_grows l ts low (omega arith))
  atom_grows false l (t.sign s.OpenParen) ts b = guard_grows n n' _ _ o.refuse o.refuse (t.sign s.OpenParen) ts le (λ e. omega arith) (λ low. parens_grows l ts low (omega arith))
  atom_grows false l (t.reserved r.Max) ts b = guard_grows n n' _ _ o.refuse o.refuse (t.reserved r.Max) ts le (λ e. omega arith) (λ low. greatest_grows l ts low (omega arith))
  atom_grows true l c ts b = same refl
  atom_grows false l c ts b = same refl

  atoms_grows : (m : Bool) (l : ℕ) (ts : List Symbol) → length ts ≤ l → Deeper n l (wr.atoms n inner m ts) (wr.atoms n' inner' m ts)
  unfolding wr.atoms
  atoms_grows m l [] b = same refl
  atoms_grows m l (c ∷ ts) b = atom_grows m l c ts b

  multiplied_grows : (l : ℕ) (x : Found) (ts : List Symbol) → x.2 + length ts ≤ l → Deeper n l (wr.multiplied n inner x ts) (wr.multiplied n' inner' x ts)
  unfolding wr.multiplied
  multiplied_grows l x [] b = same refl
  multiplied_grows l x (t.sign s.Times ∷ ts) b = go x.1
    where
      go : (f : Bool) → Deeper n l (o.moved (cond f (cond (nat_lt x.2 n) (take (o.among (wr.number_by n inner x))) stop) pass) (o.pure x) (t.sign s.Times ∷ ts))
          (o.moved (cond f (cond (nat_lt x.2 n') (take (o.among (wr.number_by n' inner' x))) stop) pass) (o.pure x) (t.sign s.Times ∷ ts))
      go true = test_grows (nat_lt x.2 n) (nat_lt x.2 n') (o.among (wr.number_by n inner x)) (o.among (wr.number_by n' inner' x)) (o.pure x) (o.pure x) (t.sign s.Times) ts (test_up x.2) (λ e. let high = low_false x.2 n e in omega arith) (λ e. same refl)
      go false = same refl
  multiplied_grows l x (c ∷ ts) b = same refl

  after_number_grows : (l k : ℕ) (ts : List Symbol) → length ts ≤ l → Deeper n l (wr.after_number n inner k ts) (wr.after_number n' inner' k ts)
  unfolding wr.after_number
  after_number_grows l k [] b = same refl
  after_number_grows l k (t.sign s.Times ∷ ts) b = guard_grows n n' _ _ _ _ (t.sign s.Times) ts le (λ e. omega arith) (λ low. deeper_bind _ _ (below low wr.factor l ts (omega arith)) (λ x us e. same refl))
  after_number_grows l k (c ∷ ts) b = same refl

  abbrev loose : (n : ℕ) (inner : Part → Reader Found) → Bool → Reader Found
  loose n inner m = λ ts. o.and_then (wr.atoms n inner m ts) (wr.multiplied n inner)

  loose_grows : (m : Bool) (l : ℕ) (ts : List Symbol) → length ts ≤ l → Deeper n l (loose n inner m ts) (loose n' inner' m ts)
  loose_grows m l ts b = deeper_bind _ _ (atoms_grows m l ts b) (λ x us e. multiplied_grows l x us (let k = watom_bounded (law_reads (AtomAt n m) (wr.atoms n inner m) (atoms_law n inner laws m) ts us x e).reads in omega arith))

  terms_grows : (m : Bool) (l : ℕ) (ts : List Symbol) → length ts ≤ l → Deeper n l (wr.terms n inner m ts) (wr.terms n' inner' m ts)
  unfolding wr.terms
  terms_grows m l [] b = loose_grows m l [] b
  terms_grows m l (t.number k ∷ ts) b = go (is_short k)
    where
      go : (f : Bool) → Deeper n l (o.moved (cond f (take (wr.after_number n inner k)) stop) (loose n inner m) (t.number k ∷ ts)) (o.moved (cond f (take (wr.after_number n' inner' k)) stop) (loose n' inner' m) (t.number k ∷ ts))
      go true = after_number_grows l k ts (omega arith)
      go false = same refl
  terms_grows m l (c ∷ ts) b = loose_grows m l (c ∷ ts) b

  level_grows : (q : Part) (l : ℕ) (ts : List Symbol) → length ts ≤ l → Deeper n l (wr.level n inner q ts) (wr.level n' inner' q ts)
  unfolding wr.level
  level_grows wr.atom l ts b = atoms_grows false l ts b
  level_grows wr.term l ts b = terms_grows false l ts b
  level_grows wr.whole l ts b = deeper_bind _ _ (terms_grows false l ts b) (λ x us e. sums_grows n n' l x us (let k = term_bounded (law_reads (TermAt n false) (wr.terms n inner false) (terms_law n inner laws false) ts us x e).reads in omega arith) (omega arith) (omega arith))
  level_grows wr.factor l ts b = atoms_grows true l ts b
  level_grows wr.product l ts b = terms_grows true l ts b

pub width_part_grows : (n n' : ℕ) → n ≤ n' → (q : Part) (l : ℕ) (ts : List Symbol) → length ts ≤ l → Deeper n l (wr.width_part n q ts) (wr.width_part n' q ts)
unfolding wr.width_part
width_part_grows zero zero le q l ts b = same refl
width_part_grows zero (suc n') le q l ts b = level_grows 0 (suc n') le (λ _. o.refuse) (wr.width_part n') (λ q low. absurd (omega arith)) (λ low q l ts lt. absurd (omega arith)) q l ts b
width_part_grows (suc n) zero le q l ts b = absurd (omega arith)
width_part_grows (suc n) (suc n') le q l ts b = level_grows (suc n) (suc n') le (wr.width_part n) (wr.width_part n') (λ q low. let e : n ≡ suc n - 1 = omega arith in subst (λ (m : ℕ). Law (PartAt m q) (wr.width_part n q)) e (width_part_law n q))
    (λ low q l ts lt. weaken n (length ts) (suc n) l _ _ (omega arith) (width_part_grows n n' (omega arith) q (length ts) ts (omega arith))) q l ts b

pub width_grows : (n n' l : ℕ) (ts : List Symbol) → n ≤ n' → length ts ≤ l → Deeper n l (wr.width n ts) (wr.width n' ts)
width_grows n n' l ts le b = deeper_bind _ _ (width_part_grows n n' le wr.whole l ts b) (λ x us e. same refl)
