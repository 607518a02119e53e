-- The machine reads widths as the reader does, where the limit is no lower than the number of tokens.
use Rattle.std.proofs.Common.{◌≡◌, ℕ, zero, suc, ◌+◌, ◌<◌, ◌≤◌, Bool, true, false, cond, List, [], ◌∷◌, length, Option, Some, None, refl, ap, arith}
use Rattle.std.specs.Prelude.{max, nat_lt}
use Rattle.std.proofs.lemmas.Bool.{lt-ltb}
use Rattle.idl_token.specs.declared.kinds.Reserved.TheVariants as r
use Rattle.idl_token.specs.declared.kinds.Special.TheVariants as p
use Rattle.idl_token.specs.declared.kinds.Sign.{Sign}
use Rattle.idl_token.specs.declared.kinds.Sign.TheVariants as s
use Rattle.idl_tree.specs.declared.widths.Width.{Width}
use Rattle.idl_token.specs.Symbol.{Symbol}
use Rattle.idl_token.specs.Symbol as t
use Rattle.idl_grammar.specs.Tables.{summing, is_short}
use Rattle.idl_grammar.specs.Outcome as o
use Rattle.idl_grammar.specs.Outcome.{Reader, take, stop, pass}
use Rattle.idl_grammar.specs.WidthReader as wr
use Rattle.idl_grammar.specs.WidthReader.{Found, Part}
use Rattle.idl_fault.specs.Machine as m
use Rattle.idl_fault.specs.Machine.{Item, takes, passes, sum_plan}
use Rattle.idl_fault.proofs.Steps.{Follows, ends, binds, takes_on, passes_on, refuses_on, sets_on, takes_if, takes_open, takes_deeper, expects, names}

abbrev pub item_of : Part → Item
item_of wr.atom = m.watom false
item_of wr.term = m.term false
item_of wr.whole = m.width
item_of wr.factor = m.watom true
item_of wr.product = m.term true

-- a width of a nesting from the base on, which with the tokens left is below l; the machine's flag is the width's
pub record WidthIn (base l : ℕ) (x : Found) (c : Bool) (us : List Symbol) : Type 0 where
  pub flag : c ≡ x.1
  pub low : base ≤ x.2
  pub high : x.2 + length us < l

of_bits_on : (l : ℕ) (ts : List Symbol) (b : Bool) → length ts < l → Follows (WidthIn 0 l) (m.of_bits ∷ []) (o.among wr.bits_by ts) b ts
of_bits_on l [] b lt = refuses_on refl
of_bits_on l (t.word x ∷ ts) b lt = takes_on refl (expects s.CloseParen _ (λ us d. sets_on (ends (record { flag = refl; low = omega arith; high = omega arith }))))
of_bits_on l (t.reserved r.Csr ∷ ts) b lt = takes_on refl (expects s.OpenBracket _ (λ us d. names (λ x vs e. expects s.CloseBracket _ (λ ws f. expects s.Dot _ (λ ys g. names (λ y zs h. expects s.CloseParen _ (λ us i.
    sets_on (ends (record { flag = refl; low = omega arith; high = omega arith })))))))))
of_bits_on l (c ∷ ts) b lt = refuses_on refl

bits_on : (ts : List Symbol) (b : Bool) → Follows (WidthIn 0 (suc (length ts))) (m.sign s.OpenParen ∷ m.of_bits ∷ []) (wr.bits ts) b ts
unfolding wr.bits
bits_on ts b = expects s.OpenParen _ (λ us d. of_bits_on (suc (length ts)) us b (omega arith))

module _ (n : ℕ) (inner : Part → Reader Found) (below : (q : Part) (us : List Symbol) (b : Bool) → length us < n → Follows (WidthIn 0 (length us)) (item_of q ∷ []) (inner q us) b us) where
  -- ---- sums

  -- after a turn from x
  abbrev Goes : ℕ → ℕ → Found → (Found → Reader Found) → Type 0
  Goes base l x again = x.2 < n → (y : Found) (us : List Symbol) → x.2 < y.2 → false ≡ y.1 → y.2 + length us < l → Follows (WidthIn base l) (m.sums ∷ []) (again y us) false us

  sum_on : (base l : ℕ) (x : Found) (again : Found → Reader Found) → Goes base l x again → base ≤ x.2 → l ≤ suc n → (c : Sign) (found : Option (Width → Width → Width)) → summing c ≡ found → (ts : List Symbol) (b : Bool) → b ≡ x.1 → x.2 + length (t.sign c ∷ ts) < l
      → Follows (WidthIn base l) (m.sums ∷ []) (o.moved (wr.sum_by n inner again x found) (o.pure x) (t.sign c ∷ ts)) b (t.sign c ∷ ts)
  sum_on base l x again goes low le c None is ts b flag lt = passes_on (ap sum_plan is) (ends (record { flag = flag; low = low; high = lt }))
  sum_on base l x again goes low le c (Some op) is ts b flag lt = let room : x.2 < n = omega arith in
      takes_open _ _ (nat_lt x.2 n) (lt-ltb x.2 n room) (ap sum_plan is) (binds (below wr.term ts b (omega arith)) (λ y us d h. let high = h.high in
      sets_on (goes room (op x.0 y.0, false, suc (max x.2 y.2)) us (omega arith) refl (omega arith))))

  sums_by_on : (base l : ℕ) (x : Found) (again : Found → Reader Found) → Goes base l x again → base ≤ x.2 → l ≤ suc n → (ts : List Symbol) (b : Bool) → b ≡ x.1 → x.2 + length ts < l
      → Follows (WidthIn base l) (m.sums ∷ []) (o.choose (wr.sums_by n inner again x) (o.pure x) ts) b ts
  sums_by_on base l x again goes low le [] b flag lt = passes_on refl (ends (record { flag = flag; low = low; high = lt }))
  sums_by_on base l x again goes low le (t.sign c ∷ ts) b flag lt = sum_on base l x again goes low le c (summing c) refl ts b flag lt
  sums_by_on base l x again goes low le (c ∷ ts) b flag lt = passes_on refl (ends (record { flag = flag; low = low; high = lt }))

  sums_on : (base l f : ℕ) (x : Found) → base ≤ x.2 → l ≤ suc n → n ≤ f + x.2 → (ts : List Symbol) (b : Bool) → b ≡ x.1 → x.2 + length ts < l → Follows (WidthIn base l) (m.sums ∷ []) (wr.sums n inner f x ts) b ts
  unfolding wr.sums
  sums_on base l zero x low le fuel ts b flag lt = sums_by_on base l x (λ _. o.refuse) (λ room y us up f k. absurd (omega arith)) low le ts b flag lt
  sums_on base l (suc f) x low le fuel ts b flag lt = sums_by_on base l x (wr.sums n inner f) (λ room y us up g k. sums_on base l f y (omega arith) le (omega arith) us false g k) low le ts b flag lt

  -- ---- atoms

  parens_on : (ts : List Symbol) (b : Bool) → length ts < n → Follows (WidthIn 0 (suc (length ts))) (m.term false ∷ m.sums ∷ m.sign s.CloseParen ∷ []) (wr.parens n inner ts) b ts
  unfolding wr.parens
  parens_on ts b lt = binds (below wr.term ts b lt) (λ x us c h. let i = h.high in binds (sums_on x.2 (length ts) n x (omega arith) (omega arith) (omega arith) us c h.flag i) (λ y vs d k. let j = k.high in let low = k.low in
      expects s.CloseParen _ (λ ws e. ends (record { flag = k.flag; low = omega arith; high = omega arith }))))

  factor_parens_on : (ts : List Symbol) (b : Bool) → length ts < n → Follows (WidthIn 0 (suc (length ts))) (m.term true ∷ m.sign s.CloseParen ∷ []) (wr.factor_parens n inner ts) b ts
  unfolding wr.factor_parens
  factor_parens_on ts b lt = binds (below wr.product ts b lt) (λ x us c h. let i = h.high in expects s.CloseParen _ (λ ws e. ends (record { flag = h.flag; low = omega arith; high = omega arith })))

  greatest_on : (ts : List Symbol) (b : Bool) → length ts < n → Follows (WidthIn 0 (suc (length ts))) (m.sign s.OpenParen ∷ m.width ∷ m.sign s.Comma ∷ m.width ∷ m.sign s.CloseParen ∷ m.may false ∷ []) (wr.greatest n inner ts) b ts
  unfolding wr.greatest
  greatest_on ts b lt = expects s.OpenParen _ (λ us d. binds (below wr.whole us b (omega arith)) (λ x vs c h. let i = h.high in expects s.Comma _ (λ ws e. binds (below wr.whole ws c (omega arith)) (λ y zs f k. let j = k.high in
      expects s.CloseParen _ (λ us g. sets_on (ends (record { flag = refl; low = omega arith; high = omega arith })))))))

  atom_on : (a : Bool) (c : Symbol) (ts : List Symbol) (b : Bool) → length (c ∷ ts) ≤ n → Follows (WidthIn 0 (length (c ∷ ts))) (m.watom a ∷ []) (o.moved (wr.atom_by n inner a c) o.refuse (c ∷ ts)) b (c ∷ ts)
  atom_on a (t.number k) ts b le = takes_if _ _ (is_short k) refl (λ _. sets_on (ends (record { flag = refl; low = omega arith; high = omega arith })))
  atom_on a (t.word x) ts b le = takes_on refl (sets_on (ends (record { flag = refl; low = omega arith; high = omega arith })))
  atom_on a (t.special p.WidthOf) ts b le = takes_on refl (bits_on ts b)
  atom_on true (t.sign s.OpenParen) ts b le = takes_deeper _ _ n (omega arith) refl (factor_parens_on ts b (omega arith))
  atom_on false (t.sign s.OpenParen) ts b le = takes_deeper _ _ n (omega arith) refl (parens_on ts b (omega arith))
  atom_on false (t.reserved r.Max) ts b le = takes_deeper _ _ n (omega arith) refl (greatest_on ts b (omega arith))
  atom_on true c ts b le = refuses_on refl
  atom_on false c ts b le = refuses_on refl

  pub atoms_on : (a : Bool) (ts : List Symbol) (b : Bool) → length ts ≤ n → Follows (WidthIn 0 (length ts)) (m.watom a ∷ []) (wr.atoms n inner a ts) b ts
  unfolding wr.atoms
  atoms_on a [] b le = refuses_on refl
  atoms_on a (c ∷ ts) b le = atom_on a c ts b le

  -- ---- terms

  number_on : (l : ℕ) (x : Found) (ts : List Symbol) (b : Bool) → suc (x.2 + length ts) < l → Follows (WidthIn 0 l) (m.short ∷ []) (o.among (wr.number_by n inner x) ts) b ts
  number_on l x [] b lt = refuses_on refl
  number_on l x (t.number k ∷ ts) b lt = takes_if _ _ (is_short k) refl (λ _. sets_on (ends (record { flag = refl; low = omega arith; high = omega arith })))
  number_on l x (c ∷ ts) b lt = refuses_on refl

  multiplied_on : (l : ℕ) (x : Found) (ts : List Symbol) (b : Bool) → b ≡ x.1 → x.2 + length ts < l → l ≤ suc n → Follows (WidthIn 0 l) (m.multiplied ∷ []) (wr.multiplied n inner x ts) b ts
  unfolding wr.multiplied
  multiplied_on l x [] b flag lt le = passes_on refl (ends (record { flag = flag; low = omega arith; high = lt }))
  multiplied_on l x (t.sign s.Times ∷ ts) b flag lt le = go x.1 flag
    where
      go : (f : Bool) → b ≡ f → Follows (WidthIn 0 l) (m.multiplied ∷ []) (o.moved (cond f (cond (nat_lt x.2 n) (take (o.among (wr.number_by n inner x))) stop) pass) (o.pure x) (t.sign s.Times ∷ ts)) b (t.sign s.Times ∷ ts)
      go true e = takes_open _ _ (nat_lt x.2 n) (lt-ltb x.2 n (omega arith)) (ap (λ (f : Bool). cond f (takes (m.short ∷ [])) (passes [])) e) (number_on l x ts b (omega arith))
      go false e = passes_on (ap (λ (f : Bool). cond f (takes (m.short ∷ [])) (passes [])) e) (ends (record { flag = flag; low = omega arith; high = lt }))
  multiplied_on l x (c ∷ ts) b flag lt le = passes_on refl (ends (record { flag = flag; low = omega arith; high = lt }))

  after_number_on : (k : ℕ) (ts : List Symbol) (b : Bool) → length ts < n → Follows (WidthIn 0 (suc (length ts))) (m.after_number ∷ []) (wr.after_number n inner k ts) b ts
  unfolding wr.after_number
  after_number_on k [] b lt = passes_on refl (sets_on (ends (record { flag = refl; low = omega arith; high = omega arith })))
  after_number_on k (t.sign s.Times ∷ ts) b lt = takes_deeper _ _ n (omega arith) refl (binds (below wr.factor ts b (omega arith)) (λ y us c h. let i = h.high in sets_on (ends (record { flag = refl; low = omega arith; high = omega arith }))))
  after_number_on k (c ∷ ts) b lt = passes_on refl (sets_on (ends (record { flag = refl; low = omega arith; high = omega arith })))

  loose_on : (a : Bool) (ts : List Symbol) (b : Bool) → length ts ≤ n → Follows (WidthIn 0 (length ts)) (m.watom a ∷ m.multiplied ∷ []) (o.and_then (wr.atoms n inner a ts) (wr.multiplied n inner)) b ts
  loose_on a ts b le = binds (atoms_on a ts b le) (λ x us c h. multiplied_on (length ts) x us c h.flag h.high (omega arith))

  terms_on : (a : Bool) (ts : List Symbol) (b : Bool) → length ts ≤ n → Follows (WidthIn 0 (length ts)) (m.term a ∷ []) (wr.terms n inner a ts) b ts
  unfolding wr.terms
  terms_on a [] b le = passes_on refl (loose_on a [] b le)
  terms_on a (t.number k ∷ ts) b le = takes_if _ _ (is_short k) refl (λ _. after_number_on k ts b (omega arith))
  terms_on a (c ∷ ts) b le = passes_on refl (loose_on a (c ∷ ts) b le)

  level_on : (q : Part) (ts : List Symbol) (b : Bool) → length ts ≤ n → Follows (WidthIn 0 (length ts)) (item_of q ∷ []) (wr.level n inner q ts) b ts
  unfolding wr.level
  level_on wr.atom ts b le = atoms_on false ts b le
  level_on wr.term ts b le = terms_on false ts b le
  level_on wr.whole ts b le = passes_on refl (binds (terms_on false ts b le) (λ x us c h. sums_on 0 (length ts) n x (omega arith) (omega arith) (omega arith) us c h.flag h.high))
  level_on wr.factor ts b le = atoms_on true ts b le
  level_on wr.product ts b le = terms_on true ts b le

pub width_part_on : (n : ℕ) (q : Part) (ts : List Symbol) (b : Bool) → length ts ≤ n → Follows (WidthIn 0 (length ts)) (item_of q ∷ []) (wr.width_part n q ts) b ts
unfolding wr.width_part
width_part_on zero q ts b le = level_on 0 (λ _. o.refuse) (λ q us b lt. absurd (omega arith)) q ts b le
width_part_on (suc n) q ts b le = level_on (suc n) (wr.width_part n) (λ q us b lt. width_part_on n q us b (omega arith)) q ts b le

-- a value of a nesting from the base on, which with the tokens left is at most l; fewer tokens are left
pub record In {A : Type 0} (base l : ℕ) (x : A × ℕ) (c : Bool) (us : List Symbol) : Type 0 where
  pub low : base ≤ x.1
  pub less : length us < l
  pub high : x.1 + length us ≤ l

pub width_on : (n : ℕ) (ts : List Symbol) (b : Bool) → length ts ≤ n → Follows (In 0 (length ts)) (m.width ∷ []) (wr.width n ts) b ts
width_on n ts b le = binds (width_part_on n wr.whole ts b le) (λ x us c h. let high = h.high in ends (record { low = omega arith; less = omega arith; high = omega arith }))
