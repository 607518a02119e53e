-- What follows an operand, and what follows an opening bracket, as the machine reads it.
use Rattle.std.proofs.Common.{◌≡◌, ℕ, zero, suc, ◌+◌, ◌<◌, ◌≤◌, Bool, true, false, cond, List, [], ◌∷◌, length, Option, Some, None, refl, ap, arith}
use Rattle.std.specs.Prelude.{max, nat_le, nat_eq}
use Rattle.std.proofs.lemmas.Bool.{le-leb}
use Rattle.idl_token.specs.declared.kinds.Sign.{Sign}
use Rattle.idl_token.specs.declared.kinds.Sign.TheVariants as s
use Rattle.idl_token.specs.Symbol.{Symbol}
use Rattle.idl_token.specs.Symbol as t
use Rattle.idl_grammar.specs.Tables.{Infix, plain, wide, binding, loosest}
use Rattle.idl_grammar.specs.ExprGrammar.{part_of}
use Rattle.idl_grammar.specs.Outcome as o
use Rattle.idl_grammar.specs.Outcome.{Reader, pass}
use Rattle.idl_grammar.specs.WidthReader as wr
use Rattle.idl_grammar.specs.ExprReader as er
use Rattle.idl_grammar.specs.ExprReader.{Found, Part}
use Rattle.idl_fault.specs.Machine as m
use Rattle.idl_fault.specs.Machine.{Item, takes, passes, plan}
use Rattle.idl_fault.proofs.Steps.{Follows, ends, binds, passes_on, takes_open, expects}
use Rattle.idl_fault.proofs.Both.{both_on}
use Rattle.idl_fault.proofs.WidthRuns.{In, width_on, width_part_on}

abbrev pub item_of : Part → Item
item_of (er.tight k) = m.tight k
item_of er.any = m.any
item_of (er.behind w) = m.behind

-- how many tokens are left, with the word that has been read
abbrev pub size : Part → List Symbol → ℕ
size (er.tight k) ts = length ts
size er.any ts = length ts
size (er.behind w) ts = suc (length ts)

-- ---- what follows an opening bracket

module _ (n : ℕ) (one : Reader Found) (one_on : (ts : List Symbol) (b : Bool) → length ts < n → Follows (In 1 (length ts)) (m.any ∷ []) (one ts) b ts) where
  single_on : (ts : List Symbol) (b : Bool) → length ts < n → Follows (In 0 (length ts)) (m.any ∷ m.sign s.CloseBracket ∷ []) (er.single n one ts) b ts
  unfolding er.single
  single_on ts b lt = binds (one_on ts b lt) (λ x us c h. let high = h.high in let less = h.less in expects s.CloseBracket _ (λ vs d. ends (record { low = omega arith; less = omega arith; high = omega arith })))

  range_on : (ts : List Symbol) (b : Bool) → length ts < n → Follows (In 0 (length ts)) (m.width ∷ m.sign s.Colon ∷ m.width ∷ m.sign s.CloseBracket ∷ []) (er.range n one ts) b ts
  unfolding er.range
  range_on ts b lt = binds (width_on n ts b (omega arith)) (λ x us c h. let high = h.high in let less = h.less in expects s.Colon _ (λ vs d. binds (width_on n vs c (omega arith)) (λ y ws e k. let rise = k.high in let fall = k.less in
      expects s.CloseBracket _ (λ zs f. ends (record { low = omega arith; less = omega arith; high = omega arith })))))

  pub inside_on : (ts : List Symbol) (b : Bool) → length ts < n → Follows (In 0 (length ts)) (m.inside ∷ []) (er.inside n one ts) b ts
  unfolding er.inside
  inside_on ts b lt = both_on (In 0 (length ts)) (λ x c d us h. record { low = h.low; less = h.less; high = h.high }) refl (single_on ts b lt) (range_on ts false lt)

-- ---- signs behind an operand, in a whole of at most n tokens

module _ (n : ℕ) (inner : Part → Reader Found) (below : (q : Part) (ts : List Symbol) (b : Bool) → size q ts < n → Follows (In 1 (size q ts)) (item_of q ∷ []) (inner q ts) b ts) where
  -- after a turn from x
  abbrev Goes : ℕ → ℕ → Item → Found → (Found → Reader Found) → Type 0
  Goes base l a x again = x.1 ≤ n → (y : Found) (us : List Symbol) (c : Bool) → x.1 < y.1 → length us < l → y.1 + length us ≤ l → Follows (In base l) (a ∷ []) (again y us) c us

  bracket_on : (base l : ℕ) (x : Found) (again : Found → Reader Found) → Goes base l m.parts x again → base ≤ x.1 → l ≤ n → (ts : List Symbol) (b : Bool) → length ts < l → x.1 + length ts ≤ l
      → Follows (In base l) (m.parts ∷ []) (o.choose (er.part_by n inner again x) (o.pure x) ts) b ts
  bracket_on base l x again goes low le [] b less high = passes_on refl (ends (record { low = low; less = less; high = high }))
  bracket_on base l x again goes low le (t.sign s.OpenBracket ∷ ts) b less high = let room : x.1 ≤ n = omega arith in
      takes_open _ _ (nat_le x.1 n) (le-leb x.1 n room) refl (binds (inside_on n (inner er.any) (λ us c lt. below er.any us c lt) ts b (omega arith)) (λ j us c h. let rise = h.high in let fall = h.less in
      goes room (part_of x.0 j.0, suc (max x.1 j.1)) us c (omega arith) (omega arith) (omega arith)))
  bracket_on base l x again goes low le (c ∷ ts) b less high = passes_on refl (ends (record { low = low; less = less; high = high }))

  pub parts_on : (base l f : ℕ) (x : Found) → base ≤ x.1 → l ≤ n → n < f + x.1 → (ts : List Symbol) (b : Bool) → length ts < l → x.1 + length ts ≤ l → Follows (In base l) (m.parts ∷ []) (er.parts n inner f x ts) b ts
  unfolding er.parts
  parts_on base l zero x low le fuel ts b less high = bracket_on base l x (λ _. o.refuse) (λ room y us c up d i. absurd (omega arith)) low le ts b less high
  parts_on base l (suc f) x low le fuel ts b less high = bracket_on base l x (er.parts n inner f) (λ room y us c up d i. parts_on base l f y (omega arith) le (omega arith) us c d i) low le ts b less high

  -- ---- signs between operands

  right_on : (l k : ℕ) (op : Infix) (x : Found) (ts : List Symbol) (b : Bool) → length ts < n → x.1 + suc (length ts) ≤ l → Follows (In (suc x.1) l) (m.right_of k op ∷ []) (er.right_of n inner k op x ts) b ts
  right_on l k (plain op) x ts b lt high = binds (below (er.tight k) ts b lt) (λ y us c h. let rise = h.high in let fall = h.less in ends (record { low = omega arith; less = omega arith; high = omega arith }))
  right_on l k wide x ts b lt high = binds (width_part_on n wr.atom ts b (omega arith)) (λ y us c h. let rise = h.high in ends (record { low = omega arith; less = omega arith; high = omega arith }))

  operator_on : (base l k : ℕ) (x : Found) (again : Found → Reader Found) → Goes base l (m.more k) x again → base ≤ x.1 → l ≤ n → (c : Sign) (found : Option (ℕ × Infix)) → binding c ≡ found → (ts : List Symbol) (b : Bool) → length (t.sign c ∷ ts) < l → x.1 + length (t.sign c ∷ ts) ≤ l
      → Follows (In base l) (m.more k ∷ []) (o.moved (er.operator_by n inner again k x found) (o.pure x) (t.sign c ∷ ts)) b (t.sign c ∷ ts)
  operator_on base l k x again goes low le c None is ts b less high = passes_on (ap (m.infix_plan k) is) (ends (record { low = low; less = less; high = high }))
  operator_on base l k x again goes low le c (Some (j, op)) is ts b less high = go (nat_eq j k) (ap (m.infix_plan k) is)
    where
      go : (f : Bool) → plan b (m.more k) (Some (t.sign c)) ≡ cond f (takes (m.right_of k op ∷ m.more k ∷ [])) (passes [])
          → Follows (In base l) (m.more k ∷ []) (o.moved (cond f (o.allowed x.1 n (λ us. o.and_then (er.right_of n inner k op x us) again)) pass) (o.pure x) (t.sign c ∷ ts)) b (t.sign c ∷ ts)
      go true e = let room : x.1 ≤ n = omega arith in
          takes_open _ _ (nat_le x.1 n) (le-leb x.1 n room) e (binds (right_on l k op x ts b (omega arith) (omega arith)) (λ y us d h. goes room y us d h.low h.less h.high))
      go false e = passes_on e (ends (record { low = low; less = less; high = high }))

  more_by_on : (base l k : ℕ) (x : Found) (again : Found → Reader Found) → Goes base l (m.more k) x again → base ≤ x.1 → l ≤ n → (ts : List Symbol) (b : Bool) → length ts < l → x.1 + length ts ≤ l
      → Follows (In base l) (m.more k ∷ []) (o.choose (er.more_by n inner again k x) (o.pure x) ts) b ts
  more_by_on base l k x again goes low le [] b less high = passes_on refl (ends (record { low = low; less = less; high = high }))
  more_by_on base l k x again goes low le (t.sign c ∷ ts) b less high = operator_on base l k x again goes low le c (binding c) refl ts b less high
  more_by_on base l k x again goes low le (c ∷ ts) b less high = passes_on refl (ends (record { low = low; less = less; high = high }))

  more_on : (base l f k : ℕ) (x : Found) → base ≤ x.1 → l ≤ n → n < f + x.1 → (ts : List Symbol) (b : Bool) → length ts < l → x.1 + length ts ≤ l → Follows (In base l) (m.more k ∷ []) (er.more n inner f k x ts) b ts
  unfolding er.more
  more_on base l zero k x low le fuel ts b less high = more_by_on base l k x (λ _. o.refuse) (λ room y us c up d i. absurd (omega arith)) low le ts b less high
  more_on base l (suc f) k x low le fuel ts b less high = more_by_on base l k x (er.more n inner f k) (λ room y us c up d i. more_on base l f k y (omega arith) le (omega arith) us c d i) low le ts b less high

  pub onward_on : (base l k : ℕ) (x : Found) → base ≤ x.1 → l ≤ n → (ts : List Symbol) (b : Bool) → length ts < l → x.1 + length ts ≤ l → Follows (In base l) (m.onward k ∷ []) (er.onward n inner k x ts) b ts
  unfolding er.onward
  onward_on base l zero x low le ts b less high = passes_on refl (ends (record { low = low; less = less; high = high }))
  onward_on base l (suc k) x low le ts b less high = passes_on refl (binds (onward_on base l k x low le ts b less high) (λ y us c h. more_on base l (suc n) k y h.low le (omega arith) us c h.less h.high))

  choice_on : (base l : ℕ) (x : Found) → base ≤ x.1 → l ≤ n → (ts : List Symbol) (b : Bool) → length ts < l → x.1 + length ts ≤ l → Follows (In base l) (m.choice ∷ []) (er.choice n inner x ts) b ts
  unfolding er.choice
  choice_on base l x low le [] b less high = passes_on refl (ends (record { low = low; less = less; high = high }))
  choice_on base l x low le (t.sign s.Question ∷ ts) b less high = let room : x.1 ≤ n = omega arith in
      takes_open _ _ (nat_le x.1 n) (le-leb x.1 n room) refl (binds (below er.any ts b (omega arith)) (λ y us c h. let i = h.high in let j = h.less in expects s.Colon _ (λ vs d. binds (below er.any vs c (omega arith)) (λ z ws e k. let rise = k.high in let fall = k.less in
      ends (record { low = omega arith; less = omega arith; high = omega arith })))))
  choice_on base l x low le (c ∷ ts) b less high = passes_on refl (ends (record { low = low; less = less; high = high }))

  pub rest_on : (base l : ℕ) (x : Found) → base ≤ x.1 → l ≤ n → (ts : List Symbol) (b : Bool) → length ts < l → x.1 + length ts ≤ l → Follows (In base l) (m.rest ∷ []) (er.rest_of n inner x ts) b ts
  unfolding er.rest_of
  rest_on base l x low le ts b less high = passes_on refl (binds (onward_on base l loosest x low le ts b less high) (λ y us c h. choice_on base l y h.low le us c h.less h.high))
