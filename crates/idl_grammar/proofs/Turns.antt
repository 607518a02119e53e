-- What may follow an expression, and the turns of its loops, with no count of turns.
use Rattle.std.proofs.Common.{◌≡◌, ℕ, zero, suc, ◌+◌, ◌<◌, ◌≤◌, Bool, true, false, cond, List, [], ◌∷◌, Option, Some, None, Ok, Err, refl, sym, ap, subst, ◌∙◌, arith}
use Rattle.std.specs.Prelude.{max, nat_le, nat_lt, nat_eq}
use Rattle.std.proofs.lemmas.Bool.{leb-true, le-leb, ltb-true, eqb-true, eq-eqb}
use Rattle.idl_token.specs.declared.kinds.Sign.{Sign}
use Rattle.idl_token.specs.declared.kinds.Sign.TheVariants as s
use Rattle.idl_tree.specs.declared.expressions.Expr.TheVariants as e
use Rattle.idl_token.specs.Symbol.{Symbol}
use Rattle.idl_token.specs.Symbol as t
use Rattle.idl_grammar.specs.Tables.{Infix, plain, wide, binding, loosest}
use Rattle.idl_grammar.specs.ExprGrammar.{Inside, part_of}
use Rattle.idl_grammar.specs.Outcome as o
use Rattle.idl_grammar.specs.Outcome.{Outcome, Reader, Move, take, stop, pass}
use Rattle.idl_grammar.specs.WidthReader as wr
use Rattle.idl_grammar.specs.ExprReader as er
use Rattle.idl_grammar.specs.ExprReader.{Found, Part}

-- ---- how tightly a token would bind to an expression in front of it

abbrev pub rank_of : Option (ℕ × Infix) → ℕ
rank_of None = 12
rank_of (Some x) = suc x.0

abbrev pub rank_sign : Sign → ℕ
rank_sign s.OpenParen = 0
rank_sign s.OpenBracket = 0
rank_sign s.Question = 11
rank_sign c = rank_of (binding c)

abbrev pub rank : List Symbol → ℕ
rank (t.sign c ∷ ts) = rank_sign c
rank _ = 12

pub binding_rank : (c : Sign) (k : ℕ) (op : Infix) (us : List Symbol) → binding c ≡ Some (k, op) → rank (t.sign c ∷ us) ≡ suc k
binding_rank s.OpenParen k op us is = absurd cc
binding_rank s.OpenBracket k op us is = absurd cc
binding_rank s.Question k op us is = absurd cc
binding_rank c k op us is = ap rank_of is

abbrev bounded : Option (ℕ × Infix) → Bool
bounded None = true
bounded (Some x) = nat_lt x.0 loosest

binding_bounded : (c : Sign) → bounded (binding c) ≡ true
binding_bounded s.Times = refl
binding_bounded c = refl

pub binding_below : (c : Sign) (k : ℕ) (op : Infix) → binding c ≡ Some (k, op) → k < loosest
binding_below c k op is = let e : nat_lt k loosest ≡ true = ap bounded (sym is) ∙ binding_bounded c in ltb-true _ _ e

pub no_call : (ts : List Symbol) → 0 < rank ts → o.sees (o.is_sign s.OpenParen) ts ≡ false
no_call [] lt = refl
no_call (t.sign s.OpenParen ∷ ts) lt = absurd (omega arith)
no_call (c ∷ ts) lt = refl

module _ (n : ℕ) (inner : Part → Reader Found) where
  -- ---- brackets behind an operand

  pub parts_stop : (f : ℕ) (x : Found) (ts : List Symbol) → 0 < rank ts → er.parts n inner f x ts ≡ Ok (x, ts)
  unfolding er.parts
  parts_stop zero x [] lt = refl
  parts_stop zero x (t.sign s.OpenBracket ∷ ts) lt = absurd (omega arith)
  parts_stop zero x (c ∷ ts) lt = refl
  parts_stop (suc f) x [] lt = refl
  parts_stop (suc f) x (t.sign s.OpenBracket ∷ ts) lt = absurd (omega arith)
  parts_stop (suc f) x (c ∷ ts) lt = refl

  abbrev Same : Found → (Found → Reader Found) → (Found → Reader Found) → Type 0
  Same x again again' = x.1 ≤ n → (y : Found) (us : List Symbol) → x.1 < y.1 → again y us ≡ again' y us

  bracket_same : (again again' : Found → Reader Found) (x : Found) → Same x again again' → (ts : List Symbol)
      → o.choose (er.part_by n inner again x) (o.pure x) (t.sign s.OpenBracket ∷ ts) ≡ o.choose (er.part_by n inner again' x) (o.pure x) (t.sign s.OpenBracket ∷ ts)
  bracket_same again again' x same ts = go (nat_le x.1 n) refl
    where
      next : x.1 ≤ n → (q : Outcome (Inside × ℕ)) → o.and_then q (λ j. again (part_of x.0 j.0, suc (max x.1 j.1))) ≡ o.and_then q (λ j. again' (part_of x.0 j.0, suc (max x.1 j.1)))
      next le (Ok p) = same le _ p.1 (omega arith)
      next le (Err us) = refl

      go : (b : Bool) → nat_le x.1 n ≡ b → o.moved (cond b (take (λ us. o.and_then (er.inside n (inner er.any) us) (λ j. again (part_of x.0 j.0, suc (max x.1 j.1))))) stop) (o.pure x) (t.sign s.OpenBracket ∷ ts)
          ≡ o.moved (cond b (take (λ us. o.and_then (er.inside n (inner er.any) us) (λ j. again' (part_of x.0 j.0, suc (max x.1 j.1))))) stop) (o.pure x) (t.sign s.OpenBracket ∷ ts)
      go true e = next (leb-true _ _ e) (er.inside n (inner er.any) ts)
      go false e = refl

  parts_same : (again again' : Found → Reader Found) (x : Found) → Same x again again' → (ts : List Symbol) → o.choose (er.part_by n inner again x) (o.pure x) ts ≡ o.choose (er.part_by n inner again' x) (o.pure x) ts
  parts_same again again' x same [] = refl
  parts_same again again' x same (t.sign s.OpenBracket ∷ ts) = bracket_same again again' x same ts
  parts_same again again' x same (c ∷ ts) = refl

  -- more turns than there can be
  pub parts_enough : (f f' : ℕ) (x : Found) (ts : List Symbol) → n < f + x.1 → n < f' + x.1 → er.parts n inner f x ts ≡ er.parts n inner f' x ts
  unfolding er.parts
  parts_enough zero zero x ts l l' = refl
  parts_enough zero (suc f') x ts l l' = parts_same (λ _. o.refuse) (er.parts n inner f') x (λ le y us m. absurd (omega arith)) ts
  parts_enough (suc f) zero x ts l l' = parts_same (er.parts n inner f) (λ _. o.refuse) x (λ le y us m. absurd (omega arith)) ts
  parts_enough (suc f) (suc f') x ts l l' = parts_same (er.parts n inner f) (er.parts n inner f') x (λ le y us m. parts_enough f f' y us (omega arith) (omega arith)) ts

  pub parts_turn : (f f' : ℕ) (x : Found) (j : Inside × ℕ) (us vs : List Symbol) → x.1 ≤ n → er.inside n (inner er.any) us ≡ Ok (j, vs) → n < f + x.1 → n < f' + suc (max x.1 j.1)
      → er.parts n inner f x (t.sign s.OpenBracket ∷ us) ≡ er.parts n inner f' (part_of x.0 j.0, suc (max x.1 j.1)) vs
  unfolding er.parts
  parts_turn zero f' x j us vs le e l l' = absurd (omega arith)
  parts_turn (suc f) f' x j us vs le e l l' = let small = le-leb x.1 n le in rw (small, e) (parts_enough f f' (part_of x.0 j.0, suc (max x.1 j.1)) vs (omega arith) l')

  -- ---- signs between operands

  operator_stop : (again : Found → Reader Found) (k : ℕ) (x : Found) (ts : List Symbol) (found : Option (ℕ × Infix)) → suc k < rank_of found → o.moved (er.operator_by n inner again k x found) (o.pure x) ts ≡ Ok (x, ts)
  operator_stop again k x ts None lt = refl
  operator_stop again k x ts (Some (j, op)) lt = go (nat_eq j k) refl
    where
      go : (b : Bool) → nat_eq j k ≡ b → o.moved (cond b (o.allowed x.1 n (λ us. o.and_then (er.right_of n inner k op x us) again)) pass) (o.pure x) ts ≡ Ok (x, ts)
      go true e = absurd (let same = eqb-true j k e in omega arith)
      go false e = refl

  more_pass : (again : Found → Reader Found) (k : ℕ) (x : Found) (ts : List Symbol) → suc k < rank ts → o.choose (er.more_by n inner again k x) (o.pure x) ts ≡ Ok (x, ts)
  more_pass again k x [] lt = refl
  more_pass again k x (t.sign s.OpenParen ∷ ts) lt = absurd (omega arith)
  more_pass again k x (t.sign s.OpenBracket ∷ ts) lt = absurd (omega arith)
  more_pass again k x (t.sign s.Question ∷ ts) lt = refl
  more_pass again k x (t.sign c ∷ ts) lt = operator_stop again k x (t.sign c ∷ ts) (binding c) lt
  more_pass again k x (c ∷ ts) lt = refl

  pub more_stop : (f k : ℕ) (x : Found) (ts : List Symbol) → suc k < rank ts → er.more n inner f k x ts ≡ Ok (x, ts)
  unfolding er.more
  more_stop zero k x ts lt = more_pass (λ _. o.refuse) k x ts lt
  more_stop (suc f) k x ts lt = more_pass (er.more n inner f k) k x ts lt

  right_same : (again again' : Found → Reader Found) (k : ℕ) (op : Infix) (x : Found) (us : List Symbol) → ((y : Found) (vs : List Symbol) → x.1 < y.1 → again y vs ≡ again' y vs)
      → o.and_then (er.right_of n inner k op x us) again ≡ o.and_then (er.right_of n inner k op x us) again'
  right_same again again' k (plain op) x us same = go (inner (er.tight k) us)
    where
      go : (q : Outcome Found) → o.and_then (o.and_then q (λ y. o.pure (e.Binary op x.0 y.0, suc (max x.1 y.1)))) again ≡ o.and_then (o.and_then q (λ y. o.pure (e.Binary op x.0 y.0, suc (max x.1 y.1)))) again'
      go (Ok p) = same _ p.1 (omega arith)
      go (Err vs) = refl
  right_same again again' k wide x us same = go (wr.width_part n wr.atom us)
    where
      go : (q : Outcome wr.Found) → o.and_then (o.and_then q (λ y. o.pure (e.WideLeft x.0 y.0, suc (max x.1 y.2)))) again ≡ o.and_then (o.and_then q (λ y. o.pure (e.WideLeft x.0 y.0, suc (max x.1 y.2)))) again'
      go (Ok p) = same _ p.1 (omega arith)
      go (Err vs) = refl

  operator_same : (again again' : Found → Reader Found) (k : ℕ) (x : Found) → Same x again again' → (found : Option (ℕ × Infix)) (ts : List Symbol)
      → o.moved (er.operator_by n inner again k x found) (o.pure x) ts ≡ o.moved (er.operator_by n inner again' k x found) (o.pure x) ts
  operator_same again again' k x same None ts = refl
  operator_same again again' k x same (Some (j, op)) ts = go (nat_eq j k) (nat_le x.1 n) refl
    where
      go : (b d : Bool) → nat_le x.1 n ≡ d → o.moved (cond b (cond d (take (λ us. o.and_then (er.right_of n inner k op x us) again)) stop) pass) (o.pure x) ts
          ≡ o.moved (cond b (cond d (take (λ us. o.and_then (er.right_of n inner k op x us) again')) stop) pass) (o.pure x) ts
      go true true e = right_same again again' k op x (o.after ts) (same (leb-true _ _ e))
      go true false e = refl
      go false d e = refl

  more_same : (again again' : Found → Reader Found) (k : ℕ) (x : Found) → Same x again again' → (ts : List Symbol) → o.choose (er.more_by n inner again k x) (o.pure x) ts ≡ o.choose (er.more_by n inner again' k x) (o.pure x) ts
  more_same again again' k x same [] = refl
  more_same again again' k x same (t.sign c ∷ ts) = operator_same again again' k x same (binding c) (t.sign c ∷ ts)
  more_same again again' k x same (c ∷ ts) = refl

  pub more_enough : (f f' k : ℕ) (x : Found) (ts : List Symbol) → n < f + x.1 → n < f' + x.1 → er.more n inner f k x ts ≡ er.more n inner f' k x ts
  unfolding er.more
  more_enough zero zero k x ts l l' = refl
  more_enough zero (suc f') k x ts l l' = more_same (λ _. o.refuse) (er.more n inner f' k) k x (λ le y us m. absurd (omega arith)) ts
  more_enough (suc f) zero k x ts l l' = more_same (er.more n inner f k) (λ _. o.refuse) k x (λ le y us m. absurd (omega arith)) ts
  more_enough (suc f) (suc f') k x ts l l' = more_same (er.more n inner f k) (er.more n inner f' k) k x (λ le y us m. more_enough f f' k y us (omega arith) (omega arith)) ts

  pub more_turn : (f f' k : ℕ) (x y : Found) (c : Sign) (op : Infix) (us vs : List Symbol) → binding c ≡ Some (k, op) → x.1 ≤ n → er.right_of n inner k op x us ≡ Ok (y, vs) → n < f + x.1 → n < f' + y.1 → x.1 < y.1
      → er.more n inner f k x (t.sign c ∷ us) ≡ er.more n inner f' k y vs
  unfolding er.more
  more_turn zero f' k x y c op us vs is le e l l' lt = absurd (omega arith)
  more_turn (suc f) f' k x y c op us vs is le e l l' lt = let small = le-leb x.1 n le in let same : nat_eq k k ≡ true = eq-eqb k k refl in rw (is, same, small, e) (more_enough f f' k y vs (omega arith) l')

  pub choice_stop : (x : Found) (ts : List Symbol) → 11 < rank ts → er.choice n inner x ts ≡ Ok (x, ts)
  unfolding er.choice
  choice_stop x [] lt = refl
  choice_stop x (t.sign s.Question ∷ ts) lt = absurd (omega arith)
  choice_stop x (c ∷ ts) lt = refl

  pub onward_stop : (k : ℕ) (x : Found) (ts : List Symbol) → k < rank ts → er.onward n inner k x ts ≡ Ok (x, ts)
  unfolding er.onward
  onward_stop zero x ts lt = refl
  onward_stop (suc k) x ts lt = let first = onward_stop k x ts (omega arith) in rw first (more_stop (suc n) k x ts lt)

  pub rest_stop : (x : Found) (ts : List Symbol) → 11 < rank ts → er.rest_of n inner x ts ≡ Ok (x, ts)
  unfolding er.rest_of
  rest_stop x ts lt = let first = onward_stop loosest x ts (omega arith) in rw first (choice_stop x ts lt)

  onward_next : (m : ℕ) (x y : Found) (ts us : List Symbol) → er.onward n inner m x ts ≡ Ok (y, us) → suc m < rank us → er.onward n inner (suc m) x ts ≡ Ok (y, us)
  unfolding er.onward
  onward_next m x y ts us first lt = rw first (more_stop (suc n) m y us lt)

  -- a level that has come to its end is that of each looser one
  pub onward_up : (d k m : ℕ) (x y : Found) (ts us : List Symbol) → er.onward n inner k x ts ≡ Ok (y, us) → k + d ≡ m → m < rank us → er.onward n inner m x ts ≡ Ok (y, us)
  onward_up zero k m x y ts us e is lt = let same : k ≡ m = omega arith in subst (λ (i : ℕ). er.onward n inner i x ts ≡ Ok (y, us)) same e
  onward_up (suc d) k zero x y ts us e is lt = absurd (omega arith)
  onward_up (suc d) k (suc m) x y ts us e is lt = onward_next m x y ts us (onward_up d k m x y ts us e (omega arith) (omega arith)) lt
