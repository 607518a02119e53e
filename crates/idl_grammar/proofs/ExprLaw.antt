-- The readers of expressions keep the law.
use Rattle.std.proofs.Common.{◌≡◌, ℕ, zero, suc, ◌+◌, ◌-◌, ◌<◌, ◌≤◌, true, false, List, [], ◌∷◌, ◌++◌, length, refl, subst, ◌∙◌, arith}
use Rattle.std.specs.Prelude.{max}
use Rattle.idl_token.specs.declared.kinds.Sign.TheVariants as s
use Rattle.idl_tree.specs.declared.expressions.Expr.{Expr}
use Rattle.idl_tree.specs.declared.expressions.Expr.TheVariants as e
use Rattle.idl_token.specs.Symbol.{Symbol}
use Rattle.idl_token.specs.Symbol as t
use Rattle.idl_grammar.specs.Tables.{loosest, is_access}
use Rattle.idl_grammar.specs.ExprGrammar as g
use Rattle.idl_grammar.specs.ExprGrammar.{Inside, ReadsPost, ReadsLevel, ReadsBinary, ReadsChoice, ReadsExpr, ReadsArgs, ReadsInside, ReadsBraced}
use Rattle.idl_grammar.specs.Outcome as o
use Rattle.idl_grammar.specs.Outcome.{Reader, Move, take, stop, pass, ◌>>=◌}
use Rattle.idl_grammar.specs.ExprReader as er
use Rattle.idl_grammar.specs.ExprReader.{Found, Part}
use Rattle.idl_grammar.proofs.Law.{Reads, behind, Law, LawMove, law_sample, law_pure, law_refuse, law_same, law_fixed, Fixed, law_map, law_bind, law_among, law_move_if, law_expect}
use Rattle.idl_grammar.proofs.ListLaw.{law_either, commas_law}
use Rattle.idl_grammar.proofs.Bounds.{expr_bounded}
use Rattle.idl_grammar.proofs.Scan.{Sight, closed, divided, scan, width_scans, expr_scans}
use Rattle.idl_grammar.proofs.WidthLaw.{width_law}

-- ---- what the readers answer within n

pub record ExprAt (n : ℕ) (ts us : List Symbol) (x : Found) : Type 0 where
  pub reads : ReadsExpr x.1 ts us x.0
  pub within : x.1 ≤ n

pub record LevelAt (n k : ℕ) (ts us : List Symbol) (x : Found) : Type 0 where
  pub reads : ReadsLevel x.1 k ts us x.0
  pub within : x.1 ≤ n

pub record PostAt (n : ℕ) (ts us : List Symbol) (x : Found) : Type 0 where
  pub reads : ReadsPost x.1 ts us x.0
  pub within : x.1 ≤ n

pub record ArgsAt (n : ℕ) (ts us : List Symbol) (x : List Expr × ℕ) : Type 0 where
  pub reads : ReadsArgs x.1 ts us x.0
  pub within : x.1 ≤ n

pub record InsideAt (n : ℕ) (ts us : List Symbol) (x : Inside × ℕ) : Type 0 where
  pub reads : ReadsInside x.1 ts us x.0
  pub within : x.1 ≤ n

pub record BracedAt (n : ℕ) (ts us : List Symbol) (x : Found) : Type 0 where
  pub reads : ReadsBraced x.1 ts us x.0
  pub within : x.1 ≤ n

abbrev pub PartAt : ℕ → Part → Reads Found
PartAt n (er.tight k) = LevelAt n k
PartAt n er.any = ExprAt n
PartAt n (er.behind x) = behind (t.word x ∷ []) (ExprAt n)

-- what stands behind an operand of nesting b: nothing, or signs below level k with their operands
pub data UpTo (b n k : ℕ) (ts us : List Symbol) (x : Found) : Type 0 where
  lone : ReadsLevel x.1 0 ts us x.0 → x.1 ≡ b → b ≤ n → UpTo b n k ts us x
  grown : {j : ℕ} → ReadsBinary x.1 j ts us x.0 → j < k → b < x.1 → x.1 ≤ n → UpTo b n k ts us x

pub data RestAt (b n : ℕ) (ts us : List Symbol) (x : Found) : Type 0 where
  up_to : UpTo b n loosest ts us x → RestAt b n ts us x
  chosen : ReadsChoice x.1 ts us x.0 → b < x.1 → x.1 ≤ n → RestAt b n ts us x

pub loosen : (d : ℕ) {h k : ℕ} {ts us : List Symbol} {x : Expr} → ReadsLevel h k ts us x → (j : ℕ) → k + d ≡ j → ReadsLevel h j ts us x
loosen zero {h} {k} {ts} {us} {x} q j e = let same : k ≡ j = omega arith in subst (λ (i : ℕ). ReadsLevel h i ts us x) same q
loosen (suc d) q zero e = absurd (omega arith)
loosen (suc d) q (suc j) e = g.looser (loosen d q j (omega arith))

pub up_to_level : {b n k : ℕ} {ts us : List Symbol} {x : Found} → UpTo b n k ts us x → LevelAt n k ts us x
up_to_level {b} {n} {k} (lone q is le) = record { reads = loosen k q k (omega arith); within = omega arith }
up_to_level {b} {n} {k} (grown {j} q lt lt' le) = record { reads = loosen (k - suc j) (g.binary q) k (omega arith); within = le }

pub up_to_base : {b n k : ℕ} {ts us : List Symbol} {x : Found} → UpTo b n k ts us x → b ≤ x.1
up_to_base (lone q is le) = omega arith
up_to_base (grown q lt lt' le) = omega arith

pub up_to_more : {b n k : ℕ} {ts us : List Symbol} {x : Found} → UpTo b n k ts us x → UpTo b n (suc k) ts us x
up_to_more (lone q is le) = lone q is le
up_to_more (grown q lt lt' le) = grown q (omega arith) lt' le

pub rest_expr : {b n : ℕ} {ts us : List Symbol} {x : Found} → RestAt b n ts us x → ExprAt n ts us x
rest_expr (up_to q) = let k = up_to_level q in record { reads = g.level k.reads; within = k.within }
rest_expr (chosen q lt le) = record { reads = g.chosen q; within = le }

pub rest_closed : (b n : ℕ) (ts us : List Symbol) (x : Found) → b < n → RestAt b n ts (t.sign s.CloseParen ∷ us) x → PostAt n (t.sign s.OpenParen ∷ ts) us (x.0, max (suc b) x.1)
rest_closed b n ts us x lt (up_to (lone q is le)) = let e : suc x.1 ≡ max (suc b) x.1 = omega arith in
    record { reads = subst (λ (h : ℕ). ReadsPost h (t.sign s.OpenParen ∷ ts) us x.0) e (g.parens q); within = omega arith }
rest_closed b n ts us x lt (up_to (grown q lt' lt'' le)) = let e : x.1 ≡ max (suc b) x.1 = omega arith in
    record { reads = subst (λ (h : ℕ). ReadsPost h (t.sign s.OpenParen ∷ ts) us x.0) e (g.parens_binary q); within = omega arith }
rest_closed b n ts us x lt (chosen q lt' le) = let e : x.1 ≡ max (suc b) x.1 = omega arith in
    record { reads = subst (λ (h : ℕ). ReadsPost h (t.sign s.OpenParen ∷ ts) us x.0) e (g.parens_choice q); within = omega arith }

-- the least of all
pub zero_level : (k : ℕ) (us : List Symbol) → ReadsLevel 1 k (t.number 0 ∷ us) us (e.Number 0)
zero_level zero us = g.post g.number
zero_level (suc k) us = g.looser (zero_level k us)

pub expr_shortens : (n : ℕ) (ts us : List Symbol) (x : Found) → ExprAt n ts us x → length us < length ts
expr_shortens n ts us x q = let b = expr_bounded q.reads in let l = b.low in let h = b.high in omega arith

pub args_law : (n : ℕ) (one : Reader Found) → Law (ExprAt n) one → Law (ArgsAt n) (o.commas one)
args_law n one law = commas_law one (ExprAt n) (ArgsAt n)
    (λ ts us x q. record { reads = g.one q.reads; within = q.within })
    (λ ts us vs x xs q v. record { reads = g.several q.reads v.reads; within = let a = q.within in let b = v.within in omega arith })
    law (expr_shortens n)

-- ---- what follows an opening bracket

-- with what is seen outside of all brackets
pub record Seen {A : Type 0} (Q : Reads A) (what : Sight) (ts us : List Symbol) (x : A) : Type 0 where
  pub told : Q ts us x
  pub sight : scan 0 0 false ts ≡ what

module _ (n : ℕ) (one : Reader Found) where
  pub range_law : Law (Seen (InsideAt n) divided) (er.range n one)
  unfolding er.range
  range_law = law_bind _ _ (width_law n) (λ x a q. law_expect _ _ (law_bind _ _ (width_law n) (λ y b v. law_expect _ _ (law_pure _ _
      (λ us. let k = q (t.sign s.Colon ∷ (b ++ (t.sign s.CloseBracket ∷ us))) in let l = v (t.sign s.CloseBracket ∷ us) in
      record { told = record { reads = g.from_to k.reads l.reads; within = let i = k.within in let j = l.within in omega arith }; sight = width_scans k.reads 0 0 })))))

  pub single_law : Law (ExprAt n) one → Law (Seen (InsideAt n) closed) (er.single n one)
  unfolding er.single
  single_law law = law_bind one _ law (λ x a q. law_expect _ _ (law_pure _ _ (λ us. let k = q (t.sign s.CloseBracket ∷ us) in
      record { told = record { reads = g.at k.reads; within = k.within }; sight = expr_scans k.reads 0 0 })))

  pub inside_law : Law (ExprAt n) one → Law (InsideAt n) (er.inside n one)
  unfolding er.inside
  inside_law law = law_either _ _ (law_map _ (λ ts us x k. k.told) (single_law law)) (law_map _ (λ ts us x k. k.told) range_law)

  -- where no expression can stand
  pub inside_none : ((ts : List Symbol) → one ts ≡ o.refuse ts) → Law (InsideAt n) (er.inside n one)
  unfolding er.inside er.single
  inside_none none = law_either _ _ (law_same (λ ts. o.refuse ts) _ (λ ts. rw (none ts) refl) (law_refuse (InsideAt n) (law_sample _ _ (law_map _ (λ ts us x k. k.told) range_law)))) (law_map _ (λ ts us x k. k.told) range_law)

pub args_sight : {h : ℕ} {ts us : List Symbol} {xs : List Expr} → ReadsArgs h ts us xs → scan 0 0 true us ≡ closed → scan 0 0 false ts ≡ closed
args_sight (g.one q) e = expr_scans q 0 0 ∙ e
args_sight (g.several q p) e = expr_scans q 0 0

-- ---- short readers

abbrev pub access_text : ℕ → List Symbol
access_text k = t.sign s.Less ∷ t.number k ∷ t.sign s.Greater ∷ []

abbrev pub IsAccess : ℕ → Type 0
IsAccess k = is_access k ≡ true

pub access_law : Law (Fixed access_text IsAccess) er.access
unfolding er.access
access_law = law_expect _ _ (law_fixed (λ k. t.number k ∷ []) IsAccess (o.among er.access_by) _ (law_among er.access_by (record { more = t.number 8 ∷ []; value = 8; reads = λ us. (refl, refl) }) move)
    (λ k e. law_expect _ _ (law_pure _ k (λ us. (refl, e)))))
  where
    move : (c : Symbol) → LawMove (behind (c ∷ []) (Fixed (λ k. t.number k ∷ []) IsAccess)) (er.access_by c)
    move (t.number k) = law_move_if (is_access k) (o.pure k) (λ e. law_pure _ k (λ us. (refl, e)))
    move c = tt

pub law_access : {A : Type 0} {Q : Reads A} (f : ℕ → Reader A) → ((k : ℕ) → is_access k ≡ true → Law (behind (t.sign s.Less ∷ t.number k ∷ t.sign s.Greater ∷ []) Q) (f k)) → Law Q (er.access >>= f)
law_access f next = law_fixed access_text IsAccess er.access f access_law next
