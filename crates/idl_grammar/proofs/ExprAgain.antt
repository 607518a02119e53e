-- Expressions of the grammar are read as what they read as.
use Rattle.std.proofs.Common.{◌≡◌, ℕ, zero, suc, ◌+◌, ◌-◌, ◌<◌, ◌≤◌, Bool, true, false, cond, List, [], ◌∷◌, length, Some, Ok, Err, refl, sym, ap, ◌∙◌, arith}
use Rattle.std.specs.Prelude.{max}
use Rattle.std.proofs.lemmas.Bool.{le-leb}
use Rattle.idl_token.specs.declared.kinds.Reserved.{Reserved}
use Rattle.idl_token.specs.declared.kinds.Reserved.TheVariants as r
use Rattle.idl_token.specs.declared.kinds.Sign.{Sign}
use Rattle.idl_token.specs.declared.kinds.Sign.TheVariants as s
use Rattle.idl_tree.specs.declared.widths.Width.{Width}
use Rattle.idl_tree.specs.declared.widths.EnumKind.{EnumKind}
use Rattle.idl_tree.specs.declared.expressions.Unary.{Unary}
use Rattle.idl_tree.specs.declared.expressions.Expr.{Expr}
use Rattle.idl_tree.specs.declared.expressions.Expr.TheVariants as e
use Rattle.idl_token.specs.Symbol.{Symbol}
use Rattle.idl_token.specs.Symbol as t
use Rattle.idl_grammar.specs.Tables.{plain, wide, loosest, unary_of, enum_of, sw_read}
use Rattle.idl_grammar.specs.WidthGrammar.{ReadsWidth}
use Rattle.idl_grammar.specs.ExprGrammar as g
use Rattle.idl_grammar.specs.ExprGrammar.{Inside, place, slice, part_of, ReadsPost, ReadsLevel, ReadsBinary, ReadsChoice, ReadsExpr, ReadsArgs, ReadsInside, ReadsBraced}
use Rattle.idl_grammar.specs.Outcome as o
use Rattle.idl_grammar.specs.Outcome.{Outcome, Reader, Move, take, stop, pass}
use Rattle.idl_grammar.specs.WidthReader as wr
use Rattle.idl_grammar.specs.ExprReader as er
use Rattle.idl_grammar.specs.ExprReader.{Found, Part}
use Rattle.idl_grammar.proofs.Law.{Law}
use Rattle.idl_grammar.proofs.Apart.{Apart, either_one, either_two, either_none}
use Rattle.idl_grammar.proofs.Scan.{closed, divided, opened}
use Rattle.idl_grammar.proofs.Bounds.{expr_bounded, level_bounded, post_bounded, args_bounded, inside_bounded}
use Rattle.idl_grammar.proofs.WidthAgain.{deeper_take, width_again, whole_width}
use Rattle.idl_grammar.proofs.ExprLaw.{ExprAt, InsideAt, BracedAt, PartAt, Seen, single_law, range_law}
use Rattle.idl_grammar.proofs.LevelLaw.{joined_law, repeated_law, expr_part_law}
use Rattle.idl_grammar.proofs.Turns.{rank, binding_rank, binding_below, no_call, parts_stop, parts_turn, more_stop, more_turn, choice_stop, rest_stop, onward_up}

-- all that reads within n is read
pub record AgainExpr (n : ℕ) (read : Part → Reader Found) : Type 0 where
  pub levels : {h k : ℕ} {ts us : List Symbol} {x : Expr} → ReadsLevel h k ts us x → h ≤ n → k < rank us → read (er.tight k) ts ≡ Ok ((x, h), us)
  pub anys : {h : ℕ} {ts us : List Symbol} {x : Expr} → ReadsExpr h ts us x → h ≤ n → 11 < rank us → read er.any ts ≡ Ok ((x, h), us)
  pub behinds : {h : ℕ} {w : List ℕ} {ts us : List Symbol} {x : Expr} → ReadsExpr h (t.word w ∷ ts) us x → h ≤ n → 11 < rank us → read (er.behind w) ts ≡ Ok ((x, h), us)

pub seen_apart : {A : Type 0} (P Q : List Symbol → List Symbol → A → Type 0) → Apart (Seen P closed) (Seen Q divided)
seen_apart P Q ts us vs x y q m = let e : closed ≡ divided = sym q.sight ∙ m.sight in absurd cc

pub braces_apart : {A : Type 0} (P Q : List Symbol → List Symbol → A → Type 0) → Apart (Seen P closed) (Seen Q opened)
braces_apart P Q ts us vs x y q m = let e : closed ≡ opened = sym q.sight ∙ m.sight in absurd cc

-- ---- what follows an opening bracket

module _ (n : ℕ) (one : Reader Found) where
  range_again : {h i : ℕ} {ts us vs : List Symbol} {a b : Width} → ReadsWidth h ts (t.sign s.Colon ∷ us) a → ReadsWidth i us (t.sign s.CloseBracket ∷ vs) b → max h i ≤ n → er.range n one ts ≡ Ok ((slice a b, max h i), vs)
  unfolding er.range o.want
  range_again q m le = let first = whole_width n q (omega arith) refl refl in let second = whole_width n m (omega arith) refl refl in rw (first, second) refl

  pub inside_again : (law : Law (ExprAt n) one) → ((h : ℕ) (ts us : List Symbol) (x : Expr) → ReadsExpr h ts us x → h ≤ n → 11 < rank us → one ts ≡ Ok ((x, h), us))
      → {h : ℕ} {ts us : List Symbol} {j : Inside} → ReadsInside h ts us j → h ≤ n → er.inside n one ts ≡ Ok ((j, h), us)
  unfolding er.inside er.single o.want
  inside_again law again (g.at {h} {ts} {us} {x} q) le = either_one (Seen (InsideAt n) closed) (Seen (InsideAt n) divided) (er.single n one) (er.range n one) (single_law n one law) (range_law n one) (seen_apart (InsideAt n) (InsideAt n)) ts us (place x, h)
      (let first = again h ts (t.sign s.CloseBracket ∷ us) x q le (omega arith) in rw first refl)
  inside_again law again (g.from_to {h} {i} {ts} {us} {vs} {a} {b} q m) le = either_two (Seen (InsideAt n) closed) (Seen (InsideAt n) divided) (er.single n one) (er.range n one) (single_law n one law) (range_law n one) (seen_apart (InsideAt n) (InsideAt n)) ts vs (slice a b, max h i)
      (range_again q m le)

  pub inside_alone : ((ts : List Symbol) → one ts ≡ Err ts) → {h : ℕ} {ts us : List Symbol} {j : Inside} → ReadsInside h ts us j → h ≤ n → n ≡ 0 → er.inside n one ts ≡ Ok ((j, h), us)
  unfolding er.inside er.single
  inside_alone none (g.at q) le e = let low = (expr_bounded q).low in absurd (omega arith)
  inside_alone none (g.from_to {h} {i} {ts} {us} {vs} {a} {b} q m) le e = either_none (er.single n one) (er.range n one) ts vs (slice a b, max h i) (let first = none ts in rw first refl) (range_again q m le) (let k = inside_bounded (g.from_to q m) in omega arith)

-- no expression begins with a closing parenthesis
unary_open : (c : Sign) (op : Unary) (ts : List Symbol) → unary_of c ≡ Some op → o.sees (o.is_sign s.CloseParen) (t.sign c ∷ ts) ≡ false
unary_open s.Not op ts is = refl
unary_open s.Tilde op ts is = refl
unary_open s.Minus op ts is = refl
unary_open c op ts is = absurd cc

post_open : {h : ℕ} {ts us : List Symbol} {x : Expr} → ReadsPost h ts us x → o.sees (o.is_sign s.CloseParen) ts ≡ false
post_open (g.part q m) = post_open q
post_open q = refl

mutual
  level_open : {h k : ℕ} {ts us : List Symbol} {x : Expr} → ReadsLevel h k ts us x → o.sees (o.is_sign s.CloseParen) ts ≡ false
  level_open (g.post q) = post_open q
  level_open (g.unary {ts = ts} {c = c} {op = op} is q) = unary_open c op ts is
  level_open (g.binary q) = binary_open q
  level_open (g.looser q) = level_open q

  binary_open : {h k : ℕ} {ts us : List Symbol} {x : Expr} → ReadsBinary h k ts us x → o.sees (o.is_sign s.CloseParen) ts ≡ false
  binary_open (g.between q is m) = level_open q
  binary_open (g.widened q is m) = level_open q

expr_open : {h : ℕ} {ts us : List Symbol} {x : Expr} → ReadsExpr h ts us x → o.sees (o.is_sign s.CloseParen) ts ≡ false
expr_open (g.level q) = level_open q
expr_open (g.chosen (g.choice q m l)) = level_open q

pub args_open : {h : ℕ} {ts us : List Symbol} {xs : List Expr} → ReadsArgs h ts us xs → o.sees (o.is_sign s.CloseParen) ts ≡ false
args_open (g.one q) = expr_open q
args_open (g.several q m) = expr_open q

pub only_is : {B : Type 0} (n : ℕ) (p : Reader B) → 1 ≤ n → o.only n p ≡ p
only_is zero p le = absurd (omega arith)
only_is (suc n) p le = refl

pub ok_parts : {A : Type 0} (x y : A) (us vs : List Symbol) → ◌≡◌ {A = Outcome A} (Ok (x, us)) (Ok (y, vs)) → (x ≡ y) × (us ≡ vs)
ok_parts {A} x y us vs e = let pair : ◌≡◌ {A = A × List Symbol} (x, us) (y, vs) = cc in (ap (λ (p : A × List Symbol). p.0) pair, ap (λ (p : A × List Symbol). p.1) pair)

pub word_at : (k : ℕ) (x : List ℕ) (us : List Symbol) → ReadsLevel 1 k (t.word x ∷ us) us (e.Word x)
word_at zero x us = g.post g.word
word_at (suc k) x us = g.looser (word_at k x us)

-- a reader of operands
pub record Operands (room : ℕ) (first : Reader Found) : Type 0 where
  pub operands : {h : ℕ} {ts us : List Symbol} {x : Expr} → ReadsLevel h 0 ts us x → h ≤ room → 0 < rank us → first ts ≡ Ok ((x, h), us)

reserved_member : (n : ℕ) (inner : Part → Reader Found) (c : Reserved) (kind : EnumKind) → enum_of c ≡ Some kind → er.reserved_by n inner c ≡ take (er.member n inner kind)
reserved_member n inner r.PrivilegeMode kind is = ap (er.member_by n inner) is
reserved_member n inner r.ExceptionCode kind is = ap (er.member_by n inner) is
reserved_member n inner r.CsrFieldType kind is = ap (er.member_by n inner) is
reserved_member n inner c kind is = absurd cc

assoc : {A B C : Type 0} (q : Outcome A) (f : A → Reader B) (g : B → Reader C) → o.and_then (o.and_then q f) g ≡ o.and_then q (λ x us. o.and_then (f x us) g)
assoc (Ok p) f g = refl
assoc (Err us) f g = refl

module _ (n : ℕ) (inner : Part → Reader Found) (again : 1 ≤ n → AgainExpr n inner) (laws : (q : Part) → 1 ≤ n → Law (PartAt n q) (inner q)) where
  abbrev goes_on : ℕ → Found → Reader Found
  goes_on zero x = o.pure x
  goes_on (suc k) x = er.more n inner (suc n) k x

  goes_stop : (k : ℕ) (x : Found) (ts : List Symbol) → k < rank ts → goes_on k x ts ≡ Ok (x, ts)
  goes_stop zero x ts lt = refl
  goes_stop (suc k) x ts lt = more_stop n inner (suc n) k x ts lt

  any_again : (h : ℕ) (ts us : List Symbol) (x : Expr) → ReadsExpr h ts us x → h ≤ n → 11 < rank us → inner er.any ts ≡ Ok ((x, h), us)
  any_again h ts us x q le lt = let low = (expr_bounded q).low in (again (omega arith)).anys q le lt

  args_again : {h : ℕ} {ts us : List Symbol} {xs : List Expr} → ReadsArgs h ts us xs → h ≤ n → (f : ℕ) → length ts < f + length us → 11 < rank us → o.sees (o.is_sign s.Comma) us ≡ false → o.separated (inner er.any) f ts ≡ Ok ((xs, h), us)
  unfolding o.separated
  args_again q le zero lt ends none = let b = args_bounded q in absurd (let l = b.low in let m = b.high in omega arith)
  args_again (g.one {h} {ts} {us} {x} q) le (suc f) lt ends none = let first = any_again h ts us x q le ends in rw (first, none) refl
  args_again (g.several {h} {i} {ts} {us} {vs} {x} {xs} q m) le (suc f) lt ends none =
      let first = any_again h ts (t.sign s.Comma ∷ us) x q (omega arith) (omega arith) in let b = expr_bounded q in
      let second = args_again {h = i} {ts = us} m (omega arith) f (let l = b.high in let k = b.low in omega arith) ends none in
      rw (first, second) refl

  pub commas_again : {h : ℕ} {ts us : List Symbol} {xs : List Expr} → ReadsArgs h ts us xs → h ≤ n → 11 < rank us → o.sees (o.is_sign s.Comma) us ≡ false → o.commas (inner er.any) ts ≡ Ok ((xs, h), us)
  unfolding o.commas
  commas_again {h} {ts} q le ends none = args_again q le (suc (length ts)) (omega arith) ends none

  -- ---- what follows an operand

  onward_step : (k : ℕ) (x y : Found) (ts us : List Symbol) → er.onward n inner k x ts ≡ Ok (y, us) → er.onward n inner (suc k) x ts ≡ er.more n inner (suc n) k y us
  unfolding er.onward
  onward_step k x y ts us first = rw first refl

  onward_none : (x : Found) (ts : List Symbol) → er.onward n inner 0 x ts ≡ Ok (x, ts)
  unfolding er.onward
  onward_none x ts = refl

  rest_from : (x y : Found) (ts us : List Symbol) → er.onward n inner loosest x ts ≡ Ok (y, us) → er.rest_of n inner x ts ≡ er.choice n inner y us
  unfolding er.rest_of
  rest_from x y ts us first = rw first refl

  -- where what follows an operand has come at level k, with a nesting of h
  record Goes (first : Reader Found) (k : ℕ) (ts us : List Symbol) (x : Found) : Type 0 where
    start : Found
    mid : List Symbol
    began : first ts ≡ Ok (start, mid)
    went : er.onward n inner k start mid ≡ goes_on k x us
    base : start.1 ≤ x.1

  -- all that follows an operand
  record Ends (first : Reader Found) (ts us : List Symbol) (x : Found) : Type 0 where
    start : Found
    mid : List Symbol
    began : first ts ≡ Ok (start, mid)
    ended : er.rest_of n inner start mid ≡ Ok (x, us)
    base : start.1 ≤ x.1

  module _ (room : ℕ) (first : Reader Found) (firsts : Operands room first) where
    mutual
      level_goes : {h k : ℕ} {ts us : List Symbol} {x : Expr} → ReadsLevel h k ts us x → h ≤ suc n → h ≤ room → n ≤ room → k ≤ rank us → 0 < rank us → Goes first k ts us (x, h)
      level_goes (g.post {h} {ts} {us} {x} q) le low high ends ends' = record { start = (x, h); mid = us; began = firsts.operands (g.post q) low ends'; went = onward_none (x, h) us; base = omega arith }
      level_goes (g.unary {h} {ts} {us} {x} {c} {op} is q) le low high ends ends' = record { start = (e.Unary op x, suc h); mid = us; began = firsts.operands (g.unary is q) low ends'; went = onward_none (e.Unary op x, suc h) us; base = omega arith }
      level_goes (g.binary q) le low high ends ends' = (binary_goes q le high (omega arith)).0
      level_goes (g.looser {h} {k} {ts} {us} {x} q) le low high ends ends' =
          let b = level_goes q le low high (omega arith) ends' in
          record { start = b.start; mid = b.mid; began = b.began; went = onward_step k b.start (x, h) b.mid us (b.went ∙ goes_stop k (x, h) us (omega arith)); base = b.base }

      binary_goes : {h k : ℕ} {ts us : List Symbol} {x : Expr} → ReadsBinary h k ts us x → h ≤ suc n → n ≤ room → k < rank us → (b : Goes first (suc k) ts us (x, h)) × (b.start.1 < h)
      binary_goes (g.between {h} {i} {k} {ts} {us} {vs} {x} {y} {c} {op} q is m) le high ends =
          let same = binding_rank c k (plain op) us is in
          let b = level_goes q (omega arith) (omega arith) high (omega arith) (omega arith) in
          let low = (level_bounded q).low in let base = b.base in
          let right : inner (er.tight k) us ≡ Ok ((y, i), vs) = (again (omega arith)).levels m (omega arith) ends in
          (record { start = b.start; mid = b.mid; began = b.began; went = b.went ∙ more_turn n inner (suc n) (suc n) k (x, h) (e.Binary op x y, suc (max h i)) c (plain op) us vs is (omega arith) (rw right refl) (omega arith) (omega arith) (omega arith); base = omega arith }, omega arith)
      binary_goes (g.widened {h} {i} {k} {f} {ts} {us} {vs} {x} {a} {c} q is m) le high ends =
          let same = binding_rank c k wide us is in
          let b = level_goes q (omega arith) (omega arith) high (omega arith) (omega arith) in
          let low = (level_bounded q).low in let base = b.base in
          let right : wr.width_part n wr.atom us ≡ Ok ((a, f, i), vs) = (width_again n).atoms m (omega arith) in
          (record { start = b.start; mid = b.mid; began = b.began; went = b.went ∙ more_turn n inner (suc n) (suc n) k (x, h) (e.WideLeft x a, suc (max h i)) c wide us vs is (omega arith) (rw right refl) (omega arith) (omega arith) (omega arith); base = omega arith }, omega arith)

    binary_level : {h k : ℕ} {ts us : List Symbol} {x : Expr} → ReadsBinary h k ts us x → k < loosest
    binary_level (g.between {k = k} {c = c} {op = op} q is m) = binding_below c k (plain op) is
    binary_level (g.widened {k = k} {c = c} q is m) = binding_below c k wide is

    binary_ends : {h k : ℕ} {ts us : List Symbol} {x : Expr} → ReadsBinary h k ts us x → h ≤ suc n → n ≤ room → 11 < rank us → (b : Ends first ts us (x, h)) × (b.start.1 < h)
    binary_ends {h} {k} {ts} {us} {x} q le high ends =
        let below = binary_level q in
        let b = binary_goes q le high (omega arith) in
        let here : er.onward n inner (suc k) b.0.start b.0.mid ≡ Ok ((x, h), us) = b.0.went ∙ more_stop n inner (suc n) k (x, h) us (omega arith) in
        let up = onward_up n inner (loosest - suc k) (suc k) loosest b.0.start (x, h) b.0.mid us here (omega arith) (omega arith) in
        (record { start = b.0.start; mid = b.0.mid; began = b.0.began; ended = rest_from b.0.start (x, h) b.0.mid us up ∙ choice_stop n inner (x, h) us ends; base = let l = b.1 in omega arith }, b.1)

    choice_turn : (h i j : ℕ) (us vs ws : List Symbol) (x y z : Expr) → h ≤ n → inner er.any us ≡ Ok ((y, i), t.sign s.Colon ∷ vs) → inner er.any vs ≡ Ok ((z, j), ws)
        → er.choice n inner (x, h) (t.sign s.Question ∷ us) ≡ Ok ((e.Choice x y z, suc (max h (max i j))), ws)
    unfolding er.choice o.want
    choice_turn h i j us vs ws x y z le one two = let small = le-leb h n le in rw (small, one, two) refl

    choice_ends : {h : ℕ} {ts us : List Symbol} {x : Expr} → ReadsChoice h ts us x → h ≤ suc n → n ≤ room → 11 < rank us → (b : Ends first ts us (x, h)) × (b.start.1 < h)
    choice_ends (g.choice {h} {i} {j} {ts} {us} {vs} {ws} {x} {y} {z} q m l) le high ends =
        let b = level_goes q (omega arith) (omega arith) high (omega arith) (omega arith) in
        let here : er.onward n inner loosest b.start b.mid ≡ Ok ((x, h), t.sign s.Question ∷ us) = b.went ∙ goes_stop loosest (x, h) (t.sign s.Question ∷ us) (omega arith) in
        let base = b.base in
        (record { start = b.start; mid = b.mid; began = b.began; ended = rest_from b.start (x, h) b.mid (t.sign s.Question ∷ us) here ∙ choice_turn h i j us vs ws x y z (omega arith) (any_again i us (t.sign s.Colon ∷ vs) y m (omega arith) (omega arith)) (any_again j vs ws z l (omega arith) ends); base = omega arith }, omega arith)

    expr_ends : {h : ℕ} {ts us : List Symbol} {x : Expr} → ReadsExpr h ts us x → h ≤ suc n → h ≤ room → n ≤ room → 11 < rank us → Ends first ts us (x, h)
    expr_ends {h} {ts} {us} {x} (g.level q) le low high ends =
        let b = level_goes q le low high (omega arith) (omega arith) in
        let here : er.onward n inner loosest b.start b.mid ≡ Ok ((x, h), us) = b.went ∙ goes_stop loosest (x, h) us (omega arith) in
        record { start = b.start; mid = b.mid; began = b.began; ended = rest_from b.start (x, h) b.mid us here ∙ choice_stop n inner (x, h) us ends; base = b.base }
    expr_ends (g.chosen q) le low high ends = (choice_ends q le high ends).0

  -- ---- what stands in parentheses, braces and brackets

  parens_again : {h : ℕ} {ts us : List Symbol} {x : Expr} → ReadsLevel h 0 ts (t.sign s.CloseParen ∷ us) x → suc h ≤ suc n → er.parens n inner ts ≡ Ok ((x, suc h), us)
  unfolding er.parens o.want
  parens_again {h} {ts} {us} {x} q le =
      let low = (level_bounded q).low in
      let first : inner (er.tight 0) ts ≡ Ok ((x, h), t.sign s.CloseParen ∷ us) = (again (omega arith)).levels q (omega arith) (omega arith) in
      let same : max (suc h) h ≡ suc h = omega arith in
      rw (first, rest_stop n inner (x, h) (t.sign s.CloseParen ∷ us) (omega arith), same) refl

  parens_ends : {h : ℕ} {ts us : List Symbol} {x : Expr} → (b : Ends (inner (er.tight 0)) ts (t.sign s.CloseParen ∷ us) (x, h)) × (b.start.1 < h) → er.parens n inner ts ≡ Ok ((x, h), us)
  unfolding er.parens o.want
  parens_ends {h} b = let first = b.0.began in let ended = b.0.ended in let same : max (suc b.0.start.1) h ≡ h = let lt = b.1 in omega arith in rw (first, ended, same) refl

  tight_operands : 1 ≤ n → Operands n (inner (er.tight 0))
  tight_operands low = record { operands = λ q le ends. (again low).levels q le ends }

  parens_binary_again : {h k : ℕ} {ts us : List Symbol} {x : Expr} → ReadsBinary h k ts (t.sign s.CloseParen ∷ us) x → h ≤ suc n → 1 ≤ n → er.parens n inner ts ≡ Ok ((x, h), us)
  parens_binary_again q le low = parens_ends (binary_ends n (inner (er.tight 0)) (tight_operands low) q le (omega arith) (omega arith))

  parens_choice_again : {h : ℕ} {ts us : List Symbol} {x : Expr} → ReadsChoice h ts (t.sign s.CloseParen ∷ us) x → h ≤ suc n → 1 ≤ n → er.parens n inner ts ≡ Ok ((x, h), us)
  parens_choice_again q le low = parens_ends (choice_ends n (inner (er.tight 0)) (tight_operands low) q le (omega arith) (omega arith))

  binary_low : {h k : ℕ} {ts us : List Symbol} {x : Expr} → ReadsBinary h k ts us x → h ≤ suc n → 1 ≤ n
  binary_low (g.between q is m) le = let low = (level_bounded q).low in omega arith
  binary_low (g.widened q is m) le = let low = (level_bounded q).low in omega arith

  choice_low : {h : ℕ} {ts us : List Symbol} {x : Expr} → ReadsChoice h ts us x → h ≤ suc n → 1 ≤ n
  choice_low (g.choice q m l) le = let low = (level_bounded q).low in omega arith

  repeated_again : {h i : ℕ} {ts us vs : List Symbol} {a : Width} {x : Expr} → ReadsWidth h ts (t.sign s.OpenBrace ∷ us) a → ReadsExpr i us (t.sign s.CloseBrace ∷ t.sign s.CloseBrace ∷ vs) x → max h i ≤ n → er.repeated n inner ts ≡ Ok ((e.Repeat a x, max h i), vs)
  unfolding er.repeated o.want
  repeated_again {h} {i} {ts} {us} {vs} {a} {x} q m le = let first = whole_width n q (omega arith) refl refl in let second = any_again i us (t.sign s.CloseBrace ∷ t.sign s.CloseBrace ∷ vs) x m (omega arith) (omega arith) in rw (first, second) refl

  joined_again : {h : ℕ} {ts us : List Symbol} {xs : List Expr} → ReadsArgs h ts (t.sign s.CloseBrace ∷ us) xs → h ≤ n → er.joined n inner ts ≡ Ok ((e.Join xs, h), us)
  unfolding er.joined o.want
  joined_again q le = let first = commas_again q le (omega arith) refl in rw first refl

  braced_again : {h : ℕ} {ts us : List Symbol} {x : Expr} → ReadsBraced h ts us x → h ≤ n → 1 ≤ n → er.braced n inner ts ≡ Ok ((x, suc h), us)
  unfolding er.braced
  braced_again (g.join {h} {ts} {us} {xs} q) le low = let k = either_one (Seen (BracedAt n) closed) (Seen (BracedAt n) opened) (er.joined n inner) (er.repeated n inner) (joined_law n inner laws low) (repeated_law n inner laws low) (braces_apart (BracedAt n) (BracedAt n)) ts us (e.Join xs, h) (joined_again q le) in rw k refl
  braced_again (g.repeat {h} {i} {ts} {us} {vs} {a} {x} q m) le low = let k = either_two (Seen (BracedAt n) closed) (Seen (BracedAt n) opened) (er.joined n inner) (er.repeated n inner) (joined_law n inner laws low) (repeated_law n inner laws low) (braces_apart (BracedAt n) (BracedAt n)) ts vs (e.Repeat a x, max h i) (repeated_again q m le) in rw k refl

  braced_low : {h : ℕ} {ts us : List Symbol} {x : Expr} → ReadsBraced h ts us x → 1 ≤ h
  braced_low (g.join q) = (args_bounded q).low
  braced_low (g.repeat q m) = let low = (expr_bounded m).low in omega arith

  called_again : (x : List ℕ) {h : ℕ} {ts us : List Symbol} {xs : List Expr} → ReadsArgs h ts (t.sign s.CloseParen ∷ us) xs → suc h ≤ suc n → er.called n inner x ts ≡ Ok ((e.Call x xs, suc h), us)
  unfolding er.called o.want
  called_again x {h} {ts} {us} {xs} q le =
      let low = (args_bounded q).low in let other = args_open q in let first = commas_again q (omega arith) (omega arith) refl in
      rw (other, only_is {B = Found} n _ (omega arith), first) refl

  named_again : (x : List ℕ) (us : List Symbol) → o.sees (o.is_sign s.OpenParen) us ≡ false → er.named n inner x us ≡ Ok ((e.Word x, 1), us)
  unfolding er.named
  named_again x us none = rw none refl

  call_named : (x : List ℕ) (ts : List Symbol) → er.named n inner x (t.sign s.OpenParen ∷ ts) ≡ er.called n inner x ts
  unfolding er.named
  call_named x ts = refl

  called_empty : (x : List ℕ) (us : List Symbol) → er.called n inner x (t.sign s.CloseParen ∷ us) ≡ Ok ((e.Call x [], 1), us)
  unfolding er.called
  called_empty x us = refl

  inside_read : {h : ℕ} {ts us : List Symbol} {j : Inside} → ReadsInside h ts us j → h ≤ n → 1 ≤ n → er.inside n (inner er.any) ts ≡ Ok ((j, h), us)
  inside_read q le low = inside_again n (inner er.any) (laws er.any low) any_again q le

  -- ---- CSRs

  field_again : (x y : List ℕ) (us : List Symbol) → o.sees (o.is_sign s.OpenParen) us ≡ false → er.field_or_read n inner x y us ≡ Ok ((e.Field x y, 1), us)
  unfolding er.field_or_read
  field_again x y us none = go (o.same_text y sw_read)
    where
      passes : (us : List Symbol) → o.sees (o.is_sign s.OpenParen) us ≡ false → o.choose (er.read_by n inner x) (o.pure (e.Field x y, 1)) us ≡ Ok ((e.Field x y, 1), us)
      passes [] none = refl
      passes (t.sign s.OpenParen ∷ us) none = absurd cc
      passes (c ∷ us) none = refl

      go : (b : Bool) → cond b (o.choose (er.read_by n inner x) (o.pure (e.Field x y, 1))) (o.pure (e.Field x y, 1)) us ≡ Ok ((e.Field x y, 1), us)
      go true = passes us none
      go false = refl

  address_again : (q : Part) {h : ℕ} {ts us : List Symbol} {x : Expr} → inner q ts ≡ Ok ((x, h), t.sign s.CloseBracket ∷ t.sign s.Dot ∷ t.word sw_read ∷ t.sign s.OpenParen ∷ t.sign s.CloseParen ∷ us) → er.address n inner q ts ≡ Ok ((e.SoftRead x, suc h), us)
  unfolding er.address er.soft_read o.want
  address_again q first = rw first refl

  abbrev read_text : List Symbol → List Symbol
  read_text us = t.sign s.Dot ∷ t.word sw_read ∷ t.sign s.OpenParen ∷ t.sign s.CloseParen ∷ us

  read_alone : (w : List ℕ) (us : List Symbol) → 1 ≤ n → er.csr_word n inner w (t.sign s.CloseBracket ∷ read_text us) ≡ Ok ((e.SoftRead (e.Word w), 2), us)
  unfolding er.csr_word er.field er.field_or_read o.want o.name
  read_alone w us low = rw (deeper_take {B = Found} n _ low) refl

  csr_word_by : (w : List ℕ) (ts us : List Symbol) (x : Expr) (h : ℕ) → 1 ≤ n → inner (er.behind w) ts ≡ Ok ((x, h), t.sign s.CloseBracket ∷ read_text us)
      → ((vs : List Symbol) → ts ≡ t.sign s.CloseBracket ∷ vs → er.csr_word n inner w ts ≡ Ok ((e.SoftRead x, suc h), us)) → er.csr_word n inner w ts ≡ Ok ((e.SoftRead x, suc h), us)
  unfolding er.csr_word
  csr_word_by w [] us x h low first alone = rw (only_is {B = Found} n (er.address n inner (er.behind w)) low) (address_again (er.behind w) first)
  csr_word_by w (t.sign s.CloseBracket ∷ ts) us x h low first alone = alone ts refl
  csr_word_by w (c ∷ ts) us x h low first alone = rw (only_is {B = Found} n (er.address n inner (er.behind w)) low) (address_again (er.behind w) first)

  -- an address that begins with a word: the word alone, or more
  csr_word_again : {h : ℕ} {w : List ℕ} {ts us : List Symbol} {x : Expr} → ReadsExpr h (t.word w ∷ ts) (t.sign s.CloseBracket ∷ read_text us) x → h ≤ n → er.csr_word n inner w ts ≡ Ok ((e.SoftRead x, suc h), us)
  csr_word_again {h} {w} {ts} {us} {x} q le = csr_word_by w ts us x h (omega (arith, (expr_bounded q).low)) ((again (omega (arith, (expr_bounded q).low))).behinds q le (omega arith)) alone
    where
      alone : (vs : List Symbol) → ts ≡ t.sign s.CloseBracket ∷ vs → er.csr_word n inner w ts ≡ Ok ((e.SoftRead x, suc h), us)
      alone vs is =
          let low : 1 ≤ n = let k = (expr_bounded q).low in omega arith in
          let one : inner er.any (t.word w ∷ ts) ≡ Ok ((x, h), t.sign s.CloseBracket ∷ read_text us) = (again low).anys q le (omega arith) in
          let two : inner er.any (t.word w ∷ (t.sign s.CloseBracket ∷ vs)) ≡ Ok ((e.Word w, 1), t.sign s.CloseBracket ∷ vs) = (again low).anys (g.level (word_at loosest w (t.sign s.CloseBracket ∷ vs))) low (omega arith) in
          let parts = ok_parts (x, h) (e.Word w, 1) (t.sign s.CloseBracket ∷ read_text us) (t.sign s.CloseBracket ∷ vs) (sym one ∙ ap (λ (v : List Symbol). inner er.any (t.word w ∷ v)) is ∙ two) in
          let tails = parts.1 in let pair = parts.0 in
          let rest : vs ≡ read_text us = cc in
          ap (er.csr_word n inner w) (is ∙ ap (λ (v : List Symbol). t.sign s.CloseBracket ∷ v) rest) ∙ read_alone w us low
          ∙ ap (λ (y : Found). Ok ((e.SoftRead y.0, suc y.1), us)) (sym pair)

  csr_again : {h : ℕ} {ts us : List Symbol} {x : Expr} → ReadsExpr h ts (t.sign s.CloseBracket ∷ read_text us) x → h ≤ n → er.csr n inner (t.sign s.OpenBracket ∷ ts) ≡ Ok ((e.SoftRead x, suc h), us)
  unfolding er.csr o.want
  csr_again {h} {ts} {us} {x} q le = by_first ts q
    where
      first : (ts : List Symbol) → ReadsExpr h ts (t.sign s.CloseBracket ∷ read_text us) x → o.only n (er.address n inner er.any) ts ≡ Ok ((e.SoftRead x, suc h), us)
      first ts q = let low : 1 ≤ n = let k = (expr_bounded q).low in omega arith in rw (only_is {B = Found} n (er.address n inner er.any) low) (address_again er.any ((again low).anys q le (omega arith)))

      by_first : (ts : List Symbol) → ReadsExpr h ts (t.sign s.CloseBracket ∷ read_text us) x → o.choose (er.csr_by n inner) (o.only n (er.address n inner er.any)) ts ≡ Ok ((e.SoftRead x, suc h), us)
      by_first (t.word w ∷ ts) q = csr_word_again q le
      by_first [] q = first [] q
      by_first (c ∷ ts) q = first (c ∷ ts) q

  -- ---- operands

  abbrev post_from : List Symbol → Outcome Found
  post_from ts = o.and_then (o.among (er.atom_by n inner) ts) (er.parts n inner (suc n))

  post_goes : {h : ℕ} {ts us : List Symbol} {x : Expr} → ReadsPost h ts us x → h ≤ suc n → o.sees (o.is_sign s.OpenParen) us ≡ false → post_from ts ≡ er.parts n inner (suc n) (x, h) us
  unfolding er.as_signed er.resized er.register er.memory er.member er.new_field er.empty_call er.extension er.implemented er.implemented_version er.access er.csr er.csr_word er.field o.want o.name
  post_goes g.number le none = refl
  post_goes (g.sized is) le none = rw is refl
  post_goes g.quoted le none = refl
  post_goes g.yes_flag le none = refl
  post_goes g.no_flag le none = refl
  post_goes (g.word {x} {us}) le none = rw (named_again x us none) refl
  post_goes (g.member {c} {kind} is) le none = rw (reserved_member n inner c kind is) refl
  post_goes (g.parens q) le none = rw (deeper_take {B = Found} n (er.parens n inner) (let low = (level_bounded q).low in omega arith), parens_again q le) refl
  post_goes (g.parens_binary q) le none = rw (deeper_take {B = Found} n (er.parens n inner) (binary_low q le), parens_binary_again q le (binary_low q le)) refl
  post_goes (g.parens_choice q) le none = rw (deeper_take {B = Found} n (er.parens n inner) (choice_low q le), parens_choice_again q le (choice_low q le)) refl
  post_goes (g.braces q) le none = let low = braced_low q in rw (deeper_take {B = Found} n (er.braced n inner) (omega arith), braced_again q (omega arith) (omega arith)) refl
  post_goes (g.call_none {x} {us}) le none = rw (call_named x (t.sign s.CloseParen ∷ us), called_empty x us) refl
  post_goes (g.call {x} {h} {ts} {us} {xs} q) le none = rw (call_named x ts, called_again x q le) refl
  post_goes (g.as_signed {h} {ts} {us} {x} q) le none = let low = (expr_bounded q).low in let first = any_again h ts (t.sign s.CloseParen ∷ us) x q (omega arith) (omega arith) in
      rw (deeper_take {B = Found} n (er.as_signed n inner) (omega arith), first) refl
  post_goes (g.resize {h} {i} {ts} {us} {vs} {a} {x} q m) le none = let low = (expr_bounded m).low in let first = whole_width n q (omega arith) refl refl in let second = any_again i us (t.sign s.CloseParen ∷ vs) x m (omega arith) (omega arith) in
      rw (deeper_take {B = Found} n (er.resized n inner) (omega arith), first, second) refl
  post_goes g.pc le none = refl
  post_goes g.encoding le none = refl
  post_goes (g.register {h} {ts} {us} {x} q) le none = let low = (expr_bounded q).low in let first = any_again h ts (t.sign s.CloseBracket ∷ us) x q (omega arith) (omega arith) in
      rw (deeper_take {B = Found} n (er.register n inner) (omega arith), first) refl
  post_goes (g.field {x} {y} {us}) le none = rw (field_again x y us none) refl
  post_goes (g.soft_read q) le none = rw (csr_again q (omega arith)) refl
  post_goes (g.read_memory {k} {h} {ts} {us} {x} is q) le none = let low = (expr_bounded q).low in let first = any_again h ts (t.sign s.CloseParen ∷ us) x q (omega arith) (omega arith) in
      rw (deeper_take {B = Found} n (er.memory n inner) (omega arith), is, first) refl
  post_goes g.new_field le none = refl
  post_goes g.xlen le none = refl
  post_goes g.mode le none = refl
  post_goes g.implemented le none = refl
  post_goes g.implemented_version le none = refl
  post_goes (g.part {h} {i} {ts} {us} {vs} {x} {j} q m) le none =
      let low = (post_bounded q).low in
      post_goes q (omega arith) refl ∙ parts_turn n inner (suc n) (suc n) (x, h) (j, i) us vs (omega arith) (inside_read m (omega arith) (omega arith)) (omega arith) (omega arith)

  post_operand : {h : ℕ} {ts us : List Symbol} {x : Expr} → ReadsPost h ts us x → er.operand n inner ts ≡ post_from ts
  unfolding er.operand er.post
  post_operand (g.part q m) = post_operand q
  post_operand q = refl

  unary_again : (c : Sign) (op : Unary) {h : ℕ} {ts us : List Symbol} {x : Expr} → unary_of c ≡ Some op → ReadsLevel h 0 ts us x → suc h ≤ suc n → 0 < rank us → er.operand n inner (t.sign c ∷ ts) ≡ Ok ((e.Unary op x, suc h), us)
  unfolding er.operand
  unary_again c op {h} {ts} {us} {x} is q le ends =
      let low = (level_bounded q).low in let first = (again (omega arith)).levels q (omega arith) ends in
      rw (is, deeper_take {B = Found} n (λ us. o.and_then (inner (er.tight 0) us) (λ y. o.pure (e.Unary op y.0, suc y.1))) (omega arith), first) refl

  pub operand_again : {h : ℕ} {ts us : List Symbol} {x : Expr} → ReadsLevel h 0 ts us x → h ≤ suc n → 0 < rank us → er.operand n inner ts ≡ Ok ((x, h), us)
  operand_again (g.post {h} {ts} {us} {x} q) le ends = post_operand q ∙ post_goes q le (no_call us ends) ∙ parts_stop n inner (suc n) (x, h) us ends
  operand_again (g.unary {c = c} {op = op} is q) le ends = unary_again c op is q le ends

  operands : Operands (suc n) (er.operand n inner)
  operands = record { operands = λ q le ends. operand_again q le ends }

  tight_again : {h k : ℕ} {ts us : List Symbol} {x : Expr} → ReadsLevel h k ts us x → h ≤ suc n → k < rank us → er.level n inner (er.tight k) ts ≡ Ok ((x, h), us)
  unfolding er.level
  tight_again {h} {k} {ts} {us} {x} q le ends =
      let b = level_goes (suc n) (er.operand n inner) operands q le le (omega arith) (omega arith) (omega arith) in
      let began = b.began in rw began (b.went ∙ goes_stop k (x, h) us ends)

  whole_again : {h : ℕ} {ts us : List Symbol} {x : Expr} → ReadsExpr h ts us x → h ≤ suc n → 11 < rank us → er.level n inner er.any ts ≡ Ok ((x, h), us)
  unfolding er.level
  whole_again q le ends = let b = expr_ends (suc n) (er.operand n inner) operands q le le (omega arith) ends in let began = b.began in rw began b.ended

  behind_is : (w : List ℕ) (ts : List Symbol) → er.level n inner (er.behind w) ts ≡ er.level n inner er.any (t.word w ∷ ts)
  unfolding er.level er.operand er.post
  behind_is w ts = sym (assoc (er.named n inner w ts) (er.parts n inner (suc n)) (er.rest_of n inner))

  pub level_again : AgainExpr (suc n) (er.level n inner)
  level_again = record {
    levels = λ q le ends. tight_again q le ends;
    anys = λ q le ends. whole_again q le ends;
    behinds = λ {h} {w} {ts} {us} {x} q le ends. behind_is w ts ∙ whole_again q le ends;
  }

pub expr_part_again : (n : ℕ) → 1 ≤ n → AgainExpr n (er.expr_part n)
unfolding er.expr_part
expr_part_again zero le = absurd (omega arith)
expr_part_again (suc n) le = level_again n (er.expr_part n) (λ low. expr_part_again n low) (λ q low. expr_part_law n q low)

pub expr_again : (n h : ℕ) (ts us : List Symbol) (x : Expr) → ReadsExpr h ts us x → h ≤ n → 11 < rank us → er.expr n ts ≡ Ok ((x, h), us)
expr_again n h ts us x q le ends = let low = (expr_bounded q).low in (expr_part_again n (omega arith)).anys q le ends
