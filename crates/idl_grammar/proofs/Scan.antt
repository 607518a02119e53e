-- What stands first behind an expression or a width, seen from its front alone: brackets are counted,
-- and so are the signs of ternary forms outside of them. So no text has both a width and an expression
-- in front of what may follow them.
use Rattle.std.proofs.Common.{◌≡◌, ℕ, zero, suc, Bool, true, false, List, [], ◌∷◌, Option, Some, None, refl, ap, ◌∙◌}
use Rattle.idl_token.specs.declared.kinds.Reserved.{Reserved}
use Rattle.idl_token.specs.declared.kinds.Reserved.TheVariants as r
use Rattle.idl_token.specs.declared.kinds.Special.{Special}
use Rattle.idl_token.specs.declared.kinds.Special.TheVariants as p
use Rattle.idl_token.specs.declared.kinds.Sign.{Sign}
use Rattle.idl_token.specs.declared.kinds.Sign.TheVariants as s
use Rattle.idl_tree.specs.declared.widths.Width.{Width}
use Rattle.idl_tree.specs.declared.widths.EnumKind.{EnumKind}
use Rattle.idl_tree.specs.declared.expressions.Unary.{Unary}
use Rattle.idl_tree.specs.declared.expressions.Expr.{Expr}
use Rattle.idl_token.specs.Symbol.{Symbol}
use Rattle.idl_token.specs.Symbol as t
use Rattle.idl_grammar.specs.Tables.{Infix, binding, unary_of, summing, enum_of}
use Rattle.idl_grammar.specs.WidthGrammar as w
use Rattle.idl_grammar.specs.WidthGrammar.{ReadsWatom, ReadsTerm, ReadsSum, ReadsWidth}
use Rattle.idl_grammar.specs.ExprGrammar as g
use Rattle.idl_grammar.specs.ExprGrammar.{Inside, ReadsPost, ReadsLevel, ReadsBinary, ReadsChoice, ReadsExpr, ReadsArgs, ReadsInside, ReadsBraced}

-- what is seen outside of all brackets: what closes the list, a colon of a slice, a brace behind an operand, or nothing of these
pub data Sight : Type 0 where
  closed : Sight
  divided : Sight
  opened : Sight
  unclear : Sight

pub data Class : Type 0 where
  opener : Class
  brace : Class
  closer : Class
  question : Class
  colon : Class
  comma : Class
  operand : Class
  other : Class

abbrev pub sign_class : Sign → Class
sign_class s.OpenParen = opener
sign_class s.OpenBracket = opener
sign_class s.OpenBrace = brace
sign_class s.CloseParen = closer
sign_class s.CloseBracket = closer
sign_class s.CloseBrace = closer
sign_class s.Question = question
sign_class s.Colon = colon
sign_class s.Comma = comma
sign_class _ = other

abbrev pub reserved_class : Reserved → Class
reserved_class r.True = operand
reserved_class r.False = operand
reserved_class _ = other

abbrev pub special_class : Special → Class
special_class p.Pc = operand
special_class p.Encoding = operand
special_class _ = other

abbrev pub class : Symbol → Class
class (t.sign c) = sign_class c
class (t.reserved c) = reserved_class c
class (t.special c) = special_class c
class _ = operand

-- the depth, the open questions, and whether an operand stands in front
abbrev pub look : Class → ℕ → ℕ → Bool → (ℕ → ℕ → Bool → Sight) → Sight
look opener d q f k = k (suc d) q false
look brace d q false k = k (suc d) q false
look brace zero q true k = opened
look brace (suc d) q true k = k (suc (suc d)) q false
look closer zero q f k = closed
look closer (suc d) q f k = k d q true
look question zero q f k = k 0 (suc q) false
look question (suc d) q f k = k (suc d) q false
look colon zero zero f k = divided
look colon zero (suc q) f k = k 0 q false
look colon (suc d) q f k = k (suc d) q false
look comma zero q f k = closed
look comma (suc d) q f k = k (suc d) q false
look operand d q f k = k d q true
look other d q f k = k d q false

abbrev pub scan : ℕ → ℕ → Bool → List Symbol → Sight
scan d q f [] = unclear
scan d q f (c ∷ ts) = look (class c) d q f (λ d' q' f'. scan d' q' f' ts)

other_is : (c : Symbol) → class c ≡ other → (d q : ℕ) (f : Bool) (ts : List Symbol) → scan d q f (c ∷ ts) ≡ scan d q false ts
other_is c e d q f ts = ap (λ (x : Class). look x d q f (λ d' q' f'. scan d' q' f' ts)) e

-- a table that has nothing for the signs that the scan looks at
abbrev NoneAtMarks : {A : Type 0} → (Sign → Option A) → Type 0
NoneAtMarks o =
    (o s.OpenParen ≡ None)
    × (o s.OpenBracket ≡ None)
    × (o s.OpenBrace ≡ None)
    × (o s.CloseParen ≡ None)
    × (o s.CloseBracket ≡ None)
    × (o s.CloseBrace ≡ None)
    × (o s.Question ≡ None)
    × (o s.Colon ≡ None)
    × (o s.Comma ≡ None)

sign_other : {A : Type 0} (o : Sign → Option A) → NoneAtMarks o → (c : Sign) (x : A) → o c ≡ Some x → sign_class c ≡ other
sign_other o none s.OpenParen x e = let n = none.0 in absurd cc
sign_other o none s.OpenBracket x e = let n = none.1 in absurd cc
sign_other o none s.OpenBrace x e = let n = none.2 in absurd cc
sign_other o none s.CloseParen x e = let n = none.3 in absurd cc
sign_other o none s.CloseBracket x e = let n = none.4 in absurd cc
sign_other o none s.CloseBrace x e = let n = none.5 in absurd cc
sign_other o none s.Question x e = let n = none.6 in absurd cc
sign_other o none s.Colon x e = let n = none.7 in absurd cc
sign_other o none s.Comma x e = let n = none.8 in absurd cc
sign_other o none c x e = refl

binding_class : (c : Sign) (x : ℕ × Infix) → binding c ≡ Some x → sign_class c ≡ other
binding_class = sign_other binding (refl, refl, refl, refl, refl, refl, refl, refl, refl)

unary_class : (c : Sign) (x : Unary) → unary_of c ≡ Some x → sign_class c ≡ other
unary_class = sign_other unary_of (refl, refl, refl, refl, refl, refl, refl, refl, refl)

summing_class : (c : Sign) (x : Width → Width → Width) → summing c ≡ Some x → sign_class c ≡ other
summing_class = sign_other summing (refl, refl, refl, refl, refl, refl, refl, refl, refl)

enum_class : (c : Reserved) (x : EnumKind) → enum_of c ≡ Some x → reserved_class c ≡ other
enum_class r.True x e = absurd cc
enum_class r.False x e = absurd cc
enum_class c x e = refl

mutual
  pub watom_scans : {f : Bool} {h : ℕ} {ts us : List Symbol} {a : Width} → ReadsWatom f h ts us a → (d q : ℕ) → scan d q false ts ≡ scan d q true us
  watom_scans (w.number e) d q = refl
  watom_scans w.word d q = refl
  watom_scans w.bits d q = refl
  watom_scans w.field_bits d q = refl
  watom_scans (w.greatest x y) d q = width_scans x (suc d) q ∙ width_scans y (suc d) q
  watom_scans (w.parens x) d q = term_scans x (suc d) q
  watom_scans (w.parens_sum x) d q = sum_scans x (suc d) q

  pub term_scans : {f : Bool} {h : ℕ} {ts us : List Symbol} {a : Width} → ReadsTerm f h ts us a → (d q : ℕ) → scan d q false ts ≡ scan d q true us
  term_scans (w.atom x) d q = watom_scans x d q
  term_scans (w.times e x) d q = watom_scans x d q
  term_scans (w.times_number x e) d q = watom_scans x d q

  pub sum_scans : {h : ℕ} {ts us : List Symbol} {a : Width} → ReadsSum h ts us a → (d q : ℕ) → scan d q false ts ≡ scan d q true us
  sum_scans (w.sum {us = us} {c = c} x is y) d q = width_scans x d q ∙ other_is (t.sign c) (summing_class c _ is) d q true us ∙ term_scans y d q

  pub width_scans : {h : ℕ} {ts us : List Symbol} {a : Width} → ReadsWidth h ts us a → (d q : ℕ) → scan d q false ts ≡ scan d q true us
  width_scans (w.term x) d q = term_scans x d q
  width_scans (w.sum_of x) d q = sum_scans x d q

mutual
  pub post_scans : {h : ℕ} {ts us : List Symbol} {x : Expr} → ReadsPost h ts us x → (d q : ℕ) → scan d q false ts ≡ scan d q true us
  post_scans g.number d q = refl
  post_scans (g.sized e) d q = refl
  post_scans g.quoted d q = refl
  post_scans g.yes_flag d q = refl
  post_scans g.no_flag d q = refl
  post_scans g.word d q = refl
  post_scans (g.member {c = c} {x = x} {us = us} e) d q = other_is (t.reserved c) (enum_class c _ e) d q false (t.sign s.Path ∷ t.word x ∷ us)
  post_scans (g.parens x) d q = level_scans x (suc d) q
  post_scans (g.parens_binary x) d q = binary_scans x (suc d) q
  post_scans (g.parens_choice x) d q = choice_scans x (suc d) q
  post_scans (g.braces x) d q = braced_scans x d q
  post_scans g.call_none d q = refl
  post_scans (g.call x) d q = args_scans x d q
  post_scans (g.as_signed x) d q = expr_scans x (suc d) q
  post_scans (g.resize x y) d q = width_scans x d q ∙ expr_scans y (suc d) q
  post_scans g.pc d q = refl
  post_scans g.encoding d q = refl
  post_scans (g.register x) d q = expr_scans x (suc d) q
  post_scans g.field d q = refl
  post_scans (g.soft_read x) d q = expr_scans x (suc d) q
  post_scans (g.read_memory e x) d q = expr_scans x (suc d) q
  post_scans g.new_field d q = refl
  post_scans g.xlen d q = refl
  post_scans g.mode d q = refl
  post_scans g.implemented d q = refl
  post_scans g.implemented_version d q = refl
  post_scans (g.part x y) d q = post_scans x d q ∙ inside_scans y d q

  pub level_scans : {h k : ℕ} {ts us : List Symbol} {x : Expr} → ReadsLevel h k ts us x → (d q : ℕ) → scan d q false ts ≡ scan d q true us
  level_scans (g.post x) d q = post_scans x d q
  level_scans (g.unary {ts = ts} {c = c} e x) d q = other_is (t.sign c) (unary_class c _ e) d q false ts ∙ level_scans x d q
  level_scans (g.binary x) d q = binary_scans x d q
  level_scans (g.looser x) d q = level_scans x d q

  pub binary_scans : {h k : ℕ} {ts us : List Symbol} {x : Expr} → ReadsBinary h k ts us x → (d q : ℕ) → scan d q false ts ≡ scan d q true us
  binary_scans (g.between {us = us} {c = c} x is y) d q = level_scans x d q ∙ other_is (t.sign c) (binding_class c _ is) d q true us ∙ level_scans y d q
  binary_scans (g.widened {us = us} {c = c} x is y) d q = level_scans x d q ∙ other_is (t.sign c) (binding_class c _ is) d q true us ∙ watom_scans y d q

  pub choice_scans : {h : ℕ} {ts us : List Symbol} {x : Expr} → ReadsChoice h ts us x → (d q : ℕ) → scan d q false ts ≡ scan d q true us
  choice_scans (g.choice x y z) zero q = level_scans x zero q ∙ expr_scans y zero (suc q) ∙ expr_scans z zero q
  choice_scans (g.choice x y z) (suc d) q = level_scans x (suc d) q ∙ expr_scans y (suc d) q ∙ expr_scans z (suc d) q

  pub expr_scans : {h : ℕ} {ts us : List Symbol} {x : Expr} → ReadsExpr h ts us x → (d q : ℕ) → scan d q false ts ≡ scan d q true us
  expr_scans (g.level x) d q = level_scans x d q
  expr_scans (g.chosen x) d q = choice_scans x d q

  args_scans : {h : ℕ} {ts us : List Symbol} {xs : List Expr} → ReadsArgs h ts us xs → (d q : ℕ) → scan (suc d) q false ts ≡ scan (suc d) q true us
  args_scans (g.one x) d q = expr_scans x (suc d) q
  args_scans (g.several x y) d q = expr_scans x (suc d) q ∙ args_scans y d q

  -- behind an opening bracket
  inside_scans : {h : ℕ} {ts us : List Symbol} {x : Inside} → ReadsInside h ts us x → (d q : ℕ) → scan (suc d) q false ts ≡ scan d q true us
  inside_scans (g.at x) d q = expr_scans x (suc d) q
  inside_scans (g.from_to x y) d q = width_scans x (suc d) q ∙ width_scans y (suc d) q

  -- behind an opening brace
  braced_scans : {h : ℕ} {ts us : List Symbol} {x : Expr} → ReadsBraced h ts us x → (d q : ℕ) → scan (suc d) q false ts ≡ scan d q true us
  braced_scans (g.join x) d q = args_scans x d q
  braced_scans (g.repeat x y) d q = width_scans x (suc d) q ∙ expr_scans y (suc (suc d)) q
