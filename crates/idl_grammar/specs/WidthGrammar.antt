-- Statement: the grammar of widths, one constructor for each production: the tokens before the
-- second list read as the width. The number is the nesting: a sum, a product and a `max` count one
-- level each, and so does a pair of parentheses that isn't directly round a sum.
use Rattle.std.specs.Prelude.{◌≡◌, ℕ, suc, max, Bool, true, false, List, ◌∷◌, None, Some}
use Rattle.idl_token.specs.declared.kinds.Reserved.TheVariants as r
use Rattle.idl_token.specs.declared.kinds.Special.TheVariants as p
use Rattle.idl_token.specs.declared.kinds.Sign.{Sign}
use Rattle.idl_token.specs.declared.kinds.Sign.TheVariants as s
use Rattle.idl_tree.specs.declared.widths.Width.{Width}
use Rattle.idl_tree.specs.declared.widths.Width.TheVariants as w
use Rattle.idl_token.specs.Symbol.{Symbol}
use Rattle.idl_token.specs.Symbol as t
use Rattle.idl_grammar.specs.Tables.{summing, is_short}

mutual
  -- The flag says that it may be multiplied: that it is no sum and no `max`, in parentheses or not.
  pub data ReadsWatom : Bool → ℕ → List Symbol → List Symbol → Width → Type 0 where
    number : {k : ℕ} {us : List Symbol} → is_short k ≡ true → ReadsWatom true 0 (t.number k ∷ us) us (w.Number k)
    word : {x : List ℕ} {us : List Symbol} → ReadsWatom true 0 (t.word x ∷ us) us (w.Word x)
    bits : {x : List ℕ} {us : List Symbol} → ReadsWatom true 0 (t.special p.WidthOf ∷ t.sign s.OpenParen ∷ t.word x ∷ t.sign s.CloseParen ∷ us) us (w.Bits None x)
    field_bits : {x y : List ℕ} {us : List Symbol}
        → ReadsWatom true 0 (t.special p.WidthOf ∷ t.sign s.OpenParen ∷ t.reserved r.Csr ∷ t.sign s.OpenBracket ∷ t.word x ∷ t.sign s.CloseBracket ∷ t.sign s.Dot ∷ t.word y ∷ t.sign s.CloseParen ∷ us) us (w.Bits (Some x) y)
    greatest : {h i : ℕ} {ts us vs : List Symbol} {a b : Width} → ReadsWidth h ts (t.sign s.Comma ∷ us) a → ReadsWidth i us (t.sign s.CloseParen ∷ vs) b
        → ReadsWatom false (suc (max h i)) (t.reserved r.Max ∷ t.sign s.OpenParen ∷ ts) vs (w.Max a b)
    parens : {f : Bool} {h : ℕ} {ts us : List Symbol} {a : Width} → ReadsTerm f h ts (t.sign s.CloseParen ∷ us) a → ReadsWatom f (suc h) (t.sign s.OpenParen ∷ ts) us a
    parens_sum : {h : ℕ} {ts us : List Symbol} {a : Width} → ReadsSum h ts (t.sign s.CloseParen ∷ us) a → ReadsWatom false h (t.sign s.OpenParen ∷ ts) us a

  pub data ReadsTerm : Bool → ℕ → List Symbol → List Symbol → Width → Type 0 where
    atom : {f : Bool} {h : ℕ} {ts us : List Symbol} {a : Width} → ReadsWatom f h ts us a → ReadsTerm f h ts us a
    times : {k h : ℕ} {ts us : List Symbol} {a : Width} → is_short k ≡ true → ReadsWatom true h ts us a → ReadsTerm true (suc h) (t.number k ∷ t.sign s.Times ∷ ts) us (w.Times (w.Number k) a)
    times_number : {k h : ℕ} {ts us : List Symbol} {a : Width} → ReadsWatom true h ts (t.sign s.Times ∷ t.number k ∷ us) a → is_short k ≡ true → ReadsTerm true (suc h) ts us (w.Times a (w.Number k))

  pub data ReadsSum : ℕ → List Symbol → List Symbol → Width → Type 0 where
    sum : {h i : ℕ} {f : Bool} {ts us vs : List Symbol} {a b : Width} {c : Sign} {op : Width → Width → Width} → ReadsWidth h ts (t.sign c ∷ us) a → summing c ≡ Some op → ReadsTerm f i us vs b
        → ReadsSum (suc (max h i)) ts vs (op a b)

  pub data ReadsWidth : ℕ → List Symbol → List Symbol → Width → Type 0 where
    term : {f : Bool} {h : ℕ} {ts us : List Symbol} {a : Width} → ReadsTerm f h ts us a → ReadsWidth h ts us a
    sum_of : {h : ℕ} {ts us : List Symbol} {a : Width} → ReadsSum h ts us a → ReadsWidth h ts us a
